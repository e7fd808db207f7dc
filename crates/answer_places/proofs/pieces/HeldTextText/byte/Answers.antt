-- What an id holds are bytes.
use Rattle.std.proofs.Common.{ℕ, ◌<◌, List, get_or, arith, rules}
use Rattle.values.specs.Held.{text_at}
use Rattle.values.specs.Memory.{numbers}
use Rattle.values.proofs.Parts.{long}
use Rattle.answer_places.proofs.Lists.{byte_at, small_at}
use Rattle.answer_places.proofs.pieces.HeldTextText.byte.Goals as goal

pub overflow_cast-result : goal.overflow_cast-result
overflow_cast-result c =
    let m : List ℕ = numbers c.args.self.now.memory in
    let id = c.args.self.now.id in
    let i = c.args.i in
    let within : i < get_or m id 0 = omega (arith, long m id c.requires.there.within) in
    let byte = byte_at m id i within in
    let small : get_or (text_at m id) i 0 < 256 = small_at 256 (text_at m id) i c.requires.there.bytes c.requires.within in
    let value : c.word.result < 256 = omega (arith, c.word.ensures) in
    search rules
