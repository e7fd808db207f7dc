use Rattle.std.proofs.Common.{ℕ, ◌+◌, ◌-◌, Bool, List}
use Rattle.values.specs.Held.{text_at}
use Rattle.types.specs.Held.{is_stored, place_of, count_at}
use Rattle.types.proofs.Finds.{Looking}
use Rattle.types.proofs.attributes.attribute.Given as goal

abbrev pub invariant-loop : goal.invariant-loop
invariant-loop l =
    let m : List ℕ = l.memory.store.now in
    let w : List ℕ = l.memory.work.now in
    let b : Bool = is_stored l.place in
    Looking m w b (text_at m l.name) (count_at b m w (place_of l.place)) (place_of l.place + 1) (l.n - l.counter) l.e
