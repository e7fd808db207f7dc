-- What is left of the list, written where the last id ends, makes all of it.
use Rattle.values.specs.Memory.{numbers}
use Rattle.std.proofs.Common.{◌≡◌, ◌+◌, length}
use Rattle.spec.specs.Bytes.{encode_text, encode_list}
use Rattle.answer_places.specs.Code.{ids_at}
use Rattle.answers.specs.Put.{written}
use Rattle.answer_places.proofs.Lists.{bytes_from}
use Rattle.answer_places.proofs.pieces.set_ids.Given as goal

abbrev pub invariant-loop-place : goal.invariant-loop-place
invariant-loop-place l =
    (l.at + length (bytes_from (numbers l.fn.memory) l.fn.ids l.place) ≡ l.fn.start + length (encode_list encode_text (ids_at (numbers l.fn.memory) l.fn.ids)))
    × (written l.out l.at (bytes_from (numbers l.fn.memory) l.fn.ids l.place) ≡ written l.initial.out l.fn.start (encode_list encode_text (ids_at (numbers l.fn.memory) l.fn.ids)))
