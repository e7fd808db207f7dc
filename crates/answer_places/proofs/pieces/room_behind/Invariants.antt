-- What is left is room for what is left of the list.
use Rattle.values.specs.Memory.{numbers}
use Rattle.std.proofs.Common.{◌≡◌, ◌+◌, length}
use Rattle.spec.specs.Bytes.{encode_text, encode_list}
use Rattle.answer_places.specs.Code.{ids_at}
use Rattle.answer_places.proofs.Lists.{bytes_from}
use Rattle.answer_places.proofs.pieces.room_behind.Given as goal

abbrev pub invariant-loop-place : goal.invariant-loop-place
invariant-loop-place l =
    l.left + length (encode_list encode_text (ids_at (numbers l.fn.memory) l.fn.ids)) ≡ l.fn.room + length (bytes_from (numbers l.fn.memory) l.fn.ids l.place)
