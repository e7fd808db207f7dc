use Rattle.std.proofs.Common.{◌≡◌, ◌++◌, take, drop}
use Rattle.shelves.specs.Moves.{raised}
use Rattle.shelves.proofs.moving.raise.Given as goal

abbrev pub invariant-loop-x : goal.invariant-loop-x
invariant-loop-x l = l.part ≡ raised l.old l.new (take l.x-index l.initial.part) ++ drop l.x-index l.initial.part
