-- The numbers of a memory by their places: those of the store, and behind them those of the work memory.
use Rattle.std.specs.Prelude.{ℕ, List, ◌++◌}
use Rattle.values.specs.declared.memory.Memory.{Memory}

abbrev pub numbers : Memory → List ℕ
numbers m = m.store.now ++ m.work.now
