-- Why there is no line, in words.
use Rattle.std.specs.Prelude.{ℕ, List, codes}
use Rattle.lines.specs.declared.failures.LineError.{LineError}
use Rattle.lines.specs.declared.failures.LineError.TheVariants.{OutOfMemory, NotAnAnswer}

abbrev pub failure_text : LineError → List ℕ
failure_text OutOfMemory = codes "out of memory"
failure_text NotAnAnswer = codes "the bytes are no answer"
