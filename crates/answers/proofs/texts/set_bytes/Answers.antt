-- Two lists with the same number at each index are one.
use Rattle.std.proofs.Common.{arith}
use Rattle.std.proofs.lemmas.List.{ext_get_or}
use Rattle.answers.proofs.texts.set_bytes.Goals as goal

pub returns : goal.returns
returns g c = ext_get_or 0 _ _ (omega (arith, c.requires.room)) (λ k h. c.loop-i.invariant k (omega arith))
