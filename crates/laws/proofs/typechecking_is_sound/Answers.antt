use Rattle.laws.proofs.Validation.{typechecking-is-sound}
use Rattle.laws.proofs.typechecking_is_sound.Goals as goal

pub returns : goal.returns
returns c = typechecking-is-sound
