use Rattle.laws.proofs.Validation.{validation-is-sound}
use Rattle.laws.proofs.validation_is_sound.Goals as goal

pub returns : goal.returns
returns c = validation-is-sound
