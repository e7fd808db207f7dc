use Rattle.std.proofs.Common.{[], ◌∷◌, refl, ap, ◌∙◌}
use Rattle.copy.specs.Writing.{written}
use Rattle.copy.proofs.Writes.{written_one}
use Rattle.copy.proofs.leaves.byte.Goals as goal

pub returns : goal.returns
returns c =
    record { writes = written_one c.args.rows.now c.args.from.to _ c.requires.room ∙ ap (λ b. written c.args.rows.now c.args.from.to (b ∷ [])) c.from.ensures; ends = refl; goes = refl }
