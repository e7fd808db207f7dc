use Rattle.std.proofs.Common.{◌≡◌, ◌&&◌, eqb, [], ◌∷◌, refl, ap, ◌∙◌}
use lib.Pointwise.{pointwise}
use Rattle.spec.specs.Basics.{Text, same}
use Rattle.reader.proofs.order.is_same.Goals as goal

-- both go byte by byte
by_bytes : (t u : Text) → pointwise eqb t u ≡ same t u
unfolding same
by_bytes [] [] = refl
by_bytes [] (y ∷ u) = refl
by_bytes (x ∷ t) [] = refl
by_bytes (x ∷ t) (y ∷ u) = ap (λ b. eqb x y && b) (by_bytes t u)

pub returns : goal.returns
returns c = c.eq.ensures ∙ by_bytes c.args.a.now c.args.b.now
