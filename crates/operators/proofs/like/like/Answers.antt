use Rattle.values.specs.Memory.{numbers}
use Rattle.std.proofs.Common.{ℕ, List, sym, ap, ◌∙◌, subst}
use Rattle.spec.specs.Basics.{ok, ◌>>=◌}
use Rattle.spec.specs.Evaluate.{of_bool, as_string, matches}
use Rattle.values.specs.Held.{text_at, Good, Stands}
use Rattle.operators.proofs.Operands.{is-string, no-string, text_in, says-bool}
use Rattle.operators.proofs.like.like.Goals as goal

pub matched-requires : goal.matched-requires
matched-requires c =
    let m : List ℕ = numbers c.args.memory.now in
    record { left = c.requires.whole; right = text_in c.args.height m c.in-String.q (subst (Good c.args.height m) c.in-String.is c.requires.good) }

pub returns : goal.returns
returns c a s =
    let m : List ℕ = numbers c.args.memory.now in
    let h : ℕ = c.args.height in
    says-bool h m c.args.v c.matched.result (as_string a >>= (λ t. ok (of_bool (matches (text_at m c.args.pattern) t)))) s.good
    (ap (λ o. o >>= (λ t. ok (of_bool (matches (text_at m c.args.pattern) t)))) (is-string h m c.in-String.q a (subst (λ v. Stands h m v a) c.in-String.is s))
    ∙ ap (λ x. ok (of_bool x)) (sym c.matched.ensures))

pub returns-in_default : goal.returns-in_default
returns-in_default c a s =
    let m : List ℕ = numbers c.args.memory.now in
    ap (λ o. o >>= (λ t. ok (of_bool (matches (text_at m c.args.pattern) t)))) (no-string c.args.height m c.args.v a c.in_default.not-String s)
