use Rattle.values.specs.Memory.{numbers}
use Rattle.std.proofs.Common.{ℕ, List, sym, ap, ◌∙◌, subst}
use Rattle.spec.specs.Basics.{ok, same, ◌>>=◌}
use Rattle.spec.specs.Evaluate.{of_bool, as_entity_uid}
use Rattle.values.specs.Held.{text_at, Good, Stands}
use Rattle.operators.proofs.Operands.{is-entity, no-entity, uid-in, says-bool}
use Rattle.operators.proofs.logic.is.Goals as goal

pub same_texts-requires : goal.same_texts-requires
same_texts-requires c =
    let m : List ℕ = numbers c.args.memory.now in
    record { left = c.requires.name; right = (uid-in c.args.height m c.in-Entity.p (subst (Good c.args.height m) c.in-Entity.is c.requires.good)).0 }

pub returns : goal.returns
returns c a s =
    let m : List ℕ = numbers c.args.memory.now in
    let h : ℕ = c.args.height in
    says-bool h m c.args.v c.same_texts.result (as_entity_uid a >>= (λ u. ok (of_bool (same (text_at m c.args.ty) u.ty)))) s.good
    (ap (λ o. o >>= (λ u. ok (of_bool (same (text_at m c.args.ty) u.ty)))) (is-entity h m c.in-Entity.p a (subst (λ v. Stands h m v a) c.in-Entity.is s))
    ∙ ap (λ x. ok (of_bool x)) (sym c.same_texts.ensures))

pub returns-in_default : goal.returns-in_default
returns-in_default c a s =
    let m : List ℕ = numbers c.args.memory.now in
    ap (λ o. o >>= (λ u. ok (of_bool (same (text_at m c.args.ty) u.ty)))) (no-entity c.args.height m c.args.v a c.in_default.not-Entity s)
