use Rattle.values.specs.Memory.{numbers}
use Rattle.std.proofs.Common.{ℕ, List, sym, ap, ◌∙◌, subst, ap₂}
use Rattle.std.proofs.lemmas.Result.{err_from_is_err_and}
use Rattle.spec.specs.Basics.{ok, ◌>>=◌, or_error, lookup}
use Rattle.spec.specs.Values as s
use Rattle.spec.specs.Values.{fields, find_entity}
use Rattle.spec.specs.Evaluate.{entity_does_not_exist, as_string}
use Rattle.values.specs.Held.{Good, Stands}
use Rattle.operators.proofs.Operands.{uid-in, text_in, is-entity, no-entity, no-string}
use Rattle.entities.specs.Rows.{RecordAt}
use Rattle.entities.specs.View.{known}
use Rattle.entities.proofs.Framed.{entity-in-on}
use Rattle.entities.proofs.Asked.{tag-in_entity, tag-in_none, row_there, row_missing}
use Rattle.entities.proofs.env.EnvView.seek_tag.Goals as goal

pub look_up-requires : goal.look_up-requires
look_up-requires c = uid-in c.args.height (numbers c.args.self.now.memory) c.in-Entity.u (subst (Good c.args.height (numbers c.args.self.now.memory)) c.in-Entity.is c.requires.left)

pub returns-in_default : goal.returns-in_default
returns-in_default c a b S T =
    let m : List ℕ = numbers c.args.self.now.memory in
    let es : s.Entities = known c.args.self.now in
    ap (λ x. x >>= (λ u. as_string b >>= (λ t. or_error (find_entity u es) entity_does_not_exist >>= (λ e. ok (lookup t (fields e.tags)))))) (no-entity c.args.height m c.args.v a c.in_default.not-Entity S)

pub returns-in_default-w : goal.returns-in_default-w
returns-in_default-w c a b S T =
    let m : List ℕ = numbers c.args.self.now.memory in
    let es : s.Entities = known c.args.self.now in
    ap₂ (λ x y. x >>= (λ u. y >>= (λ t. or_error (find_entity u es) entity_does_not_exist >>= (λ e. ok (lookup t (fields e.tags)))))) (is-entity c.args.height m c.in-Entity.u a (subst (λ v. Stands c.args.height m v a) c.in-Entity.is S)) (no-string c.args.height m c.args.w b c.in_default-w.not-String T)

pub returns-in_err-at : goal.returns-in_err-at
returns-in_err-at c =
    let p = err_from_is_err_and c.from_residual.result c.from_residual.ensures.1 in
    let m = c.args.self.now.memory in
    let f = row_missing m.store.now _ c.look_up.result _ _ (sym c.ok_or.ensures.value ∙ c.in_err-at.was) c.look_up.ensures in
    rw (p.1, p.2, ← f.1) (λ a b S T.
    tag-in_none c.args.height m.store.now m.work.now c.in-Entity.u (known c.args.self.now) a (subst (λ v. Stands c.args.height (numbers m) v a) c.in-Entity.is S) c.in-String.name b (subst (λ v. Stands c.args.height (numbers m) v b) c.in-String.is T) f.0)

pub invariant_of-row : goal.invariant_of-row
invariant_of-row c =
    let m = c.args.self.now.memory in
    let f = row_there m.store.now _ c.look_up.result _ c.in_ok-at.at (sym c.ok_or.ensures.value ∙ c.in_ok-at.was) c.look_up.ensures in
    record { holds = entity-in-on m.store.now m.work.now c.in_ok-at.at f.1 }

pub stored_attribute-requires-clause-whole : goal.stored_attribute-requires-clause-whole
stored_attribute-requires-clause-whole c =
    let m = c.args.self.now.memory in
    let f = row_there m.store.now _ c.look_up.result _ c.in_ok-at.at (sym c.ok_or.ensures.value ∙ c.in_ok-at.was) c.look_up.ensures in
    subst (RecordAt (numbers m)) (sym c.tags.ensures) (entity-in-on m.store.now m.work.now c.in_ok-at.at f.1).tags

pub stored_attribute-requires-clause-text : goal.stored_attribute-requires-clause-text
stored_attribute-requires-clause-text c =
    let m : List ℕ = numbers c.args.self.now.memory in
    text_in c.args.height m c.in-String.name (subst (Good c.args.height m) c.in-String.is c.requires.right)

pub returns : goal.returns
returns c a b S T =
    let m = c.args.self.now.memory in
    let f = row_there m.store.now _ c.look_up.result _ c.in_ok-at.at (sym c.ok_or.ensures.value ∙ c.in_ok-at.was) c.look_up.ensures in
    tag-in_entity c.args.height m.store.now m.work.now c.in-Entity.u (known c.args.self.now) a (subst (λ v. Stands c.args.height (numbers m) v a) c.in-Entity.is S) c.in-String.name b (subst (λ v. Stands c.args.height (numbers m) v b) c.in-String.is T)
    c.in_ok-at.at c.tags.result c.stored_attribute.result f.0 f.1 c.tags.ensures c.stored_attribute.ensures
