use Rattle.values.specs.Memory.{numbers}
use Rattle.std.proofs.Common.{ℕ, List, sym, ◌∙◌, subst}
use Rattle.std.proofs.lemmas.Result.{err_from_is_err_and}
use Rattle.values.specs.Held.{text_at, Good, Stands}
use Rattle.operators.proofs.Operands.{uid-in}
use Rattle.entities.specs.Rows.{RecordAt}
use Rattle.entities.specs.View.{known}
use Rattle.entities.proofs.Framed.{entity-in-on}
use Rattle.entities.proofs.Asked.{in_record, in_rest, in_entity, in_none, row_there, row_missing}
use Rattle.entities.proofs.env.EnvView.seek_attr.Goals as goal

pub look_up-requires : goal.look_up-requires
look_up-requires c = uid-in c.args.height (numbers c.args.self.now.memory) c.in-Entity.u (subst (Good c.args.height (numbers c.args.self.now.memory)) c.in-Entity.is c.requires.good)

pub returns-in_err-at-in-Entity : goal.returns-in_err-at-in-Entity
returns-in_err-at-in-Entity c =
    let p = err_from_is_err_and c.from_residual.result c.from_residual.ensures.1 in
    let m = c.args.self.now.memory in
    let f = row_missing m.store.now _ c.look_up.result _ _ (sym c.ok_or.ensures.value ∙ c.in_err-at-in-Entity.was) c.look_up.ensures in
    rw (p.1, p.2, ← f.1) (λ a S. in_none c.args.height m.store.now m.work.now c.in-Entity.u (known c.args.self.now) a (subst (λ v. Stands c.args.height (numbers m) v a) c.in-Entity.is S) (text_at (numbers m) c.args.name) f.0)

pub invariant_of-row : goal.invariant_of-row
invariant_of-row c =
    let m = c.args.self.now.memory in
    let f = row_there m.store.now _ c.look_up.result _ c.in_ok-at-in-Entity.at (sym c.ok_or.ensures.value ∙ c.in_ok-at-in-Entity.was) c.look_up.ensures in
    record { holds = entity-in-on m.store.now m.work.now c.in_ok-at-in-Entity.at f.1 }

pub stored_attribute-requires-clause-whole : goal.stored_attribute-requires-clause-whole
stored_attribute-requires-clause-whole c =
    let m = c.args.self.now.memory in
    let f = row_there m.store.now _ c.look_up.result _ c.in_ok-at-in-Entity.at (sym c.ok_or.ensures.value ∙ c.in_ok-at-in-Entity.was) c.look_up.ensures in
    subst (RecordAt (numbers m)) (sym c.attrs.ensures) (entity-in-on m.store.now m.work.now c.in_ok-at-in-Entity.at f.1).attrs

pub returns-in_ok-at-in-Entity : goal.returns-in_ok-at-in-Entity
returns-in_ok-at-in-Entity c a S =
    let m = c.args.self.now.memory in
    let f = row_there m.store.now _ c.look_up.result _ c.in_ok-at-in-Entity.at (sym c.ok_or.ensures.value ∙ c.in_ok-at-in-Entity.was) c.look_up.ensures in
    in_entity c.args.height m.store.now m.work.now c.in-Entity.u (known c.args.self.now) a (subst (λ v. Stands c.args.height (numbers m) v a) c.in-Entity.is S)
    c.in_ok-at-in-Entity.at c.attrs.result (text_at (numbers m) c.args.name) c.stored_attribute.result f.0 f.1 c.attrs.ensures c.stored_attribute.ensures

pub returns-in-Record : goal.returns-in-Record
returns-in-Record c a S =
    let m : List ℕ = numbers c.args.self.now.memory in
    in_record c.args.height m (text_at m c.args.name) (known c.args.self.now) c.in-Record.p a c.attribute.result (subst (λ v. Stands c.args.height m v a) c.in-Record.is S) c.attribute.ensures

pub returns-in_default : goal.returns-in_default
returns-in_default c a S =
    let m : List ℕ = numbers c.args.self.now.memory in
    in_rest c.args.height m (text_at m c.args.name) (known c.args.self.now) c.args.v a c.in_default.not-Entity c.in_default.not-Record S
