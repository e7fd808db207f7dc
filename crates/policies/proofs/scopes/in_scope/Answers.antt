use Rattle.values.specs.Memory.{numbers}
use Rattle.std.proofs.Common.{◌≡◌, ℕ, Bool, true, false, ◌&&◌, List, sym, refl, ap, ◌∙◌, subst}
use Rattle.values.specs.Held.{uid_at}
use Rattle.values.proofs.Frame.{text_in-on, uid-in-on}
use Rattle.entities.specs.Code.{in_row}
use Rattle.entities.proofs.Framed.{uids-in-on}
use Rattle.policies.specs.Stored.{ScopeIn}
use Rattle.policies.proofs.Told.{holds, scope-tells}
use Rattle.policies.proofs.scopes.in_scope.Goals as goal

pub same_uids-requires : goal.same_uids-requires
same_uids-requires c = record {
  left = c.requires.name;
  right = uid-in-on c.args.memory.now.store.now c.args.memory.now.work.now c.in-Eq.p (subst (ScopeIn c.args.memory.now.store.now) c.in-Eq.is c.requires.parts);
}

pub is_in-requires : goal.is_in-requires
is_in-requires c = record {
  left = c.requires.name;
  known = c.requires.known;
  right = uid-in-on c.args.memory.now.store.now c.args.memory.now.work.now c.in-Mem.p (subst (ScopeIn c.args.memory.now.store.now) c.in-Mem.is c.requires.parts);
}

pub same_texts-requires : goal.same_texts-requires
same_texts-requires c = record {
  left = text_in-on c.args.memory.now.store.now c.args.memory.now.work.now c.in-Is.t (subst (ScopeIn c.args.memory.now.store.now) c.in-Is.is c.requires.parts);
  right = c.requires.name.0;
}

pub same_texts-requires-in-IsMem : goal.same_texts-requires-in-IsMem
same_texts-requires-in-IsMem c = record {
  left = text_in-on c.args.memory.now.store.now c.args.memory.now.work.now c.in-IsMem.t (subst (ScopeIn c.args.memory.now.store.now) c.in-IsMem.is c.requires.parts).0;
  right = c.requires.name.0;
}

pub is_in-requires-then-same_texts : goal.is_in-requires-then-same_texts
is_in-requires-then-same_texts c = record {
  left = c.requires.name;
  known = c.requires.known;
  right = uid-in-on c.args.memory.now.store.now c.args.memory.now.work.now c.in-IsMem.p (subst (ScopeIn c.args.memory.now.store.now) c.in-IsMem.is c.requires.parts).1;
}

pub in_any-requires : goal.in_any-requires
in_any-requires c = record {
  name = c.requires.name;
  known = c.requires.known;
  names = uids-in-on c.args.memory.now.store.now c.args.memory.now.work.now c.in-InAny.n c.in-InAny.first (subst (ScopeIn c.args.memory.now.store.now) c.in-InAny.is c.requires.parts).1;
}

pub returns-in-Any : goal.returns-in-Any
returns-in-Any c =
    scope-tells c.args.memory.now.store.now c.args.memory.now.work.now c.args.subject c.args.scope true c.requires.parts (sym (ap (holds c.args.memory.now.store.now c.args.memory.now.work.now c.args.subject) c.in-Any.is))

pub returns-in-Eq : goal.returns-in-Eq
returns-in-Eq c =
    scope-tells c.args.memory.now.store.now c.args.memory.now.work.now c.args.subject c.args.scope c.same_uids.result c.requires.parts
    (c.same_uids.ensures ∙ sym (ap (holds c.args.memory.now.store.now c.args.memory.now.work.now c.args.subject) c.in-Eq.is))

pub returns-in-Mem : goal.returns-in-Mem
returns-in-Mem c =
    scope-tells c.args.memory.now.store.now c.args.memory.now.work.now c.args.subject c.args.scope c.is_in.result c.requires.parts
    (c.is_in.ensures ∙ sym (ap (holds c.args.memory.now.store.now c.args.memory.now.work.now c.args.subject) c.in-Mem.is))

pub returns-in-Is : goal.returns-in-Is
returns-in-Is c =
    scope-tells c.args.memory.now.store.now c.args.memory.now.work.now c.args.subject c.args.scope c.same_texts.result c.requires.parts
    (c.same_texts.ensures ∙ sym (ap (holds c.args.memory.now.store.now c.args.memory.now.work.now c.args.subject) c.in-Is.is))

-- where the first is false, so are both
both-false : (b x : Bool) → b ≡ false → b ≡ (b && x)
both-false false x h = refl
both-false true x h = cc

pub returns-else-same_texts : goal.returns-else-same_texts
returns-else-same_texts c =
    let inside = in_row (numbers c.args.memory.now) c.args.subject.uid c.args.subject.row (uid_at (numbers c.args.memory.now) c.in-IsMem.p) in
    scope-tells c.args.memory.now.store.now c.args.memory.now.work.now c.args.subject c.args.scope c.same_texts-in-IsMem.result c.requires.parts
    (both-false c.same_texts-in-IsMem.result inside c.if-same_texts.false
    ∙ ap (λ b. b && inside) c.same_texts-in-IsMem.ensures
    ∙ sym (ap (holds c.args.memory.now.store.now c.args.memory.now.work.now c.args.subject) c.in-IsMem.is))

pub returns-then-same_texts : goal.returns-then-same_texts
returns-then-same_texts c =
    let m : List ℕ = numbers c.args.memory.now in
    scope-tells c.args.memory.now.store.now c.args.memory.now.work.now c.args.subject c.args.scope c.is_in-then-same_texts.result c.requires.parts
    (c.is_in-then-same_texts.ensures ∙ ap (λ b. b && in_row m c.args.subject.uid c.args.subject.row (uid_at m c.in-IsMem.p)) c.if-same_texts.ensures
    ∙ sym (ap (holds c.args.memory.now.store.now c.args.memory.now.work.now c.args.subject) c.in-IsMem.is))

pub returns-in-InAny : goal.returns-in-InAny
returns-in-InAny c =
    scope-tells c.args.memory.now.store.now c.args.memory.now.work.now c.args.subject c.args.scope c.in_any.result c.requires.parts
    (c.in_any.ensures ∙ sym (ap (holds c.args.memory.now.store.now c.args.memory.now.work.now c.args.subject) c.in-InAny.is))
