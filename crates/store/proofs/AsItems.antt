-- Trees as items: their keys, their bounds, and that a call changes both alike.
use Rattle.std.proofs.Common.{◌≡◌, ℕ, ◌≤◌, List, [], ◌∷◌, ◌++◌, map, length, sym, refl, ap, arith}
use Rattle.std.proofs.lemmas.List.{take_at}
use Rattle.spec.specs.Basics.{Text}
use Rattle.spec.specs.Values.{EntityUID, Entity, code_text, code_uid, entity_key}
use Rattle.spec.specs.Policies.{Scope, any, eq, mem, is, is_mem, Policy, policy_key}
use Rattle.spec.specs.Calls.{sum_of, size_scope, size_policy, size_entity}
use Rattle.rows.proofs.Bounds.{rows-are-bounded}
use Rattle.values.specs.Held.{text_at, TextIn, uid_at, UIDIn}
use Rattle.values.proofs.Placed.{lies, text-lies, uid-lies}
use Rattle.shelves.specs.Items.{Item, id_key, uid_key}
use Rattle.shelves.proofs.Carried.{carried}
use Rattle.store.specs.Changes.{with_policies, with_entities}
use Rattle.store.specs.Trees.{policy_item, entity_item, sections_of, TreesAreItems}

-- a text or a name at the begin of a row
begins-text : (t : Text) (rest : List ℕ) → TextIn (code_text t ++ rest) 0 × (text_at (code_text t ++ rest) 0 ≡ t)
begins-text t rest = text-lies (code_text t ++ rest) 0 t (lies (code_text t ++ rest) 0 (code_text t) (take_at (code_text t) rest (length (code_text t)) refl))

begins-uid : (u : EntityUID) (rest : List ℕ) → UIDIn (code_uid u ++ rest) 0 × (uid_at (code_uid u ++ rest) 0 ≡ u)
begins-uid u rest = uid-lies (code_uid u ++ rest) 0 u (lies (code_uid u ++ rest) 0 (code_uid u) (take_at (code_uid u) rest (length (code_uid u)) refl))

policy-key : (p : Policy) → id_key (policy_item p) ≡ policy_key p
policy-key p = (begins-text p.id _).1

entity-key : (e : Entity) → uid_key (entity_item e) ≡ entity_key e
entity-key e = ap code_uid (begins-uid e.uid _).1

sum-map : {A : Type 0} (f : A → Item) (size : A → ℕ) → ((a : A) → (f a).size ≡ size a) → (xs : List A) → sum_of (λ (i : Item). i.size) (map f xs) ≡ sum_of size xs
sum-map f size e [] = refl
sum-map f size e (x ∷ xs) = omega (arith, e x, sum-map f size e xs)

-- a scope has some size
scope-size : (s : Scope) → 1 ≤ size_scope s
scope-size any = omega arith
scope-size (eq u) = omega arith
scope-size (mem u) = omega arith
scope-size (is t) = omega arith
scope-size (is_mem t u) = omega arith

pub trees-are-items : TreesAreItems
trees-are-items = record {
  policy-kept = λ p. record { key = (begins-text p.id _).0; bounded = rows-are-bounded.0 p; least = omega (arith, scope-size p.principal_scope) };
  policy-key = policy-key;
  entity-kept = λ e. record { key = (begins-uid e.uid _).0; bounded = rows-are-bounded.1 e; least = omega arith };
  entity-key = entity-key;
  schema-bounded = rows-are-bounded.2;
  policy-found = (carried policy_key id_key policy_item policy-key).2;
  entity-found = (carried entity_key uid_key entity_item entity-key).2;
  size_is = λ c u k s. (let a = sum-map policy_item size_policy (λ p. refl) s.policies in let b = sum-map entity_item size_entity (λ e. refl) s.entities in omega arith);
  begins = λ c. refl;
  schema-set = λ c u k s d. refl;
  policy-put = λ c u k s p. ap (λ ps. with_policies ps (sections_of c s u k)) (sym ((carried policy_key id_key policy_item policy-key).0 p s.policies));
  policy-removed = λ c u k s t. ap (λ ps. with_policies ps (sections_of c s u k)) (sym ((carried policy_key id_key policy_item policy-key).1 t s.policies));
  entity-put = λ c u k s e. ap (λ es. with_entities es (sections_of c s u k)) (sym ((carried entity_key uid_key entity_item entity-key).0 e s.entities));
  entity-removed = λ c u k s n. ap (λ es. with_entities es (sections_of c s u k)) (sym ((carried entity_key uid_key entity_item entity-key).1 (code_uid n) s.entities));
}
