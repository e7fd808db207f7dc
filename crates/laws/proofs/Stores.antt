-- What is always so of a store: order, each key once, canonical values, and a size within the capacity.
use Rattle.std.proofs.Common.{◌≡◌, ℕ, ◌+◌, ◌≤◌, Bool, true, false, cond, ◌&&◌, List, [], ◌∷◌, sym, refl, ◌∙◌, inl, inr, arith}
use mathlib.Core.Option.{Option, some, none}
use Rattle.std.proofs.lemmas.Bool.{and_parts, and_from, leb-true}
use Rattle.spec.specs.Basics.{all, Text, same, less, insert, remove, ascending}
use Rattle.spec.specs.Values.{entity_key, code_uid}
use Rattle.spec.specs.Policies.{policy_key}
use Rattle.spec.specs.Validate.{well_formed}
use Rattle.spec.specs.Calls.{Call, set_schema, put_policy, remove_policy, put_entity, remove_entity, validate_policies, authorize, malformed, Limits, Store, sum_of, size_policy, size_entity, size_store, changed, Refusal, inadmissible, schema_not_well_formed, over_capacity, admissible, fits, unless, refused_by, supported, refusal, after_by, after_call, store_after}
use Rattle.spec.specs.Promises.{Among, DifferentIds, Ordered, StoreStaysOrdered}
use Rattle.laws.proofs.Texts.{false-true, none-some, same_true, same_refl, less-not}
use Rattle.laws.proofs.Found.{all-at, all_from, among-insert}
use Rattle.laws.proofs.Keyed.{Before, Sorted, ascending-sorted, sorted-ascending, sorted_insert, sorted-remove}

module _ {A : Type 0} (key : A → Text) where
  pub ascending-insert : (a : A) (bs : List A) → ascending key bs ≡ true → ascending key (insert key a bs) ≡ true
  ascending-insert a bs h = sorted-ascending key _ (sorted_insert key a bs (ascending-sorted key bs h))

  pub ascending-remove : (t : Text) (bs : List A) → ascending key bs ≡ true → ascending key (remove key t bs) ≡ true
  ascending-remove t bs h = sorted-ascending key _ (sorted-remove key t bs (ascending-sorted key bs h))

  all_insert : (f : A → Bool) (a : A) (bs : List A) → f a ≡ true → all f bs ≡ true → all f (insert key a bs) ≡ true
  all_insert f a bs h k = all_from f _ (λ x m. elim (among-insert key x a bs m) [ inl e ↦ rw e h | inr n ↦ all-at f x bs k n ])

  all_remove : (f : A → Bool) (t : Text) (bs : List A) → all f bs ≡ true → all f (remove key t bs) ≡ true
  unfolding remove
  all_remove f t [] k = refl
  all_remove f t (b ∷ bs) k = let p = and_parts (f b) (all f bs) k in go (same t (key b)) p.0 p.1 (all_remove f t bs p.1)
    where
      go : (x : Bool) → f b ≡ true → all f bs ≡ true → all f (remove key t bs) ≡ true → all f (cond x bs (b ∷ remove key t bs)) ≡ true
      go true hb hs ih = hs
      go false hb hs ih = and_from _ _ hb ih

  pub sum-remove : (f : A → ℕ) (t : Text) (bs : List A) → sum_of f (remove key t bs) ≤ sum_of f bs
  unfolding remove
  sum-remove f t [] = omega arith
  sum-remove f t (b ∷ bs) = go (same t (key b)) (sum-remove f t bs)
    where
      go : (x : Bool) → sum_of f (remove key t bs) ≤ sum_of f bs → sum_of f (cond x bs (b ∷ remove key t bs)) ≤ f b + sum_of f bs
      go true ih = omega arith
      go false ih = omega arith

  -- what has one key is one thing
  before-among : (t : Text) (y : A) (bs : List A) → Before key t bs → Among y bs → less t (key y) ≡ true
  before-among t y [] b a = absurd a
  before-among t y (x ∷ bs) b (inl e) = rw e b.0
  before-among t y (x ∷ bs) b (inr a) = before-among t y bs b.1 a

  not_same : {B : Type 0} (s t : Text) → less s t ≡ true → same s t ≡ true → B
  not_same s t h k = false-true (sym (less-not s t h) ∙ k)

  pub one_key : (bs : List A) → Sorted key bs → (x y : A) → Among x bs → Among y bs → same (key x) (key y) ≡ true → x ≡ y
  one_key [] s x y a b e = absurd a
  one_key (z ∷ bs) s x y (inl p) (inl q) e = p ∙ sym q
  one_key (z ∷ bs) s x y (inl p) (inr b) e = not_same (key x) (key y) (rw p (before-among (key z) y bs s.0 b)) e
  one_key (z ∷ bs) s x y (inr a) (inl q) e = not_same (key y) (key x) (rw q (before-among (key z) x bs s.0 a)) (rw (same_true (key x) (key y) e) (same_refl (key y)))
  one_key (z ∷ bs) s x y (inr a) (inr b) e = one_key bs s.1 x y a b e

-- a call that is taken is admissible, and nothing of the store speaks against it
taken_is : (l : Limits) (s : Store) (c : Call) → refusal l s c ≡ none → (admissible c ≡ true) × (refused_by l s c ≡ none)
unfolding refusal
taken_is l s c h = go (supported l c) (admissible c) h
  where
    go : (a b : Bool) → cond (a && b) (refused_by l s c) (some inadmissible) ≡ none → (b ≡ true) × (refused_by l s c ≡ none)
    go true true k = (refl, k)
    go true false k = none-some (sym k)
    go false b k = none-some (sym k)

unless-none : (b : Bool) (r : Refusal) → unless b r ≡ none → b ≡ true
unless-none true r h = refl
unless-none false r h = none-some (sym h)

schema-none : (b c : Bool) → cond b (unless c over_capacity) (some schema_not_well_formed) ≡ none → (b ≡ true) × (c ≡ true)
schema-none true c h = (refl, unless-none c over_capacity h)
schema-none false c h = none-some (sym h)

fits-is : (l : Limits) (s : Store) → fits l s ≡ true → size_store s ≤ l.capacity
fits-is l s h = leb-true (size_store s) l.capacity h

ids-differ : (s : Store) → ascending policy_key s.policies ≡ true → DifferentIds s.policies
ids-differ s h = one_key policy_key s.policies (ascending-sorted policy_key s.policies h)

change-keeps : (l : Limits) (s : Store) (c : Call) → Ordered l s → admissible c ≡ true → refused_by l s c ≡ none → Ordered l (changed s c)
change-keeps l s (set_schema d) o a n =
    let p = schema-none (well_formed d) (fits l (changed s (set_schema d))) n in
    record { schema = p.0; policies = o.policies; ids = o.ids; entities = o.entities; admitted = o.admitted; fits = fits-is l (changed s (set_schema d)) p.1 }
change-keeps l s (put_policy p) o a n =
    let h = ascending-insert policy_key p s.policies o.policies in
    record { schema = o.schema; policies = h; ids = ids-differ (changed s (put_policy p)) h; entities = o.entities; admitted = o.admitted; fits = fits-is l (changed s (put_policy p)) (unless-none _ over_capacity n) }
change-keeps l s (remove_policy t) o a n =
    let h = ascending-remove policy_key t s.policies o.policies in
    let m = sum-remove policy_key size_policy t s.policies in
    let k = o.fits in
    record { schema = o.schema; policies = h; ids = ids-differ (changed s (remove_policy t)) h; entities = o.entities; admitted = o.admitted; fits = omega (arith, m, k) }
change-keeps l s (put_entity e) o a n =
    record { schema = o.schema; policies = o.policies; ids = o.ids; entities = ascending-insert entity_key e s.entities o.entities; admitted = all_insert entity_key _ e s.entities a o.admitted; fits = fits-is l (changed s (put_entity e)) (unless-none _ over_capacity n) }
change-keeps l s (remove_entity u) o a n =
    let m = sum-remove entity_key size_entity (code_uid u) s.entities in
    let k = o.fits in
    record { schema = o.schema; policies = o.policies; ids = o.ids; entities = ascending-remove entity_key (code_uid u) s.entities o.entities; admitted = all_remove entity_key _ (code_uid u) s.entities o.admitted; fits = omega (arith, m, k) }
change-keeps l s validate_policies o a n = o
change-keeps l s (authorize q) o a n = o
change-keeps l s (malformed k) o a n = o

step_keeps : (l : Limits) (s : Store) (c : Call) → Ordered l s → Ordered l (after_call l s c)
step_keeps l s c o = go (refusal l s c) refl
  where
    go : (r : Option Refusal) → refusal l s c ≡ r → Ordered l (after_by r s c)
    go (some r) e = o
    go none e = let p = taken_is l s c e in change-keeps l s c o p.0 p.1

pub store-stays-ordered : StoreStaysOrdered
unfolding ascending
store-stays-ordered l [] = record { schema = refl; policies = refl; ids = λ x y a b e. absurd a; entities = refl; admitted = refl; fits = omega arith }
store-stays-ordered l (c ∷ cs) = step_keeps l (store_after l cs) c (store-stays-ordered l cs)
