-- What is allowed: just if some permit holds and no forbid; in whatever order policies stand; what one more can do; and what is told as reasons and errors.
use Rattle.std.proofs.Common.{◌≡◌, Bool, true, false, cond, not, ◌&&◌, ◌||◌, List, ◌∷◌, sym, refl, ap, ◌∙◌, arith}
use Rattle.std.proofs.lemmas.Bool.{and_parts, and_from, and_left, and_right, not_from_true}
use Rattle.spec.specs.Basics.{Except, ok, error, Text, same}
use Rattle.spec.specs.Values.{Value, Entities, Request}
use Rattle.spec.specs.Evaluate.{Error}
use Rattle.spec.specs.Policies.{Effect, permit, forbid, Policy, Policies, is_true, is_error, satisfied, has_error, same_effect, satisfied_with_effect, ids_where, satisfied_policies, error_policies, Decision, allow, deny, Response, is_authorized}
use Rattle.spec.specs.Promises.{Among, is_allow, some_satisfied, DifferentIds, deciding_effect, has_text, all_texts, AllowedJustIf, ForbidOverridesPermit, AllowedOnlyIfPermitted, DenyByDefault, OrderAndDuplicatesDontMatter, OneMorePolicy, ReasonsAndErrors, OnlyPoliciesAreNamed}
use Rattle.laws.proofs.Texts.{false-true, same_true, same_refl, bool_same}
use Rattle.laws.proofs.Found.{any_at, any-from}
use Rattle.laws.proofs.Ids.{has-id, no-ids, same-ids, more-ids}

-- ---- 1. allowed just if
-- the answer once it is known whether all is well
abbrev response : Bool → List Text → List Text → List Text → Response
response b permits forbids errors =
    cond b
    (record { decision = allow; determining_policies = permits; erroring_policies = errors })
    (record { decision = deny; determining_policies = forbids; erroring_policies = errors })

response-allow : (b : Bool) (xs ys zs : List Text) → is_allow (response b xs ys zs).decision ≡ b
response-allow true xs ys zs = refl
response-allow false xs ys zs = refl

allow-is : (d : Decision) → is_allow d ≡ true → d ≡ allow
allow-is allow h = refl
allow-is deny h = false-true h

deny-is : (d : Decision) → is_allow d ≡ false → d ≡ deny
deny-is allow h = false-true (sym h)
deny-is deny h = refl

turned : (p f : Bool) → (not f && not (not p)) ≡ (p && not f)
turned p f = grind arith

pub allowed-just-if : AllowedJustIf
unfolding is_authorized
allowed-just-if q es ps =
    response-allow _ (satisfied_policies permit ps q es) (satisfied_policies forbid ps q es) (error_policies ps q es)
    ∙ rw (no-ids (satisfied_with_effect permit q es) ps, no-ids (satisfied_with_effect forbid q es) ps) (turned (some_satisfied permit ps q es) (some_satisfied forbid ps q es))

pub forbid-overrides-permit : ForbidOverridesPermit
forbid-overrides-permit q es ps h = deny-is _ (allowed-just-if q es ps ∙ and_right _ _ (not_from_true _ h))

pub allowed-only-if-permitted : AllowedOnlyIfPermitted
allowed-only-if-permitted q es ps h = (and_parts _ _ (sym (allowed-just-if q es ps) ∙ ap is_allow h)).0

pub deny-by-default : DenyByDefault
deny-by-default q es ps h = deny-is _ (allowed-just-if q es ps ∙ and_left _ _ h)

-- ---- 2. order and duplicates
pub order-and-duplicates-dont-matter : OrderAndDuplicatesDontMatter
unfolding is_authorized
order-and-duplicates-dont-matter q es xs ys to back =
    rw (same-ids (satisfied_with_effect permit q es) xs ys to back, same-ids (satisfied_with_effect forbid q es) xs ys to back, same-ids (λ p. has_error p q es) xs ys to back)

-- ---- 3. one policy more
permit-more : (f : Effect) (s a b : Bool) → f ≡ permit → (a && not b) ≡ true → (((same_effect f permit && s) || a) && not ((same_effect f forbid && s) || b)) ≡ true
permit-more f s a b e h = rw e (grind arith)

forbid-more : (f : Effect) (s a b : Bool) → f ≡ forbid → (a && not b) ≡ false → (((same_effect f permit && s) || a) && not ((same_effect f forbid && s) || b)) ≡ false
forbid-more f s a b e h = rw e (grind arith)

-- if the decision stays
stay : (b c : Bool) (xs ys zs xs' ys' zs' : List Text) → (response c xs' ys' zs').decision ≡ (response b xs ys zs).decision → all_texts xs xs' ≡ true → all_texts ys ys' ≡ true →
    all_texts (response b xs ys zs).determining_policies (response c xs' ys' zs').determining_policies ≡ true
stay true true xs ys zs xs' ys' zs' e h k = h
stay true false xs ys zs xs' ys' zs' e h k = false-true (ap is_allow e)
stay false true xs ys zs xs' ys' zs' e h k = false-true (sym (ap is_allow e))
stay false false xs ys zs xs' ys' zs' e h k = k

response-errors : (b : Bool) (xs ys zs : List Text) → (response b xs ys zs).erroring_policies ≡ zs
response-errors true xs ys zs = refl
response-errors false xs ys zs = refl

errors-are : (q : Request) (es : Entities) (ps : Policies) → (is_authorized q es ps).erroring_policies ≡ error_policies ps q es
unfolding is_authorized
errors-are q es ps = response-errors _ (satisfied_policies permit ps q es) (satisfied_policies forbid ps q es) (error_policies ps q es)

pub one-more-policy : OneMorePolicy
unfolding is_authorized
one-more-policy q es p ps = (
  (λ e h. allow-is _ (allowed-just-if q es (p ∷ ps) ∙ permit-more p.effect (satisfied p q es) (some_satisfied permit ps q es) (some_satisfied forbid ps q es) e (sym (allowed-just-if q es ps) ∙ ap is_allow h))),
  (λ e h. deny-is _ (allowed-just-if q es (p ∷ ps) ∙ forbid-more p.effect (satisfied p q es) (some_satisfied permit ps q es) (some_satisfied forbid ps q es) e (sym (allowed-just-if q es ps) ∙ ap is_allow h))),
  (λ e. stay _ _ (satisfied_policies permit ps q es) (satisfied_policies forbid ps q es) (error_policies ps q es) (satisfied_policies permit (p ∷ ps) q es) (satisfied_policies forbid (p ∷ ps) q es) (error_policies (p ∷ ps) q es) e
      (more-ids (satisfied_with_effect permit q es) p ps) (more-ids (satisfied_with_effect forbid q es) p ps)),
  rw (errors-are q es ps, errors-are q es (p ∷ ps)) (more-ids (λ x. has_error x q es) p ps),
)

-- ---- 4. reasons and errors
-- if ids differ, the id of a policy is told just if the test holds of it
own-id : (f : Policy → Bool) (p : Policy) (ps : Policies) → DifferentIds ps → Among p ps → has_text p.id (ids_where f ps) ≡ f p
own-id f p ps d a =
    has-id f p.id ps ∙ bool_same _ _ (λ h. there (any_at (λ x. f x && same p.id x.id) ps h)) (λ h. any-from (λ x. f x && same p.id x.id) p ps a (and_from _ _ h (same_refl p.id)))
  where
    there : (x : Policy) × Among x ps × ((f x && same p.id x.id) ≡ true) → f p ≡ true
    there (x, b, c) = let (h, k) = and_parts (f x) (same p.id x.id) c in rw (d p x a b k) h

turn : (a b : Bool) → (a && b) ≡ (b && a)
turn a b = grind arith

reasons : (b s : Bool) (f : Effect) (t : Text) (xs ys zs : List Text) → has_text t xs ≡ (same_effect f permit && s) → has_text t ys ≡ (same_effect f forbid && s) →
    has_text t (response b xs ys zs).determining_policies ≡ (s && same_effect f (deciding_effect (response b xs ys zs).decision))
reasons true s f t xs ys zs h k = h ∙ turn (same_effect f permit) s
reasons false s f t xs ys zs h k = k ∙ turn (same_effect f forbid) s

no-error : (r : Except Error Value) → is_true r ≡ true → is_error r ≡ false
no-error (ok v) h = refl
no-error (error e) h = false-true h

pub reasons-and-errors : ReasonsAndErrors
unfolding is_authorized satisfied has_error
reasons-and-errors q es ps p d a = (because, wrongs, (λ h. wrongs ∙ no-error _ (and_parts _ _ (sym because ∙ h)).0))
  where
    because : has_text p.id (is_authorized q es ps).determining_policies ≡ (satisfied p q es && same_effect p.effect (deciding_effect (is_authorized q es ps).decision))
    because =
        reasons _ (satisfied p q es) p.effect p.id (satisfied_policies permit ps q es) (satisfied_policies forbid ps q es) (error_policies ps q es)
        (own-id (satisfied_with_effect permit q es) p ps d a) (own-id (satisfied_with_effect forbid q es) p ps d a)

    wrongs : has_text p.id (is_authorized q es ps).erroring_policies ≡ has_error p q es
    wrongs = rw (errors-are q es ps) (own-id (λ x. has_error x q es) p ps d a)

-- an id that is told is a policy's
named : (f : Policy → Bool) (t : Text) (ps : Policies) → has_text t (ids_where f ps) ≡ true → (p : Policy) × Among p ps × (t ≡ p.id)
named f t ps h = let (p, a, c) = any_at (λ x. f x && same t x.id) ps (sym (has-id f t ps) ∙ h) in (p, a, same_true t p.id (and_parts (f p) (same t p.id) c).1)

pub only-policies-are-named : OnlyPoliciesAreNamed
unfolding is_authorized
only-policies-are-named q es ps t = (
  reasons-are _ (satisfied_policies permit ps q es) (satisfied_policies forbid ps q es) (error_policies ps q es) (named (satisfied_with_effect permit q es) t ps) (named (satisfied_with_effect forbid q es) t ps),
  λ h. named (λ x. has_error x q es) t ps (rw (errors-are q es ps) at h),
)
  where
    reasons-are : {A : Type 0} (b : Bool) (xs ys zs : List Text) → (has_text t xs ≡ true → A) → (has_text t ys ≡ true → A) → has_text t (response b xs ys zs).determining_policies ≡ true → A
    reasons-are true xs ys zs f g h = f h
    reasons-are false xs ys zs f g h = g h
