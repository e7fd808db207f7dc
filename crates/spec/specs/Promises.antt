-- What is promised. Each is a statement, a type: the crate `laws` proves those about the definitions, and the public functions of the engine the others.
use Rattle.std.specs.Prelude.{◌≡◌, Bool, true, false, not as flip, ◌&&◌, ◌||◌, List, [], ◌∷◌, ◌⊎◌, ℕ, ◌+◌, ◌*◌, ◌≤◌, ◌<◌, eqb, ltb, length}
use Rattle.std.proofs.Math.Option.{some}
use Rattle.spec.specs.Basics.{Except, ok, error, is_some, any, all, Text, same, ascending}
use Rattle.spec.specs.Values.{bool, int, string, entity_uid, Value, prim, set, record_of, same_value, code, less_value, Entities, entity_key, Request}
use Rattle.spec.specs.Exprs.{Expr, substitute_action}
use Rattle.spec.specs.Evaluate.{Error, entity_does_not_exist, attr_does_not_exist, tag_does_not_exist, type_error, arith_bounds_error, of_int, half, whole, sum, difference, is_negative, magnitude, differ, product, negation, evaluate}
use Rattle.spec.specs.Policies.{Effect, permit, forbid, Policy, Policies, policy_key, to_expr, satisfied, has_error, same_effect, satisfied_with_effect, Decision, allow, deny, is_authorized}
use Rattle.spec.specs.Types.{CedarType, bool, record_of, lub, Schema, RequestType}
use Rattle.spec.specs.Typecheck.{Capabilities, type_of}
use Rattle.spec.specs.Validate.{well_formed, type_env, validate, instance_of_type, validate_request, validate_entities}
use Rattle.spec.specs.Calls.{Call, put_entity, Answer, Limits, Store, size_store, admissible, all_below, encodable, refusal, answer, after_call, store_after}

-- ---- an engine: its memory, which is numbers, what a call leaves there, and what it answers
pub record Engine : Type 0 where
  pub opened : Limits → List ℕ
  pub called : List ℕ → Call → List ℕ
  pub answers : List ℕ → Call → Answer

-- its memory after all calls so far, the last first
abbrev pub memory_after : Engine → Limits → List Call → List ℕ
memory_after f l [] = f.opened l
memory_after f l (c ∷ cs) = f.called (memory_after f l cs) c

abbrev pub GoodLimits : (ℕ → Bool) → Limits → Type 0
GoodLimits stage l = (1 ≤ l.capacity) × (l.capacity ≤ 16777216) × ((k : ℕ) → l.supports k ≡ stage k)

-- THE MAIN PROMISE, FIRST HALF: after any calls whatever, each call is answered as the definitions say
abbrev pub Right : (ℕ → Bool) → Engine → Type 0
Right stage f =
    (l : Limits) (cs : List Call) (c : Call) → GoodLimits stage l → all encodable (c ∷ cs) ≡ true → f.answers (memory_after f l cs) c ≡ answer l (store_after l cs) c

-- a call that is refused leaves every number of memory as it was
abbrev pub RefusalKeeps : (ℕ → Bool) → Engine → Type 0
RefusalKeeps stage f =
    (l : Limits) (cs : List Call) (c : Call) → GoodLimits stage l → all encodable (c ∷ cs) ≡ true → is_some (refusal l (store_after l cs) c) ≡ true →
    f.called (memory_after f l cs) c ≡ memory_after f l cs

-- memory never runs out: eight numbers of eight bytes for each unit of the capacity, and 2^20 more, suffice
abbrev pub EnoughMemory : (ℕ → Bool) → Engine → Type 0
EnoughMemory stage f =
    (l : Limits) (cs : List Call) → GoodLimits stage l → all encodable cs ≡ true →
    (length (memory_after f l cs) ≤ 8 * l.capacity + 1048576) × (all_below 18446744073709551616 (memory_after f l cs) ≡ true)

-- the first stage has policies, entities and requests; the second the schema and validation too
abbrev pub first_stage : ℕ → Bool
first_stage k = (ltb 0 k && ltb k 5) || eqb k 6

abbrev pub all_calls : ℕ → Bool
all_calls k = true

-- ---- SECOND HALF: what was validated comes to a truth, or fails for an entity that is not there or a number out of bounds
abbrev pub Among : {A : Type 0} → A → List A → Type 0
Among x [] = ⊥
Among x (y ∷ ys) = (x ≡ y) ⊎ Among x ys

-- the errors that validation does not keep out
abbrev pub is_excused : Error → Bool
is_excused entity_does_not_exist = true
is_excused attr_does_not_exist = false
is_excused tag_does_not_exist = false
is_excused type_error = false
is_excused arith_bounds_error = true

abbrev pub is_truth : Value → Bool
is_truth (prim (bool b)) = true
is_truth (prim (int n)) = false
is_truth (prim (string t)) = false
is_truth (prim (entity_uid u)) = false
is_truth (set vs) = false
is_truth (record_of r) = false

abbrev pub truth_or_excused : Except Error Value → Bool
truth_or_excused (ok v) = is_truth v
truth_or_excused (error e) = is_excused e

abbrev pub ValidationIsSound : Type 0
ValidationIsSound =
    (s : Schema) (ps : Policies) (p : Policy) (q : Request) (es : Entities) → well_formed s ≡ true → validate ps s ≡ ok tt → validate_request q s ≡ true → validate_entities es s ≡ true →
    Among p ps → truth_or_excused (evaluate (to_expr p) q es) ≡ true

-- ---- 1. allowed just if some permit holds and no forbid
abbrev pub some_satisfied : Effect → Policies → Request → Entities → Bool
some_satisfied f ps q es = any (satisfied_with_effect f q es) ps

abbrev pub is_allow : Decision → Bool
is_allow allow = true
is_allow deny = false

abbrev pub AllowedJustIf : Type 0
AllowedJustIf =
    (q : Request) (es : Entities) (ps : Policies) → is_allow (is_authorized q es ps).decision ≡ (some_satisfied permit ps q es && flip (some_satisfied forbid ps q es))

abbrev pub ForbidOverridesPermit : Type 0
ForbidOverridesPermit = (q : Request) (es : Entities) (ps : Policies) → some_satisfied forbid ps q es ≡ true → (is_authorized q es ps).decision ≡ deny

abbrev pub AllowedOnlyIfPermitted : Type 0
AllowedOnlyIfPermitted = (q : Request) (es : Entities) (ps : Policies) → (is_authorized q es ps).decision ≡ allow → some_satisfied permit ps q es ≡ true

abbrev pub DenyByDefault : Type 0
DenyByDefault = (q : Request) (es : Entities) (ps : Policies) → some_satisfied permit ps q es ≡ false → (is_authorized q es ps).decision ≡ deny

-- ---- 2. neither the order of policies matters, nor that one stands twice
abbrev pub AllAmong : Policies → Policies → Type 0
AllAmong xs ys = (p : Policy) → Among p xs → Among p ys

abbrev pub OrderAndDuplicatesDontMatter : Type 0
OrderAndDuplicatesDontMatter = (q : Request) (es : Entities) (xs ys : Policies) → AllAmong xs ys → AllAmong ys xs → is_authorized q es xs ≡ is_authorized q es ys

-- ---- 3. a permit more never takes back what was allowed, a forbid more never allows; if one more leaves the decision as it was, determining policies
-- stay determining; erroring policies always stay erroring
abbrev pub has_text : Text → List Text → Bool
has_text t ts = any (same t) ts

abbrev pub all_texts : List Text → List Text → Bool
all_texts xs ys = all (λ t. has_text t ys) xs

abbrev pub OneMorePolicy : Type 0
OneMorePolicy =
    (q : Request) (es : Entities) (p : Policy) (ps : Policies) →
    (p.effect ≡ permit → (is_authorized q es ps).decision ≡ allow → (is_authorized q es (p ∷ ps)).decision ≡ allow)
    × (p.effect ≡ forbid → (is_authorized q es ps).decision ≡ deny → (is_authorized q es (p ∷ ps)).decision ≡ deny)
    × ((is_authorized q es (p ∷ ps)).decision ≡ (is_authorized q es ps).decision →
    all_texts (is_authorized q es ps).determining_policies (is_authorized q es (p ∷ ps)).determining_policies ≡ true)
    × (all_texts (is_authorized q es ps).erroring_policies (is_authorized q es (p ∷ ps)).erroring_policies ≡ true)

-- ---- 4. the determining policies are just those that hold, of the effect that decided; the erroring just those that fail; and none is both, if ids differ
abbrev pub DifferentIds : Policies → Type 0
DifferentIds ps = (x y : Policy) → Among x ps → Among y ps → same x.id y.id ≡ true → x ≡ y

abbrev pub deciding_effect : Decision → Effect
deciding_effect allow = permit
deciding_effect deny = forbid

abbrev pub ReasonsAndErrors : Type 0
ReasonsAndErrors =
    (q : Request) (es : Entities) (ps : Policies) (p : Policy) → DifferentIds ps → Among p ps →
    (has_text p.id (is_authorized q es ps).determining_policies ≡ (satisfied p q es && same_effect p.effect (deciding_effect (is_authorized q es ps).decision)))
    × (has_text p.id (is_authorized q es ps).erroring_policies ≡ has_error p q es)
    × (has_text p.id (is_authorized q es ps).determining_policies ≡ true → has_text p.id (is_authorized q es ps).erroring_policies ≡ false)

-- only ids of policies are told
abbrev pub OnlyPoliciesAreNamed : Type 0
OnlyPoliciesAreNamed =
    (q : Request) (es : Entities) (ps : Policies) (t : Text) →
    (has_text t (is_authorized q es ps).determining_policies ≡ true → (p : Policy) × Among p ps × (t ≡ p.id))
    × (has_text t (is_authorized q es ps).erroring_policies ≡ true → (p : Policy) × Among p ps × (t ≡ p.id))

-- ---- 5. what has a type comes to a value of it, or fails for an entity that is not there or a number out of bounds: so what is only true comes to true
abbrev pub of_type_or_excused : CedarType → Schema → Except Error Value → Bool
of_type_or_excused t s (ok v) = instance_of_type v t s
of_type_or_excused t s (error e) = is_excused e

abbrev pub TypecheckingIsSound : Type 0
TypecheckingIsSound =
    (s : Schema) (r : RequestType) (q : Request) (es : Entities) (x : Expr) (t : CedarType) (c : Capabilities) → well_formed s ≡ true → validate_entities es s ≡ true →
    validate_request q s ≡ true → same q.principal.ty r.principal ≡ true → q.action ≡ r.action → same q.resource.ty r.resource ≡ true →
    instance_of_type (record_of q.context) (record_of r.context) s ≡ true → type_of x [] (type_env s r) ≡ ok (t, c) → of_type_or_excused t s (evaluate x q es) ≡ true

-- ---- 6. with the word `action`, or with the action in its place, an expression comes to the same
abbrev pub SubstitutionKeepsMeaning : Type 0
SubstitutionKeepsMeaning = (x : Expr) (q : Request) (es : Entities) → evaluate (substitute_action q.action x) q es ≡ evaluate x q es

-- ---- 7. the least type above two is above both, whichever comes first, and below every other that is
abbrev pub LubIsLeast : Type 0
LubIsLeast =
    (t u v : CedarType) → lub t u ≡ some v →
    (lub u t ≡ some v) × (lub t v ≡ some v) × (lub u v ≡ some v) × ((w : CedarType) → lub t w ≡ some w → lub u w ≡ some w → lub v w ≡ some w)

-- ---- 8. a call that is refused changes nothing
abbrev pub RefusedChangesNothing : Type 0
RefusedChangesNothing = (l : Limits) (s : Store) (c : Call) → is_some (refusal l s c) ≡ true → after_call l s c ≡ s

-- ---- integers: what sums, differences, products and negations come to are integers of 64 bits again, and the right ones; i stands for i - 2^63
abbrev pub ArithmeticIsExact : Type 0
ArithmeticIsExact =
    (i j n : ℕ) → i < whole → j < whole →
    (sum i j ≡ ok (of_int n) → (n < whole) × (n + half ≡ i + j))
    × (difference i j ≡ ok (of_int n) → (n < whole) × (n + j ≡ i + half))
    × (product i j ≡ ok (of_int n) → (n < whole) × (magnitude n ≡ magnitude i * magnitude j) × (0 < magnitude n → is_negative n ≡ differ (is_negative i) (is_negative j)))
    × (negation i ≡ ok (of_int n) → (n < whole) × (n + i ≡ whole))

-- and they fail just if the right one has no place in 64 bits
abbrev pub FailsOutOfBounds : Type 0
FailsOutOfBounds =
    (i j : ℕ) (e : Error) → i < whole → j < whole →
    (sum i j ≡ error e → (i + j < half) ⊎ (half + whole ≤ i + j))
    × (difference i j ≡ error e → (i + half < j) ⊎ (j + half ≤ i))
    × (product i j ≡ error e → half ≤ magnitude i * magnitude j)
    × (negation i ≡ error e → i ≡ 0)

-- ---- what is always so of a store: its schema is well-formed, policies and entities are in order, each once, with canonical values, and it is no larger
-- than its capacity
pub record Ordered (l : Limits) (s : Store) : Type 0 where
  pub schema : well_formed s.schema ≡ true
  pub policies : ascending policy_key s.policies ≡ true
  pub ids : DifferentIds s.policies
  pub entities : ascending entity_key s.entities ≡ true
  pub admitted : all (λ e. admissible (put_entity e)) s.entities ≡ true
  pub fits : size_store s ≤ l.capacity

abbrev pub StoreStaysOrdered : Type 0
StoreStaysOrdered = (l : Limits) (cs : List Call) → Ordered l (store_after l cs)

-- ---- the order of values: of two that are not equal just one is less
abbrev pub ValuesAreOrdered : Type 0
ValuesAreOrdered =
    ((v : Value) → less_value v v ≡ false)
    × ((u v w : Value) → less_value u v ≡ true → less_value v w ≡ true → less_value u w ≡ true)
    × ((v w : Value) → less_value v w ≡ false → less_value w v ≡ false → v ≡ w)

-- values are equal just if their rows of numbers are
abbrev pub EqualByCode : Type 0
EqualByCode = (v w : Value) → (same_value v w ≡ same (code v) (code w)) × (same_value v w ≡ true → v ≡ w) × (v ≡ w → same_value v w ≡ true)
