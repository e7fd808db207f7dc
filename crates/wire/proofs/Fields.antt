-- A byte that tells things apart, and the fields of a form: their readers are exact if those of the trees in them are.
use Rattle.std.proofs.Common.{◌≡◌, ℕ, zero, suc, ◌+◌, Bool, true, false, cond, not as flip, ◌&&◌, eqb, List, [], ◌∷◌, sym, refl, ap, ◌∙◌, arith}
use mathlib.Core.Option.{Option, some, none}
use Rattle.std.proofs.lemmas.Bool.{and_parts, and_from}
use Rattle.spec.specs.Bytes.{Bytes}
use Rattle.spec.specs.Exprs.{Var, principal, action, resource, context, BinaryOp, eq, mem, has_tag, get_tag, less, less_eq, add, sub as minus, mul, contains, contains_all, contains_any}
use Rattle.spec.specs.Policies.{Effect, permit, forbid, ConditionKind, when, unless}
use Rattle.spec.specs.Types.{BoolType, any_bool, is_true, is_false}
use Rattle.laws.proofs.Texts.{false-true, none-some}
use Rattle.wire.specs.Read.{nth, read_one}
use Rattle.wire.specs.Grammar.{Small, truth, variable, operator, bool_type, effect, condition_kind, Choice, choices, Kind, Tree, Field, part, small, word, text, pattern, node, list, Fields, no, one, more, Content, Contents, admitted, read_tag_of, Reader, read_field, read_fields}
use Rattle.wire.specs.Sizes.{encode_tree, small_number, encode_field, encode_fields, good_field, good_fields}
use Rattle.wire.proofs.Exact.{Exact, exact_same, exact-nothing, exact-behind, read_byte, exact-byte, exact-list}
use Rattle.wire.proofs.Words.{exact_word, exact-text, exact-pattern}

-- ---- things in the order of their numbers
abbrev pub Counted : {X : Type 0} → (X → ℕ) → ℕ → List X → Type 0
Counted number n [] = Unit {0}
Counted number n (x ∷ xs) = (number x ≡ n) × Counted number (suc n) xs

pub nth_number : {X : Type 0} (number : X → ℕ) (xs : List X) (n : ℕ) → Counted number n xs → (b : ℕ) (x : X) → nth xs b ≡ some x → b + n ≡ number x
nth_number number [] n c b x h = none-some h
nth_number number (y ∷ ys) n c zero x h = let p : y ≡ x = cc in let q : number y ≡ number x = ap number p in omega (arith, q, c.0)
nth_number number (y ∷ ys) n c (suc b) x h = omega (arith, nth_number number ys (suc n) c.1 b x h)

module _ {X : Type 0} (number : X → ℕ) (xs : List X) (counted : Counted number 0 xs) (there : (x : X) → nth xs (number x) ≡ some x) (one_of_lem : X) where
  -- any of them
  pub exact_one : Exact (λ x. number x ∷ []) (λ _. true) (read_one xs)
  unfolding read_one
  exact_one = exact_same _ _ (read_byte (nth xs)) (read_one xs) same (exact-byte number (λ _. true) (nth xs) (λ x _. there x) (λ b x h. (omega (arith, nth_number number xs 0 counted b x h), refl)) one_of_lem refl)
    where
      same : (bs : Bytes) → read_byte (nth xs) bs ≡ read_one xs bs
      same [] = refl
      same (b ∷ bs) = refl

  -- those that are a level of depth only if one is left
  module _ (f : X → Bool) (h : ℕ) (plain : f one_of_lem ≡ false) where
    abbrev level-left : X → Bool
    level-left x = flip (f x && eqb h 0)

    admitted-there : (x : X) → level-left x ≡ true → admitted f h (some x) ≡ some x
    admitted-there x k = go (f x && eqb h 0) k
      where
        go : (b : Bool) → flip b ≡ true → cond b none (some x) ≡ some x
        go true k = false-true k
        go false k = refl

    admitted-only : (b : ℕ) (x : X) (o : Option X) → nth xs b ≡ o → admitted f h o ≡ some x → (b ≡ number x) × (level-left x ≡ true)
    admitted-only b x none q k = none-some k
    admitted-only b x (some y) q k = go (f y && eqb h 0) refl k
      where
        go : (c : Bool) → (f y && eqb h 0) ≡ c → cond c none (some y) ≡ some x → (b ≡ number x) × (level-left x ≡ true)
        go true p k = none-some k
        go false p k =
            let e : y ≡ x = cc in
            (omega (arith, nth_number number xs 0 counted b y q, ap number e), ap level-left (sym e) ∙ ap flip p)

    pub exact-tag-of : Exact (λ x. number x ∷ []) level-left (read_tag_of xs f h)
    unfolding read_tag_of
    exact-tag-of =
        exact_same _ _ (read_byte (λ b. admitted f h (nth xs b))) (read_tag_of xs f h) same
        (exact-byte number level-left (λ b. admitted f h (nth xs b)) (λ x k. ap (admitted f h) (there x) ∙ admitted-there x k) (λ b x k. admitted-only b x (nth xs b) refl k) one_of_lem (ap (λ b. flip (b && eqb h 0)) plain))
      where
        same : (bs : Bytes) → read_byte (λ b. admitted f h (nth xs b)) bs ≡ read_tag_of xs f h bs
        same [] = refl
        same (b ∷ bs) = refl

-- ---- small things
small-counted : (e : Small) → Counted (small_number e) 0 (choices e)
small-counted truth = (refl, (refl, tt))
small-counted variable = (refl, (refl, (refl, (refl, tt))))
small-counted operator = (refl, (refl, (refl, (refl, (refl, (refl, (refl, (refl, (refl, (refl, (refl, (refl, tt))))))))))))
small-counted bool_type = (refl, (refl, (refl, tt)))
small-counted effect = (refl, (refl, tt))
small-counted condition_kind = (refl, (refl, tt))

truth-there : (b : Bool) → nth (choices truth) (cond b 1 0) ≡ some b
truth-there true = refl
truth-there false = refl

variable-there : (v : Var) → nth (choices variable) (small_number variable v) ≡ some v
variable-there principal = refl
variable-there action = refl
variable-there resource = refl
variable-there context = refl

operator-there : (o : BinaryOp) → nth (choices operator) (small_number operator o) ≡ some o
operator-there eq = refl
operator-there mem = refl
operator-there has_tag = refl
operator-there get_tag = refl
operator-there less = refl
operator-there less_eq = refl
operator-there add = refl
operator-there minus = refl
operator-there mul = refl
operator-there contains = refl
operator-there contains_all = refl
operator-there contains_any = refl

bool-type-there : (b : BoolType) → nth (choices bool_type) (small_number bool_type b) ≡ some b
bool-type-there any_bool = refl
bool-type-there is_true = refl
bool-type-there is_false = refl

effect-there : (f : Effect) → nth (choices effect) (small_number effect f) ≡ some f
effect-there permit = refl
effect-there forbid = refl

kind-there : (c : ConditionKind) → nth (choices condition_kind) (small_number condition_kind c) ≡ some c
kind-there when = refl
kind-there unless = refl

small-there : (e : Small) (x : Choice e) → nth (choices e) (small_number e x) ≡ some x
small-there truth x = truth-there x
small-there variable x = variable-there x
small-there operator x = operator-there x
small-there bool_type x = bool-type-there x
small-there effect x = effect-there x
small-there condition_kind x = kind-there x

abbrev some_small : (e : Small) → Choice e
some_small truth = false
some_small variable = principal
some_small operator = eq
some_small bool_type = any_bool
some_small effect = permit
some_small condition_kind = when

exact-small : (e : Small) → Exact (λ x. small_number e x ∷ []) (λ _. true) (read_one (choices e))
exact-small e = exact_one (small_number e) (choices e) (small-counted e) (small-there e) (some_small e)

-- ---- something holds of each kind of tree in some fields
abbrev mutual
  pub InField : (Kind → Type 0) → Field → Type 0
  InField P part = Unit {0}
  InField P (small e) = Unit {0}
  InField P word = Unit {0}
  InField P text = Unit {0}
  InField P pattern = Unit {0}
  InField P (node k) = P k
  InField P (list fs) = InFields P fs

  pub InFields : (Kind → Type 0) → Fields → Type 0
  InFields P no = Unit {0}
  InFields P (one f) = InField P f
  InFields P (more f fs) = InField P f × InFields P fs

-- ---- fields
module _ (r : Reader) (good : (k : Kind) → Tree k → Bool) (P : Kind → Type 0) (E : (k : Kind) → P k → Exact (encode_tree k) (good k) (r k)) where
  mutual
    pub exact-field : (f : Field) → InField P f → Exact (encode_field f) (good_field good f) (read_field r f)
    exact-field part p = exact-nothing
    exact-field (small e) p = exact-small e
    exact-field word p = exact_word
    exact-field text p = exact-text
    exact-field pattern p = exact-pattern
    exact-field (node k) p = E k p
    exact-field (list fs) p = exact-list (encode_fields fs) (good_fields good fs) (read_fields r fs) (exact-fields fs p)

    pub exact-fields : (fs : Fields) → InFields P fs → Exact (encode_fields fs) (good_fields good fs) (read_fields r fs)
    exact-fields no p = exact-nothing
    exact-fields (one f) p = exact-field f p
    exact-fields (more f fs) p =
        exact-behind {X = Content f} {Z = Content f × Contents fs} {Y = λ _. Contents fs} (encode_field f) (good_field good f) (read_field r f) (λ _. encode_fields fs) (λ _. good_fields good fs) (λ _. read_fields r fs) (λ x y. (x, y)) (encode_fields (more f fs)) (good_fields good (more f fs))
        (λ z h. let w = and_parts (good_field good f z.0) (good_fields good fs z.1) h in (z.0, z.1, refl, w.0, w.1))
        (λ x y h k. (refl, and_from (good_field good f x) (good_fields good fs y) h k))
        (exact-field f p.0) (λ _ _. exact-fields fs p.1)
