-- What the operands of an operator are, by their kinds, and results that are a truth value or an integer.
use Rattle.std.proofs.Common.{◌≡◌, ℕ, zero, suc, ◌+◌, ◌-◌, ◌*◌, Bool, true, false, cond, eqb, ltb, leb, List, ℤ, Option, Some, None, Ok, sym, refl, ap, ◌∙◌, ap₂}
use Rattle.spec.specs.Basics.{Except, ok, error, ◌>>=◌}
use Rattle.spec.specs.Values as s
use Rattle.spec.specs.Evaluate.{Error, type_error, arith_bounds_error, of_bool, of_int, as_bool, as_int, as_string, as_entity_uid, as_set, half, magnitude, signed, differ, product, with_ints, with_sets}
use Rattle.values.specs.Held.{raised, text_at, TextIn, uid_at, UIDIn, means, decode, Good, Stands, elements_of}
use Rattle.values.specs.declared.nodes.Value.{Value}
use Rattle.values.specs.declared.nodes.Value.TheVariants.{Bool as B, Int, String, Entity, Set, Record}
use Rattle.operators.specs.Code.{Says, Counts, counted}

-- ---- operands of the right kind
pub is-bool : (h : ℕ) (m : List ℕ) (b : Bool) (a : s.Value) → Stands h m (B b) a → as_bool a ≡ ok b
is-bool zero m b a t = absurd t.good
is-bool (suc h) m b a t = sym (ap as_bool t.is)

pub is-int : (h : ℕ) (m : List ℕ) (z : ℤ) (a : s.Value) → Stands h m (Int z) a → as_int a ≡ ok (raised z)
is-int zero m z a t = absurd t.good
is-int (suc h) m z a t = sym (ap as_int t.is)

pub is-string : (h : ℕ) (m : List ℕ) (p : ℕ) (a : s.Value) → Stands h m (String p) a → as_string a ≡ ok (text_at m p)
is-string zero m p a t = absurd t.good
is-string (suc h) m p a t = sym (ap as_string t.is)

pub is-entity : (h : ℕ) (m : List ℕ) (p : ℕ) (a : s.Value) → Stands h m (Entity p) a → as_entity_uid a ≡ ok (uid_at m p)
is-entity zero m p a t = absurd t.good
is-entity (suc h) m p a t = sym (ap as_entity_uid t.is)

pub is_set : (h : ℕ) (m : List ℕ) (p : ℕ) (a : s.Value) → Stands h m (Set p) a → as_set a ≡ ok (elements_of (decode h m (Set p)))
is_set zero m p a t = absurd t.good
is_set (suc h) m p a t = sym (ap as_set t.is)

-- where they lie
pub text_in : (h : ℕ) (m : List ℕ) (p : ℕ) → Good h m (String p) → TextIn m p
text_in zero m p g = absurd g
text_in (suc h) m p g = g

pub uid-in : (h : ℕ) (m : List ℕ) (p : ℕ) → Good h m (Entity p) → UIDIn m p
uid-in zero m p g = absurd g
uid-in (suc h) m p g = g

-- ---- operands of a wrong kind
pub no_bool : (h : ℕ) (m : List ℕ) (v : Value) (a : s.Value) → ((b : Bool) → v ≡ B b → ⊥) → Stands h m v a → as_bool a ≡ error type_error
no_bool zero m v a n t = absurd t.good
no_bool (suc h) m v a n t = sym (ap as_bool t.is) ∙ go v n
  where
    go : (v : Value) → ((b : Bool) → v ≡ B b → ⊥) → as_bool (means (decode h m) m v) ≡ error type_error
    go (B b) n = absurd (n b refl)
    go (Int z) n = refl
    go (String p) n = refl
    go (Entity p) n = refl
    go (Set p) n = refl
    go (Record p) n = refl

pub no-int : (h : ℕ) (m : List ℕ) (v : Value) (a : s.Value) → ((z : ℤ) → v ≡ Int z → ⊥) → Stands h m v a → as_int a ≡ error type_error
no-int zero m v a n t = absurd t.good
no-int (suc h) m v a n t = sym (ap as_int t.is) ∙ go v n
  where
    go : (v : Value) → ((z : ℤ) → v ≡ Int z → ⊥) → as_int (means (decode h m) m v) ≡ error type_error
    go (B b) n = refl
    go (Int z) n = absurd (n z refl)
    go (String p) n = refl
    go (Entity p) n = refl
    go (Set p) n = refl
    go (Record p) n = refl

pub no-string : (h : ℕ) (m : List ℕ) (v : Value) (a : s.Value) → ((p : ℕ) → v ≡ String p → ⊥) → Stands h m v a → as_string a ≡ error type_error
no-string zero m v a n t = absurd t.good
no-string (suc h) m v a n t = sym (ap as_string t.is) ∙ go v n
  where
    go : (v : Value) → ((p : ℕ) → v ≡ String p → ⊥) → as_string (means (decode h m) m v) ≡ error type_error
    go (B b) n = refl
    go (Int z) n = refl
    go (String p) n = absurd (n p refl)
    go (Entity p) n = refl
    go (Set p) n = refl
    go (Record p) n = refl

pub no-entity : (h : ℕ) (m : List ℕ) (v : Value) (a : s.Value) → ((p : ℕ) → v ≡ Entity p → ⊥) → Stands h m v a → as_entity_uid a ≡ error type_error
no-entity zero m v a n t = absurd t.good
no-entity (suc h) m v a n t = sym (ap as_entity_uid t.is) ∙ go v n
  where
    go : (v : Value) → ((p : ℕ) → v ≡ Entity p → ⊥) → as_entity_uid (means (decode h m) m v) ≡ error type_error
    go (B b) n = refl
    go (Int z) n = refl
    go (String p) n = refl
    go (Entity p) n = absurd (n p refl)
    go (Set p) n = refl
    go (Record p) n = refl

pub no-set : (h : ℕ) (m : List ℕ) (v : Value) (a : s.Value) → ((p : ℕ) → v ≡ Set p → ⊥) → Stands h m v a → as_set a ≡ error type_error
no-set zero m v a n t = absurd t.good
no-set (suc h) m v a n t = sym (ap as_set t.is) ∙ go v n
  where
    go : (v : Value) → ((p : ℕ) → v ≡ Set p → ⊥) → as_set (means (decode h m) m v) ≡ error type_error
    go (B b) n = refl
    go (Int z) n = refl
    go (String p) n = refl
    go (Entity p) n = refl
    go (Set p) n = absurd (n p refl)
    go (Record p) n = refl

-- ---- results
pub says-bool : (h : ℕ) (m : List ℕ) (v : Value) (b : Bool) (o : Except Error s.Value) → Good h m v → o ≡ ok (of_bool b) → Says h m (Ok (B b)) o
says-bool zero m v b o g e = absurd g
says-bool (suc h) m v b o g e = (e, tt)

-- an integer that fits, or that it left 64 bits
pub says-int : (h : ℕ) (m : List ℕ) (v : Value) (z : Option ℤ) (o x : Except Error s.Value) → Good h m v → Counts z o → x ≡ o → Says h m (counted z) x
says-int zero m v z o x g k e = absurd g
says-int (suc h) m v (Some z) o x g k e = (e ∙ k, tt)
says-int (suc h) m v None o x g k e = e ∙ k

-- two integers, two sets
pub with-ints : (f : ℕ → ℕ → Except Error s.Value) (a b : s.Value) (i j : ℤ) → as_int a ≡ ok (raised i) → as_int b ≡ ok (raised j) → with_ints a b f ≡ f (raised i) (raised j)
with-ints f a b i j e d = ap₂ (λ x y. x >>= (λ i. y >>= (λ j. f i j))) e d

pub with-sets : (f : List s.Value → List s.Value → Bool) (a b : s.Value) (x y : List s.Value) → as_set a ≡ ok x → as_set b ≡ ok y → with_sets a b f ≡ ok (of_bool (f x y))
with-sets f a b x y e d = ap₂ (λ x y. x >>= (λ i. y >>= (λ j. ok (of_bool (f i j))))) e d

-- ---- products, with the signs compared
abbrev pub product_by : ℕ → ℕ → Except Error s.Value
product_by i j =
    let m : ℕ = magnitude i * magnitude j in
    cond (eqb (cond (ltb i half) 1 0) (cond (ltb j half) 1 0)) (cond (ltb m half) (ok (of_int (half + m))) (error arith_bounds_error)) (cond (leb m half) (ok (of_int (half - m))) (error arith_bounds_error))

pub product-by : (i j : ℕ) → product i j ≡ product_by i j
product-by i j = go (ltb i half) (ltb j half) (magnitude i * magnitude j)
  where
    go : (a b : Bool) (m : ℕ) → signed (differ a b) m ≡ cond (eqb (cond a 1 0) (cond b 1 0)) (cond (ltb m half) (ok (of_int (half + m))) (error arith_bounds_error)) (cond (leb m half) (ok (of_int (half - m))) (error arith_bounds_error))
    go true true m = refl
    go true false m = refl
    go false true m = refl
    go false false m = refl
