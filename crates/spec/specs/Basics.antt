-- What all other definitions are written with: results that can fail, tests on lists, texts, and lists kept in the order of a key.
-- Assumes nothing: these are definitions.
use Rattle.std.specs.Prelude.{◌≡◌, refl, Bool, true, false, cond, ◌&&◌, ◌||◌, ℕ, ltb, eqb}
use Rattle.std.proofs.Common.{sym}
use mathlib.Core.List.{List, [], ◌∷◌, cons≢nil, head-eq_of_cons-eq, tail-eq_of_cons-eq}
use Rattle.std.proofs.Math.Option.{Option, some, none}
use Rattle.std.proofs.Math.Decide.{ℕ_discrete}

-- ---- a result: something, or the error that came first
pub data Except (E A : Type 0) : Type 0 where
  ok : A → Except E A
  error : E → Except E A

infixl 10 ◌>>=◌
abbrev pub ◌>>=◌ : {E A B : Type 0} → Except E A → (A → Except E B) → Except E B
ok a >>= f = f a
error e >>= f = error e

-- what is there, or an error
abbrev pub or_error : {E A : Type 0} → Option A → E → Except E A
or_error (some a) e = ok a
or_error none e = error e

-- the same with another error
abbrev pub with_error : {E F A : Type 0} → Except E A → F → Except F A
with_error (ok a) f = ok a
with_error (error e) f = error f

abbrev pub is_ok : {E A : Type 0} → Except E A → Bool
is_ok (ok a) = true
is_ok (error e) = false

abbrev pub is_some : {A : Type 0} → Option A → Bool
is_some (some a) = true
is_some none = false

-- whether something is there and a test holds of it
abbrev pub on_some : {A : Type 0} → Option A → (A → Bool) → Bool
on_some (some a) f = f a
on_some none f = false

-- ---- tests on lists
abbrev pub any : {A : Type 0} → (A → Bool) → List A → Bool
any f [] = false
any f (x ∷ xs) = f x || any f xs

abbrev pub all : {A : Type 0} → (A → Bool) → List A → Bool
all f [] = true
all f (x ∷ xs) = f x && all f xs

abbrev pub is_empty : {A : Type 0} → List A → Bool
is_empty [] = true
is_empty (x ∷ xs) = false

abbrev pub first : {A : Type 0} → List A → Option A
first [] = none
first (x ∷ xs) = some x

-- whether a decision came out yes
abbrev pub is_yes : {A : Type 0} → Dec A → Bool
is_yes (yes a) = true
is_yes (no n) = false

-- ---- texts are bytes; a key, by which things are kept in order, is a row of numbers of the same type
abbrev pub Text : Type 0
Text = List ℕ

unfoldable pub same : Text → Text → Bool
same [] [] = true
same [] (y ∷ ys) = false
same (x ∷ xs) [] = false
same (x ∷ xs) (y ∷ ys) = eqb x y && same xs ys

-- the order of a dictionary
unfoldable pub less : Text → Text → Bool
less [] [] = false
less [] (y ∷ ys) = true
less (x ∷ xs) [] = false
less (x ∷ xs) (y ∷ ys) = ltb x y || (eqb x y && less xs ys)

-- that two texts are equal can be decided: the equality of values and of expressions is built on it
unfoldable pub Text-discrete : Discrete Text
Text-discrete [] [] = yes refl
Text-discrete [] (y ∷ ys) = no (λ e. cons≢nil (sym e))
Text-discrete (x ∷ xs) [] = no (λ e. cons≢nil e)
Text-discrete (x ∷ xs) (y ∷ ys) = decide (ℕ_discrete x y) (Text-discrete xs ys)
  where
    decide : Dec (x ≡ y) → Dec (xs ≡ ys) → Dec (x ∷ xs ≡ y ∷ ys)
    decide (yes p) (yes q) = yes (λ i. p i ∷ q i)
    decide (yes p) (no n) = no (λ e. n (tail-eq_of_cons-eq e))
    decide (no n) q = no (λ e. n (head-eq_of_cons-eq e))

-- ---- lists kept in the order of a key, each key once
-- Sets, the attributes of records, ids of policies, policies and entities are all kept so: each has a key, which is a text.

-- one more, in the place of the one that has its key
unfoldable pub insert : {A : Type 0} → (A → Text) → A → List A → List A
insert key a [] = a ∷ []
insert key a (b ∷ bs) = cond (less (key a) (key b)) (a ∷ (b ∷ bs)) (cond (less (key b) (key a)) (b ∷ insert key a bs) (a ∷ bs))

-- all of a list; of two that have one key the first stays
unfoldable pub insert_all : {A : Type 0} → (A → Text) → List A → List A
insert_all key [] = []
insert_all key (a ∷ bs) = insert key a (insert_all key bs)

-- the first that has the key
unfoldable pub find : {A : Type 0} → (A → Text) → Text → List A → Option A
find key t [] = none
find key t (b ∷ bs) = cond (same t (key b)) (some b) (find key t bs)

-- all but the first that has the key
unfoldable pub remove : {A : Type 0} → (A → Text) → Text → List A → List A
remove key t [] = []
remove key t (b ∷ bs) = cond (same t (key b)) bs (b ∷ remove key t bs)

-- each key is less than the next
unfoldable pub ascending : {A : Type 0} → (A → Text) → List A → Bool
ascending key [] = true
ascending key (a ∷ []) = true
ascending key (a ∷ (b ∷ bs)) = less (key a) (key b) && ascending key (b ∷ bs)

-- texts are their own keys
abbrev pub itself : Text → Text
itself t = t

-- ---- things with names: the key is the name
abbrev pub name : {B : Type 0} → Text × B → Text
name f = f.0

abbrev pub content : {B : Type 0} → Option (Text × B) → Option B
content (some f) = some f.1
content none = none

-- what has a name
abbrev pub lookup : {B : Type 0} → Text → List (Text × B) → Option B
lookup t fs = content (find name t fs)
