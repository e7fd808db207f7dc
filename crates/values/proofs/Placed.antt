-- Rows of numbers at places of a memory, number by number.
use Rattle.std.proofs.Common.{◌≡◌, ℕ, suc, ◌+◌, ◌<◌, ◌≤◌, List, [], ◌∷◌, ◌++◌, length, get_or, take, drop, sym, refl, ap, ◌∙◌, subst, ap₂, inl, inr, arith}
use mathlib.Core.List.{cons≢nil, head-eq_of_cons-eq, tail-eq_of_cons-eq}
use Rattle.std.proofs.lemmas.Bool.{cases_lt}
use Rattle.std.proofs.lemmas.List.{drop_more, drop_all, get_or_append_left, get_or-append-add, length-append}
use Rattle.spec.specs.Basics.{Text}
use Rattle.spec.specs.Values.{EntityUID, code_text, code_uid}
use Rattle.values.specs.Held.{text_at, TextIn, behind_text, uid_at, UIDIn}
use Rattle.values.specs.Stored.{LiesAt}

abbrev pub Lies : List ℕ → ℕ → List ℕ → Type 0
Lies m p [] = Unit {0}
Lies m p (x ∷ xs) = (p < length m) × (get_or m p 0 ≡ x) × Lies m (p + 1) xs

pub lies : (m : List ℕ) (p : ℕ) (xs : List ℕ) → LiesAt m p xs → Lies m p xs
lies m p [] e = tt
lies m p (x ∷ xs) e = elim (cases_lt p (length m)) [
  | inl l ↦
      let q : get_or m p 0 ∷ take (length xs) (drop (p + 1) m) ≡ x ∷ xs = ap (take (suc (length xs))) (sym (drop_more m p 0 l)) ∙ e in
      (l, head-eq_of_cons-eq q, lies m (p + 1) xs (tail-eq_of_cons-eq q))
  | inr l ↦ absurd (cons≢nil (sym (sym (ap (take (suc (length xs))) (drop_all p m l)) ∙ e)))
]

pub lies-move : (m : List ℕ) (p q : ℕ) (xs : List ℕ) → p ≡ q → Lies m p xs → Lies m q xs
lies-move m p q xs e h = subst (λ r. Lies m r xs) e h

pub lies-append : (m : List ℕ) (p : ℕ) (xs ys : List ℕ) → Lies m p (xs ++ ys) → Lies m p xs × Lies m (p + length xs) ys
lies-append m p [] ys h = (tt, lies-move m p (p + 0) ys (omega arith) h)
lies-append m p (x ∷ xs) ys h =
    let r = lies-append m (p + 1) xs ys h.2 in
    ((h.0, h.1, r.0), lies-move m (p + 1 + length xs) (p + suc (length xs)) ys (omega arith) r.1)

pub lies-long : (m : List ℕ) (p x : ℕ) (xs : List ℕ) → Lies m p (x ∷ xs) → p + 1 + length xs ≤ length m
lies-long m p x [] h = omega (arith, h.0)
lies-long m p x (y ∷ ys) h = omega (arith, lies-long m (p + 1) y ys h.2)

-- and back
pub lies_at : (m : List ℕ) (p : ℕ) (xs : List ℕ) → Lies m p xs → LiesAt m p xs
lies_at m p [] h = refl
lies_at m p (x ∷ xs) h = ap (take (suc (length xs))) (drop_more m p 0 h.0) ∙ ap₂ ◌∷◌ h.1 (lies_at m (p + 1) xs h.2)

-- in a memory that goes on, and in one that has more before it
pub lies-on : (m y : List ℕ) (p : ℕ) (xs : List ℕ) → Lies m p xs → Lies (m ++ y) p xs
lies-on m y p [] h = tt
lies-on m y p (x ∷ xs) h = (simp length-append (omega (arith, h.0)), get_or_append_left m y 0 p h.0 ∙ h.1, lies-on m y (p + 1) xs h.2)

pub lies-behind : (y m : List ℕ) (p q : ℕ) (xs : List ℕ) → q ≡ length y + p → Lies m p xs → Lies (y ++ m) q xs
lies-behind y m p q [] e h = tt
lies-behind y m p q (x ∷ xs) e h =
    (simp length-append (omega (arith, h.0)), ap (λ n. get_or (y ++ m) n 0) e ∙ get_or-append-add y m p 0 ∙ h.1, lies-behind y m (p + 1) (q + 1) xs (omega arith) h.2)

-- ---- texts and names
pub text-lies : (m : List ℕ) (p : ℕ) (t : Text) → Lies m p (code_text t) → TextIn m p × (text_at m p ≡ t)
text-lies m p t h =
    let l = lies-long m p (length t) t h in
    (omega (arith, h.1), ap (λ n. take n (drop (p + 1) m)) h.1 ∙ lies_at m (p + 1) t h.2)

pub uid-lies : (m : List ℕ) (p : ℕ) (u : EntityUID) → Lies m p (code_uid u) → UIDIn m p × (uid_at m p ≡ u)
uid-lies m p u h =
    let r = lies-append m p (code_text u.ty) (code_text u.eid) h in
    let a = text-lies m p u.ty r.0 in
    let b = text-lies m (behind_text m p) u.eid (lies-move m (p + suc (length u.ty)) (behind_text m p) (code_text u.eid) (omega (arith, r.0.1)) r.1) in
    let x = a.1 in
    let y = b.1 in
    ((a.0, b.0), (λ i. record { ty = x i; eid = y i }))
