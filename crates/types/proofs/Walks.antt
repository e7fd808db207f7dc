-- Walks along the attributes of records.
use Rattle.std.proofs.Common.{◌≡◌, ℕ, zero, suc, ◌+◌, ◌-◌, ◌<◌, ◌≤◌, Bool, true, false, not, ◌&&◌, List, sym, refl, ap, ◌∙◌, subst, arith}
use mathlib.Core.Bool.{beq}
use Rattle.laws.proofs.Texts.{false-true}
use Rattle.spec.specs.Basics.{same}
use Rattle.spec.specs.Types as s
use Rattle.spec.specs.Types.{same_bool, attr}
use Rattle.values.specs.Held.{text_at, TextIn}
use Rattle.types.specs.Held.{name_at, required_at, attr_type_at, next_at, attrs_from, AttrIn, GoodFrom}
use Rattle.types.specs.Matching.{match_type, match_attrs}
use Rattle.types.specs.declared.matching.Rule.{Rule}
use Rattle.types.specs.declared.nodes.CedarType.{CedarType}

pub under : (h : ℕ) → (h ≡ 0 → ⊥) → h ≡ suc (h - 1)
under h l = omega (arith, l)

pub fewer : (n k : ℕ) → n - k - 1 ≡ n - (k + 1)
fewer n k = omega arith

pub above_zero : (n : ℕ) → 0 < n → n ≡ suc (n - 1)
above_zero n l = omega arith

module _ (G : CedarType → Type 0) (b : Bool) (m w : List ℕ) (hi : ℕ) where
  pub good-step : (n e : ℕ) → 0 < n → GoodFrom G b m w hi n e → AttrIn b m w hi e × G (attr_type_at b m w e) × GoodFrom G b m w hi (n - 1) (next_at b m e)
  good-step n e l g = subst (λ k. GoodFrom G b m w hi k e) (above_zero n l) g

pub name_in : (b : Bool) (m w : List ℕ) (hi e : ℕ) → AttrIn b m w hi e → TextIn m (name_at b m w e)
name_in true m w hi e h = h.1
name_in false m w hi e h = h.1

module _ (f : Rule) (d : CedarType → s.CedarType) (b b' : Bool) (m w : List ℕ) where
  abbrev pub left : ℕ → ℕ → ℕ → Bool
  left n e e' = match_attrs f (attrs_from d b m w n e) (attrs_from d b' m w n e')

  pub match-step : (n e e' : ℕ) → 0 < n →
      left n e e' ≡ (same (text_at m (name_at b m w e)) (text_at m (name_at b' m w e')) && same_bool (required_at b m e) (required_at b' m e'))
      && (match_type f (d (attr_type_at b m w e)) (d (attr_type_at b' m w e')) && left (n - 1) (next_at b m e) (next_at b' m e'))
  match-step n e e' l = ap (λ k. left k e e') (above_zero n l)

  pub match_none : (n e e' : ℕ) → n ≤ 0 → left n e e' ≡ true
  match_none n e e' l = let z : n ≡ 0 = omega arith in ap (λ k. left k e e') z

  pub match-counts : (n k e e' : ℕ) → (n ≡ k → ⊥) → match_attrs f (attrs_from d b m w n e) (attrs_from d b' m w k e') ≡ false
  match-counts zero zero e e' u = absurd (u refl)
  match-counts zero (suc k) e e' u = refl
  match-counts (suc n) zero e e' u = refl
  match-counts (suc n) (suc k) e e' u =
      let r = match-counts n k (next_at b m e) (next_at b' m e') (λ q. u (ap suc q)) in
      let x : Bool = same (text_at m (name_at b m w e)) (text_at m (name_at b' m w e')) && same_bool (required_at b m e) (required_at b' m e') in
      let y : Bool = match_type f (d (attr_type_at b m w e)) (d (attr_type_at b' m w e')) in
      ap (λ z. x && (y && z)) r ∙ ends x y
    where
      ends : (x y : Bool) → x && (y && false) ≡ false
      ends true true = refl
      ends true false = refl
      ends false y = refl

together : (r s : Bool) → not (beq r s) ≡ false → same_bool r s ≡ true
together true true h = refl
together true false h = false-true (sym h)
together false true h = false-true (sym h)
together false false h = refl

no-and : (x : Bool) → x && false ≡ false
no-and true = refl
no-and false = refl

apart : (x r s y : Bool) → not (beq r s) ≡ true → (x && same_bool r s) && y ≡ false
apart true true true y h = false-true h
apart true true false y h = refl
apart true false true y h = refl
apart true false false y h = false-true h
apart false r s y h = refl

-- one step, as the code takes it
module _ (f : Rule) (d : CedarType → s.CedarType) (b b' : Bool) (m w : List ℕ) (n e e' x y : ℕ) (r s : Bool) (t u : CedarType) (l : 0 < n)
    (ex : x ≡ name_at b m w e) (ey : y ≡ name_at b' m w e') (er : r ≡ required_at b m e) (es : s ≡ required_at b' m e') (et : t ≡ attr_type_at b m w e) (eu : u ≡ attr_type_at b' m w e') where
  step : (same (text_at m x) (text_at m y) && same_bool r s) && (match_type f (d t) (d u) && left f d b b' m w (n - 1) (next_at b m e) (next_at b' m e')) ≡ left f d b b' m w n e e'
  step = (λ i. (same (text_at m (ex i)) (text_at m (ey i)) && same_bool (er i) (es i)) && (match_type f (d (et i)) (d (eu i)) && left f d b b' m w (n - 1) (next_at b m e) (next_at b' m e'))) ∙ sym (match-step f d b b' m w n e e' l)

  pub no_name : false ≡ same (text_at m x) (text_at m y) → false ≡ left f d b b' m w n e e'
  no_name h = ap (λ z. (z && same_bool r s) && (match_type f (d t) (d u) && left f d b b' m w (n - 1) (next_at b m e) (next_at b' m e'))) h ∙ step

  pub no-required : not (beq r s) ≡ true → false ≡ left f d b b' m w n e e'
  no-required h = sym (apart (same (text_at m x) (text_at m y)) r s (match_type f (d t) (d u) && left f d b b' m w (n - 1) (next_at b m e) (next_at b' m e')) h) ∙ step

  pub no-type : false ≡ match_type f (d t) (d u) → false ≡ left f d b b' m w n e e'
  no-type h = sym (no-and (same (text_at m x) (text_at m y) && same_bool r s)) ∙ ap (λ z. (same (text_at m x) (text_at m y) && same_bool r s) && (z && left f d b b' m w (n - 1) (next_at b m e) (next_at b' m e'))) h ∙ step

  pub all_same : true ≡ same (text_at m x) (text_at m y) → not (beq r s) ≡ false → true ≡ match_type f (d t) (d u) → left f d b b' m w (n - 1) (next_at b m e) (next_at b' m e') ≡ left f d b b' m w n e e'
  all_same h k j = (λ i. (h i && yes-same i) && (j i && left f d b b' m w (n - 1) (next_at b m e) (next_at b' m e'))) ∙ step
    where
      yes-same : true ≡ same_bool r s
      yes-same = sym (together r s k)
