-- That the rules say what the definitions say: each pair of forms that goes together once.
use Rattle.std.proofs.Common.{◌≡◌, Bool, true, false, cond, ◌&&◌, ◌⊎◌, sym, refl, ap, ◌∙◌, subst, ap₂, inl, inr}
use mathlib.Core.Option.{Option, some, none}
use Rattle.std.proofs.lemmas.Bool.{and_parts}
use Rattle.spec.specs.Basics.{is_some, Text, same, Text-discrete}
use mathlib.Core.Bool.{Bool-discrete}
use Rattle.spec.specs.Types.{BoolType, any_bool, is_true, is_false, CedarType, bool, int, string, entity, set, record_of, RecordType, empty, attr, same_bool, lub_bool, lub_set, lub_record, lub_attr, lub, lub_attrs, is_that, subty, same_type, BoolType-discrete, CedarType-discrete}
use Rattle.laws.proofs.Texts.{false-true, bool_same, yes_true, true-yes, same_true, same_refl}
use Rattle.laws.proofs.Lubs.{Lub, bools, ints, strings, entities, sets, records, LubAttrs, nones, mores, rel-lub}
use Rattle.types.specs.Matching.{same_bool_type, match_type, match_attrs, RulesTell}
use Rattle.types.specs.declared.matching.Rule.{Rule}
use Rattle.types.specs.declared.matching.Rule.TheVariants.{Joins, Below, Same}

-- ---- two types have a least type above them, or go together by no rule
pub record Apart (t u : CedarType) : Type 0 where
  pub no-lub : lub t u ≡ none
  pub no-rule : (f : Rule) → match_type f t u ≡ false

pub record ApartAttrs (t u : RecordType) : Type 0 where
  pub no-lub : lub_attrs t u ≡ none
  pub no-rule : (f : Rule) → match_attrs f t u ≡ false

abbrev Either : CedarType → CedarType → Type 0
Either t u = ((v : CedarType) × Lub t u v) ⊎ Apart t u

abbrev EitherAttrs : RecordType → RecordType → Type 0
EitherAttrs t u = ((v : RecordType) × LubAttrs t u v) ⊎ ApartAttrs t u

no-attr : (a : Text) (r : Bool) (o : Option CedarType) → lub_attr a r o none ≡ none
no-attr a r none = refl
no-attr a r (some t) = refl

no-and : (x : Bool) → x && false ≡ false
no-and true = refl
no-and false = refl

bit_is : (r s : Bool) → same_bool r s ≡ true → r ≡ s
bit_is true true h = refl
bit_is true false h = sym h
bit_is false true h = h
bit_is false false h = refl

mutual
  pub either : (t u : CedarType) → Either t u
  either (bool a) (bool b) = inl (bool (lub_bool a b), bools a b)
  either (bool a) int = inr (record { no-lub = refl; no-rule = λ f. refl })
  either (bool a) string = inr (record { no-lub = refl; no-rule = λ f. refl })
  either (bool a) (entity n) = inr (record { no-lub = refl; no-rule = λ f. refl })
  either (bool a) (set u) = inr (record { no-lub = refl; no-rule = λ f. refl })
  either (bool a) (record_of us) = inr (record { no-lub = refl; no-rule = λ f. refl })
  either int (bool b) = inr (record { no-lub = refl; no-rule = λ f. refl })
  either int int = inl (int, ints)
  either int string = inr (record { no-lub = refl; no-rule = λ f. refl })
  either int (entity n) = inr (record { no-lub = refl; no-rule = λ f. refl })
  either int (set u) = inr (record { no-lub = refl; no-rule = λ f. refl })
  either int (record_of us) = inr (record { no-lub = refl; no-rule = λ f. refl })
  either string (bool b) = inr (record { no-lub = refl; no-rule = λ f. refl })
  either string int = inr (record { no-lub = refl; no-rule = λ f. refl })
  either string string = inl (string, strings)
  either string (entity n) = inr (record { no-lub = refl; no-rule = λ f. refl })
  either string (set u) = inr (record { no-lub = refl; no-rule = λ f. refl })
  either string (record_of us) = inr (record { no-lub = refl; no-rule = λ f. refl })
  either (entity m) (bool b) = inr (record { no-lub = refl; no-rule = λ f. refl })
  either (entity m) int = inr (record { no-lub = refl; no-rule = λ f. refl })
  either (entity m) string = inr (record { no-lub = refl; no-rule = λ f. refl })
  either (entity m) (entity n) = names (same m n) refl
    where
      names : (b : Bool) → same m n ≡ b → Either (entity m) (entity n)
      names true h = inl (entity m, subst (λ k. Lub (entity m) (entity k) (entity m)) (same_true m n h) (entities m))
      names false h = inr (record { no-lub = ap (λ b. cond b (some (entity m)) none) h; no-rule = λ f. h })
  either (entity m) (set u) = inr (record { no-lub = refl; no-rule = λ f. refl })
  either (entity m) (record_of us) = inr (record { no-lub = refl; no-rule = λ f. refl })
  either (set t) (bool b) = inr (record { no-lub = refl; no-rule = λ f. refl })
  either (set t) int = inr (record { no-lub = refl; no-rule = λ f. refl })
  either (set t) string = inr (record { no-lub = refl; no-rule = λ f. refl })
  either (set t) (entity n) = inr (record { no-lub = refl; no-rule = λ f. refl })
  either (set t) (set u) = elim (either t u) [ inl l ↦ inl (set l.0, sets l.1) | inr a ↦ inr (record { no-lub = ap lub_set a.no-lub; no-rule = a.no-rule }) ]
  either (set t) (record_of us) = inr (record { no-lub = refl; no-rule = λ f. refl })
  either (record_of ts) (bool b) = inr (record { no-lub = refl; no-rule = λ f. refl })
  either (record_of ts) int = inr (record { no-lub = refl; no-rule = λ f. refl })
  either (record_of ts) string = inr (record { no-lub = refl; no-rule = λ f. refl })
  either (record_of ts) (entity n) = inr (record { no-lub = refl; no-rule = λ f. refl })
  either (record_of ts) (set u) = inr (record { no-lub = refl; no-rule = λ f. refl })
  either (record_of ts) (record_of us) = elim (either-attrs ts us) [ inl l ↦ inl (record_of l.0, records l.1) | inr a ↦ inr (record { no-lub = ap lub_record a.no-lub; no-rule = a.no-rule }) ]

  pub either-attrs : (t u : RecordType) → EitherAttrs t u
  either-attrs empty empty = inl (empty, nones)
  either-attrs empty (attr b s u us) = inr (record { no-lub = refl; no-rule = λ f. refl })
  either-attrs (attr a r t ts) empty = inr (record { no-lub = refl; no-rule = λ f. refl })
  either-attrs (attr a r t ts) (attr b s u us) = heads (same a b && same_bool r s) refl (either t u) (either-attrs ts us)
    where
      heads : (c : Bool) → same a b && same_bool r s ≡ c → Either t u → EitherAttrs ts us → EitherAttrs (attr a r t ts) (attr b s u us)
      heads false h x y = inr (record { no-lub = ap (λ c. cond c (lub_attr a r (lub t u) (lub_attrs ts us)) none) h; no-rule = λ f. ap (λ c. c && (match_type f t u && match_attrs f ts us)) h })
      heads true h (inr x) y = inr (record {
        no-lub = ap (λ c. cond c (lub_attr a r (lub t u) (lub_attrs ts us)) none) h ∙ ap (λ o. lub_attr a r o (lub_attrs ts us)) x.no-lub;
        no-rule = λ f. ap (λ c. (same a b && same_bool r s) && (c && match_attrs f ts us)) (x.no-rule f) ∙ no-and (same a b && same_bool r s);
      })
      heads true h (inl x) (inr y) = inr (record {
        no-lub = ap (λ c. cond c (lub_attr a r (lub t u) (lub_attrs ts us)) none) h ∙ ap (λ o. lub_attr a r (lub t u) o) y.no-lub ∙ no-attr a r (lub t u);
        no-rule = λ f. ap (λ c. (same a b && same_bool r s) && (match_type f t u && c)) (y.no-rule f) ∙ ap (λ c. (same a b && same_bool r s) && c) (no-and (match_type f t u)) ∙ no-and (same a b && same_bool r s);
      })
      heads true h (inl x) (inl y) =
          let p = and_parts (same a b) (same_bool r s) h in
          let e = same_true a b p.0 in
          let g = bit_is r s p.1 in
          inl (attr a r x.0 y.0, subst (λ k. LubAttrs (attr a r t ts) (attr k s u us) (attr a r x.0 y.0)) e (subst (λ k. LubAttrs (attr a r t ts) (attr a k u us) (attr a r x.0 y.0)) g (mores x.1 y.1)))

-- ---- what goes together
bit-refl : (r : Bool) → same_bool r r ≡ true
bit-refl true = refl
bit-refl false = refl

mutual
  joins-yes : {t u v : CedarType} → Lub t u v → match_type Joins t u ≡ true
  joins-yes (bools a b) = refl
  joins-yes ints = refl
  joins-yes strings = refl
  joins-yes (entities n) = same_refl n
  joins-yes (sets l) = joins-yes l
  joins-yes (records l) = joins-yes-attrs l

  joins-yes-attrs : {t u v : RecordType} → LubAttrs t u v → match_attrs Joins t u ≡ true
  joins-yes-attrs nones = refl
  joins-yes-attrs (mores {a} {r} l ls) = rw (same_refl a, bit-refl r, joins-yes l, joins-yes-attrs ls)

mutual
  below-is : {t u v : CedarType} → Lub t u v → match_type Same v u ≡ match_type Below t u
  below-is (bools a b) = refl
  below-is ints = refl
  below-is strings = refl
  below-is (entities n) = refl
  below-is (sets l) = below-is l
  below-is (records l) = below-is-attrs l

  below-is-attrs : {t u v : RecordType} → LubAttrs t u v → match_attrs Same v u ≡ match_attrs Below t u
  below-is-attrs nones = refl
  below-is-attrs (mores {a} {r} l ls) = ap₂ (λ x y. (same a a && same_bool r r) && (x && y)) (below-is l) (below-is-attrs ls)

bool-type-is : (a b : BoolType) → same_bool_type a b ≡ true → a ≡ b
bool-type-is any_bool any_bool h = refl
bool-type-is any_bool is_true h = false-true h
bool-type-is any_bool is_false h = false-true h
bool-type-is is_true any_bool h = false-true h
bool-type-is is_true is_true h = refl
bool-type-is is_true is_false h = false-true h
bool-type-is is_false any_bool h = false-true h
bool-type-is is_false is_true h = false-true h
bool-type-is is_false is_false h = refl

bool-type-refl : (a : BoolType) → same_bool_type a a ≡ true
bool-type-refl any_bool = refl
bool-type-refl is_true = refl
bool-type-refl is_false = refl

mutual
  same-is : {t u v : CedarType} → Lub t u v → match_type Same t u ≡ true → t ≡ u
  same-is (bools a b) h = ap bool (bool-type-is a b h)
  same-is ints h = refl
  same-is strings h = refl
  same-is (entities n) h = refl
  same-is (sets l) h = ap set (same-is l h)
  same-is (records l) h = ap record_of (same-is-attrs l h)

  same-is-attrs : {t u v : RecordType} → LubAttrs t u v → match_attrs Same t u ≡ true → t ≡ u
  same-is-attrs nones h = refl
  same-is-attrs (mores {a} {r} {t} {u} {v} {ts} {us} l ls) h =
      let p = and_parts (same a a && same_bool r r) (match_type Same t u && match_attrs Same ts us) h in
      let q = and_parts (match_type Same t u) (match_attrs Same ts us) p.1 in
      ap₂ (attr a r) (same-is l q.0) (same-is-attrs ls q.1)

mutual
  pub match-refl : (t : CedarType) → match_type Same t t ≡ true
  match-refl (bool a) = bool-type-refl a
  match-refl int = refl
  match-refl string = refl
  match-refl (entity n) = same_refl n
  match-refl (set t) = match-refl t
  match-refl (record_of ts) = match-refl-attrs ts

  match-refl-attrs : (ts : RecordType) → match_attrs Same ts ts ≡ true
  match-refl-attrs empty = refl
  match-refl-attrs (attr a r t ts) = rw (same_refl a, bit-refl r, match-refl t, match-refl-attrs ts)

same-tells : (t u : CedarType) → same_type t u ≡ match_type Same t u
same-tells t u = bool_same (same_type t u) (match_type Same t u) there back
  where
    there : same_type t u ≡ true → match_type Same t u ≡ true
    there h = let e = yes_true (CedarType-discrete BoolType-discrete Text-discrete Bool-discrete t u) h in subst (λ k. match_type Same t k ≡ true) e (match-refl t)

    back : match_type Same t u ≡ true → same_type t u ≡ true
    back h = elim (either t u) [ inl l ↦ true-yes (CedarType-discrete BoolType-discrete Text-discrete Bool-discrete t u) (same-is l.1 h) | inr a ↦ false-true (sym (a.no-rule Same) ∙ h) ]

pub joins-tells : (t u : CedarType) → is_some (lub t u) ≡ match_type Joins t u
joins-tells t u = elim (either t u) [ inl l ↦ ap is_some (rel-lub l.1) ∙ sym (joins-yes l.1) | inr a ↦ ap is_some a.no-lub ∙ sym (a.no-rule Joins) ]

below-tells : (t u : CedarType) → subty t u ≡ match_type Below t u
below-tells t u = elim (either t u) [
  | inl l ↦ ap (λ o. is_that o u) (rel-lub l.1) ∙ same-tells l.0 u ∙ below-is l.1
  | inr a ↦ ap (λ o. is_that o u) a.no-lub ∙ sym (a.no-rule Below)
]

pub rules-tell : RulesTell
rules-tell = (joins-tells, below-tells, same-tells)
