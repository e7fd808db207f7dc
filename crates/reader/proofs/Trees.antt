-- A tree is read by its form, and then field by field.
use Rattle.std.proofs.Common.{◌≡◌, ℕ, zero, suc, ◌+◌, ◌<◌, ◌≤◌, Bool, true, false, ◌&&◌, eqb, leb, List, [], ◌∷◌, map, length, get_or, sym, refl, ap, ◌∙◌, subst, arith}
use mathlib.Core.Option.{some, none}
use Rattle.std.proofs.lemmas.Bool.{leb-true}
use Rattle.spec.specs.Basics.{all}
use Rattle.spec.specs.Bytes.{Bytes}
use Rattle.reader.specs.declared.grammar.Field.{Field as CodeField}
use Rattle.wire.specs.Read.{Read, got, stops, nth}
use Rattle.wire.specs.Grammar.{Kind, value, expr, type, scope, action_scope, uid, attrs, record_type, condition, entity, entity_entry, action_entry, request, Tag, Fields, read_tag_of, read_tag, fields, value_tags, inner_value, value_fields, expr_tags, inner_expr, expr_fields, type_tags, inner_type, type_fields, scope_tags, scope_fields, action_scope_tags, action_scope_fields}
use Rattle.reader.specs.Code.{field_of, fields_of, is_part, is_small, parts, smalls, only_form, by_tag, forms_in}

-- ---- what fields take and leave of their bytes
pub parts_more : (f : CodeField) (fs : List CodeField) → parts (fields_of (f ∷ fs)) ≡ is_part (field_of f) + parts (fields_of fs)
parts_more f [] = omega arith
parts_more f (g ∷ fs) = refl

pub smalls-more : (f : CodeField) (fs : List CodeField) → smalls (fields_of (f ∷ fs)) ≡ is_small (field_of f) + smalls (fields_of fs)
smalls-more f [] = omega arith
smalls-more f (g ∷ fs) = refl

-- ---- by the byte that tells of which form it is
pub row_at : {T : Type 0} (h : T → Bool × Fields) (xs : List T) (b : ℕ) (d : Bool × Fields) → b < length (map h xs) → (g : T) × (nth xs b ≡ some g) × (get_or (map h xs) b d ≡ h g)
row_at h [] b d l = absurd (omega arith)
row_at h (x ∷ xs) zero d l = (x, refl, refl)
row_at h (x ∷ xs) (suc b) d l = row_at h xs b d (omega arith)

pub row-past : {T : Type 0} (h : T → Bool × Fields) (xs : List T) (b : ℕ) → length (map h xs) ≤ b → nth xs b ≡ none
row-past h [] b l = refl
row-past h (x ∷ xs) zero l = absurd (omega arith)
row-past h (x ∷ xs) (suc b) l = row-past h xs b (omega arith)

all-at : {X : Type 0} (p : X → Bool) (xs : List X) (b : ℕ) (d : X) → all p xs ≡ true → b < length xs → p (get_or xs b d) ≡ true
all-at p [] b d e l = absurd (omega arith)
all-at p (x ∷ xs) zero d e l = grind (arith)
all-at p (x ∷ xs) (suc b) d e l = all-at p xs b d (grind (arith)) (omega arith)

-- what a table says of the byte b of a tree whose height is h, and what is read there
pub record Tagged {T : Type 0} (read : ℕ → Bytes → Read T) (fl : T → Fields) (t : List (Bool × Fields)) : Type 0 where
  pub there : (h b : ℕ) (rest : Bytes) (d : Bool × Fields) → b < length t → ((get_or t b d).0 && eqb h 0) ≡ false → (g : T) × (read h (b ∷ rest) ≡ got g 1) × ((get_or t b d).1 ≡ fl g)
  pub deep : (h b : ℕ) (rest : Bytes) (d : Bool × Fields) → b < length t → ((get_or t b d).0 && eqb h 0) ≡ true → read h (b ∷ rest) ≡ stops 0
  pub beyond : (h b : ℕ) (rest : Bytes) → length t ≤ b → read h (b ∷ rest) ≡ stops 0
  pub at-end : (h : ℕ) → read h [] ≡ stops 0
  pub paid : (b : ℕ) (d : Bool × Fields) → b < length t → parts (get_or t b d).1 ≤ suc (smalls (get_or t b d).1)

pays : Bool × Fields → Bool
pays row = leb (parts row.1) (suc (smalls row.1))

module _ {T : Type 0} (xs : List T) (f : T → Bool) (fl : T → Fields) where
  abbrev rows : List (Bool × Fields)
  rows = map (λ g. (f g, fl g)) xs

  rows-there : (h b : ℕ) (rest : Bytes) (d : Bool × Fields) → b < length rows → ((get_or rows b d).0 && eqb h 0) ≡ false → (g : T) × (read_tag_of xs f h (b ∷ rest) ≡ got g 1) × ((get_or rows b d).1 ≡ fl g)
  unfolding read_tag_of
  rows-there h b rest d l e =
      let w = row_at (λ g. (f g, fl g)) xs b d l in
      let q : (f w.0 && eqb h 0) ≡ false = ap (λ (row : Bool × Fields). row.0 && eqb h 0) (sym w.2) ∙ e in
      (w.0, rw (w.1, q), ap (λ (row : Bool × Fields). row.1) w.2)

  rows-deep : (h b : ℕ) (rest : Bytes) (d : Bool × Fields) → b < length rows → ((get_or rows b d).0 && eqb h 0) ≡ true → read_tag_of xs f h (b ∷ rest) ≡ stops 0
  unfolding read_tag_of
  rows-deep h b rest d l e =
      let w = row_at (λ g. (f g, fl g)) xs b d l in
      let q : (f w.0 && eqb h 0) ≡ true = ap (λ (row : Bool × Fields). row.0 && eqb h 0) (sym w.2) ∙ e in
      rw (w.1, q)

  rows-beyond : (h b : ℕ) (rest : Bytes) → length rows ≤ b → read_tag_of xs f h (b ∷ rest) ≡ stops 0
  unfolding read_tag_of
  rows-beyond h b rest l = rw (row-past (λ g. (f g, fl g)) xs b l)

  rows_end : (h : ℕ) → read_tag_of xs f h [] ≡ stops 0
  unfolding read_tag_of
  rows_end h = refl

  rows-paid : all pays rows ≡ true → (b : ℕ) (d : Bool × Fields) → b < length rows → parts (get_or rows b d).1 ≤ suc (smalls (get_or rows b d).1)
  unfolding pays
  rows-paid e b d l = leb-true _ _ (all-at pays rows b d e l)

  tagged-rows : all pays rows ≡ true → Tagged (read_tag_of xs f) fl rows
  tagged-rows e = record { there = rows-there; deep = rows-deep; beyond = rows-beyond; at-end = rows_end; paid = rows-paid e }

pub tagged : (k : Kind) (t : List (Bool × Fields)) → by_tag t ≡ forms_in k → Tagged (read_tag k) (fields k) t
unfolding pays
tagged value t e = let q : map (λ g. (inner_value g, value_fields g)) value_tags ≡ t = cc in subst (Tagged (read_tag value) (fields value)) q (tagged-rows value_tags inner_value value_fields refl)
tagged expr t e = let q : map (λ g. (inner_expr g, expr_fields g)) expr_tags ≡ t = cc in subst (Tagged (read_tag expr) (fields expr)) q (tagged-rows expr_tags inner_expr expr_fields refl)
tagged type t e = let q : map (λ g. (inner_type g, type_fields g)) type_tags ≡ t = cc in subst (Tagged (read_tag type) (fields type)) q (tagged-rows type_tags inner_type type_fields refl)
tagged scope t e = let q : map (λ g. (false, scope_fields g)) scope_tags ≡ t = cc in subst (Tagged (read_tag scope) (fields scope)) q (tagged-rows scope_tags (λ _. false) scope_fields refl)
tagged action_scope t e = let q : map (λ g. (false, action_scope_fields g)) action_scope_tags ≡ t = cc in subst (Tagged (read_tag action_scope) (fields action_scope)) q (tagged-rows action_scope_tags (λ _. false) action_scope_fields refl)
tagged uid t e = cc
tagged attrs t e = cc
tagged record_type t e = cc
tagged condition t e = cc
tagged entity t e = cc
tagged entity_entry t e = cc
tagged action_entry t e = cc
tagged request t e = cc

-- a kind of one form
pub untagged : (k : Kind) (h : ℕ) (bs : Bytes) (fs : Fields) → only_form fs ≡ forms_in k → (g : Tag k) × (read_tag k h bs ≡ got g 0) × (fs ≡ fields k g) × (parts fs ≤ smalls fs)
untagged value h bs fs e = cc
untagged expr h bs fs e = cc
untagged type h bs fs e = cc
untagged scope h bs fs e = cc
untagged action_scope h bs fs e = cc
untagged uid h bs fs e = let q : fs ≡ fields uid tt = cc in (tt, refl, q, rw q (omega arith))
untagged attrs h bs fs e = let q : fs ≡ fields attrs tt = cc in (tt, refl, q, rw q (omega arith))
untagged record_type h bs fs e = let q : fs ≡ fields record_type tt = cc in (tt, refl, q, rw q (omega arith))
untagged condition h bs fs e = let q : fs ≡ fields condition tt = cc in (tt, refl, q, rw q (omega arith))
untagged entity h bs fs e = let q : fs ≡ fields entity tt = cc in (tt, refl, q, rw q (omega arith))
untagged entity_entry h bs fs e = let q : fs ≡ fields entity_entry tt = cc in (tt, refl, q, rw q (omega arith))
untagged action_entry h bs fs e = let q : fs ≡ fields action_entry tt = cc in (tt, refl, q, rw q (omega arith))
untagged request h bs fs e = let q : fs ≡ fields request tt = cc in (tt, refl, q, rw q (omega arith))
