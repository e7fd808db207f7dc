-- The row of a tree is as long as its fields say, as the laws of counting ask. Assumes nothing: these are proofs.
use mathlib.Core.Option.{Option, some, none}
use Rattle.std.proofs.Common.{◌≡◌, ℕ, ◌+◌, ◌*◌, ◌≤◌, Bool, true, false, List, [], ◌∷◌, ◌++◌, length, sym, refl, ap, ◌∙◌, ap₂, arith}
use Rattle.std.proofs.lemmas.Bool.{and_parts}
use Rattle.std.proofs.lemmas.List.{length-append}
use Rattle.spec.specs.Basics.{Text}
use Rattle.spec.specs.Bytes.{Bytes}
use Rattle.spec.specs.Values.{Value, to_values, to_attrs, code_text, code_uid}
use Rattle.spec.specs.Calls.{sum_of, size_text}
use Rattle.laws.proofs.Texts.{false-true}
use Rattle.rows.specs.Rows.{rows_of, counted, count_values, count_fields, behind_of, entries, behind_all, attr_entries, behind_attrs, row_attrs}
use Rattle.wire.specs.Tags.{ValueTag, bool_tag, int_tag, string_tag, entity_tag, set_tag, record_tag}
use Rattle.wire.specs.Grammar.{Kind, value, expr, type, scope, action_scope, uid, attrs, record_type, condition, entity, entity_entry, action_entry, request, Field, part, small, word, text, pattern, node, list, Fields, no, one, more, Content, Contents, Tag, value_fields, make_value, expr_tags, inner_expr, type_tags, inner_type, scope_tags, action_scope_tags, admitted, read_tag_of, read_tag, fields, make}
use Rattle.wire.specs.Read.{got, nth, got_one}
use Rattle.reader.specs.declared.grammar.Items.{Items}
use Rattle.reader.specs.declared.grammar.Items.TheVariants.{Values, NamedValues, Exprs, NamedExprs, Types, NamedTypes, Uids, Texts, Conditions, EntityEntries, ActionEntries}
use Rattle.reader.specs.Code.{items_of}
use Rattle.reader.specs.Counts.{count_field, count_fields as counted_fields, Lawful}
use Rattle.reader.specs.Sizes.{sum_same}
use Rattle.copy.specs.Copied.{row_field, row_fields, plain, plain_field, plain_fields}
use Rattle.copy.proofs.RowForms.{headed_as, row-make}
use Rattle.copy.proofs.Pieces.{flat-fields}
use Rattle.measure.specs.Lengths.{length_tree, head_length, unit, slot_of_kind, slot_of, named, slots, beginning, row_counts}

-- ---- lists
rows_long : {A : Type 0} (f : A → List ℕ) (xs : List A) → length (rows_of f xs) ≡ sum_of (λ x. length (f x)) xs
rows_long f [] = refl
rows_long f (x ∷ xs) = length-append (f x) (rows_of f xs) ∙ ap (λ n. length (f x) + n) (rows_long f xs)

-- ---- what is copied field by field
no_slot : (k : Kind) → plain k ≡ true → slot_of_kind k ≡ 0
no_slot value h = false-true h
no_slot expr h = refl
no_slot type h = refl
no_slot scope h = refl
no_slot action_scope h = refl
no_slot uid h = refl
no_slot attrs h = refl
no_slot record_type h = refl
no_slot condition h = refl
no_slot entity h = refl
no_slot entity_entry h = refl
no_slot action_entry h = refl
no_slot request h = refl

no-slot-of : (f : Field) → plain_field f ≡ true → slot_of f ≡ 0
no-slot-of part h = refl
no-slot-of (small e) h = refl
no-slot-of word h = refl
no-slot-of text h = refl
no-slot-of pattern h = refl
no-slot-of (node k) h = no_slot k h
no-slot-of (list fs) h = refl

no-slots : (fs : Fields) → plain_fields fs ≡ true → slots fs ≡ 0
no-slots no h = refl
no-slots (one f) h = no-slot-of f h
no-slots (more f fs) h = ap named (no-slots fs (and_parts (plain_field f) (plain_fields fs) h).1)

mutual
  plain-field : (f : Field) → plain_field f ≡ true → (x : Content f) → length (row_field f x) ≡ count_field row_counts 1 f x
  plain-field part h x = refl
  plain-field (small e) h x = refl
  plain-field word h x = refl
  plain-field text h x = refl
  plain-field pattern h x = refl
  plain-field (node k) h x = refl
  plain-field (list fs) h xs =
      let z = no-slots fs h in
      let e = rows_long (row_fields fs) xs ∙ sum_same (λ x. length (row_fields fs x)) (λ x. 0 + counted_fields row_counts 1 fs x) (λ x. plain-fields fs h x ∙ omega arith) xs in
      let q : beginning 0 + sum_of (λ x. 0 + counted_fields row_counts 1 fs x) xs ≡ beginning (slots fs) + sum_of (λ x. slots fs + counted_fields row_counts 1 fs x) xs = ap (λ n. beginning n + sum_of (λ x. n + counted_fields row_counts 1 fs x) xs) (sym z) in
      omega (arith, e) ∙ q

  pub plain-fields : (fs : Fields) → plain_fields fs ≡ true → (x : Contents fs) → length (row_fields fs x) ≡ counted_fields row_counts 1 fs x
  plain-fields no h x = refl
  plain-fields (one f) h x = plain-field f h x
  plain-fields (more f fs) h x =
      let p = and_parts (plain_field f) (plain_fields fs) h in
      length-append (row_field f x.0) (row_fields fs x.1) ∙ ap₂ ◌+◌ (plain-field f p.0 x.0) (plain-fields fs p.1 x.1)

headed-long : (k : Kind) (g : Tag k) (xs : List ℕ) → length (headed_as k g xs) ≡ head_length k + length xs
headed-long value g xs = omega arith
headed-long expr g xs = omega arith
headed-long type g xs = omega arith
headed-long scope g xs = omega arith
headed-long action_scope g xs = omega arith
headed-long uid g xs = omega arith
headed-long attrs g xs = omega arith
headed-long record_type g xs = omega arith
headed-long condition g xs = omega arith
headed-long entity g xs = omega arith
headed-long entity_entry g xs = omega arith
headed-long action_entry g xs = omega arith
headed-long request g xs = omega arith

one_unit : (k : Kind) → plain k ≡ true → unit k ≡ 1
one_unit value h = false-true h
one_unit expr h = refl
one_unit type h = refl
one_unit scope h = refl
one_unit action_scope h = refl
one_unit uid h = refl
one_unit attrs h = refl
one_unit record_type h = refl
one_unit condition h = refl
one_unit entity h = refl
one_unit entity_entry h = refl
one_unit action_entry h = refl
one_unit request h = refl

plain-long : (k : Kind) (g : Tag k) (c : Contents (fields k g)) → plain k ≡ true → length_tree k (make k g c) ≡ head_length k + counted_fields row_counts (unit k) (fields k g) c
plain-long k g c h =
    ap length (row-make k g c h) ∙ headed-long k g (row_fields (fields k g) c) ∙ ap (λ n. head_length k + n) (plain-fields (fields k g) (flat-fields k g h) c)
    ∙ ap (λ u. head_length k + counted_fields row_counts u (fields k g) c) (sym (one_unit k h))

-- ---- sets and records
set_long : (o : ℕ) (vs : List Value) → length (entries o (to_values vs)) + length (behind_all (to_values vs)) ≡ sum_of (λ v. 2 + length (behind_of v)) vs
set_long o [] = refl
set_long o (v ∷ vs) =
    omega (arith, length-append (behind_of v) (behind_all (to_values vs)), set_long (o + length (behind_of v)) vs)

record-long : (o : ℕ) (fs : List (Text × Value)) → length (attr_entries o (to_attrs fs)) + length (behind_attrs (to_attrs fs)) ≡ sum_of (λ f. 3 + (size_text f.0 + length (behind_of f.1))) fs
record-long o [] = refl
record-long o (f ∷ fs) =
    omega (arith, length-append (code_text f.0) (behind_of f.1 ++ behind_attrs (to_attrs fs)), length-append (behind_of f.1) (behind_attrs (to_attrs fs)), record-long (o + length (code_text f.0) + length (behind_of f.1)) fs)

attrs-long : (fs : List (Text × Value)) → length (row_attrs (to_attrs fs)) ≡ 2 + sum_of (λ f. 3 + (size_text f.0 + length (behind_of f.1))) fs
attrs-long fs =
    let o : ℕ = 2 + 3 * count_fields (to_attrs fs) in
    omega (arith, length-append (attr_entries o (to_attrs fs)) (behind_attrs (to_attrs fs)), record-long o fs)

value-long : (g : ValueTag) (c : Contents (value_fields g)) → length (behind_of (make_value g c)) ≡ 0 + counted_fields row_counts 0 (value_fields g) c
value-long bool_tag c = refl
value-long int_tag c = refl
value-long string_tag c = omega arith
value-long entity_tag c = omega (arith, length-append (code_text c.0) (code_text c.1))
value-long set_tag c =
    let o : ℕ = 2 + 2 * count_values (to_values c.1) in
    omega (arith, length-append (entries o (to_values c.1)) (behind_all (to_values c.1)), set_long o c.1)
value-long record_tag c = omega (arith, attrs-long c.1)

pub length-make : (k : Kind) (g : Tag k) (c : Contents (fields k g)) → length_tree k (make k g c) ≡ head_length k + counted_fields row_counts (unit k) (fields k g) c
length-make value g c = value-long g c
length-make expr g c = plain-long expr g c refl
length-make type g c = plain-long type g c refl
length-make scope g c = plain-long scope g c refl
length-make action_scope g c = plain-long action_scope g c refl
length-make uid g c = plain-long uid g c refl
length-make attrs g c = omega (arith, attrs-long c)
length-make record_type g c = plain-long record_type g c refl
length-make condition g c = plain-long condition g c refl
length-make entity g (u, (r, (us, t))) =
    let a = length-append (code_uid u) (row_attrs r ++ (row_attrs t ++ counted code_uid us)) in
    let b = length-append (row_attrs r) (row_attrs t ++ counted code_uid us) in
    let d = length-append (row_attrs t) (counted code_uid us) in
    let e = plain-field (list (one (node uid))) refl us in
    omega (arith, a, b, d, e)
length-make entity_entry g c = plain-long entity_entry g c refl
length-make action_entry g c = plain-long action_entry g c refl
length-make request g (p, (a, (r, t))) =
    let x = length-append (code_uid p) (code_uid a ++ (code_uid r ++ row_attrs t)) in
    let y = length-append (code_uid a) (code_uid r ++ row_attrs t) in
    let z = length-append (code_uid r) (row_attrs t) in
    omega (arith, x, y, z)

-- ---- the bytes pay for it
unit-few : (k : Kind) → 0 + unit k ≤ 3
unit-few value = omega arith
unit-few expr = omega arith
unit-few type = omega arith
unit-few scope = omega arith
unit-few action_scope = omega arith
unit-few uid = omega arith
unit-few attrs = omega arith
unit-few record_type = omega arith
unit-few condition = omega arith
unit-few entity = omega arith
unit-few entity_entry = omega arith
unit-few action_entry = omega arith
unit-few request = omega arith

begins-few : (i : Items) → beginning (slots (items_of i)) ≤ 3
begins-few Values = omega arith
begins-few NamedValues = omega arith
begins-few Exprs = omega arith
begins-few NamedExprs = omega arith
begins-few Types = omega arith
begins-few NamedTypes = omega arith
begins-few Uids = omega arith
begins-few Texts = omega arith
begins-few Conditions = omega arith
begins-few EntityEntries = omega arith
begins-few ActionEntries = omega arith

slots-few : (i : Items) → slots (items_of i) ≤ 3
slots-few Values = omega arith
slots-few NamedValues = omega arith
slots-few Exprs = omega arith
slots-few NamedExprs = omega arith
slots-few Types = omega arith
slots-few NamedTypes = omega arith
slots-few Uids = omega arith
slots-few Texts = omega arith
slots-few Conditions = omega arith
slots-few EntityEntries = omega arith
slots-few ActionEntries = omega arith

-- the form of a tree takes a byte, if it is written down
tag_one : {T : Type 0} (xs : List T) (f : T → Bool) (h : ℕ) (bs : Bytes) (g : T) (n : ℕ) → read_tag_of xs f h bs ≡ got g n → n ≡ 1
unfolding read_tag_of
tag_one xs f h [] g n e = cc
tag_one {T} xs f h (b ∷ bs) g n e = go (admitted f h (nth xs b)) e
  where
    go : (o : Option T) → got_one o ≡ got g n → n ≡ 1
    go (some y) q = cc
    go none q = cc

head-paid : (k : Kind) (h : ℕ) (bs : Bytes) (g : Tag k) (n : ℕ) → read_tag k h bs ≡ got g n → head_length k + 0 * n ≤ 3 * n
head-paid value h bs g n e = omega arith
head-paid expr h bs g n e = omega (arith, tag_one expr_tags inner_expr h bs g n e)
head-paid type h bs g n e = omega (arith, tag_one type_tags inner_type h bs g n e)
head-paid scope h bs g n e = omega (arith, tag_one scope_tags (λ _. false) h bs g n e)
head-paid action_scope h bs g n e = omega (arith, tag_one action_scope_tags (λ _. false) h bs g n e)
head-paid uid h bs g n e = omega arith
head-paid attrs h bs g n e = omega arith
head-paid record_type h bs g n e = omega arith
head-paid condition h bs g n e = omega arith
head-paid entity h bs g n e = omega arith
head-paid entity_entry h bs g n e = omega arith
head-paid action_entry h bs g n e = omega arith
head-paid request h bs g n e = omega arith

pub row_counts_lawful : Lawful row_counts
row_counts_lawful = record { made = length-make; some_weight = omega arith; units = unit-few; heads = head-paid; begins = begins-few; elements = slots-few }
