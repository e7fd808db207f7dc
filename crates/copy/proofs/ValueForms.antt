-- What stands in the bytes where a value was read, by the byte that tells its form.
use Rattle.std.proofs.Common.{◌≡◌, ℕ, zero, suc, ◌+◌, ◌-◌, ◌<◌, ◌≤◌, Bool, List, [], ◌∷◌, length, get_or, drop, sym, refl, ap, ◌∙◌, subst, ⊎_elim, arith}
use mathlib.Core.Option.{Option, some, none}
use Rattle.std.proofs.lemmas.List.{drop_more, drop_all, length-drop}
use Rattle.std.proofs.lemmas.Bool.{cases_lt}
use Rattle.spec.specs.Bytes.{Bytes}
use Rattle.spec.specs.Basics.{Text}
use Rattle.spec.specs.Values.{Value, Attrs}
use Rattle.laws.proofs.Texts.{none-some}
use Rattle.rows.specs.Rows.{value_tag, payload, behind_of, row_attrs}
use Rattle.wire.specs.Read.{Read, got, past, turn, nth, got_one, read_word, read_text, read_one, read_list}
use Rattle.words.specs.Words.{big_endian}
use Rattle.wire.specs.Tags.{ValueTag, bool_tag, int_tag, string_tag, entity_tag, set_tag, record_tag}
use Rattle.wire.specs.Grammar.{value, attrs, truth, choices, Contents, value_tags, inner_value, value_fields, make_value, text, two, node, admitted, read_tag_of, read_tag, read_fields, read_node}
use Rattle.wire.proofs.Exact.{got-stops, got-long}
use Rattle.wire.proofs.Fields.{nth_number}
use Rattle.copy.specs.declared.leaves.Copied.{Copied}
use Rattle.copy.specs.Copied.{row_fields}
use Rattle.copy.specs.Writing.{written, done, after, Room}
use Rattle.copy.specs.Placed.{set_row, record_row}
use Rattle.copy.proofs.Writes.{written_none, wrote, is-after}
use Rattle.copy.proofs.There.{some_same, turn-there, word-there}
use Rattle.copy.proofs.Parts.{past-there, list-byte}
use Rattle.copy.proofs.Pieces.{Node, node-there, nth-there, small-there}

-- ---- the byte
nth-below : {X : Type 0} (xs : List X) (b : ℕ) (x : X) → nth xs b ≡ some x → b < length xs
nth-below [] b x e = none-some e
nth-below (y ∷ ys) zero x e = omega arith
nth-below (y ∷ ys) (suc b) x e = omega (arith, nth-below ys b x e)

tag-long : {T : Type 0} (xs : List T) (f : T → Bool) (h b : ℕ) (rest : Bytes) (g : T) (n : ℕ) → read_tag_of xs f h (b ∷ rest) ≡ got g n → n ≡ 1
unfolding read_tag_of
tag-long {T} xs f h b rest g n e = go (admitted f h (nth xs b)) e
  where
    go : (o : Option T) → got_one o ≡ got g n → n ≡ 1
    go (some y) q = sym (got-long _ _ _ _ q)
    go none q = got-stops g n 0 (sym q)

tag-none : {T : Type 0} (xs : List T) (f : T → Bool) (h : ℕ) (g : T) (n : ℕ) → read_tag_of xs f h [] ≡ got g n → ⊥
unfolding read_tag_of
tag-none xs f h g n e = got-stops g n 0 (sym e)

-- ---- a value
pub record ValueAt (bs : Bytes) (at h : ℕ) (v : Value) (n : ℕ) : Type 0 where
  pub high : 0 < h
  pub inside : at < length bs
  pub tag : ValueTag
  pub form : nth value_tags (get_or bs at 0) ≡ some tag
  pub contents : Contents (value_fields tag)
  pub rest : ℕ
  pub reads : read_fields (read_node (h - 1)) (value_fields tag) (drop (at + 1) bs) ≡ got contents rest
  pub is : v ≡ make_value tag contents
  pub long : n ≡ 1 + rest

pub value_there : (bs : Bytes) (at h : ℕ) (v : Value) (n : ℕ) → read_node h value (drop at bs) ≡ got v n → ValueAt bs at h v n
value_there bs at h v n e = ⊎_elim within (λ l. absurd (tag-none value_tags inner_value (h - 1) w.tag w.takes (ap (λ xs. read_tag value (h - 1) xs) (sym (drop_all at bs l)) ∙ w.opens))) (cases_lt at (length bs))
  where
    w : Node value bs at h v n
    w = node-there value bs at h v n e

    within : at < length bs → ValueAt bs at h v n
    within l =
        let q : read_tag_of value_tags inner_value (h - 1) (get_or bs at 0 ∷ drop (at + 1) bs) ≡ got w.tag w.takes = ap (λ xs. read_tag value (h - 1) xs) (sym (drop_more bs at 0 l)) ∙ w.opens in
        let one = tag-long value_tags inner_value (h - 1) (get_or bs at 0) _ w.tag w.takes q in
        record {
          high = w.high;
          inside = l;
          tag = w.tag;
          form = nth-there value_tags inner_value (h - 1) (get_or bs at 0) _ w.tag w.takes q;
          contents = w.contents;
          rest = w.rest;
          reads = ap (λ k. read_fields (read_node (h - 1)) (value_fields w.tag) (drop (at + k) bs)) (sym one) ∙ w.holds;
          is = w.is;
          long = omega (arith, w.long, one);
        }

module _ (bs : Bytes) (at h : ℕ) (v : Value) (n : ℕ) (a : ValueAt bs at h v n) where
  pub few-forms : get_or bs at 0 ≤ 5
  few-forms = omega (arith, nth-below value_tags (get_or bs at 0) a.tag a.form)

  value_number : ValueTag → ℕ
  value_number bool_tag = 0
  value_number int_tag = 1
  value_number string_tag = 2
  value_number entity_tag = 3
  value_number set_tag = 4
  value_number record_tag = 5

  -- its tag is that byte
  pub tag_is : value_tag v ≡ get_or bs at 0
  unfolding value_number
  tag_is = ap value_tag a.is ∙ number a.tag a.contents ∙ omega (arith, nth_number value_number value_tags 0 (refl, (refl, (refl, (refl, (refl, (refl, tt)))))) (get_or bs at 0) a.tag a.form)
    where
      number : (g : ValueTag) (c : Contents (value_fields g)) → value_tag (make_value g c) ≡ value_number g
      number bool_tag c = refl
      number int_tag c = refl
      number string_tag c = refl
      number entity_tag c = refl
      number set_tag c = refl
      number record_tag c = refl

  -- by the byte: what it holds
  pub record Formed (g : ValueTag) : Type 0 where
    pub holds : Contents (value_fields g)
    pub reads : read_fields (read_node (h - 1)) (value_fields g) (drop (at + 1) bs) ≡ got holds a.rest
    pub is : v ≡ make_value g holds

  pub formed : (b : ℕ) (g : ValueTag) → get_or bs at 0 ≡ b → nth value_tags b ≡ some g → Formed g
  formed b g e q =
      let same : a.tag ≡ g = some_same _ _ (sym a.form ∙ ap (λ k. nth value_tags k) e ∙ q) in
      subst Formed same (record { holds = a.contents; reads = a.reads; is = a.is })

-- ---- what each form holds
part-there : {B : Type 0} (R : Read B) (c : Unit {0} × B) (n : ℕ) → past 0 (turn (λ y. (tt, y)) R) ≡ got c n → R ≡ got c.1 n
part-there {B} R c n e =
    let w = past-there 0 (turn (λ y. (tt, y)) R) c n e in
    let v = turn-there (λ y. (tt, y)) R c w.0 w.1 in
    v.1 ∙ ap (λ (z : Unit {0} × B). got z.1 w.0) (sym v.2) ∙ ap (λ k. got c.1 k) (omega (arith, w.2))

module _ (bs : Bytes) (at h : ℕ) (v : Value) (n : ℕ) (a : ValueAt bs at h v n) where
  pub truth-held : get_or bs at 0 ≡ 0 → (at + 1 < length bs) × ((o : ℕ) → payload v o ≡ get_or bs (at + 1) 0) × (n ≡ 2) × (behind_of v ≡ [])
  truth-held e =
      let f = formed bs at h v n a 0 bool_tag e refl in
      let w = small-there truth bs (at + 1) f.holds.1 a.rest (part-there (read_one (choices truth) (drop (at + 1) bs)) f.holds a.rest f.reads) in
      (w.0, (λ o. ap (λ x. payload x o) f.is ∙ w.2), omega (arith, a.long, w.1), ap behind_of f.is)

  pub number-held : get_or bs at 0 ≡ 1 → (at + 1 + 8 ≤ length bs) × ((o : ℕ) → payload v o ≡ big_endian (drop (at + 1) bs)) × (n ≡ 9) × (behind_of v ≡ [])
  number-held e =
      let f = formed bs at h v n a 1 int_tag e refl in
      let w = word-there (drop (at + 1) bs) f.holds.1 a.rest (part-there (read_word (drop (at + 1) bs)) f.holds a.rest f.reads) in
      (omega (arith, w.0, length-drop (at + 1) bs, a.inside), (λ o. ap (λ x. payload x o) f.is ∙ w.1), omega (arith, a.long, w.2), ap behind_of f.is)

  pub offset-held : (get_or bs at 0 ≡ 0 → ⊥) → (get_or bs at 0 ≡ 1 → ⊥) → (o : ℕ) → payload v o ≡ o
  offset-held p q o = ap (λ x. payload x o) a.is ∙ go a.tag a.contents (tag_is bs at h v n a) a.is
    where
      go : (g : ValueTag) (c : Contents (value_fields g)) → value_tag v ≡ get_or bs at 0 → v ≡ make_value g c → payload (make_value g c) o ≡ o
      go bool_tag c t i = absurd (p (sym t ∙ ap value_tag i))
      go int_tag c t i = absurd (q (sym t ∙ ap value_tag i))
      go string_tag c t i = refl
      go entity_tag c t i = refl
      go set_tag c t i = refl
      go record_tag c t i = refl

  pub text-held : get_or bs at 0 ≡ 2 → (t : Contents (value_fields string_tag)) × (read_text (drop (at + 1) bs) ≡ got t a.rest) × (behind_of v ≡ row_fields (value_fields string_tag) t)
  text-held e = let f = formed bs at h v n a 2 string_tag e refl in (f.holds, f.reads, ap behind_of f.is)

  pub entity-held : get_or bs at 0 ≡ 3 → (t : Contents (value_fields entity_tag)) × (read_fields (read_node 0) (two text text) (drop (at + 1) bs) ≡ got t a.rest) × (behind_of v ≡ row_fields (two text text) t)
  entity-held e = let f = formed bs at h v n a 3 entity_tag e refl in (f.holds, f.reads, ap behind_of f.is)

  pub set-held : get_or bs at 0 ≡ 4 → (vs : List Value) × (read_list (read_node (h - 1) value) 0 (drop (at + 1) bs) ≡ got vs a.rest) × (behind_of v ≡ set_row vs)
  set-held e = let f = formed bs at h v n a 4 set_tag e refl in (f.holds.1, part-there (read_list (read_node (h - 1) value) 0 (drop (at + 1) bs)) f.holds a.rest f.reads, ap behind_of f.is)

  pub record-held : get_or bs at 0 ≡ 5 → (fs : List (Text × Value)) × (read_list (read_fields (read_node (h - 1)) (two text (node value))) 0 (drop (at + 1) bs) ≡ got fs a.rest) × (behind_of v ≡ record_row fs)
  record-held e = let f = formed bs at h v n a 5 record_tag e refl in (f.holds.1, part-there (read_list (read_fields (read_node (h - 1)) (two text (node value))) 0 (drop (at + 1) bs)) f.holds a.rest f.reads, ap behind_of f.is)

-- ---- a value that is copied: what it holds has room behind its tag, and what was copied of that is what was copied of the value
module _ (bs : Bytes) (at h to len : ℕ) (room : Room behind_of (read_node h value (drop at bs)) to len) where
  pub value-at : ValueAt bs at h room.what room.long
  value-at = value_there bs at h room.what room.long room.is

  module _ {X : Type 0} (f : X → List ℕ) (R : Read X) (w : (x : X) × (R ≡ got x value-at.rest) × (behind_of room.what ≡ f x)) where
    pub held-room : Room f R to len
    held-room = record { what = w.0; long = value-at.rest; is = w.1; fits = omega (arith, room.fits, ap length w.2) }

    pub held-done : (xs ys : List ℕ) (r : Copied) → done ys r ≡ after f xs to (at + 1) R → done ys r ≡ after behind_of xs to at (read_node h value (drop at bs))
    held-done xs ys r d =
        let v = wrote f xs ys to (at + 1) r R w.0 value-at.rest d w.1 in
        is-after behind_of xs ys to at r _ room.what room.long room.is (record { rows = v.rows ∙ ap (λ z. written xs to z) (sym w.2); ends = omega (arith, v.ends, value-at.long); goes = v.goes ∙ ap (λ z. to + length z) (sym w.2) })

  -- one that lies in its payload
  pub held-none : (xs : List ℕ) (e : ℕ) → behind_of room.what ≡ [] → room.long ≡ e → done xs (record { end = at + e; to = to }) ≡ after behind_of xs to at (read_node h value (drop at bs))
  held-none xs e n l = is-after behind_of xs xs to at (record { end = at + e; to = to }) _ room.what room.long room.is (record { rows = sym (written_none xs to) ∙ ap (λ q. written xs to q) (sym n); ends = omega (arith, l); goes = omega (arith, ap length n) })

-- ---- a record of attributes that stands by itself
pub record AttrsAt (bs : Bytes) (at h : ℕ) (x : Attrs) (n : ℕ) : Type 0 where
  pub high : 0 < h
  pub inside : at < length bs
  pub contents : List (Text × Value)
  pub reads : read_list (read_fields (read_node (h - 1)) (two text (node value))) 0 (drop at bs) ≡ got contents n
  pub is : row_attrs x ≡ record_row contents

pub attrs-there : (bs : Bytes) (at h : ℕ) (x : Attrs) (n : ℕ) → read_node h attrs (drop at bs) ≡ got x n → AttrsAt bs at h x n
attrs-there bs at h x n e =
    let w = node-there attrs bs at h x n e in
    let none : 0 ≡ w.takes = got-long tt w.tag 0 w.takes w.opens in
    let r : read_list (read_fields (read_node (h - 1)) (two text (node value))) 0 (drop at bs) ≡ got w.contents n =
    ap (λ k. read_list (read_fields (read_node (h - 1)) (two text (node value))) 0 (drop k bs)) (omega (arith, none)) ∙ w.holds ∙ ap (λ k. got w.contents k) (omega (arith, none, w.long)) in
    record { high = w.high; inside = (list-byte (read_fields (read_node (h - 1)) (two text (node value))) bs at w.contents n r).0; contents = w.contents; reads = r; is = ap row_attrs w.is }
