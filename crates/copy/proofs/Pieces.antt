-- Trees and their fields, one after another, as copying goes through them.
use Rattle.std.proofs.Common.{◌≡◌, ℕ, zero, suc, ◌+◌, ◌-◌, ◌<◌, Bool, true, false, cond, ◌&&◌, eqb, List, [], ◌∷◌, ◌++◌, length, get_or, drop, set, sym, refl, ap, ◌∙◌, subst, ⊎_elim, add-zero, arith}
use mathlib.Core.Option.{Option, some, none}
use Rattle.std.proofs.lemmas.List.{length-append, drop_more, drop_all, drop-drop, get_or-map, length-map}
use Rattle.std.proofs.lemmas.Bool.{cases_lt, cases_Bool, and_parts}
use Rattle.spec.specs.Bytes.{Bytes}
use Rattle.laws.proofs.Texts.{false-true}
use Rattle.rows.specs.Rows.{headed}
use Rattle.wire.specs.Read.{Read, got, turn, follow, nth, got_one, read_one}
use Rattle.wire.specs.Tags.{bool_tag, int_tag, string_tag, entity_tag, set_tag, record_tag, var_tag, ite_tag, and_tag, or_tag, not_tag, neg_tag, is_empty_tag, like_tag, is_tag, binary_tag, get_attr_tag, has_attr_tag, any_tag, eq_tag, mem_tag, is_mem_tag, scope_tag, in_any_tag}
use Rattle.wire.specs.Grammar.{Small, truth, variable, operator, bool_type, effect, condition_kind, Choice, choices, Kind, value, expr, type, scope, action_scope, uid, attrs, record_type, condition, entity, entity_entry, action_entry, request, Tree, Fields, Contents, Tag, expr_tags, type_tags, scope_tags, action_scope_tags, admitted, read_tag_of, read_tag, fields, make, Reader, read_field, read_fields, read_node}
use Rattle.wire.specs.Sizes.{small_number}
use Rattle.wire.proofs.Exact.{got-stops, got-long, got_same}
use Rattle.wire.proofs.Fields.{nth_number}
use Rattle.reader.specs.declared.grammar.Field.{Field as CodeField}
use Rattle.reader.specs.declared.grammar.Form.{Form}
use Rattle.reader.specs.Code.{field_of, fields_of, row_of, table_of, only_form, by_tag, forms_in}
use Rattle.reader.proofs.Trees.{tagged, untagged}
use Rattle.copy.specs.declared.leaves.Copied.{Copied}
use Rattle.copy.specs.Copied.{row_tree, row_field, row_fields, plain, plain_field, plain_fields}
use Rattle.copy.specs.Writing.{written, Done, done, after, Room}
use Rattle.copy.proofs.RowForms.{expr_number, type_number, scope_number, action_scope_number, headed_as, row-make}
use Rattle.copy.proofs.Writes.{written_none, written-before, written-more, Wrote, wrote, is-after}
use Rattle.copy.proofs.There.{follow-there, turn-there, PairAt, pair-there}

-- ---- one thing and another behind it
module _ {A B : Type 0} (fa : A → List ℕ) (fb : B → List ℕ) (R : Read A) (S : Bytes → Read B) (bs : Bytes) (at to len : ℕ) where
  abbrev both : Read (A × B)
  both = follow R (drop at bs) (λ x rest. turn (λ y. (x, y)) (S rest))

  abbrev row_both : A × B → List ℕ
  row_both p = fa p.0 ++ fb p.1

  two-there : (room : Room row_both both to len) → PairAt R S bs at room.what room.long
  two-there room = pair-there R S bs at room.what room.long room.is

  pub both_first : Room row_both both to len → Room fa R to len
  both_first room = let w = two-there room in record { what = room.what.0; long = w.first; is = w.one; fits = omega (arith, room.fits, length-append (fa room.what.0) (fb room.what.1)) }

  pub both-next : (xs ys : List ℕ) (p : Copied) → length xs ≡ len → Room row_both both to len → done ys p ≡ after fa xs to at R →
      Room fb (S (drop p.end bs)) p.to len × (after fb ys p.to p.end (S (drop p.end bs)) ≡ after row_both xs to at both)
  both-next xs ys p l room e =
      let w = two-there room in
      let x = room.what.0 in
      let y = room.what.1 in
      let v = wrote fa xs ys to at p R x w.first e w.one in
      let s : S (drop p.end bs) ≡ got y w.second = ap (λ q. S (drop q bs)) v.ends ∙ w.other in
      let long = length-append (fa x) (fb y) in
      let all : Wrote (written ys p.to (fb y)) xs (row_both (x, y)) to at room.long (record { end = p.end + w.second; to = p.to + length (fb y) }) =
      record {
        rows = ap (λ q. written q p.to (fb y)) v.rows ∙ written-more xs to (fa x) (fb y) p.to v.goes (omega (arith, room.fits, v.goes, long));
        ends = omega (arith, v.ends, w.takes);
        goes = omega (arith, v.goes, long);
      }
      in (
        record { what = y; long = w.second; is = s; fits = omega (arith, room.fits, v.goes, long) },
        ap (λ T. after fb ys p.to p.end T) s ∙ is-after row_both xs (written ys p.to (fb y)) to at (record { end = p.end + w.second; to = p.to + length (fb y) }) both (x, y) room.long room.is all,
      )

-- ---- field by field
abbrev pub leaves-off : Reader → Bytes → ℕ → ℕ → List ℕ → List CodeField → Done
leaves-off r bs at to xs fs = after (row_fields (fields_of fs)) xs to at (read_fields r (fields_of fs) (drop at bs))

module _ (r : Reader) (bs : Bytes) (at to len : ℕ) where
  abbrev pub Left : List CodeField → Type 0
  Left fs = Room (row_fields (fields_of fs)) (read_fields r (fields_of fs) (drop at bs)) to len

  pub left-first : (f : CodeField) (fs : List CodeField) → Left (f ∷ fs) → Room (row_field (field_of f)) (read_field r (field_of f) (drop at bs)) to len
  left-first f [] room = room
  left-first f (g ∷ fs) room = both_first (row_field (field_of f)) (row_fields (fields_of (g ∷ fs))) _ (λ rest. read_fields r (fields_of (g ∷ fs)) rest) bs at to len room

pub left-next : (r : Reader) (bs : Bytes) (at to len : ℕ) (f : CodeField) (fs : List CodeField) (xs ys : List ℕ) (p : Copied) → length xs ≡ len → Left r bs at to len (f ∷ fs) → done ys p ≡ after (row_field (field_of f)) xs to at (read_field r (field_of f) (drop at bs)) →
    Left r bs p.end p.to len fs × (leaves-off r bs p.end p.to ys fs ≡ leaves-off r bs at to xs (f ∷ fs))
left-next r bs at to len f [] xs ys p l room e =
    let v = wrote (row_field (field_of f)) xs ys to at p _ room.what room.long e room.is in (
      record { what = tt; long = 0; is = refl; fits = omega (arith, room.fits, v.goes) },
      (λ i. record { rows = written_none ys p.to i; end = add-zero p.end i; to = add-zero p.to i }) ∙ e,
    )
left-next r bs at to len f (g ∷ fs) xs ys p l room e = both-next (row_field (field_of f)) (row_fields (fields_of (g ∷ fs))) _ (λ rest. read_fields r (fields_of (g ∷ fs)) rest) bs at to len xs ys p l room e

pub flat-more : (f : CodeField) (fs : List CodeField) → plain_fields (fields_of (f ∷ fs)) ≡ true → (plain_field (field_of f) ≡ true) × (plain_fields (fields_of fs) ≡ true)
flat-more f [] e = (e, refl)
flat-more f (g ∷ fs) e = let w = and_parts _ _ e in (w.0, w.1)

-- ---- a byte that tells some few things apart is the number of what it tells
pub small-there : (e : Small) (bs : Bytes) (at : ℕ) (x : Choice e) (n : ℕ) → read_one (choices e) (drop at bs) ≡ got x n → (at < length bs) × (n ≡ 1) × (small_number e x ≡ get_or bs at 0)
unfolding read_one
small-there e bs at x n is = ⊎_elim (λ l. first l (rw (drop_more bs at 0 l) at is)) (λ l. got-stops x n 0 (sym (rw (drop_all at bs l) at is))) (cases_lt at (length bs))
  where
    number : (s : Small) (b : ℕ) (y : Choice s) → nth (choices s) b ≡ some y → small_number s y ≡ b
    number truth b y q = omega (arith, nth_number (small_number truth) (choices truth) 0 (refl, (refl, tt)) b y q)
    number variable b y q = omega (arith, nth_number (small_number variable) (choices variable) 0 (refl, (refl, (refl, (refl, tt)))) b y q)
    number operator b y q = omega (arith, nth_number (small_number operator) (choices operator) 0 (refl, (refl, (refl, (refl, (refl, (refl, (refl, (refl, (refl, (refl, (refl, (refl, tt)))))))))))) b y q)
    number bool_type b y q = omega (arith, nth_number (small_number bool_type) (choices bool_type) 0 (refl, (refl, (refl, tt))) b y q)
    number effect b y q = omega (arith, nth_number (small_number effect) (choices effect) 0 (refl, (refl, tt)) b y q)
    number condition_kind b y q = omega (arith, nth_number (small_number condition_kind) (choices condition_kind) 0 (refl, (refl, tt)) b y q)

    chosen : (o : Option (Choice e)) → nth (choices e) (get_or bs at 0) ≡ o → got_one o ≡ got x n → (n ≡ 1) × (small_number e x ≡ get_or bs at 0)
    chosen (some y) q s = let z : y ≡ x = got_same _ _ _ _ s in (sym (got-long _ _ _ _ s), number e (get_or bs at 0) x (q ∙ ap (λ w. some w) z))
    chosen none q s = got-stops x n 0 (sym s)

    first : at < length bs → got_one (nth (choices e) (get_or bs at 0)) ≡ got x n → (at < length bs) × (n ≡ 1) × (small_number e x ≡ get_or bs at 0)
    first l q = let w = chosen (nth (choices e) (get_or bs at 0)) refl q in (l, w.0, w.1)

-- ---- a tree
pub record Node (k : Kind) (bs : Bytes) (at h : ℕ) (x : Tree k) (n : ℕ) : Type 0 where
  pub high : 0 < h
  pub tag : Tag k
  pub takes : ℕ
  pub contents : Contents (fields k tag)
  pub rest : ℕ
  pub opens : read_tag k (h - 1) (drop at bs) ≡ got tag takes
  pub holds : read_fields (read_node (h - 1)) (fields k tag) (drop (at + takes) bs) ≡ got contents rest
  pub is : x ≡ make k tag contents
  pub long : n ≡ takes + rest

pub node-there : (k : Kind) (bs : Bytes) (at h : ℕ) (x : Tree k) (n : ℕ) → read_node h k (drop at bs) ≡ got x n → Node k bs at h x n
unfolding read_node
node-there k bs at zero x n e = got-stops x n 0 (sym e)
node-there k bs at (suc h) x n e =
    let high : 0 < suc h = omega arith in
    let p : h ≡ suc h - 1 = omega arith in
    let w = follow-there (read_tag k h (drop at bs)) (drop at bs) _ x n e in
    let v = turn-there (make k w.0) _ x w.2 w.4 in
    record {
      high = high;
      tag = w.0;
      takes = w.1;
      contents = v.0;
      rest = w.2;
      opens = ap (λ j. read_tag k j (drop at bs)) (sym p) ∙ w.3;
      holds = ap (λ j. read_fields (read_node j) (fields k w.0) (drop (at + w.1) bs)) (sym p) ∙ ap (λ ys. read_fields (read_node h) (fields k w.0) ys) (sym (drop-drop w.1 at bs)) ∙ v.1;
      is = v.2;
      long = w.5;
    }

pub flat-fields : (k : Kind) (g : Tag k) → plain k ≡ true → plain_fields (fields k g) ≡ true
flat-fields value g h = false-true h
flat-fields expr bool_tag h = refl
flat-fields expr int_tag h = refl
flat-fields expr string_tag h = refl
flat-fields expr entity_tag h = refl
flat-fields expr var_tag h = refl
flat-fields expr ite_tag h = refl
flat-fields expr and_tag h = refl
flat-fields expr or_tag h = refl
flat-fields expr not_tag h = refl
flat-fields expr neg_tag h = refl
flat-fields expr is_empty_tag h = refl
flat-fields expr like_tag h = refl
flat-fields expr is_tag h = refl
flat-fields expr binary_tag h = refl
flat-fields expr get_attr_tag h = refl
flat-fields expr has_attr_tag h = refl
flat-fields expr set_tag h = refl
flat-fields expr record_tag h = refl
flat-fields type bool_tag h = refl
flat-fields type int_tag h = refl
flat-fields type string_tag h = refl
flat-fields type entity_tag h = refl
flat-fields type set_tag h = refl
flat-fields type record_tag h = refl
flat-fields scope any_tag h = refl
flat-fields scope eq_tag h = refl
flat-fields scope mem_tag h = refl
flat-fields scope is_tag h = refl
flat-fields scope is_mem_tag h = refl
flat-fields action_scope (scope_tag any_tag) h = refl
flat-fields action_scope (scope_tag eq_tag) h = refl
flat-fields action_scope (scope_tag mem_tag) h = refl
flat-fields action_scope (scope_tag is_tag) h = refl
flat-fields action_scope (scope_tag is_mem_tag) h = refl
flat-fields action_scope in_any_tag h = refl
flat-fields uid g h = refl
flat-fields attrs g h = false-true h
flat-fields record_type g h = refl
flat-fields condition g h = refl
flat-fields entity g h = false-true h
flat-fields entity_entry g h = refl
flat-fields action_entry g h = refl
flat-fields request g h = false-true h

-- ---- a kind of one form
bare : (k : Kind) (fs : Fields) (g : Tag k) (row : List ℕ) → only_form fs ≡ forms_in k → headed_as k g row ≡ row
bare value fs g row e = refl
bare expr fs g row e = let z : ◌≡◌ {A = ℕ} 0 1 = cc in absurd (omega arith)
bare type fs g row e = let z : ◌≡◌ {A = ℕ} 0 1 = cc in absurd (omega arith)
bare scope fs g row e = let z : ◌≡◌ {A = ℕ} 0 1 = cc in absurd (omega arith)
bare action_scope fs g row e = let z : ◌≡◌ {A = ℕ} 0 1 = cc in absurd (omega arith)
bare uid fs g row e = refl
bare attrs fs g row e = refl
bare record_type fs g row e = refl
bare condition fs g row e = refl
bare entity fs g row e = refl
bare entity_entry fs g row e = refl
bare action_entry fs g row e = refl
bare request fs g row e = refl

-- ---- a kind of several forms: its byte is the number of the form
pub nth-there : {T : Type 0} (xs : List T) (f : T → Bool) (h b : ℕ) (rest : Bytes) (g : T) (n : ℕ) → read_tag_of xs f h (b ∷ rest) ≡ got g n → nth xs b ≡ some g
unfolding read_tag_of
nth-there {T} xs f h b rest g n e = go (nth xs b) e
  where
    kept : (y : T) (z : Bool) → got_one (cond z none (some y)) ≡ got g n → some y ≡ some g
    kept y true q = got-stops g n 0 (sym q)
    kept y false q = ap (λ w. some w) (got_same _ _ _ _ q)

    go : (o : Option T) → got_one (admitted f h o) ≡ got g n → o ≡ some g
    go (some y) q = kept y (f y && eqb h 0) q
    go none q = got-stops g n 0 (sym q)

tag-number : (k : Kind) (t : List (Bool × Fields)) (h b : ℕ) (rest : Bytes) (g : Tag k) (n : ℕ) (row : List ℕ) → plain k ≡ true → by_tag t ≡ forms_in k → read_tag k h (b ∷ rest) ≡ got g n → headed_as k g row ≡ headed b row
tag-number value t h b rest g n row p e q = false-true p
tag-number expr t h b rest g n row p e q = ap (λ m. headed m row) (omega (arith, nth_number expr_number expr_tags 0 (refl, (refl, (refl, (refl, (refl, (refl, (refl, (refl, (refl, (refl, (refl, (refl, (refl, (refl, (refl, (refl, (refl, (refl, tt)))))))))))))))))) b g (nth-there expr_tags _ h b rest g n q)))
tag-number type t h b rest g n row p e q = ap (λ m. headed m row) (omega (arith, nth_number type_number type_tags 0 (refl, (refl, (refl, (refl, (refl, (refl, tt)))))) b g (nth-there type_tags _ h b rest g n q)))
tag-number scope t h b rest g n row p e q = ap (λ m. headed m row) (omega (arith, nth_number scope_number scope_tags 0 (refl, (refl, (refl, (refl, (refl, tt))))) b g (nth-there scope_tags _ h b rest g n q)))
tag-number action_scope t h b rest g n row p e q = ap (λ m. headed m row) (omega (arith, nth_number action_scope_number action_scope_tags 0 (refl, (refl, (refl, (refl, (refl, (refl, tt)))))) b g (nth-there action_scope_tags _ h b rest g n q)))
tag-number uid t h b rest g n row p e q = let z : ◌≡◌ {A = ℕ} 0 1 = cc in absurd (omega arith)
tag-number attrs t h b rest g n row p e q = false-true p
tag-number record_type t h b rest g n row p e q = let z : ◌≡◌ {A = ℕ} 0 1 = cc in absurd (omega arith)
tag-number condition t h b rest g n row p e q = let z : ◌≡◌ {A = ℕ} 0 1 = cc in absurd (omega arith)
tag-number entity t h b rest g n row p e q = false-true p
tag-number entity_entry t h b rest g n row p e q = let z : ◌≡◌ {A = ℕ} 0 1 = cc in absurd (omega arith)
tag-number action_entry t h b rest g n row p e q = let z : ◌≡◌ {A = ℕ} 0 1 = cc in absurd (omega arith)
tag-number request t h b rest g n row p e q = false-true p

pub record Tagging (k : Kind) (table : List Form) (bs : Bytes) (at : ℕ) (g : Tag k) (n : ℕ) : Type 0 where
  pub inside : at < length bs
  pub form : get_or bs at 0 < length table
  pub takes : n ≡ 1
  pub shape : (d : Form) → (row_of (get_or table (get_or bs at 0) d)).1 ≡ fields k g
  pub head : (row : List ℕ) → plain k ≡ true → headed_as k g row ≡ headed (get_or bs at 0) row

-- the table's row past its end
abbrev pub beyond : Form
beyond = record { inner = false; fields = record { ref_ptr = (0, 0); now = [] } }

module _ (k : Kind) (table : List Form) (e : by_tag (table_of table) ≡ forms_in k) (h b : ℕ) (rest : Bytes) (g : Tag k) (n : ℕ) (is : read_tag k h (b ∷ rest) ≡ got g n) where
  form-there : b < length table
  form-there = ⊎_elim (λ l. l) (λ l. got-stops g n 0 (sym is ∙ (tagged k _ e).beyond h b rest (omega (arith, length-map table row_of)))) (cases_lt b (length table))

  by_form : (d : Form) → (n ≡ 1) × ((row_of (get_or table b d)).1 ≡ fields k g)
  by_form d =
      let l : b < length (table_of table) = omega (arith, form-there, length-map table row_of) in
      ⊎_elim (λ q. got-stops g n 0 (sym is ∙ (tagged k _ e).deep h b rest (row_of d) l q)) (λ q. there l q) (cases_Bool ((get_or (table_of table) b (row_of d)).0 && eqb h 0))
    where
      there : b < length (table_of table) → ((get_or (table_of table) b (row_of d)).0 && eqb h 0) ≡ false → (n ≡ 1) × ((row_of (get_or table b d)).1 ≡ fields k g)
      there l q =
          let w = (tagged k _ e).there h b rest (row_of d) l q in
          let s : got w.0 1 ≡ got g n = sym w.1 ∙ is in
          (sym (got-long _ _ _ _ s), ap (λ (row : Bool × Fields). row.1) (sym (get_or-map row_of table b d (row_of d) form-there)) ∙ w.2 ∙ ap (λ t. fields k t) (got_same _ _ _ _ s))

pub tagging : (k : Kind) (table : List Form) (bs : Bytes) (at h : ℕ) (g : Tag k) (n : ℕ) → by_tag (table_of table) ≡ forms_in k → read_tag k h (drop at bs) ≡ got g n → Tagging k table bs at g n
tagging k table bs at h g n e q = ⊎_elim within (λ l. got-stops g n 0 (sym q ∙ ap (λ xs. read_tag k h xs) (drop_all at bs l) ∙ (tagged k _ e).at-end h)) (cases_lt at (length bs))
  where
    within : at < length bs → Tagging k table bs at g n
    within l =
        let is : read_tag k h (get_or bs at 0 ∷ drop (at + 1) bs) ≡ got g n = ap (λ xs. read_tag k h xs) (sym (drop_more bs at 0 l)) ∙ q in
        record { inside = l; form = form-there k table e h (get_or bs at 0) _ g n is; takes = (by_form k table e h (get_or bs at 0) _ g n is beyond).0; shape = λ d. (by_form k table e h (get_or bs at 0) _ g n is d).1; head = λ row p. tag-number k _ h (get_or bs at 0) _ g n row p e is }

-- ---- a tree that is copied field by field
module _ (k : Kind) (bs : Bytes) (at h to len : ℕ) (flat : plain k ≡ true) (room : Room (row_tree k) (read_node h k (drop at bs)) to len) where
  pub node : Node k bs at h room.what room.long
  node = node-there k bs at h room.what room.long room.is

  pub high : 0 < h
  high = node.high

  row : row_tree k room.what ≡ headed_as k node.tag (row_fields (fields k node.tag) node.contents)
  row = ap (row_tree k) node.is ∙ row-make k node.tag node.contents flat

  abbrev Body : Fields → ℕ → ℕ → Type 0
  Body fs start t = Room (row_fields fs) (read_fields (read_node (h - 1)) fs (drop start bs)) t len

  -- of one form
  module _ (fs : Fields) (only : only_form fs ≡ forms_in k) where
    same_shape : (fs ≡ fields k node.tag) × (node.takes ≡ 0)
    same_shape =
        let w = untagged k (h - 1) (drop at bs) fs only in
        let s : got w.0 0 ≡ got node.tag node.takes = sym w.1 ∙ node.opens in
        (w.2 ∙ ap (λ t. fields k t) (got_same _ _ _ _ s), sym (got-long _ _ _ _ s))

    bare-row : row_tree k room.what ≡ row_fields (fields k node.tag) node.contents
    bare-row = row ∙ bare k fs node.tag _ only

    pub only-flat : plain_fields fs ≡ true
    only-flat = ap plain_fields same_shape.0 ∙ flat-fields k node.tag flat

    pub only-room : Body fs at to
    only-room = subst (λ s. Body s at to) (sym same_shape.0) (record { what = node.contents; long = node.rest; is = ap (λ m. read_fields (read_node (h - 1)) (fields k node.tag) (drop m bs)) (omega (arith, same_shape.1)) ∙ node.holds; fits = omega (arith, room.fits, ap length bare-row) })

    pub only-done : (xs ys : List ℕ) (r : Copied) → done ys r ≡ after (row_fields fs) xs to at (read_fields (read_node (h - 1)) fs (drop at bs)) → done ys r ≡ after (row_tree k) xs to at (read_node h k (drop at bs))
    only-done xs ys r e =
        let P : Fields → Type 0 = λ s. done ys r ≡ after (row_fields s) xs to at (read_fields (read_node (h - 1)) s (drop at bs)) in
        let holds : read_fields (read_node (h - 1)) (fields k node.tag) (drop at bs) ≡ got node.contents node.rest = ap (λ m. read_fields (read_node (h - 1)) (fields k node.tag) (drop m bs)) (omega (arith, same_shape.1)) ∙ node.holds in
        let w = wrote (row_fields (fields k node.tag)) xs ys to at r _ node.contents node.rest (subst P same_shape.0 e) holds in
        is-after (row_tree k) xs ys to at r _ room.what room.long room.is (record {
          rows = w.rows ∙ ap (λ zs. written xs to zs) (sym bare-row);
          ends = omega (arith, w.ends, node.long, same_shape.1);
          goes = omega (arith, w.goes, ap length bare-row);
        })

  -- of several forms
  module _ (table : List Form) (by : by_tag (table_of table) ≡ forms_in k) where
    pub tag-there : Tagging k table bs at node.tag node.takes
    tag-there = tagging k table bs at (h - 1) node.tag node.takes by node.opens

    headed-row : row_tree k room.what ≡ headed (get_or bs at 0) (row_fields (fields k node.tag) node.contents)
    headed-row = row ∙ tag-there.head _ flat

    module _ (fs : Fields) (shape : fs ≡ fields k node.tag) where
      holds : read_fields (read_node (h - 1)) (fields k node.tag) (drop (at + 1) bs) ≡ got node.contents node.rest
      holds = ap (λ m. read_fields (read_node (h - 1)) (fields k node.tag) (drop (at + m) bs)) (sym tag-there.takes) ∙ node.holds

      pub tagged-flat : plain_fields fs ≡ true
      tagged-flat = ap plain_fields shape ∙ flat-fields k node.tag flat

      pub tagged-room : Body fs (at + 1) (to + 2)
      tagged-room = subst (λ s. Body s (at + 1) (to + 2)) (sym shape) (record { what = node.contents; long = node.rest; is = holds; fits = omega (arith, room.fits, ap length headed-row) })

      pub tagged-done : (xs ys : List ℕ) (r : Copied) → to < length xs → to + 1 < length xs → done ys r ≡ after (row_fields fs) xs (to + 2) (at + 1) (read_fields (read_node (h - 1)) fs (drop (at + 1) bs)) →
          done (set (set ys (to + 1) (r.to - to)) to (get_or bs at 0)) r ≡ after (row_tree k) xs to at (read_node h k (drop at bs))
      tagged-done xs ys r a b e =
          let P : Fields → Type 0 = λ s. done ys r ≡ after (row_fields s) xs (to + 2) (at + 1) (read_fields (read_node (h - 1)) s (drop (at + 1) bs)) in
          let body = row_fields (fields k node.tag) node.contents in
          let w = wrote (row_fields (fields k node.tag)) xs ys (to + 2) (at + 1) r _ node.contents node.rest (subst P shape e) holds in
          let j : to + 2 ≡ to + 1 + 1 = omega arith in
          let l : r.to - to ≡ 2 + length body = omega (arith, w.goes) in
          is-after (row_tree k) xs _ to at r _ room.what room.long room.is (record {
            rows = ap (λ zs. set (set zs (to + 1) (r.to - to)) to (get_or bs at 0)) (w.rows ∙ ap (λ s. written xs s body) j)
                ∙ ap (λ zs. set zs to (get_or bs at 0)) (written-before xs (to + 1) body (r.to - to) b)
                ∙ written-before xs to ((r.to - to) ∷ body) (get_or bs at 0) a
                ∙ ap (λ s. written xs to (get_or bs at 0 ∷ (s ∷ body))) l ∙ ap (λ zs. written xs to zs) (sym headed-row);
            ends = omega (arith, w.ends, node.long, tag-there.takes);
            goes = omega (arith, w.goes, ap length headed-row);
          })
