use Rattle.std.proofs.Common.{◌≡◌, ℕ, ◌+◌, ◌-◌, ◌≤◌, List, [], ◌∷◌, ◌++◌, length, get_or, drop, set, sym, refl, ap, ◌∙◌, subst, add-zero, arith}
use Rattle.std.proofs.lemmas.List.{append_assoc, drop_more, drop_all, length-append, length_push}
use Rattle.spec.specs.Bytes.{Bytes}
use Rattle.rows.specs.Rows.{rows_of, counted}
use Rattle.wire.specs.Grammar.{Fields, small, list, Reader, read_field, read_node}
use Rattle.reader.specs.declared.grammar.Field.{Field as CodeField}
use Rattle.reader.specs.declared.grammar.Field.TheVariants.{Part}
use Rattle.reader.specs.Code.{kind_of, small_of, field_of, fields_of}
use Rattle.copy.specs.Copied.{row_field, row_fields, plain_field, plain_fields}
use Rattle.copy.specs.Writing.{written, Done, done, after, Room}
use Rattle.copy.proofs.Writes.{written_none, written-before, written-more, wrote, is-after}
use Rattle.copy.proofs.Parts.{none_yet, byte-there, all_there, step, rows_append, rows-push}
use Rattle.copy.proofs.Pieces
use Rattle.copy.proofs.plain.+field_fields_list_node.Goals as goal

-- ---- a field, by what it is
module _ (r : Reader) (bs : Bytes) (at to len : ℕ) where
  room-is : (f g : CodeField) → f ≡ g → Room (row_field (field_of f)) (read_field r (field_of f) (drop at bs)) to len → Room (row_field (field_of g)) (read_field r (field_of g) (drop at bs)) to len
  room-is f g e h = subst (λ y. Room (row_field (field_of y)) (read_field r (field_of y) (drop at bs)) to len) e h

  room-items : (fs gs : Fields) → fs ≡ gs → Room (row_field (list gs)) (read_field r (list gs) (drop at bs)) to len → Room (row_field (list fs)) (read_field r (list fs) (drop at bs)) to len
  room-items fs gs e h = subst (λ y. Room (row_field (list y)) (read_field r (list y) (drop at bs)) to len) (sym e) h

module _ (r : Reader) (bs : Bytes) (at to : ℕ) where
  done-is : (f g : CodeField) (xs : List ℕ) (d : Done) → f ≡ g → d ≡ after (row_field (field_of g)) xs to at (read_field r (field_of g) (drop at bs)) → d ≡ after (row_field (field_of f)) xs to at (read_field r (field_of f) (drop at bs))
  done-is f g xs d e h = subst (λ y. d ≡ after (row_field (field_of y)) xs to at (read_field r (field_of y) (drop at bs))) (sym e) h

  done-items : (fs gs : Fields) (xs : List ℕ) (d : Done) → fs ≡ gs → d ≡ after (row_field (list fs)) xs to at (read_field r (list fs) (drop at bs)) → d ≡ after (row_field (list gs)) xs to at (read_field r (list gs) (drop at bs))
  done-items fs gs xs d e h = subst (λ y. d ≡ after (row_field (list y)) xs to at (read_field r (list y) (drop at bs))) e h

pub field-byte-requires-clause-inside : goal.field-byte-requires-clause-inside
field-byte-requires-clause-inside t c =
    let room = room-is (read_node c.args.height) c.args.bytes.now c.args.from.end c.args.from.to _ _ _ c.in-Small.is c.requires.room in
    (Pieces.small-there _ c.args.bytes.now c.args.from.end _ _ room.is).0

pub field-word-requires-clause-room : goal.field-word-requires-clause-room
field-word-requires-clause-room t c = room-is (read_node c.args.height) c.args.bytes.now c.args.from.end c.args.from.to _ _ _ c.in-Word.is c.requires.room

pub field-text-requires-clause-room : goal.field-text-requires-clause-room
field-text-requires-clause-room t c = room-is (read_node c.args.height) c.args.bytes.now c.args.from.end c.args.from.to _ _ _ c.in-Text.is c.requires.room

pub field-pattern-requires-clause-room : goal.field-pattern-requires-clause-room
field-pattern-requires-clause-room t c = room-is (read_node c.args.height) c.args.bytes.now c.args.from.end c.args.from.to _ _ _ c.in-Pattern.is c.requires.room

pub field-node-requires : goal.field-node-requires
field-node-requires t c =
    (omega arith, (c.requires.inside, (ap (λ y. plain_field (field_of y)) (sym c.in-Node.is) ∙ c.requires.flat, room-is (read_node c.args.height) c.args.bytes.now c.args.from.end c.args.from.to _ _ _ c.in-Node.is c.requires.room)))

pub field-list-requires : goal.field-list-requires
field-list-requires t c = (
  omega arith,
  (
    c.requires.inside,
    (
      ap plain_fields c.item_fields.ensures.is ∙ ap (λ y. plain_field (field_of y)) (sym c.in-List.is) ∙ c.requires.flat,
      room-items (read_node c.args.height) c.args.bytes.now c.args.from.end c.args.from.to _ _ _ c.item_fields.ensures.is (room-is (read_node c.args.height) c.args.bytes.now c.args.from.end c.args.from.to _ _ _ c.in-List.is c.requires.room),
    ),
  ),
)

pub field-returns-in-Part-clause-reads : goal.field-returns-in-Part-clause-reads
field-returns-in-Part-clause-reads t c =
    done-is (read_node c.args.height) c.args.bytes.now c.args.from.end c.args.from.to _ _ c.args.rows.now _ c.in-Part.is (λ i. record { rows = sym (written_none c.args.rows.now c.args.from.to) i; end = sym (add-zero c.args.from.end) i; to = sym (add-zero c.args.from.to) i })

pub field-returns-in-Small : goal.field-returns-in-Small
field-returns-in-Small t c =
    let bs = c.args.bytes.now in
    let room = room-is (read_node c.args.height) bs c.args.from.end c.args.from.to _ _ _ c.in-Small.is c.requires.room in
    let w = Pieces.small-there _ bs c.args.from.end _ _ room.is in
    let e = c.byte.ensures in
    record {
      reads = done-is (read_node c.args.height) bs c.args.from.end c.args.from.to _ _ c.args.rows.now _ c.in-Small.is (is-after (row_field (small (small_of c.in-Small.field-0))) c.args.rows.now _ c.args.from.to c.args.from.end c.byte.result _ room.what room.long room.is (record {
        rows = e.writes ∙ ap (λ y. written c.args.rows.now c.args.from.to (y ∷ [])) (sym w.2);
        ends = e.ends ∙ ap (λ n. c.args.from.end + n) (sym w.1);
        goes = e.goes;
      }));
      inside = record { forth = omega (arith, e.ends); ends = omega (arith, e.ends, w.0); on = omega (arith, e.goes); fits = omega (arith, e.goes, room.fits) };
    }

pub field-returns-in-Word-clause-reads : goal.field-returns-in-Word-clause-reads
field-returns-in-Word-clause-reads t c = done-is (read_node c.args.height) c.args.bytes.now c.args.from.end c.args.from.to _ _ c.args.rows.now _ c.in-Word.is c.word.ensures.reads

pub field-returns-in-Text-clause-reads : goal.field-returns-in-Text-clause-reads
field-returns-in-Text-clause-reads t c = done-is (read_node c.args.height) c.args.bytes.now c.args.from.end c.args.from.to _ _ c.args.rows.now _ c.in-Text.is c.text.ensures.reads

pub field-returns-in-Pattern-clause-reads : goal.field-returns-in-Pattern-clause-reads
field-returns-in-Pattern-clause-reads t c = done-is (read_node c.args.height) c.args.bytes.now c.args.from.end c.args.from.to _ _ c.args.rows.now _ c.in-Pattern.is c.pattern.ensures.reads

pub field-returns-in-Node-clause-reads : goal.field-returns-in-Node-clause-reads
field-returns-in-Node-clause-reads t c = done-is (read_node c.args.height) c.args.bytes.now c.args.from.end c.args.from.to _ _ c.args.rows.now _ c.in-Node.is c.node.ensures.reads

pub field-returns-in-List-clause-reads : goal.field-returns-in-List-clause-reads
field-returns-in-List-clause-reads t c =
    done-is (read_node c.args.height) c.args.bytes.now c.args.from.end c.args.from.to _ _ c.args.rows.now _ c.in-List.is (done-items (read_node c.args.height) c.args.bytes.now c.args.from.end c.args.from.to _ _ c.args.rows.now _ c.item_fields.ensures.is c.list.ensures.reads)

-- ---- fields, one after another
pub fields-field-copied-requires : goal.fields-field-copied-requires
fields-field-copied-requires t c =
    let v = c.loop-f.invariant in
    let more = drop_more c.args.shape.now c.loop-f.f-index Part c.loop-f-test.true in (
      omega (arith, v.0),
      (
        v.1,
        (
          (Pieces.flat-more (get_or c.args.shape.now c.loop-f.f-index Part) (drop (c.loop-f.f-index + 1) c.args.shape.now) (ap (λ fs. plain_fields (fields_of fs)) (sym more) ∙ v.3)).0,
          Pieces.left-first (read_node c.args.height) c.args.bytes.now c.loop-f.copied.end c.loop-f.copied.to (length c.loop-f.rows) (get_or c.args.shape.now c.loop-f.f-index Part) (drop (c.loop-f.f-index + 1) c.args.shape.now) (subst (Pieces.Left (read_node c.args.height) c.args.bytes.now c.loop-f.copied.end c.loop-f.copied.to (length c.loop-f.rows)) more v.4),
        ),
      ),
    )

pub fields-loop-f-preserved : goal.fields-loop-f-preserved
fields-loop-f-preserved t c =
    let v = c.loop-f.invariant in
    let i = c.field-copied.ensures.inside in
    let r = read_node c.args.height in
    let bs = c.args.bytes.now in
    let more = drop_more c.args.shape.now c.loop-f.f-index Part c.loop-f-test.true in
    let w = Pieces.left-next r bs c.loop-f.copied.end c.loop-f.copied.to (length c.loop-f.rows) _ _ c.loop-f.rows c.field-copied.new.rows c.field-copied.result refl
    (subst (Pieces.Left r bs c.loop-f.copied.end c.loop-f.copied.to (length c.loop-f.rows)) more v.4) c.field-copied.ensures.reads in (
      omega (arith, v.0, i.forth),
      i.ends,
      omega (arith, v.2, i.on),
      (Pieces.flat-more (get_or c.args.shape.now c.loop-f.f-index Part) (drop (c.loop-f.f-index + 1) c.args.shape.now) (ap (λ fs. plain_fields (fields_of fs)) (sym more) ∙ v.3)).1,
      subst (λ n. Pieces.Left r bs c.field-copied.result.end c.field-copied.result.to n (drop (c.loop-f.f-index + 1) c.args.shape.now)) (sym c.field-copied.auto.rows) w.0,
      w.1 ∙ ap (λ fs. Pieces.leaves-off r bs c.loop-f.copied.end c.loop-f.copied.to c.loop-f.rows fs) (sym more) ∙ v.5,
    )

pub fields-returns-clause-reads : goal.fields-returns-clause-reads
fields-returns-clause-reads t c =
    let v = c.loop-f.invariant in
    let r = read_node c.args.height in
    let bs = c.args.bytes.now in
    let none_left : drop c.loop-f.f-index c.args.shape.now ≡ [] = drop_all c.loop-f.f-index c.args.shape.now c.loop-f-test.false in
    (λ i. record { rows = sym (written_none c.loop-f.rows c.loop-f.copied.to) i; end = sym (add-zero c.loop-f.copied.end) i; to = sym (add-zero c.loop-f.copied.to) i })
    ∙ ap (λ fs. Pieces.leaves-off r bs c.loop-f.copied.end c.loop-f.copied.to c.loop-f.rows fs) (sym none_left) ∙ v.5

-- ---- a list
one-fits : {X : Type 0} (f : X → List ℕ) (before behind others : List X) (x : X) (start next len : ℕ) → behind ≡ x ∷ others → next ≡ start + length (rows_of f before) → start + length (rows_of f (before ++ behind)) ≤ len → next + length (f x) ≤ len
one-fits f before behind others x start next len e n h =
    omega (arith, n, h, ap length (rows_append f before behind), length-append (rows_of f before) (rows_of f behind), ap (λ zs. length (rows_of f zs)) e, length-append (f x) (rows_of f others))

pub list-loop-copied-init : goal.list-loop-copied-init
list-loop-copied-init t c =
    let room = c.requires.room in
    (none_yet _ c.args.bytes.now c.args.from.end room.what room.long room.is, omega arith, c.requires.inside, omega arith, refl, omega arith, omega (arith, room.fits), sym (written_none c.args.rows.now (c.args.from.to + 1)))

pub list-bounds-bytes-copied : goal.list-bounds-bytes-copied
list-bounds-bytes-copied t c = (byte-there _ c.args.bytes.now c.args.from.end c.loop-copied.copied.end c.loop-copied.invariant.0).0

pub list-fields-copied-requires : goal.list-fields-copied-requires
list-fields-copied-requires t c =
    let v = c.loop-copied.invariant in
    let p = v.0 in
    let f = row_fields (fields_of c.args.shape.now) in
    let in' = (byte-there _ c.args.bytes.now c.args.from.end c.loop-copied.copied.end p).0 in
    let s = step _ c.args.bytes.now c.args.from.end c.loop-copied.copied.end p c.loop-copied-test.true in (
      omega (arith, v.1, in'),
      (omega (arith, in'), (c.requires.flat, record { what = s.one; long = s.takes; is = s.is; fits = one-fits f p.before p.behind s.others s.one (c.args.from.to + 1) c.loop-copied.copied.to _ s.split v.5 v.6 })),
    )

pub list-loop-copied-preserved : goal.list-loop-copied-preserved
list-loop-copied-preserved t c =
    let v = c.loop-copied.invariant in
    let p = v.0 in
    let f = row_fields (fields_of c.args.shape.now) in
    let xs = c.args.rows.now in
    let s = step _ c.args.bytes.now c.args.from.end c.loop-copied.copied.end p c.loop-copied-test.true in
    let w = wrote f c.loop-copied.rows c.fields-copied.new.rows c.loop-copied.copied.to (c.loop-copied.copied.end + 1) c.fields-copied.result _ s.one s.takes c.fields-copied.ensures.reads s.is in
    let i = c.fields-copied.ensures.inside in
    let q = s.on c.fields-copied.result.end w.ends in
    let push : rows_of f q.0.before ≡ rows_of f p.before ++ f s.one = ap (rows_of f) q.1 ∙ rows-push f p.before s.one in
    let same : q.0.before ++ q.0.behind ≡ p.before ++ p.behind =
    ap (λ zs. zs ++ q.0.behind) q.1 ∙ ap (λ zs. (p.before ++ (s.one ∷ [])) ++ zs) q.2 ∙ append_assoc p.before (s.one ∷ []) s.others ∙ ap (λ zs. p.before ++ zs) (sym s.split) in
    let long = length-append (rows_of f p.before) (f s.one) in (
      q.0,
      omega (arith, v.1, i.forth),
      i.ends,
      omega (arith, v.3, i.forth),
      omega (arith, v.4, ap length q.1, length_push p.before s.one),
      omega (arith, w.goes, v.5, ap length push, long),
      omega (arith, v.6, ap (λ zs. length (rows_of f zs)) same, c.fields-copied.auto.rows),
      w.rows ∙ ap (λ zs. written zs c.loop-copied.copied.to (f s.one)) v.7 ∙ written-more xs (c.args.from.to + 1) (rows_of f p.before) (f s.one) c.loop-copied.copied.to v.5 (omega (arith, i.on, i.fits, c.loop-copied.auto.rows)) ∙ ap (λ zs. written xs (c.args.from.to + 1) zs) (sym push),
    )

pub list-returns : goal.list-returns
list-returns t c =
    let v = c.loop-copied.invariant in
    let p = v.0 in
    let f = row_fields (fields_of c.args.shape.now) in
    let xs = c.args.rows.now in
    let to = c.args.from.to in
    let b = byte-there _ c.args.bytes.now c.args.from.end c.loop-copied.copied.end p in
    let a = all_there _ c.args.bytes.now c.args.from.end c.loop-copied.copied.end p (b.1 c.loop-copied-test.false) in
    let long = ap length (rows_append f p.before p.behind) ∙ length-append (rows_of f p.before) (rows_of f p.behind) in
    record {
      reads = is-after (counted f) xs _ to c.args.from.end (record { end = c.loop-copied.copied.end + 1; to = c.loop-copied.copied.to }) _ p.before p.long a.0 (record {
        rows = ap (λ zs. set zs to c.loop-copied.count) v.7 ∙ written-before xs to (rows_of f p.before) c.loop-copied.count (omega (arith, v.6, c.loop-copied.auto.rows)) ∙ ap (λ n. written xs to (n ∷ rows_of f p.before)) v.4;
        ends = a.1;
        goes = omega (arith, v.5);
      });
      inside = record { forth = omega (arith, v.1); ends = omega (arith, b.0); on = omega (arith, v.5); fits = omega (arith, v.5, v.6, long, c.loop-copied.auto.rows) };
    }

-- ---- a tree
pub node-overflow_sub-height : goal.node-overflow_sub-height
node-overflow_sub-height t c = Pieces.high (kind_of c.args.kind) c.args.bytes.now c.args.from.end c.args.height c.args.from.to _ c.requires.flat c.requires.room

pub node-fields-requires : goal.node-fields-requires
node-fields-requires t c =
    let high = Pieces.high (kind_of c.args.kind) c.args.bytes.now c.args.from.end c.args.height c.args.from.to _ c.requires.flat c.requires.room in
    (omega (arith, high), (c.requires.inside, (Pieces.only-flat (kind_of c.args.kind) c.args.bytes.now c.args.from.end c.args.height c.args.from.to _ c.requires.flat c.requires.room _ c.in-Only.ensures, Pieces.only-room (kind_of c.args.kind) c.args.bytes.now c.args.from.end c.args.height c.args.from.to _ c.requires.flat c.requires.room _ c.in-Only.ensures)))

pub node-returns-in-Only-clause-reads : goal.node-returns-in-Only-clause-reads
node-returns-in-Only-clause-reads t c = Pieces.only-done (kind_of c.args.kind) c.args.bytes.now c.args.from.end c.args.height c.args.from.to _ c.requires.flat c.requires.room _ c.in-Only.ensures c.args.rows.now _ c.fields.result c.fields.ensures.reads

pub node-bounds-bytes-from : goal.node-bounds-bytes-from
node-bounds-bytes-from t c = (Pieces.tag-there (kind_of c.args.kind) c.args.bytes.now c.args.from.end c.args.height c.args.from.to _ c.requires.flat c.requires.room c.in-ByTag.table.now c.in-ByTag.ensures).inside

pub node-bounds-table-from : goal.node-bounds-table-from
node-bounds-table-from t c =
    omega (arith, (Pieces.tag-there (kind_of c.args.kind) c.args.bytes.now c.args.from.end c.args.height c.args.from.to _ c.requires.flat c.requires.room c.in-ByTag.table.now c.in-ByTag.ensures).form, c.from.ensures)

pub node-overflow_sub-height-2 : goal.node-overflow_sub-height-2
node-overflow_sub-height-2 t c = Pieces.high (kind_of c.args.kind) c.args.bytes.now c.args.from.end c.args.height c.args.from.to _ c.requires.flat c.requires.room

pub node-fields-body-requires : goal.node-fields-body-requires
node-fields-body-requires t c =
    let high = Pieces.high (kind_of c.args.kind) c.args.bytes.now c.args.from.end c.args.height c.args.from.to _ c.requires.flat c.requires.room in
    let g = Pieces.tag-there (kind_of c.args.kind) c.args.bytes.now c.args.from.end c.args.height c.args.from.to _ c.requires.flat c.requires.room c.in-ByTag.table.now c.in-ByTag.ensures in
    let shape = ap (λ j. fields_of (get_or c.in-ByTag.table.now j Pieces.beyond).fields.now) c.from.ensures ∙ g.shape Pieces.beyond in
    (omega (arith, high, g.inside), (omega (arith, g.inside), (Pieces.tagged-flat (kind_of c.args.kind) c.args.bytes.now c.args.from.end c.args.height c.args.from.to _ c.requires.flat c.requires.room c.in-ByTag.table.now c.in-ByTag.ensures _ shape, Pieces.tagged-room (kind_of c.args.kind) c.args.bytes.now c.args.from.end c.args.height c.args.from.to _ c.requires.flat c.requires.room c.in-ByTag.table.now c.in-ByTag.ensures _ shape)))

pub node-returns-clause-reads : goal.node-returns-clause-reads
node-returns-clause-reads t c =
    let g = Pieces.tag-there (kind_of c.args.kind) c.args.bytes.now c.args.from.end c.args.height c.args.from.to _ c.requires.flat c.requires.room c.in-ByTag.table.now c.in-ByTag.ensures in
    let shape = ap (λ j. fields_of (get_or c.in-ByTag.table.now j Pieces.beyond).fields.now) c.from.ensures ∙ g.shape Pieces.beyond in
    let i = c.fields-body.ensures.inside in
    let k = c.fields-body.auto.rows in
    ap (λ b. done (set (set c.fields-body.new.rows (c.args.from.to + 1) (c.fields-body.result.to - c.args.from.to)) c.args.from.to b) c.fields-body.result) c.from-2.ensures
    ∙ Pieces.tagged-done (kind_of c.args.kind) c.args.bytes.now c.args.from.end c.args.height c.args.from.to _ c.requires.flat c.requires.room c.in-ByTag.table.now c.in-ByTag.ensures _ shape c.args.rows.now _ c.fields-body.result (omega (arith, i, k)) (omega (arith, i, k)) c.fields-body.ensures.reads
