use Rattle.std.proofs.Common.{◌≡◌, ℕ, ◌+◌, ◌-◌, ◌*◌, ◌<◌, ◌≤◌, List, length, drop, set, sym, refl, ap, ◌∙◌, subst, arith}
use Rattle.std.proofs.lemmas.List.{length-append, length_push}
use Rattle.spec.specs.Bytes.{Bytes}
use Rattle.spec.specs.Values.{code_text}
use Rattle.rows.specs.Rows.{behind_of}
use Rattle.wire.specs.Read.{got, read_text, read_list}
use Rattle.wire.specs.Grammar.{Fields, Contents, two, text, value, read_fields, read_node}
use Rattle.reader.specs.Ends.{Got}
use Rattle.reader.proofs.Stood.{is-got}
use Rattle.copy.specs.declared.leaves.Copied.{Copied}
use Rattle.copy.specs.declared.values.Slots.{Slots}
use Rattle.copy.specs.Copied.{row_fields}
use Rattle.copy.specs.Writing.{written, Room}
use Rattle.copy.specs.Placed.{how_many, set_row, record_row, value_slot, attr_behind, element_fields, element_slot, element_behind, width_of, node_row, Filled}
use Rattle.copy.proofs.Writes.{written-before, written-more, written-long, wrote, is-after}
use Rattle.copy.proofs.There.{pair-there}
use Rattle.copy.proofs.Parts.{byte-there, all_there, step, more-there, none-left}
use Rattle.copy.proofs.Pieces.{both_first, both-next}
use Rattle.copy.proofs.Filling.{slot-wide, width-few, slots-long, node-whole, node-long, filling-none, one-fits, filling-more, filling-last}
use Rattle.copy.proofs.ValueForms
use Rattle.copy.proofs.values.+behind_collection_element.Goals as goal

-- ---- a value, by its form
pub behind-returns-in-Bool : goal.behind-returns-in-Bool
behind-returns-in-Bool t c =
    let w = ValueForms.truth-held _ _ _ _ _ (ValueForms.value-at c.args.bytes.now c.args.from.end c.args.height c.args.from.to _ c.requires.room) c.in-Bool.ensures in
    record { reads = ValueForms.held-none c.args.bytes.now c.args.from.end c.args.height c.args.from.to _ c.requires.room c.args.rows.now 2 w.3 w.2; inside = record { forth = omega arith; ends = omega (arith, w.0); on = omega arith; fits = omega (arith, c.requires.room.fits) } }

pub behind-returns-in-Int : goal.behind-returns-in-Int
behind-returns-in-Int t c =
    let w = ValueForms.number-held _ _ _ _ _ (ValueForms.value-at c.args.bytes.now c.args.from.end c.args.height c.args.from.to _ c.requires.room) c.in-Int.ensures in
    record { reads = ValueForms.held-none c.args.bytes.now c.args.from.end c.args.height c.args.from.to _ c.requires.room c.args.rows.now 9 w.3 w.2; inside = record { forth = omega arith; ends = omega (arith, w.0); on = omega arith; fits = omega (arith, c.requires.room.fits) } }

pub behind-text-requires-clause-room : goal.behind-text-requires-clause-room
behind-text-requires-clause-room t c =
    ValueForms.held-room c.args.bytes.now c.args.from.end c.args.height c.args.from.to _ c.requires.room code_text _ (ValueForms.text-held _ _ _ _ _ (ValueForms.value-at c.args.bytes.now c.args.from.end c.args.height c.args.from.to _ c.requires.room) c.in-String.ensures)

pub behind-returns-in-String-clause-reads : goal.behind-returns-in-String-clause-reads
behind-returns-in-String-clause-reads t c =
    ValueForms.held-done c.args.bytes.now c.args.from.end c.args.height c.args.from.to _ c.requires.room code_text _ (ValueForms.text-held _ _ _ _ _ (ValueForms.value-at c.args.bytes.now c.args.from.end c.args.height c.args.from.to _ c.requires.room) c.in-String.ensures) c.args.rows.now _ c.text.result c.text.ensures.reads

pub behind-fields-requires-clause-room : goal.behind-fields-requires-clause-room
behind-fields-requires-clause-room t c =
    ValueForms.held-room c.args.bytes.now c.args.from.end c.args.height c.args.from.to _ c.requires.room (row_fields (two text text)) _ (ValueForms.entity-held _ _ _ _ _ (ValueForms.value-at c.args.bytes.now c.args.from.end c.args.height c.args.from.to _ c.requires.room) c.in-Entity.ensures)

pub behind-returns-in-Entity-clause-reads : goal.behind-returns-in-Entity-clause-reads
behind-returns-in-Entity-clause-reads t c =
    ValueForms.held-done c.args.bytes.now c.args.from.end c.args.height c.args.from.to _ c.requires.room (row_fields (two text text)) _ (ValueForms.entity-held _ _ _ _ _ (ValueForms.value-at c.args.bytes.now c.args.from.end c.args.height c.args.from.to _ c.requires.room) c.in-Entity.ensures) c.args.rows.now _ c.fields.result c.fields.ensures.reads

pub behind-overflow_sub-height : goal.behind-overflow_sub-height
behind-overflow_sub-height t c = (ValueForms.value-at c.args.bytes.now c.args.from.end c.args.height c.args.from.to _ c.requires.room).high

pub behind-collection-requires : goal.behind-collection-requires
behind-collection-requires t c =
    let a = ValueForms.value-at c.args.bytes.now c.args.from.end c.args.height c.args.from.to _ c.requires.room in
    (omega (arith, a.high), (omega (arith, a.inside), ValueForms.held-room c.args.bytes.now c.args.from.end c.args.height c.args.from.to _ c.requires.room set_row _ (ValueForms.set-held _ _ _ _ _ a c.in-Set.ensures)))

pub behind-returns-in-Set-clause-reads : goal.behind-returns-in-Set-clause-reads
behind-returns-in-Set-clause-reads t c =
    ValueForms.held-done c.args.bytes.now c.args.from.end c.args.height c.args.from.to _ c.requires.room set_row _ (ValueForms.set-held _ _ _ _ _ (ValueForms.value-at c.args.bytes.now c.args.from.end c.args.height c.args.from.to _ c.requires.room) c.in-Set.ensures) c.args.rows.now _ c.collection.result c.collection.ensures.reads

pub behind-overflow_sub-height-in-Record : goal.behind-overflow_sub-height-in-Record
behind-overflow_sub-height-in-Record t c = (ValueForms.value-at c.args.bytes.now c.args.from.end c.args.height c.args.from.to _ c.requires.room).high

pub behind-collection-requires-in-Record : goal.behind-collection-requires-in-Record
behind-collection-requires-in-Record t c =
    let a = ValueForms.value-at c.args.bytes.now c.args.from.end c.args.height c.args.from.to _ c.requires.room in
    (omega (arith, a.high), (omega (arith, a.inside), ValueForms.held-room c.args.bytes.now c.args.from.end c.args.height c.args.from.to _ c.requires.room record_row _ (ValueForms.record-held _ _ _ _ _ a c.in-Record.ensures)))

pub behind-returns-in-Record-clause-reads : goal.behind-returns-in-Record-clause-reads
behind-returns-in-Record-clause-reads t c =
    ValueForms.held-done c.args.bytes.now c.args.from.end c.args.height c.args.from.to _ c.requires.room record_row _ (ValueForms.record-held _ _ _ _ _ (ValueForms.value-at c.args.bytes.now c.args.from.end c.args.height c.args.from.to _ c.requires.room) c.in-Record.ensures) c.args.rows.now _ c.collection-in-Record.result c.collection-in-Record.ensures.reads

-- ---- an element, by what the node has slots for
abbrev HasRoom : Bytes → ℕ → ℕ → ℕ → ℕ → Slots → Type 0
HasRoom bs at h to len s = Room (element_behind s) (read_fields (read_node h) (element_fields s) (drop at bs)) to len

abbrev Fills : Bytes → ℕ → List ℕ → List ℕ → ℕ → ℕ → Copied → Copied → Slots → Type 0
Fills bs h ys xs home place from r s =
    (x : Contents (element_fields s)) (n : ℕ) → read_fields (read_node h) (element_fields s) (drop from.end bs) ≡ got x n → Filled ys xs (element_slot s (from.to - home) x) (element_behind s x) place from.to from.end n r

pub element-behind-value-requires : goal.element-behind-value-requires
element-behind-value-requires t c =
    (omega (arith, ap width_of c.in-Values.is), (c.requires.inside, subst (HasRoom c.args.bytes.now c.args.from.end c.args.height c.args.from.to (length c.args.rows.now)) c.in-Values.is c.requires.room))

pub element-slot-requires-clause-stands : goal.element-slot-requires-clause-stands
element-slot-requires-clause-stands t c =
    let room = subst (HasRoom c.args.bytes.now c.args.from.end c.args.height c.args.from.to (length c.args.rows.now)) c.in-Values.is c.requires.room in
    (c.args.height, is-got _ room.what room.long room.is)

pub element-returns-in-Values-clause-fills : goal.element-returns-in-Values-clause-fills
element-returns-in-Values-clause-fills t c =
    let xs = c.args.rows.now in
    let from = c.args.from in
    subst (Fills c.args.bytes.now c.args.height c.slot.new.rows xs c.args.home c.args.place from c.behind-value.result) (sym c.in-Values.is) (λ v n e.
    let w = wrote behind_of xs c.behind-value.new.rows from.to from.end c.behind-value.result _ v n c.behind-value.ensures.reads e in
    record { rows = c.slot.ensures c.args.height v n e ∙ ap (λ q. written q c.args.place (value_slot (from.to - c.args.home) v)) w.rows; ends = w.ends; goes = w.goes })

pub element-text-name-requires-clause-room : goal.element-text-name-requires-clause-room
element-text-name-requires-clause-room t c =
    both_first code_text behind_of (read_text (drop c.args.from.end c.args.bytes.now)) (read_node c.args.height value) c.args.bytes.now c.args.from.end c.args.from.to _
    (subst (HasRoom c.args.bytes.now c.args.from.end c.args.height c.args.from.to (length c.args.rows.now)) c.in-Attributes.is c.requires.room)

pub element-element-value-requires : goal.element-element-value-requires
element-element-value-requires t c =
    let room = subst (HasRoom c.args.bytes.now c.args.from.end c.args.height c.args.from.to (length c.args.rows.now)) c.in-Attributes.is c.requires.room in
    let w = both-next code_text behind_of (read_text (drop c.args.from.end c.args.bytes.now)) (read_node c.args.height value) c.args.bytes.now c.args.from.end c.args.from.to _ c.args.rows.now _ c.text-name.result refl room c.text-name.ensures.reads in
    let three = ap width_of c.in-Attributes.is in
    (omega (arith, three), (c.text-name.ensures.inside.ends, (omega (arith, c.requires.order), (omega (arith, three, c.requires.apart, c.text-name.ensures.inside.on), rw c.text-name.auto.rows w.0))))

pub element-returns-in-Attributes-clause-fills : goal.element-returns-in-Attributes-clause-fills
element-returns-in-Attributes-clause-fills t c =
    let xs = c.args.rows.now in
    let from = c.args.from in
    let name = c.text-name.result in
    let place = c.args.place in
    let o = from.to - c.args.home in
    let i = c.text-name.ensures.inside in
    let three = ap width_of c.in-Attributes.is in
    subst (Fills c.args.bytes.now c.args.height (set c.element-value.new.rows place o) xs c.args.home place from c.element-value.result) (sym c.in-Attributes.is) (λ f n e.
    let p = pair-there (read_text (drop from.end c.args.bytes.now)) (read_node c.args.height value) c.args.bytes.now from.end f n e in
    let a = wrote code_text xs c.text-name.new.rows from.to from.end name _ f.0 p.first c.text-name.ensures.reads p.one in
    let there : read_node c.args.height value (drop name.end c.args.bytes.now) ≡ got f.1 p.second = ap (λ k. read_node c.args.height value (drop k c.args.bytes.now)) a.ends ∙ p.other in
    let b = c.element-value.ensures.fills f.1 p.second there in
    let long = length-append (code_text f.0) (behind_of f.1) in
    let shift : name.to - c.args.home ≡ o + length (code_text f.0) = omega (arith, a.goes, c.requires.order, c.requires.apart) in
    let behind : written c.text-name.new.rows name.to (behind_of f.1) ≡ written xs from.to (attr_behind f) =
    ap (λ q. written q name.to (behind_of f.1)) a.rows ∙ written-more xs from.to (code_text f.0) (behind_of f.1) name.to a.goes (omega (arith, i.fits)) in
    let all : from.to + length (attr_behind f) ≤ length xs = omega (arith, long, a.goes, b.goes, c.element-value.ensures.inside.fits, c.text-name.auto.rows) in
    let wide = written-long xs from.to (attr_behind f) all in
    record {
      rows = ap (λ q. set q place o) (b.rows ∙ ap (λ q. written q (place + 1) (value_slot (name.to - c.args.home) f.1)) behind ∙ ap (λ k. written (written xs from.to (attr_behind f)) (place + 1) (value_slot k f.1)) shift)
          ∙ written-before (written xs from.to (attr_behind f)) place (value_slot (o + length (code_text f.0)) f.1) o (omega (arith, wide, c.requires.apart, three, all));
      ends = omega (arith, a.ends, b.ends, p.takes);
      goes = omega (arith, a.goes, b.goes, long);
    })

-- ---- all elements
abbrev StandsAs : ℕ → Bytes → Fields → Type 0
StandsAs h bs fs = Got (read_list (read_fields (read_node h) fs) 0 bs)

-- how many they are is how many were counted
counted : (h : ℕ) (bs : Bytes) (s : Slots) (fs : Fields) (n k : ℕ) (xs : List (Contents (element_fields s))) → n ≡ how_many (read_list (read_fields (read_node h) fs) 0 bs) → fs ≡ element_fields s → read_list (read_fields (read_node h) (element_fields s)) 0 bs ≡ got xs k → n ≡ length xs
counted h bs s fs n k xs e f g = e ∙ ap (λ q. how_many (read_list (read_fields (read_node h) q) 0 bs)) f ∙ ap how_many g

pub collection-count-count-requires : goal.collection-count-count-requires
collection-count-count-requires t c =
    subst (StandsAs c.args.height (drop c.args.from.end c.args.bytes.now)) (sym c.fields.ensures) (is-got _ c.requires.room.what c.requires.room.long c.requires.room.is)

pub collection-overflow_mul-copied : goal.collection-overflow_mul-copied
collection-overflow_mul-copied t c =
    let room = c.requires.room in
    let n = counted _ _ c.args.slots _ _ _ room.what c.count-count.ensures c.fields.ensures room.is in
    let size = ap (λ w. w * c.count-count.result) c.width-width.ensures ∙ ap (λ k. width_of c.args.slots * k) n in
    omega (arith, size, node-long c.args.slots room.what, room.fits)

pub collection-overflow_add-copied : goal.collection-overflow_add-copied
collection-overflow_add-copied t c =
    let room = c.requires.room in
    let n = counted _ _ c.args.slots _ _ _ room.what c.count-count.ensures c.fields.ensures room.is in
    let size = ap (λ w. w * c.count-count.result) c.width-width.ensures ∙ ap (λ k. width_of c.args.slots * k) n in
    omega (arith, size, node-long c.args.slots room.what, room.fits)

pub collection-loop-i-init : goal.collection-loop-i-init
collection-loop-i-init t c =
    let room = c.requires.room in
    let s = c.args.slots in
    let n = counted _ _ s _ _ _ room.what c.count-count.ensures c.fields.ensures room.is in
    let size = ap (λ w. w * c.count-count.result) c.width-width.ensures in
    let many = ap (λ k. width_of s * k) n in
    let l = node-long s room.what in
    let f = filling-none (element_slot s) (element_behind s) (width_of s) (slot-wide s) (read_fields (read_node c.args.height) (element_fields s)) c.args.bytes.now c.args.from.end c.args.rows.now c.args.from.to (width_of s * c.count-count.result)
    room.what room.long (c.args.from.to + 2 + width_of s * 0) (c.args.from.to + 2 + c.width-width.result * c.count-count.result) room.is
    (many ∙ sym (slots-long (element_slot s) (element_behind s) (width_of s) (slot-wide s) 0 room.what)) (omega (arith, many, l, room.fits)) (omega arith) (omega (arith, size)) in
    (omega arith, (byte-there (read_fields (read_node c.args.height) (element_fields s)) c.args.bytes.now c.args.from.end c.args.from.end f.part).0, omega arith, omega (arith, size, many, l, room.fits), f, refl, n)

pub collection-element-copied-requires : goal.collection-element-copied-requires
collection-element-copied-requires t c =
    let v = c.loop-i.invariant in
    let f = v.4 in
    let s = c.args.slots in
    let r = read_fields (read_node c.args.height) (element_fields s) in
    let left : 0 < length f.part.behind = omega (arith, v.5, v.6, length-append f.part.before f.part.behind, c.loop-i-test.true) in
    let one = step r c.args.bytes.now c.args.from.end c.loop-i.copied.end f.part (more-there r c.args.bytes.now c.args.from.end c.loop-i.copied.end f.part left) in
    let u = one-fits (element_slot s) (element_behind s) (width_of s) (slot-wide s) r c.args.bytes.now c.args.from.end c.args.rows.now c.args.from.to (width_of s * c.count-count.result) c.loop-i.copied.end c.loop-i.rows (c.args.from.to + 2 + width_of s * c.loop-i.i) c.loop-i.copied.to f one in
    let place = ap (λ w. w * c.loop-i.i) c.width-width.ensures in
    (omega (arith, width-few s), (omega (arith, v.1), (omega (arith, v.2), (omega (arith, u.0, place), record { what = one.one; long = one.takes; is = one.is; fits = omega (arith, u.1, c.loop-i.auto.rows) }))))

pub collection-loop-i-preserved : goal.collection-loop-i-preserved
collection-loop-i-preserved t c =
    let v = c.loop-i.invariant in
    let f = v.4 in
    let s = c.args.slots in
    let r = read_fields (read_node c.args.height) (element_fields s) in
    let bs = c.args.bytes.now in
    let to = c.args.from.to in
    let i = c.loop-i.i in
    let copied = c.loop-i.copied in
    let entry = to + 2 + width_of s * i in
    let left : 0 < length f.part.behind = omega (arith, v.5, v.6, length-append f.part.before f.part.behind, c.loop-i-test.true) in
    let one = step r bs c.args.from.end copied.end f.part (more-there r bs c.args.from.end copied.end f.part left) in
    let u = one-fits (element_slot s) (element_behind s) (width_of s) (slot-wide s) r bs c.args.from.end c.args.rows.now to (width_of s * c.count-count.result) copied.end c.loop-i.rows entry copied.to f one in
    let place : to + 2 + c.width-width.result * i ≡ entry = ap (λ w. to + 2 + w * i) c.width-width.ensures in
    let w = c.element-copied.ensures.fills one.one one.takes one.is in
    let j = c.element-copied.ensures.inside in
    let more = filling-more (element_slot s) (element_behind s) (width_of s) (slot-wide s) r bs c.args.from.end c.args.rows.now to (width_of s * c.count-count.result) copied.end c.loop-i.rows entry copied.to f one
    c.element-copied.result.end c.element-copied.new.rows (to + 2 + width_of s * (i + 1)) c.element-copied.result.to
    (w.rows ∙ ap (λ k. written (written c.loop-i.rows copied.to (element_behind s one.one)) k (element_slot s (copied.to - to) one.one)) place) w.ends (omega arith) w.goes in
    let before = ap length more.1 ∙ length_push f.part.before one.one in
    let all = length-append f.part.before f.part.behind in
    let still = length-append more.0.part.before more.0.part.behind in (
      omega (arith, v.0, j.forth),
      (byte-there r bs c.args.from.end c.element-copied.result.end more.0.part).0,
      omega (arith, u.0, j.on),
      omega (arith, j.fits, c.element-copied.auto.rows),
      more.0,
      omega (arith, v.5, before),
      omega (arith, v.6, all, still, before, ap length more.2, ap length one.split),
    )

pub collection-returns : goal.collection-returns
collection-returns t c =
    let v = c.loop-i.invariant in
    let f = v.4 in
    let s = c.args.slots in
    let r = read_fields (read_node c.args.height) (element_fields s) in
    let bs = c.args.bytes.now in
    let xs = c.args.rows.now in
    let to = c.args.from.to in
    let count = c.count-count.result in
    let copied = c.loop-i.copied in
    let n : count ≡ length f.part.before = omega (arith, v.5, c.loop-i-test.false, c.loop-i.auto.i-end) in
    let z = none-left r bs c.args.from.end copied.end f.part (omega (arith, n, v.6, length-append f.part.before f.part.behind)) in
    let a = all_there r bs c.args.from.end copied.end f.part z in
    let w = filling-last (element_slot s) (element_behind s) (width_of s) (slot-wide s) r bs c.args.from.end xs to (width_of s * count) copied.end c.loop-i.rows (to + 2 + width_of s * c.loop-i.i) copied.to f z count in
    let row = sym (node-whole s count f.part.before n) in
    record {
      reads = is-after (node_row s) xs _ to c.args.from.end (record { end = copied.end + 1; to = copied.to }) _ f.part.before f.part.long a.0 (record { rows = w.0 ∙ ap (λ q. written xs to q) row; ends = a.1; goes = w.1 ∙ ap (λ q. to + length q) row });
      inside = record { forth = omega (arith, v.0); ends = omega (arith, v.1); on = omega (arith, v.2); fits = omega (arith, v.3, c.loop-i.auto.rows) };
    }
