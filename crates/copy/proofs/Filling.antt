-- A node while it is filled: the slots of its elements in front, and what lies behind them further on.
use Rattle.std.proofs.Common.{◌≡◌, ℕ, ◌+◌, ◌-◌, ◌*◌, ◌≤◌, List, [], ◌∷◌, ◌++◌, length, get_or, drop, set, sym, refl, ap, ◌∙◌, arith}
use Rattle.std.proofs.lemmas.List.{length-append, append_assoc, append-nil}
use Rattle.spec.specs.Basics.{Text}
use Rattle.spec.specs.Bytes.{Bytes}
use Rattle.spec.specs.Values.{Value, to_values, to_attrs, code_text}
use Rattle.rows.specs.Rows.{rows_of, lengthed, count_values, count_fields, behind_of, entries, behind_all, attr_entries, behind_attrs}
use Rattle.wire.specs.Read.{Read, got, read_list}
use Rattle.copy.specs.Writing.{written}
use Rattle.wire.specs.Grammar.{Contents}
use Rattle.copy.specs.declared.values.Slots.{Slots}
use Rattle.copy.specs.declared.values.Slots.TheVariants.{Values, Attributes}
use Rattle.copy.specs.Placed.{set_row, record_row, value_slot, attr_slot, attr_behind, element_fields, element_slot, element_behind, width_of, node_row}
use Rattle.copy.proofs.Writes.{written_none, written-before, written-more, written-long, written_apart}
use Rattle.copy.proofs.Parts.{Part, Step, none_yet, none-behind, rows_append, rows-push}

module _ {X : Type 0} (slot : ℕ → X → List ℕ) (tail : X → List ℕ) where
  -- the slots of elements, of which the first one's offset is o
  abbrev pub slots : ℕ → List X → List ℕ
  slots o [] = []
  slots o (x ∷ xs) = slot o x ++ slots (o + length (tail x)) xs

  slots-push : (o : ℕ) (xs : List X) (x : X) → slots o (xs ++ (x ∷ [])) ≡ slots o xs ++ slot (o + length (rows_of tail xs)) x
  slots-push o [] x = append-nil (slot o x) ∙ ap (λ m. slot m x) (omega arith)
  slots-push o (y ∷ ys) x =
      let p : o + length (tail y) + length (rows_of tail ys) ≡ o + length (tail y ++ rows_of tail ys) = omega (arith, length-append (tail y) (rows_of tail ys)) in
      ap (λ q. slot o y ++ q) (slots-push (o + length (tail y)) ys x ∙ ap (λ m. slots (o + length (tail y)) ys ++ slot m x) p) ∙ sym (append_assoc (slot o y) (slots (o + length (tail y)) ys) _)

  module _ (w : ℕ) (wide : (o : ℕ) (x : X) → length (slot o x) ≡ w) where
    -- how many numbers they are does not hang on where they lie
    slots_same : (o p : ℕ) (xs : List X) → length (slots o xs) ≡ length (slots p xs)
    slots_same o p [] = refl
    slots_same o p (x ∷ xs) = omega (arith, length-append (slot o x) (slots (o + length (tail x)) xs), length-append (slot p x) (slots (p + length (tail x)) xs), slots_same (o + length (tail x)) (p + length (tail x)) xs, wide o x, wide p x)

    slots-both : (o : ℕ) (xs ys : List X) → length (slots o (xs ++ ys)) ≡ length (slots o xs) + length (slots o ys)
    slots-both o [] ys = omega arith
    slots-both o (x ∷ xs) ys =
        omega (arith, length-append (slot o x) (slots (o + length (tail x)) (xs ++ ys)), length-append (slot o x) (slots (o + length (tail x)) xs), slots-both (o + length (tail x)) xs ys, slots_same (o + length (tail x)) o ys)

    slots-more : (o : ℕ) (x : X) (xs : List X) → length (slots o (x ∷ xs)) ≡ w + length (slots o xs)
    slots-more o x xs = omega (arith, length-append (slot o x) (slots (o + length (tail x)) xs), slots_same (o + length (tail x)) o xs, wide o x)

    pub slots-long : (o : ℕ) (xs : List X) → length (slots o xs) ≡ w * length xs
    slots-long o [] = omega arith
    slots-long o (x ∷ xs) = omega (arith, slots-more o x xs, slots-long o xs)

    module _ (r : Bytes → Read X) (bs : Bytes) (at : ℕ) (xs : List ℕ) (to size : ℕ) where
      pub record Filling (end : ℕ) (rows : List ℕ) (entry next : ℕ) : Type 0 where
        pub part : Part r bs at end
        pub full : size ≡ length (slots 0 (part.before ++ part.behind))
        pub room : to + 2 + size + length (rows_of tail (part.before ++ part.behind)) ≤ length xs
        pub entry_at : entry ≡ to + 2 + length (slots 0 part.before)
        pub next-at : next ≡ to + 2 + size + length (rows_of tail part.before)
        pub is : rows ≡ written (written xs (to + 2) (slots (2 + size) part.before)) (to + 2 + size) (rows_of tail part.before)

      abbrev pub filling-none : (all : List X) (n entry next : ℕ) → read_list r 0 (drop at bs) ≡ got all n → size ≡ length (slots 0 all) → to + 2 + size + length (rows_of tail all) ≤ length xs → entry ≡ to + 2 → next ≡ to + 2 + size → Filling at xs entry next
      filling-none all n entry next e f h i j =
          record { part = none_yet r bs at all n e; full = f; room = h; entry_at = omega (arith, i); next-at = omega (arith, j); is = sym (ap (λ q. written q (to + 2 + size) []) (written_none xs (to + 2)) ∙ written_none xs (to + 2 + size)) }

      module _ (end : ℕ) (rows : List ℕ) (entry next : ℕ) (f : Filling end rows entry next) where
        pub filled-so-far : length rows ≡ length xs
        filled-so-far =
            let p = f.part in
            let l = slots-both 0 p.before p.behind in
            let t = ap length (rows_append tail p.before p.behind) ∙ length-append (rows_of tail p.before) (rows_of tail p.behind) in
            let a = written-long xs (to + 2) (slots (2 + size) p.before) (omega (arith, slots_same (2 + size) 0 p.before, f.full, f.room, l)) in
            ap length f.is ∙ written-long (written xs (to + 2) (slots (2 + size) p.before)) (to + 2 + size) (rows_of tail p.before) (omega (arith, a, f.room, t)) ∙ a

        pub fills_up : (entry + length (slots 0 f.part.behind) ≡ to + 2 + size) × (next + length (rows_of tail f.part.behind) ≤ length xs)
        fills_up =
            let p = f.part in
            let t = ap length (rows_append tail p.before p.behind) ∙ length-append (rows_of tail p.before) (rows_of tail p.behind) in
            (omega (arith, f.full, f.entry_at, slots-both 0 p.before p.behind), omega (arith, f.room, f.next-at, t))

        module _ (s : Step r bs at end f.part) where
          -- there is room for one element more
          pub one-fits : (entry + w ≤ next) × (next + length (tail s.one) ≤ length xs)
          one-fits =
              let u = fills_up in
              let a = ap (λ q. length (slots 0 q)) s.split ∙ slots-more 0 s.one s.others in
              let b = ap (λ q. length (rows_of tail q)) s.split ∙ length-append (tail s.one) (rows_of tail s.others) in
              (omega (arith, u.0, a, f.next-at), omega (arith, u.1, b))

          pub filling-more : (end' : ℕ) (rows' : List ℕ) (entry' next' : ℕ) → rows' ≡ written (written rows next (tail s.one)) entry (slot (next - to) s.one) → end' ≡ end + 1 + s.takes → entry' ≡ entry + w → next' ≡ next + length (tail s.one) →
              (f' : Filling end' rows' entry' next') × (f'.part.before ≡ f.part.before ++ (s.one ∷ [])) × (f'.part.behind ≡ s.others)
          filling-more end' rows' entry' next' e h i j =
              let p = f.part in
              let x = s.one in
              let q = s.on end' h in
              let E : List ℕ = slots (2 + size) p.before in
              let B : List ℕ = rows_of tail p.before in
              let b : ℕ = to + 2 + size in
              let fits = one-fits in
              let u = fills_up in
              let same : q.0.before ++ q.0.behind ≡ p.before ++ p.behind =
              ap (λ zs. zs ++ q.0.behind) q.1 ∙ ap (λ zs. (p.before ++ (x ∷ [])) ++ zs) q.2 ∙ append_assoc p.before (x ∷ []) s.others ∙ ap (λ zs. p.before ++ zs) (sym s.split) in
              let lE : length E ≡ length (slots 0 p.before) = slots_same (2 + size) 0 p.before in
              let a = ap (λ z. length (slots 0 z)) s.split ∙ slots-more 0 x s.others in
              let lx : length (written xs (to + 2) E) ≡ length xs = written-long xs (to + 2) E (omega (arith, lE, f.entry_at, u.0, f.room)) in
              let behind : rows_of tail q.0.before ≡ B ++ tail x = ap (rows_of tail) q.1 ∙ rows-push tail p.before x in
              let front : slots (2 + size) q.0.before ≡ E ++ slot (next - to) x =
              ap (slots (2 + size)) q.1 ∙ slots-push (2 + size) p.before x ∙ ap (λ m. E ++ slot m x) (omega (arith, f.next-at)) in
              let zero : slots 0 q.0.before ≡ slots 0 p.before ++ slot (0 + length (rows_of tail p.before)) x = ap (slots 0) q.1 ∙ slots-push 0 p.before x in
              let long = length-append (slots 0 p.before) (slot (0 + length (rows_of tail p.before)) x) in
              let made : Filling end' rows' entry' next' =
              record {
                part = q.0;
                full = f.full ∙ ap (λ z. length (slots 0 z)) (sym same);
                room = omega (arith, f.room, ap (λ z. length (rows_of tail z)) same);
                entry_at = omega (arith, i, f.entry_at, ap length zero, long, wide (0 + length (rows_of tail p.before)) x);
                next-at = omega (arith, j, f.next-at, ap length behind, length-append B (tail x));
                is = e ∙ ap (λ z. written (written z next (tail x)) entry (slot (next - to) x)) f.is
                    ∙ ap (λ z. written z entry (slot (next - to) x)) (written-more (written xs (to + 2) E) b B (tail x) next f.next-at (omega (arith, lx, fits.1)))
                    ∙ written_apart (written xs (to + 2) E) entry (slot (next - to) x) b (B ++ tail x) (omega (arith, wide (next - to) x, u.0, a)) (omega (arith, lx, f.room))
                    ∙ ap (λ z. written z b (B ++ tail x)) (written-more xs (to + 2) E (slot (next - to) x) entry (omega (arith, lE, f.entry_at)) (omega (arith, u.0, f.room)) ∙ ap (λ z. written xs (to + 2) z) (sym front))
                    ∙ ap (λ z. written (written xs (to + 2) (slots (2 + size) q.0.before)) b z) (sym behind);
              }
              in (made, q.1, q.2)

        -- all elements are in it, and now its head is written
        module _ (z : get_or bs end 0 ≡ 0) (count : ℕ) where
          abbrev pub whole_row : List ℕ
          whole_row = lengthed count (slots (2 + size) f.part.before) (rows_of tail f.part.before)

          pub filling-last : (set (set rows (to + 1) count) to (next - to) ≡ written xs to whole_row) × (next ≡ to + length whole_row)
          filling-last =
              let p = f.part in
              let E : List ℕ = slots (2 + size) p.before in
              let B : List ℕ = rows_of tail p.before in
              let u = fills_up in
              let none = ap (λ q. length (slots 0 q)) (none-behind r bs at end p z) in
              let lE : length E ≡ length (slots 0 p.before) = slots_same (2 + size) 0 p.before in
              let long = length-append E B in
              let j : to + 2 ≡ to + 1 + 1 = omega arith in
              let n : next - to ≡ 2 + (length E + length B) = omega (arith, f.next-at, f.entry_at, u.0, none, lE) in (
                ap (λ q. set (set q (to + 1) count) to (next - to)) (f.is ∙ written-more xs (to + 2) E B (to + 2 + size) (omega (arith, f.entry_at, u.0, none, lE)) (omega (arith, f.room)) ∙ ap (λ k. written xs k (E ++ B)) j)
                    ∙ ap (λ q. set q to (next - to)) (written-before xs (to + 1) (E ++ B) count (omega (arith, f.room)))
                    ∙ written-before xs to (count ∷ (E ++ B)) (next - to) (omega (arith, f.room))
                    ∙ ap (λ k. written xs to (k ∷ (count ∷ (E ++ B)))) n,
                omega (arith, f.next-at, f.entry_at, u.0, none, lE, long),
              )

-- ---- sets
two-wide : (o : ℕ) (v : Value) → length (value_slot o v) ≡ 2
two-wide o v = omega arith

set-row : (vs : List Value) → set_row vs ≡ lengthed (length vs) (slots value_slot behind_of (2 + 2 * length vs) vs) (rows_of behind_of vs)
set-row vs =
    ap (λ n. lengthed n (entries (2 + 2 * n) (to_values vs)) (behind_all (to_values vs))) (many vs)
    ∙ ap (λ e. lengthed (length vs) e (behind_all (to_values vs))) (fronts (2 + 2 * length vs) vs)
    ∙ ap (λ b. lengthed (length vs) (slots value_slot behind_of (2 + 2 * length vs) vs) b) (backs vs)
  where
    many : (us : List Value) → count_values (to_values us) ≡ length us
    many [] = refl
    many (u ∷ us) = omega (arith, many us)

    fronts : (o : ℕ) (us : List Value) → entries o (to_values us) ≡ slots value_slot behind_of o us
    fronts o [] = refl
    fronts o (u ∷ us) = ap (λ e. value_slot o u ++ e) (fronts (o + length (behind_of u)) us)

    backs : (us : List Value) → behind_all (to_values us) ≡ rows_of behind_of us
    backs [] = refl
    backs (u ∷ us) = ap (λ b. behind_of u ++ b) (backs us)

set-whole : (n : ℕ) (vs : List Value) → n ≡ length vs → set_row vs ≡ lengthed n (slots value_slot behind_of (2 + 2 * n) vs) (rows_of behind_of vs)
set-whole n vs e = set-row vs ∙ ap (λ k. lengthed k (slots value_slot behind_of (2 + 2 * k) vs) (rows_of behind_of vs)) (sym e)

-- ---- records
three-wide : (o : ℕ) (f : Text × Value) → length (attr_slot o f) ≡ 3
three-wide o f = omega arith

record-row : (fs : List (Text × Value)) → record_row fs ≡ lengthed (length fs) (slots attr_slot attr_behind (2 + 3 * length fs) fs) (rows_of attr_behind fs)
record-row fs =
    ap (λ n. lengthed n (attr_entries (2 + 3 * n) (to_attrs fs)) (behind_attrs (to_attrs fs))) (many fs)
    ∙ ap (λ e. lengthed (length fs) e (behind_attrs (to_attrs fs))) (fronts (2 + 3 * length fs) fs)
    ∙ ap (λ b. lengthed (length fs) (slots attr_slot attr_behind (2 + 3 * length fs) fs) b) (backs fs)
  where
    many : (gs : List (Text × Value)) → count_fields (to_attrs gs) ≡ length gs
    many [] = refl
    many (g ∷ gs) = omega (arith, many gs)

    fronts : (o : ℕ) (gs : List (Text × Value)) → attr_entries o (to_attrs gs) ≡ slots attr_slot attr_behind o gs
    fronts o [] = refl
    fronts o (g ∷ gs) =
        let p : o + length (code_text g.0) + length (behind_of g.1) ≡ o + length (attr_behind g) = omega (arith, length-append (code_text g.0) (behind_of g.1)) in
        ap (λ e. attr_slot o g ++ e) (ap (λ k. attr_entries k (to_attrs gs)) p ∙ fronts (o + length (attr_behind g)) gs)

    backs : (gs : List (Text × Value)) → behind_attrs (to_attrs gs) ≡ rows_of attr_behind gs
    backs [] = refl
    backs (g ∷ gs) = ap (λ b. code_text g.0 ++ (behind_of g.1 ++ b)) (backs gs) ∙ sym (append_assoc (code_text g.0) (behind_of g.1) (rows_of attr_behind gs))

record-whole : (n : ℕ) (fs : List (Text × Value)) → n ≡ length fs → record_row fs ≡ lengthed n (slots attr_slot attr_behind (2 + 3 * n) fs) (rows_of attr_behind fs)
record-whole n fs e = record-row fs ∙ ap (λ k. lengthed k (slots attr_slot attr_behind (2 + 3 * k) fs) (rows_of attr_behind fs)) (sym e)

-- ---- both
pub width-few : (s : Slots) → (1 ≤ width_of s) × (width_of s ≤ 3)
width-few Values = (omega arith, omega arith)
width-few Attributes = (omega arith, omega arith)

pub slot-wide : (s : Slots) (o : ℕ) (x : Contents (element_fields s)) → length (element_slot s o x) ≡ width_of s
slot-wide Values o v = two-wide o v
slot-wide Attributes o f = three-wide o f

pub node-whole : (s : Slots) (n : ℕ) (xs : List (Contents (element_fields s))) → n ≡ length xs → node_row s xs ≡ lengthed n (slots (element_slot s) (element_behind s) (2 + width_of s * n) xs) (rows_of (element_behind s) xs)
node-whole Values n vs e = set-whole n vs e
node-whole Attributes n fs e = record-whole n fs e

pub node-long : (s : Slots) (xs : List (Contents (element_fields s))) → length (node_row s xs) ≡ 2 + width_of s * length xs + length (rows_of (element_behind s) xs)
node-long s xs =
    let front = slots (element_slot s) (element_behind s) (2 + width_of s * length xs) xs in
    let back = rows_of (element_behind s) xs in
    omega (arith, ap length (node-whole s (length xs) xs refl), length-append front back, slots-long (element_slot s) (element_behind s) (width_of s) (slot-wide s) (2 + width_of s * length xs) xs)
