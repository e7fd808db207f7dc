-- What is counted, step by step: field by field, and by the form of a tree.
use Rattle.std.proofs.Common.{◌≡◌, ℕ, zero, suc, ◌+◌, ◌-◌, ◌*◌, ◌<◌, ◌≤◌, List, [], ◌∷◌, drop, Ok, Err, Result, sym, ap, ◌∙◌, subst, arith}
use Rattle.std.proofs.Math.Nat.{mul-le-mul_left}
use Rattle.spec.specs.Bytes.{Bytes}
use Rattle.reader.specs.declared.grammar.Field.{Field as CodeField}
use Rattle.reader.specs.declared.scan.Found.{Found}
use Rattle.reader.specs.declared.scan.Opened.{Opened}
use Rattle.wire.specs.Read.{Read, got, stops, turn}
use Rattle.wire.specs.Grammar.{Kind, Tag, Fields, Contents, Reader, read_tag, read_field, read_fields, read_node, fields, make}
use Rattle.wire.specs.Sizes.{size_fields}
use Rattle.reader.specs.Code.{field_of, fields_of}
use Rattle.reader.specs.Found.{found, WithinBy, Within, Opens}
use Rattle.reader.specs.Counts.{Counts, Lawful, count_field, count_fields, Paid, sizes}
use Rattle.reader.specs.Sizes.{sizes-fields}
use Rattle.reader.proofs.Along.{found_turn, follow-got, follow-stops, follow-ok, follow-err, same-err, same_size, more-ok}

-- ---- field by field: what is left of the fields, behind what counts m already
module _ (c : Counts) (u : ℕ) (r : Reader) (bs : Bytes) where
  abbrev pub left : ℕ → List CodeField → ℕ → Result Found ℕ
  left m fs at = found (λ x. m + count_fields c u (fields_of fs) x) at (read_fields r (fields_of fs) (drop at bs))

  pub left-none : (m at : ℕ) → Ok (record { end = at; size = m }) ≡ left m [] at
  left-none m at =
      let p : at ≡ at + 0 = omega arith in
      let q : m ≡ m + 0 = omega arith in
      cc

  pub left-ok : (m at : ℕ) (f : CodeField) (fs : List CodeField) (x : Found) → Ok x ≡ found (count_field c u (field_of f)) at (read_field r (field_of f) (drop at bs)) → left m (f ∷ fs) at ≡ left (m + x.size) fs x.end
  left-ok m at f [] x e = sym (more-ok (count_field c u (field_of f)) m at x _ e) ∙ left-none (m + x.size) x.end
  left-ok m at f (g ∷ fs) x e =
      let w = follow-ok (count_field c u (field_of f)) (λ y. m + count_fields c u (fields_of (f ∷ (g ∷ fs))) y) at bs x _ (λ y rest. turn (λ z. (y, z)) (read_fields r (fields_of (g ∷ fs)) rest)) e in
      w.2 ∙ found_turn _ (λ z. (w.0, z)) x.end _ ∙ same_size _ _ x.end (λ y. omega (arith, w.1)) _

  pub left-err : (m at : ℕ) (f : CodeField) (fs : List CodeField) (k : ℕ) → Err k ≡ found (count_field c u (field_of f)) at (read_field r (field_of f) (drop at bs)) → Err k ≡ left m (f ∷ fs) at
  left-err m at f [] k e = same-err (count_field c u (field_of f)) _ at k _ e
  left-err m at f (g ∷ fs) k e = follow-err (count_field c u (field_of f)) _ at k bs _ _ e

-- ---- the same end, and another count
pub counted : {X : Type 0} (s t : X → ℕ) (at n : ℕ) (x : Found) (R : Read X) → Ok x ≡ found s at R → ((y : X) → x.size ≡ s y → t y ≡ n) → Ok (record { end = x.end; size = n }) ≡ found t at R
counted s t at n x (got y k) e same =
    let p : x.end ≡ at + k = cc in
    let q : n ≡ t y = sym (same y (cc)) in
    cc
counted s t at n x (stops k) e same = cc

-- ---- a tree
module _ (c : Counts) (laws : Lawful c) where
  node_ok : (k : Kind) (bs : Bytes) (at start n h : ℕ) (g : Tag k) (fs : Fields) → 0 < h → read_tag k (h - 1) (drop at bs) ≡ got g n → start ≡ at + n → fs ≡ fields k g →
      found (λ x. c.head k + count_fields c (c.unit k) fs x) start (read_fields (read_node (h - 1)) fs (drop start bs)) ≡ found (c.tree k) at (read_node h k (drop at bs))
  unfolding read_node
  node_ok k bs at start n zero g fs l e s q = absurd (omega arith)
  node_ok k bs at start n (suc h) g fs l e s q =
      let p : suc h - 1 ≡ h = omega arith in
      let P : ℕ → Type 0 = λ m. read_tag k m (drop at bs) ≡ got g n → found (λ x. c.head k + count_fields c (c.unit k) fs x) start (read_fields (read_node m) fs (drop start bs)) ≡ found (c.tree k) at (read_node (suc h) k (drop at bs)) in
      subst P (sym p) (λ e'.
      ap (λ fs'. found (λ x. c.head k + count_fields c (c.unit k) fs' x) start (read_fields (read_node h) fs' (drop start bs))) q
      ∙ ap (λ m. found (λ x. c.head k + count_fields c (c.unit k) (fields k g) x) m (read_fields (read_node h) (fields k g) (drop m bs))) s
      ∙ same_size _ _ (at + n) (λ x. sym (laws.made k g x)) _
      ∙ sym (found_turn (c.tree k) (make k g) (at + n) _)
      ∙ sym (follow-got (c.tree k) at n bs g _ (λ g' rest. turn (make k g') (read_fields (read_node h) (fields k g') rest)) e')) e

  pub node-err : (k : Kind) (bs : Bytes) (at n h j : ℕ) → 0 < h → read_tag k (h - 1) (drop at bs) ≡ stops n → j ≡ at + n → Err j ≡ found (c.tree k) at (read_node h k (drop at bs))
  unfolding read_node
  node-err k bs at n zero j l e s = absurd (omega arith)
  node-err k bs at n (suc h) j l e s =
      let p : suc h - 1 ≡ h = omega arith in
      let e' : read_tag k h (drop at bs) ≡ stops n = ap (λ m. read_tag k m (drop at bs)) (sym p) ∙ e in
      ap (λ m. Err m) s ∙ sym (follow-stops (c.tree k) at n bs _ (λ g' rest. turn (make k g') (read_fields (read_node h) (fields k g') rest)) e')

  pub node-low : (k : Kind) (bs : Bytes) (at h : ℕ) → h ≡ 0 → Err at ≡ found (c.tree k) at (read_node h k bs)
  unfolding read_node
  node-low k bs at zero e = ap (λ m. Err m) (omega arith)
  node-low k bs at (suc h) e = absurd (omega arith)

  module _ (k : Kind) (bs : Bytes) (at h : ℕ) (o : Opened) (l : 0 < h) (w : Opens k at (read_tag k (h - 1) (drop at bs)) (Ok o)) where
    abbrev inside : ℕ → Result Found ℕ
    inside u = found (count_fields c u (fields_of o.fields.now)) o.start (read_fields (read_node (h - 1)) (fields_of o.fields.now) (drop o.start bs))

    pub node_made : (u m : ℕ) (x : Found) → u ≡ c.unit k → m ≡ c.head k → Ok x ≡ inside u → Ok (record { end = x.end; size = m + x.size }) ≡ found (c.tree k) at (read_node h k (drop at bs))
    node_made u m x eu em e =
        let e' : Ok x ≡ inside (c.unit k) = subst (λ v. Ok x ≡ inside v) eu e in
        counted (count_fields c (c.unit k) (fields_of o.fields.now)) (λ y. c.head k + count_fields c (c.unit k) (fields_of o.fields.now) y) o.start (m + x.size) x _ e' (λ y s. omega (arith, em, s))
        ∙ node_ok k bs at o.start w.1 h w.0 (fields_of o.fields.now) l w.2 w.3 w.4

    pub node-stops : (u j : ℕ) → Err j ≡ inside u → Err j ≡ found (c.tree k) at (read_node h k (drop at bs))
    node-stops u j e =
        same-err (count_fields c u (fields_of o.fields.now)) (λ y. c.head k + count_fields c (c.unit k) (fields_of o.fields.now) y) o.start j _ e
        ∙ node_ok k bs at o.start w.1 h w.0 (fields_of o.fields.now) l w.2 w.3 w.4

  -- ---- the bytes pay for what is counted
  -- what is no more than its bytes are many
  heavier : (w a s e : ℕ) → 1 ≤ w → a ≤ e → a + s ≤ e → w * a + s ≤ w * e
  heavier zero a s e l h k = absurd (omega arith)
  heavier (suc w) a s e l h k = omega (arith, mul-le-mul_left w h)

  pub within-paid : (at len : ℕ) (x : Result Found ℕ) → Within at len x → Paid c 0 0 at len x
  within-paid at len (Ok f) h = (h.0, h.1, omega (arith, heavier c.weight at f.size f.end laws.some_weight h.0 (omega (arith, h.2))))
  within-paid at len (Err k) h = h

  -- a tree's form pays for what stands before it, and for a part
  pub form-paid : (k : Kind) (h : ℕ) (bs : Bytes) (g : Tag k) (n : ℕ) → read_tag k h bs ≡ got g n → (parts smalls at start len : ℕ) (x : Found) → start ≡ at + n → at + parts ≤ start + smalls →
      Paid c parts smalls start len (Ok x) → c.weight * at + (c.head k + x.size) ≤ c.weight * x.end
  form-paid k h bs g n e p s at start len x q l paid =
      let few : p ≤ n + s = omega arith in
      let a = mul-le-mul_left c.part few in
      let b = laws.heads k h bs g n e in
      let d : c.weight * start ≡ c.weight * (at + n) = ap (λ m. c.weight * m) q in
      omega (arith, a, b, d, paid.2)

-- ---- the size: what is counted is what the definition of sizes says
pub sizes-read : (fs : Fields) (at : ℕ) (x : Result Found ℕ) (R : Read (Contents fs)) → x ≡ found (count_fields sizes 0 fs) at R → x ≡ found (size_fields fs) at R
sizes-read fs at x R e = e ∙ same_size _ _ at (λ y. sym (sizes-fields fs y)) R

pub sizes-within : (p s at len : ℕ) (x : Result Found ℕ) → Paid sizes p s at len x → WithinBy p s at len x
sizes-within p s at len (Ok f) h = (h.0, h.1, omega (arith, h.2))
sizes-within p s at len (Err k) h = h
