-- Rows of types mean the types that they were made from, wherever they lie.
use Rattle.std.proofs.Common.{◌≡◌, ℕ, zero, suc, ◌+◌, ◌-◌, ◌<◌, ◌≤◌, Bool, true, false, cond, ◌&&◌, eqb, List, [], ◌∷◌, ◌++◌, length, get_or, sym, refl, ap, ◌∙◌, subst, ap₂, arith}
use Rattle.std.proofs.lemmas.Bool.{and_parts}
use Rattle.laws.proofs.Texts.{false-true}
use Rattle.spec.specs.Basics.{ascending, name}
use Rattle.spec.specs.Values.{code_text}
use Rattle.spec.specs.Types as s
use Rattle.spec.specs.Types.{any_bool, is_true, is_false, bool, int, string, entity, set, record_of, RecordType, empty, attr, attributes, Schema}
use Rattle.spec.specs.Validate.{well_formed_type, well_formed_attrs}
use Rattle.spec.specs.Calls.{encodable_type, encodable_record_type, is_bytes, level}
use Rattle.rows.specs.Rows.{row_type, row_types, row_record_type, count_types}
use Rattle.values.specs.Held.{behind_text}
use Rattle.values.specs.Stored.{LiesAt}
use Rattle.values.proofs.Placed.{Lies, lies, lies-move, lies-append, lies-long, text-lies}
use Rattle.types.specs.Held.{bool_by, row_type_at, behind_row, attrs_from, plain, plain_attrs, decode, TypeRowIn, GoodFrom, Good}
use Rattle.types.specs.Stored.{Stands, TypeRowsMean, TypesStay}
use Rattle.types.specs.declared.nodes.CedarType.{CedarType}
use Rattle.types.specs.declared.nodes.CedarType.TheVariants.{Bool as B, Int, String, Entity, Set, Record}
use Rattle.types.proofs.Frame.{kept}

-- the type at a place by the form that is there
abbrev kind_of : List ℕ → ℕ → ℕ → CedarType
kind_of m p k =
    cond (eqb k 0) (B (bool_by (get_or m (p + 2) 0)))
    (cond (eqb k 1) Int
    (cond (eqb k 2) String
    (cond (eqb k 3) (Entity (p + 2))
    (cond (eqb k 4) (Set (p + 2))
    (Record (p + 2))))))

kind-is : (m : List ℕ) (p k : ℕ) → get_or m p 0 ≡ k → row_type_at m p ≡ kind_of m p k
kind-is m p k e = ap (kind_of m p) e

-- a row lies in the store as a whole
row_in : (m : List ℕ) (p k : ℕ) (body : List ℕ) → (k ≡ 0 → 1 ≤ length body) → Lies m p (k ∷ ((2 + length body) ∷ body)) → TypeRowIn m p
row_in m p k body t h =
    let l = lies-long m p k ((2 + length body) ∷ body) h in
    record { head = omega arith; truth = λ e. let b = t (sym h.1 ∙ e) in omega arith; ends = omega (arith, h.2.1) }

module _ (m w : List ℕ) (lo hi : ℕ) where
  pub record Means (d p : ℕ) (t : s.CedarType) : Type 0 where
    pub row : TypeRowIn m p
    pub good : Good (suc d) m w lo hi (row_type_at m p)
    pub is : decode (suc d) m w (row_type_at m p) ≡ t
    pub behind : behind_row m p ≡ p + length (row_type t)

  pub record MeansAttrs (d e : ℕ) (ts : RecordType) : Type 0 where
    pub each : GoodFrom (Good (suc d) m w lo hi) true m w hi (count_types ts) e
    pub is : attrs_from (decode (suc d) m w) true m w (count_types ts) e ≡ ts

  give : (d p : ℕ) (t : s.CedarType) (v : CedarType) → row_type_at m p ≡ v → TypeRowIn m p → Good (suc d) m w lo hi v → decode (suc d) m w v ≡ t → behind_row m p ≡ p + length (row_type t) → Means d p t
  give d p t v e r g i b = record { row = r; good = subst (Good (suc d) m w lo hi) (sym e) g; is = ap (decode (suc d) m w) e ∙ i; behind = b }

  record-from : (ts : RecordType) (d p : ℕ) → plain_attrs ts ≡ true → p < length m → get_or m p 0 ≡ count_types ts → MeansAttrs d (p + 1) ts → Stands (suc (suc d)) m w lo hi (Record p) (record_of ts)
  record-from ts d p a l c x =
      let i : attrs_from (decode (suc d) m w) true m w (get_or m p 0) (p + 1) ≡ ts = ap (λ n. attrs_from (decode (suc d) m w) true m w n (p + 1)) c ∙ x.is in
      record {
        good = record { attrs = record { counts = l; each = subst (λ n. GoodFrom (Good (suc d) m w lo hi) true m w hi n (p + 1)) (sym c) x.each }; plainly = ap plain_attrs i ∙ a };
        is = ap record_of i;
      }

  mutual
    pub mean : (t : s.CedarType) (d p : ℕ) → plain t ≡ true → encodable_type t d ≡ true → Lies m p (row_type t) → Means d p t
    mean (bool any_bool) d p a c h =
        let z : get_or m (p + 2) 0 ≡ 0 = ap (λ i. get_or m i 0) (omega arith) ∙ h.2.2.1 in
        give d p (bool any_bool) (B (bool_by 0)) (kind-is m p 0 h.1 ∙ ap (λ x. B (bool_by x)) z) (row_in m p 0 (0 ∷ []) (λ e. omega arith) h) tt refl (omega (arith, h.2.1))
    mean (bool is_true) d p a c h = false-true a
    mean (bool is_false) d p a c h = false-true a
    mean int d p a c h = give d p int Int (kind-is m p 1 h.1) (row_in m p 1 [] (λ e. absurd (omega arith)) h) tt refl (omega (arith, h.2.1))
    mean string d p a c h = give d p string String (kind-is m p 2 h.1) (row_in m p 2 [] (λ e. absurd (omega arith)) h) tt refl (omega (arith, h.2.1))
    mean (entity n) d p a c h =
        let x = text-lies m (p + 2) n (lies-move m (p + 1 + 1) (p + 2) (code_text n) (omega arith) h.2.2) in
        give d p (entity n) (Entity (p + 2)) (kind-is m p 3 h.1) (row_in m p 3 (code_text n) (λ e. absurd (omega arith)) h) x.0 (ap entity x.1) (omega (arith, h.2.1))
    mean (set t) zero p a c h = false-true c
    mean (set t) (suc d) p a c h =
        let c' : encodable_type t d ≡ true = let z : suc d - 1 ≡ d = omega arith in ap (encodable_type t) (sym z) ∙ (and_parts (level (suc d)) (encodable_type t (suc d - 1)) c).1 in
        let x = mean t d (p + 2) a c' (lies-move m (p + 1 + 1) (p + 2) (row_type t) (omega arith) h.2.2) in
        give (suc d) p (set t) (Set (p + 2)) (kind-is m p 4 h.1) (row_in m p 4 (row_type t) (λ e. absurd (omega arith)) h) (record { row = x.row; inner = x.good; plainly = ap plain x.is ∙ a }) (ap set x.is) (omega (arith, h.2.1))
    mean (record_of ts) zero p a c h = false-true c
    mean (record_of ts) (suc d) p a c h =
        let c' : encodable_record_type ts d ≡ true = let z : suc d - 1 ≡ d = omega arith in ap (encodable_record_type ts) (sym z) ∙ (and_parts (level (suc d)) (encodable_record_type ts (suc d - 1)) c).1 in
        let h' : Lies m (p + 2) (row_record_type ts) = lies-move m (p + 1 + 1) (p + 2) (row_record_type ts) (omega arith) h.2.2 in
        let x = record-from ts d (p + 2) a h'.0 h'.1 (mean-attrs ts d (p + 2 + 1) a c' h'.2) in
        give (suc d) p (record_of ts) (Record (p + 2)) (kind-is m p 5 h.1) (row_in m p 5 (row_record_type ts) (λ e. absurd (omega arith)) h) x.good x.is (omega (arith, h.2.1))

    pub mean-attrs : (ts : RecordType) (d e : ℕ) → plain_attrs ts ≡ true → encodable_record_type ts d ≡ true → Lies m e (row_types ts) → MeansAttrs d e ts
    mean-attrs empty d e a c h = record { each = tt; is = refl }
    mean-attrs (attr n r t ts) d e a c h =
        let a' = and_parts (plain t) (plain_attrs ts) a in
        let c' = and_parts (is_bytes n) (encodable_type t d && encodable_record_type ts d) c in
        let c'' = and_parts (encodable_type t d) (encodable_record_type ts d) c'.1 in
        let l = lies-append m (e + 1) (code_text n) (row_type t ++ row_types ts) h.2 in
        let x = text-lies m (e + 1) n l.0 in
        let q : e + 1 + length (code_text n) ≡ behind_text m (e + 1) = omega (arith, l.0.1) in
        let l' = lies-append m (behind_text m (e + 1)) (row_type t) (row_types ts) (lies-move m (e + 1 + length (code_text n)) (behind_text m (e + 1)) (row_type t ++ row_types ts) q l.1) in
        let y = mean t d (behind_text m (e + 1)) a'.0 c''.0 l'.0 in
        let z = mean-attrs ts d (behind_row m (behind_text m (e + 1))) a'.1 c''.1 (lies-move m (behind_text m (e + 1) + length (row_type t)) (behind_row m (behind_text m (e + 1))) (row_types ts) (sym y.behind) l'.1) in
        let o : suc (count_types ts) ≡ 1 + count_types ts = omega arith in
        let f : eqb (get_or m e 0) 1 ≡ r = ap (λ k. eqb k 1) h.1 ∙ flag r in
        let xe = x.1 in
        let ye = y.is in
        let ze = z.is in
        record {
          each = subst (λ k. GoodFrom (Good (suc d) m w lo hi) true m w hi k e) o ((h.0, x.0, y.row), y.good, z.each);
          is = ap (λ k. attrs_from (decode (suc d) m w) true m w k e) (sym o) ∙ (λ i. attr (xe i) (f i) (ye i) (ze i));
        }
      where
        flag : (b : Bool) → eqb (cond b 1 0) 1 ≡ b
        flag true = refl
        flag false = refl

  pub mean-record : (ts : RecordType) (d p : ℕ) → plain_attrs ts ≡ true → encodable_record_type ts d ≡ true → Lies m p (row_record_type ts) → Stands (suc (suc d)) m w lo hi (Record p) (record_of ts)
  mean-record ts d p a c h = record-from ts d p a h.0 h.1 (mean-attrs ts d (p + 1) a c h.2)

-- ---- types of a well-formed schema
mutual
  pub formed-plain : (t : s.CedarType) (s : Schema) → well_formed_type t s ≡ true → plain t ≡ true
  formed-plain (bool any_bool) s h = refl
  formed-plain (bool is_true) s h = h
  formed-plain (bool is_false) s h = h
  formed-plain int s h = refl
  formed-plain string s h = refl
  formed-plain (entity n) s h = refl
  formed-plain (set t) s h = formed-plain t s h
  formed-plain (record_of ts) s h = formed-plain-attrs ts s (and_parts (ascending name (attributes ts)) (well_formed_attrs ts s) h).1

  formed-plain-attrs : (ts : RecordType) (s : Schema) → well_formed_attrs ts s ≡ true → plain_attrs ts ≡ true
  formed-plain-attrs empty s h = refl
  formed-plain-attrs (attr a r t ts) s h =
      let p = and_parts (well_formed_type t s) (well_formed_attrs ts s) h in
      ap₂ (λ x y. x && y) (formed-plain t s p.0) (formed-plain-attrs ts s p.1)

pub type-rows-mean : TypeRowsMean
type-rows-mean = (
  (λ t d m w p lo hi a c h. let x = mean m w lo hi t d p a c (lies m p (row_type t) h) in (x.row, record { good = x.good; is = x.is })),
  (λ ts d m w p lo hi a c h. as-record ts d m w p lo hi a c h),
  formed-plain,
)
  where
    as-record : (ts : RecordType) (d : ℕ) (m w : List ℕ) (p lo hi : ℕ) → plain (record_of ts) ≡ true → encodable_type (record_of ts) d ≡ true → LiesAt m p (row_record_type ts) → Stands (suc d) m w lo hi (Record p) (record_of ts)
    as-record ts zero m w p lo hi a c h = false-true c
    as-record ts (suc d) m w p lo hi a c h =
        let c' : encodable_record_type ts d ≡ true = let z : suc d - 1 ≡ d = omega arith in ap (encodable_record_type ts) (sym z) ∙ (and_parts (level (suc d)) (encodable_record_type ts (suc d - 1)) c).1 in
        mean-record m w lo hi ts d p a c' (lies m p (row_record_type ts) h)

pub types-stay : TypesStay
types-stay h m w w' lo lo' hi hi' v t same l k s =
    let x = kept m w w' lo lo' hi hi' same l k h v s.good in
    (record { good = x.good; is = x.is ∙ s.is }, x.numbers)
