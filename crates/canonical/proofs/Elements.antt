-- What is found of one element, whatever the list is of.
use Rattle.std.proofs.Common.{◌≡◌, ℕ, ◌+◌, ◌-◌, Bool, true, false, length, take, drop, Some, None, Option, Bor, sym, refl, ap, ◌∙◌, subst, arith}
use Rattle.spec.specs.Basics.{Text, name}
use Rattle.spec.specs.Bytes.{Bytes, encode_uid, encode_value}
use Rattle.spec.specs.Values.{Value}
use Rattle.spec.specs.Calls.{canonical}
use Rattle.wire.specs.Read.{Read, got, read_text}
use Rattle.wire.specs.Grammar.{value, uid, text, node, one, read_node}
use Rattle.reader.specs.Ends.{Got, ending}
use Rattle.reader.proofs.Stood.{got-is, is-got}
use Rattle.canonical.specs.declared.Listed.{Listed}
use Rattle.canonical.specs.declared.Listed.TheVariants.{Attributes}
use Rattle.canonical.specs.declared.Element.{Element}
use Rattle.canonical.specs.Kept.{read_item, item_key, is_kept, judged, FoundAs}
use Rattle.canonical.proofs.Lists.{judged-some, judged-none}
use Rattle.canonical.proofs.Keys.{Small, tree-bytes, has-height}
use Rattle.canonical.proofs.Parts.{ending-got, fields-apart}

-- ---- of one kind
pub item-as : (bs : Bytes) (h : ℕ) (l m : Listed) → l ≡ m → Got (read_item l h bs) → Got (read_item m h bs)
item-as bs h l m e g = subst (λ (k : Listed). Got (read_item k h bs)) e g

pub found-as : (bs : Bytes) (at h : ℕ) (r : Option Element) (l m : Listed) → l ≡ m → FoundAs (item_key m) (is_kept m) at (read_item m h bs) r → FoundAs (item_key l) (is_kept l) at (read_item l h bs) r
found-as bs at h r l m e f = subst (λ (k : Listed). FoundAs (item_key k) (is_kept k) at (read_item k h bs) r) (sym e) f

pub unfound : (bs : Bytes) (at h : ℕ) (r : Option Element) (l m : Listed) → l ≡ m → r ≡ None → FoundAs (item_key m) (is_kept m) at (read_item m h bs) None → FoundAs (item_key l) (is_kept l) at (read_item l h bs) r
unfound bs at h r l m e q f = found-as bs at h r l m e (subst (λ (o : Option Element). FoundAs (item_key m) (is_kept m) at (read_item m h bs) o) (sym q) f)

module _ {X : Type 0} (key : X → Text) (kept : X → Bool) (at : ℕ) (R : Read X) (x : X) (n : ℕ) (g : R ≡ got x n) where
  found-is : (e : Element) → kept x ≡ true → e.key.now ≡ key x → e.end ≡ at + n → FoundAs key kept at R (Some e)
  found-is e f k q = rw g (f, k, q)

  none_is : kept x ≡ false → FoundAs key kept at R None
  none_is f = rw g f

-- ---- values, by their bytes
module _ (bs : Bytes) (at h : ℕ) (g : Got (read_node h value (drop at bs))) where
  pub value-some : Small bs → (e : ℕ) (key : Bor Text) → key.now ≡ take (e - at) (drop at bs) → Some e ≡ judged canonical at (read_node h value (drop at bs)) → FoundAs encode_value canonical at (read_node h value (drop at bs)) (Some (record { key = key; end = e }))
  value-some s e key k q =
      let w = got-is _ g in
      let j = judged-some canonical at e _ w.0 w.1 q w.2 in
      found-is encode_value canonical at _ w.0 w.1 w.2 (record { key = key; end = e }) j.1 (k ∙ tree-bytes value bs at h e w.0 w.1 s (omega (arith, has-height value h _ g)) w.2 j.0) j.0

  pub value-none : None ≡ judged canonical at (read_node h value (drop at bs)) → FoundAs encode_value canonical at (read_node h value (drop at bs)) None
  value-none q = let w = got-is _ g in none_is encode_value canonical at _ w.0 w.1 w.2 (judged-none canonical at _ w.0 w.1 q w.2)

-- ---- names of entities, by their bytes
pub uid-some : (bs : Bytes) (at h : ℕ) → Got (read_node h uid (drop at bs)) → Small bs → (e : ℕ) (key : Bor Text) → key.now ≡ take (e - at) (drop at bs) → e ≡ ending at (read_node h uid (drop at bs)) →
    FoundAs encode_uid (λ _. true) at (read_node h uid (drop at bs)) (Some (record { key = key; end = e }))
uid-some bs at h g s e key k q =
    let w = got-is _ g in
    let j = ending-got at e _ w.0 w.1 q w.2 in
    found-is encode_uid (λ _. true) at _ w.0 w.1 w.2 (record { key = key; end = e }) refl (k ∙ tree-bytes uid bs at h e w.0 w.1 s (omega (arith, has-height uid h _ g)) w.2 j) j

-- ---- attributes: a name, and a value behind it
module _ (bs : Bytes) (at h : ℕ) (g : Got (read_item Attributes h (drop at bs))) where
  apart : (f : Text × Value) × (m : ℕ) × (n : ℕ) × (k : ℕ) × (read_item Attributes h (drop at bs) ≡ got f m) × (read_text (drop at bs) ≡ got f.0 n) × (read_node h value (drop (at + n) bs) ≡ got f.1 k) × (m ≡ n + k)
  apart =
      let w = got-is (read_item Attributes h (drop at bs)) g in
      let p = fields-apart (read_node h) text (one (node value)) bs at w.0 w.1 w.2 in
      (w.0, w.1, p.0, p.1, w.2, p.2, p.3, p.4)

  pub name-got : Got (read_text (drop at bs))
  name-got = is-got _ _ _ apart.5

  module _ (t : ℕ) (q : t ≡ ending at (read_text (drop at bs))) where
    body : read_node h value (drop t bs) ≡ got apart.0.1 apart.3
    body = ap (λ z. read_node h value (drop z bs)) (ending-got at t _ _ _ q apart.5) ∙ apart.6

    pub body-got : Got (read_node h value (drop t bs))
    body-got = is-got _ _ _ body

    pub attribute-some : (e : ℕ) (key : Bor Text) → read_text (drop at bs) ≡ got key.now (8 + length key.now) → Some e ≡ judged canonical t (read_node h value (drop t bs)) → FoundAs name (λ f. canonical f.1) at (read_item Attributes h (drop at bs)) (Some (record { key = key; end = e }))
    attribute-some e key k j =
        let v = judged-some canonical t e _ _ _ j body in
        let spelt : key.now ≡ apart.0.0 = same_text key.now apart.0.0 (8 + length key.now) apart.2 (sym k ∙ apart.5) in
        found-is name (λ f. canonical f.1) at _ apart.0 apart.1 apart.4 (record { key = key; end = e }) v.1 spelt (omega (arith, v.0, ending-got at t _ _ _ q apart.5, apart.7))
      where
        same_text : (u v : Text) (n m : ℕ) → got u n ≡ got v m → u ≡ v
        same_text u v n m e = cc

    pub attribute-none : None ≡ judged canonical t (read_node h value (drop t bs)) → FoundAs name (λ f. canonical f.1) at (read_item Attributes h (drop at bs)) None
    attribute-none j = none_is name (λ f. canonical f.1) at _ apart.0 apart.1 apart.4 (judged-none canonical t _ _ _ j body)
