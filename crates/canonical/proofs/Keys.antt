-- What was read is what the bytes spell: pieces of them are the keys by which things are in order.
use Rattle.std.proofs.Common.{◌≡◌, ℕ, zero, suc, ◌+◌, ◌-◌, ◌<◌, ◌≤◌, Bool, true, false, ◌&&◌, ltb, List, [], ◌∷◌, get_or, take, drop, refl, ap, ◌∙◌, arith}
use Rattle.std.proofs.lemmas.Bool.{and_parts, and_from, lt-ltb}
use Rattle.std.proofs.lemmas.List.{get_or-drop, take_at}
use Rattle.spec.specs.Basics.{Text, less, ascending, all, name}
use Rattle.spec.specs.Values.{EntityUID, entity_uid, Value, prim, to_values, to_attrs, code, code_uid}
use Rattle.spec.specs.Bytes.{Bytes, encode_uid, encode_value}
use Rattle.spec.specs.Calls.{canonical, canonical_all, canonical_attrs, all_below}
use Rattle.laws.proofs.Lists.{elements-values, fields-attrs}
use Rattle.wire.specs.Read.{got, read_list}
use Rattle.wire.specs.Grammar.{Kind, value, uid, Tree, read_node}
use Rattle.wire.specs.Sizes.{encode_tree}
use Rattle.wire.proofs.Exact.{spelled, exact-list}
use Rattle.wire.proofs.Nodes.{rank, good, exact-node}
use Rattle.wire.proofs.Carried.{carried-value}
use Rattle.wire.proofs.Order.{byte-order}
use Rattle.reader.specs.Ends.{Got}
use Rattle.canonical.proofs.Lists.{first-got}
use Rattle.canonical.specs.declared.Listed.{Listed}
use Rattle.canonical.specs.declared.Listed.TheVariants.{Values, Attributes, Ancestors}
use Rattle.canonical.specs.Kept.{Item, read_items, item_key, is_kept, canonical_elements, canonical_named, ascending_uids, in_order}

-- ---- bytes are below 256
abbrev pub Small : Bytes → Type 0
Small bs = (i : ℕ) → get_or bs i 0 < 256

small_all : (bs : Bytes) → Small bs → all_below 256 bs ≡ true
small_all [] s = refl
small_all (b ∷ bs) s = and_from (ltb b 256) (all_below 256 bs) (lt-ltb b 256 (s 0)) (small_all bs (λ i. s (suc i)))

pub small-drop : (at : ℕ) (bs : Bytes) → Small bs → all_below 256 (drop at bs) ≡ true
small-drop at bs s = small_all (drop at bs) (λ i. rw (get_or-drop at bs i 0) (s (at + i)))

-- ---- a tree
pub tree-bytes : (k : Kind) (bs : Bytes) (at h e : ℕ) (x : Tree k) (n : ℕ) → Small bs → rank k ≤ h → read_node h k (drop at bs) ≡ got x n → e ≡ at + n → take (e - at) (drop at bs) ≡ encode_tree k x
tree-bytes k bs at h e x n s l q t =
    let w = spelled (encode_tree k) (good h k) (read_node h k) (exact-node h k l) (drop at bs) (small-drop at bs s) x n q in
    ap (λ z. take (e - at) z) w.1 ∙ take_at (encode_tree k x) w.0 (e - at) (omega (arith, w.2, t))

-- ---- the order by another key
module _ {X : Type 0} (key other : X → Text) (fit : X → Bool) (same : (x y : X) → fit x ≡ true → fit y ≡ true → less (key x) (key y) ≡ less (other x) (other y)) where
  ascending-same : (xs : List X) → all fit xs ≡ true → ascending key xs ≡ ascending other xs
  unfolding ascending
  ascending-same [] h = refl
  ascending-same (x ∷ []) h = refl
  ascending-same (x ∷ (y ∷ ys)) h =
      let p = and_parts (fit x) (all fit (y ∷ ys)) h in
      let q = and_parts (fit y) (all fit ys) p.1 in
      ap (λ b. b && ascending key (y ∷ ys)) (same x y p.0 q.0) ∙ ap (λ b. less (other x) (other y) && b) (ascending-same (y ∷ ys) p.1)

value-order : (h : ℕ) (v w : Value) → good (suc h) value v ≡ true → good (suc h) value w ≡ true → less (code v) (code w) ≡ less (encode_value v) (encode_value w)
value-order h v w p q = byte-order v w h h (carried-value v h ∙ p) (carried-value w h ∙ q)

-- the order of names is that of the values that they make
uid-order : (h : ℕ) (u v : EntityUID) → good (suc h) uid u ≡ true → good (suc h) uid v ≡ true → less (code_uid u) (code_uid v) ≡ less (encode_uid u) (encode_uid v)
unfolding less good
uid-order h u v p q = byte-order (prim (entity_uid u)) (prim (entity_uid v)) 0 0 p q

module _ (k : Kind) (bs : Bytes) (at h : ℕ) (s : Small bs) (l : rank k ≤ h) where
  all-good : (xs : List (Tree k)) (n : ℕ) → read_list (read_node h k) 0 (drop at bs) ≡ got xs n → all (good h k) xs ≡ true
  all-good xs n e = (spelled _ _ _ (exact-list (encode_tree k) (good h k) (read_node h k) (exact-node h k l)) (drop at bs) (small-drop at bs s) xs n e).3

all-canonical : (vs : List Value) → canonical_all (to_values vs) ≡ all canonical vs
all-canonical [] = refl
all-canonical (v ∷ vs) = ap (λ b. canonical v && b) (all-canonical vs)

-- what was read has a height
pub has-height : (k : Kind) (h : ℕ) (bs : Bytes) → Got (read_node h k bs) → 0 < h
unfolding read_node
has-height k zero bs g = absurd g
has-height k (suc h) bs g = omega arith

-- without one only the empty list is read
low-list : {A : Type 0} (k : Kind) (bs : Bytes) (at : ℕ) (x : Tree k) (xs : List (Tree k)) (n : ℕ) → read_list (read_node 0 k) 0 (drop at bs) ≡ got (x ∷ xs) n → A
low-list k bs at x xs n e = let l = has-height k 0 _ (first-got (read_node 0 k) bs at x xs n e) in absurd (omega arith)

elements-by-bytes : (bs : Bytes) (at h : ℕ) → Small bs → (vs : List Value) (n : ℕ) → read_items Values h (drop at bs) ≡ got vs n → canonical_elements vs ≡ (ascending encode_value vs && all canonical vs)
unfolding ascending
elements-by-bytes bs at zero s [] n e = refl
elements-by-bytes bs at zero s (v ∷ vs) n e = low-list value bs at v vs n e
elements-by-bytes bs at (suc h) s vs n e =
    ap (λ xs. ascending code xs && canonical_all (to_values vs)) (elements-values vs) ∙ ap (λ b. b && canonical_all (to_values vs)) (ascending-same code encode_value (good (suc h) value) (value-order h) vs (all-good value bs at (suc h) s (omega arith) vs n e))
    ∙ ap (λ b. ascending encode_value vs && b) (all-canonical vs)

all_named : (fs : List (Text × Value)) → canonical_attrs (to_attrs fs) ≡ all (λ f. canonical f.1) fs
all_named [] = refl
all_named (f ∷ fs) = ap (λ b. canonical f.1 && b) (all_named fs)

named-by-bytes : (fs : List (Text × Value)) → canonical_named fs ≡ (ascending name fs && all (λ f. canonical f.1) fs)
named-by-bytes fs = ap (λ xs. ascending name xs && canonical_attrs (to_attrs fs)) (fields-attrs fs) ∙ ap (λ b. ascending name fs && b) (all_named fs)

and-all : (b : Bool) (us : List EntityUID) → b ≡ (b && all (λ _. true) us)
and-all true [] = refl
and-all true (u ∷ us) = and-all true us
and-all false us = refl

uids-by-bytes : (bs : Bytes) (at h : ℕ) → Small bs → (us : List EntityUID) (n : ℕ) → read_items Ancestors h (drop at bs) ≡ got us n → ascending_uids us ≡ (ascending encode_uid us && all (λ _. true) us)
unfolding ascending
uids-by-bytes bs at zero s [] n e = refl
uids-by-bytes bs at zero s (u ∷ us) n e = low-list uid bs at u us n e
uids-by-bytes bs at (suc h) s us n e = ascending-same code_uid encode_uid (good (suc h) uid) (uid-order h) us (all-good uid bs at (suc h) s (omega arith) us n e) ∙ and-all (ascending encode_uid us) us

-- of whatever a list is
pub by-bytes : (l : Listed) (bs : Bytes) (at h : ℕ) → Small bs → (xs : List (Item l)) (n : ℕ) → read_items l h (drop at bs) ≡ got xs n → in_order l xs ≡ (ascending (item_key l) xs && all (is_kept l) xs)
by-bytes Values bs at h s xs n e = elements-by-bytes bs at h s xs n e
by-bytes Attributes bs at h s xs n e = named-by-bytes xs
by-bytes Ancestors bs at h s xs n e = uids-by-bytes bs at h s xs n e
