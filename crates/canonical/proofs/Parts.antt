-- What was read of a tree is what was read of its parts, one behind another.
use Rattle.std.proofs.Common.{◌≡◌, ℕ, zero, suc, ◌+◌, ◌-◌, ◌<◌, Bool, true, cond, ◌⊎◌, ◌∷◌, ◌++◌, length, get_or, drop, Some, None, sym, refl, ap, ◌∙◌, subst, inl, inr, ⊎_elim, arith}
use mathlib.Core.List.{head-eq_of_cons-eq}
use Rattle.std.proofs.lemmas.Bool.{cases_lt, ne_eqb}
use Rattle.std.proofs.lemmas.List.{drop_more, drop-drop, drop_all}
use Rattle.spec.specs.Bytes.{Bytes, encode_value}
use Rattle.spec.specs.Values.{Value, prim, set, record_of, to_values, to_attrs, Entity, Request}
use Rattle.spec.specs.Calls.{canonical}
use Rattle.wire.specs.Read.{Read, got, stops, past, turn, follow}
use Rattle.wire.specs.Tags.{set_tag, record_tag}
use Rattle.wire.specs.Grammar.{Kind, value, uid, attrs, entity, request, Tree, Field, node, list, Fields, one, more, two, three, Contents, Tag, fields, make, Reader, read_tag, read_tag_of, read_field, read_fields, read_node}
use Rattle.wire.proofs.Exact.{spelled}
use Rattle.wire.proofs.Nodes.{good, exact-node}
use Rattle.reader.specs.Ends.{Got, ending}
use Rattle.reader.proofs.Stood.{got-is}
use Rattle.canonical.specs.declared.Listed.TheVariants.{Values, Attributes, Ancestors}
use Rattle.canonical.specs.Kept.{judged, read_items}
use Rattle.canonical.proofs.Lists.{past-inv, turn-inv, follow-inv}
use Rattle.canonical.proofs.Keys.{Small, small-drop}

-- ---- made into something else
pub judged-turn : {X Y : Type 0} (f : Y → Bool) (g : X → Y) (at n b : ℕ) (R : Read X) (S : Read Y) → b ≡ at + n → S ≡ past n (turn g R) → judged (λ x. f (g x)) b R ≡ judged f at S
judged-turn f g at n b (got x k) S p e = rw e (ap (λ m. cond (f (g x)) (Some m) None) (omega (arith, p)))
judged-turn f g at n b (stops k) S p e = rw e refl

pub got-turn : {X Y : Type 0} (g : X → Y) (n : ℕ) (R : Read X) (S : Read Y) → S ≡ past n (turn g R) → Got S → Got R
got-turn g n (got x k) S e h = tt
got-turn g n (stops k) S e h = rw e at h

-- a place that was told is where what was read ends
pub ending-got : {X : Type 0} (at e : ℕ) (R : Read X) (x : X) (n : ℕ) → e ≡ ending at R → R ≡ got x n → e ≡ at + n
ending-got at e R x n p q = p ∙ ap (λ S. ending at S) q

-- ---- fields
pub fields-apart : (r : Reader) (f : Field) (fs : Fields) (bs : Bytes) (at : ℕ) (z : Contents (more f fs)) (m : ℕ) → read_fields r (more f fs) (drop at bs) ≡ got z m → (n : ℕ) × (k : ℕ) × (read_field r f (drop at bs) ≡ got z.0 n) × (read_fields r fs (drop (at + n) bs) ≡ got z.1 k) × (m ≡ n + k)
fields-apart r f fs bs at z m e =
    let w = follow-inv (read_field r f (drop at bs)) (drop at bs) (λ x rest. turn (λ y. (x, y)) (read_fields r fs rest)) z m e in
    let q = turn-inv (λ y. (w.0, y)) (read_fields r fs (drop w.1 (drop at bs))) z w.2 w.4 in
    (w.1, w.2, w.3 ∙ ap (λ p. got p.0 w.1) q.2, ap (λ b. read_fields r fs b) (sym (drop-drop w.1 at bs)) ∙ q.1 ∙ ap (λ p. got p.1 w.2) q.2, w.5)

node-is : (k : Kind) (h : ℕ) (g : Tag k) (bs : Bytes) (n : ℕ) → read_tag k h bs ≡ got g n → read_node (suc h) k bs ≡ past n (turn (make k g) (read_fields (read_node h) (fields k g) (drop n bs)))
unfolding read_node
node-is k h g bs n e = ap (λ R. follow R bs (λ g rest. turn (make k g) (read_fields (read_node h) (fields k g) rest))) e

node-apart : (k : Kind) (h : ℕ) (g : Tag k) (bs : Bytes) (x : Tree k) (m : ℕ) → read_tag k h bs ≡ got g 0 → read_node (suc h) k bs ≡ got x m → (c : Contents (fields k g)) × (j : ℕ) × (read_fields (read_node h) (fields k g) bs ≡ got c j) × (make k g c ≡ x) × (m ≡ j)
node-apart k h g bs x m e q =
    let p = past-inv 0 _ x m (sym (node-is k h g bs 0 e) ∙ q) in
    let w = turn-inv (make k g) (read_fields (read_node h) (fields k g) bs) x p.0 p.1 in
    (w.0, p.0, w.1, w.2, omega (arith, p.2))

-- ---- an entity and a request, behind the number of the call: how long their parts are, and what was read of each
four-apart : (r : Reader) (f g i j : Field) (bs : Bytes) (at : ℕ) (z : Contents (more f (three g i j))) (m : ℕ) → read_fields r (more f (three g i j)) (drop at bs) ≡ got z m →
    (a : ℕ) × (b : ℕ) × (c : ℕ) × (d : ℕ) × (read_field r f (drop at bs) ≡ got z.0 a) × (read_field r g (drop (at + a) bs) ≡ got z.1.0 b) × (read_field r i (drop (at + a + b) bs) ≡ got z.1.1.0 c) × (read_field r j (drop (at + a + b + c) bs) ≡ got z.1.1.1 d) × (m ≡ a + b + c + d)
four-apart r f g i j bs at z m e =
    let p = fields-apart r f (three g i j) bs at z m e in
    let q = fields-apart r g (two i j) bs (at + p.0) z.1 p.1 p.3 in
    let s = fields-apart r i (one j) bs (at + p.0 + q.0) z.1.1 q.1 q.3 in
    (p.0, q.0, s.0, s.1, p.2, q.2, s.2, s.3, omega (arith, p.4, q.4, s.4))

pub record EntityAt (bs : Bytes) (m : ℕ) (e : Entity) : Type 0 where
  pub a : ℕ
  pub b : ℕ
  pub c : ℕ
  pub d : ℕ
  pub uid-at : read_node 65 uid (drop 1 bs) ≡ got e.uid a
  pub attrs-at : read_node 65 attrs (drop (1 + a) bs) ≡ got e.attrs b
  pub ancestors-at : read_items Ancestors 65 (drop (1 + a + b) bs) ≡ got e.ancestors c
  pub tags-at : read_node 65 attrs (drop (1 + a + b + c) bs) ≡ got e.tags d
  pub long : m ≡ a + b + c + d

pub entity-apart : (bs : Bytes) (e : Entity) (m : ℕ) → read_node 66 entity (drop 1 bs) ≡ got e m → EntityAt bs m e
entity-apart bs e m q =
    let w = node-apart entity 65 tt (drop 1 bs) e m refl q in
    let p = four-apart (read_node 65) (node uid) (node attrs) (list (one (node uid))) (node attrs) bs 1 w.0 w.1 w.2 in
    let made : EntityAt bs m (make entity tt w.0) = record { a = p.0; b = p.1; c = p.2; d = p.3; uid-at = p.4; attrs-at = p.5; ancestors-at = p.6; tags-at = p.7; long = w.4 ∙ p.8 } in
    subst (EntityAt bs m) w.3 made

pub record RequestAt (bs : Bytes) (m : ℕ) (q : Request) : Type 0 where
  pub a : ℕ
  pub b : ℕ
  pub c : ℕ
  pub d : ℕ
  pub principal-at : read_node 65 uid (drop 1 bs) ≡ got q.principal a
  pub action-at : read_node 65 uid (drop (1 + a) bs) ≡ got q.action b
  pub resource-at : read_node 65 uid (drop (1 + a + b) bs) ≡ got q.resource c
  pub context-at : read_node 65 attrs (drop (1 + a + b + c) bs) ≡ got q.context d
  pub long : m ≡ a + b + c + d

pub request-apart : (bs : Bytes) (x : Request) (m : ℕ) → read_node 66 request (drop 1 bs) ≡ got x m → RequestAt bs m x
request-apart bs x m q =
    let w = node-apart request 65 tt (drop 1 bs) x m refl q in
    let p = four-apart (read_node 65) (node uid) (node uid) (node uid) (node attrs) bs 1 w.0 w.1 w.2 in
    let made : RequestAt bs m (make request tt w.0) = record { a = p.0; b = p.1; c = p.2; d = p.3; principal-at = p.4; action-at = p.5; resource-at = p.6; context-at = p.7; long = w.4 ∙ p.8 } in
    subst (RequestAt bs m) w.3 made

-- ---- a record that is no value
pub record_is : (bs : Bytes) (at d : ℕ) → Got (read_node d attrs (drop at bs)) → (0 < d) × (read_node d attrs (drop at bs) ≡ past 0 (turn to_attrs (read_items Attributes (d - 1) (drop at bs))))
unfolding read_node
record_is bs at zero h = absurd h
record_is bs at (suc d) h =
    let p : suc d - 1 ≡ d = omega arith in
    (omega arith, rw p refl)

-- ---- a value, by the byte that tells of which form it is
no-form : (h b : ℕ) (rest : Bytes) → Got (read_node (suc h) value (b ∷ rest)) → 5 < b → ⊥
unfolding read_node read_tag_of
no-form h zero rest g l = omega arith
no-form h (suc zero) rest g l = omega arith
no-form h (suc (suc zero)) rest g l = omega arith
no-form h (suc (suc (suc zero))) rest g l = omega arith
no-form h (suc (suc (suc (suc zero)))) rest g l = omega arith
no-form h (suc (suc (suc (suc (suc zero))))) rest g l = omega arith
no-form h (suc (suc (suc (suc (suc (suc b)))))) rest g l = g

flat : {X Y Z : Type 0} (f : Y → Z) (g : X → Y) (n : ℕ) (R : Read X) → past n (turn f (past 0 (turn g R))) ≡ past n (turn (λ x. f (g x)) R)
flat f g n (got x k) = ap (λ m. got (f (g x)) m) (omega arith)
flat f g n (stops k) = ap (λ m. stops m) (omega arith)

module _ (bs : Bytes) (at : ℕ) where
  pub value-inside : (d : ℕ) → Got (read_node d value (drop at bs)) → at < length bs
  unfolding read_node read_tag_of
  value-inside zero h = absurd h
  value-inside (suc d) h = ⊎_elim (λ l. l) (λ l. absurd (rw (drop_all at bs l) at h)) (cases_lt at (length bs))

  pub told-form : (d : ℕ) → Got (read_node d value (drop at bs)) → 5 < get_or bs at 0 → ⊥
  unfolding read_node
  told-form zero h l = h
  told-form (suc d) h l = no-form d (get_or bs at 0) (drop (at + 1) bs) (subst (λ (ys : Bytes). Got (read_node (suc d) value ys)) (drop_more bs at 0 (value-inside (suc d) h)) h) l

  -- a set or a record has a level left
  set-tag : (h : ℕ) → at < length bs → get_or bs at 0 ≡ 4 → read_tag value (suc h) (drop at bs) ≡ got set_tag 1
  unfolding read_tag_of
  set-tag h l e = rw (drop_more bs at 0 l, e, ne_eqb (suc h) 0 (λ z. omega arith))

  record-tag : (h : ℕ) → at < length bs → get_or bs at 0 ≡ 5 → read_tag value (suc h) (drop at bs) ≡ got record_tag 1
  unfolding read_tag_of
  record-tag h l e = rw (drop_more bs at 0 l, e, ne_eqb (suc h) 0 (λ z. omega arith))

  too-low : (d : ℕ) → Got (read_node d value (drop at bs)) → (get_or bs at 0 ≡ 4) ⊎ (get_or bs at 0 ≡ 5) → 1 < d
  unfolding read_node read_tag_of
  too-low zero h e = absurd h
  too-low (suc zero) h (inl e) = absurd (rw (drop_more bs at 0 (value-inside 1 h), e) at h)
  too-low (suc zero) h (inr e) = absurd (rw (drop_more bs at 0 (value-inside 1 h), e) at h)
  too-low (suc (suc d)) h e = omega arith

  pub set_is : (d : ℕ) → Got (read_node d value (drop at bs)) → get_or bs at 0 ≡ 4 → (1 < d) × (read_node d value (drop at bs) ≡ past 1 (turn (λ vs. set (to_values vs)) (read_items Values (d - 1) (drop (at + 1) bs))))
  set_is d h e = (too-low d h (inl e), go d (too-low d h (inl e)))
    where
      go : (d : ℕ) → 1 < d → read_node d value (drop at bs) ≡ past 1 (turn (λ vs. set (to_values vs)) (read_items Values (d - 1) (drop (at + 1) bs)))
      go zero l = absurd (omega arith)
      go (suc zero) l = absurd (omega arith)
      go (suc (suc d)) l =
          let p : suc (suc d) - 1 ≡ suc d = omega arith in
          rw p (node-is value (suc d) set_tag (drop at bs) 1 (set-tag d (value-inside _ h) e) ∙ flat (make value set_tag) (λ vs. (tt, vs)) 1 _ ∙ ap (λ z. past 1 (turn (λ vs. set (to_values vs)) (read_items Values (suc d) z))) (drop-drop 1 at bs))

  pub inner-record-is : (d : ℕ) → Got (read_node d value (drop at bs)) → get_or bs at 0 ≡ 5 → (1 < d) × (read_node d value (drop at bs) ≡ past 1 (turn (λ fs. record_of (to_attrs fs)) (read_items Attributes (d - 1) (drop (at + 1) bs))))
  inner-record-is d h e = (too-low d h (inr e), go d (too-low d h (inr e)))
    where
      go : (d : ℕ) → 1 < d → read_node d value (drop at bs) ≡ past 1 (turn (λ fs. record_of (to_attrs fs)) (read_items Attributes (d - 1) (drop (at + 1) bs)))
      go zero l = absurd (omega arith)
      go (suc zero) l = absurd (omega arith)
      go (suc (suc d)) l =
          let p : suc (suc d) - 1 ≡ suc d = omega arith in
          rw p (node-is value (suc d) record_tag (drop at bs) 1 (record-tag d (value-inside _ h) e) ∙ flat (make value record_tag) (λ fs. (tt, fs)) 1 _ ∙ ap (λ z. past 1 (turn (λ fs. record_of (to_attrs fs)) (read_items Attributes (suc d) z))) (drop-drop 1 at bs))

  -- any other form has nothing in it that has an order
  pub leaf-kept : (d : ℕ) (v : Value) (n : ℕ) → Small bs → Got (read_node d value (drop at bs)) → (get_or bs at 0 ≡ 4 → ⊥) → (get_or bs at 0 ≡ 5 → ⊥) → read_node d value (drop at bs) ≡ got v n → canonical v ≡ true
  unfolding read_node
  leaf-kept zero v n s h p q e = absurd h
  leaf-kept (suc d) v n s h p q e =
      let w = spelled encode_value (good (suc d) value) (read_node (suc d) value) (exact-node (suc d) value (omega arith)) (drop at bs) (small-drop at bs s) v n e in
      go v w.0 (sym (drop_more bs at 0 (value-inside (suc d) h)) ∙ w.1)
    where
      go : (v : Value) (rest : Bytes) → get_or bs at 0 ∷ drop (at + 1) bs ≡ encode_value v ++ rest → canonical v ≡ true
      go (prim x) rest e = refl
      go (set vs) rest e = absurd (p (head-eq_of_cons-eq e))
      go (record_of r) rest e = absurd (q (head-eq_of_cons-eq e))

  pub leaf-judged : (d e : ℕ) → Small bs → Got (read_node d value (drop at bs)) → (get_or bs at 0 ≡ 4 → ⊥) → (get_or bs at 0 ≡ 5 → ⊥) → e ≡ ending at (read_node d value (drop at bs)) → Some e ≡ judged canonical at (read_node d value (drop at bs))
  leaf-judged d e s h p q i =
      let w = got-is _ h in
      let end = ending-got at e _ w.0 w.1 i w.2 in
      let kept = leaf-kept d w.0 w.1 s h p q w.2 in
      (λ z. cond (sym kept z) (Some (end z)) None) ∙ ap (λ R. judged canonical at R) (sym w.2)
