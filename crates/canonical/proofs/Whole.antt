-- What the scan said of a call tells what the call carries.
use Rattle.std.proofs.Common.{◌≡◌, ℕ, ◌≤◌, Bool, true, false, cond, eqb, List, [], ◌∷◌, length, drop, Ok, Result, sym, refl, ap, ◌∙◌, subst, arith}
use mathlib.Core.Option.{Option, some, none}
use Rattle.spec.specs.Bytes.{Bytes}
use Rattle.spec.specs.Values.{Entity, Request}
use Rattle.spec.specs.Calls.{Call, put_entity, authorize, malformed, size_request}
use Rattle.reader.specs.declared.scan.Scanned.{Scanned}
use Rattle.reader.specs.Found.{scanned}
use Rattle.wire.specs.Read.{Read, got, stops, turn, nth, got_one, read_one}
use Rattle.wire.specs.Tags.{CallTag, set_schema_tag, put_policy_tag, remove_policy_tag, put_entity_tag, remove_entity_tag, validate_tag, authorize_tag}
use Rattle.reader.specs.declared.grammar.CallKind.{CallKind}
use Rattle.reader.specs.declared.grammar.CallKind.TheVariants.{PutEntity, Authorize}
use Rattle.reader.specs.Code.{call_of}
use Rattle.wire.specs.Grammar.{entity, request, Contents, call_tags, call_fields, make_call, read_fields, read_node, call_height, read_call, whole, decode}
use Rattle.wire.specs.Sizes.{size_call}
use Rattle.wire.proofs.Exact.{got-stops}
use Rattle.canonical.proofs.Lists.{turn-inv, follow-inv}

-- ---- a call is what was read, and nothing behind it
no_ok : {A : Type 0} (s : Scanned) (k : ℕ) → Ok s ≡ scanned (malformed k) → A
no_ok {A} s k e = let z : ◌≡◌ {A = ℕ} 0 1 = cc in absurd (omega arith)

abbrev ReadAs : Bytes → Type 0
ReadAs bs = (c : Call) × (k : ℕ) × (read_call bs ≡ got c k) × (decode bs ≡ c)

is_read : (bs : Bytes) (s : Scanned) → Ok s ≡ scanned (decode bs) → ReadAs bs
unfolding decode
is_read bs s e = go (read_call bs) refl e
  where
    go : (R : Read Call) → read_call bs ≡ R → Ok s ≡ scanned (whole (length bs) R) → (c : Call) × (k : ℕ) × (read_call bs ≡ got c k) × (whole (length bs) (read_call bs) ≡ c)
    go (stops k) q e = no_ok s k e
    go (got c k) q e = last (eqb k (length bs)) refl e
      where
        last : (b : Bool) → eqb k (length bs) ≡ b → Ok s ≡ scanned (cond b c (malformed k)) → (c : Call) × (k : ℕ) × (read_call bs ≡ got c k) × (whole (length bs) (read_call bs) ≡ c)
        last true p e = (c, k, q, ap (whole (length bs)) q ∙ ap (λ b. cond b c (malformed k)) p)
        last false p e = no_ok s k e

one-long : {X : Type 0} (xs : List X) (bs : Bytes) (x : X) (n : ℕ) → read_one xs bs ≡ got x n → (1 ≤ length bs) × (n ≡ 1)
unfolding read_one
one-long xs [] x n e = got-stops x n 0 (sym e)
one-long {X = X} xs (b ∷ bs) x n e = (omega arith, go (nth xs b) e)
  where
    go : (o : Option X) → got_one o ≡ got x n → n ≡ 1
    go (some y) e = cc
    go none e = got-stops x n 0 (sym e)

-- ---- by its kind
pub record Carries (bs : Bytes) (s : Scanned) : Type 0 where
  pub form : CallTag
  pub content : Contents (call_fields form)
  pub long : ℕ
  pub is : decode bs ≡ make_call form content
  pub read : read_fields (read_node call_height) (call_fields form) (drop 1 bs) ≡ got content long
  pub inside : 1 ≤ length bs
  pub kind : call_of s.call ≡ form
  pub size : s.size ≡ size_call (make_call form content)

kind_is : (k : CallKind) (n : ℕ) (s : Scanned) → ◌≡◌ {A = Result Scanned ℕ} (Ok s) (Ok (record { call = k; size = n })) → s.call ≡ k
kind_is k n s e = cc

told : (g : CallTag) (x : Contents (call_fields g)) (s : Scanned) → Ok s ≡ scanned (make_call g x) → (call_of s.call ≡ g) × (s.size ≡ size_call (make_call g x))
told set_schema_tag x s e = (ap call_of (kind_is _ _ s e), (cc))
told put_policy_tag x s e = (ap call_of (kind_is _ _ s e), (cc))
told remove_policy_tag x s e = (ap call_of (kind_is _ _ s e), (cc))
told put_entity_tag x s e = (ap call_of (kind_is _ _ s e), (cc))
told remove_entity_tag x s e = (ap call_of (kind_is _ _ s e), (cc))
told validate_tag x s e = (ap call_of (kind_is _ _ s e), (cc))
told authorize_tag x s e = (ap call_of (kind_is _ _ s e), (cc))

pub carries : (bs : Bytes) (s : Scanned) → Ok s ≡ scanned (decode bs) → Carries bs s
unfolding read_call
carries bs s e =
    let w = is_read bs s e in
    let f = follow-inv (read_one call_tags bs) bs (λ g rest. turn (make_call g) (read_fields (read_node call_height) (call_fields g) rest)) w.0 w.1 w.2 in
    let g = f.0 in
    let o = one-long call_tags bs g f.1 f.3 in
    let t = turn-inv (make_call g) (read_fields (read_node call_height) (call_fields g) (drop f.1 bs)) w.0 f.2 f.4 in
    let d : decode bs ≡ make_call g t.0 = w.3 ∙ sym t.2 in
    let q = told g t.0 s (e ∙ ap scanned d) in
    record { form = g; content = t.0; long = f.2; is = d; read = ap (λ n. read_fields (read_node call_height) (call_fields g) (drop n bs)) (sym o.1) ∙ t.1; inside = o.0; kind = q.0; size = q.1 }

-- ---- an entity and a request stand behind the byte that tells the kind
abbrev pub EntityIn : Bytes → Type 0
EntityIn bs = (e : Entity) × (n : ℕ) × (decode bs ≡ put_entity e) × (read_node 66 entity (drop 1 bs) ≡ got e n)

pub entity-told : (bs : Bytes) (s : Scanned) → Carries bs s → s.call ≡ PutEntity → EntityIn bs
entity-told bs s w e =
    let P : CallTag → Type 0 = λ g. (x : Contents (call_fields g)) → decode bs ≡ make_call g x → read_fields (read_node call_height) (call_fields g) (drop 1 bs) ≡ got x w.long → EntityIn bs in
    subst P (sym (ap call_of e) ∙ w.kind) (λ x d r. (x, w.long, d, r)) w.content w.is w.read

abbrev pub RequestIn : Bytes → ℕ → Type 0
RequestIn bs size = (q : Request) × (n : ℕ) × (decode bs ≡ authorize q) × (read_node 66 request (drop 1 bs) ≡ got q n) × (size ≡ size_request q)

pub request-told : (bs : Bytes) (s : Scanned) → Carries bs s → s.call ≡ Authorize → RequestIn bs s.size
request-told bs s w e =
    let P : CallTag → Type 0 = λ g. (x : Contents (call_fields g)) → decode bs ≡ make_call g x → s.size ≡ size_call (make_call g x) → read_fields (read_node call_height) (call_fields g) (drop 1 bs) ≡ got x w.long → RequestIn bs s.size in
    subst P (sym (ap call_of e) ∙ w.kind) (λ x d z r. (x, w.long, d, r, z)) w.content w.is w.size w.read
