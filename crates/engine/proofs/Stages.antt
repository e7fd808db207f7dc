-- What the definitions answer at a stage in which no call is done, by what was scanned.
use Rattle.std.proofs.Common.{◌≡◌, ℕ, true, false, List, Ok, Err, Option, Result, sym, refl, ap, subst, arith}
use Rattle.spec.specs.Validate.{well_formed}
use Rattle.spec.specs.Calls.{Call, set_schema, put_policy, remove_policy, put_entity, remove_entity, validate_policies, authorize, malformed, not_a_call, inadmissible, refusal, Answer, refused}
use Rattle.spec.specs.Bytes.{encode_answer}
use Rattle.answers.specs.Put.{Put}
use Rattle.reader.specs.declared.grammar.CallKind.TheVariants.{SetSchema}
use Rattle.reader.specs.declared.scan.Scanned.{Scanned}
use Rattle.reader.specs.Found.{scanned}
use Rattle.schema_order.specs.Places.{is_schema, schema_of}
use Rattle.engine.specs.Stage.{ill_formed, answer_now}

not-ok : {A : Type 0} {s : Scanned} {k : ℕ} → ◌≡◌ {A = Result Scanned ℕ} (Ok s) (Err k) → A
not-ok {A} {s} {k} h = let z : ◌≡◌ {A = ℕ} 0 1 = cc in absurd (omega arith)

not_err : {A : Type 0} {s : Scanned} {k : ℕ} → ◌≡◌ {A = Result Scanned ℕ} (Err k) (Ok s) → A
not_err {A} {s} {k} h = let z : ◌≡◌ {A = ℕ} 0 1 = cc in absurd (omega arith)

same_place : {j k : ℕ} → ◌≡◌ {A = Result Scanned ℕ} (Err k) (Err j) → j ≡ k
same_place {j} {k} h = cc

-- a call that is read, and is not a schema out of order
pub read-as-call : (c : Call) (s : Scanned) → Ok s ≡ scanned c → ill_formed c ≡ false → answer_now c ≡ refused inadmissible 0
unfolding refusal
read-as-call (set_schema d) s h k = rw k
read-as-call (put_policy p) s h k = refl
read-as-call (remove_policy t) s h k = refl
read-as-call (put_entity e) s h k = refl
read-as-call (remove_entity u) s h k = refl
read-as-call validate_policies s h k = refl
read-as-call (authorize q) s h k = refl
read-as-call (malformed j) s h k = not-ok h

call_is : {s t : Scanned} → ◌≡◌ {A = Result Scanned ℕ} (Ok s) (Ok t) → s.call ≡ t.call
call_is {s} {t} h = cc

-- only a call that sets a schema is scanned as one
pub set-is-schema : (c : Call) (s : Scanned) → Ok s ≡ scanned c → s.call ≡ SetSchema → is_schema c ≡ true
set-is-schema (set_schema d) s h z = refl
set-is-schema (put_policy p) s h z = let e = call_is h in cc
set-is-schema (remove_policy t) s h z = let e = call_is h in cc
set-is-schema (put_entity d) s h z = let e = call_is h in cc
set-is-schema (remove_entity u) s h z = let e = call_is h in cc
set-is-schema validate_policies s h z = let e = call_is h in cc
set-is-schema (authorize q) s h z = let e = call_is h in cc
set-is-schema (malformed k) s h z = not-ok h

pub well-formed : (c : Call) → is_schema c ≡ true → well_formed (schema_of c) ≡ true → ill_formed c ≡ false
well-formed (set_schema d) h k = rw k
well-formed (put_policy p) h k = refl
well-formed (remove_policy t) h k = refl
well-formed (put_entity d) h k = refl
well-formed (remove_entity u) h k = refl
well-formed validate_policies h k = refl
well-formed (authorize q) h k = refl
well-formed (malformed j) h k = refl

-- a call of another kind
pub no-schema : (c : Call) (s : Scanned) → Ok s ≡ scanned c → (s.call ≡ SetSchema → ⊥) → ill_formed c ≡ false
no-schema (set_schema d) s h z = absurd (z (call_is h))
no-schema (put_policy p) s h z = refl
no-schema (remove_policy t) s h z = refl
no-schema (put_entity d) s h z = refl
no-schema (remove_entity u) s h z = refl
no-schema validate_policies s h z = refl
no-schema (authorize q) s h z = refl
no-schema (malformed k) s h z = refl

pub no_call : (c : Call) (k : ℕ) → Err k ≡ scanned c → answer_now c ≡ refused not_a_call k
unfolding refusal
no_call (set_schema d) k h = not_err h
no_call (put_policy p) k h = not_err h
no_call (remove_policy t) k h = not_err h
no_call (put_entity e) k h = not_err h
no_call (remove_entity u) k h = not_err h
no_call validate_policies k h = not_err h
no_call (authorize q) k h = not_err h
no_call (malformed j) k h = ap (refused not_a_call) (same_place h)

-- the bytes of one answer are those of an equal one
pub put_as : (old new : List ℕ) (r : Option ℕ) (a b : Answer) → a ≡ b → Put old 0 (encode_answer b) r new → Put old 0 (encode_answer a) r new
put_as old new r a b e p = subst (λ x. Put old 0 (encode_answer x) r new) (sym e) p
