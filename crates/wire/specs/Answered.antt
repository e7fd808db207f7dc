-- Answers read off their bytes. Assumes nothing: these are definitions.
use Rattle.std.specs.Prelude.{◌≡◌, ℕ, zero, suc, Bool, true, false, ◌&&◌, List, [], ◌∷◌, length}
use Rattle.std.proofs.Math.Option.{Option, none}
use Rattle.spec.specs.Basics.{Text, all}
use Rattle.spec.specs.Policies.{Decision, allow, deny, Response}
use Rattle.spec.specs.Typecheck.{lub_err, unexpected_type, attr_not_found, tag_not_found, unknown_entity, empty_set_err}
use Rattle.spec.specs.Validate.{ValidationError, type_error, impossible_policy}
use Rattle.spec.specs.Calls.{Refusal, not_a_call, inadmissible, schema_not_well_formed, not_found, over_capacity, Answer, refused, done, all_valid, not_valid, authorized, is_word, is_bytes}
use Rattle.spec.specs.Bytes.{Bytes, encode_answer}
use Rattle.wire.specs.Read.{Read, got, stops, past, turn, follow, read_word, read_text, nth, got_one, read_one, read_list}

-- one of some things that are numbered from 1 on
abbrev pub numbered : {X : Type 0} → List X → ℕ → Option X
numbered xs zero = none
numbered xs (suc n) = nth xs n

abbrev pub read_numbered : {X : Type 0} → List X → Bytes → Read X
read_numbered xs [] = stops 0
read_numbered xs (b ∷ bs) = got_one (numbered xs b)

abbrev pub refusals : List Refusal
refusals = not_a_call ∷ (inadmissible ∷ (schema_not_well_formed ∷ (not_found ∷ (over_capacity ∷ []))))

abbrev pub whys : List ValidationError
whys = type_error lub_err ∷ (type_error unexpected_type ∷ (type_error attr_not_found ∷ (type_error tag_not_found ∷ (type_error unknown_entity ∷ (type_error empty_set_err ∷ (impossible_policy ∷ []))))))

abbrev pub decisions : List Decision
decisions = deny ∷ (allow ∷ [])

abbrev pub truths : List Bool
truths = false ∷ (true ∷ [])

abbrev pub read_texts : Bytes → Read (List Text)
read_texts bs = read_list read_text 0 bs

abbrev pub read_refused : Bytes → Read Answer
read_refused bs = follow (read_numbered refusals bs) bs (λ r rest. turn (refused r) (read_word rest))

abbrev pub read_not_valid : Bytes → Read Answer
read_not_valid bs = follow (read_text bs) bs (λ t rest. turn (not_valid t) (read_numbered whys rest))

abbrev pub response : Decision → List Text → List Text → Response
response d reasons errors = record { decision = d; determining_policies = reasons; erroring_policies = errors }

abbrev pub read_flags : Response → Bytes → Read Answer
read_flags r bs = follow (read_one truths bs) bs (λ q rest. turn (authorized r q) (read_one truths rest))

abbrev pub read_authorized : Bytes → Read Answer
read_authorized bs =
    follow (read_one decisions bs) bs (λ d rest.
    follow (read_texts rest) rest (λ reasons rest'.
    follow (read_texts rest') rest' (λ errors rest''. read_flags (response d reasons errors) rest'')))

abbrev pub answer_by : ℕ → Bytes → Read Answer
answer_by zero bs = read_refused bs
answer_by (suc zero) bs = got done 0
answer_by (suc (suc zero)) bs = got all_valid 0
answer_by (suc (suc (suc zero))) bs = read_not_valid bs
answer_by (suc (suc (suc (suc zero)))) bs = read_authorized bs
answer_by (suc (suc (suc (suc (suc n))))) bs = stops 0

unfoldable pub read_answer : Bytes → Read Answer
read_answer [] = stops 0
read_answer (b ∷ bs) = past 1 (answer_by b bs)

-- what the bytes of an answer can carry
abbrev pub answerable : Answer → Bool
answerable (refused r k) = is_word k
answerable done = true
answerable all_valid = true
answerable (not_valid t e) = is_bytes t
answerable (authorized r q es) = all is_bytes r.determining_policies && all is_bytes r.erroring_policies

-- an answer is read back as it was written
abbrev pub AnswersReadBack : Type 0
AnswersReadBack = (a : Answer) → answerable a ≡ true → read_answer (encode_answer a) ≡ got a (length (encode_answer a))
