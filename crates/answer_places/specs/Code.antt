-- What each case of the code's enums says, in a memory that holds the ids.
use Rattle.std.specs.Prelude.{◌≡◌, ℕ, ◌+◌, ◌<◌, ◌≤◌, true, List, map, length, slice_index}
use Rattle.spec.specs.Basics.{Text}
use Rattle.spec.specs.Policies.{Response}
use Rattle.spec.specs.Calls.{Answer, refused, done, all_valid, not_valid, authorized, all_below}
use Rattle.values.specs.Held.{part, text_at, TextIn}
use Rattle.answers.specs.Code.{refusal_of, why_of, decision_of}
use Rattle.answer_places.specs.declared.Ids.{Ids}
use Rattle.answer_places.specs.declared.Response.{Response as Held}
use Rattle.answer_places.specs.declared.Answer.{Answer as Case}
use Rattle.answer_places.specs.declared.Answer.TheVariants.{Refused, Done, AllValid, NotValid, Authorized}

-- ---- ids
-- the texts whose places are n numbers from a place on
abbrev pub texts_at : List ℕ → ℕ → ℕ → List Text
texts_at m p n = map (λ q. text_at m q) (part m p n)

abbrev pub ids_at : List ℕ → Ids → List Text
ids_at m ids = texts_at m ids.from ids.count

-- an id lies in the memory, and what it holds are bytes
pub record IdIn (m : List ℕ) (p : ℕ) : Type 0 where
  pub within : TextIn m p
  pub bytes : all_below 256 (text_at m p) ≡ true

pub record IdsIn (m : List ℕ) (ids : Ids) : Type 0 where
  pub fits : ids.from + ids.count ≤ length m
  pub each : (k : ℕ) → k < ids.count → IdIn m (slice_index m (ids.from + k))

-- ---- answers
abbrev pub response_of : List ℕ → Held → Response
response_of m r = record { decision = decision_of r.decision; determining_policies = ids_at m r.reasons; erroring_policies = ids_at m r.errors }

pub record ResponseIn (m : List ℕ) (r : Held) : Type 0 where
  pub reasons : IdsIn m r.reasons
  pub errors : IdsIn m r.errors

abbrev pub answer_of : List ℕ → Case → Answer
answer_of m (Refused r k) = refused (refusal_of r) k
answer_of m Done = done
answer_of m AllValid = all_valid
answer_of m (NotValid p w) = not_valid (text_at m p) (why_of w)
answer_of m (Authorized r q es) = authorized (response_of m r) q es

-- all that an answer names lies in the memory
abbrev pub AnswerIn : List ℕ → Case → Type 0
AnswerIn m (Refused r k) = Unit {0}
AnswerIn m Done = Unit {0}
AnswerIn m AllValid = Unit {0}
AnswerIn m (NotValid p w) = IdIn m p
AnswerIn m (Authorized r q es) = ResponseIn m r
