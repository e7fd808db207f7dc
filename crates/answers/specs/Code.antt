-- What each case of the code's enums says, and the numbers and words for it.
use Rattle.std.specs.Prelude.{◌≡◌, ℕ, ◌<◌, ◌≢◌, List, Result, MatchResult, codes}
use Rattle.spec.specs.Policies.{Decision, allow, deny}
use Rattle.spec.specs.Typecheck.{TypeError, lub_err, unexpected_type, attr_not_found, tag_not_found, unknown_entity, empty_set_err}
use Rattle.spec.specs.Validate.{ValidationError, type_error, impossible_policy, validation_error_number}
use Rattle.spec.specs.Bytes.{decision_number}
use Rattle.spec.specs.Calls.{Refusal, not_a_call, inadmissible, schema_not_well_formed, not_found, over_capacity}
use Rattle.answers.specs.declared.codes.Kind.{Kind}
use Rattle.answers.specs.declared.codes.Kind.TheVariants.{Refused, Done, AllValid, NotValid, Authorized}
use Rattle.answers.specs.declared.codes.Refusal.{Refusal as RefusalCode}
use Rattle.answers.specs.declared.codes.Refusal.TheVariants.{NotACall, Inadmissible, SchemaNotWellFormed, NotFound, OverCapacity}
use Rattle.answers.specs.declared.codes.Why.{Why}
use Rattle.answers.specs.declared.codes.Why.TheVariants.{IncompatibleTypes, UnexpectedType, AttributeNotFound, TagNotFound, UnknownEntity, EmptySet, NeverTrue}
use Rattle.answers.specs.declared.codes.Decision.{Decision as DecisionCode}
use Rattle.answers.specs.declared.codes.Decision.TheVariants.{Deny, Allow}
use Rattle.answers.specs.declared.codes.UnknownNumber.{UnknownNumber}

abbrev pub refusal_of : RefusalCode → Refusal
refusal_of NotACall = not_a_call
refusal_of Inadmissible = inadmissible
refusal_of SchemaNotWellFormed = schema_not_well_formed
refusal_of NotFound = not_found
refusal_of OverCapacity = over_capacity

abbrev pub why_of : Why → ValidationError
why_of IncompatibleTypes = type_error lub_err
why_of UnexpectedType = type_error unexpected_type
why_of AttributeNotFound = type_error attr_not_found
why_of TagNotFound = type_error tag_not_found
why_of UnknownEntity = type_error unknown_entity
why_of EmptySet = type_error empty_set_err
why_of NeverTrue = impossible_policy

abbrev pub decision_of : DecisionCode → Decision
decision_of Deny = deny
decision_of Allow = allow

-- ---- read back from a number
abbrev pub kind_number : Kind → ℕ
kind_number Refused = 0
kind_number Done = 1
kind_number AllValid = 2
kind_number NotValid = 3
kind_number Authorized = 4

-- the kind with this number, or no kind has it
abbrev pub IsKind : ℕ → Result Kind UnknownNumber → Type 0
IsKind n r = MatchResult r (λ kind. kind_number kind ≡ n) (λ e. (e.0 ≡ n) × (4 < n))

-- the why with this number, or none has it
abbrev pub IsWhy : ℕ → Result Why UnknownNumber → Type 0
IsWhy n r = MatchResult r (λ why. validation_error_number (why_of why) ≡ n) (λ e. (e.0 ≡ n) × ((why : ValidationError) → validation_error_number why ≢ n))

-- the decision with this number, or neither has it
abbrev pub IsDecision : ℕ → Result DecisionCode UnknownNumber → Type 0
IsDecision n r = MatchResult r (λ decision. decision_number (decision_of decision) ≡ n) (λ e. (e.0 ≡ n) × (1 < n))

-- ---- why a policy does not check, in words
abbrev pub type_error_text : TypeError → List ℕ
type_error_text lub_err = codes "incompatible types"
type_error_text unexpected_type = codes "unexpected type"
type_error_text attr_not_found = codes "attribute not found"
type_error_text tag_not_found = codes "tag not found"
type_error_text unknown_entity = codes "unknown entity or type"
type_error_text empty_set_err = codes "empty set"

abbrev pub why_text : ValidationError → List ℕ
why_text (type_error e) = type_error_text e
why_text impossible_policy = codes "never true"
