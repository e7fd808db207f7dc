-- The line that is printed for an answer.
use Rattle.std.specs.Prelude.{ℕ, ◌^◌, ◌<◌, Bool, cond, List, [], ◌++◌, codes, decimal}
use Rattle.spec.specs.Basics.{Text}
use Rattle.spec.specs.Policies.{Decision, allow, deny, Response}
use Rattle.spec.specs.Validate.{ValidationError, validation_error_number}
use Rattle.spec.specs.Calls.{refusal_number, Answer, refused, done, all_valid, not_valid, authorized}
use Rattle.answers.specs.Code.{why_text}
use Rattle.lines.specs.Quotes.{quote, quotes_or}

abbrev pub decision_text : Decision → List ℕ
decision_text allow = codes "allowed"
decision_text deny = codes "not allowed"

-- a refusal's place has eight bytes
abbrev pub Fit : Answer → Type 0
Fit (refused r place) = place < 2 ^ 64
Fit done = Unit {0}
Fit all_valid = Unit {0}
Fit (not_valid id why) = Unit {0}
Fit (authorized response request entities) = Unit {0}

-- the refusal's number, and the place
abbrev pub refused_line : ℕ → ℕ → List ℕ
refused_line n place = codes "refused " ++ (decimal n ++ (codes " at " ++ decimal place))

abbrev pub not_valid_line : Text → ValidationError → List ℕ
not_valid_line id why =
    codes "policy " ++ (quote id ++ (codes " does not check: " ++ (decimal (validation_error_number why) ++ (codes " (" ++ (why_text why ++ codes ")")))))

abbrev pub fits_line : Bool → Bool → List ℕ
fits_line request entities =
    cond request (codes "; request fits") (codes "; request does not fit")
    ++ cond entities (codes "; entities fit") (codes "; entities do not fit")

abbrev pub authorized_line : Response → Bool → Bool → List ℕ
authorized_line response request entities =
    decision_text response.decision
    ++ (quotes_or [] (codes " by") response.determining_policies
    ++ (codes "; errors" ++ (quotes_or (codes " none") [] response.erroring_policies ++ fits_line request entities)))

abbrev pub line_of : Answer → List ℕ
line_of (refused r place) = refused_line (refusal_number r) place
line_of done = codes "done"
line_of all_valid = codes "all policies checked"
line_of (not_valid id why) = not_valid_line id why
line_of (authorized response request entities) = authorized_line response request entities
