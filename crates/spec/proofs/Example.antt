-- The worked example, by computation.
use mathlib.Core.Path.{refl}
use Prim.Native.Nat.{ℕ}
use native.Mathlib.Decide.{ℕ_discrete}
use Rattle.spec.specs.Basics.{same, less, Text-discrete, insert, insert_all, find, remove, ascending}
use Rattle.spec.specs.Values.{EntityUID-discrete}
use Rattle.spec.specs.Exprs.{expr-discrete}
use Rattle.spec.specs.Evaluate.{matches}
use Rattle.spec.specs.Policies.{satisfied, has_error, ids_where, is_authorized}
use Rattle.spec.specs.Validate.{typecheck_policy, validate_policy, validate_request, valid_entity, action_present}
use Rattle.spec.specs.Calls.{refusal}
use Rattle.spec.specs.TwoDeeds.{ValidationTable, RequestTable, PremisesCanBeMet}

-- to unfold this is to unfold all definitions
run : ℕ
unfolding same less Text-discrete ℕ_discrete EntityUID-discrete expr-discrete insert insert_all find remove ascending matches satisfied has_error ids_where is_authorized typecheck_policy validate_policy validate_request valid_entity action_present refusal
run = 0

pub premises : PremisesCanBeMet
unfolding run
premises = (refl, refl, refl, refl)

pub validation : ValidationTable
unfolding run
validation = (refl, refl, refl, refl, refl, refl, refl)

pub requests : RequestTable
unfolding run
requests = (refl, refl, refl, refl, refl, refl, refl, refl)
