-- What the engine does at this stage: it reads calls, tells a schema that is not well-formed, and does no call yet.
use Rattle.std.specs.Prelude.{Bool, false, cond, not as flip}
use Rattle.spec.specs.Validate.{well_formed}
use Rattle.spec.specs.Calls.{Call, set_schema, put_policy, remove_policy, put_entity, remove_entity, validate_policies, authorize, malformed, Limits, schema_not_well_formed, Answer, refused, empty_store, answer}

abbrev pub stage : Limits
stage = record { supports = λ k. false; capacity = 1 }

abbrev pub ill_formed : Call → Bool
ill_formed (set_schema s) = flip (well_formed s)
ill_formed (put_policy p) = false
ill_formed (remove_policy t) = false
ill_formed (put_entity e) = false
ill_formed (remove_entity u) = false
ill_formed validate_policies = false
ill_formed (authorize q) = false
ill_formed (malformed k) = false

-- by the definitions, the answer to a call of which none is done; but a schema that is not well-formed is told by its own number
abbrev pub answer_now : Call → Answer
answer_now c = cond (ill_formed c) (refused schema_not_well_formed 0) (answer stage empty_store c)
