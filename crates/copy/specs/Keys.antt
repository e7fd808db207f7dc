-- The key of what a call speaks of, by which it is kept: the id of a policy, or the name of an entity. Assumes nothing: these are definitions.
use Rattle.std.specs.Prelude.{ℕ, List, []}
use Rattle.spec.specs.Values.{code_text, code_uid}
use Rattle.spec.specs.Calls.{Call, set_schema, put_policy, remove_policy, put_entity, remove_entity, validate_policies, authorize, malformed}

abbrev pub key_call : Call → List ℕ
key_call (set_schema s) = []
key_call (put_policy p) = code_text p.id
key_call (remove_policy t) = code_text t
key_call (put_entity e) = code_uid e.uid
key_call (remove_entity u) = code_uid u
key_call validate_policies = []
key_call (authorize q) = []
key_call (malformed k) = []
