-- A worked example: two deeds, the people and roles about them, seven policies and eight requests; and what the definitions say of them.
use Rattle.std.specs.Prelude.{◌≡◌, true, false, List, [], ◌∷◌, ℕ, ◌+◌, codes}
use Rattle.spec.specs.Basics.{ok, Text}
use Rattle.spec.specs.Values.{EntityUID, Primitive, bool, int, entity_uid, prim, Attrs, empty, attr, Entity, Entities, Request}
use Rattle.spec.specs.Exprs.{principal, resource, context, eq, less, mul, Expr, lit, var, and, or, binary_app, get_attr, has_attr}
use Rattle.spec.specs.Evaluate.{half}
use Rattle.spec.specs.Policies.{permit, forbid, any, eq, mem, is, in_scope, Condition, when, unless, Policy, Policies, Decision, allow, deny, Response}
use Rattle.spec.specs.Types.{any_bool, CedarType, bool, int, entity, empty, attr, Schema}
use Rattle.spec.specs.Typecheck.{attr_not_found}
use Rattle.spec.specs.Validate.{well_formed, type_error, impossible_policy, validate, validate_request, validate_entities}
use Rattle.spec.specs.Calls.{Call, set_schema, put_policy, put_entity, validate_policies, authorize, Limits, Answer, all_valid, not_valid, authorized, answer, store_after}
use Rattle.spec.specs.Promises.{all_calls}

-- ---- names
abbrev pub uid : Text → Text → EntityUID
uid t i = record { ty = t; eid = i }

abbrev pub ada : EntityUID
ada = uid (codes "Person") (codes "Ada")

abbrev pub bo : EntityUID
bo = uid (codes "Person") (codes "Bo")

abbrev pub cy : EntityUID
cy = uid (codes "Person") (codes "Cy")

abbrev pub clerk : EntityUID
clerk = uid (codes "Role") (codes "clerk")

abbrev pub deed7 : EntityUID
deed7 = uid (codes "Deed") (codes "7")

abbrev pub deed8 : EntityUID
deed8 = uid (codes "Deed") (codes "8")

abbrev pub deed9 : EntityUID
deed9 = uid (codes "Deed") (codes "9")

abbrev pub «use» : EntityUID
«use» = uid (codes "Action") (codes "use")

abbrev pub lend : EntityUID
lend = uid (codes "Action") (codes "lend")

abbrev pub read : EntityUID
read = uid (codes "Action") (codes "read")

-- ---- the schema: names in the order of their bytes, actions in that of lengths and bytes
abbrev pub any_truth : CedarType
any_truth = bool any_bool

abbrev pub schema : Schema
schema =
    record {
      ets =
          record { name = codes "Deed"; ancestors = []; attrs = attr (codes "owner") true (entity (codes "Person")) (attr (codes "sealed") true any_truth (attr (codes "until") false int empty)); tags = [] }
          ∷ (record { name = codes "Person"; ancestors = codes "Role" ∷ []; attrs = attr (codes "born") false int empty; tags = [] }
          ∷ (record { name = codes "Role"; ancestors = []; attrs = empty; tags = [] } ∷ []));
      acts =
          record { uid = «use»; principals = []; resources = []; ancestors = []; context = empty }
          ∷ (record { uid = lend; principals = codes "Person" ∷ []; resources = codes "Deed" ∷ []; ancestors = «use» ∷ []; context = attr (codes "day") true int empty }
          ∷ (record { uid = read; principals = codes "Person" ∷ []; resources = codes "Deed" ∷ []; ancestors = «use» ∷ []; context = attr (codes "day") true int empty } ∷ []));
    }

-- ---- the policies
abbrev pub number : ℕ → Primitive
number n = int (half + n)

abbrev pub integer : ℕ → Expr
integer n = lit (number n)

abbrev pub whenever : Expr → Condition
whenever x = record { kind = when; body = x }

-- permit (principal in Role::"clerk", action in Action::"use", resource is Deed) unless { resource.sealed };
abbrev pub p1 : Policy
p1 = record { id = codes "p1"; effect = permit; principal_scope = mem clerk; action_scope = in_scope (mem «use»); resource_scope = is (codes "Deed"); conditions = record { kind = unless; body = get_attr (var resource) (codes "sealed") } ∷ [] }

-- permit (principal, action == Action::"read", resource) when { resource.owner == principal };
abbrev pub p2 : Policy
p2 = record { id = codes "p2"; effect = permit; principal_scope = any; action_scope = in_scope (eq read); resource_scope = any; conditions = whenever (binary_app eq (get_attr (var resource) (codes "owner")) (var principal)) ∷ [] }

-- forbid (principal, action, resource) when { resource has until && resource.until < context.day };
abbrev pub p3 : Policy
p3 = record { id = codes "p3"; effect = forbid; principal_scope = any; action_scope = in_scope any; resource_scope = any; conditions = whenever (and (has_attr (var resource) (codes "until")) (binary_app less (get_attr (var resource) (codes "until")) (get_attr (var context) (codes "day")))) ∷ [] }

-- permit (principal, action, resource) when { resource.until < 5 };
abbrev pub p4 : Policy
p4 = record { id = codes "p4"; effect = permit; principal_scope = any; action_scope = in_scope any; resource_scope = any; conditions = whenever (binary_app less (get_attr (var resource) (codes "until")) (integer 5)) ∷ [] }

-- forbid (principal, action, resource) when { principal == resource };
abbrev pub p5 : Policy
p5 = record { id = codes "p5"; effect = forbid; principal_scope = any; action_scope = in_scope any; resource_scope = any; conditions = whenever (binary_app eq (var principal) (var resource)) ∷ [] }

-- forbid (principal, action, resource) when { context.day * 4611686018427387904 < 0 };
abbrev pub p6 : Policy
p6 = record { id = codes "p6"; effect = forbid; principal_scope = any; action_scope = in_scope any; resource_scope = any; conditions = whenever (binary_app less (binary_app mul (get_attr (var context) (codes "day")) (integer 4611686018427387904)) (integer 0)) ∷ [] }

-- permit (principal, action == Action::"lend", resource) when { principal has born || resource has until } when { principal.born < 1990 };
abbrev pub p7 : Policy
p7 = record { id = codes "p7"; effect = permit; principal_scope = any; action_scope = in_scope (eq lend); resource_scope = any; conditions = whenever (or (has_attr (var principal) (codes "born")) (has_attr (var resource) (codes "until"))) ∷ (whenever (binary_app less (get_attr (var principal) (codes "born")) (integer 1990)) ∷ []) }

-- ---- the entities: Bo is in no role, and Cy is not there
abbrev pub deed : EntityUID → Attrs → Entity
deed u r = record { uid = u; attrs = r; ancestors = []; tags = empty }

abbrev pub plain : EntityUID → List EntityUID → Entity
plain u us = record { uid = u; attrs = empty; ancestors = us; tags = empty }

abbrev pub entities : Entities
entities =
    plain clerk []
    ∷ (record { uid = ada; attrs = attr (codes "born") (prim (number 1950)) empty; ancestors = clerk ∷ []; tags = empty }
    ∷ (plain bo []
    ∷ (deed deed7 (attr (codes "owner") (prim (entity_uid ada)) (attr (codes "sealed") (prim (bool false)) (attr (codes "until") (prim (number 10)) empty)))
    ∷ (deed deed8 (attr (codes "owner") (prim (entity_uid bo)) (attr (codes "sealed") (prim (bool true)) empty))
    ∷ (plain «use» []
    ∷ (plain lend («use» ∷ [])
    ∷ (plain read («use» ∷ []) ∷ [])))))))

-- ---- the calls that tell all that, the last first
abbrev pub limits : Limits
limits = record { supports = all_calls; capacity = 10000 }

abbrev pub puts : Policies → List Call → List Call
puts [] cs = cs
puts (p ∷ ps) cs = put_policy p ∷ puts ps cs

abbrev pub tells : Entities → List Call
tells [] = set_schema schema ∷ []
tells (e ∷ es) = put_entity e ∷ tells es

abbrev pub history : Policies → List Call
history ps = puts ps (tells entities)

-- ---- which policies are validated
abbrev pub Validated : Policy → Answer → Type 0
Validated p a = answer limits (store_after limits (history (p ∷ []))) validate_policies ≡ a

abbrev pub ValidationTable : Type 0
ValidationTable =
    Validated p1 all_valid
    × Validated p2 all_valid
    × Validated p3 all_valid
    × Validated p4 (not_valid (codes "p4") (type_error attr_not_found))
    × Validated p5 (not_valid (codes "p5") impossible_policy)
    × Validated p6 all_valid
    × Validated p7 (not_valid (codes "p7") (type_error attr_not_found))

-- ---- the requests, on a day
abbrev pub asks : EntityUID → EntityUID → EntityUID → ℕ → Request
asks who does what day = record { principal = who; action = does; resource = what; context = attr (codes "day") (prim (number day)) empty }

abbrev pub Answered : Policies → Request → Answer → Type 0
Answered ps q a = answer limits (store_after limits (history ps)) (authorize q) ≡ a

abbrev pub by : Decision → List Text → List Text → Response
by d reasons errors = record { decision = d; determining_policies = reasons; erroring_policies = errors }

abbrev pub three : Policies
three = p1 ∷ (p2 ∷ (p3 ∷ []))

abbrev pub five : Policies
five = p6 ∷ (p4 ∷ three)

abbrev pub RequestTable : Type 0
RequestTable =
    Answered three (asks ada read deed7 3) (authorized (by allow (codes "p1" ∷ (codes "p2" ∷ [])) []) true true)
    × Answered three (asks ada read deed7 11) (authorized (by deny (codes "p3" ∷ []) []) true true)
    × Answered three (asks ada lend deed8 3) (authorized (by deny [] []) true true)
    × Answered three (asks bo read deed8 3) (authorized (by allow (codes "p2" ∷ []) []) true true)
    × Answered three (asks bo read deed9 3) (authorized (by deny [] (codes "p2" ∷ [])) true true)
    × Answered three (asks cy lend deed7 3) (authorized (by deny [] []) true true)
    × Answered three (asks ada «use» deed7 3) (authorized (by allow (codes "p1" ∷ []) []) false true)
    × Answered five (asks bo read deed8 3) (authorized (by allow (codes "p2" ∷ []) (codes "p4" ∷ (codes "p6" ∷ []))) true true)

-- ---- what the soundness of validation asks for can be met: here it is, at once, of the schema, three policies, a request and all entities
abbrev pub PremisesCanBeMet : Type 0
PremisesCanBeMet =
    (well_formed schema ≡ true) × (validate three schema ≡ ok tt) × (validate_request (asks bo read deed9 3) schema ≡ true) × (validate_entities entities schema ≡ true)
