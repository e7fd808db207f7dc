-- What is given: a request of one kind, entities that fit, and actions that are well-formed; and what this says of one entity.
use Rattle.std.proofs.Common.{◌≡◌, true, ◌&&◌, List, [], ◌∷◌, refl}
use mathlib.Core.Option.{Option, some, none}
use Rattle.std.proofs.lemmas.Bool.{and_parts}
use Rattle.spec.specs.Basics.{all, is_empty as is_nil}
use Rattle.spec.specs.Values.{EntityUID, entity_uid, prim, record_of, fields, code_uid, Entity, entity_key, Entities, find_entity, Request}
use Rattle.spec.specs.Types.{entity, record_of, ActionSchemaEntry, EntitySchemaEntry, tag_type, Schema, find_entity_type, find_action, RequestType}
use Rattle.spec.specs.Validate.{all_in, well_formed_action, instance_of_type, tag_instances, valid_ancestor, valid_action, valid_entity_by, valid_entity, action_present}
use Rattle.laws.proofs.Texts.{false-true}
use Rattle.laws.proofs.Codes.{code_uid-is}
use Rattle.laws.proofs.Found.{all-at, found}
use Rattle.laws.proofs.Instances.{Instance}

pub record Setting (s : Schema) (r : RequestType) (q : Request) (es : Entities) : Type 0 where
  pub who : Instance s (entity r.principal) (prim (entity_uid q.principal))
  pub does : Instance s (entity r.action.ty) (prim (entity_uid q.action))
  pub what : Instance s (entity r.resource) (prim (entity_uid q.resource))
  pub about : Instance s (record_of r.context) (record_of q.context)
  pub valid : all (valid_entity s) es ≡ true
  pub present : all (action_present es) s.acts ≡ true
  pub well : all (well_formed_action s) s.acts ≡ true

-- an entity that is found has the name, and is as its type says
pub found-uid : (u : EntityUID) (e : Entity) (es : Entities) → find_entity u es ≡ some e → u ≡ e.uid
found-uid u e es h = code_uid-is u e.uid (found entity_key (code_uid u) e es h).0

pub found-valid : (s : Schema) (es : Entities) → all (valid_entity s) es ≡ true → (u : EntityUID) (e : Entity) → find_entity u es ≡ some e → valid_entity_by (find_entity_type u.ty s) e s ≡ true
unfolding valid_entity
found-valid s es v u e h = rw (found-uid u e es h) (all-at (valid_entity s) e es v (found entity_key (code_uid u) e es h).1)

-- an entity of a type that the schema has
pub record OfType (s : Schema) (d : EntitySchemaEntry) (e : Entity) : Type 0 where
  pub attrs : instance_of_type (record_of e.attrs) (record_of d.attrs) s ≡ true
  pub ancestors : all (valid_ancestor d s) e.ancestors ≡ true
  pub tags : tag_instances (tag_type d) e.tags s ≡ true

pub of-type : (s : Schema) (d : EntitySchemaEntry) (e : Entity) → valid_entity_by (some d) e s ≡ true → OfType s d e
of-type s d e h =
    let p = and_parts (instance_of_type (record_of e.attrs) (record_of d.attrs) s && all (valid_ancestor d s) e.ancestors) _ h in
    let r = and_parts (instance_of_type (record_of e.attrs) (record_of d.attrs) s) _ p.0 in
    record { attrs = r.0; ancestors = r.1; tags = p.1 }

pub nothing-in : {A : Type 0} (xs : List A) → is_nil xs ≡ true → xs ≡ []
nothing-in [] h = refl
nothing-in (x ∷ xs) h = false-true h

-- an entity that is an action has nothing, and is in just the actions above it
pub record AnAction (s : Schema) (e : Entity) : Type 0 where
  pub entry : ActionSchemaEntry
  pub is : find_action e.uid s ≡ some entry
  pub attrs : fields e.attrs ≡ []
  pub tags : fields e.tags ≡ []
  pub only : all_in e.ancestors entry.ancestors ≡ true
  pub every : all_in entry.ancestors e.ancestors ≡ true

pub an-action : (s : Schema) (e : Entity) → valid_entity_by none e s ≡ true → AnAction s e
an-action s e h = go (find_action e.uid s) refl h
  where
    go : (o : Option ActionSchemaEntry) → find_action e.uid s ≡ o → valid_action o e ≡ true → AnAction s e
    go none f h = false-true h
    go (some a) f h =
        let p = and_parts (is_nil (fields e.attrs) && is_nil (fields e.tags)) _ h in
        let n = and_parts (is_nil (fields e.attrs)) (is_nil (fields e.tags)) p.0 in
        let m = and_parts (all_in e.ancestors a.ancestors) (all_in a.ancestors e.ancestors) p.1 in
        record { entry = a; is = f; attrs = nothing-in _ n.0; tags = nothing-in _ n.1; only = m.0; every = m.1 }
