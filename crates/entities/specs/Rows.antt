-- What the entities and a request stand for, as they lie in memory.
-- An entity's row is its name, the nodes of its attributes and of its tags, and the number of its ancestors with their names behind it.
-- A request's row is the names of principal, action and resource, and the node of its context.
use Rattle.std.specs.declared.cmp.Ordering.TheVariants.{Less}
use Rattle.std.specs.Prelude.{◌≡◌, ℕ, Bool, zero, suc, ◌+◌, ◌<◌, ◌≤◌, List, [], ◌∷◌, length, Some, None, Option, slice_index}
use Rattle.std.proofs.Math.Option as o
use Rattle.spec.specs.Values as s
use Rattle.spec.specs.Values.{EntityUID, Attrs, Entity, find_entity}
use Rattle.values.specs.Order.{order_uid}
use Rattle.values.specs.Held.{behind_text, uid_at, UIDIn, attrs_at, decode, Good}
use Rattle.values.specs.Making.{listed}
use Rattle.values.specs.declared.nodes.Value.TheVariants.{Record}
use Rattle.shelves.specs.declared.table.Table.{Table}
use Rattle.entities.specs.declared.requests.Subject.{Subject}
use Rattle.entities.specs.declared.requests.Request.{Request}

-- ---- what lies behind something
abbrev pub behind_uid : List ℕ → ℕ → ℕ
behind_uid m p = behind_text m (behind_text m p)

-- a stored node begins with its length
abbrev pub behind_node : List ℕ → ℕ → ℕ
behind_node m p = p + slice_index m p

-- ---- what entities have: a record, and names one behind the other
-- 65 is the height of the deepest record that a call can carry
abbrev pub record_at : List ℕ → ℕ → Attrs
record_at m p = attrs_at (decode 64 m) m p

abbrev pub RecordAt : List ℕ → ℕ → Type 0
RecordAt m p = Good 65 m (Record p)

abbrev pub uids_at : List ℕ → ℕ → ℕ → List EntityUID
uids_at m p zero = []
uids_at m p (suc n) = uid_at m p ∷ uids_at m (behind_uid m p) n

abbrev pub UIDsIn : List ℕ → ℕ → ℕ → Type 0
UIDsIn m p zero = Unit {0}
UIDsIn m p (suc n) = UIDIn m p × UIDsIn m (behind_uid m p) n

-- what the code tests at the places of names that lie there is this test
abbrev pub TestsBy : List ℕ → (ℕ → Bool → Type 0) → (EntityUID → Bool) → Type 0
TestsBy m gives f = (p : ℕ) (b : Bool) → UIDIn m p → gives p b → b ≡ f (uid_at m p)

-- ---- an entity whose row lies at a place
abbrev pub attrs_place : List ℕ → ℕ → ℕ
attrs_place m p = behind_uid m p

abbrev pub tags_place : List ℕ → ℕ → ℕ
tags_place m p = behind_node m (attrs_place m p)

abbrev pub ancestors_place : List ℕ → ℕ → ℕ
ancestors_place m p = behind_node m (tags_place m p)

abbrev pub ancestors_at : List ℕ → ℕ → List EntityUID
ancestors_at m p = uids_at m (ancestors_place m p + 1) (slice_index m (ancestors_place m p))

abbrev pub entity_at : List ℕ → ℕ → Entity
entity_at m p = record { uid = uid_at m p; attrs = record_at m (attrs_place m p); ancestors = ancestors_at m p; tags = record_at m (tags_place m p) }

pub record EntityIn (m : List ℕ) (p : ℕ) : Type 0 where
  pub name : UIDIn m p
  pub attrs : RecordAt m (attrs_place m p)
  pub tags : RecordAt m (tags_place m p)
  pub fits : ancestors_place m p < length m
  pub ancestors : UIDsIn m (ancestors_place m p + 1) (slice_index m (ancestors_place m p))

-- ---- all entities: m is the store's memory alone
abbrev pub row_place : List ℕ → Table → ℕ → ℕ
row_place m e k = e.from + slice_index m (e.places + k)

abbrev pub entities_at : List ℕ → Table → s.Entities
entities_at m e = listed (λ k. entity_at m (row_place m e k)) 0 e.count

pub record EntitiesIn (m : List ℕ) (e : Table) : Type 0 where
  pub fits : e.places + e.count ≤ length m
  pub each : (k : ℕ) → k < e.count → EntityIn m (row_place m e k)
  pub rising : (i j : ℕ) → i < j → j < e.count → order_uid (uid_at m (row_place m e i)) (uid_at m (row_place m e j)) ≡ Less

-- the row of an entity that is found, or nothing
abbrev pub FoundRow : List ℕ → Option ℕ → o.Option Entity → Type 0
FoundRow m (Some p) x = (x ≡ o.some (entity_at m p)) × EntityIn m p
FoundRow m None x = x ≡ o.none

-- ---- a request: its names and its context lie in a memory m, which begins with the store; its entities in the store
pub record SubjectIn (store m : List ℕ) (e : Table) (x : Subject) : Type 0 where
  pub name : UIDIn m x.uid
  pub found : FoundRow store x.row (find_entity (uid_at m x.uid) (entities_at store e))

abbrev pub request_at : List ℕ → Request → s.Request
request_at m q = record {
  principal = uid_at m q.principal.uid;
  action = uid_at m q.action.uid;
  resource = uid_at m q.resource.uid;
  context = record_at m q.context;
}

pub record RequestIn (store m : List ℕ) (e : Table) (q : Request) : Type 0 where
  pub principal : SubjectIn store m e q.principal
  pub action : SubjectIn store m e q.action
  pub resource : SubjectIn store m e q.resource
  pub context : RecordAt m q.context

-- ---- a request's row
abbrev pub action_place : List ℕ → ℕ → ℕ
action_place m p = behind_uid m p

abbrev pub resource_place : List ℕ → ℕ → ℕ
resource_place m p = behind_uid m (action_place m p)

abbrev pub context_place : List ℕ → ℕ → ℕ
context_place m p = behind_uid m (resource_place m p)

abbrev pub request_row_at : List ℕ → ℕ → s.Request
request_row_at m p = record {
  principal = uid_at m p;
  action = uid_at m (action_place m p);
  resource = uid_at m (resource_place m p);
  context = record_at m (context_place m p);
}

pub record RequestRowIn (m : List ℕ) (p : ℕ) : Type 0 where
  pub principal : UIDIn m p
  pub action : UIDIn m (action_place m p)
  pub resource : UIDIn m (resource_place m p)
  pub context : RecordAt m (context_place m p)
