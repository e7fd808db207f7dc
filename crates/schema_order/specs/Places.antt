-- What stands at a place among the bytes of a schema. Assumes nothing: these are definitions.
use Rattle.std.specs.Prelude.{◌≡◌, ℕ, ◌≤◌, Bool, true, false, cond, ◌&&◌, List, [], ◌∷◌, length, drop, Some, None, Option}
use Rattle.std.specs.Coded.{×_prop, Unit-prop}
use Rattle.spec.specs.Basics.{Text, any, less}
use Rattle.spec.specs.Bytes.{Bytes}
use Rattle.spec.specs.Values.{EntityUID, code_uid, same_uid}
use Rattle.spec.specs.Types.{CedarType, int, EntitySchemaEntry, ActionSchemaEntry, Schema}
use Rattle.spec.specs.Validate.{all_in}
use Rattle.spec.specs.Calls.{Call, set_schema, put_policy, remove_policy, put_entity, remove_entity, validate_policies, authorize, malformed}
use Rattle.wire.specs.Read.{Read, got, stops, read_text, read_list}
use Rattle.wire.specs.Grammar.{type, uid, entity_entry, action_entry, small, truth, text, node, three, read_fields, read_node}
use Rattle.reader.specs.Ends.{Got, ending}
use Rattle.schema_order.specs.declared.lists.Listed.{Listed}
use Rattle.schema_order.specs.declared.lists.Listed.TheVariants.{Names, Uids, Entries, Actions, Attributes}
use Rattle.schema_order.specs.declared.actions.Lists.{Lists}

-- ---- the schema that a call sets
abbrev pub is_schema : Call → Bool
is_schema (set_schema s) = true
is_schema (put_policy p) = false
is_schema (remove_policy t) = false
is_schema (put_entity e) = false
is_schema (remove_entity u) = false
is_schema validate_policies = false
is_schema (authorize q) = false
is_schema (malformed k) = false

abbrev pub schema_of : Call → Schema
schema_of (set_schema s) = s
schema_of (put_policy p) = record { ets = []; acts = [] }
schema_of (remove_policy t) = record { ets = []; acts = [] }
schema_of (put_entity e) = record { ets = []; acts = [] }
schema_of (remove_entity u) = record { ets = []; acts = [] }
schema_of validate_policies = record { ets = []; acts = [] }
schema_of (authorize q) = record { ets = []; acts = [] }
schema_of (malformed k) = record { ets = []; acts = [] }

-- ---- what is made of what was read, and where that ends
-- d stands where nothing was read
abbrev pub made : {X Y : Type 0} → Y → (X → Y) → Read X → Y
made d f (got x n) = f x
made d f (stops k) = d

abbrev pub what : {X : Type 0} → X → Read X → X
what d R = made d (λ x. x) R

abbrev pub holds : {X : Type 0} → (X → Bool) → Read X → Bool
holds f R = made true f R

-- it ends at r, among the bytes
abbrev pub Ends : {X : Type 0} → ℕ → ℕ → Read X → ℕ → Type 0
Ends len at R r = (r ≡ ending at R) × (at ≤ r) × (r ≤ len)

-- it ends among the bytes
abbrev pub Within : ℕ → ℕ → Option ℕ → Type 0
Within at len (Some end) = (at ≤ end) × (end ≤ len)
Within at len None = Unit {0}

-- ---- single things
abbrev pub text_at : Bytes → ℕ → Text
text_at bs at = what [] (read_text (drop at bs))

-- what stands in an entry is of height 65
abbrev pub read_uid : Bytes → Read EntityUID
read_uid bs = read_node 65 uid bs

abbrev pub uid_at : Bytes → ℕ → EntityUID
uid_at bs at = what (record { ty = []; eid = [] }) (read_uid (drop at bs))

abbrev pub type_at : ℕ → Bytes → ℕ → CedarType
type_at h bs at = what int (read_node h type (drop at bs))

abbrev pub types_at : Bytes → ℕ → List CedarType
types_at bs at = what [] (read_list (read_node 65 type) 0 (drop at bs))

-- ---- lists: what they are lists of, how it is read, and its key
abbrev pub Attribute : Type 0
Attribute = Bool × (Text × CedarType)

abbrev pub read_attribute : ℕ → Bytes → Read Attribute
read_attribute h bs = read_fields (read_node h) (three (small truth) text (node type)) bs

abbrev pub Item : Listed → Type 0
Item Names = Text
Item Uids = EntityUID
Item Entries = EntitySchemaEntry
Item Actions = ActionSchemaEntry
Item (Attributes h) = Attribute

abbrev pub read_item : (l : Listed) → Bytes → Read (Item l)
read_item Names bs = read_text bs
read_item Uids bs = read_uid bs
read_item Entries bs = read_node 66 entity_entry bs
read_item Actions bs = read_node 66 action_entry bs
read_item (Attributes h) bs = read_attribute h bs

abbrev pub key : (l : Listed) → Item l → Text
key Names t = t
key Uids u = code_uid u
key Entries d = d.name
key Actions a = code_uid a.uid
key (Attributes h) f = f.1.0

abbrev pub key_at : Listed → Bytes → ℕ → Text
key_at l bs at = made [] (key l) (read_item l (drop at bs))

abbrev pub read_many : (l : Listed) → Bytes → Read (List (Item l))
read_many l bs = read_list (read_item l) 0 bs

abbrev pub list_at : (l : Listed) → Bytes → ℕ → List (Item l)
list_at l bs at = what [] (read_many l (drop at bs))

-- what is looked up in a list: the name of a type, or of an entity
abbrev pub plain : Listed → Listed
plain Names = Names
plain Uids = Uids
plain Entries = Names
plain Actions = Uids
plain (Attributes h) = Names

-- an element stands at a place, and those behind it where it ends
abbrev pub IsElement : Bytes → Listed → ℕ → ℕ → Type 0
IsElement bs l item next = Got (read_item l (drop item bs)) × Ends (length bs) item (read_item l (drop item bs)) next × Got (read_many l (drop next bs))

-- what is answered of places is what a test says of the elements there, and of those behind them
abbrev pub Decides : (ℕ → ℕ → Bool → Type 0) → Bytes → (l : Listed) → (Item l → List (Item l) → Bool) → Type 0
Decides answers bs l T = (item next : ℕ) (b : Bool) → IsElement bs l item next → answers item next b → b ≡ holds (λ x. T x (list_at l bs next)) (read_item l (drop item bs))

abbrev pub DecidesItem : (ℕ → Bool → Type 0) → Bytes → (l : Listed) → (Item l → Bool) → Type 0
DecidesItem answers bs l T = (item : ℕ) (b : Bool) → Got (read_item l (drop item bs)) → answers item b → b ≡ holds T (read_item l (drop item bs))

-- a test holds of each element and of those behind it
abbrev pub each : {X : Type 0} → (X → List X → Bool) → List X → Bool
each T [] = true
each T (x ∷ xs) = T x xs && each T xs

-- nothing follows, or something with a greater key
abbrev pub before : {X : Type 0} → (X → Text) → Text → List X → Bool
before f t [] = true
before f t (x ∷ xs) = less t (f x)

-- ---- the schema: entries of types are at 1, and those of actions behind them
abbrev pub schema_at : Bytes → ℕ → Schema
schema_at bs actions = record { ets = list_at Entries bs 1; acts = list_at Actions bs actions }

abbrev pub Stands : Bytes → ℕ → Type 0
Stands bs actions = Got (read_many Entries (drop 1 bs)) × Got (read_many Actions (drop actions bs))

got_prop : {X : Type 0} (R : Read X) → IsProp (Got R)
got_prop (got x n) = Unit-prop
got_prop (stops k) = λ g. absurd g

pub stands_prop : (bs : Bytes) (actions : ℕ) → IsProp (Stands bs actions)
stands_prop bs actions = ×_prop (got_prop (read_many Entries (drop 1 bs))) (got_prop (read_many Actions (drop actions bs)))

-- ---- an action: its name, and behind it its lists
abbrev pub principals_at : Bytes → ℕ → ℕ
principals_at bs at = ending at (read_uid (drop at bs))

abbrev pub resources_at : Bytes → ℕ → ℕ
resources_at bs at = ending (principals_at bs at) (read_many Names (drop (principals_at bs at) bs))

abbrev pub over_at : Bytes → ℕ → ℕ
over_at bs at = ending (resources_at bs at) (read_many Names (drop (resources_at bs at) bs))

abbrev pub context_at : Bytes → ℕ → ℕ
context_at bs at = ending (over_at bs at) (read_many Uids (drop (over_at bs at) bs))

abbrev pub ListsOf : Bytes → ℕ → Lists → Type 0
ListsOf bs at l = (l.principals ≡ principals_at bs at) × (l.resources ≡ resources_at bs at) × (l.above ≡ over_at bs at) × (l.context ≡ context_at bs at)

abbrev pub ListsStand : Bytes → Lists → Type 0
ListsStand bs l = Got (read_many Names (drop l.principals bs)) × Got (read_many Names (drop l.resources bs)) × Got (read_many Uids (drop l.above bs)) × Got (read_many (Attributes 64) (drop l.context bs))

-- what is above an action is among some, if it is
abbrev pub closed_to : List EntityUID → ActionSchemaEntry → Bool
closed_to us b = cond (any (same_uid b.uid) us) (all_in b.ancestors us) true
