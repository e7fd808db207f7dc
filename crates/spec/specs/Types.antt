-- Types, and the schema. Assumes nothing: these are definitions.
use Rattle.std.specs.Prelude.{Bool, true, false, cond, ◌&&◌, ◌||◌, List, [], ◌∷◌}
use Rattle.std.proofs.Math.Bool.{Bool-discrete}
use Rattle.std.proofs.Math.Option.{Option, some, none}
use Rattle.spec.specs.Basics.{is_some, any, is_yes, Text, same, Text-discrete, find, first}
use Rattle.spec.specs.Values.{EntityUID, code_uid}

-- a truth that may be either, only true, or only false
pub data BoolType : Type 0 where
  any_bool : BoolType
  is_true : BoolType
  is_false : BoolType
  deriving Discrete as BoolType-discrete

mutual
  pub data CedarType : Type 0 where
    bool : BoolType → CedarType
    int : CedarType
    string : CedarType
    entity : Text → CedarType
    set : CedarType → CedarType
    record_of : RecordType → CedarType
    deriving Discrete as CedarType-discrete

  -- a name, whether it is required, and its type
  pub data RecordType : Type 0 where
    empty : RecordType
    attr : Text → Bool → CedarType → RecordType → RecordType

abbrev pub same_type : CedarType → CedarType → Bool
same_type t u = is_yes (CedarType-discrete BoolType-discrete Text-discrete Bool-discrete t u)

-- a type that is required, or not
pub record QualifiedType : Type 0 where
  pub required : Bool
  pub type : CedarType

abbrev pub attributes : RecordType → List (Text × QualifiedType)
attributes empty = []
attributes (attr a r t ts) = (a, record { required = r; type = t }) ∷ attributes ts

abbrev pub to_record_type : List (Text × QualifiedType) → RecordType
to_record_type [] = empty
to_record_type (f ∷ fs) = attr f.0 f.1.required f.1.type (to_record_type fs)

-- ---- the least type above two, if there is one
abbrev pub same_bool : Bool → Bool → Bool
same_bool true b = b
same_bool false true = false
same_bool false false = true

abbrev pub lub_bool : BoolType → BoolType → BoolType
lub_bool any_bool b = any_bool
lub_bool is_true any_bool = any_bool
lub_bool is_true is_true = is_true
lub_bool is_true is_false = any_bool
lub_bool is_false any_bool = any_bool
lub_bool is_false is_true = any_bool
lub_bool is_false is_false = is_false

abbrev pub lub_set : Option CedarType → Option CedarType
lub_set (some t) = some (set t)
lub_set none = none

abbrev pub lub_record : Option RecordType → Option CedarType
lub_record (some r) = some (record_of r)
lub_record none = none

abbrev pub lub_attr : Text → Bool → Option CedarType → Option RecordType → Option RecordType
lub_attr a r (some t) (some ts) = some (attr a r t ts)
lub_attr a r (some t) none = none
lub_attr a r none ts = none

abbrev mutual
  pub lub : CedarType → CedarType → Option CedarType
  lub (bool a) (bool b) = some (bool (lub_bool a b))
  lub (bool a) int = none
  lub (bool a) string = none
  lub (bool a) (entity n) = none
  lub (bool a) (set u) = none
  lub (bool a) (record_of us) = none
  lub int (bool b) = none
  lub int int = some int
  lub int string = none
  lub int (entity n) = none
  lub int (set u) = none
  lub int (record_of us) = none
  lub string (bool b) = none
  lub string int = none
  lub string string = some string
  lub string (entity n) = none
  lub string (set u) = none
  lub string (record_of us) = none
  lub (entity m) (bool b) = none
  lub (entity m) int = none
  lub (entity m) string = none
  lub (entity m) (entity n) = cond (same m n) (some (entity m)) none
  lub (entity m) (set u) = none
  lub (entity m) (record_of us) = none
  lub (set t) (bool b) = none
  lub (set t) int = none
  lub (set t) string = none
  lub (set t) (entity n) = none
  lub (set t) (set u) = lub_set (lub t u)
  lub (set t) (record_of us) = none
  lub (record_of ts) (bool b) = none
  lub (record_of ts) int = none
  lub (record_of ts) string = none
  lub (record_of ts) (entity n) = none
  lub (record_of ts) (set u) = none
  lub (record_of ts) (record_of us) = lub_record (lub_attrs ts us)

  pub lub_attrs : RecordType → RecordType → Option RecordType
  lub_attrs empty empty = some empty
  lub_attrs empty (attr b s u us) = none
  lub_attrs (attr a r t ts) empty = none
  lub_attrs (attr a r t ts) (attr b s u us) = cond (same a b && same_bool r s) (lub_attr a r (lub t u) (lub_attrs ts us)) none

abbrev pub is_that : Option CedarType → CedarType → Bool
is_that (some t) u = same_type t u
is_that none u = false

-- the first is below the second, or the same
abbrev pub subty : CedarType → CedarType → Bool
subty t u = is_that (lub t u) u

-- ---- a schema: the types of entities, and the actions
pub record EntitySchemaEntry : Type 0 where
  pub name : Text
  pub ancestors : List Text  -- the types above it
  pub attrs : RecordType
  pub tags : List CedarType  -- the type of its tags, or none; a schema that gives two is not well-formed

abbrev pub tag_type : EntitySchemaEntry → Option CedarType
tag_type d = first d.tags

pub record ActionSchemaEntry : Type 0 where
  pub uid : EntityUID
  pub principals : List Text
  pub resources : List Text
  pub ancestors : List EntityUID
  pub context : RecordType

pub record Schema : Type 0 where
  pub ets : List EntitySchemaEntry
  pub acts : List ActionSchemaEntry

abbrev pub entity_type_key : EntitySchemaEntry → Text
entity_type_key d = d.name

abbrev pub action_key : ActionSchemaEntry → Text
action_key a = code_uid a.uid

abbrev pub find_entity_type : Text → Schema → Option EntitySchemaEntry
find_entity_type n s = find entity_type_key n s.ets

abbrev pub find_action : EntityUID → Schema → Option ActionSchemaEntry
find_action u s = find action_key (code_uid u) s.acts

-- the type of some action
abbrev pub is_action_type : Text → Schema → Bool
is_action_type n s = any (λ a. same n a.uid.ty) s.acts

-- a type that the schema knows, and an entity that it can know
abbrev pub known_type : Schema → Text → Bool
known_type s n = is_some (find_entity_type n s) || is_action_type n s

abbrev pub known : Schema → EntityUID → Bool
known s u = is_some (find_entity_type u.ty s) || is_some (find_action u s)

-- ---- one kind of request: an action with a type for the principal and one for the resource
pub record RequestType : Type 0 where
  pub principal : Text
  pub action : EntityUID
  pub resource : Text
  pub context : RecordType

pub record TypeEnv : Type 0 where
  pub schema : Schema
  pub reqty : RequestType
