-- Values, the entities that have them, and requests. Assumes nothing: these are definitions.
use Rattle.std.specs.Prelude.{◌≡◌, Bool, cond, List, [], ◌∷◌, ◌++◌, ℕ, length}
use Rattle.std.proofs.Common.{ap}
use Rattle.std.proofs.Math.Bool.{Bool-discrete}
use Rattle.std.proofs.Math.Option.{Option, some, none}
use Rattle.std.proofs.Math.Decide.{ℕ_discrete}
use Rattle.spec.specs.Basics.{is_yes, Text, same, less, Text-discrete, find}

-- an entity is named by its type and its id
pub record EntityUID : Type 0 where
  pub ty : Text
  pub eid : Text

unfoldable pub EntityUID-discrete : Discrete EntityUID
EntityUID-discrete u v = decide (Text-discrete u.ty v.ty) (Text-discrete u.eid v.eid)
  where
    decide : Dec (u.ty ≡ v.ty) → Dec (u.eid ≡ v.eid) → Dec (u ≡ v)
    decide (yes p) (yes q) = yes (λ i. record { ty = p i; eid = q i })
    decide (yes p) (no n) = no (λ e. n (ap (λ w. w.eid) e))
    decide (no n) q = no (λ e. n (ap (λ w. w.ty) e))

-- what can be written out; an integer from -2^63 to 2^63 - 1 stands here as its sum with 2^63
pub data Primitive : Type 0 where
  bool : Bool → Primitive
  int : ℕ → Primitive
  string : Text → Primitive
  entity_uid : EntityUID → Primitive
  deriving Discrete as Primitive-discrete

mutual
  pub data Value : Type 0 where
    prim : Primitive → Value
    set : Values → Value
    record_of : Attrs → Value
    deriving Discrete as Value-discrete

  pub data Values : Type 0 where
    nil : Values
    cons : Value → Values → Values

  pub data Attrs : Type 0 where
    empty : Attrs
    attr : Text → Value → Attrs → Attrs

-- the elements of a set and the attributes of a record as lists, and back
abbrev pub elements : Values → List Value
elements nil = []
elements (cons v vs) = v ∷ elements vs

abbrev pub to_values : List Value → Values
to_values [] = nil
to_values (v ∷ vs) = cons v (to_values vs)

abbrev pub fields : Attrs → List (Text × Value)
fields empty = []
fields (attr a v r) = (a, v) ∷ fields r

abbrev pub to_attrs : List (Text × Value) → Attrs
to_attrs [] = empty
to_attrs (f ∷ fs) = attr f.0 f.1 (to_attrs fs)

abbrev pub same_primitive : Primitive → Primitive → Bool
same_primitive p q = is_yes (Primitive-discrete Bool-discrete ℕ_discrete Text-discrete EntityUID-discrete p q)

abbrev pub same_value : Value → Value → Bool
same_value v w = is_yes (Value-discrete (Primitive-discrete Bool-discrete ℕ_discrete Text-discrete EntityUID-discrete) Text-discrete v w)

-- ---- each value as a row of numbers, which gives the order of values; each text has its length before it
abbrev pub code_text : Text → Text
code_text t = length t ∷ t

abbrev pub code_uid : EntityUID → Text
code_uid u = code_text u.ty ++ code_text u.eid

abbrev pub code_bool : Bool → ℕ
code_bool b = cond b 1 0

abbrev pub code_primitive : Primitive → Text
code_primitive (bool b) = 0 ∷ (code_bool b ∷ [])
code_primitive (int n) = 1 ∷ (n ∷ [])
code_primitive (string t) = 2 ∷ code_text t
code_primitive (entity_uid u) = 3 ∷ code_uid u

abbrev mutual
  pub code : Value → Text
  code (prim p) = code_primitive p
  code (set vs) = 4 ∷ code_values vs
  code (record_of r) = 5 ∷ code_attrs r

  pub code_values : Values → Text
  code_values nil = 0 ∷ []
  code_values (cons v vs) = 1 ∷ (code v ++ code_values vs)

  pub code_attrs : Attrs → Text
  code_attrs empty = 0 ∷ []
  code_attrs (attr a v r) = 1 ∷ (code_text a ++ (code v ++ code_attrs r))

abbrev pub less_value : Value → Value → Bool
less_value v w = less (code v) (code w)

-- names are the same if their lengths and bytes are
abbrev pub same_uid : EntityUID → EntityUID → Bool
same_uid u v = same (code_uid u) (code_uid v)

-- ---- an entity: its name, its attributes, all entities that it is in, and its tags
pub record Entity : Type 0 where
  pub uid : EntityUID
  pub attrs : Attrs
  pub ancestors : List EntityUID
  pub tags : Attrs

abbrev pub entity_key : Entity → Text
entity_key e = code_uid e.uid

abbrev pub Entities : Type 0
Entities = List Entity

abbrev pub find_entity : EntityUID → Entities → Option Entity
find_entity u es = find entity_key (code_uid u) es

-- what an entity has, and nothing for one that is not there
abbrev pub attrs_or_empty : Option Entity → Attrs
attrs_or_empty (some e) = e.attrs
attrs_or_empty none = empty

abbrev pub tags_or_empty : Option Entity → Attrs
tags_or_empty (some e) = e.tags
tags_or_empty none = empty

abbrev pub ancestors_or_empty : Option Entity → List EntityUID
ancestors_or_empty (some e) = e.ancestors
ancestors_or_empty none = []

-- ---- a request: who wants to do what with what, and a record about it
pub record Request : Type 0 where
  pub principal : EntityUID
  pub action : EntityUID
  pub resource : EntityUID
  pub context : Attrs
