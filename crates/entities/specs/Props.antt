-- That what an environment carries has one proof at most. Assumes nothing.
use Rattle.std.proofs.Common.{◌≡◌, refl, sym, ap, ◌∙◌, ℕ, zero, suc, List, Some, None, Option}
use Rattle.std.proofs.Props.{props}
use Rattle.std.specs.Coded.{×_prop, Unit-prop, le_prop}
use Rattle.std.proofs.Math.Bool.{Bool-discrete}
use Rattle.std.proofs.Math.Decide.{ℕ_discrete}
use mathlib.Core.HLevel.{hedberg, collapsible→set}
use mathlib.Core.List.{List-discrete}
use mathlib.Core.Option as o
use Rattle.spec.specs.Basics.{Text-discrete}
use Rattle.spec.specs.Values as s
use Rattle.spec.specs.Values.{EntityUID, EntityUID-discrete, Primitive-discrete, Value-discrete, Attrs, record_of, empty, Entity, prim, set, bool}
use Rattle.values.specs.Held.{Good}
use Rattle.values.specs.declared.nodes.Value.{Value}
use Rattle.values.specs.declared.nodes.Value.TheVariants.{Bool as B, Int, String, Entity as E, Set, Record}
use Rattle.entities.specs.Rows.{UIDsIn, EntityIn, EntitiesIn, FoundRow, SubjectIn, RequestIn, behind_uid}
use Rattle.shelves.specs.declared.table.Table.{Table}
use Rattle.entities.specs.declared.requests.Request.{Request}
use Rattle.entities.specs.declared.requests.Subject.{Subject}

-- a type that maps into a set and back is a set
retract_set : {X Y : Type 0} (to : X → Y) (from : Y → X) → ((x : X) → from (to x) ≡ x) → IsSet Y → IsSet X
retract_set to from back is = collapsible→set (λ x y p. sym (back x) ∙ ap from (ap to p) ∙ back y)
    (λ x y p q. ap (λ z. sym (back x) ∙ ap from z ∙ back y) (is (to x) (to y) (ap to p) (ap to q)))

Value-set : IsSet s.Value
Value-set = hedberg (Value-discrete (Primitive-discrete Bool-discrete ℕ_discrete Text-discrete EntityUID-discrete) Text-discrete)

Attrs-set : IsSet Attrs
Attrs-set = retract_set record_of back (λ r. refl) Value-set
  where
    back : s.Value → Attrs
    back (prim p) = empty
    back (set vs) = empty
    back (record_of r) = r

UIDs-set : IsSet (List EntityUID)
UIDs-set = hedberg (List-discrete EntityUID-discrete)

UID-set : IsSet EntityUID
UID-set = hedberg EntityUID-discrete

pub Good-prop : (h : ℕ) (m : List ℕ) (v : Value) → IsProp (Good h m v)
Good-prop zero m v = Prim.hlevel props
Good-prop (suc h) m (B b) = Unit-prop
Good-prop (suc h) m (Int z) = Unit-prop
Good-prop (suc h) m (String p) = le_prop
Good-prop (suc h) m (E p) = ×_prop le_prop le_prop
Good-prop (suc h) m (Set p) = Prim.hlevel (props, Good-prop h)
Good-prop (suc h) m (Record p) = Prim.hlevel (props, Good-prop h)

pub UIDsIn-prop : (m : List ℕ) (p n : ℕ) → IsProp (UIDsIn m p n)
UIDsIn-prop m p zero = Unit-prop
UIDsIn-prop m p (suc n) = ×_prop (×_prop le_prop le_prop) (UIDsIn-prop m (behind_uid m p) n)

pub EntityIn-prop : (m : List ℕ) (p : ℕ) → IsProp (EntityIn m p)
EntityIn-prop m p = Prim.hlevel (props, Good-prop 65, UIDsIn-prop)

pub EntitiesIn-prop : (m : List ℕ) (e : Table) → IsProp (EntitiesIn m e)
EntitiesIn-prop m e = Prim.hlevel (props, EntityIn-prop)

Entity-set : IsSet Entity
Entity-set = Prim.hlevel (props, UID-set, Attrs-set, UIDs-set)

Found-set : IsSet (o.Option Entity)
Found-set = Prim.hlevel (props, Entity-set)

FoundRow-prop : (m : List ℕ) (r : Option ℕ) (x : o.Option Entity) → IsProp (FoundRow m r x)
FoundRow-prop m (Some p) x = ×_prop (Found-set x (o.some _)) (EntityIn-prop m p)
FoundRow-prop m None x = Found-set x o.none

SubjectIn-prop : (store m : List ℕ) (e : Table) (x : Subject) → IsProp (SubjectIn store m e x)
SubjectIn-prop store m e x = Prim.hlevel (props, FoundRow-prop)

pub RequestIn-prop : (store m : List ℕ) (e : Table) (q : Request) → IsProp (RequestIn store m e q)
RequestIn-prop store m e q = Prim.hlevel (props, SubjectIn-prop, Good-prop 65)
