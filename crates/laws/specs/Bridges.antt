-- Older forms of some definitions, and that they say the same: sets and records that insert by themselves, `like` by fuel, names by type and id.
use Rattle.std.specs.Prelude.{◌≡◌, ℕ, zero, suc, ◌+◌, Bool, true, false, cond, ◌&&◌, ◌||◌, List, [], ◌∷◌, length, ◌==◌}
use Rattle.spec.specs.Basics.{Text, same, less, insert, name}
use Rattle.spec.specs.Values.{EntityUID, same_uid, Value, Values, nil, cons, Attrs, empty, attr, elements, to_values, fields, to_attrs, code, less_value}
use Rattle.spec.specs.Evaluate.{matches}

-- one more element of a set
abbrev pub with_value : Value → Values → Values
with_value v nil = cons v nil
with_value v (cons w ws) = cond (less_value v w) (cons v (cons w ws)) (cond (less_value w v) (cons w (with_value v ws)) (cons v ws))

abbrev pub InsertValue : Type 0
InsertValue = (v : Value) (vs : Values) → to_values (insert code v (elements vs)) ≡ with_value v vs

-- one more attribute of a record
abbrev pub with_attr : Text → Value → Attrs → Attrs
with_attr a v empty = attr a v empty
with_attr a v (attr b w r) = cond (less a b) (attr a v (attr b w r)) (cond (less b a) (attr b w (with_attr a v r)) (attr a v r))

abbrev pub InsertAttr : Type 0
InsertAttr = (a : Text) (v : Value) (r : Attrs) → to_attrs (insert name (a, v) (fields r)) ≡ with_attr a v r

-- a pattern against a text, with fuel
abbrev pub matches_by : ℕ → List ℕ → Text → Bool
matches_by zero ps ts = false
matches_by (suc n) [] [] = true
matches_by (suc n) [] (t ∷ ts) = false
matches_by (suc n) (p ∷ ps) [] = p == 256 && matches_by n ps []
matches_by (suc n) (p ∷ ps) (t ∷ ts) = cond (p == 256) (matches_by n ps (t ∷ ts) || matches_by n (p ∷ ps) ts) (p == t && matches_by n ps ts)

abbrev pub LikeByFuel : Type 0
LikeByFuel = (p : List ℕ) (t : Text) → matches_by (suc (length p + length t)) p t ≡ matches p t

-- names of entities are the same just if types and ids are
abbrev pub SameByParts : Type 0
SameByParts = (u v : EntityUID) → same_uid u v ≡ (same u.ty v.ty && same u.eid v.eid)
