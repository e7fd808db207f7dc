-- The elements of a set and the attributes of a record, as lists and back.
use Rattle.std.proofs.Common.{◌≡◌, List, [], ◌∷◌, refl, ap}
use Rattle.spec.specs.Basics.{Text}
use Rattle.spec.specs.Values.{Value, Values, nil, cons, Attrs, empty, attr, elements, to_values, fields, to_attrs}

-- ---- the elements of a set and the attributes of a record as lists, and back
pub elements-values : (vs : List Value) → elements (to_values vs) ≡ vs
elements-values [] = refl
elements-values (v ∷ vs) = ap (λ xs. v ∷ xs) (elements-values vs)

pub values-elements : (vs : Values) → to_values (elements vs) ≡ vs
values-elements nil = refl
values-elements (cons v vs) = ap (cons v) (values-elements vs)

pub fields-attrs : (fs : List (Text × Value)) → fields (to_attrs fs) ≡ fs
fields-attrs [] = refl
fields-attrs (f ∷ fs) = ap (λ xs. f ∷ xs) (fields-attrs fs)

pub attrs-fields : (r : Attrs) → to_attrs (fields r) ≡ r
attrs-fields empty = refl
attrs-fields (attr a v r) = ap (attr a v) (attrs-fields r)
