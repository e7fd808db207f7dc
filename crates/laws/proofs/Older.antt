-- The definitions say the same as their older forms: sets and records that insert by themselves, and `like` by fuel.
use Rattle.std.proofs.Common.{◌≡◌, ℕ, zero, suc, ◌+◌, ◌<◌, Bool, true, false, cond, ◌&&◌, ◌||◌, eqb, List, [], ◌∷◌, length, refl, arith}
use Rattle.std.proofs.lemmas.Bool.{and_parts, and_from}
use Rattle.spec.specs.Basics.{Text, same, less, insert, name}
use Rattle.spec.specs.Values.{same_uid, nil, cons, empty, attr, elements, to_values, fields, to_attrs, code, less_value}
use Rattle.spec.specs.Evaluate.{any_suffix, starts_with, matches}
use Rattle.laws.specs.Bridges.{with_value, InsertValue, with_attr, InsertAttr, matches_by, LikeByFuel, SameByParts}
use Rattle.laws.proofs.Texts.{bool_same, same_true, same_refl}
use Rattle.laws.proofs.Codes.{same_uid-true, same_uid-refl}
use Rattle.laws.proofs.Lists.{values-elements, attrs-fields}

pub insert-value : InsertValue
unfolding insert
insert-value v nil = refl
insert-value v (cons w ws) = go (less_value v w) (less_value w v) (insert-value v ws)
  where
    go : (b c : Bool) → to_values (insert code v (elements ws)) ≡ with_value v ws → to_values (cond b (v ∷ (w ∷ elements ws)) (cond c (w ∷ insert code v (elements ws)) (v ∷ elements ws)))
        ≡ cond b (cons v (cons w ws)) (cond c (cons w (with_value v ws)) (cons v ws))
    go true c ih = rw (values-elements ws)
    go false true ih = rw ih
    go false false ih = rw (values-elements ws)

pub insert-attr : InsertAttr
unfolding insert
insert-attr a v empty = refl
insert-attr a v (attr b w r) = go (less a b) (less b a) (insert-attr a v r)
  where
    go : (c d : Bool) → to_attrs (insert name (a, v) (fields r)) ≡ with_attr a v r → to_attrs (cond c ((a, v) ∷ ((b, w) ∷ fields r)) (cond d ((b, w) ∷ insert name (a, v) (fields r)) ((a, v) ∷ fields r)))
        ≡ cond c (attr a v (attr b w r)) (cond d (attr b w (with_attr a v r)) (attr a v r))
    go true d ih = rw (attrs-fields r)
    go false true ih = rw ih
    go false false ih = rw (attrs-fields r)

-- any fuel above both lengths will do
enough : (n : ℕ) (ps : List ℕ) (ts : Text) → length ps + length ts < n → matches_by n ps ts ≡ matches ps ts
unfolding matches
enough zero ps ts h = absurd (omega arith)
enough (suc n) [] [] h = refl
enough (suc n) [] (t ∷ ts) h = refl
enough (suc n) (p ∷ ps) [] h = rw (enough n ps [] (omega arith)) (go (eqb p 256))
  where
    go : (b : Bool) → (b && matches ps []) ≡ cond b (matches ps []) false
    go true = refl
    go false = refl
enough (suc n) (p ∷ ps) (t ∷ ts) h =
    go (eqb p 256) (enough n ps (t ∷ ts) (omega arith)) (enough n (p ∷ ps) ts (omega arith)) (enough n ps ts (omega arith))
  where
    go : (b : Bool) → matches_by n ps (t ∷ ts) ≡ matches ps (t ∷ ts) → matches_by n (p ∷ ps) ts ≡ cond b (any_suffix (matches ps) ts) (starts_with p (matches ps) ts) → matches_by n ps ts ≡ matches ps ts →
        cond b (matches_by n ps (t ∷ ts) || matches_by n (p ∷ ps) ts) (eqb p t && matches_by n ps ts) ≡ cond b (matches ps (t ∷ ts) || any_suffix (matches ps) ts) (eqb p t && matches ps ts)
    go true x y z = rw (x, y)
    go false x y z = rw z

pub like-by-fuel : LikeByFuel
like-by-fuel p t = enough (suc (length p + length t)) p t (omega arith)

-- ---- names of entities
pub same-by-parts : SameByParts
same-by-parts u v = bool_same _ _ (λ h. parts (same_uid-true u v h)) (λ h. whole (and_parts (same u.ty v.ty) (same u.eid v.eid) h))
  where
    parts : u ≡ v → (same u.ty v.ty && same u.eid v.eid) ≡ true
    parts e = rw e (and_from _ _ (same_refl v.ty) (same_refl v.eid))

    whole : (same u.ty v.ty ≡ true) × (same u.eid v.eid ≡ true) → same_uid u v ≡ true
    whole (a, b) = rw (same_true u.ty v.ty a, same_true u.eid v.eid b) (same_uid-refl v)
