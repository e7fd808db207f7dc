-- The operators but for those on entities: of one value, equality, on integers and on sets.
use Rattle.std.proofs.Common.{◌≡◌, ℕ, ◌+◌, ◌-◌, ◌*◌, Bool, true, false, cond, eqb, ltb, leb, List, sym, refl, ap, ◌∙◌}
use mathlib.Core.Option.{Option, some, none}
use Rattle.spec.specs.Basics.{Except, ok, error, or_error, same}
use Rattle.spec.specs.Values.{EntityUID, Primitive, int, entity_uid, Value, prim, set, record_of, same_primitive, same_value, Entities, Request}
use Rattle.spec.specs.Exprs.{UnaryOp, not, neg, is_empty, like, is, Expr, lit, var, ite, and, or, unary_app, binary_app, get_attr, has_attr, set, record_of}
use Rattle.spec.specs.Evaluate.{Error, arith_bounds_error, of_bool, of_int, half, whole, signed, differ, is_negative, magnitude, product, negation, apply1, with_ints, with_sets, evaluate}
use Rattle.spec.specs.Types.{CedarType, int, entity, set, record_of, lub, Schema}
use Rattle.spec.specs.Typecheck.{lub_err, just, type_of_unary, as_lit, eq_by_lub, type_of_eq, of_ints, compatible, of_sets}
use Rattle.laws.proofs.Texts.{false-true, none-some, bool_same, yes_true, true-yes}
use Rattle.laws.proofs.Lubs.{entities, rel-lub}
use Rattle.laws.proofs.Fits.{ok-is, Fits, refused, ends, bind, beside}
use Rattle.laws.proofs.Instances.{only-false, Instance, a-bool, an_int, a-string, an-entity, a-set, a-record, as-bool, as-int, as-string, as-entity, as-set, Good, gives, gives-any, gives-literal}
use Rattle.laws.proofs.Joins.{not-fits}

-- ---- what is written out
pub lit_is : (x : Expr) (p : Primitive) → as_lit x ≡ some p → x ≡ lit p
lit_is (lit o) p h = cc
lit_is (var v) p h = none-some h
lit_is (ite x y z) p h = none-some h
lit_is (and x y) p h = none-some h
lit_is (or x y) p h = none-some h
lit_is (unary_app o x) p h = none-some h
lit_is (binary_app o x y) p h = none-some h
lit_is (get_attr x a) p h = none-some h
lit_is (has_attr x a) p h = none-some h
lit_is (set xs) p h = none-some h
lit_is (record_of r) p h = none-some h

pub lit-value : (x : Expr) (p : Primitive) (q : Request) (es : Entities) {v : Value} → as_lit x ≡ some p → evaluate x q es ≡ ok v → v ≡ prim p
lit-value x p q es h e = ok-is (sym e ∙ ap (λ y. evaluate y q es) (lit_is x p h))

same-prim : (o p : Primitive) → same_primitive o p ≡ same_value (prim o) (prim p)
same-prim o p = bool_same _ _ (λ h. true-yes _ (ap prim (yes_true _ h))) (λ h. true-yes _ (inner (yes_true _ h)))
  where
    inner : prim o ≡ prim p → o ≡ p
    inner e = cc

-- entities of types that have no type above both are not the same
apart : (u w : EntityUID) → lub (entity u.ty) (entity w.ty) ≡ none → same_value (prim (entity_uid u)) (prim (entity_uid w)) ≡ false
apart u w h = bool_same _ _ (λ k. go (yes_true _ k)) (λ k. false-true k)
  where
    go : prim (entity_uid u) ≡ prim (entity_uid w) → false ≡ true
    go e =
        let uw : u ≡ w = cc in
        let t : u.ty ≡ w.ty = ap (λ x. x.ty) uw in
        none-some (sym (rw t at h) ∙ rel-lub (entities w.ty))

module _ {s : Schema} {q : Request} {es : Entities} where
  -- ---- equality
  eq-by-lub : {t u : CedarType} {v w : Value} (o : Option CedarType) → lub t u ≡ o → Instance s t v → Instance s u w → Fits (Good s q es) (eq_by_lub o t u) (ok (of_bool (same_value v w)))
  eq-by-lub (some x) e i j = gives-any _
  eq-by-lub none e (a-bool b) j = refused
  eq-by-lub none e an_int j = refused
  eq-by-lub none e a-string j = refused
  eq-by-lub none e (an-entity h) (a-bool b) = refused
  eq-by-lub none e (an-entity h) an_int = refused
  eq-by-lub none e (an-entity h) a-string = refused
  eq-by-lub none e (an-entity {u} h) (an-entity {u = w} k) = rw (apart u w e) (gives (a-bool only-false))
  eq-by-lub none e (an-entity h) (a-set k) = refused
  eq-by-lub none e (an-entity h) (a-record k m) = refused
  eq-by-lub none e (a-set h) j = refused
  eq-by-lub none e (a-record h m) j = refused

  pub eq-fits : (x y : Expr) {t u : CedarType} {v w : Value} → evaluate x q es ≡ ok v → evaluate y q es ≡ ok w → Instance s t v → Instance s u w →
      Fits (Good s q es) (type_of_eq (as_lit x) (as_lit y) t u) (ok (of_bool (same_value v w)))
  eq-fits x y {t} {u} {v} {w} ev ew i j = go (as_lit x) (as_lit y) refl refl
    where
      go : (o p : Option Primitive) → as_lit x ≡ o → as_lit y ≡ p → Fits (Good s q es) (type_of_eq o p t u) (ok (of_bool (same_value v w)))
      go none p ho hp = eq-by-lub (lub t u) refl i j
      go (some a) none ho hp = eq-by-lub (lub t u) refl i j
      go (some a) (some b) ho hp = rw (lit-value x a q es ho ev, lit-value y b q es hp ew, same-prim a b) (gives-literal (same_value (prim a) (prim b)))

  -- ---- integers
  pub int-or : (b : Bool) (n : ℕ) → Fits (Good s q es) (just int) (cond b (ok (of_int n)) (error arith_bounds_error))
  int-or true n = gives an_int
  int-or false n = ends refl

  negation-fits : (n : ℕ) → Fits (Good s q es) (just int) (negation n)
  negation-fits n = go (eqb n 0)
    where
      go : (b : Bool) → Fits (Good s q es) (just int) (cond b (error arith_bounds_error) (ok (of_int (whole - n))))
      go true = ends refl
      go false = gives an_int

  pub product-fits : (i j : ℕ) → Fits (Good s q es) (just int) (product i j)
  product-fits i j = go (differ (is_negative i) (is_negative j)) (magnitude i * magnitude j)
    where
      go : (b : Bool) (m : ℕ) → Fits (Good s q es) (just int) (signed b m)
      go true m = int-or (leb m half) (half - m)
      go false m = int-or (ltb m half) (half + m)

  pub ints-fit : {t u : CedarType} {v w : Value} (r : CedarType) (f : ℕ → ℕ → Except Error Value) → Instance s t v → Instance s u w → ((i j : ℕ) → Fits (Good s q es) (just r) (f i j)) →
      Fits (Good s q es) (of_ints t u r) (with_ints v w f)
  ints-fit r f i j k = bind _ _ (as-int i) λ _ m _ _. bind _ _ (as-int j) λ _ n _ _. k m n

  -- ---- sets
  pub compatible-fits : (t u : CedarType) (b : Bool) → Fits (Good s q es) (compatible t u) (ok (of_bool b))
  compatible-fits t u b = beside (or_error (lub t u) lub_err) _ λ _. gives-any b

  pub sets-fit : {t u : CedarType} {v w : Value} (f : List Value → List Value → Bool) → Instance s t v → Instance s u w → Fits (Good s q es) (of_sets t u) (with_sets v w f)
  sets-fit f i j = bind _ _ (as-set i) λ a vs _ _. bind _ _ (as-set j) λ b ws _ _. compatible-fits a b (f vs ws)

  -- ---- one value
  pub unary-fits : (o : UnaryOp) {t : CedarType} {v : Value} → Instance s t v → Fits (Good s q es) (type_of_unary o t) (apply1 o v)
  unary-fits not i = bind _ _ (as-bool i) λ _ b j _. not-fits j.is
  unary-fits neg i = bind _ _ (as-int i) λ _ n _ _. negation-fits n
  unary-fits is_empty i = bind _ _ (as-set i) λ _ vs _ _. gives-any _
  unary-fits (like p) i = bind _ _ (as-string i) λ _ x _ _. gives-any _
  unary-fits (is n) i = bind _ _ (as-entity i) λ m u e _. rw e.type (gives-literal (same n u.ty))
