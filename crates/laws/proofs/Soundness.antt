-- What an expression comes to is as its type says: the induction over expressions.
use Rattle.std.proofs.Common.{◌≡◌, ◌++◌}
use Rattle.spec.specs.Basics.{ok}
use Rattle.spec.specs.Values.{Primitive, bool, int, string, entity_uid, Value, prim, Entities, Request}
use Rattle.spec.specs.Exprs.{Var, principal, action, resource, context, BinaryOp, eq, mem, has_tag, get_tag, less, less_eq, add, sub, mul, contains, contains_all, contains_any, Expr, lit, var, ite, and, or, unary_app, binary_app, get_attr, has_attr, set, record_of, Exprs, nil, cons, ExprAttrs, empty, attr}
use Rattle.spec.specs.Evaluate.{apply2, var_of, evaluate, evaluate_all, evaluate_attrs}
use Rattle.spec.specs.Types.{any_bool, CedarType, bool, int, Schema, known, RequestType}
use Rattle.spec.specs.Typecheck.{Capabilities, just, var_type, lit_type, type_of_binary, type_of, type_of_all, type_of_attrs}
use Rattle.spec.specs.Validate.{type_env}
use Rattle.laws.proofs.Fits.{Fits, refused, fine, bind, by-test}
use Rattle.laws.proofs.Capabilities.{Holds, holds-both}
use Rattle.laws.proofs.Instances.{Instance, an_int, a-string, an-entity, as-bool, as-set, Good, gives, gives-any, gives-literal}
use Rattle.laws.proofs.Joins.{known as truth-knows, if-fits, and-fits, or-fits}
use Rattle.laws.proofs.Operators.{eq-fits, int-or, product-fits, ints-fit, compatible-fits, sets-fit, unary-fits}
use Rattle.laws.proofs.Setting.{Setting}
use Rattle.laws.proofs.Attributes.{get-attr-fits, has-attr-fits}
use Rattle.laws.proofs.Sets.{Instances, no-values, one_more, set-fits, InStep, no-attrs, next, record-fits}
use Rattle.laws.proofs.Tags.{has-tag-fits, get-tag-fits}
use Rattle.laws.proofs.Membership.{mem-fits}

module _ {s : Schema} {r : RequestType} {q : Request} {es : Entities} (g : Setting s r q es) where
  lit-fits : (p : Primitive) → Fits (Good s q es) (lit_type p s) (ok (prim p))
  lit-fits (bool b) = gives-literal b
  lit-fits (int n) = gives an_int
  lit-fits (string t) = gives a-string
  lit-fits (entity_uid u) = by-test (known s u) (λ h. gives (an-entity h)) (λ _. refused)

  var-fits : (v : Var) → Fits (Good s q es) (just (var_type v r)) (ok (var_of v q))
  var-fits principal = gives g.who
  var-fits action = gives g.does
  var-fits resource = gives g.what
  var-fits context = gives g.about

  binary-fits : (o : BinaryOp) (x y : Expr) (c : Capabilities) {t u : CedarType} {v w : Value} → Holds q es c → evaluate x q es ≡ ok v → evaluate y q es ≡ ok w → Instance s t v → Instance s u w →
      Fits (Good s q es) (type_of_binary o t u x y c s) (apply2 o v w es)
  binary-fits eq x y c hc ev ew i j = eq-fits x y ev ew i j
  binary-fits mem x y c hc ev ew i j = mem-fits g x y c ev ew i j
  binary-fits has_tag x y c hc ev ew i j = has-tag-fits g x y c hc ev ew i j
  binary-fits get_tag x y c hc ev ew i j = get-tag-fits g x y c hc ev ew i j
  binary-fits less x y c hc ev ew i j = ints-fit (bool any_bool) _ i j λ m n. gives-any _
  binary-fits less_eq x y c hc ev ew i j = ints-fit (bool any_bool) _ i j λ m n. gives-any _
  binary-fits add x y c hc ev ew i j = ints-fit int _ i j λ m n. int-or _ _
  binary-fits sub x y c hc ev ew i j = ints-fit int _ i j λ m n. int-or _ _
  binary-fits mul x y c hc ev ew i j = ints-fit int _ i j λ m n. product-fits m n
  binary-fits contains x y c {u} hc ev ew i j = bind _ _ (as-set i) λ t vs _ _. compatible-fits u t _
  binary-fits contains_all x y c hc ev ew i j = sets-fit _ i j
  binary-fits contains_any x y c hc ev ew i j = sets-fit _ i j

  mutual
    pub sound : (x : Expr) (c : Capabilities) → Holds q es c → Fits (Good s q es) (type_of x c (type_env s r)) (evaluate x q es)
    sound (lit p) c hc = lit-fits p
    sound (var v) c hc = var-fits v
    sound (ite x y z) c hc =
        bind _ _ (sound x c hc) λ a v h _. bind _ _ (as-bool h.is) λ t b j _.
        if-fits a.1 j.is (truth-knows j h.knows) (λ k. sound y (c ++ a.1) (holds-both hc (truth-knows j h.knows k))) (sound z c hc)
    sound (and x y) c hc =
        bind _ _ (sound x c hc) λ a v h _. bind _ _ (as-bool h.is) λ t b j _.
        and-fits a.1 j.is (truth-knows j h.knows) (λ k. sound y (c ++ a.1) (holds-both hc (truth-knows j h.knows k)))
    sound (or x y) c hc =
        bind _ _ (sound x c hc) λ a v h _. bind _ _ (as-bool h.is) λ t b j _. or-fits a.1 j.is (truth-knows j h.knows) (sound y c hc)
    sound (unary_app o x) c hc = bind _ _ (sound x c hc) λ a v h _. unary-fits o h.is
    sound (binary_app o x y) c hc = bind _ _ (sound x c hc) λ a v h ev. bind _ _ (sound y c hc) λ b w k ew. binary-fits o x y c hc ev ew h.is k.is
    sound (get_attr x n) c hc = bind _ _ (sound x c hc) λ a v h ev. get-attr-fits g x n c hc ev h.is
    sound (has_attr x n) c hc = bind _ _ (sound x c hc) λ a v h ev. has-attr-fits g x n c hc ev h.is
    sound (set xs) c hc = bind _ _ (sound-all xs c hc) λ ts vs k _. set-fits k
    sound (record_of xs) c hc = bind _ _ (sound-attrs xs c hc) λ ts fs k _. record-fits k

    sound-all : (xs : Exprs) (c : Capabilities) → Holds q es c → Fits (Instances s) (type_of_all xs c (type_env s r)) (evaluate_all xs q es)
    sound-all nil c hc = fine no-values
    sound-all (cons x xs) c hc = bind _ _ (sound x c hc) λ a v h _. bind _ _ (sound-all xs c hc) λ ts vs k _. fine (one_more h.is k)

    sound-attrs : (xs : ExprAttrs) (c : Capabilities) → Holds q es c → Fits (InStep s) (type_of_attrs xs c (type_env s r)) (evaluate_attrs xs q es)
    sound-attrs empty c hc = fine no-attrs
    sound-attrs (attr n x xs) c hc = bind _ _ (sound x c hc) λ a v h _. bind _ _ (sound-attrs xs c hc) λ ts fs k _. fine (next n h.is k)
