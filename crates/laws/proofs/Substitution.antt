-- With the word `action`, or with the action in its place, an expression comes to the same.
use Rattle.std.proofs.Common.{◌≡◌, refl}
use Rattle.spec.specs.Values.{Entities, Request}
use Rattle.spec.specs.Exprs.{Var, principal, action, resource, context, lit, var, ite, and, or, unary_app, binary_app, get_attr, has_attr, set, record_of, Exprs, nil, cons, ExprAttrs, empty, attr, substitute_var, substitute_actions, substitute_action_attrs}
use Rattle.spec.specs.Evaluate.{evaluate, evaluate_all, evaluate_attrs}
use Rattle.spec.specs.Promises.{SubstitutionKeepsMeaning}

same-var : (v : Var) (q : Request) (es : Entities) → evaluate (substitute_var q.action v) q es ≡ evaluate (var v) q es
same-var principal q es = refl
same-var action q es = refl
same-var resource q es = refl
same-var context q es = refl

mutual
  pub substitution-keeps-meaning : SubstitutionKeepsMeaning
  substitution-keeps-meaning (lit p) q es = refl
  substitution-keeps-meaning (var v) q es = same-var v q es
  substitution-keeps-meaning (ite x y z) q es = rw (substitution-keeps-meaning x q es, substitution-keeps-meaning y q es, substitution-keeps-meaning z q es)
  substitution-keeps-meaning (and x y) q es = rw (substitution-keeps-meaning x q es, substitution-keeps-meaning y q es)
  substitution-keeps-meaning (or x y) q es = rw (substitution-keeps-meaning x q es, substitution-keeps-meaning y q es)
  substitution-keeps-meaning (unary_app o x) q es = rw (substitution-keeps-meaning x q es)
  substitution-keeps-meaning (binary_app o x y) q es = rw (substitution-keeps-meaning x q es, substitution-keeps-meaning y q es)
  substitution-keeps-meaning (get_attr x a) q es = rw (substitution-keeps-meaning x q es)
  substitution-keeps-meaning (has_attr x a) q es = rw (substitution-keeps-meaning x q es)
  substitution-keeps-meaning (set xs) q es = rw (same-all xs q es)
  substitution-keeps-meaning (record_of xs) q es = rw (same-attrs xs q es)

  same-all : (xs : Exprs) (q : Request) (es : Entities) → evaluate_all (substitute_actions q.action xs) q es ≡ evaluate_all xs q es
  same-all nil q es = refl
  same-all (cons x xs) q es = rw (substitution-keeps-meaning x q es, same-all xs q es)

  same-attrs : (xs : ExprAttrs) (q : Request) (es : Entities) → evaluate_attrs (substitute_action_attrs q.action xs) q es ≡ evaluate_attrs xs q es
  same-attrs empty q es = refl
  same-attrs (attr a x xs) q es = rw (substitution-keeps-meaning x q es, same-attrs xs q es)
