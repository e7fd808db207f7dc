-- A value of a type is one of each type above it; and what joins types: if, and, or, not.
use Rattle.std.proofs.Common.{◌≡◌, Bool, true, false, cond, not as flip, ◌++◌, sym, refl, ap, ◌∙◌}
use mathlib.Core.Option.{Option, some, none}
use Rattle.spec.specs.Basics.{Except, ok, or_error, on_some, Text, same, find, content, name}
use Rattle.spec.specs.Values.{bool, Value, Attrs, elements, fields, Entities, Request}
use Rattle.spec.specs.Evaluate.{Error, of_bool, just_bool}
use Rattle.spec.specs.Types.{BoolType, any_bool, is_true, is_false, CedarType, bool, RecordType, QualifiedType, attributes, lub_bool, lub, Schema}
use Rattle.spec.specs.Typecheck.{TypeError, lub_err, Capabilities, Typed, just, as_bool as bool_type, type_of_if, and_type, type_of_and, or_type, type_of_or, not_type}
use Rattle.spec.specs.Validate.{required_present, instance_of_type}
use Rattle.laws.proofs.Texts.{false-true}
use Rattle.laws.proofs.Lubs.{Lub, bools, ints, strings, entities, sets, records, LubAttrs, nones, mores, lub-rel, swap}
use Rattle.laws.proofs.Found.{all_map}
use Rattle.laws.proofs.Fits.{Fits, refused, fine, bind, on, then, beside}
use Rattle.laws.proofs.Capabilities.{Holds, holds-none, holds-both, holds-left, holds-right}
use Rattle.laws.proofs.Instances.{InstanceBool, either, only-true, only-false, Instance, a-bool, a-set, a-record, is_of, is_attr_of, view, seen, TruthOf, as-bool, Good, gives}

-- ---- the least type above two
lub-bool : {a : BoolType} {x : Bool} (b : BoolType) → InstanceBool a x → InstanceBool (lub_bool a b) x
lub-bool b either = either
lub-bool any_bool only-true = either
lub-bool is_true only-true = only-true
lub-bool is_false only-true = either
lub-bool any_bool only-false = either
lub-bool is_true only-false = either
lub-bool is_false only-false = only-false

lub-required : {ts us ws : RecordType} → LubAttrs ts us ws → (r : Attrs) → required_present r ts ≡ required_present r ws
lub-required nones r = refl
lub-required (mores l ls) r = rw (lub-required ls r)

mutual
  unfolding find

  pub lub-instance : {s : Schema} {t u w : CedarType} → Lub t u w → (v : Value) → Instance s t v → Instance s w v
  lub-instance (bools a b) v (a-bool i) = a-bool (lub-bool b i)
  lub-instance ints v i = i
  lub-instance strings v i = i
  lub-instance (entities n) v i = i
  lub-instance {s} (sets {t} {v = w} l) v (a-set {vs} h) = a-set (all_map (is_of s t) (is_of s w) (elements vs) (λ x i. seen (lub-instance l x (view t x i))) h)
  lub-instance {s} (records {ts} {vs = ws} l) v (a-record {r} h m) =
      a-record (all_map (is_attr_of s ts) (is_attr_of s ws) (fields r) (lub-attr s l) h) (sym (lub-required l r) ∙ m)

  lub-attr : (s : Schema) {ts us ws : RecordType} → LubAttrs ts us ws → (f : Text × Value) → is_attr_of s ts f ≡ true → is_attr_of s ws f ≡ true
  lub-attr s nones f h = h
  lub-attr s (mores {a} {r} {t} {v = w} {ts} {vs = ws} l ls) f h = go (same f.0 a) (λ i. seen (lub-instance l f.1 (view t f.1 i))) (lub-attr s ls f) h
    where
      go : (b : Bool) → (is_of s t f.1 ≡ true → is_of s w f.1 ≡ true) → (is_attr_of s ts f ≡ true → is_attr_of s ws f ≡ true) →
          on_some (content (cond b (some (a, record { required = r; type = t })) (find name f.0 (attributes ts)))) (λ (q : QualifiedType). instance_of_type f.1 q.type s) ≡ true →
          on_some (content (cond b (some (a, record { required = r; type = w })) (find name f.0 (attributes ws)))) (λ (q : QualifiedType). instance_of_type f.1 q.type s) ≡ true
      go true k ih h = k h
      go false k ih h = ih h

module _ {s : Schema} where
  pub lub-left : (t u : CedarType) {v : Value} → Instance s t v → Fits (Instance s) (or_error (lub t u) lub_err) (ok v)
  lub-left t u {v} i = go (lub t u) refl
    where
      go : (o : Option CedarType) → lub t u ≡ o → Fits (Instance s) (or_error o lub_err) (ok v)
      go none e = refused
      go (some w) e = fine (lub-instance (lub-rel t u w e) v i)

  pub lub-right : (t u : CedarType) {v : Value} → Instance s u v → Fits (Instance s) (or_error (lub t u) lub_err) (ok v)
  lub-right t u {v} i = go (lub t u) refl
    where
      go : (o : Option CedarType) → lub t u ≡ o → Fits (Instance s) (or_error o lub_err) (ok v)
      go none e = refused
      go (some w) e = fine (lub-instance (swap (lub-rel t u w e)) v i)

-- ---- if, and, or, not
pub truth-is : {b : Bool} → of_bool b ≡ of_bool true → b ≡ true
truth-is {b} h = cc

-- the right side's truth
pub known : {q : Request} {es : Entities} {v : Value} {t : BoolType} {b : Bool} {c : Capabilities} → TruthOf v t b → (v ≡ of_bool true → Holds q es c) → b ≡ true → Holds q es c
known j k h = k (j.value ∙ ap of_bool h)

module _ {s : Schema} {q : Request} {es : Entities} where
  -- a truth that makes something known
  pub truth : {t : BoolType} {b : Bool} {c : Capabilities} → InstanceBool t b → (b ≡ true → Holds q es c) → Fits (Good s q es) (ok (bool t, c)) (ok (of_bool b))
  truth i k = fine (record { is = a-bool i; knows = λ h. k (truth-is h) })

  pub if-fits : {t : BoolType} {b : Bool} (c : Capabilities) {T U : Except TypeError Typed} {x y : Except Error Value} →
      InstanceBool t b → (b ≡ true → Holds q es c) → (b ≡ true → Fits (Good s q es) T x) → Fits (Good s q es) U y → Fits (Good s q es) (type_of_if t c T U) (cond b x y)
  if-fits c {U} (either {b = true}) hc fx fy =
      on _ (fx refl) λ a v g. beside U _ λ d. then _ (lub-left a.0 d.0 g.is) λ w i.
      fine (record { is = i; knows = λ h. holds-left d.1 (holds-both (hc refl) (g.knows h)) })
  if-fits c {T} (either {b = false}) hc fx fy =
      beside T _ λ a. on _ fy λ d v g. then _ (lub-right a.0 d.0 g.is) λ w i. fine (record { is = i; knows = λ h. holds-right (c ++ a.1) (g.knows h) })
  if-fits c only-true hc fx fy = on _ (fx refl) λ a v g. fine (record { is = g.is; knows = λ h. holds-both (hc refl) (g.knows h) })
  if-fits c only-false hc fx fy = fy

  -- where the left side is true
  and_right : {t u : BoolType} {b : Bool} {c : Capabilities} → InstanceBool t true → InstanceBool u b → (b ≡ true → Holds q es c) → Fits (Good s q es) (and_type t u c) (ok (of_bool b))
  and_right i either k = truth either k
  and_right i only-true k = truth i k
  and_right i only-false k = truth only-false (λ h. holds-none)

  pub and-fits : {t : BoolType} {b : Bool} (c : Capabilities) {T : Except TypeError Typed} {x : Except Error Value} →
      InstanceBool t b → (b ≡ true → Holds q es c) → (b ≡ true → Fits (Good s q es) T x) → Fits (Good s q es) (type_of_and t c T) (cond b (just_bool x) (ok (of_bool false)))
  and-fits c (either {b = true}) hc fx =
      bind _ _ (fx refl) λ a v g _. bind _ _ (as-bool g.is) λ u x j _. and_right either j.is (λ h. holds-both (hc refl) (known j g.knows h))
  and-fits c {T} (either {b = false}) hc fx = beside T _ λ a. beside (bool_type a.0) _ λ u. left u (c ++ a.1)
    where
      left : (u : BoolType) (d : Capabilities) → Fits (Good s q es) (and_type any_bool u d) (ok (of_bool false))
      left any_bool d = truth either (λ h. false-true h)
      left is_true d = truth either (λ h. false-true h)
      left is_false d = truth only-false (λ h. false-true h)
  and-fits c only-true hc fx =
      bind _ _ (fx refl) λ a v g _. bind _ _ (as-bool g.is) λ u x j _. and_right only-true j.is (λ h. holds-both (hc refl) (known j g.knows h))
  and-fits c only-false hc fx = truth only-false (λ h. holds-none)

  -- where the left side is false
  or_right : {u : BoolType} {b : Bool} (c : Capabilities) {d : Capabilities} → InstanceBool u b → (b ≡ true → Holds q es d) → Fits (Good s q es) (or_type u c d) (ok (of_bool b))
  or_right c either k = truth either (λ h. holds-right c (k h))
  or_right c only-true k = truth only-true (λ h. holds-none)
  or_right c only-false k = truth either (λ h. false-true h)

  pub or-fits : {t : BoolType} {b : Bool} (c : Capabilities) {T : Except TypeError Typed} {x : Except Error Value} →
      InstanceBool t b → (b ≡ true → Holds q es c) → Fits (Good s q es) T x → Fits (Good s q es) (type_of_or t c T) (cond b (ok (of_bool true)) (just_bool x))
  or-fits c {T} (either {b = true}) hc fx = beside T _ λ a. beside (bool_type a.0) _ λ u. left u a.1
    where
      left : (u : BoolType) (d : Capabilities) → Fits (Good s q es) (or_type u c d) (ok (of_bool true))
      left any_bool d = truth either (λ h. holds-left d (hc refl))
      left is_true d = truth only-true (λ h. holds-none)
      left is_false d = truth either hc
  or-fits c (either {b = false}) hc fx = bind _ _ fx λ a v g _. bind _ _ (as-bool g.is) λ u x j _. or_right c j.is (known j g.knows)
  or-fits c only-true hc fx = truth only-true (λ h. holds-none)
  or-fits c only-false hc fx = bind _ _ fx λ a v g _. bind _ _ (as-bool g.is) λ u x j _. truth j.is (known j g.knows)

  pub not-fits : {t : BoolType} {b : Bool} → InstanceBool t b → Fits (Good s q es) (just (bool (not_type t))) (ok (of_bool (flip b)))
  not-fits either = gives (a-bool either)
  not-fits only-true = gives (a-bool only-false)
  not-fits only-false = gives (a-bool only-true)
