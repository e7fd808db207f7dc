-- Sets and records that are written out: the values go in step with their types.
use Rattle.std.proofs.Common.{◌≡◌, Bool, true, false, cond, not as flip, ◌||◌, List, [], ◌∷◌, refl, ap}
use mathlib.Core.Option.{Option, some, none}
use Rattle.std.proofs.lemmas.Bool.{and_from, or_right}
use Rattle.spec.specs.Basics.{ok, or_error, is_some, on_some, all, Text, same, less, insert, insert_all, find, name, content, lookup}
use Rattle.spec.specs.Values.{Value, set, record_of, elements, to_values, to_attrs, code, Entities, Request}
use Rattle.spec.specs.Types.{CedarType, set, record_of, QualifiedType, attributes, to_record_type, lub, Schema}
use Rattle.spec.specs.Typecheck.{lub_err, just, lub_all, type_of_set, required_attr}
use Rattle.spec.specs.Validate.{instance_of_type}
use Rattle.spec.specs.Promises.{Among}
use Rattle.laws.proofs.Texts.{none-some}
use Rattle.laws.proofs.Lists.{elements-values, fields-attrs}
use Rattle.laws.proofs.Lubs.{lub-rel, swap}
use Rattle.laws.proofs.Keyed.{Sorted}
use Rattle.laws.proofs.Found.{all-at, all_from, all_map, finds-it, among-all, sorted_all}
use Rattle.laws.proofs.Fits.{Fits, refused, fine, bind}
use Rattle.laws.proofs.Instances.{Instance, a-set, a-record, is_of, is_attr_of, view, seen, Good, gives}
use Rattle.laws.proofs.Joins.{lub-instance}
use Rattle.laws.proofs.Attributes.{Looked, neither, missing, there}

-- ---- sets
pub data Instances (s : Schema) : List CedarType → List Value → Type 0 where
  no-values : Instances s [] []
  one_more : {t : CedarType} {v : Value} {ts : List CedarType} {vs : List Value} → Instance s t v → Instances s ts vs → Instances s (t ∷ ts) (v ∷ vs)

-- all are of the type above all
lub-all : {s : Schema} {t : CedarType} {v : Value} {ts : List CedarType} {vs : List Value} → Instance s t v → Instances s ts vs →
    Fits (λ (w : CedarType) (ws : List Value). all (is_of s w) ws ≡ true) (lub_all t ts) (ok (v ∷ vs))
lub-all i no-values = fine (and_from _ _ (seen i) refl)
lub-all {s} {t} {v} i (one_more j k) = bind _ (λ ws. ok (v ∷ ws)) (lub-all j k) λ w ws h _. go w ws h (lub t w) refl
  where
    go : (w : CedarType) (ws : List Value) → all (is_of s w) ws ≡ true → (o : Option CedarType) → lub t w ≡ o →
        Fits (λ (x : CedarType) (xs : List Value). all (is_of s x) xs ≡ true) (or_error o lub_err) (ok (v ∷ ws))
    go w ws h none e = refused
    go w ws h (some x) e =
        let l = lub-rel t w x e in
        fine (and_from _ _ (seen (lub-instance l v i)) (all_map (is_of s w) (is_of s x) ws (λ y m. seen (lub-instance (swap l) y (view w y m))) h))

pub set-fits : {s : Schema} {q : Request} {es : Entities} {ts : List CedarType} {vs : List Value} → Instances s ts vs → Fits (Good s q es) (type_of_set ts) (ok (set (to_values (insert_all code vs))))
set-fits no-values = refused
set-fits {s} (one_more i k) = bind _ (λ vs. ok (set (to_values (insert_all code vs)))) (lub-all i k) λ w vs h _. gives (a-set (in_order w vs h))
  where
    in_order : (w : CedarType) (vs : List Value) → all (is_of s w) vs ≡ true → all (is_of s w) (elements (to_values (insert_all code vs))) ≡ true
    in_order w vs h = rw (elements-values (insert_all code vs)) (all_from (is_of s w) (insert_all code vs) (λ x m. all-at (is_of s w) x vs h (among-all code x vs m)))

-- ---- records
pub data InStep (s : Schema) : List (Text × QualifiedType) → List (Text × Value) → Type 0 where
  no-attrs : InStep s [] []
  next : {t : CedarType} {v : Value} {ts : List (Text × QualifiedType)} {fs : List (Text × Value)} (a : Text) → Instance s t v → InStep s ts fs → InStep s (required_attr a t ∷ ts) ((a, v) ∷ fs)

insert-step : {s : Schema} {t : CedarType} {v : Value} {ts : List (Text × QualifiedType)} {fs : List (Text × Value)} (a : Text) → Instance s t v → InStep s ts fs →
    InStep s (insert name (required_attr a t) ts) (insert name (a, v) fs)
unfolding insert
insert-step a i no-attrs = next a i no-attrs
insert-step {s} {t} {v} a i (next {t = u} {v = w} {ts} {fs} b j k) = go (less a b) (less b a) (insert-step a i k)
  where
    go : (c d : Bool) → InStep s (insert name (required_attr a t) ts) (insert name (a, v) fs) →
        InStep s (cond c (required_attr a t ∷ (required_attr b u ∷ ts)) (cond d (required_attr b u ∷ insert name (required_attr a t) ts) (required_attr a t ∷ ts)))
        (cond c ((a, v) ∷ ((b, w) ∷ fs)) (cond d ((b, w) ∷ insert name (a, v) fs) ((a, v) ∷ fs)))
    go true d ih = next a i (next b j k)
    go false true ih = next b j ih
    go false false ih = next a i k

insert-steps : {s : Schema} {ts : List (Text × QualifiedType)} {fs : List (Text × Value)} → InStep s ts fs → InStep s (insert_all name ts) (insert_all name fs)
unfolding insert_all
insert-steps no-attrs = no-attrs
insert-steps (next a i k) = insert-step a i (insert-steps k)

-- what has a name in the one has it in the other
step-looked : {s : Schema} {ts : List (Text × QualifiedType)} {fs : List (Text × Value)} (n : Text) → InStep s ts fs → Looked s true (lookup n ts) (lookup n fs)
unfolding find
step-looked n no-attrs = neither
step-looked {s} n (next {t} {v} {ts} {fs} a i k) = go (same n a) (step-looked n k)
  where
    go : (b : Bool) → Looked s true (lookup n ts) (lookup n fs) → Looked s true (content (cond b (some (required_attr a t)) (find name n ts))) (content (cond b (some (a, v)) (find name n fs)))
    go true l = there i
    go false l = l

looked-is : {s : Schema} {o : Option QualifiedType} {p : Option Value} (v : Value) → Looked s true o p → p ≡ some v → on_some o (λ a. instance_of_type v a.type s) ≡ true
looked-is v neither e = none-some e
looked-is v (missing n) e = none-some e
looked-is {s} v (there {a} {v = w} i) e = let wv : w ≡ v = cc in rw (← wv) (seen i)

looked-required : {s : Schema} {o : Option QualifiedType} {p : Option Value} (a : QualifiedType) → Looked s true o p → o ≡ some a → (flip a.required || is_some p) ≡ true
looked-required a neither e = none-some e
looked-required a (missing {a = b} n) e = let ba : b ≡ a = cc in rw (← ba, n refl) refl
looked-required a (there {a = b} i) e = or_right _ _ refl

attributes-to_record_type : (ts : List (Text × QualifiedType)) → attributes (to_record_type ts) ≡ ts
attributes-to_record_type [] = refl
attributes-to_record_type (t ∷ ts) = ap (λ us. t ∷ us) (attributes-to_record_type ts)

step-instance : {s : Schema} {ts : List (Text × QualifiedType)} {fs : List (Text × Value)} → Sorted name ts → Sorted name fs → InStep s ts fs → Instance s (record_of (to_record_type ts)) (record_of (to_attrs fs))
step-instance {s} {ts} {fs} ot of k = a-record (rw (fields-attrs fs) (all_from (is_attr_of s (to_record_type ts)) fs is)) (rw (attributes-to_record_type ts, fields-attrs fs) (all_from _ ts required))
  where
    is : (f : Text × Value) → Among f fs → is_attr_of s (to_record_type ts) f ≡ true
    is f m = rw (attributes-to_record_type ts) (looked-is f.1 (step-looked f.0 k) (ap content (finds-it name f fs of m)))

    required : (f : Text × QualifiedType) → Among f ts → (flip f.1.required || is_some (lookup f.0 fs)) ≡ true
    required f m = looked-required f.1 (step-looked f.0 k) (ap content (finds-it name f ts ot m))

pub record-fits : {s : Schema} {q : Request} {es : Entities} {ts : List (Text × QualifiedType)} {fs : List (Text × Value)} → InStep s ts fs →
    Fits (Good s q es) (just (record_of (to_record_type (insert_all name ts)))) (ok (record_of (to_attrs (insert_all name fs))))
record-fits {ts} {fs} k = gives (step-instance (sorted_all name ts) (sorted_all name fs) (insert-steps k))
