-- Entities in entities: what is in something can be in it by the schema, and of actions it is known.
use Rattle.std.proofs.Common.{◌≡◌, Bool, true, false, cond, not as flip, ◌&&◌, List, [], ◌∷◌, sym, refl, ap, ◌∙◌, inl, inr}
use mathlib.Core.Option.{Option, some, none}
use Rattle.std.proofs.lemmas.Bool.{and_parts, and_from, or_cases, or_left, or_right}
use Rattle.spec.specs.Basics.{ok, is_some, any, all, Text, same, ascending, itself, insert_all, find}
use Rattle.spec.specs.Values.{EntityUID, Primitive, bool, int, string, entity_uid, Value, prim, set, record_of, Values, elements, to_values, code, code_uid, same_uid, Entity, Entities, find_entity, ancestors_or_empty, Request}
use Rattle.spec.specs.Exprs.{mem, Expr, lit, var, ite, and, or, unary_app, binary_app, get_attr, has_attr, set, record_of, Exprs, nil, cons}
use Rattle.spec.specs.Evaluate.{of_bool, as_entity_uids, in_entity, in_set, in_value, apply2, evaluate, evaluate_all}
use Rattle.spec.specs.Policies.{uid_exprs, is_true}
use Rattle.spec.specs.Types.{CedarType, bool, int, string, entity, set, record_of, EntitySchemaEntry, ActionSchemaEntry, Schema, action_key, find_entity_type, find_action, known, RequestType}
use Rattle.spec.specs.Typecheck.{Capabilities, as_lit, prim_uid, lit_uid, cons_uid, all_lit_uids, lit_uids, action_descendants, ancestor_types, descendant_of, action_in, is_action, in_type, type_of_in_entity, type_of_in_set, type_of_in, type_of_binary}
use Rattle.spec.specs.Validate.{all_in, well_formed_action, valid_ancestor, valid_entity_by, action_present}
use Rattle.laws.proofs.Texts.{false-true, none-some, bool_same, same_refl}
use Rattle.laws.proofs.Codes.{code_is, code_uid-is, same_uid-true}
use Rattle.laws.proofs.Lists.{elements-values}
use Rattle.laws.proofs.Found.{all-at, any_at, any-from, any-map, found, among-all, finds-all}
use Rattle.laws.proofs.Fits.{ok-is, came, Fits, refused, bind}
use Rattle.laws.proofs.Instances.{InstanceBool, either, only-false, literal-is, Instance, a-bool, an_int, a-string, an-entity, a-set, a-record, is_of, view, as-entity, Good, gives}
use Rattle.laws.proofs.Operators.{lit_is, lit-value}
use Rattle.laws.proofs.Setting.{Setting, found-uid, found-valid, of-type, an-action}

-- ---- lists of names
within : (w : EntityUID) (us vs : List EntityUID) → all_in us vs ≡ true → any (same_uid w) us ≡ true → any (same_uid w) vs ≡ true
within w us vs h k = let (u, m, e) = any_at (same_uid w) us k in rw (same_uid-true w u e) (all-at (λ x. any (same_uid x) vs) u us h m)

found-action : (s : Schema) (u : EntityUID) (a : ActionSchemaEntry) → find_action u s ≡ some a → u ≡ a.uid
found-action s u a h = code_uid-is u a.uid (found action_key (code_uid u) a s.acts h).0

same-types : (u v : EntityUID) → u ≡ v → same u.ty v.ty ≡ true
same-types u v e = rw e (same_refl v.ty)

-- ---- what is written out
uid-value : (x : Expr) (u : EntityUID) (q : Request) (es : Entities) {v : Value} → lit_uid x ≡ some u → evaluate x q es ≡ ok v → v ≡ prim (entity_uid u)
uid-value x u q es {v} h e = go (as_lit x) refl h
  where
    go : (o : Option Primitive) → as_lit x ≡ o → prim_uid o ≡ some u → v ≡ prim (entity_uid u)
    go none k n = none-some n
    go (some (bool b)) k n = none-some n
    go (some (int m)) k n = none-some n
    go (some (string t)) k n = none-some n
    go (some (entity_uid w)) k n = let wu : w ≡ u = cc in rw (← wu) (lit-value x (entity_uid w) q es k e)

all-lits-are : (xs : Exprs) (us : List EntityUID) → all_lit_uids xs ≡ some us → xs ≡ uid_exprs us
all-lits-are nil us h = let e : us ≡ [] = cc in rw e
all-lits-are (cons x xs) us h = go (as_lit x) (all_lit_uids xs) refl refl (all-lits-are xs) h
  where
    go : (o : Option Primitive) (p : Option (List EntityUID)) → as_lit x ≡ o → all_lit_uids xs ≡ p → ((vs : List EntityUID) → all_lit_uids xs ≡ some vs → xs ≡ uid_exprs vs) → cons_uid (prim_uid o) p ≡ some us →
        cons x xs ≡ uid_exprs us
    go none p ho hp ih k = none-some k
    go (some (bool b)) p ho hp ih k = none-some k
    go (some (int m)) p ho hp ih k = none-some k
    go (some (string t)) p ho hp ih k = none-some k
    go (some (entity_uid w)) none ho hp ih k = none-some k
    go (some (entity_uid w)) (some vs) ho hp ih k = let e : us ≡ w ∷ vs = cc in rw (e, lit_is x (entity_uid w) ho, ih vs hp) refl

lits-are : (y : Expr) (us : List EntityUID) → lit_uids y ≡ some us → y ≡ set (uid_exprs us)
lits-are (lit p) us h = none-some h
lits-are (var v) us h = none-some h
lits-are (ite x y z) us h = none-some h
lits-are (and x y) us h = none-some h
lits-are (or x y) us h = none-some h
lits-are (unary_app o x) us h = none-some h
lits-are (binary_app o x y) us h = none-some h
lits-are (get_attr x a) us h = none-some h
lits-are (has_attr x a) us h = none-some h
lits-are (set xs) us h = ap Expr.set (all-lits-are xs us h)
lits-are (record_of r) us h = none-some h

abbrev pub uid_values : List EntityUID → List Value
uid_values [] = []
uid_values (u ∷ us) = prim (entity_uid u) ∷ uid_values us

pub uids-come : (us : List EntityUID) (q : Request) (es : Entities) → evaluate_all (uid_exprs us) q es ≡ ok (uid_values us)
uids-come [] q es = refl
uids-come (u ∷ us) q es = rw (uids-come us q es)

inside : {vs ws : Values} → ◌≡◌ {A = Value} (set vs) (set ws) → vs ≡ ws
inside {vs} {ws} h = cc

lits-value : (y : Expr) (us : List EntityUID) (q : Request) (es : Entities) {vs : Values} → lit_uids y ≡ some us → evaluate y q es ≡ ok (set vs) → elements vs ≡ insert_all code (uid_values us)
lits-value y us q es {vs} h e =
    let f : evaluate (set (uid_exprs us)) q es ≡ ok (set vs) = rw (lits-are y us h) at e in
    let k : ◌≡◌ {A = Value} (set vs) (set (to_values (insert_all code (uid_values us)))) = ok-is (sym (rw (uids-come us q es) at f)) in
    rw (inside k, elements-values (insert_all code (uid_values us)))

pub record IsAction (s : Schema) (o : Option EntityUID) (u : EntityUID) : Type 0 where
  pub entry : ActionSchemaEntry
  pub is : find_action u s ≡ some entry
  pub uid : o ≡ some u

is-action : (s : Schema) (o : Option EntityUID) (u : EntityUID) → is_action o s ≡ some u → IsAction s o u
is-action s none u h = none-some h
is-action s (some w) u h = go (find_action w s) refl h
  where
    go : (p : Option ActionSchemaEntry) → find_action w s ≡ p → cond (is_some p) (some w) none ≡ some u → IsAction s (some w) u
    go none e k = none-some k
    go (some a) e k = let wu : w ≡ u = cc in record { entry = a; is = rw (← wu) e; uid = ap some wu }

-- ---- values of a set, one by one
abbrev pub is_in_one : EntityUID → Entities → Value → Bool
is_in_one u es v = is_true (in_value u v es)

entity-of : {s : Schema} {n : Text} {v : Value} → Instance s (entity n) v → (u : EntityUID) × (v ≡ prim (entity_uid u)) × (n ≡ u.ty)
entity-of (an-entity {u} h) = (u, refl, refl)

all-uids : (s : Schema) (n : Text) (u : EntityUID) (es : Entities) (vs : List Value) → all (is_of s (entity n)) vs ≡ true →
    (us : List EntityUID) × (as_entity_uids vs ≡ ok us) × (any (λ v. in_entity u v es) us ≡ any (is_in_one u es) vs)
all-uids s n u es [] h = ([], refl, refl)
all-uids s n u es (v ∷ vs) h = let p = and_parts (is_of s (entity n) v) (all (is_of s (entity n)) vs) h in go (entity-of (view (entity n) v p.0)) (all-uids s n u es vs p.1)
  where
    go : (w : EntityUID) × (v ≡ prim (entity_uid w)) × (n ≡ w.ty) → (us : List EntityUID) × (as_entity_uids vs ≡ ok us) × (any (λ x. in_entity u x es) us ≡ any (is_in_one u es) vs) →
        (us : List EntityUID) × (as_entity_uids (v ∷ vs) ≡ ok us) × (any (λ x. in_entity u x es) us ≡ any (is_in_one u es) (v ∷ vs))
    go (w, e, t) (us, f, k) = (w ∷ us, rw (e, f), rw (e, k))

in-set : (s : Schema) (n : Text) (u : EntityUID) (es : Entities) (vs : List Value) → all (is_of s (entity n)) vs ≡ true → in_set u vs es ≡ ok (of_bool (any (is_in_one u es) vs))
in-set s n u es vs h = let (us, f, k) = all-uids s n u es vs h in rw (f, k)

-- a set has just what was put into it
pub any-inserted : (f : Value → Bool) (vs : List Value) → any f (insert_all code vs) ≡ any f vs
any-inserted f vs =
    bool_same _ _ (λ h. let (x, m, e) = any_at f (insert_all code vs) h in any-from f x vs (among-all code x vs m) e)
    (λ h. let (x, m, e) = any_at f vs h in there x e (find code (code x) (insert_all code vs)) refl (finds-all code x vs m))
  where
    there : (x : Value) → f x ≡ true → (o : Option Value) → find code (code x) (insert_all code vs) ≡ o → is_some o ≡ true → any f (insert_all code vs) ≡ true
    there x e none ho h = false-true h
    there x e (some y) ho h = let (k, m) = found code (code x) y (insert_all code vs) ho in any-from f y (insert_all code vs) m (rw (← code_is x y k) e)

may-be : (c b : Bool) → (b ≡ true → c ≡ true) → InstanceBool (in_type c) b
may-be true b f = either
may-be false true f = false-true (f refl)
may-be false false f = only-false

module _ {s : Schema} {r : RequestType} {q : Request} {es : Entities} (g : Setting s r q es) where
  -- ---- what is in something can be in it
  can : (u w : EntityUID) → in_entity u w es ≡ true → descendant_of u.ty w.ty s ≡ true
  can u w h = elim (or_cases (same_uid u w) (any (same_uid w) (ancestors_or_empty (find_entity u es))) h) [
    | inl e ↦ or_left _ _ (same-types u w (same_uid-true u w e))
    | inr m ↦ or_right _ _ (go (find_entity u es) (find_entity_type u.ty s) refl (found-valid s es g.valid u) m)
  ]
    where
      by-action : (e : Entity) → valid_entity_by none e s ≡ true → any (same_uid w) e.ancestors ≡ true → action_descendants e.uid.ty w.ty s ≡ true
      by-action e v m =
          let a = an-action s e v in
          any-from _ a.entry s.acts (found action_key (code_uid e.uid) a.entry s.acts a.is).1
          (and_from _ _ (same-types e.uid a.entry.uid (found-action s e.uid a.entry a.is))
          (any-map (same_uid w) (λ x. same w.ty x.ty) a.entry.ancestors (λ x k. same-types w x (same_uid-true w x k)) (within w e.ancestors a.entry.ancestors a.only m)))

      by-type : (e : Entity) (d : EntitySchemaEntry) → all (valid_ancestor d s) e.ancestors ≡ true → any (same_uid w) e.ancestors ≡ true → any (same w.ty) d.ancestors ≡ true
      by-type e d v m =
          let (x, k, f) = any_at (same_uid w) e.ancestors m in
          rw (same_uid-true w x f) (and_parts (any (same x.ty) d.ancestors) (known s x) (all-at (valid_ancestor d s) x e.ancestors v k)).0

      go : (o : Option Entity) (d : Option EntitySchemaEntry) → find_entity u es ≡ o → ((e : Entity) → find_entity u es ≡ some e → valid_entity_by d e s ≡ true) →
          any (same_uid w) (ancestors_or_empty o) ≡ true → ancestor_types d u.ty w.ty s ≡ true
      go none d ho f m = false-true m
      go (some e) none ho f m = rw (found-uid u e es ho) (by-action e (f e ho) m)
      go (some e) (some d) ho f m = by-type e d (of-type s d e (f e ho)).ancestors m

  -- ---- of an action it is known
  no-type : (u : EntityUID) (a : ActionSchemaEntry) → find_action u s ≡ some a → find_entity_type u.ty s ≡ none
  no-type u a h =
      let w = all-at (well_formed_action s) a s.acts g.well (found action_key (code_uid u) a s.acts h).1 in
      let p = (and_parts (ascending code_uid a.ancestors) (flip (is_some (find_entity_type a.uid.ty s))) (and_parts (ascending itself a.principals && ascending itself a.resources) _ (and_parts _ _ w).0).1).1 in
      rw (found-action s u a h) (go (find_entity_type a.uid.ty s) p)
    where
      go : (o : Option EntitySchemaEntry) → flip (is_some o) ≡ true → o ≡ none
      go none k = refl
      go (some d) k = false-true k

  same-ancestors : (u w : EntityUID) (a : ActionSchemaEntry) → find_action u s ≡ some a → any (same_uid w) (ancestors_or_empty (find_entity u es)) ≡ any (same_uid w) a.ancestors
  unfolding action_present
  same-ancestors u w a h = go (find_entity u es) refl (rw (found-action s u a h) (all-at (action_present es) a s.acts g.present (found action_key (code_uid u) a s.acts h).1))
    where
      go : (o : Option Entity) → find_entity u es ≡ o → is_some o ≡ true → any (same_uid w) (ancestors_or_empty o) ≡ any (same_uid w) a.ancestors
      go none ho k = false-true k
      go (some e) ho k =
          let b = an-action s e (rw (no-type u a h) at (found-valid s es g.valid u e ho)) in
          let f : find_action u s ≡ some b.entry = ap (λ x. find_action x s) (found-uid u e es ho) ∙ b.is in
          let i : b.entry ≡ a = cc in
          let x : all_in e.ancestors a.ancestors ≡ true = rw i at b.only in
          let y : all_in a.ancestors e.ancestors ≡ true = rw i at b.every in
          bool_same _ _ (within w e.ancestors a.ancestors x) (within w a.ancestors e.ancestors y)

  in_is : (u w : EntityUID) (a : ActionSchemaEntry) → find_action u s ≡ some a → in_entity u w es ≡ action_in u w s
  in_is u w a h = rw (same-ancestors u w a h, h)

  -- ---- in an entity
  in-entity : (x y : Expr) (u w : EntityUID) → evaluate x q es ≡ ok (prim (entity_uid u)) → evaluate y q es ≡ ok (prim (entity_uid w)) →
      InstanceBool (type_of_in_entity (is_action (lit_uid x) s) (lit_uid y) u.ty w.ty s) (in_entity u w es)
  in-entity x y u w ev ew = go (is_action (lit_uid x) s) (lit_uid y) refl refl
    where
      go : (o p : Option EntityUID) → is_action (lit_uid x) s ≡ o → lit_uid y ≡ p → InstanceBool (type_of_in_entity o p u.ty w.ty s) (in_entity u w es)
      go none p ho hp = may-be (descendant_of u.ty w.ty s) (in_entity u w es) (can u w)
      go (some a) none ho hp = may-be (descendant_of u.ty w.ty s) (in_entity u w es) (can u w)
      go (some a) (some b) ho hp =
          let i = is-action s (lit_uid x) a ho in
          let k = uid-value x a q es i.uid ev in
          let l = uid-value y b q es hp ew in
          let ua : u ≡ a = cc in
          let wb : w ≡ b = cc in
          rw (ua, wb, in_is a b i.entry i.is) (literal-is (action_in a b s))

  -- ---- in one of a set
  some-can : (u : EntityUID) (n : Text) (vs : List Value) → all (is_of s (entity n)) vs ≡ true → any (is_in_one u es) vs ≡ true → descendant_of u.ty n s ≡ true
  some-can u n vs h k =
      let (v, m, e) = any_at (is_in_one u es) vs k in
      let (w, f, t) = entity-of (view (entity n) v (all-at (is_of s (entity n)) v vs h m)) in
      rw t (can u w (rw f at e))

  any-in : (u : EntityUID) (a : ActionSchemaEntry) → find_action u s ≡ some a → (ws : List EntityUID) → any (is_in_one u es) (uid_values ws) ≡ any (λ w. action_in u w s) ws
  any-in u a h [] = refl
  any-in u a h (w ∷ ws) = rw (in_is u w a h, any-in u a h ws)

  in_one : (x y : Expr) (u : EntityUID) (n : Text) (vs : Values) → all (is_of s (entity n)) (elements vs) ≡ true → evaluate x q es ≡ ok (prim (entity_uid u)) → evaluate y q es ≡ ok (set vs) →
      InstanceBool (type_of_in_set (is_action (lit_uid x) s) (lit_uids y) u.ty n s) (any (is_in_one u es) (elements vs))
  in_one x y u n vs h ev ew = go (is_action (lit_uid x) s) (lit_uids y) refl refl
    where
      go : (o : Option EntityUID) (p : Option (List EntityUID)) → is_action (lit_uid x) s ≡ o → lit_uids y ≡ p → InstanceBool (type_of_in_set o p u.ty n s) (any (is_in_one u es) (elements vs))
      go none p ho hp = may-be (descendant_of u.ty n s) _ (some-can u n (elements vs) h)
      go (some a) none ho hp = may-be (descendant_of u.ty n s) _ (some-can u n (elements vs) h)
      go (some a) (some ws) ho hp =
          let i = is-action s (lit_uid x) a ho in
          let k = uid-value x a q es i.uid ev in
          let ua : u ≡ a = cc in
          rw (ua, lits-value y ws q es hp ew, any-inserted (is_in_one a es) (uid_values ws), any-in a i.entry i.is ws) (literal-is (any (λ w. action_in a w s) ws))

  in-set-fits : (x y : Expr) (u : EntityUID) (t : CedarType) (vs : Values) → all (is_of s t) (elements vs) ≡ true → evaluate x q es ≡ ok (prim (entity_uid u)) → evaluate y q es ≡ ok (set vs) →
      Fits (Good s q es) (type_of_in x y u.ty (set t) s) (in_set u (elements vs) es)
  in-set-fits x y u (bool b) vs h ev ew = refused
  in-set-fits x y u int vs h ev ew = refused
  in-set-fits x y u string vs h ev ew = refused
  in-set-fits x y u (entity n) vs h ev ew = rw (in-set s n u es (elements vs) h) (gives (a-bool (in_one x y u n vs h ev ew)))
  in-set-fits x y u (set t) vs h ev ew = refused
  in-set-fits x y u (record_of ts) vs h ev ew = refused

  in-fits : (x y : Expr) (u : EntityUID) {t : CedarType} {w : Value} → evaluate x q es ≡ ok (prim (entity_uid u)) → evaluate y q es ≡ ok w → Instance s t w →
      Fits (Good s q es) (type_of_in x y u.ty t s) (in_value u w es)
  in-fits x y u ev ew (a-bool b) = refused
  in-fits x y u ev ew an_int = refused
  in-fits x y u ev ew a-string = refused
  in-fits x y u ev ew (an-entity {u = w} h) = gives (a-bool (in-entity x y u w ev ew))
  in-fits x y u ev ew (a-set {t} {vs} h) = in-set-fits x y u t vs h ev ew
  in-fits x y u ev ew (a-record h m) = refused

  pub mem-fits : (x y : Expr) (c : Capabilities) {t u : CedarType} {v w : Value} → evaluate x q es ≡ ok v → evaluate y q es ≡ ok w → Instance s t v → Instance s u w →
      Fits (Good s q es) (type_of_binary mem t u x y c s) (apply2 mem v w es)
  mem-fits x y c ev ew i j = bind _ _ (as-entity i) λ n a e _. rw e.type (in-fits x y a (came ev e.value) ew j)
