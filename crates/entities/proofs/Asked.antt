-- What is asked of a record or of an entity that was looked up, and the answer.
use Rattle.std.proofs.Common.{◌≡◌, ℕ, zero, suc, ◌-◌, ◌≤◌, List, ◌++◌, Some, None, Ok, Err, Option, sym, refl, ap, ◌∙◌, subst, ap₂, arith}
use mathlib.Core.Option as o
use mathlib.Core.Option.{some, none}
use Rattle.std.specs.Option.{ok_or}
use Rattle.spec.specs.Basics.{Except, ok, error, ◌>>=◌, or_error, is_some, Text, find, lookup}
use Rattle.spec.specs.Values as s
use Rattle.spec.specs.Values.{EntityUID, bool, int, string, entity_uid, prim, set, record_of, Attrs, fields, find_entity, attrs_or_empty, tags_or_empty}
use Rattle.spec.specs.Exprs.{has_tag, get_tag}
use Rattle.spec.specs.Evaluate.{Error, entity_does_not_exist, attr_does_not_exist, tag_does_not_exist, type_error, of_bool, as_string, as_entity_uid, apply2, has_tag_of, get_tag_of, attrs_of, entity_attrs, get_attr_of, has_attr_of}
use Rattle.values.specs.Held.{text_at, uid_at, means, decode, Stands, fields_of, Found}
use Rattle.values.specs.declared.nodes.Value.{Value}
use Rattle.values.specs.declared.nodes.Value.TheVariants.{Bool as B, Int, String, Entity as E, Set, Record}
use Rattle.values.proofs.Frame.{stands-taller}
use Rattle.operators.specs.Code.{error_of, Says}
use Rattle.operators.specs.declared.errors.EvalError.{EvalError}
use Rattle.operators.proofs.Operands.{is-entity, is-string}
use Rattle.entities.specs.Rows.{record_at, attrs_place, tags_place, entity_at, EntityIn, FoundRow}
use Rattle.entities.specs.Code.{attr_in, tag_in, had, Seeks}
use Rattle.entities.proofs.Framed.{entity-on}

-- ---- what is found to a height is found to any greater one
pub found-taller : (h k : ℕ) (m : List ℕ) (r : Option Value) (x : o.Option s.Value) → h ≤ k → Found h m r x → Found k m r x
found-taller h k m None x l f = f
found-taller h k m (Some v) x l f =
    let S = stands-taller m h (k - h) v (decode h m v) (record { good = f.1; is = refl }) k (omega arith) in
    (f.0 ∙ ap (λ y. o.some y) (sym S.is), S.good)

-- ---- the attributes of an operand
attrs-entity : (h : ℕ) (m : List ℕ) (u : ℕ) (a : s.Value) (look : EntityUID → Except Error Attrs) → Stands h m (E u) a → attrs_of a look ≡ look (uid_at m u)
attrs-entity zero m u a look t = absurd t.good
attrs-entity (suc h) m u a look t = sym (ap (λ v. attrs_of v look) t.is)

attrs-rest : (h : ℕ) (m : List ℕ) (v : Value) (a : s.Value) (look : EntityUID → Except Error Attrs) → ((u : ℕ) → v ≡ E u → ⊥) → ((p : ℕ) → v ≡ Record p → ⊥) → Stands h m v a →
    attrs_of a look ≡ error type_error
attrs-rest zero m v a look n n' t = absurd t.good
attrs-rest (suc h) m v a look n n' t = sym (ap (λ v. attrs_of v look) t.is) ∙ go v n n'
  where
    go : (v : Value) → ((u : ℕ) → v ≡ E u → ⊥) → ((p : ℕ) → v ≡ Record p → ⊥) → attrs_of (means (decode h m) m v) look ≡ error type_error
    go (B b) n n' = refl
    go (Int z) n n' = refl
    go (String p) n n' = refl
    go (E p) n n' = absurd (n p refl)
    go (Set p) n n' = refl
    go (Record p) n n' = absurd (n' p refl)

-- ---- both operators of attributes, by what there is under a name
pub gets-attr : (a : s.Value) (t : Text) (es : s.Entities) → get_attr_of a t es ≡ attr_in a t es >>= (λ x. or_error x attr_does_not_exist)
gets-attr a t es = go (attrs_of a (entity_attrs es))
  where
    go : (r : Except Error Attrs) → (r >>= (λ r. or_error (lookup t (fields r)) attr_does_not_exist)) ≡ ((r >>= (λ r. ok (lookup t (fields r)))) >>= (λ x. or_error x attr_does_not_exist))
    go (ok r) = refl
    go (error e) = refl

pub has-attr : (a : s.Value) (t : Text) (es : s.Entities) → has_attr_of a t es ≡ had (attr_in a t es)
unfolding find
has-attr (prim (bool b)) t es = refl
has-attr (prim (int n)) t es = refl
has-attr (prim (string p)) t es = refl
has-attr (prim (entity_uid u)) t es = go (find_entity u es)
  where
    go : (x : o.Option s.Entity) → ok (of_bool (is_some (lookup t (fields (attrs_or_empty x))))) ≡ had ((or_error x entity_does_not_exist >>= (λ e. ok e.attrs)) >>= (λ r. ok (lookup t (fields r))))
    go (some e) = refl
    go none = refl
has-attr (set vs) t es = refl
has-attr (record_of r) t es = refl

-- and both of tags
pub gets-tag : (a b : s.Value) (es : s.Entities) → apply2 get_tag a b es ≡ tag_in a b es >>= (λ x. or_error x tag_does_not_exist)
gets-tag a b es = go (as_entity_uid a) (as_string b)
  where
    found : (u : EntityUID) (t : Text) (x : o.Option s.Entity) → (or_error x entity_does_not_exist >>= (λ e. or_error (lookup t (fields e.tags)) tag_does_not_exist))
        ≡ ((or_error x entity_does_not_exist >>= (λ e. ok (lookup t (fields e.tags)))) >>= (λ x. or_error x tag_does_not_exist))
    found u t (some e) = refl
    found u t none = refl

    go : (x : Except Error EntityUID) (y : Except Error Text) → (x >>= (λ u. y >>= (λ t. get_tag_of u t es)))
        ≡ ((x >>= (λ u. y >>= (λ t. or_error (find_entity u es) entity_does_not_exist >>= (λ e. ok (lookup t (fields e.tags)))))) >>= (λ x. or_error x tag_does_not_exist))
    go (ok u) (ok t) = found u t (find_entity u es)
    go (ok u) (error e) = refl
    go (error e) y = refl

pub has-tag : (a b : s.Value) (es : s.Entities) → apply2 has_tag a b es ≡ had (tag_in a b es)
unfolding find
has-tag a b es = go a b
  where
    found : (u : EntityUID) (t : Text) (x : o.Option s.Entity) → ok (of_bool (is_some (lookup t (fields (tags_or_empty x))))) ≡ had (or_error x entity_does_not_exist >>= (λ e. ok (lookup t (fields e.tags))))
    found u t (some e) = refl
    found u t none = refl

    named : (u : EntityUID) (b : s.Value) → (as_string b >>= (λ t. ok (of_bool (has_tag_of u t es)))) ≡ had (as_string b >>= (λ t. or_error (find_entity u es) entity_does_not_exist >>= (λ e. ok (lookup t (fields e.tags)))))
    named u (prim (bool b)) = refl
    named u (prim (int n)) = refl
    named u (prim (string t)) = found u t (find_entity u es)
    named u (prim (entity_uid w)) = refl
    named u (set vs) = refl
    named u (record_of r) = refl

    go : (a b : s.Value) → apply2 has_tag a b es ≡ had (tag_in a b es)
    go (prim (bool c)) b = refl
    go (prim (int n)) b = refl
    go (prim (string t)) b = refl
    go (prim (entity_uid u)) b = named u b
    go (set vs) b = refl
    go (record_of r) b = refl

-- ---- what the running code answers with what it found
module _ (h : ℕ) (m : List ℕ) (x : Except Error (o.Option s.Value)) where
  pub got : (e : EvalError) (r : Option Value) → Seeks h m (Ok r) x → Says h m (ok_or r e) (x >>= (λ y. or_error y (error_of e)))
  got e (Some v) f = (ap (λ x. x >>= (λ y. or_error y (error_of e))) (f.1 ∙ ap ok f.2.0), f.2.1)
  got e None f = ap (λ x. x >>= (λ y. or_error y (error_of e))) (f.1 ∙ ap ok f.2)

  pub failed : (e e' : EvalError) → Seeks h m (Err e) x → x >>= (λ y. or_error y (error_of e')) ≡ error (error_of e)
  failed e e' f = ap (λ x. x >>= (λ y. or_error y (error_of e'))) f

-- ---- what there is under a name
module _ (h : ℕ) (m : List ℕ) (t : Text) (es : s.Entities) where
  pub in_record : (p : ℕ) (a : s.Value) (r : Option Value) → Stands h m (Record p) a → Found h m r (lookup t (fields_of (decode h m (Record p)))) → Seeks h m (Ok r) (attr_in a t es)
  in_record p a r S f = (lookup t (fields_of (decode h m (Record p))), record-attrs h p a S, f)
    where
      record-attrs : (h p : ℕ) (a : s.Value) → Stands h m (Record p) a → attr_in a t es ≡ ok (lookup t (fields_of (decode h m (Record p))))
      record-attrs zero p a S = absurd S.good
      record-attrs (suc h) p a S = sym (ap (λ v. attr_in v t es) S.is)

  pub in_rest : (v : Value) (a : s.Value) → ((u : ℕ) → v ≡ E u → ⊥) → ((p : ℕ) → v ≡ Record p → ⊥) → Stands h m v a → attr_in a t es ≡ error type_error
  in_rest v a n n' S = ap (λ x. x >>= (λ r. ok (lookup t (fields r)))) (attrs-rest h m v a (entity_attrs es) n n' S)

module _ (h : ℕ) (store work : List ℕ) (u : ℕ) (es : s.Entities) (a : s.Value) (S : Stands h (store ++ work) (E u) a) where
  -- an entity that was found, by its row
  pub in_entity : (row p : ℕ) (t : Text) (r : Option Value) → find_entity (uid_at (store ++ work) u) es ≡ o.some (entity_at store row) → EntityIn store row → p ≡ attrs_place (store ++ work) row →
      Found h (store ++ work) r (lookup t (fields (record_at (store ++ work) p))) → Seeks h (store ++ work) (Ok r) (attr_in a t es)
  in_entity row p t r q e at f =
      let m : List ℕ = store ++ work in
      let here : record_at m p ≡ (entity_at store row).attrs = ap (record_at m) at ∙ ap (λ x. x.attrs) (entity-on store work row e) in (
        lookup t (fields (entity_at store row).attrs),
        ap (λ x. x >>= (λ r. ok (lookup t (fields r)))) (attrs-entity h m u a (entity_attrs es) S)
            ∙ ap (λ x. (or_error x entity_does_not_exist >>= (λ e. ok e.attrs)) >>= (λ r. ok (lookup t (fields r)))) q,
        subst (λ x. Found h m r (lookup t (fields x))) here f,
      )

  -- one that is not there
  pub in_none : (t : Text) → find_entity (uid_at (store ++ work) u) es ≡ o.none → attr_in a t es ≡ error entity_does_not_exist
  in_none t q =
      ap (λ x. x >>= (λ r. ok (lookup t (fields r)))) (attrs-entity h (store ++ work) u a (entity_attrs es) S)
      ∙ ap (λ x. (or_error x entity_does_not_exist >>= (λ e. ok e.attrs)) >>= (λ r. ok (lookup t (fields r)))) q

  -- the same of tags
  module _ (p : ℕ) (b : s.Value) (T : Stands h (store ++ work) (String p) b) where
    asked : tag_in a b es ≡ or_error (find_entity (uid_at (store ++ work) u) es) entity_does_not_exist >>= (λ e. ok (lookup (text_at (store ++ work) p) (fields e.tags)))
    asked =
        ap₂ (λ x y. x >>= (λ u. y >>= (λ t. or_error (find_entity u es) entity_does_not_exist >>= (λ e. ok (lookup t (fields e.tags)))))) (is-entity h (store ++ work) u a S) (is-string h (store ++ work) p b T)

    pub tag-in_entity : (row q : ℕ) (r : Option Value) → find_entity (uid_at (store ++ work) u) es ≡ o.some (entity_at store row) → EntityIn store row → q ≡ tags_place (store ++ work) row →
        Found h (store ++ work) r (lookup (text_at (store ++ work) p) (fields (record_at (store ++ work) q))) → Seeks h (store ++ work) (Ok r) (tag_in a b es)
    tag-in_entity row q r f e at found =
        let m : List ℕ = store ++ work in
        let here : record_at m q ≡ (entity_at store row).tags = ap (record_at m) at ∙ ap (λ x. x.tags) (entity-on store work row e) in (
          lookup (text_at m p) (fields (entity_at store row).tags),
          asked ∙ ap (λ x. or_error x entity_does_not_exist >>= (λ e. ok (lookup (text_at m p) (fields e.tags)))) f,
          subst (λ x. Found h m r (lookup (text_at m p) (fields x))) here found,
        )

    pub tag-in_none : find_entity (uid_at (store ++ work) u) es ≡ o.none → tag_in a b es ≡ error entity_does_not_exist
    tag-in_none f = asked ∙ ap (λ x. or_error x entity_does_not_exist >>= (λ e. ok (lookup (text_at (store ++ work) p) (fields e.tags)))) f

-- a row that was looked up, or an error in its place
module _ (m : List ℕ) (x : o.Option s.Entity) where
  pub row_there : (r : Option ℕ) (e : EvalError) (row : ℕ) → ok_or r e ≡ Ok row → FoundRow m r x → (x ≡ o.some (entity_at m row)) × EntityIn m row
  row_there (Some p) e row q f = let i : p ≡ row = cc in subst (λ p. (x ≡ o.some (entity_at m p)) × EntityIn m p) i f
  row_there None e row q f = cc

  pub row_missing : (r : Option ℕ) (e e' : EvalError) → ok_or r e ≡ Err e' → FoundRow m r x → (x ≡ o.none) × (e ≡ e')
  row_missing (Some p) e e' q f = cc
  row_missing None e e' q f = (f, cc)
