-- Whether an entity is in another, or in one of a set: what is left to look at says what all of it says.
use Rattle.std.proofs.Common.{◌≡◌, ℕ, zero, suc, ◌+◌, ◌-◌, ◌<◌, ◌≤◌, Bool, true, false, ◌||◌, List, [], ◌∷◌, ◌++◌, Some, None, Option, sym, refl, ap, ◌∙◌, subst, ap₂, arith}
use Rattle.spec.specs.Basics.{Except, ok, error, ◌>>=◌, any}
use Rattle.spec.specs.Values as s
use Rattle.spec.specs.Values.{EntityUID, elements, set, same_uid, find_entity, ancestors_or_empty}
use Rattle.spec.specs.Evaluate.{Error, type_error, of_bool, as_entity_uid, as_entity_uids, in_entity, in_set, in_value}
use Rattle.values.specs.Held.{uid_at, UIDIn, means, count, element_at, run, decode, Good, Stands, elements_of}
use Rattle.values.specs.declared.nodes.Value.{Value}
use Rattle.values.specs.declared.nodes.Value.TheVariants.{Bool as B, Int, String, Entity as E, Set, Record}
use Rattle.values.proofs.Frame.{set-in, set_is}
use Rattle.values.proofs.Runs.{run_more, run_none, run-all}
use Rattle.operators.proofs.Operands.{is-entity, no-entity}
use Rattle.entities.specs.Rows.{behind_uid, uids_at, UIDsIn, FoundRow}
use Rattle.entities.specs.Code.{RowIn, in_row, in_values}
use Rattle.entities.proofs.Framed.{ancestors-on, entity-in-on}

-- ---- names one behind the other that are left to be tested, from p on: they say what all of them say
pub record Left (m : List ℕ) (f : EntityUID → Bool) (says : Bool) (p left : ℕ) : Type 0 where
  pub names : UIDsIn m p left
  pub tells : any f (uids_at m p left) ≡ says

module _ (m : List ℕ) (f : EntityUID → Bool) (says : Bool) (p n i : ℕ) (L : Left m f says p (n - i)) where
  one_less : i < n → n - i ≡ suc (n - (i + 1))
  one_less l = omega arith

  more : i < n → Left m f says p (suc (n - (i + 1)))
  more l = subst (Left m f says p) (one_less l) L

  pub left-name : i < n → UIDIn m p
  left-name l = (more l).names.0

  pub left-found : i < n → true ≡ f (uid_at m p) → true ≡ says
  left-found l e = ap (λ b. b || any f (uids_at m (behind_uid m p) (n - (i + 1)))) e ∙ (more l).tells

  pub left-next : i < n → false ≡ f (uid_at m p) → (q : ℕ) → q ≡ behind_uid m p → Left m f says q (n - (i + 1))
  left-next l e q g =
      subst (λ r. Left m f says r (n - (i + 1))) (sym g) (record {
        names = (more l).names.1;
        tells = ap (λ b. b || any f (uids_at m (behind_uid m p) (n - (i + 1)))) e ∙ (more l).tells;
      })

  pub left-none : n ≤ i → false ≡ says
  left-none l = let e : n - i ≡ 0 = omega arith in (subst (Left m f says p) e L).tells

-- ---- the elements of a set that are left, where those before them gave b
module _ (m : List ℕ) (u : ℕ) (row : Option ℕ) where
  abbrev pub from : Bool → List s.Value → Except Error s.Value
  from b vs = as_entity_uids vs >>= (λ us. ok (of_bool (b || any (in_row m u row) us)))

  or-or : (a b c : Bool) → (a || (b || c)) ≡ ((a || b) || c)
  or-or true b c = refl
  or-or false b c = refl

  from_next : (b : Bool) (w : EntityUID) (x : s.Value) (vs : List s.Value) → as_entity_uid x ≡ ok w → from b (x ∷ vs) ≡ from (b || in_row m u row w) vs
  from_next b w x vs e = ap (λ y. (y >>= (λ u. as_entity_uids vs >>= (λ us. ok (u ∷ us)))) >>= (λ us. ok (of_bool (b || any (in_row m u row) us)))) e ∙ go (as_entity_uids vs)
    where
      go : (y : Except Error (List EntityUID)) → ((y >>= (λ us. ok (w ∷ us))) >>= (λ us. ok (of_bool (b || any (in_row m u row) us)))) ≡ (y >>= (λ us. ok (of_bool ((b || in_row m u row w) || any (in_row m u row) us))))
      go (ok us) = ap (λ c. ok (of_bool c)) (or-or b (in_row m u row w) (any (in_row m u row) us))
      go (error z) = refl

  from_wrong : (b : Bool) (x : s.Value) (vs : List s.Value) → as_entity_uid x ≡ error type_error → from b (x ∷ vs) ≡ error type_error
  from_wrong b x vs e = ap (λ y. (y >>= (λ u. as_entity_uids vs >>= (λ us. ok (u ∷ us)))) >>= (λ us. ok (of_bool (b || any (in_row m u row) us)))) e

  from-nil : (b : Bool) → from b [] ≡ ok (of_bool b)
  from-nil true = refl
  from-nil false = refl

  module _ (h p : ℕ) where
    abbrev pub Rest : Bool → ℕ → Type 0
    Rest b i = from b (elements (run (λ j. decode h m (element_at m p j)) i (count m p - i))) ≡ in_values m u row (elements_of (decode h m (Set p)))

    pub rest_all : Good h m (Set p) → Rest false 0
    rest_all g =
        ap (λ v. from false (elements v)) (run-all (λ j. decode h m (element_at m p j)) (count m p)) ∙ ap (λ v. from false (elements_of v)) (set_is m h p g)

    split : (b : Bool) (i : ℕ) → i < count m p → Rest b i →
        from b (decode h m (element_at m p i) ∷ elements (run (λ j. decode h m (element_at m p j)) (i + 1) (count m p - (i + 1)))) ≡ in_values m u row (elements_of (decode h m (Set p)))
    split b i l R = sym (ap (λ v. from b (elements v)) (run_more (λ j. decode h m (element_at m p j)) i (count m p) l)) ∙ R

    pub rest-next : Good h m (Set p) → (b : Bool) (i v : ℕ) → i < count m p → E v ≡ element_at m p i → Rest b i → Rest (b || in_row m u row (uid_at m v)) (i + 1)
    rest-next g b i v l e R =
        let S : Stands h m (E v) (decode h m (element_at m p i)) = subst (λ x. Stands h m x (decode h m (element_at m p i))) (sym e) (record { good = (set-in m h p g).each i l; is = refl }) in
        sym (from_next b (uid_at m v) (decode h m (element_at m p i)) (elements (run (λ j. decode h m (element_at m p j)) (i + 1) (count m p - (i + 1)))) (is-entity h m v (decode h m (element_at m p i)) S)) ∙ split b i l R

    pub rest-wrong : Good h m (Set p) → (b : Bool) (i : ℕ) (x : Value) → i < count m p → x ≡ element_at m p i → ((v : ℕ) → x ≡ E v → ⊥) → Rest b i →
        in_values m u row (elements_of (decode h m (Set p))) ≡ error type_error
    rest-wrong g b i x l e n R =
        let S : Stands h m x (decode h m (element_at m p i)) = subst (λ y. Stands h m y (decode h m (element_at m p i))) (sym e) (record { good = (set-in m h p g).each i l; is = refl }) in
        sym (split b i l R) ∙ from_wrong b (decode h m (element_at m p i)) (elements (run (λ j. decode h m (element_at m p j)) (i + 1) (count m p - (i + 1)))) (no-entity h m x (decode h m (element_at m p i)) n S)

    pub rest-none : (b : Bool) (i : ℕ) → count m p ≤ i → Rest b i → in_values m u row (elements_of (decode h m (Set p))) ≡ ok (of_bool b)
    rest-none b i l R = sym R ∙ ap (λ v. from b (elements v)) (run_none (λ j. decode h m (element_at m p j)) i (count m p) l) ∙ from-nil b

-- ---- a row that was looked up
pub any_same : {A : Type 0} (f g : A → Bool) → ((x : A) → f x ≡ g x) → (xs : List A) → any f xs ≡ any g xs
any_same f g e [] = refl
any_same f g e (x ∷ xs) = ap₂ ◌||◌ (e x) (any_same f g e xs)

module _ (store work : List ℕ) (u : ℕ) (es : s.Entities) where
  pub row_in : (row : Option ℕ) → FoundRow store row (find_entity (uid_at (store ++ work) u) es) → RowIn (store ++ work) row
  row_in (Some p) f = entity-in-on store work p f.1
  row_in None f = tt

  pub in-row : (row : Option ℕ) → FoundRow store row (find_entity (uid_at (store ++ work) u) es) → (v : EntityUID) → in_row (store ++ work) u row v ≡ in_entity (uid_at (store ++ work) u) v es
  in-row (Some p) f v =
      ap (λ us. same_uid (uid_at (store ++ work) u) v || any (same_uid v) us) (ancestors-on store work p f.1 ∙ sym (ap ancestors_or_empty f.0))
  in-row None f v = ap (λ us. same_uid (uid_at (store ++ work) u) v || any (same_uid v) us) (sym (ap ancestors_or_empty f))

  pub in-values : (row : Option ℕ) → FoundRow store row (find_entity (uid_at (store ++ work) u) es) → (vs : List s.Value) → in_set (uid_at (store ++ work) u) vs es ≡ in_values (store ++ work) u row vs
  in-values row f vs = go (as_entity_uids vs)
    where
      go : (y : Except Error (List EntityUID)) → (y >>= (λ us. ok (of_bool (any (λ v. in_entity (uid_at (store ++ work) u) v es) us)))) ≡ (y >>= (λ us. ok (of_bool (any (in_row (store ++ work) u row) us))))
      go (ok us) = ap (λ b. ok (of_bool b)) (any_same (λ v. in_entity (uid_at (store ++ work) u) v es) (in_row (store ++ work) u row) (λ v. sym (in-row row f v)) us)
      go (error e) = refl

-- ---- the second operand
module _ (u : EntityUID) (es : s.Entities) where
  pub in-entity : (h : ℕ) (m : List ℕ) (t : ℕ) (b : s.Value) → Stands h m (E t) b → in_value u b es ≡ ok (of_bool (in_entity u (uid_at m t) es))
  in-entity zero m t b S = absurd S.good
  in-entity (suc h) m t b S = sym (ap (λ x. in_value u x es) S.is)

  pub in-set : (h : ℕ) (m : List ℕ) (p : ℕ) (b : s.Value) → Stands h m (Set p) b → in_value u b es ≡ in_set u (elements_of (decode h m (Set p))) es
  in-set zero m p b S = absurd S.good
  in-set (suc h) m p b S = sym (ap (λ x. in_value u x es) S.is)

  pub in_rest : (h : ℕ) (m : List ℕ) (w : Value) (b : s.Value) → ((t : ℕ) → w ≡ E t → ⊥) → ((p : ℕ) → w ≡ Set p → ⊥) → Stands h m w b → in_value u b es ≡ error type_error
  in_rest zero m w b n n' S = absurd S.good
  in_rest (suc h) m w b n n' S = sym (ap (λ x. in_value u x es) S.is) ∙ go w n n'
    where
      go : (w : Value) → ((t : ℕ) → w ≡ E t → ⊥) → ((p : ℕ) → w ≡ Set p → ⊥) → in_value u (means (decode h m) m w) es ≡ error type_error
      go (B b) n n' = refl
      go (Int z) n n' = refl
      go (String p) n n' = refl
      go (E p) n n' = absurd (n p refl)
      go (Set p) n n' = absurd (n' p refl)
      go (Record p) n n' = refl
