-- An attribute of a record type, looked for along the row.
use Rattle.std.proofs.Common.{◌≡◌, ℕ, ◌-◌, ◌<◌, ◌≤◌, Bool, true, false, cond, List, length, sym, refl, ap, ◌∙◌, subst, arith}
use mathlib.Core.Option.{Option, some, none}
use Rattle.spec.specs.Basics.{Text, same, find, name, content, lookup}
use Rattle.spec.specs.Types as s
use Rattle.spec.specs.Types.{RecordType, attr, QualifiedType, attributes}
use Rattle.values.specs.Held.{text_at}
use Rattle.types.specs.Held.{name_at, required_at, attr_type_at, next_at, attrs_from, decode, Good, AttrIn, GoodFrom}
use Rattle.types.specs.declared.nodes.CedarType.{CedarType}
use Rattle.types.proofs.Walks.{above_zero, good-step}

one : (t a : Text) (r : Bool) (v : s.CedarType) (ts : RecordType) → lookup t (attributes (attr a r v ts)) ≡ cond (same t a) (some (record { required = r; type = v })) (lookup t (attributes ts))
unfolding find
one t a r v ts = go (same t a)
  where
    go : (b : Bool) → content (cond b (some (a, record { required = r; type = v })) (find name t (attributes ts))) ≡ cond b (some (record { required = r; type = v })) (content (find name t (attributes ts)))
    go true = refl
    go false = refl

module _ (d : CedarType → s.CedarType) (b : Bool) (m w : List ℕ) (t : Text) where
  abbrev pub seen : ℕ → ℕ → Option QualifiedType
  seen n e = lookup t (attributes (attrs_from d b m w n e))

  step : (n e : ℕ) → 0 < n → seen n e ≡ cond (same t (text_at m (name_at b m w e))) (some (record { required = required_at b m e; type = d (attr_type_at b m w e) })) (seen (n - 1) (next_at b m e))
  step n e l = ap (λ k. seen k e) (above_zero n l) ∙ one t (text_at m (name_at b m w e)) (required_at b m e) (d (attr_type_at b m w e)) (attrs_from d b m w (n - 1) (next_at b m e))

  pub seen_none : (n e : ℕ) → n ≤ 0 → seen n e ≡ none
  unfolding find
  seen_none n e l = let z : n ≡ 0 = omega arith in ap (λ k. seen k e) z

  pub seen_here : (n e x : ℕ) (r : Bool) (v : CedarType) → 0 < n → x ≡ name_at b m w e → r ≡ required_at b m e → v ≡ attr_type_at b m w e → true ≡ same t (text_at m x) → seen n e ≡ some (record { required = r; type = d v })
  seen_here n e x r v l ex er ev h =
      let k : same t (text_at m (name_at b m w e)) ≡ true = ap (λ y. same t (text_at m y)) (sym ex) ∙ sym h in
      step n e l ∙ ap (λ c. cond c (some (record { required = required_at b m e; type = d (attr_type_at b m w e) })) (seen (n - 1) (next_at b m e))) k
      ∙ sym (λ i. some (record { required = er i; type = d (ev i) }))

  pub seen-on : (n e x y : ℕ) → 0 < n → x ≡ name_at b m w e → y ≡ next_at b m e → false ≡ same t (text_at m x) → seen (n - 1) y ≡ seen n e
  seen-on n e x y l ex ey h =
      let k : same t (text_at m (name_at b m w e)) ≡ false = ap (λ z. same t (text_at m z)) (sym ex) ∙ sym h in
      ap (seen (n - 1)) ey ∙ sym (step n e l ∙ ap (λ c. cond c (some (record { required = required_at b m e; type = d (attr_type_at b m w e) })) (seen (n - 1) (next_at b m e))) k)

-- ---- along the attributes: what is left gives what all give, to each height to which all are good
module _ (m w : List ℕ) (b : Bool) (t : Text) (n e : ℕ) where
  abbrev pub Looking : ℕ → ℕ → Type 0
  Looking k f =
      (h : ℕ) → GoodFrom (Good h m w 0 (length w)) b m w (length w) n e
      → GoodFrom (Good h m w 0 (length w)) b m w (length w) k f × (seen (decode h m w) b m w t k f ≡ seen (decode h m w) b m w t n e)

  pub looking-starts : (k f : ℕ) → k ≡ n → f ≡ e → Looking k f
  looking-starts k f p q = subst (λ k. Looking k f) (sym p) (subst (Looking n) (sym q) (λ h g. (g, refl)))

  pub looking-attr : (k f h : ℕ) → 0 < k → Looking k f → GoodFrom (Good h m w 0 (length w)) b m w (length w) n e
      → AttrIn b m w (length w) f × Good h m w 0 (length w) (attr_type_at b m w f) × GoodFrom (Good h m w 0 (length w)) b m w (length w) (k - 1) (next_at b m f)
  looking-attr k f h l i g = good-step (Good h m w 0 (length w)) b m w (length w) k f l (i h g).0

  pub looking-on : (k f x y j : ℕ) → 0 < k → Looking k f → x ≡ name_at b m w f → y ≡ next_at b m f → false ≡ same t (text_at m x) → j ≡ k - 1 → Looking j y
  looking-on k f x y j l i ex ey s q h g =
      let a = looking-attr k f h l i g in
      subst (λ j. GoodFrom (Good h m w 0 (length w)) b m w (length w) j y × (seen (decode h m w) b m w t j y ≡ seen (decode h m w) b m w t n e)) (sym q)
      (subst (GoodFrom (Good h m w 0 (length w)) b m w (length w) (k - 1)) (sym ey) a.2, seen-on (decode h m w) b m w t k f x y l ex ey s ∙ (i h g).1)

  pub looking_found : (k f h x : ℕ) (r : Bool) (v : CedarType) → 0 < k → Looking k f → GoodFrom (Good h m w 0 (length w)) b m w (length w) n e
      → x ≡ name_at b m w f → r ≡ required_at b m f → v ≡ attr_type_at b m w f → true ≡ same t (text_at m x)
      → Good h m w 0 (length w) v × (seen (decode h m w) b m w t n e ≡ some (record { required = r; type = decode h m w v }))
  looking_found k f h x r v l i g ex er ev s =
      (subst (Good h m w 0 (length w)) (sym ev) (looking-attr k f h l i g).1, sym (i h g).1 ∙ seen_here (decode h m w) b m w t k f x r v l ex er ev s)

  pub looking_none : (k f h : ℕ) → k ≤ 0 → Looking k f → GoodFrom (Good h m w 0 (length w)) b m w (length w) n e → seen (decode h m w) b m w t n e ≡ none
  looking_none k f h l i g = sym (i h g).1 ∙ seen_none (decode h m w) b m w t k f l
