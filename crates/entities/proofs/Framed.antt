-- What is made behind a memory leaves what entities and requests stand for.
use Rattle.std.proofs.Common.{◌≡◌, ℕ, zero, suc, ◌+◌, List, ◌∷◌, ◌++◌, get_or, sym, refl, ap, ◌∙◌, subst, ap₂, arith}
use Rattle.std.proofs.lemmas.List.{length-append}
use Rattle.spec.specs.Values.{Attrs, record_of}
use Rattle.values.specs.Held.{behind_text, UIDIn}
use Rattle.values.specs.declared.nodes.Value.TheVariants.{Record}
use Rattle.values.proofs.Frame.{at_on, uid-on, uid-in-on, decode-on, good-on}
use Rattle.entities.specs.Rows.{behind_uid, behind_node, record_at, RecordAt, uids_at, UIDsIn, attrs_place, tags_place, ancestors_place, ancestors_at, entity_at, EntityIn}

pub fields_told : (r t : Attrs) → record_of r ≡ record_of t → r ≡ t
fields_told r t e = cc

module _ (m x : List ℕ) where
  pub behind-uid-on : (p : ℕ) → UIDIn m p → behind_uid (m ++ x) p ≡ behind_uid m p
  behind-uid-on p h =
      let e : behind_text (m ++ x) p ≡ behind_text m p = ap (λ n. p + 1 + n) (at_on m x p (omega (arith, h.0))) in
      ap (behind_text (m ++ x)) e ∙ ap (λ n. behind_text m p + 1 + n) (at_on m x (behind_text m p) (omega (arith, h.1)))

  pub record-on : (p : ℕ) → RecordAt m p → record_at (m ++ x) p ≡ record_at m p
  record-on p g = fields_told (record_at (m ++ x) p) (record_at m p) (decode-on m x 65 (Record p) g)

  pub record-in-on : (p : ℕ) → RecordAt m p → RecordAt (m ++ x) p
  record-in-on p g = good-on m x 65 (Record p) g

  pub behind-node-on : (p : ℕ) → RecordAt m p → behind_node (m ++ x) p ≡ behind_node m p
  behind-node-on p g = ap (λ n. p + n) (at_on m x p (omega (arith, g.fits)))

  pub uids-on : (n p : ℕ) → UIDsIn m p n → uids_at (m ++ x) p n ≡ uids_at m p n
  uids-on zero p h = refl
  uids-on (suc n) p h = ap₂ ◌∷◌ (uid-on m x p h.0) (ap (λ q. uids_at (m ++ x) q n) (behind-uid-on p h.0) ∙ uids-on n (behind_uid m p) h.1)

  pub uids-in-on : (n p : ℕ) → UIDsIn m p n → UIDsIn (m ++ x) p n
  uids-in-on zero p h = tt
  uids-in-on (suc n) p h = (uid-in-on m x p h.0, subst (λ q. UIDsIn (m ++ x) q n) (sym (behind-uid-on p h.0)) (uids-in-on n (behind_uid m p) h.1))

  -- ---- an entity
  module _ (p : ℕ) (E : EntityIn m p) where
    pub attrs-place-on : attrs_place (m ++ x) p ≡ attrs_place m p
    attrs-place-on = behind-uid-on p E.name

    pub tags-place-on : tags_place (m ++ x) p ≡ tags_place m p
    tags-place-on = ap (behind_node (m ++ x)) attrs-place-on ∙ behind-node-on (attrs_place m p) E.attrs

    pub ancestors-place-on : ancestors_place (m ++ x) p ≡ ancestors_place m p
    ancestors-place-on = ap (behind_node (m ++ x)) tags-place-on ∙ behind-node-on (tags_place m p) E.tags

    many-on : get_or (m ++ x) (ancestors_place (m ++ x) p) 0 ≡ get_or m (ancestors_place m p) 0
    many-on = ap (λ q. get_or (m ++ x) q 0) ancestors-place-on ∙ at_on m x (ancestors_place m p) E.fits

    pub ancestors-on : ancestors_at (m ++ x) p ≡ ancestors_at m p
    ancestors-on =
        ap₂ (λ q n. uids_at (m ++ x) (q + 1) n) ancestors-place-on many-on ∙ uids-on (get_or m (ancestors_place m p) 0) (ancestors_place m p + 1) E.ancestors

    pub entity-on : entity_at (m ++ x) p ≡ entity_at m p
    entity-on =
        let a = uid-on m x p E.name in
        let b = ap (record_at (m ++ x)) attrs-place-on ∙ record-on (attrs_place m p) E.attrs in
        let c = ancestors-on in
        let d = ap (record_at (m ++ x)) tags-place-on ∙ record-on (tags_place m p) E.tags in
        λ i. record { uid = a i; attrs = b i; ancestors = c i; tags = d i }

    pub entity-in-on : EntityIn (m ++ x) p
    entity-in-on = record {
      name = uid-in-on m x p E.name;
      attrs = subst (RecordAt (m ++ x)) (sym attrs-place-on) (record-in-on (attrs_place m p) E.attrs);
      tags = subst (RecordAt (m ++ x)) (sym tags-place-on) (record-in-on (tags_place m p) E.tags);
      fits = simp length-append (omega (arith, ancestors-place-on, E.fits));
      ancestors = subst (λ n. UIDsIn (m ++ x) (ancestors_place (m ++ x) p + 1) n) (sym many-on)
          (subst (λ q. UIDsIn (m ++ x) (q + 1) (get_or m (ancestors_place m p) 0)) (sym ancestors-place-on) (uids-in-on (get_or m (ancestors_place m p) 0) (ancestors_place m p + 1) E.ancestors));
    }
