-- Entries whose parts stand where the code found them.
use Rattle.std.proofs.Common.{◌≡◌, ℕ, ◌≤◌, Bool, true, false, cond, ◌&&◌, List, length, drop, sym, ap, ◌∙◌, arith}
use Rattle.spec.specs.Basics.{any}
use Rattle.spec.specs.Bytes.{Bytes}
use Rattle.spec.specs.Values.{EntityUID, same_uid}
use Rattle.spec.specs.Types.{EntitySchemaEntry, ActionSchemaEntry}
use Rattle.spec.specs.Validate.{all_in}
use Rattle.wire.specs.Read.{read_text, read_list}
use Rattle.wire.specs.Grammar.{type, read_node, to_types}
use Rattle.schema_order.specs.declared.lists.Listed.TheVariants.{Names, Uids, Entries, Actions, Attributes}
use Rattle.schema_order.specs.declared.actions.Lists.{Lists}
use Rattle.reader.specs.Ends.{Got, ending}
use Rattle.schema_order.specs.Places.{holds, text_at, uid_at, types_at, read_uid, read_item, read_many, list_at, closed_to, principals_at, resources_at, over_at, context_at, ListsOf, ListsStand}
use Rattle.reader.proofs.Stood.{text-inside}
use Rattle.schema_order.proofs.Parts.{uid-parts, entry-parts, above_at, attrs_at, tags_at, action-parts}
use Rattle.schema_order.proofs.Items.{got-at, end-at}

pub and-two : (a b a' b' : Bool) → a ≡ a' → b ≡ b' → (a && b) ≡ (a' && b')
and-two a b a' b' p q = ap (λ x. x && b) p ∙ ap (λ x. a' && x) q

-- ---- an entry of a type
module _ (bs : Bytes) (at : ℕ) (g : Got (read_item Entries (drop at bs))) (above : ℕ) (p : above ≡ ending at (read_text (drop at bs))) where
  pub above-got : Got (read_many Names (drop above bs))
  above-got = got-at (read_many Names) bs above (above_at bs at) p (entry-parts bs at g).above

  module _ (attrs : ℕ) (q : attrs ≡ ending above (read_many Names (drop above bs))) where
    at-attrs : attrs ≡ attrs_at bs at
    at-attrs = end-at (read_many Names) bs above (above_at bs at) attrs p q

    pub attrs-got : Got (read_many (Attributes 64) (drop attrs bs))
    attrs-got = got-at (read_many (Attributes 64)) bs attrs (attrs_at bs at) at-attrs (entry-parts bs at g).attrs

    module _ (tags : ℕ) (r : tags ≡ ending attrs (read_many (Attributes 64) (drop attrs bs))) where
      at-tags : tags ≡ tags_at bs at
      at-tags = end-at (read_many (Attributes 64)) bs attrs (attrs_at bs at) tags at-attrs r

      pub tags-got : Got (read_list (read_node 65 type) 0 (drop tags bs))
      tags-got = got-at (read_list (read_node 65 type) 0) bs tags (tags_at bs at) at-tags (entry-parts bs at g).tags

      abbrev entry : ℕ → ℕ → ℕ → EntitySchemaEntry
      entry i j k = record { name = text_at bs at; ancestors = list_at Names bs i; attrs = to_types (list_at (Attributes 64) bs j); tags = types_at bs k }

      pub entry-is : (T : EntitySchemaEntry → Bool) → T (entry above attrs tags) ≡ holds T (read_item Entries (drop at bs))
      entry-is T =
          ap (λ i. T (entry i attrs tags)) p ∙ ap (λ j. T (entry (above_at bs at) j tags)) at-attrs ∙ ap (λ k. T (entry (above_at bs at) (attrs_at bs at) k)) at-tags
          ∙ sym (ap (holds T) (entry-parts bs at g).is)

-- ---- an entry of an action
module _ (bs : Bytes) (at : ℕ) (g : Got (read_item Actions (drop at bs))) where
  pub uid-got : Got (read_uid (drop at bs))
  uid-got = (action-parts bs at g).uid

  pub name-got : Got (read_text (drop at bs))
  name-got = (uid-parts bs at uid-got).ty

  pub action-inside : at ≤ length bs
  action-inside = omega (arith, text-inside bs at name-got)

  module _ (l : Lists) (w : ListsOf bs at l) where
    pub lists-stand : ListsStand bs l
    lists-stand = (
      got-at (read_many Names) bs l.principals (principals_at bs at) w.0 (action-parts bs at g).principals,
      got-at (read_many Names) bs l.resources (resources_at bs at) w.1 (action-parts bs at g).resources,
      got-at (read_many Uids) bs l.above (over_at bs at) w.2 (action-parts bs at g).above,
      got-at (read_many (Attributes 64)) bs l.context (context_at bs at) w.3 (action-parts bs at g).context,
    )

    pub closed_is : (us : List EntityUID) → cond (any (same_uid (uid_at bs at)) us) (all_in (list_at Uids bs l.above) us) true ≡ holds (closed_to us) (read_item Actions (drop at bs))
    closed_is us = ap (λ k. cond (any (same_uid (uid_at bs at)) us) (all_in (list_at Uids bs k) us) true) w.2 ∙ sym (ap (holds (closed_to us)) (action-parts bs at g).is)

    abbrev action : ℕ → ℕ → ℕ → ℕ → ActionSchemaEntry
    action i j k m = record { uid = uid_at bs at; principals = list_at Names bs i; resources = list_at Names bs j; ancestors = list_at Uids bs k; context = to_types (list_at (Attributes 64) bs m) }

    pub action-is : (T : ActionSchemaEntry → Bool) → T (action l.principals l.resources l.above l.context) ≡ holds T (read_item Actions (drop at bs))
    action-is T =
        ap (λ i. T (action i l.resources l.above l.context)) w.0 ∙ ap (λ j. T (action (principals_at bs at) j l.above l.context)) w.1
        ∙ ap (λ k. T (action (principals_at bs at) (resources_at bs at) k l.context)) w.2 ∙ ap (λ m. T (action (principals_at bs at) (resources_at bs at) (over_at bs at) m)) w.3
        ∙ sym (ap (holds T) (action-parts bs at g).is)

  -- an action that isn't above is no matter
  pub not-above : (us : List EntityUID) → any (same_uid (uid_at bs at)) us ≡ false → true ≡ holds (closed_to us) (read_item Actions (drop at bs))
  not-above us e = ap (λ b. cond b (all_in (list_at Uids bs (over_at bs at)) us) true) (sym e) ∙ sym (ap (holds (closed_to us)) (action-parts bs at g).is)

  -- the type of its name
  pub uid-type : (uid_at bs at).ty ≡ text_at bs at
  uid-type = ap (λ (u : EntityUID). u.ty) (uid-parts bs at uid-got).is
