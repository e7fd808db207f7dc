use Rattle.std.proofs.Common.{◌≡◌, ℕ, ◌+◌, Bool, true, false, cond, ◌&&◌, drop, Some, None, sym, refl, ap, ◌∙◌, arith}
use Rattle.spec.specs.Bytes.{Bytes}
use Rattle.spec.specs.Values.{Entity}
use Rattle.spec.specs.Calls.{canonical_record}
use Rattle.wire.specs.Read.{got}
use Rattle.wire.specs.Grammar.{uid, attrs, entity, read_node}
use Rattle.reader.specs.Ends.{Got, ending}
use Rattle.reader.proofs.Stood.{got-is, is-got}
use Rattle.canonical.specs.declared.Listed.TheVariants.{Ancestors}
use Rattle.canonical.specs.Kept.{judged, read_items, ascending_uids, kept_entity}
use Rattle.canonical.proofs.Lists.{judged-some, judged-none}
use Rattle.canonical.proofs.Parts.{ending-got, EntityAt, entity-apart}
use Rattle.canonical.proofs.kept_entity.Goals as goal

-- the parts of an entity, each where the one before it ends
module _ (bs : Bytes) (h : Got (read_node 66 entity (drop 1 bs))) where
  one : Entity
  one = (got-is (read_node 66 entity (drop 1 bs)) h).0

  size : ℕ
  size = (got-is (read_node 66 entity (drop 1 bs)) h).1

  is_one : read_node 66 entity (drop 1 bs) ≡ got one size
  unfolding one size
  is_one = (got-is (read_node 66 entity (drop 1 bs)) h).2

  parts : EntityAt bs size one
  parts = entity-apart bs one size is_one

  refused : kept_entity one ≡ false → None ≡ judged kept_entity 1 (read_node 66 entity (drop 1 bs))
  refused e = sym (ap (judged kept_entity 1) is_one ∙ ap (λ b. cond b (Some (1 + size)) None) e)

  and-no : (a b : Bool) → a ≡ false → ((a && b) && ascending_uids one.ancestors) ≡ false
  and-no a b e = ap (λ x. (x && b) && ascending_uids one.ancestors) e

  pub has-uid : Got (read_node 65 uid (drop 1 bs))
  has-uid = is-got _ _ _ parts.uid-at

  module _ (start : ℕ) (is-start : start ≡ ending 1 (read_node 65 uid (drop 1 bs))) where
    abbrev attrs-at : read_node 65 attrs (drop start bs) ≡ got one.attrs parts.b
    attrs-at = ap (λ z. read_node 65 attrs (drop z bs)) (ending-got 1 start _ _ _ is-start parts.uid-at) ∙ parts.attrs-at

    pub has-attrs : Got (read_node 65 attrs (drop start bs))
    has-attrs = is-got _ _ _ attrs-at

    pub no-attrs : None ≡ judged canonical_record start (read_node 65 attrs (drop start bs)) → None ≡ judged kept_entity 1 (read_node 66 entity (drop 1 bs))
    no-attrs e = refused (and-no (canonical_record one.attrs) (canonical_record one.tags) (judged-none canonical_record start _ _ _ e attrs-at))

    module _ (a : ℕ) (is-a : Some a ≡ judged canonical_record start (read_node 65 attrs (drop start bs))) where
      abbrev told-a : (a ≡ start + parts.b) × (canonical_record one.attrs ≡ true)
      told-a = judged-some canonical_record start a _ _ _ is-a attrs-at

      uids-at : read_items Ancestors 65 (drop a bs) ≡ got one.ancestors parts.c
      uids-at = let p : a ≡ 1 + parts.a + parts.b = omega (arith, told-a.0, ending-got 1 start _ _ _ is-start parts.uid-at) in ap (λ z. read_items Ancestors 65 (drop z bs)) p ∙ parts.ancestors-at

      pub has-uids : Got (read_items Ancestors 65 (drop a bs))
      has-uids = is-got _ _ _ uids-at

      pub no-uids : None ≡ judged ascending_uids a (read_items Ancestors 65 (drop a bs)) → None ≡ judged kept_entity 1 (read_node 66 entity (drop 1 bs))
      no-uids e = refused (ap (λ x. (canonical_record one.attrs && canonical_record one.tags) && x) (judged-none ascending_uids a _ _ _ e uids-at) ∙ no-second (canonical_record one.attrs && canonical_record one.tags))
        where
          no-second : (b : Bool) → (b && false) ≡ false
          no-second true = refl
          no-second false = refl

      module _ (b : ℕ) (is_b : Some b ≡ judged ascending_uids a (read_items Ancestors 65 (drop a bs))) where
        abbrev told-b : (b ≡ a + parts.c) × (ascending_uids one.ancestors ≡ true)
        told-b = judged-some ascending_uids a b _ _ _ is_b uids-at

        abbrev at-tags : b ≡ 1 + parts.a + parts.b + parts.c
        at-tags = omega (arith, told-b.0, told-a.0, ending-got 1 start _ _ _ is-start parts.uid-at)

        tags-at : read_node 65 attrs (drop b bs) ≡ got one.tags parts.d
        tags-at = ap (λ z. read_node 65 attrs (drop z bs)) at-tags ∙ parts.tags-at

        pub has-tags : Got (read_node 65 attrs (drop b bs))
        has-tags = is-got _ _ _ tags-at

        pub says : judged canonical_record b (read_node 65 attrs (drop b bs)) ≡ judged kept_entity 1 (read_node 66 entity (drop 1 bs))
        says =
            let long : b + parts.d ≡ 1 + size = omega (arith, at-tags, parts.long) in
            let kept : canonical_record one.tags ≡ ((canonical_record one.attrs && canonical_record one.tags) && ascending_uids one.ancestors) = and-true (canonical_record one.tags)
            ∙ ap (λ x. (x && canonical_record one.tags) && true) (sym told-a.1) ∙ ap (λ x. (canonical_record one.attrs && canonical_record one.tags) && x) (sym told-b.1) in
            ap (judged canonical_record b) tags-at ∙ (λ i. cond (kept i) (Some (long i)) None) ∙ sym (ap (judged kept_entity 1) is_one)
          where
            and-true : (b : Bool) → b ≡ (b && true)
            and-true true = refl
            and-true false = refl

pub node_end-attributes-requires-clause-stands : goal.node_end-attributes-requires-clause-stands
node_end-attributes-requires-clause-stands c = has-uid c.args.bytes.now c.requires.1

pub record-requires : goal.record-requires
record-requires c = (c.node_end-attributes.ensures.within.1, has-attrs c.args.bytes.now c.requires.1 c.node_end-attributes.result c.node_end-attributes.ensures.is)

pub returns-in_err-ancestors : goal.returns-in_err-ancestors
returns-in_err-ancestors c = c.from_residual.ensures ∙ no-attrs c.args.bytes.now c.requires.1 c.node_end-attributes.result c.node_end-attributes.ensures.is c.in_err-ancestors.ensures.is

pub list-requires : goal.list-requires
list-requires c =
    (c.in_ok-ancestors.ensures.within.1, has-uids c.args.bytes.now c.requires.1 c.node_end-attributes.result c.node_end-attributes.ensures.is c.in_ok-ancestors.ancestors c.in_ok-ancestors.ensures.is)

pub returns-in_err-tags : goal.returns-in_err-tags
returns-in_err-tags c =
    c.from_residual-in_err-tags.ensures ∙ no-uids c.args.bytes.now c.requires.1 c.node_end-attributes.result c.node_end-attributes.ensures.is c.in_ok-ancestors.ancestors c.in_ok-ancestors.ensures.is c.in_err-tags.ensures.is

pub record-requires-2 : goal.record-requires-2
record-requires-2 c =
    (c.in_ok-tags.ensures.within.1, has-tags c.args.bytes.now c.requires.1 c.node_end-attributes.result c.node_end-attributes.ensures.is c.in_ok-ancestors.ancestors c.in_ok-ancestors.ensures.is c.in_ok-tags.tags c.in_ok-tags.ensures.is)

pub returns : goal.returns
returns c = c.record-2.ensures.is ∙ says c.args.bytes.now c.requires.1 c.node_end-attributes.result c.node_end-attributes.ensures.is c.in_ok-ancestors.ancestors c.in_ok-ancestors.ensures.is c.in_ok-tags.tags c.in_ok-tags.ensures.is
