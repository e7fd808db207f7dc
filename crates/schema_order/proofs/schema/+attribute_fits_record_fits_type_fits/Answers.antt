use Rattle.std.proofs.Common.{◌<◌, ◌≤◌, slice_index_or, ⊎_elim, rules, sym, ap, ◌∙◌, arith}
use Rattle.spec.specs.Validate.{well_formed_type}
use Rattle.wire.specs.Grammar.{type, read_node}
use Rattle.reader.specs.Kinds.{byte_of}
use Rattle.schema_order.specs.declared.lists.Listed.TheVariants.{Attributes}
use Rattle.schema_order.specs.Places.{Attribute, list_at}
use Rattle.schema_order.specs.Schemas.{schema_in}
use Rattle.schema_order.proofs.Forms
use Rattle.schema_order.proofs.Items.{got-at, attribute-inside}
use Rattle.schema_order.proofs.Parts.{attribute-parts}
use Rattle.schema_order.proofs.schema.+attribute_fits_record_fits_type_fits.Goals as goal

-- ---- attributes
pub Schema::attribute_fits-overflow_add-at : goal.Schema::attribute_fits-overflow_add-at
Schema::attribute_fits-overflow_add-at t c = omega (arith, attribute-inside c.args.self.now.bytes.now c.args.at c.args.height c.requires)

pub Schema::attribute_fits-text_end-requires : goal.Schema::attribute_fits-text_end-requires
Schema::attribute_fits-text_end-requires t c = (attribute-parts c.args.height c.args.self.now.bytes.now c.args.at c.requires).name

pub Schema::attribute_fits-type_fits-requires : goal.Schema::attribute_fits-type_fits-requires
Schema::attribute_fits-type_fits-requires t c =
    let w = attribute-parts c.args.height c.args.self.now.bytes.now c.args.at c.requires in
    (omega arith, got-at (read_node c.args.height type) c.args.self.now.bytes.now _ _ c.text_end.ensures.is w.body)

pub Schema::attribute_fits-returns : goal.Schema::attribute_fits-returns
Schema::attribute_fits-returns t c = c.type_fits.ensures ∙ Forms.attribute-type c.args.self.now.bytes.now c.args.at c.args.height c.text_end.result (schema_in c.args.self.now) c.requires c.text_end.ensures.is

-- ---- a record
pub Schema::record_fits-returns : goal.Schema::record_fits-returns
Schema::record_fits-returns t c =
    let T = λ (f : Attribute). well_formed_type f.1.1 (schema_in c.args.self.now) in
    Forms.record-fits (schema_in c.args.self.now) (list_at (Attributes c.args.height) c.args.self.now.bytes.now c.args.at) _ _ c.rises-ordered.ensures (c.all_items.ensures T (λ item b g p. search rules))

-- ---- a type, by its form
pub Schema::type_fits-bounds-self-at : goal.Schema::type_fits-bounds-self-at
Schema::type_fits-bounds-self-at t c = Forms.type-inside c.args.self.now.bytes.now c.args.at c.args.height c.requires

pub Schema::type_fits-unreachable-requires : goal.Schema::type_fits-unreachable-requires
Schema::type_fits-unreachable-requires t c = Forms.told-form c.args.self.now.bytes.now c.args.at c.args.height c.requires c.in_default.ensures

pub Schema::type_fits-overflow_add-result : goal.Schema::type_fits-overflow_add-result
Schema::type_fits-overflow_add-result t c = omega (arith, Forms.type-inside c.args.self.now.bytes.now c.args.at c.args.height c.requires)

pub Schema::type_fits-bounds-self-at-in-Bool : goal.Schema::type_fits-bounds-self-at-in-Bool
Schema::type_fits-bounds-self-at-in-Bool t c = (Forms.bool-view c.args.self.now.bytes.now c.args.at (schema_in c.args.self.now) c.args.height c.requires (c.in-Ok.ensures ∙ ap byte_of c.in-Bool.is)).0

pub Schema::type_fits-type_known-requires : goal.Schema::type_fits-type_known-requires
Schema::type_fits-type_known-requires t c = (Forms.entity-view c.args.self.now.bytes.now c.args.at c.args.height c.requires (c.in-Ok.ensures ∙ ap byte_of c.in-Entity.is)).0

pub Schema::type_fits-overflow_sub-height : goal.Schema::type_fits-overflow_sub-height
Schema::type_fits-overflow_sub-height t c = Forms.type-height c.args.self.now.bytes.now c.args.at c.args.height c.requires

pub Schema::type_fits-type_fits-requires : goal.Schema::type_fits-type_fits-requires
Schema::type_fits-type_fits-requires t c = (omega (arith, Forms.type-height c.args.self.now.bytes.now c.args.at c.args.height c.requires), (Forms.set_view c.args.self.now.bytes.now c.args.at c.args.height c.requires (c.in-Ok.ensures ∙ ap byte_of c.in-Set.is)).0)

pub Schema::type_fits-overflow_sub-height-in-Record : goal.Schema::type_fits-overflow_sub-height-in-Record
Schema::type_fits-overflow_sub-height-in-Record t c = Forms.type-height c.args.self.now.bytes.now c.args.at c.args.height c.requires

pub Schema::type_fits-record_fits-requires : goal.Schema::type_fits-record_fits-requires
Schema::type_fits-record_fits-requires t c = (omega (arith, Forms.type-height c.args.self.now.bytes.now c.args.at c.args.height c.requires), (Forms.record-view c.args.self.now.bytes.now c.args.at c.args.height c.requires (c.in-Ok.ensures ∙ ap byte_of c.in-Record.is)).0)

pub Schema::type_fits-returns-in-Bool : goal.Schema::type_fits-returns-in-Bool
Schema::type_fits-returns-in-Bool t c = (Forms.bool-view c.args.self.now.bytes.now c.args.at (schema_in c.args.self.now) c.args.height c.requires (c.in-Ok.ensures ∙ ap byte_of c.in-Bool.is)).1

pub Schema::type_fits-returns-in-Int : goal.Schema::type_fits-returns-in-Int
Schema::type_fits-returns-in-Int t c =
    let few : (1 ≤ slice_index_or c.args.self.now.bytes.now c.args.at 0) × (slice_index_or c.args.self.now.bytes.now c.args.at 0 < 3) = ⊎_elim (λ e. (omega (arith, c.in-Ok.ensures, ap byte_of e), omega (arith, c.in-Ok.ensures, ap byte_of e))) (λ e. (omega (arith, c.in-Ok.ensures, ap byte_of e), omega (arith, c.in-Ok.ensures, ap byte_of e))) c.in-Int.is in
    Forms.leaf-view c.args.self.now.bytes.now c.args.at (schema_in c.args.self.now) c.args.height c.requires (λ e. omega (arith, few, e)) (λ e. omega (arith, few, e)) (λ e. omega (arith, few, e)) (λ e. omega (arith, few, e))

pub Schema::type_fits-returns-in-Entity : goal.Schema::type_fits-returns-in-Entity
Schema::type_fits-returns-in-Entity t c = c.type_known.ensures ∙ sym (ap (λ x. well_formed_type x (schema_in c.args.self.now)) (Forms.entity-view c.args.self.now.bytes.now c.args.at c.args.height c.requires (c.in-Ok.ensures ∙ ap byte_of c.in-Entity.is)).1)

pub Schema::type_fits-returns-in-Set : goal.Schema::type_fits-returns-in-Set
Schema::type_fits-returns-in-Set t c = c.type_fits.ensures ∙ sym (ap (λ x. well_formed_type x (schema_in c.args.self.now)) (Forms.set_view c.args.self.now.bytes.now c.args.at c.args.height c.requires (c.in-Ok.ensures ∙ ap byte_of c.in-Set.is)).1)

pub Schema::type_fits-returns-in-Record : goal.Schema::type_fits-returns-in-Record
Schema::type_fits-returns-in-Record t c = c.record_fits.ensures ∙ sym (ap (λ x. well_formed_type x (schema_in c.args.self.now)) (Forms.record-view c.args.self.now.bytes.now c.args.at c.args.height c.requires (c.in-Ok.ensures ∙ ap byte_of c.in-Record.is)).1)
