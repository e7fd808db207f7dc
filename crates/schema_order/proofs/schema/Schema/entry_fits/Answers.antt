use Rattle.std.proofs.Common.{◌∙◌}
use Rattle.spec.specs.Validate.{well_formed_entry}
use Rattle.schema_order.specs.Schemas.{schema_in}
use Rattle.schema_order.proofs.Parts.{entry-parts}
use Rattle.schema_order.proofs.Opened
use Rattle.schema_order.proofs.schema.Schema.entry_fits.Goals as goal

pub text_end-above-requires : goal.text_end-above-requires
text_end-above-requires c = (entry-parts c.args.self.now.bytes.now c.args.at c.requires).name

pub list_end-attrs-requires : goal.list_end-attrs-requires
list_end-attrs-requires c = Opened.above-got c.args.self.now.bytes.now c.args.at c.requires c.text_end-above.result c.text_end-above.ensures.is

pub list_end-tags-requires : goal.list_end-tags-requires
list_end-tags-requires c = Opened.attrs-got c.args.self.now.bytes.now c.args.at c.requires c.text_end-above.result c.text_end-above.ensures.is c.list_end-attrs.result c.list_end-attrs.ensures.0

pub rises-ordered-requires : goal.rises-ordered-requires
rises-ordered-requires c = Opened.above-got c.args.self.now.bytes.now c.args.at c.requires c.text_end-above.result c.text_end-above.ensures.is

pub all_types-there-requires : goal.all_types-there-requires
all_types-there-requires c = Opened.above-got c.args.self.now.bytes.now c.args.at c.requires c.text_end-above.result c.text_end-above.ensures.is

pub record_fits-fits-requires : goal.record_fits-fits-requires
record_fits-fits-requires c = Opened.attrs-got c.args.self.now.bytes.now c.args.at c.requires c.text_end-above.result c.text_end-above.ensures.is c.list_end-attrs.result c.list_end-attrs.ensures.0

pub tags_fit-requires : goal.tags_fit-requires
tags_fit-requires c = Opened.tags-got c.args.self.now.bytes.now c.args.at c.requires c.text_end-above.result c.text_end-above.ensures.is c.list_end-attrs.result c.list_end-attrs.ensures.0 c.list_end-tags.result c.list_end-tags.ensures.0

pub returns : goal.returns
returns c =
    Opened.and-two _ _ _ _ (Opened.and-two _ _ _ _ c.rises-ordered.ensures c.all_types-there.ensures) (Opened.and-two _ _ _ _ c.record_fits-fits.ensures c.tags_fit.ensures)
    ∙ Opened.entry-is c.args.self.now.bytes.now c.args.at c.requires c.text_end-above.result c.text_end-above.ensures.is c.list_end-attrs.result c.list_end-attrs.ensures.0 c.list_end-tags.result c.list_end-tags.ensures.0 (well_formed_entry (schema_in c.args.self.now))
