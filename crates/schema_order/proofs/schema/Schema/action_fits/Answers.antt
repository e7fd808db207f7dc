use Rattle.std.proofs.Common.{not, ◌&&◌, sym, ap, ◌∙◌}
use Rattle.spec.specs.Basics.{is_some, itself, ascending}
use Rattle.spec.specs.Values.{code_uid}
use Rattle.spec.specs.Types.{find_entity_type}
use Rattle.spec.specs.Validate.{well_formed_action}
use Rattle.schema_order.specs.declared.lists.Listed.TheVariants.{Names, Uids}
use Rattle.schema_order.specs.Places.{list_at}
use Rattle.schema_order.specs.Schemas.{schema_in}
use Rattle.schema_order.proofs.Opened
use Rattle.schema_order.proofs.schema.Schema.action_fits.Goals as goal

pub in_order-first-requires : goal.in_order-first-requires
in_order-first-requires c = (Opened.name-got c.args.self.now.bytes.now c.args.at c.requires, Opened.lists-stand c.args.self.now.bytes.now c.args.at c.requires c.lists_of-lists.result c.lists_of-lists.ensures)

pub all_there-second-requires : goal.all_there-second-requires
all_there-second-requires c = Opened.lists-stand c.args.self.now.bytes.now c.args.at c.requires c.lists_of-lists.result c.lists_of-lists.ensures

pub well_above-requires : goal.well_above-requires
well_above-requires c = (Opened.uid-got c.args.self.now.bytes.now c.args.at c.requires, (Opened.lists-stand c.args.self.now.bytes.now c.args.at c.requires c.lists_of-lists.result c.lists_of-lists.ensures).2)

pub returns : goal.returns
returns c =
    let bs = c.args.self.now.bytes.now in
    let s = schema_in c.args.self.now in
    let l = c.lists_of-lists.result in
    let t = sym (Opened.uid-type bs c.args.at c.requires) in
    let o = ap (λ n. (ascending itself (list_at Names bs l.principals) && ascending itself (list_at Names bs l.resources)) && (ascending code_uid (list_at Uids bs l.above) && not (is_some (find_entity_type n s)))) t in
    Opened.and-two _ _ _ _ (c.in_order-first.ensures ∙ o) (Opened.and-two _ _ _ _ c.all_there-second.ensures c.well_above.ensures) ∙ Opened.action-is c.args.self.now.bytes.now c.args.at c.requires c.lists_of-lists.result c.lists_of-lists.ensures (well_formed_action s)
