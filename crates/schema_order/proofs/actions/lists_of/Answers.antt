use Rattle.schema_order.specs.declared.lists.Listed.TheVariants.{Names, Uids}
use Rattle.schema_order.specs.Places.{read_many, principals_at, resources_at, over_at}
use Rattle.schema_order.proofs.Parts.{action-parts}
use Rattle.schema_order.proofs.Items.{got-at, end-at}
use Rattle.schema_order.proofs.Opened.{uid-got, action-inside}
use Rattle.schema_order.proofs.actions.lists_of.Goals as goal

pub item_end-principals-requires : goal.item_end-principals-requires
item_end-principals-requires c = (action-inside c.args.bytes.now c.args.at c.requires, uid-got c.args.bytes.now c.args.at c.requires)

pub list_end-resources-requires : goal.list_end-resources-requires
list_end-resources-requires c = got-at (read_many Names) c.args.bytes.now _ _ c.item_end-principals.ensures.0 (action-parts c.args.bytes.now c.args.at c.requires).principals

pub list_end-above-requires : goal.list_end-above-requires
list_end-above-requires c =
    let q = end-at (read_many Names) c.args.bytes.now _ (principals_at c.args.bytes.now c.args.at) _ c.item_end-principals.ensures.0 c.list_end-resources.ensures.0 in
    got-at (read_many Names) c.args.bytes.now _ _ q (action-parts c.args.bytes.now c.args.at c.requires).resources

pub list_end-context-requires : goal.list_end-context-requires
list_end-context-requires c =
    let q = end-at (read_many Names) c.args.bytes.now _ (principals_at c.args.bytes.now c.args.at) _ c.item_end-principals.ensures.0 c.list_end-resources.ensures.0 in
    let r = end-at (read_many Names) c.args.bytes.now _ (resources_at c.args.bytes.now c.args.at) _ q c.list_end-above.ensures.0 in
    got-at (read_many Uids) c.args.bytes.now _ _ r (action-parts c.args.bytes.now c.args.at c.requires).above

pub returns : goal.returns
returns c =
    let q = end-at (read_many Names) c.args.bytes.now _ (principals_at c.args.bytes.now c.args.at) _ c.item_end-principals.ensures.0 c.list_end-resources.ensures.0 in
    let r = end-at (read_many Names) c.args.bytes.now _ (resources_at c.args.bytes.now c.args.at) _ q c.list_end-above.ensures.0 in
    (c.item_end-principals.ensures.0, q, r, end-at (read_many Uids) c.args.bytes.now _ (over_at c.args.bytes.now c.args.at) _ r c.list_end-context.ensures.0)
