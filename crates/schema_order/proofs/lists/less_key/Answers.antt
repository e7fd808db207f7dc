use Rattle.std.proofs.Common.{arith}
use Rattle.schema_order.proofs.Items
use Rattle.schema_order.proofs.Parts.{entry-parts, action-parts, attribute-parts}
use Rattle.schema_order.proofs.lists.less_key.Goals as goal

pub less_text-requires : goal.less_text-requires
less_text-requires c = (Items.got-as _ _ _ c.in-Names.is c.requires.0, Items.got-as _ _ _ c.in-Names.is c.requires.1)

pub less_uid-requires : goal.less_uid-requires
less_uid-requires c = (Items.got-as _ _ _ c.in-Uids.is c.requires.0, Items.got-as _ _ _ c.in-Uids.is c.requires.1)

pub less_text-requires-in-Entries : goal.less_text-requires-in-Entries
less_text-requires-in-Entries c = (
  (entry-parts c.args.bytes.now c.args.a (Items.got-as _ _ _ c.in-Entries.is c.requires.0)).name,
  (entry-parts c.args.bytes.now c.args.b (Items.got-as _ _ _ c.in-Entries.is c.requires.1)).name,
)

pub less_uid-requires-in-Actions : goal.less_uid-requires-in-Actions
less_uid-requires-in-Actions c = (
  (action-parts c.args.bytes.now c.args.a (Items.got-as _ _ _ c.in-Actions.is c.requires.0)).uid,
  (action-parts c.args.bytes.now c.args.b (Items.got-as _ _ _ c.in-Actions.is c.requires.1)).uid,
)

pub overflow_add-a : goal.overflow_add-a
overflow_add-a c = omega (arith, Items.attribute-inside c.args.bytes.now c.args.a _ (Items.got-as _ _ _ c.in-Attributes.is c.requires.0))

pub overflow_add-b : goal.overflow_add-b
overflow_add-b c = omega (arith, Items.attribute-inside c.args.bytes.now c.args.b _ (Items.got-as _ _ _ c.in-Attributes.is c.requires.1))

pub less_text-requires-in-Attributes : goal.less_text-requires-in-Attributes
less_text-requires-in-Attributes c = (
  (attribute-parts _ c.args.bytes.now c.args.a (Items.got-as _ _ _ c.in-Attributes.is c.requires.0)).name,
  (attribute-parts _ c.args.bytes.now c.args.b (Items.got-as _ _ _ c.in-Attributes.is c.requires.1)).name,
)

pub returns-in-Names : goal.returns-in-Names
returns-in-Names c = Items.less_as c.args.bytes.now c.args.a c.args.b _ _ _ c.in-Names.is c.less_text.ensures

pub returns-in-Uids : goal.returns-in-Uids
returns-in-Uids c =
    let g = Items.got-as _ _ _ c.in-Uids.is c.requires.0 in
    let h = Items.got-as _ _ _ c.in-Uids.is c.requires.1 in
    Items.less_as c.args.bytes.now c.args.a c.args.b _ _ _ c.in-Uids.is (Items.less_by _ _ _ _ _ (Items.key-uids c.args.bytes.now c.args.a g) (Items.key-uids c.args.bytes.now c.args.b h) c.less_uid.ensures)

pub returns-in-Entries : goal.returns-in-Entries
returns-in-Entries c =
    let g = Items.got-as _ _ _ c.in-Entries.is c.requires.0 in
    let h = Items.got-as _ _ _ c.in-Entries.is c.requires.1 in
    Items.less_as c.args.bytes.now c.args.a c.args.b _ _ _ c.in-Entries.is (Items.less_by _ _ _ _ _ (Items.key-entries c.args.bytes.now c.args.a g) (Items.key-entries c.args.bytes.now c.args.b h) c.less_text-in-Entries.ensures)

pub returns-in-Actions : goal.returns-in-Actions
returns-in-Actions c =
    let g = Items.got-as _ _ _ c.in-Actions.is c.requires.0 in
    let h = Items.got-as _ _ _ c.in-Actions.is c.requires.1 in
    Items.less_as c.args.bytes.now c.args.a c.args.b _ _ _ c.in-Actions.is (Items.less_by _ _ _ _ _ (Items.key-actions c.args.bytes.now c.args.a g) (Items.key-actions c.args.bytes.now c.args.b h) c.less_uid-in-Actions.ensures)

pub returns-in-Attributes : goal.returns-in-Attributes
returns-in-Attributes c =
    let g = Items.got-as _ _ _ c.in-Attributes.is c.requires.0 in
    let h = Items.got-as _ _ _ c.in-Attributes.is c.requires.1 in
    Items.less_as c.args.bytes.now c.args.a c.args.b _ _ _ c.in-Attributes.is
    (Items.less_by _ _ _ _ _ (Items.key-attributes c.args.bytes.now c.args.a _ g) (Items.key-attributes c.args.bytes.now c.args.b _ h) c.less_text-in-Attributes.ensures)
