use Rattle.std.proofs.Common.{refl, arith}
use Rattle.schema_order.specs.Places.{text_at}
use Rattle.schema_order.proofs.Items
use Rattle.schema_order.proofs.Parts.{entry-parts, action-parts, attribute-parts}
use Rattle.schema_order.proofs.lists.same_key.Goals as goal

pub same_text-requires : goal.same_text-requires
same_text-requires c = (Items.plain-as _ _ _ c.in-Names.is c.requires.0, Items.got-as _ _ _ c.in-Names.is c.requires.1)

pub same_uid-requires : goal.same_uid-requires
same_uid-requires c = (Items.plain-as _ _ _ c.in-Uids.is c.requires.0, Items.got-as _ _ _ c.in-Uids.is c.requires.1)

pub same_text-requires-in-Entries : goal.same_text-requires-in-Entries
same_text-requires-in-Entries c = (
  Items.plain-as _ _ _ c.in-Entries.is c.requires.0,
  (entry-parts c.args.bytes.now c.args.item (Items.got-as _ _ _ c.in-Entries.is c.requires.1)).name,
)

pub same_uid-requires-in-Actions : goal.same_uid-requires-in-Actions
same_uid-requires-in-Actions c = (
  Items.plain-as _ _ _ c.in-Actions.is c.requires.0,
  (action-parts c.args.bytes.now c.args.item (Items.got-as _ _ _ c.in-Actions.is c.requires.1)).uid,
)

pub overflow_add-item : goal.overflow_add-item
overflow_add-item c = omega (arith, Items.attribute-inside c.args.bytes.now c.args.item _ (Items.got-as _ _ _ c.in-Attributes.is c.requires.1))

pub same_text-requires-in-Attributes : goal.same_text-requires-in-Attributes
same_text-requires-in-Attributes c = (
  Items.plain-as _ _ _ c.in-Attributes.is c.requires.0,
  (attribute-parts _ c.args.bytes.now c.args.item (Items.got-as _ _ _ c.in-Attributes.is c.requires.1)).name,
)

pub returns-in-Names : goal.returns-in-Names
returns-in-Names c = Items.same-as c.args.bytes.now c.args.place c.args.item _ _ _ c.in-Names.is c.same_text.ensures

pub returns-in-Uids : goal.returns-in-Uids
returns-in-Uids c =
    let g = Items.plain-as _ _ _ c.in-Uids.is c.requires.0 in
    let h = Items.got-as _ _ _ c.in-Uids.is c.requires.1 in
    Items.same-as c.args.bytes.now c.args.place c.args.item _ _ _ c.in-Uids.is (Items.same_by _ _ _ _ _ (Items.key-uids c.args.bytes.now c.args.place g) (Items.key-uids c.args.bytes.now c.args.item h) c.same_uid.ensures)

pub returns-in-Entries : goal.returns-in-Entries
returns-in-Entries c =
    let g = Items.plain-as _ _ _ c.in-Entries.is c.requires.0 in
    let h = Items.got-as _ _ _ c.in-Entries.is c.requires.1 in
    Items.same-as c.args.bytes.now c.args.place c.args.item _ _ _ c.in-Entries.is (Items.same_by (text_at c.args.bytes.now c.args.place) _ _ _ _ refl (Items.key-entries c.args.bytes.now c.args.item h) c.same_text-in-Entries.ensures)

pub returns-in-Actions : goal.returns-in-Actions
returns-in-Actions c =
    let g = Items.plain-as _ _ _ c.in-Actions.is c.requires.0 in
    let h = Items.got-as _ _ _ c.in-Actions.is c.requires.1 in
    Items.same-as c.args.bytes.now c.args.place c.args.item _ _ _ c.in-Actions.is (Items.same_by _ _ _ _ _ (Items.key-uids c.args.bytes.now c.args.place g) (Items.key-actions c.args.bytes.now c.args.item h) c.same_uid-in-Actions.ensures)

pub returns-in-Attributes : goal.returns-in-Attributes
returns-in-Attributes c =
    let g = Items.plain-as _ _ _ c.in-Attributes.is c.requires.0 in
    let h = Items.got-as _ _ _ c.in-Attributes.is c.requires.1 in
    Items.same-as c.args.bytes.now c.args.place c.args.item _ _ _ c.in-Attributes.is
    (Items.same_by (text_at c.args.bytes.now c.args.place) _ _ _ _ refl (Items.key-attributes c.args.bytes.now c.args.item _ h) c.same_text-in-Attributes.ensures)
