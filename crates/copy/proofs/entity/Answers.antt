use Rattle.std.proofs.Common.{refl, ap}
use Rattle.wire.specs.Tags.{put_entity_tag}
use Rattle.copy.proofs.WholeCalls.{tag_of, call-there}
use Rattle.copy.proofs.FourParts.{uid-room, attributes-room, ancestors-there, tags-room, ancestors-room, entity-written}
use Rattle.copy.proofs.entity.Goals as goal

pub node-uid-requires : goal.node-uid-requires
node-uid-requires c = record { inside = (call-there c.args.bytes.now put_entity_tag (ap tag_of c.requires.is)).some_bytes; flat = refl; room = uid-room c.args.bytes.now c.args.rows.now c.args.to c.requires }

pub attrs-attributes-requires : goal.attrs-attributes-requires
attrs-attributes-requires c = attributes-room c.args.bytes.now c.args.rows.now c.args.to c.requires _ c.node-uid.result c.node-uid.auto.rows c.node-uid.ensures.reads

pub fields_end-end-requires-clause-stands : goal.fields_end-end-requires-clause-stands
fields_end-end-requires-clause-stands c =
    ancestors-there c.args.bytes.now c.args.rows.now c.args.to c.requires _ c.node-uid.result c.node-uid.auto.rows c.node-uid.ensures.reads _ c.attrs-attributes.result c.attrs-attributes.auto.rows c.attrs-attributes.ensures.reads

pub attrs-tags-requires : goal.attrs-tags-requires
attrs-tags-requires c =
    tags-room c.args.bytes.now c.args.rows.now c.args.to c.requires _ c.node-uid.result c.node-uid.auto.rows c.node-uid.ensures.reads _ c.attrs-attributes.result c.attrs-attributes.auto.rows c.attrs-attributes.ensures.reads
    _ c.fields_end-end.ensures.is

pub fields-requires-clause-room : goal.fields-requires-clause-room
fields-requires-clause-room c =
    ancestors-room c.args.bytes.now c.args.rows.now c.args.to c.requires _ c.node-uid.result c.node-uid.auto.rows c.node-uid.ensures.reads _ c.attrs-attributes.result c.attrs-attributes.auto.rows c.attrs-attributes.ensures.reads
    _ c.fields_end-end.ensures.is _ c.attrs-tags.result c.attrs-tags.auto.rows c.attrs-tags.ensures.reads

pub returns : goal.returns
returns c =
    let w = entity-written c.args.bytes.now c.args.rows.now c.args.to c.requires _ c.node-uid.result c.node-uid.auto.rows c.node-uid.ensures.reads _ c.attrs-attributes.result c.attrs-attributes.auto.rows c.attrs-attributes.ensures.reads
    _ c.fields_end-end.ensures.is _ c.attrs-tags.result c.attrs-tags.auto.rows c.attrs-tags.ensures.reads _ c.fields.result c.fields.ensures.reads in
    record { writes = w.0; ends = w.1 }
