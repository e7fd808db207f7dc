use Rattle.std.proofs.Common.{refl, ap}
use Rattle.wire.specs.Tags.{authorize_tag}
use Rattle.copy.proofs.WholeCalls.{tag_of, call-there}
use Rattle.copy.proofs.FourParts.{principal-room, action-room, resource-room, context-room, request-written}
use Rattle.copy.proofs.request.Goals as goal

pub node-principal-requires : goal.node-principal-requires
node-principal-requires c =
    record { inside = (call-there c.args.bytes.now authorize_tag (ap tag_of c.requires.is)).some_bytes; flat = refl; room = principal-room c.args.bytes.now c.args.rows.now c.args.to c.requires }

pub node-action-requires-clause-room : goal.node-action-requires-clause-room
node-action-requires-clause-room c = action-room c.args.bytes.now c.args.rows.now c.args.to c.requires _ c.node-principal.result c.node-principal.auto.rows c.node-principal.ensures.reads

pub node-resource-requires-clause-room : goal.node-resource-requires-clause-room
node-resource-requires-clause-room c =
    resource-room c.args.bytes.now c.args.rows.now c.args.to c.requires _ c.node-principal.result c.node-principal.auto.rows c.node-principal.ensures.reads _ c.node-action.result c.node-action.auto.rows c.node-action.ensures.reads

pub attrs-requires : goal.attrs-requires
attrs-requires c =
    context-room c.args.bytes.now c.args.rows.now c.args.to c.requires _ c.node-principal.result c.node-principal.auto.rows c.node-principal.ensures.reads _ c.node-action.result c.node-action.auto.rows c.node-action.ensures.reads
    _ c.node-resource.result c.node-resource.auto.rows c.node-resource.ensures.reads

pub returns : goal.returns
returns c =
    let w = request-written c.args.bytes.now c.args.rows.now c.args.to c.requires _ c.node-principal.result c.node-principal.auto.rows c.node-principal.ensures.reads _ c.node-action.result c.node-action.auto.rows c.node-action.ensures.reads
    _ c.node-resource.result c.node-resource.auto.rows c.node-resource.ensures.reads _ c.attrs.result c.attrs.ensures.reads in
    record { writes = w.0; ends = w.1 }
