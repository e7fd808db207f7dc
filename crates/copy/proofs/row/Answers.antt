use Rattle.std.proofs.Common.{length, sym, ap, ◌∙◌, arith}
use Rattle.reader.specs.declared.grammar.CallKind.TheVariants.{PutEntity, Authorize}
use Rattle.copy.specs.Copied.{plain_fields}
use Rattle.copy.specs.Writing.{written}
use Rattle.copy.proofs.Writes.{written_none}
use Rattle.copy.proofs.WholeCalls.{told-there, flat-call, no_row, call-room, call-done}
use Rattle.copy.proofs.row.Goals as goal

pub fields-requires-in-SetSchema : goal.fields-requires-in-SetSchema
fields-requires-in-SetSchema c =
    let k = c.call_kind-call.result in
    let t = told-there c.args.bytes.now k c.requires.call c.call_kind-call.ensures in
    let flat = flat-call k c.in-SetSchema.is in
    record { inside = t.some_bytes; flat = ap plain_fields c.fields.ensures ∙ flat.1; room = call-room c.args.bytes.now _ flat.0 c.args.to _ t c.requires.room _ c.fields.ensures }

pub entity-requires : goal.entity-requires
entity-requires c =
    let t = told-there c.args.bytes.now PutEntity c.requires.call c.in-PutEntity.ensures in
    record { what = t.what; is = t.is; fits = c.requires.room }

pub request-requires : goal.request-requires
request-requires c =
    let t = told-there c.args.bytes.now Authorize c.requires.call c.in-Authorize.ensures in
    record { what = t.what; is = t.is; fits = c.requires.room }

pub returns-in-SetSchema : goal.returns-in-SetSchema
returns-in-SetSchema c =
    let k = c.call_kind-call.result in
    let t = told-there c.args.bytes.now k c.requires.call c.call_kind-call.ensures in
    let flat = flat-call k c.in-SetSchema.is in
    let w = call-done c.args.bytes.now _ flat.0 c.args.to _ t c.requires.room _ c.fields.ensures c.args.rows.now _ c.fields-in-SetSchema.result c.fields-in-SetSchema.ensures.reads in
    record { writes = w.0; ends = w.1 }

pub returns-in-RemovePolicy : goal.returns-in-RemovePolicy
returns-in-RemovePolicy c =
    let k = c.call_kind-call.result in
    let none = no_row c.args.bytes.now k c.in-RemovePolicy.is (told-there c.args.bytes.now k c.requires.call c.call_kind-call.ensures) in
    record { writes = sym (written_none c.args.rows.now c.args.to) ∙ ap (λ zs. written c.args.rows.now c.args.to zs) (sym none); ends = omega (arith, ap length none) }
