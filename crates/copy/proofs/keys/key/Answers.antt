use Rattle.std.proofs.Common.{◌+◌, length, sym, refl, ap, ◌∙◌, arith}
use Rattle.spec.specs.Values.{code_text}
use Rattle.wire.specs.Grammar.{uid}
use Rattle.copy.specs.Copied.{row_tree}
use Rattle.copy.specs.Writing.{written}
use Rattle.copy.proofs.Writes.{written_none, wrote}
use Rattle.copy.proofs.Keyed.{id-there, uid-there, no_key}
use Rattle.copy.proofs.WholeCalls.{told-there}
use Rattle.copy.proofs.keys.key.Goals as goal

pub text-requires : goal.text-requires
text-requires c =
    let k = c.call_kind.result in
    let t = id-there c.args.bytes.now k c.in-PutPolicy.is (told-there c.args.bytes.now k c.requires.call c.call_kind.ensures) in
    record { inside = t.some_bytes; room = record { what = t.what; long = t.long; is = t.reads; fits = omega (arith, c.requires.room, ap length t.is) } }

pub node-requires : goal.node-requires
node-requires c =
    let k = c.call_kind.result in
    let t = uid-there c.args.bytes.now k c.in-PutEntity.is (told-there c.args.bytes.now k c.requires.call c.call_kind.ensures) in
    record { inside = t.some_bytes; flat = refl; room = record { what = t.what; long = t.long; is = t.reads; fits = omega (arith, c.requires.room, ap length t.is) } }

pub returns-in-PutPolicy : goal.returns-in-PutPolicy
returns-in-PutPolicy c =
    let k = c.call_kind.result in
    let t = id-there c.args.bytes.now k c.in-PutPolicy.is (told-there c.args.bytes.now k c.requires.call c.call_kind.ensures) in
    let w = wrote code_text c.args.rows.now c.text.new.rows c.args.to 1 c.text.result _ t.what t.long c.text.ensures.reads t.reads in
    record { writes = w.rows ∙ ap (λ zs. written c.args.rows.now c.args.to zs) (sym t.is); ends = w.goes ∙ ap (λ zs. c.args.to + length zs) (sym t.is) }

pub returns-in-PutEntity : goal.returns-in-PutEntity
returns-in-PutEntity c =
    let k = c.call_kind.result in
    let t = uid-there c.args.bytes.now k c.in-PutEntity.is (told-there c.args.bytes.now k c.requires.call c.call_kind.ensures) in
    let w = wrote (row_tree uid) c.args.rows.now c.node.new.rows c.args.to 1 c.node.result _ t.what t.long c.node.ensures.reads t.reads in
    record { writes = w.rows ∙ ap (λ zs. written c.args.rows.now c.args.to zs) (sym t.is); ends = w.goes ∙ ap (λ zs. c.args.to + length zs) (sym t.is) }

pub returns-in-SetSchema : goal.returns-in-SetSchema
returns-in-SetSchema c =
    let k = c.call_kind.result in
    let none = no_key c.args.bytes.now k c.in-SetSchema.is (told-there c.args.bytes.now k c.requires.call c.call_kind.ensures) in
    record { writes = sym (written_none c.args.rows.now c.args.to) ∙ ap (λ zs. written c.args.rows.now c.args.to zs) (sym none); ends = omega (arith, ap length none) }
