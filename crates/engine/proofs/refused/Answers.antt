-- What was scanned says what the definitions answer.
use Rattle.std.proofs.Common.{◌≡◌, sym, rules}
use Rattle.wire.specs.Grammar.{decode}
use Rattle.reader.specs.declared.grammar.CallKind.TheVariants.{SetSchema}
use Rattle.engine.proofs.Stages.{read-as-call, no_call, set-is-schema, well-formed, no-schema}
use Rattle.engine.proofs.refused.Goals as goal

pub returns-in-Err : goal.returns-in-Err
returns-in-Err c = no_call (decode c.args.bytes.now) c.in-Err.place c.in-Err.ensures

pub returns-in-Ok-2 : goal.returns-in-Ok-2
returns-in-Ok-2 c =
    let bs = c.args.bytes.now in
    let set : c.in-Ok.scanned.call ≡ SetSchema = search rules in
    let schema = set-is-schema (decode bs) c.in-Ok.scanned c.in-Ok.ensures set in
    read-as-call (decode bs) c.in-Ok.scanned c.in-Ok.ensures (well-formed (decode bs) schema (sym c.if-not-well_formed.ensures))

pub returns-in-Ok-2-2 : goal.returns-in-Ok-2-2
returns-in-Ok-2-2 c =
    let bs = c.args.bytes.now in
    let other : (c.in-Ok.scanned.call ≡ SetSchema → ⊥) = λ e. let same = rw e at c.if-eq.ensures in search rules in
    read-as-call (decode bs) c.in-Ok.scanned c.in-Ok.ensures (no-schema (decode bs) c.in-Ok.scanned c.in-Ok.ensures other)
