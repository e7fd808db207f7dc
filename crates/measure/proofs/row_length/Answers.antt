use Rattle.std.proofs.Common.{◌≡◌, true, false, sym, ◌∙◌, ⊎_elim}
use Rattle.reader.proofs.Whole.{nothing, no_call}
use Rattle.measure.proofs.Whole.{Removes, no_row, row-bare, row-whole, row-behind, row-err}
use Rattle.measure.proofs.row_length.Goals as goal
use Rattle.measure.proofs.row_length.Goals.{in-RemovePolicy, in_default-matches}

-- no test comes out both ways
both : {X : Type 0} → true ≡ false → X
both e = cc

pub returns-in_default : goal.returns-in_default
returns-in_default c = no_row _ 0 (nothing c.args.bytes.now c.in_default.ensures.value)

pub returns-in_default-try_from : goal.returns-in_default-try_from
returns-in_default-try_from c = no_row _ 0 (no_call c.args.bytes.now _ c.in-Some.ensures.value c.in_default-try_from.ensures)

pub returns-then-matches : goal.returns-then-matches
returns-then-matches c =
    let removes : Removes c.in-Ok.call = elim c.match-matches.branch [ in-RemovePolicy w ↦ w.in-RemovePolicy.is | in_default-matches w ↦ both (sym c.if-matches.true ∙ w.matches-is) ] in
    row-bare c.args.bytes.now _ c.in-Some.ensures.value c.in-Ok.call c.in-Ok.ensures removes

pub returns-then-row-bytes : goal.returns-then-row-bytes
returns-then-row-bytes c = row-whole c.args.bytes.now _ c.in-Some.ensures.value c.in-Ok.call c.in-Ok.ensures _ c.fields.ensures c.in-Ok-fields.row c.in-Ok-fields.ensures.reads c.if-row-bytes.true
    (λ r. elim c.match-matches.branch [ in-RemovePolicy w ↦ both (sym w.matches-is ∙ c.if-matches.false) | in_default-matches w ↦ ⊎_elim w.in_default-matches.not-RemovePolicy w.in_default-matches.not-RemoveEntity r ])

pub returns-else-row-bytes : goal.returns-else-row-bytes
returns-else-row-bytes c = row-behind c.args.bytes.now _ c.in-Some.ensures.value c.in-Ok.call c.in-Ok.ensures _ c.fields.ensures c.in-Ok-fields.row c.in-Ok-fields.ensures.reads c.if-row-bytes.false

pub returns-in_default-fields : goal.returns-in_default-fields
returns-in_default-fields c = row-err c.args.bytes.now _ c.in-Some.ensures.value c.in-Ok.call c.in-Ok.ensures _ c.fields.ensures _ c.in_default-fields.ensures.reads
