use Rattle.std.proofs.Common.{◌+◌, length, sym, ap, ◌∙◌, arith}
use Rattle.rows.specs.Rows.{row_attrs}
use Rattle.copy.specs.Writing.{written}
use Rattle.copy.specs.Placed.{record_row}
use Rattle.copy.proofs.Writes.{wrote, is-after}
use Rattle.copy.proofs.ValueForms.{attrs-there}
use Rattle.copy.proofs.values.attrs.Goals as goal

pub overflow_sub-height : goal.overflow_sub-height
overflow_sub-height c = (attrs-there c.args.bytes.now c.args.from.end c.args.height c.requires.what c.requires.long c.requires.is).high

pub collection-requires : goal.collection-requires
collection-requires c =
    let a = (attrs-there c.args.bytes.now c.args.from.end c.args.height c.requires.what c.requires.long c.requires.is) in
    record { inside = omega (arith, a.inside); room = record { what = a.contents; long = c.requires.long; is = a.reads; fits = omega (arith, c.requires.fits, ap length a.is) } }

pub returns : goal.returns
returns c =
    let a = (attrs-there c.args.bytes.now c.args.from.end c.args.height c.requires.what c.requires.long c.requires.is) in
    let xs = c.args.rows.now in
    let to = c.args.from.to in
    let w = wrote record_row xs c.collection.new.rows to c.args.from.end c.collection.result _ a.contents c.requires.long c.collection.ensures.reads a.reads in
    record {
      reads = is-after row_attrs xs _ to c.args.from.end c.collection.result _ c.requires.what c.requires.long c.requires.is (record { rows = w.rows ∙ ap (λ q. written xs to q) (sym a.is); ends = w.ends; goes = w.goes ∙ ap (λ q. to + length q) (sym a.is) });
      inside = c.collection.ensures.inside;
    }
