use Rattle.values.specs.Memory.{numbers}
use Rattle.spec.specs.Basics.{lookup}
use Rattle.spec.specs.Values.{fields}
use Rattle.values.specs.Held.{text_at}
use Rattle.entities.specs.Rows.{record_at}
use Rattle.entities.proofs.Asked.{found-taller}
use Rattle.entities.proofs.attributes.stored_attribute.Goals as goal

pub returns : goal.returns
returns c =
    let m = numbers c.args.memory.now in
    found-taller 65 c.args.height m c.attribute.result (lookup (text_at m c.args.key) (fields (record_at m c.args.p))) c.requires.tall c.attribute.ensures
