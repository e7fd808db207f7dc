use Rattle.std.proofs.Common.{Less, Greater, Equal, [], ap, ◌∙◌}
use Rattle.std.proofs.lemmas.Cmp.{ranked}
use Rattle.schema_order.specs.Places.{what}
use Rattle.schema_order.proofs.Codes.{code-shorter, code-longer, code-even, code-as}
use Rattle.schema_order.proofs.texts.less_code.Goals as goal

pub returns-in-Less : goal.returns-in-Less
returns-in-Less c =
    let short = ranked _ _ Less c.in-Less.ensures in
    code-as _ _ _ _ _ (ap (what []) c.text_of-first.ensures) (ap (what []) c.text_of-second.ensures) (code-shorter c.text_of-first.result.now c.text_of-second.result.now short)

pub returns-in-Greater : goal.returns-in-Greater
returns-in-Greater c =
    let long = ranked _ _ Greater c.in-Greater.ensures in
    code-as _ _ _ _ _ (ap (what []) c.text_of-first.ensures) (ap (what []) c.text_of-second.ensures) (code-longer c.text_of-first.result.now c.text_of-second.result.now long)

pub returns-in-Equal : goal.returns-in-Equal
returns-in-Equal c =
    let even = ranked _ _ Equal c.in-Equal.ensures in
    code-as _ _ _ _ _ (ap (what []) c.text_of-first.ensures) (ap (what []) c.text_of-second.ensures) (c.comes_before.ensures ∙ code-even c.text_of-first.result.now c.text_of-second.result.now even)
