use Rattle.std.proofs.Common.{◌≡◌, true, drop, rules, ◌∙◌}
use Rattle.reader.specs.Ends.{ending}
use Rattle.schema_order.specs.Places.{read_many, list_at}
use Rattle.schema_order.proofs.Steps.{always-some, never-none, holds-true}
use Rattle.schema_order.proofs.lists.list_end.Goals as goal

pub unreachable-requires : goal.unreachable-requires
unreachable-requires c =
    never-none (list_at c.args.listed c.args.bytes.now c.args.at) (ending c.args.at (read_many c.args.listed (drop c.args.at c.args.bytes.now)))
    (c.in_default.ensures.is (λ x xs. true) (λ item next b h p. let t : b ≡ true = search rules in t ∙ holds-true _))

pub returns : goal.returns
returns c =
    let e =
    always-some (list_at c.args.listed c.args.bytes.now c.args.at) (ending c.args.at (read_many c.args.listed (drop c.args.at c.args.bytes.now))) c.in-Some.end
    (c.in-Some.ensures.is (λ x xs. true) (λ item next b h p. let t : b ≡ true = search rules in t ∙ holds-true _)) in
    (e, c.in-Some.ensures.within.0, c.in-Some.ensures.within.1)
