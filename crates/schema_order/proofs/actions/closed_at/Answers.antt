use Rattle.std.proofs.Common.{true, cond, sym, ap, ◌∙◌}
use Rattle.spec.specs.Validate.{all_in}
use Rattle.schema_order.specs.declared.lists.Listed.TheVariants.{Uids}
use Rattle.schema_order.specs.Places.{list_at}
use Rattle.schema_order.proofs.Opened
use Rattle.schema_order.proofs.actions.closed_at.Goals as goal

pub has_uid-requires : goal.has_uid-requires
has_uid-requires c = (Opened.uid-got c.args.bytes.now c.args.at c.requires.0, c.requires.1)

pub returns-then-not-has_uid : goal.returns-then-not-has_uid
returns-then-not-has_uid c = Opened.not-above c.args.bytes.now c.args.at c.requires.0 _ (sym c.has_uid.ensures ∙ c.if-not-has_uid.true)

pub all_among-requires : goal.all_among-requires
all_among-requires c = ((Opened.lists-stand c.args.bytes.now c.args.at c.requires.0 c.lists_of-lists.result c.lists_of-lists.ensures).2, c.requires.1)

pub returns : goal.returns
returns c =
    let us = list_at Uids c.args.bytes.now c.args.above in
    c.all_among.ensures ∙ ap (λ b. cond b (all_in (list_at Uids c.args.bytes.now c.lists_of-lists.result.above) us) true) (sym (sym c.has_uid.ensures ∙ c.if-not-has_uid.false))
    ∙ Opened.closed_is c.args.bytes.now c.args.at c.requires.0 c.lists_of-lists.result c.lists_of-lists.ensures us
