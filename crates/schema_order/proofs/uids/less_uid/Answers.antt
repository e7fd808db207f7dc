use Rattle.std.proofs.Common.{sym, ◌∙◌}
use Rattle.wire.specs.Read.{read_text}
use Rattle.schema_order.proofs.Parts.{uid-parts}
use Rattle.schema_order.proofs.Items.{got-at}
use Rattle.schema_order.proofs.Codes.{types-decide, ids-decide}
use Rattle.schema_order.proofs.uids.less_uid.Goals as goal

pub same_text-requires : goal.same_text-requires
same_text-requires c = ((uid-parts c.args.bytes.now c.args.a c.requires.0).ty, (uid-parts c.args.bytes.now c.args.b c.requires.1).ty)

pub less_code-requires : goal.less_code-requires
less_code-requires c = ((uid-parts c.args.bytes.now c.args.a c.requires.0).ty, (uid-parts c.args.bytes.now c.args.b c.requires.1).ty)

pub returns-then-not-same_text : goal.returns-then-not-same_text
returns-then-not-same_text c = types-decide c.args.bytes.now c.args.a c.args.b c.requires.0 c.requires.1 _ (sym c.same_text.ensures ∙ c.if-not-same_text.true) c.less_code.ensures

pub text_end-a_id-requires : goal.text_end-a_id-requires
text_end-a_id-requires c = (uid-parts c.args.bytes.now c.args.a c.requires.0).ty

pub text_end-b_id-requires : goal.text_end-b_id-requires
text_end-b_id-requires c = (uid-parts c.args.bytes.now c.args.b c.requires.1).ty

pub less_code-requires-2 : goal.less_code-requires-2
less_code-requires-2 c = (
  got-at read_text c.args.bytes.now _ _ c.text_end-a_id.ensures.is (uid-parts c.args.bytes.now c.args.a c.requires.0).eid,
  got-at read_text c.args.bytes.now _ _ c.text_end-b_id.ensures.is (uid-parts c.args.bytes.now c.args.b c.requires.1).eid,
)

pub returns : goal.returns
returns c =
    ids-decide c.args.bytes.now c.args.a c.args.b c.requires.0 c.requires.1 _ _ _ c.text_end-a_id.ensures.is c.text_end-b_id.ensures.is (sym c.same_text.ensures ∙ c.if-not-same_text.false) c.less_code-2.ensures
