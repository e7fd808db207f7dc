use Rattle.std.proofs.Common.{false, sym, ◌∙◌}
use Rattle.wire.specs.Read.{read_text}
use Rattle.schema_order.proofs.Parts.{uid-parts}
use Rattle.schema_order.proofs.Items.{got-at}
use Rattle.schema_order.proofs.Codes.{types-differ, ids-agree}
use Rattle.schema_order.proofs.uids.same_uid.Goals as goal

pub same_text-requires : goal.same_text-requires
same_text-requires c = ((uid-parts c.args.bytes.now c.args.a c.requires.0).ty, (uid-parts c.args.bytes.now c.args.b c.requires.1).ty)

pub returns-then-not-same_text : goal.returns-then-not-same_text
returns-then-not-same_text c = types-differ c.args.bytes.now c.args.a c.args.b c.requires.0 c.requires.1 false (sym c.same_text.ensures ∙ c.if-not-same_text.true)

pub text_end-a_id-requires : goal.text_end-a_id-requires
text_end-a_id-requires c = (uid-parts c.args.bytes.now c.args.a c.requires.0).ty

pub text_end-b_id-requires : goal.text_end-b_id-requires
text_end-b_id-requires c = (uid-parts c.args.bytes.now c.args.b c.requires.1).ty

pub same_text-requires-2 : goal.same_text-requires-2
same_text-requires-2 c = (
  got-at read_text c.args.bytes.now _ _ c.text_end-a_id.ensures.is (uid-parts c.args.bytes.now c.args.a c.requires.0).eid,
  got-at read_text c.args.bytes.now _ _ c.text_end-b_id.ensures.is (uid-parts c.args.bytes.now c.args.b c.requires.1).eid,
)

pub returns : goal.returns
returns c =
    ids-agree c.args.bytes.now c.args.a c.args.b c.requires.0 c.requires.1 _ _ _ c.text_end-a_id.ensures.is c.text_end-b_id.ensures.is (sym c.same_text.ensures ∙ c.if-not-same_text.false) c.same_text-2.ensures
