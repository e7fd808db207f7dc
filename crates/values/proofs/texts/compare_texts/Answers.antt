use Rattle.std.specs.declared.cmp.Ordering.{Ordering}
use Rattle.std.specs.declared.cmp.Ordering.TheVariants.{Less, Equal, Greater}
use Rattle.std.specs.Ordering.{MatchOrdering, ordering_then}
use Rattle.std.proofs.Common.{◌≡◌, ◌∙◌, ap, ap₂, nat_cmp, sym, rules}
use Rattle.values.specs.Memory.{numbers}
use Rattle.values.specs.Order.{order_row}
use Rattle.values.specs.Held.{text_at}
use Rattle.values.proofs.Parts.{lengths}
use Rattle.values.proofs.texts.compare_texts.Goals as goal

then-tells : (o a r : Ordering) (P : Type 0) → MatchOrdering o (r ≡ Less) P (r ≡ Greater) → (P → r ≡ a) → r ≡ ordering_then o a
then-tells Less a r P m f = m
then-tells Equal a r P m f = f m
then-tells Greater a r P m f = m

pub returns : goal.returns
returns c =
    let o = lengths (numbers c.args.memory.now) c.args.p c.args.q c.requires.left c.requires.right in
    let a = order_row (text_at (numbers c.args.memory.now) c.args.p) (text_at (numbers c.args.memory.now) c.args.q) in
    then-tells c.cmp.result a c.then_with.result _ c.then_with.ensures (λ h. search rules)
    ∙ ap (λ u. ordering_then u a) (c.cmp.ensures ∙ ap₂ nat_cmp c.word-n.ensures c.word-k.ensures ∙ sym o)
