use Rattle.std.proofs.Common.{ℕ, List, subst, rules, arith}
use Rattle.spec.specs.Basics.{Text}
use Rattle.values.specs.Memory.{numbers}
use Rattle.values.specs.Order.{order_row}
use Rattle.values.specs.Held.{text_at, name_at}
use Rattle.values.specs.Making.{Spotted}
use Rattle.values.proofs.Rising.{texts, spotted}
use Rattle.values.proofs.records.seek_name.Goals as goal

pub returns : goal.returns
returns c =
    let m : List ℕ = numbers c.args.memory.now in
    let f : ℕ → Text = λ j. text_at m (name_at m c.args.p j) in
    let t : Text = text_at m c.args.key in
    subst (λ n. Spotted (λ j. order_row t (f j)) n c.binary_search.result) c.count_of.ensures
    (spotted order_row texts f c.count_of.result (λ i j l l'. c.requires.whole.rising i j l (omega (arith, c.count_of.ensures))) t
    c.binary_search.result c.binary_search.ensures.found c.binary_search.ensures.absent (λ k l h. search rules) (λ k l h. search rules) (λ k l l' h. search rules))
