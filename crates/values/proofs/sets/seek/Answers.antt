use Rattle.std.proofs.Common.{ℕ, List, subst, rules, arith}
use Rattle.spec.specs.Values as s
use Rattle.values.specs.Memory.{numbers}
use Rattle.values.specs.Order.{order_value}
use Rattle.values.specs.Held.{decode, element_at}
use Rattle.values.specs.Making.{Spotted}
use Rattle.values.proofs.Rising.{values, spotted}
use Rattle.values.proofs.sets.seek.Goals as goal

pub returns : goal.returns
returns c =
    let m : List ℕ = numbers c.args.memory.now in
    let f : ℕ → s.Value = λ j. decode c.args.height m (element_at m c.args.p j) in
    let v : s.Value = decode c.args.height m c.args.v in
    subst (λ n. Spotted (λ j. order_value v (f j)) n c.binary_search.result) c.count_of.ensures
    (spotted order_value values f c.count_of.result (λ i j l l'. c.requires.whole.rising i j l (omega (arith, c.count_of.ensures))) v
    c.binary_search.result c.binary_search.ensures.found c.binary_search.ensures.absent (λ k l h. search rules) (λ k l h. search rules) (λ k l l' h. search rules))
