use Rattle.std.proofs.Common.{◌≡◌, ℕ, ◌+◌, ◌-◌, eqb, List, get_or, refl, ap, ◌∙◌, arith, rules}
use Rattle.std.proofs.lemmas.Iterator.{YieldsList-from_range}
use Rattle.std.proofs.lemmas.Iterator.Search.{all_from_yields_List}
use borrow.Author.Tests.{tests}
use Rattle.values.specs.Memory.{numbers}
use Rattle.operators.proofs.Patterns.{all-stars}
use Rattle.operators.proofs.like.only_stars.Goals as goal

pub returns : goal.returns
returns c =
    let m : List ℕ = numbers c.args.memory.now in
    let p : ℕ = c.args.p in
    let i : ℕ = c.args.from in
    let n : ℕ = get_or m p 0 in
    let e : c.word-n.result ≡ n = c.word-n.ensures in
    all_from_yields_List (λ j. eqb (get_or m (p + 1 + j) 0) 256) _ _ _ c.all.ensures.ran (YieldsList-from_range i n (n - i) (ap (λ k. record { start = i; end = k }) e) refl) (λ x b q k. search (rules, tests)) ∙ all-stars m p i (n - i) c.requires.whole (omega (arith, c.requires.within))
