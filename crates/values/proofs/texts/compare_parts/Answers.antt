use Rattle.std.specs.Ordering.{nat_cmp}
use Rattle.std.specs.Iterator.Adapters.{map_callee}
use Rattle.std.specs.Cmp.Lexicographic.{slice_cmp}
use Rattle.std.proofs.Common.{◌≡◌, ℕ, ◌+◌, List, get_or, refl, ap, ◌∙◌, ap₂, rules, arith}
use Rattle.std.proofs.lemmas.Iterator.{YieldsList-from_range, YieldsList-from_map}
use Rattle.std.proofs.lemmas.Iterator.Search.{cmp_from_yields_List}
use Rattle.values.specs.Memory.{numbers}
use Rattle.values.proofs.Parts.{part-words}
use Rattle.values.proofs.texts.compare_parts.Goals as goal

pub returns : goal.returns
returns c =
    let m : List ℕ = numbers c.args.memory.now in
    cmp_from_yields_List (λ x y. y ≡ x) _ nat_cmp _ c.cmp.ensures.ran
    (YieldsList-from_map _ (λ i. get_or m i 0) (YieldsList-from_range c.args.p (c.args.p + c.args.n) c.args.n (cc) (omega arith)) refl (λ x r q k. search rules))
    (λ it e. YieldsList-from_map _ (λ i. get_or m i 0) (YieldsList-from_range c.args.q (c.args.q + c.args.k) c.args.k (cc) (omega arith)) (ap map_callee e) (λ x r q k. search rules))
    (λ x y. refl)
    ∙ ap₂ (slice_cmp nat_cmp) (part-words m c.args.p c.args.n c.requires.left) (part-words m c.args.q c.args.k c.requires.right)
