use Rattle.std.proofs.Common.{ℕ, List, ap, ◌∙◌}
use Rattle.spec.specs.Basics.{is_empty}
use Rattle.values.specs.Memory.{numbers}
use Rattle.values.specs.Held.{decode, element_at, elements_of, count}
use Rattle.values.proofs.Frame.{set_is}
use Rattle.values.proofs.Finds.{empty-is}
use Rattle.values.proofs.sets.is_empty.Goals as goal

pub returns : goal.returns
returns c h g =
    let m : List ℕ = numbers c.args.memory.now in
    let e = empty-is (λ k. decode h m (element_at m c.args.p k)) (count m c.args.p) ∙ ap (λ v. is_empty (elements_of v)) (set_is m h c.args.p g) in
    cc
