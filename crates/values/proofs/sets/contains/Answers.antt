use Rattle.std.proofs.Common.{ℕ, List, sym, ap, ◌∙◌}
use Rattle.spec.specs.Values as s
use Rattle.spec.specs.Evaluate.{is_in}
use Rattle.values.specs.Memory.{numbers}
use Rattle.values.specs.Held.{decode, element_at, elements_of, count}
use Rattle.values.proofs.Frame.{set-in, set_is}
use Rattle.values.proofs.Finds.{in_spot}
use Rattle.values.proofs.sets.contains.Goals as goal

pub seek-requires-clause-whole : goal.seek-requires-clause-whole
seek-requires-clause-whole c = set-in (numbers c.args.memory.now) c.args.height c.args.p c.requires.whole

pub returns : goal.returns
returns c =
    let m : List ℕ = numbers c.args.memory.now in
    let f : ℕ → s.Value = λ j. decode c.args.height m (element_at m c.args.p j) in
    let x : s.Value = decode c.args.height m c.args.v in
    c.is_ok.ensures.value ∙ sym (in_spot f x (count m c.args.p) (set-in m c.args.height c.args.p c.requires.whole).rising c.seek.result c.seek.ensures)
    ∙ ap (λ v. is_in x (elements_of v)) (set_is m c.args.height c.args.p c.requires.whole)
