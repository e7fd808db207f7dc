use Rattle.values.specs.Memory.{numbers}
use Rattle.std.proofs.Common.{ℕ, ◌≤◌, List, length, get_or, sym, ap, ◌∙◌, arith}
use Rattle.std.proofs.lemmas.List.{drop_all}
use Rattle.values.specs.Held.{text_at}
use Rattle.values.proofs.Parts.{long}
use Rattle.operators.specs.Patterns.{step_at}
use Rattle.operators.proofs.Patterns.{step_is}
use Rattle.operators.proofs.like.next_step.Goals as goal

pub returns-then-i-word : goal.returns-then-i-word
returns-then-i-word c =
    let m : List ℕ = numbers c.args.memory.now in
    let ps : List ℕ = text_at m c.args.p in
    let u : length ps ≤ c.args.i = omega (arith, c.word.ensures, long m c.args.p c.requires.left) in
    sym (ap (λ qs. step_at qs (get_or (text_at m c.args.q) c.args.j 0)) (drop_all c.args.i ps u))

pub returns : goal.returns
returns c =
    let m : List ℕ = numbers c.args.memory.now in
    c.meet.ensures ∙ step_is m c.args.p c.args.q c.args.i c.args.j c.word-2.result c.word-3.result c.requires.left (omega (arith, c.word.ensures)) c.requires.under c.word-2.ensures c.word-3.ensures
