use Rattle.values.specs.Memory.{numbers}
use Rattle.std.proofs.Common.{unwrap_or, IfSome, ◌<◌, ℕ, ◌+◌, ◌-◌, ◌*◌, List, get_or}
use Rattle.values.specs.Held.{text_at}
use Rattle.operators.proofs.Patterns.{Going}
use Rattle.operators.proofs.like.matched.Given as goal

abbrev pub invariant-loop-j : goal.invariant-loop-j
invariant-loop-j l =
    let m : List ℕ = numbers l.memory in
    Going (text_at m l.p) (text_at m l.q) l.i l.j (unwrap_or l.star 0) l.tried × IfSome l.star (λ s. 0 < s)

-- first by where the last star was tried, and then by what is left of the pattern
abbrev pub decreases-loop-j : goal.decreases-loop-j
decreases-loop-j l =
    let n : ℕ = get_or (numbers l.memory) l.p 0 in
    (l.k - l.tried) * (n + 1) + (n - l.i)
