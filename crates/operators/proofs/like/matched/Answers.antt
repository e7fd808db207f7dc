use Rattle.values.specs.Memory.{numbers}
use Rattle.std.proofs.Common.{unwrap_or, IfSome, ap, subst, ℕ, ◌<◌, ◌≤◌, List, length, get_or, sym, ◌∙◌, arith}
use Rattle.values.specs.Held.{text_at}
use Rattle.values.proofs.Parts.{long}
use Rattle.operators.proofs.Patterns.{Going, inside-star, inside-same, going-starts, going-star, going-same, going-back, going-fails, going-ends, falls-on, falls-back}
use Rattle.operators.proofs.like.matched.Goals as goal

pub loop-j-init : goal.loop-j-init
loop-j-init c =
    let m : List ℕ = numbers c.args.memory.now in
    (going-starts (text_at m c.args.p) (text_at m c.args.q), tt)

pub next_step-requires : goal.next_step-requires
next_step-requires c = record { left = c.requires.left; right = c.requires.right; under = omega (arith, c.word-k.ensures) }

pub overflow_add-i : goal.overflow_add-i
overflow_add-i c =
    let m : List ℕ = numbers c.args.memory.now in
    let ps : List ℕ = text_at m c.args.p in
    let ts : List ℕ = text_at m c.args.q in
    omega (arith, inside-star ps c.loop-j.i (get_or ts c.loop-j.j 0) (sym c.in-Star.ensures), long m c.args.p c.requires.left, c.requires.left, c.args.memory.now.small)

pub loop-j-smaller-in-Star : goal.loop-j-smaller-in-Star
loop-j-smaller-in-Star c =
    let m : List ℕ = numbers c.args.memory.now in
    let ps : List ℕ = text_at m c.args.p in
    let ts : List ℕ = text_at m c.args.q in
    let l : c.loop-j.i < get_or m c.args.p 0 = omega (arith, inside-star ps c.loop-j.i (get_or ts c.loop-j.j 0) (sym c.in-Star.ensures), long m c.args.p c.requires.left) in
    falls-on (get_or m c.args.p 0) c.word-k.result c.loop-j.i c.loop-j.tried c.loop-j.j c.loop-j.invariant.0.low l

pub loop-j-preserved-in-Star : goal.loop-j-preserved-in-Star
loop-j-preserved-in-Star c =
    let m : List ℕ = numbers c.args.memory.now in
    let ps : List ℕ = text_at m c.args.p in
    let ts : List ℕ = text_at m c.args.q in
    (going-star ps ts c.loop-j.i c.loop-j.j (unwrap_or c.loop-j.star 0) c.loop-j.tried (get_or ts c.loop-j.j 0) c.loop-j.invariant.0 (sym c.in-Star.ensures), omega arith)

pub overflow_add-i-in-Same : goal.overflow_add-i-in-Same
overflow_add-i-in-Same c =
    let m : List ℕ = numbers c.args.memory.now in
    let ps : List ℕ = text_at m c.args.p in
    let ts : List ℕ = text_at m c.args.q in
    omega (arith, inside-same ps c.loop-j.i (get_or ts c.loop-j.j 0) (sym c.in-Same.ensures), long m c.args.p c.requires.left, c.requires.left, c.args.memory.now.small)

pub loop-j-smaller-in-Same : goal.loop-j-smaller-in-Same
loop-j-smaller-in-Same c =
    let m : List ℕ = numbers c.args.memory.now in
    let ps : List ℕ = text_at m c.args.p in
    let ts : List ℕ = text_at m c.args.q in
    let l : c.loop-j.i < get_or m c.args.p 0 = omega (arith, inside-same ps c.loop-j.i (get_or ts c.loop-j.j 0) (sym c.in-Same.ensures), long m c.args.p c.requires.left) in
    falls-on (get_or m c.args.p 0) c.word-k.result c.loop-j.i c.loop-j.tried c.loop-j.tried (omega arith) l

pub loop-j-preserved-in-Same : goal.loop-j-preserved-in-Same
loop-j-preserved-in-Same c =
    let m : List ℕ = numbers c.args.memory.now in
    let ps : List ℕ = text_at m c.args.p in
    let ts : List ℕ = text_at m c.args.q in
    let u : c.loop-j.j < length ts = omega (arith, c.word-k.ensures, long m c.args.q c.requires.right) in
    (going-same ps ts c.loop-j.i c.loop-j.j (unwrap_or c.loop-j.star 0) c.loop-j.tried c.loop-j.invariant.0 u (sym c.in-Same.ensures), c.loop-j.invariant.1)

pub returns-in_default : goal.returns-in_default
returns-in_default c =
    let m : List ℕ = numbers c.args.memory.now in
    let ps : List ℕ = text_at m c.args.p in
    let ts : List ℕ = text_at m c.args.q in
    let u : c.loop-j.j < length ts = omega (arith, c.word-k.ensures, long m c.args.q c.requires.right) in
    sym (going-fails ps ts c.loop-j.i c.loop-j.j (unwrap_or c.loop-j.star 0) c.loop-j.tried c.loop-j.invariant.0 u (ap (λ o. unwrap_or o 0) c.in_default.is) (sym c.in-Differs.ensures))

pub loop-j-smaller : goal.loop-j-smaller
loop-j-smaller c =
    let m : List ℕ = numbers c.args.memory.now in
    falls-back (get_or m c.args.p 0) c.word-k.result c.loop-j.i c.in-Some.behind c.loop-j.tried (omega (arith, c.loop-j.invariant.0.low))

pub loop-j-preserved : goal.loop-j-preserved
loop-j-preserved c =
    let m : List ℕ = numbers c.args.memory.now in
    let ps : List ℕ = text_at m c.args.p in
    let ts : List ℕ = text_at m c.args.q in
    let u : c.loop-j.j < length ts = omega (arith, c.word-k.ensures, long m c.args.q c.requires.right) in
    let g = subst (λ o. Going ps ts c.loop-j.i c.loop-j.j (unwrap_or o 0) c.loop-j.tried) c.in-Some.is c.loop-j.invariant.0 in
    let l = subst (λ o. IfSome o (λ s. 0 < s)) c.in-Some.is c.loop-j.invariant.1 in
    (going-back ps ts c.loop-j.i c.loop-j.j c.in-Some.behind c.loop-j.tried g u l (sym c.in-Differs.ensures), l)

pub only_stars-requires : goal.only_stars-requires
only_stars-requires c =
    let m : List ℕ = numbers c.args.memory.now in
    record { whole = c.requires.left; within = omega (arith, c.loop-j.invariant.0.within, long m c.args.p c.requires.left) }

pub returns : goal.returns
returns c =
    let m : List ℕ = numbers c.args.memory.now in
    let ps : List ℕ = text_at m c.args.p in
    let ts : List ℕ = text_at m c.args.q in
    let u : length ts ≤ c.loop-j.j = omega (arith, c.word-k.ensures, long m c.args.q c.requires.right) in
    c.only_stars.ensures ∙ sym (going-ends ps ts c.loop-j.i c.loop-j.j (unwrap_or c.loop-j.star 0) c.loop-j.tried c.loop-j.invariant.0 u)
