use Rattle.std.proofs.Common.{◌≡◌, ◌≢◌, ℕ, ◌+◌, ◌*◌, ◌<◌, ◌++◌, length, get_or, drop, set, sym, ap, ◌∙◌, get_or-set_other, get_or-set_same, below_more, arith}
use Rattle.std.proofs.lemmas.List.{length-append, length-drop, drop-drop, drop_at, get_or-drop, get_or_append_left}
use Rattle.copy.proofs.leaves.widen_pairs.Goals as goal

pub loop-i-init : goal.loop-i-init
loop-i-init c =
    let e = c.into_iter-i-iterator.ensures.into_iter_gives in
    let none : c.into_iter-i-iterator.result.count ≡ 0 = ap (λ s. s.count) e ∙ c.enumerate-i-items.ensures.count in
    let source = ap (λ s. s.iter) e ∙ c.enumerate-i-items.ensures.source in (
      ap (λ s. s.size) source ∙ c.chunks_exact.ensures.size,
      ap (λ s. s.rest.now) source ∙ c.chunks_exact.ensures.rest ∙ ap (λ n. drop (2 * n) c.args.bytes.now) (sym none),
      λ i h. absurd (omega arith),
    )

pub loop-i-preserved : goal.loop-i-preserved
loop-i-preserved c =
    let v = c.loop-i.invariant in
    let e = c.in-Some.ensures.steps in
    let n = c.loop-i.i-iterator.count in
    let bs = c.args.bytes.now in
    let pair = c.in-Some.pair.now in
    let rest = c.next.new.self.iter.rest.now in
    let two : length pair ≡ 2 = e.0.1.1 ∙ v.0 in
    let cut : drop (2 * n) bs ≡ pair ++ rest = sym v.1 ∙ e.0.1.0 in
    let there : n < length c.loop-i.rows = omega (arith, two, ap length cut, length-append pair rest, length-drop (2 * n) bs, c.requires, c.loop-i.auto.rows) in
    let byte = λ (k j : ℕ) (h : k < 2) (q : j ≡ 2 * n + k).
    (let l : k < length pair = omega arith in sym (get_or_append_left pair rest 0 k l) ∙ ap (λ xs. get_or xs k 0) (sym cut) ∙ get_or-drop (2 * n) bs k 0 ∙ ap (λ m. get_or bs m 0) (sym q)) in
    let more = below_more (λ i. get_or (set c.loop-i.rows n c.from.result) i 0 ≡ get_or bs (2 * i) 0 * 256 + get_or bs (2 * i + 1) 0) n
    (λ i h. let ne : i ≢ n = omega arith in rw get_or-set_other (v.2 i h))
    (rw get_or-set_same (omega (arith, c.from.ensures, c.from_be_bytes.ensures, byte 0 (2 * n) (omega arith) (omega arith), byte 1 (2 * n + 1) (omega arith) (omega arith)))) in (
      e.0.0 ∙ v.0,
      sym (drop_at pair rest 2 two) ∙ ap (λ xs. drop 2 xs) (sym cut) ∙ drop-drop 2 (2 * n) bs ∙ ap (λ m. drop m bs) (omega (arith, e.2)),
      λ i h. ap (λ m. get_or (set c.loop-i.rows m c.from.result) i 0) e.1 ∙ more i (omega (arith, e.2)),
    )

pub returns : goal.returns
returns c i h =
    let v = c.loop-i.invariant in
    let e = c.in-None.ensures.steps in
    v.2 i (omega (arith, e.0.1.0, v.0, ap length v.1, length-drop (2 * c.loop-i.i-iterator.count) c.args.bytes.now, c.requires, c.loop-i.auto.rows))
