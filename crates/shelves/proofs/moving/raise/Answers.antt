use Rattle.std.proofs.Common.{◌≡◌, ℕ, suc, ◌+◌, ◌-◌, ◌<◌, ◌≤◌, List, [], ◌∷◌, ◌++◌, map, length, get_or, take, drop, refl, ap, ◌∙◌, ap₂, arith, rules}
use Rattle.std.proofs.lemmas.List.{get_or-append_right, get_or-drop, length-map, length-take-le, take_all, drop_all, append-nil, get_or_default}
use Rattle.std.proofs.lemmas.List.Edits.{map_over_more}
use Rattle.shelves.specs.Moves.{raised}
use Rattle.shelves.proofs.moving.raise.Goals as goal

-- what stands where the loop is, is as it was
still : (xs ys : List ℕ) (f : ℕ → ℕ) (i : ℕ) → i < length xs → ys ≡ map f (take i xs) ++ drop i xs → get_or ys i 0 ≡ get_or xs i 0
still xs ys f i h e =
    ap (λ l. get_or l i 0) e ∙ get_or-append_right (map f (take i xs)) (drop i xs) i i 0 (length-map (take i xs) f ∙ length-take-le i xs (omega arith)) (omega arith)
    ∙ get_or-drop i xs (i - i) 0 ∙ ap (λ k. get_or xs k 0) (omega arith)

-- to lose and gain the same is to stay
stays : (xs : List ℕ) (old new : ℕ) → old ≡ new → ((k : ℕ) → k < length xs → old ≤ get_or xs k 0) → xs ≡ raised old new xs
stays [] old new e h = refl
stays (x ∷ xs) old new e h =
    let a : x ≡ x - old + new = omega (arith, h 0 (omega arith)) in
    ap₂ ◌∷◌ a (stays xs old new e (λ k l. h (suc k) (omega arith)))

pub returns-then-old-new : goal.returns-then-old-new
returns-then-old-new c = stays c.args.part.now c.args.old c.args.new c.if-old-new.true (λ k h. (c.requires k h).0)

pub loop-x-init : goal.loop-x-init
loop-x-init c = refl

pub overflow_sub-x : goal.overflow_sub-x
overflow_sub-x c =
    let h : c.loop-x.x-index < length c.args.part.now = search rules in
    let e = still c.args.part.now c.loop-x.part (λ x. x - c.args.old + c.args.new) c.loop-x.x-index h c.loop-x.invariant in
    omega (arith, c.requires c.loop-x.x-index h)

pub overflow_add-x : goal.overflow_add-x
overflow_add-x c =
    let h : c.loop-x.x-index < length c.args.part.now = search rules in
    let e = still c.args.part.now c.loop-x.part (λ x. x - c.args.old + c.args.new) c.loop-x.x-index h c.loop-x.invariant in
    let b = c.requires c.loop-x.x-index h in
    search rules

pub loop-x-preserved : goal.loop-x-preserved
loop-x-preserved c =
    let h : c.loop-x.x-index < length c.args.part.now = search rules in
    map_over_more (λ x. x - c.args.old + c.args.new) c.args.part.now c.loop-x.part c.loop-x.x-index _ h c.loop-x.invariant (get_or_default c.loop-x.part c.loop-x.x-index _ _ (omega arith))

ended : (xs ys : List ℕ) (f : ℕ → ℕ) (i : ℕ) → length xs ≤ i → ys ≡ map f (take i xs) ++ drop i xs → ys ≡ map f xs
ended xs ys f i h e = rw (take_all i xs h, drop_all i xs h, append-nil) at e

pub returns : goal.returns
returns c = ended c.args.part.now c.loop-x.part (λ x. x - c.args.old + c.args.new) c.loop-x.x-index c.loop-x-test.false c.loop-x.invariant
