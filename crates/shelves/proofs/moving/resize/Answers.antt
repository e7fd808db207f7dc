use Rattle.std.proofs.Common.{◌≡◌, ℕ, ◌+◌, ◌-◌, List, ◌++◌, take, drop, sym, ap, ◌∙◌, append_assoc}
use Rattle.std.proofs.lemmas.List.{take-append-drop, drop-drop}
use Rattle.shelves.specs.Moves.{moved}
use Rattle.shelves.proofs.moving.resize.Goals as goal

-- a move by nothing
stays : (m : List ℕ) (at old new used : ℕ) → old ≡ new → m ≡ moved m at old new used
stays m at old new used e =
    let a : ℕ = at + old in
    let n : ℕ = used - a in
    let here : moved m at old old used ≡ m =
    append_assoc (take a m) (take n (drop a m)) (drop (a + n) m) ∙ ap (λ l. take a m ++ (take n (drop a m) ++ l)) (sym (drop-drop n a m)) ∙ ap (λ l. take a m ++ l) (take-append-drop n (drop a m)) ∙ take-append-drop a m in
    sym here ∙ ap (λ k. moved m at old k used) e

pub returns-else-old-new : goal.returns-else-old-new
returns-else-old-new c = stays c.args.memory.now c.args.splice.at c.args.splice.old c.args.splice.new c.args.used c.if-old-new.false
