use Rattle.std.specs.Result.{result_ok}
use Rattle.std.proofs.Common.{◌≡◌, ℕ, Some, None, Ok, Err, Result, IfOk, IfErr, sym, ◌∙◌, subst}
use Rattle.entities.proofs.Names.{row-fits, found_there, not_there}
use Rattle.entities.proofs.lookup.find.Goals as goal

-- what `ok` kept of an answer
if-ok : (P : ℕ → Type 0) (r : Result ℕ ℕ) (k : ℕ) → result_ok r ≡ Some k → IfOk r P → P k
if-ok P (Ok j) k e p = let q : j ≡ k = cc in subst P q p
if-ok P (Err j) k e p = let q : ⊥ = cc in absurd q

if-err : (P : ℕ → Type 0) (r : Result ℕ ℕ) → result_ok r ≡ None → IfErr r P → (k : ℕ) × P k
if-err P (Ok j) e p = let q : ⊥ = cc in absurd q
if-err P (Err j) e p = (j, p)

pub place-requires : goal.place-requires
place-requires c =
    let p = if-ok _ c.binary_search.result c.in_ok-k.k (sym c.ok.ensures.value ∙ c.in_ok-k.was) c.binary_search.ensures.found in
    let f = row-fits c.args.memory.now.store.now c.args.memory.now.work.now c.args.entities c.requires.all c.in_ok-k.k p.0 c.args.memory.now.small in
    record { there = f.0; fits = f.1 }

pub returns-in_err-k : goal.returns-in_err-k
returns-in_err-k c =
    let f = if-err _ c.binary_search.result (sym c.ok.ensures.value ∙ c.in_err-k.was) c.binary_search.ensures.absent in
    rw c.from_residual.ensures (not_there c.args.memory.now.store.now c.args.memory.now.work.now c.args.entities c.requires.all c.args.uid f.0 f.1.0 f.1.2 f.1.1)

pub returns : goal.returns
returns c =
    let p = if-ok _ c.binary_search.result c.in_ok-k.k (sym c.ok.ensures.value ∙ c.in_ok-k.was) c.binary_search.ensures.found in
    found_there c.args.memory.now.store.now c.args.memory.now.work.now c.args.entities c.requires.all c.args.uid c.in_ok-k.k p.0 p.1 c.place.result c.place.ensures
