use Rattle.std.proofs.Common.{ℕ, List, sym, subst}
use Rattle.values.specs.Memory.{numbers}
use Rattle.values.specs.Held.{Good, element_at}
use Rattle.values.proofs.Frame.{set-in}
use Rattle.values.proofs.Runs.{lies_in}
use Rattle.values.proofs.sets.has_element_of.Goals as goal

pub element_of-requires : goal.element_of-requires
element_of-requires c =
    let m : List ℕ = numbers c.args.memory.now in
    let g = set-in m c.args.height c.args.q c.requires.other in
    record { fits = g.fits; under = c.requires.under; lies = lies_in c.args.height m (element_at m c.args.q c.args.i) c.args.memory.now.small (g.each c.args.i c.requires.under) }

pub contains-requires-clause-value : goal.contains-requires-clause-value
contains-requires-clause-value c =
    let m : List ℕ = numbers c.args.memory.now in
    subst (Good c.args.height m) (sym c.element_of.ensures) ((set-in m c.args.height c.args.q c.requires.other).each c.args.i c.requires.under)
