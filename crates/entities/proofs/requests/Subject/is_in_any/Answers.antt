use Rattle.values.specs.Memory.{numbers}
use Rattle.std.proofs.Common.{◌≡◌, ℕ, ◌+◌, ◌<◌, Bool, ◌||◌, List, sym, ap, ◌∙◌, subst, arith}
use Rattle.values.specs.Held.{uid_at, count, element_at, Good}
use Rattle.values.proofs.Frame.{set-in}
use Rattle.values.proofs.Runs.{lies_in}
use Rattle.operators.proofs.Operands.{uid-in}
use Rattle.entities.specs.Code.{in_row}
use Rattle.entities.proofs.Ancestry.{Rest, rest_all, rest-next, rest-wrong, rest-none}
use Rattle.entities.proofs.requests.Subject.is_in_any.Goals as goal
use Rattle.entities.proofs.requests.Subject.is_in_any.Goals.{then-found, else-found}

pub count_of-n-requires : goal.count_of-n-requires
count_of-n-requires c =
    let m : List ℕ = numbers c.args.memory.now in
    record { fits = omega (arith, (set-in m c.args.height c.args.p c.requires.whole).fits) }

pub loop-i-init : goal.loop-i-init
loop-i-init c = rest_all (numbers c.args.memory.now) c.args.self.uid c.args.self.row c.args.height c.args.p c.requires.whole

pub element_of-requires : goal.element_of-requires
element_of-requires c =
    let m : List ℕ = numbers c.args.memory.now in
    let g = set-in m c.args.height c.args.p c.requires.whole in
    let l : c.loop-i.i < count m c.args.p = omega (arith, c.count_of-n.ensures) in
    record { fits = g.fits; under = l; lies = lies_in c.args.height m (element_at m c.args.p c.loop-i.i) c.args.memory.now.small (g.each c.loop-i.i l) }

pub returns-in_default : goal.returns-in_default
returns-in_default c =
    let m : List ℕ = numbers c.args.memory.now in
    rest-wrong m c.args.self.uid c.args.self.row c.args.height c.args.p c.requires.whole c.loop-i.found c.loop-i.i c.element_of.result (omega (arith, c.count_of-n.ensures))
    c.element_of.ensures c.in_default.not-Entity c.loop-i.invariant

pub is_in-found-requires-clause-right : goal.is_in-found-requires-clause-right
is_in-found-requires-clause-right c =
    let m : List ℕ = numbers c.args.memory.now in
    let l : c.loop-i.i < count m c.args.p = omega (arith, c.count_of-n.ensures) in
    uid-in c.args.height m c.in-Entity.v (subst (Good c.args.height m) (sym c.in-Entity.ensures) ((set-in m c.args.height c.args.p c.requires.whole).each c.loop-i.i l))

pub loop-i-preserved : goal.loop-i-preserved
loop-i-preserved c =
    let m : List ℕ = numbers c.args.memory.now in
    let x : Bool = in_row m c.args.self.uid c.args.self.row (uid_at m c.in-Entity.v) in
    let e : (c.loop-i.found || x) ≡ c.if-found.found = elim c.if-found.branch [
      | then-found w ↦ ap (λ b. b || x) w.if-found.true ∙ sym (w.found-is ∙ w.if-found.true)
      | else-found w ↦ ap (λ b. b || x) w.if-found.false ∙ sym (w.found-is ∙ w.is_in-found.ensures)
    ] in
    subst (λ b. Rest m c.args.self.uid c.args.self.row c.args.height c.args.p b (c.loop-i.i + 1)) e
    (rest-next m c.args.self.uid c.args.self.row c.args.height c.args.p c.requires.whole c.loop-i.found c.loop-i.i c.in-Entity.v (omega (arith, c.count_of-n.ensures)) c.in-Entity.ensures c.loop-i.invariant)

pub returns : goal.returns
returns c =
    let m : List ℕ = numbers c.args.memory.now in
    rest-none m c.args.self.uid c.args.self.row c.args.height c.args.p c.loop-i.found c.loop-i.i (omega (arith, c.count_of-n.ensures, c.loop-i.auto.i-end)) c.loop-i.invariant
