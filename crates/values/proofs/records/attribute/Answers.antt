use Rattle.std.proofs.Common.{ℕ, List, sym, ap, ◌∙◌, subst}
use mathlib.Core.Option.{some}
use Rattle.spec.specs.Basics.{Text, lookup}
use Rattle.values.specs.Memory.{numbers}
use Rattle.values.specs.Order.{order_row}
use Rattle.values.specs.Held.{Found, Good, decode, attr_at, name_at, text_at, fields_of, count}
use Rattle.values.specs.declared.nodes.Value.TheVariants.{Record}
use Rattle.values.proofs.Frame.{record-in, record_is}
use Rattle.values.proofs.Runs.{lies_in}
use Rattle.values.proofs.Finds.{find-there, find-new, spot-told, no-spot-told}
use Rattle.values.proofs.records.attribute.Goals as goal

pub seek_name-requires-clause-whole : goal.seek_name-requires-clause-whole
seek_name-requires-clause-whole c = record-in (numbers c.args.memory.now) c.args.height c.args.p c.requires.whole

pub attr_of-requires-clause-lies : goal.attr_of-requires-clause-lies
attr_of-requires-clause-lies c =
    let m : List ℕ = numbers c.args.memory.now in
    let g = record-in m c.args.height c.args.p c.requires.whole in
    let s = spot-told (λ j. order_row (text_at m c.args.key) (text_at m (name_at m c.args.p j))) (count m c.args.p) c.seek_name.result c.in_ok-k.k (sym c.in_ok-k.was ∙ c.ok.ensures.value) c.seek_name.ensures in
    lies_in c.args.height m (attr_at m c.args.p c.in_ok-k.k) c.args.memory.now.small (g.each c.in_ok-k.k s.0)

pub returns-in_err-k : goal.returns-in_err-k
returns-in_err-k c =
    let m : List ℕ = numbers c.args.memory.now in
    let t : Text = text_at m c.args.key in
    let g = record-in m c.args.height c.args.p c.requires.whole in
    let s = no-spot-told (λ j. order_row t (text_at m (name_at m c.args.p j))) (count m c.args.p) c.seek_name.result (sym c.in_err-k.was ∙ c.ok.ensures.value) c.seek_name.ensures in
    subst (λ o. Found c.args.height m o (lookup t (fields_of (decode c.args.height m (Record c.args.p))))) (sym c.from_residual.ensures)
    (sym (ap (λ v. lookup t (fields_of v)) (record_is m c.args.height c.args.p c.requires.whole))
    ∙ find-new (λ j. text_at m (name_at m c.args.p j)) (λ j. decode c.args.height m (attr_at m c.args.p j)) t (count m c.args.p) s.0 g.rising s.1)

pub returns : goal.returns
returns c =
    let m : List ℕ = numbers c.args.memory.now in
    let t : Text = text_at m c.args.key in
    let g = record-in m c.args.height c.args.p c.requires.whole in
    let s = spot-told (λ j. order_row (text_at m c.args.key) (text_at m (name_at m c.args.p j))) (count m c.args.p) c.seek_name.result c.in_ok-k.k (sym c.in_ok-k.was ∙ c.ok.ensures.value) c.seek_name.ensures in (
      sym (ap (λ v. lookup t (fields_of v)) (record_is m c.args.height c.args.p c.requires.whole))
          ∙ find-there (λ j. text_at m (name_at m c.args.p j)) (λ j. decode c.args.height m (attr_at m c.args.p j)) t (count m c.args.p) c.in_ok-k.k s
          ∙ ap (λ v. some (decode c.args.height m v)) (sym c.attr_of.ensures),
      subst (Good c.args.height m) (sym c.attr_of.ensures) (g.each c.in_ok-k.k s.0),
    )
