use Rattle.std.proofs.Common.{◌≡◌, ℕ, List, true, false, ap, ◌∙◌, rules, arith}
use Rattle.std.proofs.lemmas.Iterator.{YieldsList-from_range, cases_from_any}
use Rattle.spec.specs.Basics.{any}
use Rattle.spec.specs.Values as s
use Rattle.spec.specs.Evaluate.{is_in}
use Rattle.values.specs.Memory.{numbers}
use Rattle.values.specs.Held.{decode, element_at, elements_of, count}
use Rattle.values.specs.declared.nodes.Value.TheVariants.{Set}
use Rattle.values.proofs.Frame.{set-in, set_is}
use Rattle.values.proofs.Finds.{any-told}
use Rattle.values.proofs.sets.contains_any.Goals as goal

pub count_of-requires : goal.count_of-requires
count_of-requires c = omega (arith, (set-in (numbers c.args.memory.now) c.args.height c.args.p c.requires.whole).fits)

pub returns : goal.returns
returns c =
    let m : List ℕ = numbers c.args.memory.now in
    let f : ℕ → s.Value = λ j. decode c.args.height m (element_at m c.args.p j) in
    let ws : List s.Value = elements_of (decode c.args.height m (Set c.args.q)) in
    any-told (λ x. is_in x ws) f (count m c.args.p) c.any.result
    (cases_from_any _ _ _ (λ j. is_in (f j) ws ≡ true) (λ j. is_in (f j) ws ≡ false) c.any.ensures.ran (YieldsList-from_range 0 (count m c.args.p) (count m c.args.p) (cc) (omega arith)) (λ x q k. search rules) (λ x q k. search rules))
    ∙ ap (λ v. any (λ x. is_in x ws) (elements_of v)) (set_is m c.args.height c.args.p c.requires.whole)
