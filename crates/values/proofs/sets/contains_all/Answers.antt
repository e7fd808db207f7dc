use Rattle.std.proofs.Common.{◌≡◌, ℕ, List, true, false, ap, ◌∙◌, rules, arith}
use Rattle.std.proofs.lemmas.Iterator.{YieldsList-from_range, cases_from_all}
use Rattle.spec.specs.Basics.{all}
use Rattle.spec.specs.Values as s
use Rattle.spec.specs.Evaluate.{is_in}
use Rattle.values.specs.Memory.{numbers}
use Rattle.values.specs.Held.{decode, element_at, elements_of, count}
use Rattle.values.specs.declared.nodes.Value.TheVariants.{Set}
use Rattle.values.proofs.Frame.{set-in, set_is}
use Rattle.values.proofs.Finds.{all-told}
use Rattle.values.proofs.sets.contains_all.Goals as goal

pub count_of-requires : goal.count_of-requires
count_of-requires c = omega (arith, (set-in (numbers c.args.memory.now) c.args.height c.args.q c.requires.other).fits)

pub returns : goal.returns
returns c =
    let m : List ℕ = numbers c.args.memory.now in
    let f : ℕ → s.Value = λ j. decode c.args.height m (element_at m c.args.q j) in
    let ws : List s.Value = elements_of (decode c.args.height m (Set c.args.p)) in
    all-told (λ x. is_in x ws) f (count m c.args.q) c.all.result
    (cases_from_all _ _ _ (λ j. is_in (f j) ws ≡ true) (λ j. is_in (f j) ws ≡ false) c.all.ensures.ran (YieldsList-from_range 0 (count m c.args.q) (count m c.args.q) (cc) (omega arith)) (λ x q k. search rules) (λ x q k. search rules))
    ∙ ap (λ v. all (λ x. is_in x ws) (elements_of v)) (set_is m c.args.height c.args.q c.requires.other)
