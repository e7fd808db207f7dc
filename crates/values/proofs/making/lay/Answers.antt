use Rattle.std.proofs.Common.{ℕ, ◌≡◌, ◌+◌, ◌-◌, length, refl, subst, sym, arith}
use Rattle.std.proofs.lemmas.Slice.{put_mid-paste}
use Rattle.values.specs.Making.{Written}
use Rattle.values.proofs.OneMore.{written}
use Rattle.values.proofs.making.lay.Goals as goal

pub returns : goal.returns
returns c =
    let n : ℕ = length c.args.numbers.now in
    let same : n ≡ c.args.at + n - c.args.at = omega arith in
    subst (λ w. Written c.args.work.now w c.args.at c.args.numbers.now)
    (sym (put_mid-paste c.args.at (c.args.at + n - c.args.at) c.args.work.now c.copy_from_slice.new.self c.args.numbers.now n c.copy_from_slice.ensures.after same refl))
    (written c.args.work.now c.args.at c.args.numbers.now c.requires)
