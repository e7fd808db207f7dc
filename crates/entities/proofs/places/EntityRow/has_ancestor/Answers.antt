use Rattle.values.specs.Memory.{numbers}
use Rattle.std.proofs.Common.{◌≡◌, ℕ, ◌+◌, Bool, List, get_or, sym, ap, ◌∙◌, subst, rules}
use Rattle.spec.specs.Basics.{any}
use Rattle.spec.specs.Values.{EntityUID, same_uid}
use Rattle.values.specs.Held.{uid_at}
use Rattle.entities.specs.Rows.{uids_at, UIDsIn, ancestors_place}
use Rattle.entities.proofs.places.EntityRow.has_ancestor.Goals as goal

whole : (m : List ℕ) (row at n : ℕ) → at ≡ ancestors_place m row → n ≡ get_or m at 0 → UIDsIn m (ancestors_place m row + 1) (get_or m (ancestors_place m row) 0) → UIDsIn m (at + 1) n
whole m row at n e g h = subst (λ k. UIDsIn m (at + 1) k) (sym g) (subst (λ p. UIDsIn m (p + 1) (get_or m p 0)) (sym e) h)

pub any_name-requires : goal.any_name-requires
any_name-requires c =
    record {
      names = whole (numbers c.args.self.now.memory) c.args.self.now.at c.ancestors-at.result c.word-n.result c.ancestors-at.ensures c.word-n.ensures c.args.self.now.holds.ancestors;
      test = λ p l. search rules;
    }

pub returns : goal.returns
returns c =
    let m : List ℕ = numbers c.args.self.now.memory in
    let f : EntityUID → Bool = same_uid (uid_at m c.args.v) in
    c.any_name.ensures f (λ p b l q. search rules)
    ∙ ap (λ n. any f (uids_at m (c.ancestors-at.result + 1) n)) c.word-n.ensures
    ∙ ap (λ a. any f (uids_at m (a + 1) (get_or m a 0))) c.ancestors-at.ensures
