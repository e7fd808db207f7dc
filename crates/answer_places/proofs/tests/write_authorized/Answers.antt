-- Both ids lie in the memory.
use Rattle.std.proofs.Common.{◌≡◌, ℕ, ◌+◌, ◌≤◌, List, length, get_or, refl, subst, arith, lit≤}
use Rattle.answer_places.specs.Code.{IdIn, IdsIn}
use Rattle.answer_places.proofs.tests.write_authorized.Goals as goal

one : {m : List ℕ} {p : ℕ} → p + 1 ≤ length m → IdIn m (get_or m (p + 0) 0) → IdsIn m (record { from = p; count = 1 })
one {m} {p} h i = record { fits = h; each = λ k l. let e : 0 ≡ k = omega arith in subst (λ k. IdIn m (get_or m (p + k) 0)) e i }

pub write-requires : goal.write-requires
write-requires c =
    record {
      reasons = one (lit≤ tt) (record { within = lit≤ tt; bytes = refl });
      errors = one (lit≤ tt) (record { within = lit≤ tt; bytes = refl });
    }
