-- That the row of a policy means the policy that it was made from.
use Rattle.std.specs.Prelude.{◌≡◌, ℕ, ◌*◌, ◌≤◌, true, List, length}
use Rattle.spec.specs.Policies as s
use Rattle.spec.specs.Calls.{put_policy, encodable, size_policy}
use Rattle.rows.specs.Rows.{row_policy}
use Rattle.values.specs.Stored.{LiesAt}
use Rattle.policies.specs.Stored.{policy_at, condition_sizes, PolicyIn}

-- a policy at a place; what its conditions ask of the work memory is bounded by its size, and by the length of its row
pub record PolicyMeant (m : List ℕ) (p : ℕ) (x : s.Policy) : Type 0 where
  pub good : PolicyIn m p
  pub is : policy_at m p ≡ x
  pub few : condition_sizes m p ≤ 3 * size_policy x
  pub short : condition_sizes m p ≤ length (row_policy x)

-- one that a call can carry, whose row lies anywhere in a memory
abbrev pub PolicyRowsMean : Type 0
PolicyRowsMean = (x : s.Policy) (m : List ℕ) (p : ℕ) → encodable (put_policy x) ≡ true → LiesAt m p (row_policy x) → PolicyMeant m p x
