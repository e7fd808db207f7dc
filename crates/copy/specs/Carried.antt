-- The row of what a call carries. Assumes nothing: these are definitions.
use Rattle.std.specs.Prelude.{◌≡◌, ℕ, ◌+◌, ◌*◌, ◌≤◌, List, [], length}
use Rattle.spec.specs.Calls.{Call, set_schema, put_policy, remove_policy, put_entity, remove_entity, validate_policies, authorize, malformed}
use Rattle.rows.specs.Rows.{row_policy, row_entity, row_schema, row_request}
use Rattle.wire.specs.Sizes.{size_call}

-- a call that carries no tree, but an id or nothing, has no row
abbrev pub row_call : Call → List ℕ
row_call (set_schema s) = row_schema s
row_call (put_policy p) = row_policy p
row_call (remove_policy t) = []
row_call (put_entity e) = row_entity e
row_call (remove_entity u) = []
row_call validate_policies = []
row_call (authorize q) = row_request q
row_call (malformed k) = []

-- a call of one kind, and room for the row of what it carries
pub record Carries {X : Type 0} (make : X → Call) (c : Call) (to len : ℕ) : Type 0 where
  pub what : X
  pub is : c ≡ make what
  pub fits : to + length (row_call c) ≤ len

-- four numbers for each unit of the size of what a call carries are enough for its row, and two more for a schema, which may be empty
abbrev pub enough : Call → ℕ
enough (set_schema s) = 4 * size_call (set_schema s) + 2
enough (put_policy p) = 4 * size_call (put_policy p)
enough (remove_policy t) = 4 * size_call (remove_policy t)
enough (put_entity e) = 4 * size_call (put_entity e)
enough (remove_entity u) = 4 * size_call (remove_entity u)
enough validate_policies = 0
enough (authorize q) = 4 * size_call (authorize q)
enough (malformed k) = 0

abbrev pub RoomBySize : Type 0
RoomBySize = (c : Call) → length (row_call c) ≤ enough c
