-- What the scan of a call says of it is enough to copy what it carries.
use Rattle.std.proofs.Common.{◌≡◌, ℕ, ◌+◌, ◌*◌, ◌≤◌, length, Ok, IsOk, refl, subst, arith}
use Rattle.spec.specs.Calls.{Call, set_schema, put_policy, remove_policy, put_entity, remove_entity, validate_policies, authorize, malformed}
use Rattle.rows.proofs.Bounds.{rows-are-bounded}
use Rattle.wire.specs.Sizes.{size_call}
use Rattle.reader.specs.declared.scan.Scanned.{Scanned}
use Rattle.reader.specs.Found.{scanned}
use Rattle.copy.specs.Carried.{row_call, enough, RoomBySize}

pub room-by-size : RoomBySize
room-by-size (set_schema s) = rows-are-bounded.2 s
room-by-size (put_policy p) = omega (arith, rows-are-bounded.0 p)
room-by-size (remove_policy t) = omega arith
room-by-size (put_entity e) = omega (arith, rows-are-bounded.1 e)
room-by-size (remove_entity u) = omega arith
room-by-size validate_policies = omega arith
room-by-size (authorize q) = rows-are-bounded.3 q
room-by-size (malformed k) = omega arith

-- ---- the room that a caller sees by what the scan said
scanned-size : (c : Call) (s : Scanned) → Ok s ≡ scanned c → s.size ≡ size_call c
scanned-size (set_schema s) r e = cc
scanned-size (put_policy p) r e = cc
scanned-size (remove_policy t) r e = cc
scanned-size (put_entity x) r e = cc
scanned-size (remove_entity u) r e = cc
scanned-size validate_policies r e = cc
scanned-size (authorize q) r e = cc
scanned-size (malformed k) r e = let z : ◌≡◌ {A = ℕ} 0 1 = cc in absurd (omega arith)

few : (c : Call) → enough c ≤ 4 * size_call c + 2
few (set_schema s) = omega arith
few (put_policy p) = omega arith
few (remove_policy t) = omega arith
few (put_entity e) = omega arith
few (remove_entity u) = omega arith
few validate_policies = omega arith
few (authorize q) = omega arith
few (malformed k) = omega arith

pub fits_scanned : (c : Call) (s : Scanned) (to len : ℕ) → Ok s ≡ scanned c → to + 4 * s.size + 2 ≤ len → to + length (row_call c) ≤ len
fits_scanned c s to len e h = omega (arith, h, scanned-size c s e, room-by-size c, few c)

pub was_scanned : (c : Call) (s : Scanned) → Ok s ≡ scanned c → IsOk (scanned c)
was_scanned c s e = subst IsOk e refl
