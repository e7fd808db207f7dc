-- What the code answers of what is read at a place. Assumes nothing: these are definitions.
use Rattle.std.specs.Prelude.{◌≡◌, ℕ, ◌+◌, ◌≤◌, Ok, Err, Result}
use Rattle.spec.specs.Calls.{Call, set_schema, put_policy, remove_policy, put_entity, remove_entity, validate_policies, authorize, malformed}
use Rattle.reader.specs.declared.grammar.CallKind.TheVariants.{SetSchema, PutPolicy, RemovePolicy, PutEntity, RemoveEntity, ValidatePolicies, Authorize}
use Rattle.reader.specs.declared.scan.Found.{Found}
use Rattle.reader.specs.declared.scan.Opened.{Opened}
use Rattle.reader.specs.declared.scan.Scanned.{Scanned}
use Rattle.wire.specs.Read.{Read, got, stops}
use Rattle.wire.specs.Grammar.{Kind, Tag, fields}
use Rattle.wire.specs.Sizes.{size_call}
use Rattle.reader.specs.Code.{fields_of, parts, smalls}

-- where it ends and how large it is, or where it ceases to be one
abbrev pub found : {X : Type 0} → (X → ℕ) → ℕ → Read X → Result Found ℕ
found size at (got x n) = Ok (record { end = at + n; size = size x })
found size at (stops k) = Err (at + k)

-- what it is, or where it ceases to be one
abbrev pub taken : {X : Type 0} → ℕ → Read X → Result X ℕ
taken at (got x n) = Ok x
taken at (stops k) = Err (at + k)

-- it lies among the bytes, and with s is no larger than they are many and p
abbrev pub WithinBy : ℕ → ℕ → ℕ → ℕ → Result Found ℕ → Type 0
WithinBy p s at len (Ok f) = (at ≤ f.end) × (f.end ≤ len) × (at + f.size + s ≤ f.end + p)
WithinBy p s at len (Err k) = k ≤ len

-- it lies among the bytes, and is no larger than they are many
abbrev pub Within : ℕ → ℕ → Result Found ℕ → Type 0
Within at len r = WithinBy 0 0 at len r

abbrev pub WithinWord : ℕ → ℕ → Result ℕ ℕ → Type 0
WithinWord at len (Ok n) = at + 8 ≤ len
WithinWord at len (Err k) = k ≤ len

-- where it ends, or ceases to be one
abbrev pub ended : {X : Type 0} → ℕ → Read X → Result ℕ ℕ
ended at (got x n) = Ok (at + n)
ended at (stops k) = Err (at + k)

-- ---- the form of a tree is read: which fields follow where
abbrev pub Opens : (k : Kind) → ℕ → Read (Tag k) → Result Opened ℕ → Type 0
Opens k at R (Ok o) = (g : Tag k) × (n : ℕ) × (R ≡ got g n) × (o.start ≡ at + n) × (fields_of o.fields.now ≡ fields k g)
Opens k at R (Err j) = (n : ℕ) × (R ≡ stops n) × (j ≡ at + n)

abbrev pub WithinOpened : ℕ → ℕ → Result Opened ℕ → Type 0
WithinOpened at len (Ok o) = (at ≤ o.start) × (o.start ≤ len) × (at + parts (fields_of o.fields.now) ≤ o.start + smalls (fields_of o.fields.now))
WithinOpened at len (Err k) = k ≤ len

-- ---- a whole call: its kind and the size of what it carries, or where it ceases to be one
abbrev pub scanned : Call → Result Scanned ℕ
scanned (set_schema s) = Ok (record { call = SetSchema; size = size_call (set_schema s) })
scanned (put_policy p) = Ok (record { call = PutPolicy; size = size_call (put_policy p) })
scanned (remove_policy t) = Ok (record { call = RemovePolicy; size = size_call (remove_policy t) })
scanned (put_entity e) = Ok (record { call = PutEntity; size = size_call (put_entity e) })
scanned (remove_entity u) = Ok (record { call = RemoveEntity; size = size_call (remove_entity u) })
scanned validate_policies = Ok (record { call = ValidatePolicies; size = size_call validate_policies })
scanned (authorize q) = Ok (record { call = Authorize; size = size_call (authorize q) })
scanned (malformed k) = Err k
