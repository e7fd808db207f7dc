-- What holds of reading calls. Assumes nothing: these are statements, and each is the contract of a function of this crate.
use Rattle.std.specs.Prelude.{◌≡◌, ℕ, ◌+◌, ◌<◌, ◌≤◌, Bool, true, false, ◌++◌, length, take, ◌≢◌}
use Rattle.spec.specs.Basics.{less}
use Rattle.spec.specs.Values.{Value, less_value}
use Rattle.spec.specs.Bytes.{Bytes, encode_value, encode_call}
use Rattle.spec.specs.Calls.{Call, set_schema, put_policy, remove_policy, put_entity, remove_entity, validate_policies, authorize, malformed, all_below, encodable_value, encodable}
use Rattle.wire.specs.Grammar.{decode}

-- what is no call is only `malformed`
abbrev pub is_call : Call → Bool
is_call (set_schema s) = true
is_call (put_policy p) = true
is_call (remove_policy t) = true
is_call (put_entity e) = true
is_call (remove_entity u) = true
is_call validate_policies = true
is_call (authorize q) = true
is_call (malformed k) = false

-- the bytes of a call are read as that call
abbrev pub ReadsBack : Type 0
ReadsBack = (c : Call) → is_call c ≡ true → encodable c ≡ true → decode (encode_call c) ≡ c

-- bytes that are read as a call are the bytes of that call, and it is one that bytes can carry: no call has two spellings
abbrev pub OneSpelling : Type 0
OneSpelling = (bs : Bytes) → all_below 256 bs ≡ true → is_call (decode bs) ≡ true → (encode_call (decode bs) ≡ bs) × (encodable (decode bs) ≡ true)

-- the place of what is no call: the bytes before it are the beginning of a call, and with the byte there they are the beginning of none
abbrev pub StopsWhereItMust : Type 0
StopsWhereItMust =
    (bs : Bytes) (k : ℕ) → all_below 256 bs ≡ true → decode bs ≡ malformed k →
    (k ≤ length bs)
    × ((c : Call) × (rest : Bytes) × (is_call c ≡ true) × (encodable c ≡ true) × (encode_call c ≡ take k bs ++ rest))
    × (k < length bs → (c : Call) (rest : Bytes) → is_call c ≡ true → encodable c ≡ true → encode_call c ≢ take (k + 1) bs ++ rest)

-- the order of two values is that of their bytes
abbrev pub ByteOrder : Type 0
ByteOrder = (v w : Value) (c d : ℕ) → encodable_value v c ≡ true → encodable_value w d ≡ true → less_value v w ≡ less (encode_value v) (encode_value w)
