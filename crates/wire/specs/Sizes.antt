-- The sizes of trees, the bytes that carry them, and which of them bytes can carry, kind by kind and field by field. Assumes nothing: these are definitions.
use Rattle.std.specs.Prelude.{ℕ, ◌+◌, Bool, true, cond, ◌&&◌, [], ◌∷◌, ◌++◌}
use Rattle.spec.specs.Basics.{all}
use Rattle.spec.specs.Bytes.{Bytes, encode_word, encode_text, encode_list, encode_uid, encode_value, encode_attrs, encode_expr, encode_pattern, encode_type, encode_record_type, encode_scope, encode_action_scope, encode_condition, encode_entity, encode_entry, encode_action, encode_request, var_number, binary_number, bool_type_number, effect_number, kind_number}
use Rattle.spec.specs.Calls.{size_text, size_uid, size_value, size_attrs, size_expr, size_type, size_record_type, size_scope, size_action_scope, size_condition, size_policy, size_entity, size_entry, size_action, size_schema, size_request, sum_of, is_bytes, is_pattern, is_word, Call, set_schema, put_policy, remove_policy, put_entity, remove_entity, validate_policies, authorize, malformed}
use Rattle.wire.specs.Grammar.{Small, truth, variable, operator, bool_type, effect, condition_kind, Choice, Kind, value, expr, type, scope, action_scope, uid, attrs, record_type, condition, entity, entity_entry, action_entry, request, Tree, Field, part, small, word, text, pattern, node, list, Fields, no, one, more, Content, Contents}

-- what a call carries
abbrev pub size_call : Call → ℕ
size_call (set_schema s) = size_schema s
size_call (put_policy p) = size_policy p
size_call (remove_policy t) = size_text t
size_call (put_entity e) = size_entity e
size_call (remove_entity u) = size_uid u
size_call validate_policies = 0
size_call (authorize q) = size_request q
size_call (malformed k) = 0

abbrev pub size_tree : (k : Kind) → Tree k → ℕ
size_tree value x = size_value x
size_tree expr x = size_expr x
size_tree type x = size_type x
size_tree scope x = size_scope x
size_tree action_scope x = size_action_scope x
size_tree uid x = size_uid x
size_tree attrs x = size_attrs x
size_tree record_type x = size_record_type x
size_tree condition x = size_condition x
size_tree entity x = size_entity x
size_tree entity_entry x = size_entry x
size_tree action_entry x = size_action x
size_tree request x = size_request x

abbrev mutual
  pub size_field : (f : Field) → Content f → ℕ
  size_field part x = 1
  size_field (small e) x = 0
  size_field word x = 0
  size_field text x = size_text x
  size_field pattern x = size_text x
  size_field (node k) x = size_tree k x
  size_field (list fs) xs = sum_of (size_fields fs) xs

  pub size_fields : (fs : Fields) → Contents fs → ℕ
  size_fields no x = 0
  size_fields (one f) x = size_field f x
  size_fields (more f fs) x = size_field f x.0 + size_fields fs x.1

abbrev pub encode_tree : (k : Kind) → Tree k → Bytes
encode_tree value x = encode_value x
encode_tree expr x = encode_expr x
encode_tree type x = encode_type x
encode_tree scope x = encode_scope x
encode_tree action_scope x = encode_action_scope x
encode_tree uid x = encode_uid x
encode_tree attrs x = encode_attrs x
encode_tree record_type x = encode_record_type x
encode_tree condition x = encode_condition x
encode_tree entity x = encode_entity x
encode_tree entity_entry x = encode_entry x
encode_tree action_entry x = encode_action x
encode_tree request x = encode_request x

abbrev pub small_number : (e : Small) → Choice e → ℕ
small_number truth b = cond b 1 0
small_number variable v = var_number v
small_number operator o = binary_number o
small_number bool_type b = bool_type_number b
small_number effect f = effect_number f
small_number condition_kind c = kind_number c

abbrev mutual
  pub encode_field : (f : Field) → Content f → Bytes
  encode_field part x = []
  encode_field (small e) x = small_number e x ∷ []
  encode_field word x = encode_word x
  encode_field text x = encode_text x
  encode_field pattern x = encode_pattern x
  encode_field (node k) x = encode_tree k x
  encode_field (list fs) xs = encode_list (encode_fields fs) xs

  pub encode_fields : (fs : Fields) → Contents fs → Bytes
  encode_fields no x = []
  encode_fields (one f) x = encode_field f x
  encode_fields (more f fs) x = encode_field f x.0 ++ encode_fields fs x.1

-- ---- which trees bytes can carry, to a height
abbrev mutual
  pub good_field : ((k : Kind) → Tree k → Bool) → (f : Field) → Content f → Bool
  good_field good part x = true
  good_field good (small e) x = true
  good_field good word x = is_word x
  good_field good text x = is_bytes x
  good_field good pattern x = is_pattern x
  good_field good (node k) x = good k x
  good_field good (list fs) xs = all (good_fields good fs) xs

  pub good_fields : ((k : Kind) → Tree k → Bool) → (fs : Fields) → Contents fs → Bool
  good_fields good no x = true
  good_fields good (one f) x = good_field good f x
  good_fields good (more f fs) x = good_field good f x.0 && good_fields good fs x.1
