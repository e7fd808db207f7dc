-- The rows of trees, kind by kind and field by field, as copying writes them. Assumes nothing: these are definitions.
-- Values and records of attributes are laid out otherwise than field by field, and are copied by functions of their own.
use Rattle.std.specs.Prelude.{ℕ, Bool, true, false, ◌&&◌, List, [], ◌∷◌, ◌++◌}
use Rattle.spec.specs.Values.{code_text, code_uid}
use Rattle.rows.specs.Rows.{counted, row_expr, row_type, row_record_type, row_scope, row_action_scope, row_condition, behind_of, row_attrs, row_entity, row_entry, row_action, row_request}
use Rattle.wire.specs.Grammar.{Kind, value, expr, type, scope, action_scope, uid, attrs, record_type, condition, entity, entity_entry, action_entry, request, Tree, Field, part, small, word, text, pattern, node, list, Fields, no, one, more, Content, Contents}
use Rattle.wire.specs.Sizes.{small_number}

abbrev pub row_tree : (k : Kind) → Tree k → List ℕ
row_tree value x = behind_of x
row_tree expr x = row_expr x
row_tree type x = row_type x
row_tree scope x = row_scope x
row_tree action_scope x = row_action_scope x
row_tree uid x = code_uid x
row_tree attrs x = row_attrs x
row_tree record_type x = row_record_type x
row_tree condition x = row_condition x
row_tree entity x = row_entity x
row_tree entity_entry x = row_entry x
row_tree action_entry x = row_action x
row_tree request x = row_request x

abbrev mutual
  pub row_field : (f : Field) → Content f → List ℕ
  row_field part x = []
  row_field (small e) x = small_number e x ∷ []
  row_field word x = x ∷ []
  row_field text x = code_text x
  row_field pattern x = code_text x
  row_field (node k) x = row_tree k x
  row_field (list fs) xs = counted (row_fields fs) xs

  pub row_fields : (fs : Fields) → Contents fs → List ℕ
  row_fields no x = []
  row_fields (one f) x = row_field f x
  row_fields (more f fs) x = row_field f x.0 ++ row_fields fs x.1

-- kinds that are copied field by field
abbrev pub plain : Kind → Bool
plain value = false
plain expr = true
plain type = true
plain scope = true
plain action_scope = true
plain uid = true
plain attrs = false
plain record_type = true
plain condition = true
plain entity = false
plain entity_entry = true
plain action_entry = true
plain request = false

-- and fields that hold no others
abbrev mutual
  pub plain_field : Field → Bool
  plain_field part = true
  plain_field (small e) = true
  plain_field word = true
  plain_field text = true
  plain_field pattern = true
  plain_field (node k) = plain k
  plain_field (list fs) = plain_fields fs

  pub plain_fields : Fields → Bool
  plain_fields no = true
  plain_fields (one f) = plain_field f
  plain_fields (more f fs) = plain_field f && plain_fields fs
