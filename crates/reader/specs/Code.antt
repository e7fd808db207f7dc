-- What the grammar's tables in the code stand for. Assumes nothing: these are definitions.
use Rattle.std.specs.Prelude.{◌≡◌, ℕ, ◌+◌, Bool, false, List, [], ◌∷◌, map, Ok, Err, Result}
use Rattle.std.proofs.Math.Option.{some, none}
use Rattle.reader.specs.declared.grammar.Small.{Small as CodeSmall}
use Rattle.reader.specs.declared.grammar.Small.TheVariants.{Truth, Variable, Operator, BoolType, Effect, ConditionKind}
use Rattle.reader.specs.declared.grammar.Kind.{Kind as CodeKind}
use Rattle.reader.specs.declared.grammar.Kind.TheVariants.{Value, Expr, «Type» as TypeKind, Scope, ActionScope, Uid, Attrs, RecordType, Condition, Entity, EntityEntry, ActionEntry, Request}
use Rattle.reader.specs.declared.grammar.Items.{Items}
use Rattle.reader.specs.declared.grammar.Items.TheVariants.{Values, NamedValues, Exprs, NamedExprs, Types, NamedTypes, Uids, Texts, Conditions, EntityEntries, ActionEntries}
use Rattle.reader.specs.declared.grammar.Field.{Field as CodeField}
use Rattle.reader.specs.declared.grammar.Field.TheVariants.{Part, Small as SmallField, Word, Text, Pattern, Node, List as ListField}
use Rattle.reader.specs.declared.grammar.Form.{Form}
use Rattle.reader.specs.declared.grammar.Forms.{Forms}
use Rattle.reader.specs.declared.grammar.Forms.TheVariants.{Only, ByTag}
use Rattle.reader.specs.declared.grammar.CallKind.{CallKind}
use Rattle.reader.specs.declared.grammar.CallKind.TheVariants.{SetSchema, PutPolicy, RemovePolicy, PutEntity, RemoveEntity, ValidatePolicies, Authorize}
use Rattle.reader.specs.declared.grammar.NoSuchCall.{NoSuchCall}
use Rattle.wire.specs.Read.{nth}
use Rattle.wire.specs.Tags.{CallTag, set_schema_tag, put_policy_tag, remove_policy_tag, put_entity_tag, remove_entity_tag, validate_tag, authorize_tag}
use Rattle.wire.specs.Grammar.{Small, truth, variable, operator, bool_type, effect, condition_kind, Kind, value, expr, type, scope, action_scope, uid, attrs, record_type, condition, entity, entity_entry, action_entry, request, Field, part, small, word, text, pattern, node, list, Fields, no, one, more, two, three, value_tags, inner_value, value_fields, expr_tags, inner_expr, expr_fields, type_tags, inner_type, type_fields, scope_tags, scope_fields, action_scope_tags, action_scope_fields, call_tags, fields}

abbrev pub small_of : CodeSmall → Small
small_of Truth = truth
small_of Variable = variable
small_of Operator = operator
small_of BoolType = bool_type
small_of Effect = effect
small_of ConditionKind = condition_kind

abbrev pub kind_of : CodeKind → Kind
kind_of Value = value
kind_of Expr = expr
kind_of TypeKind = type
kind_of Scope = scope
kind_of ActionScope = action_scope
kind_of Uid = uid
kind_of Attrs = attrs
kind_of RecordType = record_type
kind_of Condition = condition
kind_of Entity = entity
kind_of EntityEntry = entity_entry
kind_of ActionEntry = action_entry
kind_of Request = request

abbrev pub items_of : Items → Fields
items_of Values = one (node value)
items_of NamedValues = two text (node value)
items_of Exprs = one (node expr)
items_of NamedExprs = two text (node expr)
items_of Types = one (node type)
items_of NamedTypes = three (small truth) text (node type)
items_of Uids = one (node uid)
items_of Texts = one text
items_of Conditions = one (node condition)
items_of EntityEntries = one (node entity_entry)
items_of ActionEntries = one (node action_entry)

abbrev pub field_of : CodeField → Field
field_of Part = part
field_of (SmallField e) = small (small_of e)
field_of Word = word
field_of Text = text
field_of Pattern = pattern
field_of (Node k) = node (kind_of k)
field_of (ListField i) = list (items_of i)

abbrev pub fields_of : List CodeField → Fields
fields_of [] = no
fields_of (f ∷ []) = one (field_of f)
fields_of (f ∷ (g ∷ fs)) = more (field_of f) (fields_of (g ∷ fs))

-- ---- the forms of a kind: whether each is a level of depth, and its fields
abbrev pub row_of : Form → Bool × Fields
row_of f = (f.inner, fields_of f.fields.now)

abbrev pub table_of : List Form → List (Bool × Fields)
table_of fs = map row_of fs

pub data KindForms : Type 0 where
  only_form : Fields → KindForms
  by_tag : List (Bool × Fields) → KindForms

abbrev pub forms_of : Forms → KindForms
forms_of (Only fs) = only_form (fields_of fs.now)
forms_of (ByTag fs) = by_tag (table_of fs.now)

abbrev pub forms_in : Kind → KindForms
forms_in value = by_tag (map (λ g. (inner_value g, value_fields g)) value_tags)
forms_in expr = by_tag (map (λ g. (inner_expr g, expr_fields g)) expr_tags)
forms_in type = by_tag (map (λ g. (inner_type g, type_fields g)) type_tags)
forms_in scope = by_tag (map (λ g. (false, scope_fields g)) scope_tags)
forms_in action_scope = by_tag (map (λ g. (false, action_scope_fields g)) action_scope_tags)
forms_in uid = only_form (fields uid tt)
forms_in attrs = only_form (fields attrs tt)
forms_in record_type = only_form (fields record_type tt)
forms_in condition = only_form (fields condition tt)
forms_in entity = only_form (fields entity tt)
forms_in entity_entry = only_form (fields entity_entry tt)
forms_in action_entry = only_form (fields action_entry tt)
forms_in request = only_form (fields request tt)

-- ---- kinds of calls: their tags in the grammar, and the numbers that stand for them
abbrev pub call_of : CallKind → CallTag
call_of SetSchema = set_schema_tag
call_of PutPolicy = put_policy_tag
call_of RemovePolicy = remove_policy_tag
call_of PutEntity = put_entity_tag
call_of RemoveEntity = remove_entity_tag
call_of ValidatePolicies = validate_tag
call_of Authorize = authorize_tag

abbrev pub number_of : CallKind → ℕ
number_of SetSchema = 0
number_of PutPolicy = 1
number_of RemovePolicy = 2
number_of PutEntity = 3
number_of RemoveEntity = 4
number_of ValidatePolicies = 5
number_of Authorize = 6

-- of which call a byte tells, if of one
abbrev pub Tells : ℕ → Result CallKind NoSuchCall → Type 0
Tells b (Ok k) = nth call_tags b ≡ some (call_of k)
Tells b (Err e) = nth call_tags b ≡ none

-- ---- what a field adds to the size beyond its bytes, and what it leaves of them
abbrev pub is_part : Field → ℕ
is_part part = 1
is_part (small e) = 0
is_part word = 0
is_part text = 0
is_part pattern = 0
is_part (node k) = 0
is_part (list fs) = 0

abbrev pub is_small : Field → ℕ
is_small part = 0
is_small (small e) = 1
is_small word = 0
is_small text = 0
is_small pattern = 0
is_small (node k) = 0
is_small (list fs) = 0

abbrev pub parts : Fields → ℕ
parts no = 0
parts (one f) = is_part f
parts (more f fs) = is_part f + parts fs

abbrev pub smalls : Fields → ℕ
smalls no = 0
smalls (one f) = is_small f
smalls (more f fs) = is_small f + smalls fs
