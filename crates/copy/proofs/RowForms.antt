-- The row of a tree that is copied field by field is its form, its length and the rows of its fields.
use Rattle.std.proofs.Common.{◌≡◌, ℕ, Bool, true, cond, List, [], ◌∷◌, ◌++◌, length, sym, refl, ap, ◌∙◌, arith}
use Rattle.std.proofs.lemmas.List.{append_assoc}
use Rattle.spec.specs.Basics.{Text}
use Rattle.spec.specs.Values.{code_text}
use Rattle.spec.specs.Exprs.{Expr}
use Rattle.spec.specs.Types.{CedarType}
use Rattle.rows.specs.Rows.{rows_of, counted, headed, count_exprs, count_attrs, row_expr, row_exprs, row_expr_attrs, count_types, row_type, row_types, row_scope, row_action_scope, row_record_type}
use Rattle.wire.specs.Tags.{ExprTag, bool_tag, int_tag, string_tag, entity_tag, set_tag, record_tag, var_tag, ite_tag, and_tag, or_tag, not_tag, neg_tag, is_empty_tag, like_tag, is_tag, binary_tag, get_attr_tag, has_attr_tag, TypeTag, ScopeTag, any_tag, eq_tag, mem_tag, is_mem_tag, ActionScopeTag, scope_tag, in_any_tag}
use Rattle.wire.specs.Grammar.{Kind, value, expr, type, scope, action_scope, uid, attrs, record_type, condition, entity, entity_entry, action_entry, request, small, truth, text, node, one, more, Contents, Tag, expr_fields, type_fields, scope_fields, action_scope_fields, fields, to_exprs, to_expr_attrs, to_types, make_expr, make_type, make_scope, make_action_scope, make}
use Rattle.copy.specs.Copied.{row_tree, row_fields, plain}
use Rattle.laws.proofs.Texts.{false-true}

-- ---- the numbers of forms
abbrev pub expr_number : ExprTag → ℕ
expr_number bool_tag = 0
expr_number int_tag = 1
expr_number string_tag = 2
expr_number entity_tag = 3
expr_number var_tag = 4
expr_number ite_tag = 5
expr_number and_tag = 6
expr_number or_tag = 7
expr_number not_tag = 8
expr_number neg_tag = 9
expr_number is_empty_tag = 10
expr_number like_tag = 11
expr_number is_tag = 12
expr_number binary_tag = 13
expr_number get_attr_tag = 14
expr_number has_attr_tag = 15
expr_number set_tag = 16
expr_number record_tag = 17

abbrev pub type_number : TypeTag → ℕ
type_number bool_tag = 0
type_number int_tag = 1
type_number string_tag = 2
type_number entity_tag = 3
type_number set_tag = 4
type_number record_tag = 5

abbrev pub scope_number : ScopeTag → ℕ
scope_number any_tag = 0
scope_number eq_tag = 1
scope_number mem_tag = 2
scope_number is_tag = 3
scope_number is_mem_tag = 4

abbrev pub action_scope_number : ActionScopeTag → ℕ
action_scope_number (scope_tag g) = scope_number g
action_scope_number in_any_tag = 5

-- a kind of several forms has a head, one of a single form has none
abbrev pub headed_as : (k : Kind) → Tag k → List ℕ → List ℕ
headed_as value g xs = xs
headed_as expr g xs = headed (expr_number g) xs
headed_as type g xs = headed (type_number g) xs
headed_as scope g xs = headed (scope_number g) xs
headed_as action_scope g xs = headed (action_scope_number g) xs
headed_as uid g xs = xs
headed_as attrs g xs = xs
headed_as record_type g xs = xs
headed_as condition g xs = xs
headed_as entity g xs = xs
headed_as entity_entry g xs = xs
headed_as action_entry g xs = xs
headed_as request g xs = xs

-- ---- lists
exprs-row : (xs : List Expr) → count_exprs (to_exprs xs) ∷ row_exprs (to_exprs xs) ≡ counted row_expr xs
exprs-row xs = ap (λ n. n ∷ row_exprs (to_exprs xs)) (count xs) ∙ ap (λ r. length xs ∷ r) (rows xs)
  where
    count : (ys : List Expr) → count_exprs (to_exprs ys) ≡ length ys
    count [] = refl
    count (y ∷ ys) = rw (count ys) (omega arith)

    rows : (ys : List Expr) → row_exprs (to_exprs ys) ≡ rows_of row_expr ys
    rows [] = refl
    rows (y ∷ ys) = ap (λ r. row_expr y ++ r) (rows ys)

expr-attrs-row : (xs : List (Text × Expr)) → count_attrs (to_expr_attrs xs) ∷ row_expr_attrs (to_expr_attrs xs) ≡ counted (λ f. code_text f.0 ++ row_expr f.1) xs
expr-attrs-row xs = ap (λ n. n ∷ row_expr_attrs (to_expr_attrs xs)) (count xs) ∙ ap (λ r. length xs ∷ r) (rows xs)
  where
    count : (ys : List (Text × Expr)) → count_attrs (to_expr_attrs ys) ≡ length ys
    count [] = refl
    count (y ∷ ys) = rw (count ys) (omega arith)

    rows : (ys : List (Text × Expr)) → row_expr_attrs (to_expr_attrs ys) ≡ rows_of (λ f. code_text f.0 ++ row_expr f.1) ys
    rows [] = refl
    rows (y ∷ ys) = ap (λ r. code_text y.0 ++ (row_expr y.1 ++ r)) (rows ys) ∙ sym (append_assoc (code_text y.0) (row_expr y.1) _)

types-row : (xs : List (Bool × (Text × CedarType))) → row_record_type (to_types xs) ≡ row_fields (fields record_type tt) xs
types-row xs = ap (λ n. n ∷ row_types (to_types xs)) (count xs) ∙ ap (λ r. length xs ∷ r) (rows xs)
  where
    count : (ys : List (Bool × (Text × CedarType))) → count_types (to_types ys) ≡ length ys
    count [] = refl
    count (y ∷ ys) = rw (count ys) (omega arith)

    rows : (ys : List (Bool × (Text × CedarType))) → row_types (to_types ys) ≡ rows_of (row_fields (more (small truth) (more text (one (node type))))) ys
    rows [] = refl
    rows (y ∷ ys) =
        ap (λ r. cond y.0 1 0 ∷ (code_text y.1.0 ++ (row_type y.1.1 ++ r))) (rows ys)
        ∙ ap (λ r. cond y.0 1 0 ∷ r) (sym (append_assoc (code_text y.1.0) (row_type y.1.1) (rows_of (row_fields (more (small truth) (more text (one (node type))))) ys)))

-- ---- each form
expr-row : (g : ExprTag) (c : Contents (expr_fields g)) → row_expr (make_expr g c) ≡ headed (expr_number g) (row_fields (expr_fields g) c)
expr-row bool_tag c = refl
expr-row int_tag c = refl
expr-row string_tag c = refl
expr-row entity_tag c = refl
expr-row var_tag c = refl
expr-row ite_tag c = refl
expr-row and_tag c = refl
expr-row or_tag c = refl
expr-row not_tag c = refl
expr-row neg_tag c = refl
expr-row is_empty_tag c = refl
expr-row like_tag c = refl
expr-row is_tag c = refl
expr-row binary_tag c = refl
expr-row get_attr_tag c = refl
expr-row has_attr_tag c = refl
expr-row set_tag c = ap (headed 16) (exprs-row c.1)
expr-row record_tag c = ap (headed 17) (expr-attrs-row c.1)

type_row : (g : TypeTag) (c : Contents (type_fields g)) → row_type (make_type g c) ≡ headed (type_number g) (row_fields (type_fields g) c)
type_row bool_tag c = refl
type_row int_tag c = refl
type_row string_tag c = refl
type_row entity_tag c = refl
type_row set_tag c = refl
type_row record_tag c = ap (headed 5) (types-row c.1)

scope-row : (g : ScopeTag) (c : Contents (scope_fields g)) → row_scope (make_scope g c) ≡ headed (scope_number g) (row_fields (scope_fields g) c)
scope-row any_tag c = refl
scope-row eq_tag c = refl
scope-row mem_tag c = refl
scope-row is_tag c = refl
scope-row is_mem_tag c = refl

action-scope-row : (g : ActionScopeTag) (c : Contents (action_scope_fields g)) → row_action_scope (make_action_scope g c) ≡ headed (action_scope_number g) (row_fields (action_scope_fields g) c)
action-scope-row (scope_tag g) c = scope-row g c
action-scope-row in_any_tag c = refl

pub row-make : (k : Kind) (g : Tag k) (c : Contents (fields k g)) → plain k ≡ true → row_tree k (make k g c) ≡ headed_as k g (row_fields (fields k g) c)
row-make value g c h = false-true h
row-make expr g c h = expr-row g c
row-make type g c h = type_row g c
row-make scope g c h = scope-row g c
row-make action_scope g c h = action-scope-row g c
row-make uid g c h = refl
row-make attrs g c h = false-true h
row-make record_type g c h = types-row c
row-make condition g c h = refl
row-make entity g c h = false-true h
row-make entity_entry g c h = refl
row-make action_entry g c h = refl
row-make request g c h = false-true h
