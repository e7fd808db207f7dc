-- Trees, by their height: the bytes of a tree are those of its form, and the reader of trees is exact.
use Rattle.std.proofs.Common.{◌≡◌, ℕ, zero, suc, ◌≤◌, Bool, true, false, cond, not as flip, ◌&&◌, eqb, List, [], ◌∷◌, ◌++◌, sym, refl, ap, ◌∙◌, arith}
use mathlib.Core.Option.{some}
use Rattle.std.proofs.lemmas.Bool.{and_parts, and_from}
use Rattle.std.proofs.lemmas.List.{append_assoc}
use Rattle.spec.specs.Basics.{Text}
use Rattle.spec.specs.Bytes.{Bytes, encode_text, encode_list, encode_value, encode_values, encode_attrs, encode_expr, encode_exprs, encode_expr_attrs, encode_type, encode_record_type, encode_scope, encode_action_scope, encode_call}
use Rattle.spec.specs.Values.{Value, to_values, to_attrs}
use Rattle.spec.specs.Exprs.{Expr}
use Rattle.spec.specs.Types.{CedarType}
use Rattle.laws.proofs.Texts.{false-true}
use Rattle.wire.specs.Read.{nth}
use Rattle.wire.specs.Tags.{ValueTag, bool_tag, int_tag, string_tag, entity_tag, set_tag, record_tag, ExprTag, var_tag, ite_tag, and_tag, or_tag, not_tag, neg_tag, is_empty_tag, like_tag, is_tag, binary_tag, get_attr_tag, has_attr_tag, TypeTag, ScopeTag, any_tag, eq_tag, mem_tag, is_mem_tag, ActionScopeTag, scope_tag, in_any_tag, CallTag, set_schema_tag, put_policy_tag, remove_policy_tag, put_entity_tag, remove_entity_tag, validate_tag, authorize_tag}
use Rattle.wire.specs.Grammar.{Kind, value, expr, type, scope, action_scope, uid, attrs, record_type, condition, entity, entity_entry, action_entry, request, Tree, Contents, Tag, value_tags, expr_tags, type_tags, scope_tags, action_scope_tags, call_tags, inner_value, inner_expr, inner_type, inner, value_fields, expr_fields, type_fields, scope_fields, action_scope_fields, call_fields, fields, to_exprs, to_expr_attrs, to_types, make_value, make_expr, make_type, make_scope, make_action_scope, make_call, make, read_tag, read_fields, read_node}
use Rattle.wire.specs.Sizes.{encode_tree, encode_fields, good_fields}
use Rattle.wire.proofs.Exact.{Exact, exact-nothing, exact-behind}
use Rattle.wire.proofs.Fields.{exact-tag-of, InFields, exact-fields}
use Rattle.wire.proofs.Forms.{Form, split, make-split, split-make}

-- ---- the byte of a form
abbrev value_number : ValueTag → ℕ
value_number bool_tag = 0
value_number int_tag = 1
value_number string_tag = 2
value_number entity_tag = 3
value_number set_tag = 4
value_number record_tag = 5

abbrev expr_number : ExprTag → ℕ
expr_number bool_tag = 0
expr_number int_tag = 1
expr_number string_tag = 2
expr_number entity_tag = 3
expr_number var_tag = 4
expr_number ite_tag = 5
expr_number and_tag = 6
expr_number or_tag = 7
expr_number not_tag = 8
expr_number neg_tag = 9
expr_number is_empty_tag = 10
expr_number like_tag = 11
expr_number is_tag = 12
expr_number binary_tag = 13
expr_number get_attr_tag = 14
expr_number has_attr_tag = 15
expr_number set_tag = 16
expr_number record_tag = 17

abbrev type_number : TypeTag → ℕ
type_number bool_tag = 0
type_number int_tag = 1
type_number string_tag = 2
type_number entity_tag = 3
type_number set_tag = 4
type_number record_tag = 5

abbrev scope_number : ScopeTag → ℕ
scope_number any_tag = 0
scope_number eq_tag = 1
scope_number mem_tag = 2
scope_number is_tag = 3
scope_number is_mem_tag = 4

abbrev action_number : ActionScopeTag → ℕ
action_number (scope_tag g) = scope_number g
action_number in_any_tag = 5

abbrev pub call_number : CallTag → ℕ
call_number set_schema_tag = 0
call_number put_policy_tag = 1
call_number remove_policy_tag = 2
call_number put_entity_tag = 3
call_number remove_entity_tag = 4
call_number validate_tag = 5
call_number authorize_tag = 6

abbrev pub encode_tag : (k : Kind) → Tag k → Bytes
encode_tag value g = value_number g ∷ []
encode_tag expr g = expr_number g ∷ []
encode_tag type g = type_number g ∷ []
encode_tag scope g = scope_number g ∷ []
encode_tag action_scope g = action_number g ∷ []
encode_tag uid g = []
encode_tag attrs g = []
encode_tag record_type g = []
encode_tag condition g = []
encode_tag entity g = []
encode_tag entity_entry g = []
encode_tag action_entry g = []
encode_tag request g = []

-- ---- the bytes of a tree are its form's byte, and those of its contents
encode-elements : (vs : List Value) → encode_values (to_values vs) ≡ encode_list encode_value vs
encode-elements [] = refl
encode-elements (v ∷ vs) = ap (λ q. 1 ∷ (encode_value v ++ q)) (encode-elements vs)

encode-attrs : (fs : List (Text × Value)) → encode_attrs (to_attrs fs) ≡ encode_list (λ f. encode_text f.0 ++ encode_value f.1) fs
encode-attrs [] = refl
encode-attrs (f ∷ fs) =
    ap (λ q. 1 ∷ (encode_text f.0 ++ (encode_value f.1 ++ q))) (encode-attrs fs) ∙ ap (λ q. 1 ∷ q) (sym (append_assoc (encode_text f.0) (encode_value f.1) _))

encode-exprs : (xs : List Expr) → encode_exprs (to_exprs xs) ≡ encode_list encode_expr xs
encode-exprs [] = refl
encode-exprs (x ∷ xs) = ap (λ q. 1 ∷ (encode_expr x ++ q)) (encode-exprs xs)

encode-expr-attrs : (fs : List (Text × Expr)) → encode_expr_attrs (to_expr_attrs fs) ≡ encode_list (λ f. encode_text f.0 ++ encode_expr f.1) fs
encode-expr-attrs [] = refl
encode-expr-attrs (f ∷ fs) =
    ap (λ q. 1 ∷ (encode_text f.0 ++ (encode_expr f.1 ++ q))) (encode-expr-attrs fs) ∙ ap (λ q. 1 ∷ q) (sym (append_assoc (encode_text f.0) (encode_expr f.1) _))

encode-types : (fs : List (Bool × (Text × CedarType))) → encode_record_type (to_types fs) ≡ encode_list (λ f. cond f.0 1 0 ∷ (encode_text f.1.0 ++ encode_type f.1.1)) fs
encode-types [] = refl
encode-types (f ∷ fs) =
    ap (λ q. 1 ∷ (cond f.0 1 0 ∷ (encode_text f.1.0 ++ (encode_type f.1.1 ++ q)))) (encode-types fs)
    ∙ ap (λ q. 1 ∷ (cond f.0 1 0 ∷ q)) (sym (append_assoc (encode_text f.1.0) (encode_type f.1.1) _))

encode-make-value : (g : ValueTag) (c : Contents (value_fields g)) → encode_value (make_value g c) ≡ value_number g ∷ encode_fields (value_fields g) c
encode-make-value bool_tag c = refl
encode-make-value int_tag c = refl
encode-make-value string_tag c = refl
encode-make-value entity_tag c = refl
encode-make-value set_tag c = ap (λ q. 4 ∷ q) (encode-elements c.1)
encode-make-value record_tag c = ap (λ q. 5 ∷ q) (encode-attrs c.1)

encode-make-expr : (g : ExprTag) (c : Contents (expr_fields g)) → encode_expr (make_expr g c) ≡ expr_number g ∷ encode_fields (expr_fields g) c
encode-make-expr bool_tag c = refl
encode-make-expr int_tag c = refl
encode-make-expr string_tag c = refl
encode-make-expr entity_tag c = refl
encode-make-expr var_tag c = refl
encode-make-expr ite_tag c = refl
encode-make-expr and_tag c = refl
encode-make-expr or_tag c = refl
encode-make-expr not_tag c = refl
encode-make-expr neg_tag c = refl
encode-make-expr is_empty_tag c = refl
encode-make-expr like_tag c = refl
encode-make-expr is_tag c = refl
encode-make-expr binary_tag c = refl
encode-make-expr get_attr_tag c = refl
encode-make-expr has_attr_tag c = refl
encode-make-expr set_tag c = ap (λ q. 16 ∷ q) (encode-exprs c.1)
encode-make-expr record_tag c = ap (λ q. 17 ∷ q) (encode-expr-attrs c.1)

encode-make-type : (g : TypeTag) (c : Contents (type_fields g)) → encode_type (make_type g c) ≡ type_number g ∷ encode_fields (type_fields g) c
encode-make-type bool_tag c = refl
encode-make-type int_tag c = refl
encode-make-type string_tag c = refl
encode-make-type entity_tag c = refl
encode-make-type set_tag c = refl
encode-make-type record_tag c = ap (λ q. 5 ∷ q) (encode-types c.1)

encode-make-scope : (g : ScopeTag) (c : Contents (scope_fields g)) → encode_scope (make_scope g c) ≡ scope_number g ∷ encode_fields (scope_fields g) c
encode-make-scope any_tag c = refl
encode-make-scope eq_tag c = refl
encode-make-scope mem_tag c = refl
encode-make-scope is_tag c = refl
encode-make-scope is_mem_tag c = refl

encode-make-action : (g : ActionScopeTag) (c : Contents (action_scope_fields g)) → encode_action_scope (make_action_scope g c) ≡ action_number g ∷ encode_fields (action_scope_fields g) c
encode-make-action (scope_tag g) c = encode-make-scope g c
encode-make-action in_any_tag c = refl

pub encode-make : (k : Kind) (g : Tag k) (c : Contents (fields k g)) → encode_tree k (make k g c) ≡ encode_tag k g ++ encode_fields (fields k g) c
encode-make value g c = encode-make-value g c
encode-make expr g c = encode-make-expr g c
encode-make type g c = encode-make-type g c
encode-make scope g c = encode-make-scope g c
encode-make action_scope g c = encode-make-action g c
encode-make uid g c = refl
encode-make attrs g c = encode-attrs c
encode-make record_type g c = encode-types c
encode-make condition g c = refl
encode-make entity g c = refl
encode-make entity_entry g c = refl
encode-make action_entry g c = refl
encode-make request g c = refl

pub encode-make-call : (g : CallTag) (c : Contents (call_fields g)) → encode_call (make_call g c) ≡ call_number g ∷ encode_fields (call_fields g) c
encode-make-call set_schema_tag c = refl
encode-make-call put_policy_tag c = refl
encode-make-call remove_policy_tag c = refl
encode-make-call put_entity_tag c = refl
encode-make-call remove_entity_tag c = refl
encode-make-call validate_tag c = refl
encode-make-call authorize_tag c = refl

-- ---- the forms are numbered
value_there : (g : ValueTag) → nth value_tags (value_number g) ≡ some g
value_there bool_tag = refl
value_there int_tag = refl
value_there string_tag = refl
value_there entity_tag = refl
value_there set_tag = refl
value_there record_tag = refl

expr-there : (g : ExprTag) → nth expr_tags (expr_number g) ≡ some g
expr-there bool_tag = refl
expr-there int_tag = refl
expr-there string_tag = refl
expr-there entity_tag = refl
expr-there var_tag = refl
expr-there ite_tag = refl
expr-there and_tag = refl
expr-there or_tag = refl
expr-there not_tag = refl
expr-there neg_tag = refl
expr-there is_empty_tag = refl
expr-there like_tag = refl
expr-there is_tag = refl
expr-there binary_tag = refl
expr-there get_attr_tag = refl
expr-there has_attr_tag = refl
expr-there set_tag = refl
expr-there record_tag = refl

type-there : (g : TypeTag) → nth type_tags (type_number g) ≡ some g
type-there bool_tag = refl
type-there int_tag = refl
type-there string_tag = refl
type-there entity_tag = refl
type-there set_tag = refl
type-there record_tag = refl

scope-there : (g : ScopeTag) → nth scope_tags (scope_number g) ≡ some g
scope-there any_tag = refl
scope-there eq_tag = refl
scope-there mem_tag = refl
scope-there is_tag = refl
scope-there is_mem_tag = refl

action-there : (g : ActionScopeTag) → nth action_scope_tags (action_number g) ≡ some g
action-there (scope_tag any_tag) = refl
action-there (scope_tag eq_tag) = refl
action-there (scope_tag mem_tag) = refl
action-there (scope_tag is_tag) = refl
action-there (scope_tag is_mem_tag) = refl
action-there in_any_tag = refl

pub call-there : (g : CallTag) → nth call_tags (call_number g) ≡ some g
call-there set_schema_tag = refl
call-there put_policy_tag = refl
call-there remove_policy_tag = refl
call-there put_entity_tag = refl
call-there remove_entity_tag = refl
call-there validate_tag = refl
call-there authorize_tag = refl

-- a form that is a level of depth has one left
abbrev pub good_tag : (k : Kind) → ℕ → Tag k → Bool
good_tag k h g = flip (inner k g && eqb h 0)

exact-tag : (k : Kind) (h : ℕ) → Exact (encode_tag k) (good_tag k h) (read_tag k h)
exact-tag value h = exact-tag-of value_number value_tags (refl, (refl, (refl, (refl, (refl, (refl, tt)))))) value_there bool_tag inner_value h refl
exact-tag expr h =
    exact-tag-of expr_number expr_tags (refl, (refl, (refl, (refl, (refl, (refl, (refl, (refl, (refl, (refl, (refl, (refl, (refl, (refl, (refl, (refl, (refl, (refl, tt)))))))))))))))))) expr-there bool_tag inner_expr h refl
exact-tag type h = exact-tag-of type_number type_tags (refl, (refl, (refl, (refl, (refl, (refl, tt)))))) type-there bool_tag inner_type h refl
exact-tag scope h = exact-tag-of scope_number scope_tags (refl, (refl, (refl, (refl, (refl, tt))))) scope-there any_tag (λ _. false) h refl
exact-tag action_scope h = exact-tag-of action_number action_scope_tags (refl, (refl, (refl, (refl, (refl, (refl, tt)))))) action-there in_any_tag (λ _. false) h refl
exact-tag uid h = exact-nothing
exact-tag attrs h = exact-nothing
exact-tag record_type h = exact-nothing
exact-tag condition h = exact-nothing
exact-tag entity h = exact-nothing
exact-tag entity_entry h = exact-nothing
exact-tag action_entry h = exact-nothing
exact-tag request h = exact-nothing

-- ---- at which height there is a tree of a kind
abbrev pub rank : Kind → ℕ
rank value = 1
rank expr = 1
rank type = 1
rank scope = 2
rank action_scope = 2
rank uid = 1
rank attrs = 2
rank record_type = 2
rank condition = 2
rank entity = 3
rank entity_entry = 3
rank action_entry = 3
rank request = 3

rank-some : (k : Kind) → 1 ≤ rank k
rank-some value = omega arith
rank-some expr = omega arith
rank-some type = omega arith
rank-some scope = omega arith
rank-some action_scope = omega arith
rank-some uid = omega arith
rank-some attrs = omega arith
rank-some record_type = omega arith
rank-some condition = omega arith
rank-some entity = omega arith
rank-some entity_entry = omega arith
rank-some action_entry = omega arith
rank-some request = omega arith

left_one : (h : ℕ) → flip (eqb h 0) ≡ true → 1 ≤ h
left_one zero p = false-true p
left_one (suc h) p = omega arith

module _ (h : ℕ) where
  abbrev Low : Kind → Type 0
  Low k = rank k ≤ h

  value_low : (g : ValueTag) → good_tag value h g ≡ true → InFields Low (value_fields g)
  value_low bool_tag p = (tt, tt)
  value_low int_tag p = (tt, tt)
  value_low string_tag p = tt
  value_low entity_tag p = (tt, tt)
  value_low set_tag p = (tt, left_one h p)
  value_low record_tag p = (tt, (tt, left_one h p))

  expr-low : (g : ExprTag) → good_tag expr h g ≡ true → InFields Low (expr_fields g)
  expr-low bool_tag p = (tt, tt)
  expr-low int_tag p = (tt, tt)
  expr-low string_tag p = tt
  expr-low entity_tag p = (tt, tt)
  expr-low var_tag p = (tt, tt)
  expr-low ite_tag p = (tt, (left_one h p, (left_one h p, left_one h p)))
  expr-low and_tag p = (tt, (left_one h p, left_one h p))
  expr-low or_tag p = (tt, (left_one h p, left_one h p))
  expr-low not_tag p = (tt, left_one h p)
  expr-low neg_tag p = (tt, left_one h p)
  expr-low is_empty_tag p = (tt, left_one h p)
  expr-low like_tag p = (tt, left_one h p)
  expr-low is_tag p = (tt, left_one h p)
  expr-low binary_tag p = (tt, (tt, (left_one h p, left_one h p)))
  expr-low get_attr_tag p = (tt, left_one h p)
  expr-low has_attr_tag p = (tt, left_one h p)
  expr-low set_tag p = (tt, left_one h p)
  expr-low record_tag p = (tt, (tt, left_one h p))

  type-low : (g : TypeTag) → good_tag type h g ≡ true → InFields Low (type_fields g)
  type-low bool_tag p = (tt, tt)
  type-low int_tag p = tt
  type-low string_tag p = tt
  type-low entity_tag p = tt
  type-low set_tag p = (tt, left_one h p)
  type-low record_tag p = (tt, (tt, (tt, left_one h p)))

  scope-low : (g : ScopeTag) → 1 ≤ h → InFields Low (scope_fields g)
  scope-low any_tag l = tt
  scope-low eq_tag l = l
  scope-low mem_tag l = l
  scope-low is_tag l = tt
  scope-low is_mem_tag l = (tt, l)

  action-low : (g : ActionScopeTag) → 1 ≤ h → InFields Low (action_scope_fields g)
  action-low (scope_tag g) l = scope-low g l
  action-low in_any_tag l = (tt, l)

  -- the trees in a form are of a lower rank, or there is a level left
  fields-low : (k : Kind) (g : Tag k) → rank k ≤ suc h → good_tag k h g ≡ true → InFields Low (fields k g)
  fields-low value g l p = value_low g p
  fields-low expr g l p = expr-low g p
  fields-low type g l p = type-low g p
  fields-low scope g l p = scope-low g (omega arith)
  fields-low action_scope g l p = action-low g (omega arith)
  fields-low uid g l p = (tt, tt)
  fields-low attrs g l p = let m : 1 ≤ h = omega arith in (tt, m)
  fields-low record_type g l p = let m : 1 ≤ h = omega arith in (tt, (tt, m))
  fields-low condition g l p = let m : 1 ≤ h = omega arith in (tt, (tt, m))
  fields-low entity g l p = let m : 1 ≤ h = omega arith in let n : 2 ≤ h = omega arith in (m, (n, (m, n)))
  fields-low entity_entry g l p = let m : 1 ≤ h = omega arith in let n : 2 ≤ h = omega arith in (tt, (tt, (n, m)))
  fields-low action_entry g l p = let m : 1 ≤ h = omega arith in let n : 2 ≤ h = omega arith in (m, (tt, (tt, (m, n))))
  fields-low request g l p = let m : 1 ≤ h = omega arith in let n : 2 ≤ h = omega arith in (m, (m, (m, n)))

-- ---- which trees bytes can carry, to a height
unfoldable pub good : ℕ → (k : Kind) → Tree k → Bool
good zero k x = false
good (suc h) k x = good_tag k h (split k x).0 && good_fields (good h) (fields k (split k x).0) (split k x).1

pub good-make : (h : ℕ) (k : Kind) (g : Tag k) (c : Contents (fields k g)) → good (suc h) k (make k g c) ≡ (good_tag k h g && good_fields (good h) (fields k g) c)
unfolding good
good-make h k g c = let F : Form k → Bool = λ f. good_tag k h f.0 && good_fields (good h) (fields k f.0) f.1 in ap F (split-make k g c)

pub exact-node : (h : ℕ) (k : Kind) → rank k ≤ h → Exact (encode_tree k) (good h k) (read_node h k)
unfolding read_node good
exact-node zero k l = absurd (omega (arith, rank-some k))
exact-node (suc h) k l =
    exact-behind {X = Tag k} {Z = Tree k} {Y = λ g. Contents (fields k g)} (encode_tag k) (good_tag k h) (read_tag k h) (λ g. encode_fields (fields k g)) (λ g. good_fields (good h) (fields k g)) (λ g. read_fields (read_node h) (fields k g)) (make k) (encode_tree k) (good (suc h) k)
    (λ x p. let w = and_parts (good_tag k h (split k x).0) (good_fields (good h) (fields k (split k x).0) (split k x).1) p in ((split k x).0, (split k x).1, make-split k x, w.0, w.1))
    (λ g c p q. (encode-make k g c, good-make h k g c ∙ and_from (good_tag k h g) (good_fields (good h) (fields k g) c) p q))
    (exact-tag k h) (λ g p. exact-fields (read_node h) (good h) (λ j. rank j ≤ h) (exact-node h) (fields k g) (fields-low h k g l p))
