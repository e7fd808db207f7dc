-- The order by parts is the order of code rows.
use Rattle.std.specs.Ordering.{ordering_then, nat_cmp, bool_cmp, is_eq, is_lt, is_ne}
pub use Rattle.std.specs.Ordering.{is_lt as is-less}
use Rattle.std.proofs.lemmas.Cmp.{nat_list_cmp_total, tied_itself, same_from_slice_cmp}
use Rattle.std.proofs.lemmas.Map.Lookups.{exact_bytes}
use Rattle.std.specs.declared.cmp.Ordering.TheVariants.{Less, Equal, Greater}
use Rattle.std.specs.declared.cmp.Ordering.{Ordering}
use Rattle.std.proofs.Common.{◌≡◌, ℕ, Bool, true, false, cond, List, [], ◌∷◌, ◌++◌, length, sym, refl, ap, ◌∙◌, ap₂, inl, inr, arith}
use mathlib.Core.Bool.{Bool-discrete}
use native.Mathlib.Decide.{ℕ_discrete}
use Rattle.std.proofs.lemmas.Bool.Decides.{nat_tests}
use Rattle.std.proofs.lemmas.Bool.{cases_order}
use Rattle.std.proofs.lemmas.List.{append_assoc, append-nil}
use Rattle.spec.specs.Basics.{is_yes, Text, Text-discrete, same, less}
use Rattle.spec.specs.Values.{EntityUID, EntityUID-discrete, Primitive, Primitive-discrete, bool, int, string, entity_uid, Value, Value-discrete, prim, set, record_of, Values, nil, cons, Attrs, empty, attr, code_text, code_uid, code_bool, code_primitive, code, code_values, code_attrs, less_value, same_value, same_uid}
use Rattle.laws.proofs.Texts.{same_true, same_refl}
use Rattle.laws.proofs.Codes.{code_is}
use Rattle.values.specs.Order.{order_by_code, order_row, order_text, order_uid, order_prim, order_value, order_values, order_attrs}
use Rattle.std.specs.Cmp.{nat_cmp_is}

-- an order that tells two apart stands, and else what comes next decides
pub first-tells : (o x : Ordering) → is_ne o ≡ true → o ≡ ordering_then o x
first-tells Less x h = refl
first-tells Equal x h = cc
first-tells Greater x h = refl

pub next-tells : (o x : Ordering) → is_ne o ≡ false → x ≡ ordering_then o x
next-tells Less x h = cc
next-tells Equal x h = refl
next-tells Greater x h = cc

pub next-next : (a b c : Ordering) → ordering_then (ordering_then a b) c ≡ ordering_then a (ordering_then b c)
next-next Less b c = refl
next-next Equal b c = refl
next-next Greater b c = refl

row-long : (s t r r' : List ℕ) → length s ≡ length t → order_row (s ++ r) (t ++ r') ≡ ordering_then (order_row s t) (order_row r r')
row-long [] [] r r' e = refl
row-long [] (y ∷ t) r r' e = absurd (omega arith)
row-long (x ∷ s) [] r r' e = absurd (omega arith)
row-long (x ∷ s) (y ∷ t) r r' e = ap (ordering_then (nat_cmp x y)) (row-long s t r r' (omega arith)) ∙ sym (next-next (nat_cmp x y) (order_row s t) (order_row r r'))

text-row : (s t r r' : List ℕ) → order_row (code_text s ++ r) (code_text t ++ r') ≡ ordering_then (order_text s t) (order_row r r')
text-row s t r r' = elim (cases_order (length s) (length t)) [
  | inl e ↦ ap (ordering_then (nat_cmp (length s) (length t))) (row-long s t r r' e) ∙ sym (next-next (nat_cmp (length s) (length t)) (order_row s t) (order_row r r'))
  | inr (inl l) ↦ decided Less (sym (nat_cmp_is (length s) (length t) Less l)) (λ x. refl)
  | inr (inr l) ↦ decided Greater (sym (nat_cmp_is (length s) (length t) Greater l)) (λ x. refl)
]
  where
    decided : (o : Ordering) → nat_cmp (length s) (length t) ≡ o → ((x : Ordering) → ordering_then o x ≡ o) → ordering_then (nat_cmp (length s) (length t)) (order_row (s ++ r) (t ++ r')) ≡ ordering_then (ordering_then (nat_cmp (length s) (length t)) (order_row s t)) (order_row r r')
    decided o e f =
        ap (λ x. ordering_then x (order_row (s ++ r) (t ++ r'))) e ∙ f (order_row (s ++ r) (t ++ r')) ∙ sym (f (order_row r r')) ∙ ap (λ x. ordering_then x (order_row r r')) (sym (f (order_row s t))) ∙ ap (λ x. ordering_then (ordering_then x (order_row s t)) (order_row r r')) (sym e)

uid-row : (u w : EntityUID) (r r' : List ℕ) → order_row (code_uid u ++ r) (code_uid w ++ r') ≡ ordering_then (order_uid u w) (order_row r r')
uid-row u w r r' =
    ap₂ order_row (append_assoc (code_text u.ty) (code_text u.eid) r) (append_assoc (code_text w.ty) (code_text w.eid) r')
    ∙ text-row u.ty w.ty (code_text u.eid ++ r) (code_text w.eid ++ r')
    ∙ ap (ordering_then (order_text u.ty w.ty)) (text-row u.eid w.eid r r')
    ∙ sym (next-next (order_text u.ty w.ty) (order_text u.eid w.eid) (order_row r r'))

bool-row : (a b : Bool) (r r' : List ℕ) → order_row (code_bool a ∷ r) (code_bool b ∷ r') ≡ ordering_then (bool_cmp a b) (order_row r r')
bool-row true true r r' = refl
bool-row true false r r' = refl
bool-row false true r r' = refl
bool-row false false r r' = refl

prim-row : (p q : Primitive) (r r' : List ℕ) → order_row (code_primitive p ++ r) (code_primitive q ++ r') ≡ ordering_then (order_prim p q) (order_row r r')
prim-row (bool a) (bool b) r r' = bool-row a b r r'
prim-row (bool a) (int n) r r' = refl
prim-row (bool a) (string t) r r' = refl
prim-row (bool a) (entity_uid w) r r' = refl
prim-row (int m) (bool b) r r' = refl
prim-row (int m) (int n) r r' = refl
prim-row (int m) (string t) r r' = refl
prim-row (int m) (entity_uid w) r r' = refl
prim-row (string s) (bool b) r r' = refl
prim-row (string s) (int n) r r' = refl
prim-row (string s) (string t) r r' = text-row s t r r'
prim-row (string s) (entity_uid w) r r' = refl
prim-row (entity_uid u) (bool b) r r' = refl
prim-row (entity_uid u) (int n) r r' = refl
prim-row (entity_uid u) (string t) r r' = refl
prim-row (entity_uid u) (entity_uid w) r r' = uid-row u w r r'

prim-set : (p : Primitive) (ws : Values) (r r' : List ℕ) → order_row (code_primitive p ++ r) (code (set ws) ++ r') ≡ Less
prim-set (bool a) ws r r' = refl
prim-set (int m) ws r r' = refl
prim-set (string t) ws r r' = refl
prim-set (entity_uid u) ws r r' = refl

set-prim : (ws : Values) (p : Primitive) (r r' : List ℕ) → order_row (code (set ws) ++ r) (code_primitive p ++ r') ≡ Greater
set-prim ws (bool a) r r' = refl
set-prim ws (int m) r r' = refl
set-prim ws (string t) r r' = refl
set-prim ws (entity_uid u) r r' = refl

prim-record : (p : Primitive) (s : Attrs) (r r' : List ℕ) → order_row (code_primitive p ++ r) (code (record_of s) ++ r') ≡ Less
prim-record (bool a) s r r' = refl
prim-record (int m) s r r' = refl
prim-record (string t) s r r' = refl
prim-record (entity_uid u) s r r' = refl

record-prim : (s : Attrs) (p : Primitive) (r r' : List ℕ) → order_row (code (record_of s) ++ r) (code_primitive p ++ r') ≡ Greater
record-prim s (bool a) r r' = refl
record-prim s (int m) r r' = refl
record-prim s (string t) r r' = refl
record-prim s (entity_uid u) r r' = refl

mutual
  pub row : (v w : Value) (r r' : List ℕ) → order_row (code v ++ r) (code w ++ r') ≡ ordering_then (order_value v w) (order_row r r')
  row (prim p) (prim q) r r' = prim-row p q r r'
  row (prim p) (set ws) r r' = prim-set p ws r r'
  row (prim p) (record_of s) r r' = prim-record p s r r'
  row (set vs) (prim q) r r' = set-prim vs q r r'
  row (set vs) (set ws) r r' = rows vs ws r r'
  row (set vs) (record_of s) r r' = refl
  row (record_of t) (prim q) r r' = record-prim t q r r'
  row (record_of t) (set ws) r r' = refl
  row (record_of t) (record_of s) r r' = rows-attrs t s r r'

  rows : (vs ws : Values) (r r' : List ℕ) → order_row (code_values vs ++ r) (code_values ws ++ r') ≡ ordering_then (order_values vs ws) (order_row r r')
  rows nil nil r r' = refl
  rows nil (cons w ws) r r' = refl
  rows (cons v vs) nil r r' = refl
  rows (cons v vs) (cons w ws) r r' =
      ap₂ order_row (append_assoc (code v) (code_values vs) r) (append_assoc (code w) (code_values ws) r')
      ∙ row v w (code_values vs ++ r) (code_values ws ++ r') ∙ ap (ordering_then (order_value v w)) (rows vs ws r r') ∙ sym (next-next (order_value v w) (order_values vs ws) (order_row r r'))

  rows-attrs : (vs ws : Attrs) (r r' : List ℕ) → order_row (code_attrs vs ++ r) (code_attrs ws ++ r') ≡ ordering_then (order_attrs vs ws) (order_row r r')
  rows-attrs empty empty r r' = refl
  rows-attrs empty (attr b w ws) r r' = refl
  rows-attrs (attr a v vs) empty r r' = refl
  rows-attrs (attr a v vs) (attr b w ws) r r' =
      ap₂ order_row (append_assoc (code_text a) (code v ++ code_attrs vs) r) (append_assoc (code_text b) (code w ++ code_attrs ws) r')
      ∙ text-row a b ((code v ++ code_attrs vs) ++ r) ((code w ++ code_attrs ws) ++ r')
      ∙ ap (ordering_then (order_text a b)) (ap₂ order_row (append_assoc (code v) (code_attrs vs) r) (append_assoc (code w) (code_attrs ws) r')
      ∙ row v w (code_attrs vs ++ r) (code_attrs ws ++ r') ∙ ap (ordering_then (order_value v w)) (rows-attrs vs ws r r') ∙ sym (next-next (order_value v w) (order_attrs vs ws) (order_row r r')))
      ∙ sym (next-next (order_text a b) (ordering_then (order_value v w) (order_attrs vs ws)) (order_row r r'))

next-same : (o : Ordering) → ordering_then o Equal ≡ o
next-same Less = refl
next-same Equal = refl
next-same Greater = refl

pub by_row : (v w : Value) → order_row (code v) (code w) ≡ order_value v w
by_row v w = ap₂ order_row (sym (append-nil (code v))) (sym (append-nil (code w))) ∙ row v w [] [] ∙ next-same (order_value v w)

pub less-row : (xs ys : List ℕ) → less xs ys ≡ is_lt (order_row xs ys)
unfolding less
less-row xs ys = sym (same_from_slice_cmp nat_cmp is_lt less refl (λ _ _. refl) (λ _ _. refl) (λ x y xs ys o h. grind (arith, nat_tests)) xs ys (order_row xs ys) refl)

pub same_row : (xs ys : List ℕ) → order_row xs ys ≡ Equal → xs ≡ ys
same_row = exact_bytes

pub row-refl : (xs : List ℕ) → order_row xs xs ≡ Equal
row-refl = tied_itself nat_list_cmp_total

pub order_same : (v w : Value) → order_value v w ≡ Equal → v ≡ w
order_same v w h = code_is v w (same_row (code v) (code w) (by_row v w ∙ h))

pub order-refl : (v : Value) → order_value v v ≡ Equal
order-refl v = sym (by_row v v) ∙ row-refl (code v)

pub less-is : (v w : Value) → less_value v w ≡ is_lt (order_value v w)
less-is v w = less-row (code v) (code w) ∙ ap is_lt (by_row v w)

yes-if : {A : Type 0} (d : Dec A) (o : Ordering) → (A → o ≡ Equal) → (o ≡ Equal → A) → is_yes d ≡ is_eq o
yes-if (yes a) o f g = sym (ap is_eq (f a))
yes-if (no n) Less f g = refl
yes-if (no n) Equal f g = absurd (n (g refl))
yes-if (no n) Greater f g = refl

pub same-is : (v w : Value) → same_value v w ≡ is_eq (order_value v w)
same-is v w = yes-if (Value-discrete (Primitive-discrete Bool-discrete ℕ_discrete Text-discrete EntityUID-discrete) Text-discrete v w) (order_value v w) (λ e. ap (order_value v) (sym e) ∙ order-refl v) (order_same v w)

pub order_is : (v w : Value) → order_value v w ≡ order_by_code v w
order_is v w = sym (ap₂ (λ a b. cond a Less (cond b Equal Greater)) (less-is v w) (same-is v w) ∙ go (order_value v w))
  where
    go : (o : Ordering) → cond (is_lt o) Less (cond (is_eq o) Equal Greater) ≡ o
    go Less = refl
    go Equal = refl
    go Greater = refl

-- texts and names of entities are the same just if neither comes first
same_by : (x y : Text) (o : Ordering) → (x ≡ y → o ≡ Equal) → (o ≡ Equal → x ≡ y) → same x y ≡ is_eq o
same_by x y o f g = go (same x y) refl o refl
  where
    go : (b : Bool) → same x y ≡ b → (o' : Ordering) → o ≡ o' → b ≡ is_eq o'
    go true h o' e = sym (ap is_eq (sym e ∙ f (same_true x y h)))
    go false h Less e = refl
    go false h Greater e = refl
    go false h Equal e = sym h ∙ ap (same x) (sym (g e)) ∙ same_refl x

pub same-text-is : (x y : Text) → same x y ≡ is_eq (order_text x y)
same-text-is x y = same_by x y (order_text x y) (λ e. ap (order_text x) (sym e) ∙ row-refl (code_text x)) (λ h. tails (same_row (code_text x) (code_text y) h))
  where
    tails : {a b : ℕ} {xs ys : List ℕ} → a ∷ xs ≡ b ∷ ys → xs ≡ ys
    tails {a} {b} {xs} {ys} h = cc

pub by-uid : (u w : EntityUID) → order_row (code_uid u) (code_uid w) ≡ order_uid u w
by-uid u w = ap₂ order_row (sym (append-nil (code_uid u))) (sym (append-nil (code_uid w))) ∙ uid-row u w [] [] ∙ next-same (order_uid u w)

pub same-uid-is : (u w : EntityUID) → same_uid u w ≡ is_eq (order_uid u w)
same-uid-is u w =
    same_by (code_uid u) (code_uid w) (order_uid u w) (λ e. sym (by-uid u w) ∙ ap (order_row (code_uid u)) (sym e) ∙ row-refl (code_uid u)) (λ h. same_row (code_uid u) (code_uid w) (by-uid u w ∙ h))

pub same-row-is : (x y : Text) → same x y ≡ is_eq (order_row x y)
same-row-is x y = same_by x y (order_row x y) (λ e. ap (order_row x) (sym e) ∙ row-refl x) (same_row x y)
