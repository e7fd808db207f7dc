-- Rows of expressions mean the expressions that they were made from, wherever they lie.
use Rattle.std.proofs.Common.{◌≡◌, ℕ, zero, suc, ◌+◌, ◌-◌, ◌≤◌, Bool, true, false, ◌&&◌, eqb, List, [], ◌∷◌, ◌++◌, length, get_or, sym, refl, ap, ◌∙◌, subst, ap₂, arith}
use Rattle.std.proofs.lemmas.Bool.{and_parts}
use Rattle.std.proofs.lemmas.List.{length-append}
use Rattle.spec.specs.Basics.{Text}
use Rattle.spec.specs.Values.{Primitive, bool, int, string, entity_uid, code_text, code_uid}
use Rattle.spec.specs.Exprs as s
use Rattle.spec.specs.Exprs.{lit, var, ite, and, or, UnaryOp, not, neg, is_empty, like, is, unary_app, binary_app, get_attr, has_attr, set, record_of, Exprs, nil, cons, ExprAttrs, empty, attr}
use Rattle.spec.specs.Calls.{level, is_bytes, encodable_op, encodable_expr, encodable_exprs, encodable_expr_attrs}
use Rattle.spec.specs.Bytes.{var_number, binary_number}
use Rattle.laws.proofs.Texts.{false-true}
use Rattle.rows.specs.Rows.{headed, row_expr, row_exprs, row_expr_attrs, count_exprs, count_attrs}
use Rattle.values.specs.Held.{lowered, text_at, TextIn, behind_text}
use Rattle.values.proofs.Means.{raised-lowered, one_more}
use Rattle.values.proofs.Placed.{Lies, lies, lies-move, lies-append, lies-long, text-lies, uid-lies}
use Rattle.exprs.specs.Heads.{size, behind, head_of, head_at, var_at, op_at}
use Rattle.exprs.specs.Stored.{var_of, op_of, exprs_from, attrs_from, means_expr, expr_at, sizes, attr_sizes, weight, Row, RowsFrom, AttrsFrom, SoundExpr, GoodExpr, ExprIn, ExprRowsMean}
use Rattle.exprs.specs.declared.Expr.{Expr}
use Rattle.exprs.specs.declared.Expr.TheVariants.{Bool as B, Int, String, Entity, Var as Variable, If, And, Or, Not, Neg, IsEmpty, Like, Is, Binary, GetAttr, HasAttr, Set, Record}

-- ---- a row behind its form and length
module _ (d : ℕ) (m : List ℕ) (p g : ℕ) (body : List ℕ) (l : Lies m p (headed g body)) where
  body-lies : Lies m (p + 2) body
  body-lies = lies-move m (p + 1 + 1) (p + 2) body (omega arith) l.2.2

  made : (x : s.Expr) (e : Expr) → row_expr x ≡ headed g body → 1 ≤ length body → head_of g m (p + 2) ≡ e → weight m e ≤ 2 + length body → SoundExpr (GoodExpr d m) m e → means_expr (expr_at d m) m e ≡ x → ExprIn (suc d) m p x
  made x e row some h w sound means =
      let head : head_at m p ≡ e = ap (λ k. head_of k m (p + 2)) l.1 ∙ h in
      let lng = lies-long m p g ((2 + length body) ∷ body) l in
      let sz : size m p ≡ 2 + length body = l.2.1 in
      let r : length (row_expr x) ≡ suc (suc (length body)) = ap length row in
      record {
        good = (omega arith, omega arith, omega arith, subst (λ k. (weight m k ≤ size m p) × SoundExpr (GoodExpr d m) m k) (sym head) (omega arith, sound));
        is = ap (means_expr (expr_at d m) m) head ∙ means;
        long = omega arith;
      }

-- ---- what is behind something that lies at a place
pub behind-text : (m : List ℕ) (p : ℕ) (t : Text) (xs : List ℕ) → Lies m p (code_text t ++ xs) → TextIn m p × (text_at m p ≡ t) × Lies m (behind_text m p) xs
behind-text m p t xs l =
    let r = lies-append m p (code_text t) xs l in
    let h = text-lies m p t r.0 in
    let e : get_or m p 0 ≡ length t = r.0.1 in
    (h.0, h.1, lies-move m (p + length (code_text t)) (behind_text m p) xs (omega (arith, e)) r.1)

behind-expr : (d : ℕ) (m : List ℕ) (p : ℕ) (x : s.Expr) (xs : List ℕ) → ExprIn d m p x → Lies m (p + length (row_expr x)) xs → Lies m (behind m p) xs
behind-expr d m p x xs X l = lies-move m (p + length (row_expr x)) (behind m p) xs (omega (arith, X.long)) l

var-is : (v : s.Var) → var_of (var_at (var_number v)) ≡ v
var-is s.principal = refl
var-is s.action = refl
var-is s.resource = refl
var-is s.context = refl

op-is : (o : s.BinaryOp) → op_of (op_at (binary_number o)) ≡ o
op-is s.eq = refl
op-is s.mem = refl
op-is s.has_tag = refl
op-is s.get_tag = refl
op-is s.less = refl
op-is s.less_eq = refl
op-is s.add = refl
op-is s.sub = refl
op-is s.mul = refl
op-is s.contains = refl
op-is s.contains_all = refl
op-is s.contains_any = refl

-- ---- lists
record ExprsIn (h : ℕ) (m : List ℕ) (p n : ℕ) (xs : Exprs) : Type 0 where
  good : RowsFrom (GoodExpr h m) m p n
  is : exprs_from (expr_at h m) m p n ≡ xs
  long : sizes m p n ≡ length (row_exprs xs)

record AttrsIn (h : ℕ) (m : List ℕ) (p n : ℕ) (xs : ExprAttrs) : Type 0 where
  good : AttrsFrom (GoodExpr h m) m p n
  is : attrs_from (expr_at h m) m p n ≡ xs
  long : attr_sizes m p n ≤ length (row_expr_attrs xs)

put : {a b : Text} {x y : s.Expr} {r t : ExprAttrs} → a ≡ b → x ≡ y → r ≡ t → attr a x r ≡ attr b y t
put p q e = λ i. attr (p i) (q i) (e i)

three : {x a y b z c : s.Expr} → x ≡ a → y ≡ b → z ≡ c → ite x y z ≡ ite a b c
three p q r = λ i. ite (p i) (q i) (r i)

apply2 : {o w : s.BinaryOp} {x a y b : s.Expr} → o ≡ w → x ≡ a → y ≡ b → binary_app o x y ≡ binary_app w a b
apply2 p q r = λ i. binary_app (p i) (q i) (r i)

-- one level less
less_one : (d : ℕ) → suc d - 1 ≡ d
less_one d = omega arith

-- ---- by forms
primitive-means : (q : Primitive) (d : ℕ) (m : List ℕ) (p : ℕ) → Lies m p (row_expr (lit q)) → ExprIn (suc d) m p (lit q)
primitive-means (bool true) d m p l = let b = body-lies d m p 0 (1 ∷ []) l in made d m p 0 (1 ∷ []) l (lit (bool true)) (B true) refl (omega arith) (ap (λ x. B (eqb x 1)) b.1) (omega arith) tt refl
primitive-means (bool false) d m p l = let b = body-lies d m p 0 (0 ∷ []) l in made d m p 0 (0 ∷ []) l (lit (bool false)) (B false) refl (omega arith) (ap (λ x. B (eqb x 1)) b.1) (omega arith) tt refl
primitive-means (int n) d m p l =
    let b = body-lies d m p 1 (n ∷ []) l in
    made d m p 1 (n ∷ []) l (lit (int n)) (Int (lowered n)) refl (omega arith) (ap (λ x. Int (lowered x)) b.1) (omega arith) tt (ap (λ k. lit (int k)) (raised-lowered n))
primitive-means (string t) d m p l =
    let h = text-lies m (p + 2) t (body-lies d m p 2 (code_text t) l) in
    made d m p 2 (code_text t) l (lit (string t)) (String (p + 2)) refl (omega arith) refl (omega arith) h.0 (ap (λ x. lit (string x)) h.1)
primitive-means (entity_uid u) d m p l =
    let h = uid-lies m (p + 2) u (body-lies d m p 3 (code_uid u) l) in
    made d m p 3 (code_uid u) l (lit (entity_uid u)) (Entity (p + 2)) refl (omega arith) refl (omega arith) h.0 (ap (λ x. lit (entity_uid x)) h.1)

-- an operator of one part, which begins behind the form and length
one-part : (d : ℕ) (m : List ℕ) (p g : ℕ) (x y : s.Expr) (e : ℕ → Expr) → ((k : ℕ) → head_of g m k ≡ e k) → ((k : ℕ) → weight m (e k) ≡ 2 + size m k) → ((k : ℕ) → Row (GoodExpr d m) m k → SoundExpr (GoodExpr d m) m (e k)) →
    ((k : ℕ) → expr_at d m k ≡ x → means_expr (expr_at d m) m (e k) ≡ y) → row_expr y ≡ headed g (row_expr x) → (l : Lies m p (headed g (row_expr x))) → ExprIn d m (p + 2) x → ExprIn (suc d) m p y
one-part d m p g x y e h w s v row l X =
    let len = X.long in
    let wt = w (p + 2) in
    let sz = X.good.1 in
    made d m p g (row_expr x) l y (e (p + 2)) row (omega arith) (h (p + 2)) (omega arith) (s (p + 2) X.good) (v (p + 2) X.is)

-- an operator of one part behind a text
text-part : (d : ℕ) (m : List ℕ) (p g : ℕ) (t : Text) (x y : s.Expr) (e : ℕ → ℕ → Expr) → ((k : ℕ) → head_of g m k ≡ e k (behind_text m k)) → ((k n : ℕ) → weight m (e k n) ≡ 2 + size m n) →
    ((k n : ℕ) → TextIn m k → Row (GoodExpr d m) m n → SoundExpr (GoodExpr d m) m (e k n)) → ((k n : ℕ) → text_at m k ≡ t → expr_at d m n ≡ x → means_expr (expr_at d m) m (e k n) ≡ y) →
    row_expr y ≡ headed g (code_text t ++ row_expr x) → (l : Lies m p (headed g (code_text t ++ row_expr x))) → ExprIn d m (behind_text m (p + 2)) x → ExprIn (suc d) m p y
text-part d m p g t x y e h w s v row l X =
    let len = X.long in
    let b : ℕ = behind_text m (p + 2) in
    let wt = w (p + 2) b in
    let r = behind-text m (p + 2) t (row_expr x) (body-lies d m p g (code_text t ++ row_expr x) l) in
    let a = length-append (code_text t) (row_expr x) in
    made d m p g (code_text t ++ row_expr x) l y (e (p + 2) b) row (omega arith) (h (p + 2)) (omega arith) (s (p + 2) b r.0 X.good) (v (p + 2) b r.1 X.is)

-- with one level taken off
off : (x : s.Expr) (d : ℕ) → encodable_expr x (suc d - 1) ≡ true → encodable_expr x d ≡ true
off x d c = subst (λ k. encodable_expr x k ≡ true) (less_one d) c

-- of two
off-both : (x y : s.Expr) (d : ℕ) → (level (suc d) && (encodable_expr x (suc d - 1) && encodable_expr y (suc d - 1))) ≡ true → (encodable_expr x d ≡ true) × (encodable_expr y d ≡ true)
off-both x y d c =
    let cs = and_parts (encodable_expr x (suc d - 1)) (encodable_expr y (suc d - 1)) (and_parts (level (suc d)) (encodable_expr x (suc d - 1) && encodable_expr y (suc d - 1)) c).1 in
    (off x d cs.0, off y d cs.1)

-- behind something else that can be carried
off-behind : (b : Bool) (x : s.Expr) (d : ℕ) → (level (suc d) && (b && encodable_expr x (suc d - 1))) ≡ true → encodable_expr x d ≡ true
off-behind b x d c = off x d (and_parts b (encodable_expr x (suc d - 1)) (and_parts (level (suc d)) (b && encodable_expr x (suc d - 1)) c).1).1

-- two parts, one after the other
record Two (d : ℕ) (m : List ℕ) (q : ℕ) (x y : s.Expr) : Type 0 where
  fst : ExprIn d m q x
  snd : ExprIn d m (behind m q) y

two-parts : (d : ℕ) (m : List ℕ) (q : ℕ) (x y : s.Expr) (ys : List ℕ) → (Lies m q (row_expr x) → ExprIn d m q x) → (Lies m (behind m q) (row_expr y) → ExprIn d m (behind m q) y) → Lies m q (row_expr x ++ (row_expr y ++ ys)) →
    Two d m q x y × Lies m (behind m (behind m q)) ys
two-parts d m q x y ys X Y l =
    let r = lies-append m q (row_expr x) (row_expr y ++ ys) l in
    let a = X r.0 in
    let t = lies-append m (behind m q) (row_expr y) ys (behind-expr d m q x (row_expr y ++ ys) a r.1) in
    let b = Y t.0 in
    (record { fst = a; snd = b }, behind-expr d m (behind m q) y ys b t.1)

just-two : (d : ℕ) (m : List ℕ) (q : ℕ) (x y : s.Expr) → (Lies m q (row_expr x) → ExprIn d m q x) → (Lies m (behind m q) (row_expr y) → ExprIn d m (behind m q) y) → Lies m q (row_expr x ++ row_expr y) → Two d m q x y
just-two d m q x y X Y l =
    let r = lies-append m q (row_expr x) (row_expr y) l in
    let a = X r.0 in
    record { fst = a; snd = Y (behind-expr d m q x (row_expr y) a r.1) }

mutual
  expr-means : (x : s.Expr) (d : ℕ) (m : List ℕ) (p : ℕ) → encodable_expr x d ≡ true → Lies m p (row_expr x) → ExprIn (suc d) m p x
  expr-means (lit q) d m p c l = primitive-means q d m p l
  expr-means (var v) d m p c l =
      let b = body-lies d m p 4 (var_number v ∷ []) l in
      made d m p 4 (var_number v ∷ []) l (var v) (Variable (var_at (var_number v))) refl (omega arith) (ap (λ n. Variable (var_at n)) b.1) (omega arith) tt (ap var (var-is v))
  expr-means (ite x y z) zero m p c l = false-true c
  expr-means (ite x y z) (suc d) m p c l =
      let cs = (and_parts (level (suc d)) (encodable_expr x (suc d - 1) && (encodable_expr y (suc d - 1) && encodable_expr z (suc d - 1))) c).1 in
      let xs = and_parts (encodable_expr x (suc d - 1)) (encodable_expr y (suc d - 1) && encodable_expr z (suc d - 1)) cs in
      let ys = and_parts (encodable_expr y (suc d - 1)) (encodable_expr z (suc d - 1)) xs.1 in
      let body : List ℕ = row_expr x ++ (row_expr y ++ row_expr z) in
      let r = two-parts (suc d) m (p + 2) x y (row_expr z) (expr-means x d m (p + 2) (off x d xs.0)) (expr-means y d m (behind m (p + 2)) (off y d ys.0)) (body-lies (suc d) m p 5 body l) in
      let X = r.0.fst in
      let Y = r.0.snd in
      let Z = expr-means z d m (behind m (behind m (p + 2))) (off z d ys.1) r.1 in
      let a = length-append (row_expr x) (row_expr y ++ row_expr z) in
      let b = length-append (row_expr y) (row_expr z) in
      let lx = X.long in
      let ly = Y.long in
      let lz = Z.long in
      let sx = X.good.1 in
      made (suc d) m p 5 body l (ite x y z) (If (p + 2) (behind m (p + 2)) (behind m (behind m (p + 2)))) refl (omega arith) refl (omega arith) (X.good, Y.good, Z.good) (three X.is Y.is Z.is)
  expr-means (and x y) zero m p c l = false-true c
  expr-means (and x y) (suc d) m p c l =
      let cs = off-both x y d c in
      let T = just-two (suc d) m (p + 2) x y (expr-means x d m (p + 2) cs.0) (expr-means y d m (behind m (p + 2)) cs.1) (body-lies (suc d) m p 6 (row_expr x ++ row_expr y) l) in
      let a = length-append (row_expr x) (row_expr y) in
      let lx = T.fst.long in
      let ly = T.snd.long in
      let sx = T.fst.good.1 in
      made (suc d) m p 6 (row_expr x ++ row_expr y) l (and x y) (And (p + 2) (behind m (p + 2))) refl (omega arith) refl (omega arith) (T.fst.good, T.snd.good) (ap₂ and T.fst.is T.snd.is)
  expr-means (or x y) zero m p c l = false-true c
  expr-means (or x y) (suc d) m p c l =
      let cs = off-both x y d c in
      let T = just-two (suc d) m (p + 2) x y (expr-means x d m (p + 2) cs.0) (expr-means y d m (behind m (p + 2)) cs.1) (body-lies (suc d) m p 7 (row_expr x ++ row_expr y) l) in
      let a = length-append (row_expr x) (row_expr y) in
      let lx = T.fst.long in
      let ly = T.snd.long in
      let sx = T.fst.good.1 in
      made (suc d) m p 7 (row_expr x ++ row_expr y) l (or x y) (Or (p + 2) (behind m (p + 2))) refl (omega arith) refl (omega arith) (T.fst.good, T.snd.good) (ap₂ or T.fst.is T.snd.is)
  expr-means (unary_app o x) zero m p c l = false-true c
  expr-means (unary_app not x) (suc d) m p c l =
      let X = expr-means x d m (p + 2) (off-behind (encodable_op not) x d c) (body-lies (suc d) m p 8 (row_expr x) l) in
      one-part (suc d) m p 8 x (unary_app not x) Not (λ k. refl) (λ k. refl) (λ k g. g) (λ k e. ap (unary_app not) e) refl l X
  expr-means (unary_app neg x) (suc d) m p c l =
      let X = expr-means x d m (p + 2) (off-behind (encodable_op neg) x d c) (body-lies (suc d) m p 9 (row_expr x) l) in
      one-part (suc d) m p 9 x (unary_app neg x) Neg (λ k. refl) (λ k. refl) (λ k g. g) (λ k e. ap (unary_app neg) e) refl l X
  expr-means (unary_app is_empty x) (suc d) m p c l =
      let X = expr-means x d m (p + 2) (off-behind (encodable_op is_empty) x d c) (body-lies (suc d) m p 10 (row_expr x) l) in
      one-part (suc d) m p 10 x (unary_app is_empty x) IsEmpty (λ k. refl) (λ k. refl) (λ k g. g) (λ k e. ap (unary_app is_empty) e) refl l X
  expr-means (unary_app (like t) x) (suc d) m p c l =
      let X = expr-means x d m (behind_text m (p + 2)) (off-behind (encodable_op (like t)) x d c)
      (behind-text m (p + 2) t (row_expr x) (body-lies (suc d) m p 11 (code_text t ++ row_expr x) l)).2 in
      text-part (suc d) m p 11 t x (unary_app (like t) x) Like (λ k. refl) (λ k n. refl) (λ k n a g. (a, g)) (λ k n a e. ap₂ (λ u v. unary_app (like u) v) a e) refl l X
  expr-means (unary_app (is t) x) (suc d) m p c l =
      let X = expr-means x d m (behind_text m (p + 2)) (off-behind (encodable_op (is t)) x d c)
      (behind-text m (p + 2) t (row_expr x) (body-lies (suc d) m p 12 (code_text t ++ row_expr x) l)).2 in
      text-part (suc d) m p 12 t x (unary_app (is t) x) Is (λ k. refl) (λ k n. refl) (λ k n a g. (a, g)) (λ k n a e. ap₂ (λ u v. unary_app (is u) v) a e) refl l X
  expr-means (binary_app o x y) zero m p c l = false-true c
  expr-means (binary_app o x y) (suc d) m p c l =
      let body : List ℕ = binary_number o ∷ (row_expr x ++ row_expr y) in
      let b = body-lies (suc d) m p 13 body l in
      let q : ℕ = p + 2 + 1 in
      let cs = off-both x y d c in
      let T = just-two (suc d) m q x y (expr-means x d m q cs.0) (expr-means y d m (behind m q) cs.1) b.2 in
      let a = length-append (row_expr x) (row_expr y) in
      let lx = T.fst.long in
      let ly = T.snd.long in
      let h : head_of 13 m (p + 2) ≡ Binary (op_at (binary_number o)) q (behind m q) = ap (λ n. Binary (op_at n) q (behind m q)) b.1 in
      made (suc d) m p 13 body l (binary_app o x y) (Binary (op_at (binary_number o)) q (behind m q)) refl (omega arith) h (omega arith) (T.fst.good, T.snd.good) (apply2 (op-is o) T.fst.is T.snd.is)
  expr-means (get_attr x t) zero m p c l = false-true c
  expr-means (get_attr x t) (suc d) m p c l =
      let X = expr-means x d m (behind_text m (p + 2)) (off-behind (is_bytes t) x d c)
      (behind-text m (p + 2) t (row_expr x) (body-lies (suc d) m p 14 (code_text t ++ row_expr x) l)).2 in
      text-part (suc d) m p 14 t x (get_attr x t) GetAttr (λ k. refl) (λ k n. refl) (λ k n a g. (a, g)) (λ k n a e. ap₂ (λ u v. get_attr v u) a e) refl l X
  expr-means (has_attr x t) zero m p c l = false-true c
  expr-means (has_attr x t) (suc d) m p c l =
      let X = expr-means x d m (behind_text m (p + 2)) (off-behind (is_bytes t) x d c)
      (behind-text m (p + 2) t (row_expr x) (body-lies (suc d) m p 15 (code_text t ++ row_expr x) l)).2 in
      text-part (suc d) m p 15 t x (has_attr x t) HasAttr (λ k. refl) (λ k n. refl) (λ k n a g. (a, g)) (λ k n a e. ap₂ (λ u v. has_attr v u) a e) refl l X
  expr-means (set xs) zero m p c l = false-true c
  expr-means (set xs) (suc d) m p c l =
      let body : List ℕ = count_exprs xs ∷ row_exprs xs in
      let b = body-lies (suc d) m p 16 body l in
      let e : encodable_exprs xs (suc d - 1) ≡ true = (and_parts (level (suc d)) (encodable_exprs xs (suc d - 1)) c).1 in
      let X = exprs-mean xs d m (p + 2 + 1) (subst (λ k. encodable_exprs xs k ≡ true) (less_one d) e) b.2 in
      let lx = X.long in
      made (suc d) m p 16 body l (set xs) (Set (count_exprs xs) (p + 2 + 1)) refl (omega arith) (ap (λ n. Set n (p + 2 + 1)) b.1) (omega arith) X.good (ap set X.is)
  expr-means (record_of xs) zero m p c l = false-true c
  expr-means (record_of xs) (suc d) m p c l =
      let body : List ℕ = count_attrs xs ∷ row_expr_attrs xs in
      let b = body-lies (suc d) m p 17 body l in
      let e : encodable_expr_attrs xs (suc d - 1) ≡ true = (and_parts (level (suc d)) (encodable_expr_attrs xs (suc d - 1)) c).1 in
      let X = attrs-mean xs d m (p + 2 + 1) (subst (λ k. encodable_expr_attrs xs k ≡ true) (less_one d) e) b.2 in
      let lx = X.long in
      made (suc d) m p 17 body l (record_of xs) (Record (count_attrs xs) (p + 2 + 1)) refl (omega arith) (ap (λ n. Record n (p + 2 + 1)) b.1) (omega arith) X.good (ap record_of X.is)

  exprs-mean : (xs : Exprs) (d : ℕ) (m : List ℕ) (p : ℕ) → encodable_exprs xs d ≡ true → Lies m p (row_exprs xs) → ExprsIn (suc d) m p (count_exprs xs) xs
  exprs-mean nil d m p c l = record { good = tt; is = refl; long = refl }
  exprs-mean (cons x xs) d m p c l =
      let cs = and_parts (encodable_expr x d) (encodable_exprs xs d) c in
      let r = lies-append m p (row_expr x) (row_exprs xs) l in
      let X = expr-means x d m p cs.0 r.0 in
      let R = exprs-mean xs d m (behind m p) cs.1 (behind-expr (suc d) m p x (row_exprs xs) X r.1) in
      let a = length-append (row_expr x) (row_exprs xs) in
      let lx = X.long in
      let lr = R.long in
      subst (λ n. ExprsIn (suc d) m p n (cons x xs)) (sym (one_more (count_exprs xs)))
      (record { good = (X.good, R.good); is = ap₂ cons X.is R.is; long = omega arith })

  attrs-mean : (xs : ExprAttrs) (d : ℕ) (m : List ℕ) (p : ℕ) → encodable_expr_attrs xs d ≡ true → Lies m p (row_expr_attrs xs) → AttrsIn (suc d) m p (count_attrs xs) xs
  attrs-mean empty d m p c l = record { good = tt; is = refl; long = omega arith }
  attrs-mean (attr t x xs) d m p c l =
      let cs = and_parts (is_bytes t) (encodable_expr x d && encodable_expr_attrs xs d) c in
      let ds = and_parts (encodable_expr x d) (encodable_expr_attrs xs d) cs.1 in
      let h = behind-text m p t (row_expr x ++ row_expr_attrs xs) l in
      let q : ℕ = behind_text m p in
      let r = lies-append m q (row_expr x) (row_expr_attrs xs) h.2 in
      let X = expr-means x d m q ds.0 r.0 in
      let R = attrs-mean xs d m (behind m q) ds.1 (behind-expr (suc d) m q x (row_expr_attrs xs) X r.1) in
      let a = length-append (row_expr x) (row_expr_attrs xs) in
      let b = length-append (code_text t) (row_expr x ++ row_expr_attrs xs) in
      let lx = X.long in
      let lr = R.long in
      subst (λ n. AttrsIn (suc d) m p n (attr t x xs)) (sym (one_more (count_attrs xs)))
      (record { good = (h.0, X.good, R.good); is = put h.1 X.is R.is; long = omega arith })

pub rows-mean : ExprRowsMean
rows-mean x d m p c l = expr-means x d m p c (lies m p (row_expr x) l)
