-- One evaluation after the other: what is left in memory, and what the whole comes to.
use Rattle.std.proofs.Common.{◌≡◌, ℕ, zero, suc, ◌+◌, ◌-◌, ◌≤◌, Bool, true, false, cond, List, ◌++◌, length, get_or, take, drop, Ok, Err, Result, sym, refl, ap, ◌∙◌, subst, ap₂, arith}
use Rattle.std.proofs.lemmas.List.{take-take, take-append-le, get_or-append-add, get_or-drop}
use Rattle.spec.specs.Basics.{Except, ok, error, ◌>>=◌}
use Rattle.spec.specs.Values as s
use Rattle.spec.specs.Values.{prim, string, entity_uid}
use Rattle.spec.specs.Exprs as x
use Rattle.spec.specs.Exprs.{not, neg, is_empty, like, is, ite, and, or, binary_app, var}
use Rattle.spec.specs.Evaluate.{Error, type_error, as_bool, of_bool, just_bool, apply1, apply2, get_attr_of, has_attr_of, evaluate}
use Rattle.values.specs.Held.{text_at, TextIn, UIDIn, decode, Stands}
use Rattle.values.specs.Making.{up_to}
use Rattle.values.specs.declared.nodes.Value.{Value}
use Rattle.values.specs.declared.nodes.Value.TheVariants.{Bool as B, String, Entity, Record}
use Rattle.values.proofs.Made.{work-grows}
use Rattle.values.proofs.Frame.{text-on, text_in-on, uid-on, uid-in-on, stands-taller}
use Rattle.operators.specs.Code.{Says}
use Rattle.operators.specs.declared.errors.EvalError.{EvalError}
use Rattle.operators.proofs.Operands.{is-bool, no_bool}
use Rattle.exprs.specs.Heads.{size, head_at, Inside}
use Rattle.exprs.specs.Stored.{var_of, means_expr, expr_at, weight, SoundExpr, GoodExpr}
use Rattle.exprs.specs.declared.Expr.{Expr}
use Rattle.exprs.specs.declared.Expr.TheVariants.{String as StringAt, Entity as EntityAt, Var as Variable}
use Rattle.exprs.specs.declared.Var.{Var}
use Rattle.exprs.specs.declared.Var.TheVariants.{Principal, Action, Resource, Context}
use Rattle.exprs.proofs.Inside.{inside}
use Rattle.entities.specs.Rows.{request_at, RequestIn}
use Rattle.evaluator.specs.Evaluated.{Moved, UnaryIn, unary_expr, applied, AnswersOf1, var_value}
use Rattle.entities.specs.declared.env.Env.{Env}
use Rattle.evaluator.specs.declared.apply.Unary.{Unary}
use Rattle.evaluator.specs.declared.apply.Unary.TheVariants.{Not, Neg, IsEmpty, Like, Is, GetAttr, HasAttr}

-- ---- the work memory
pub keeps_on : (t t₁ : ℕ) (w w₁ w₂ : List ℕ) → t ≤ t₁ → take t w₁ ≡ take t w → take t₁ w₂ ≡ take t₁ w₁ → take t w₂ ≡ take t w
keeps_on t t₁ w w₁ w₂ le a b = sym (take-take t t₁ w₂ le) ∙ ap (take t) b ∙ take-take t t₁ w₁ le ∙ a

pub moved-one : {w w₁ : List ℕ} {t t₁ a : ℕ} (c : ℕ) → a ≤ c → Moved w w₁ t t₁ a → Moved w w₁ t t₁ c
moved-one c le M = record { rises = M.rises; few = omega (arith, M.few); keeps = M.keeps }

pub moved-two : {w w₁ w₂ : List ℕ} {t t₁ t₂ a b : ℕ} (c : ℕ) → a + b ≤ c → Moved w w₁ t t₁ a → Moved w₁ w₂ t₁ t₂ b → Moved w w₂ t t₂ c
moved-two {w} {w₁} {w₂} {t} {t₁} {t₂} c le M N = record {
  rises = omega (arith, M.rises, N.rises);
  few = omega (arith, M.few, N.few);
  keeps = keeps_on t t₁ w w₁ w₂ M.rises M.keeps N.keeps;
}

-- ---- what is said is said to a greater height, and of more memory
pub says-later : (store w₁ w₂ : List ℕ) (t₁ t₂ h₁ h₂ : ℕ) (r : Result Value EvalError) (o : Except Error s.Value) → t₁ ≤ t₂ → h₁ ≤ h₂ → take t₁ w₂ ≡ take t₁ w₁ → Says h₁ (up_to store w₁ t₁) r o → Says h₂ (up_to store w₂ t₂) r o
says-later store w₁ w₂ t₁ t₂ h₁ h₂ (Ok v) o le lh e d =
    let S = work-grows store w₁ w₂ t₁ t₂ h₁ h₂ v (decode h₁ (up_to store w₁ t₁) v) le lh e (record { good = d.1; is = refl }) in
    (d.0 ∙ ap ok (sym S.is), S.good)
says-later store w₁ w₂ t₁ t₂ h₁ h₂ (Err k) o le lh e d = d

pub says-taller : (store w : List ℕ) (t h : ℕ) (r : Result Value EvalError) (o : Except Error s.Value) → Says h (up_to store w t) r o → Says (suc h) (up_to store w t) r o
says-taller store w t h r o d = says-later store w w t t h (suc h) r o (omega arith) (omega arith) refl d

-- a value that came, as an operand
pub came : (h : ℕ) (m : List ℕ) (v : Value) (o : Except Error s.Value) → Says h m (Ok v) o → Stands h m v (decode h m v)
came h m v o d = record { good = d.1; is = refl }

-- ---- and, or, if: by what the first comes to
-- the first fails
pub fails : (o : Except Error s.Value) (k : Error) (f : s.Value → Except Error s.Value) → o ≡ error k → (o >>= f) ≡ error k
fails o k f e = ap (λ x. x >>= f) e

module _ (h : ℕ) (m : List ℕ) (v : Value) (o : Except Error s.Value) (f : Bool → Except Error s.Value) where
  -- it is no truth value
  pub not_bool : ((b : Bool) → v ≡ B b → ⊥) → Says h m (Ok v) o → (o >>= (λ x. as_bool x >>= f)) ≡ error type_error
  not_bool n d = ap (λ x. x >>= (λ x. as_bool x >>= f)) d.0 ∙ ap (λ x. x >>= f) (no_bool h m v (decode h m v) n (came h m v o d))

  -- it is one
  pub a-bool : (b : Bool) → v ≡ B b → Says h m (Ok v) o → (o >>= (λ x. as_bool x >>= f)) ≡ f b
  a-bool b e d =
      let d' : Says h m (Ok (B b)) o = subst (λ x. Says h m (Ok x) o) e d in
      ap (λ x. x >>= (λ x. as_bool x >>= f)) d'.0 ∙ ap (λ x. x >>= f) (is-bool h m b (decode h m (B b)) (came h m (B b) o d'))

pub just-bool : (h : ℕ) (m : List ℕ) (b : Bool) (o : Except Error s.Value) → Says h m (Ok (B b)) o → Says h m (Ok (B b)) (just_bool o)
just-bool zero m b o d = absurd d.1
just-bool (suc h) m b o d = (ap just_bool d.0, tt)

-- what is said of one outcome is said of the same
pub by-outcome : (h : ℕ) (m : List ℕ) (r : Result Value EvalError) (o o' : Except Error s.Value) → o ≡ o' → Says h m r o' → Says h m r o
by-outcome h m r o o' e d = subst (Says h m r) (sym e) d

pub by_height : (h h' : ℕ) (m : List ℕ) (r : Result Value EvalError) (o : Except Error s.Value) → h ≡ h' → Says h m r o → Says h' m r o
by_height h h' m r o e d = subst (λ k. Says k m r o) e d

-- ---- one form
pub inside-good : (h : ℕ) (m : List ℕ) (at : ℕ) → GoodExpr h m at → Inside m (head_at m at)
inside-good zero m at g = absurd g
inside-good (suc h) m at g = inside (GoodExpr h m) m (head_at m at) g.1

pub opened : (h : ℕ) (m : List ℕ) (at : ℕ) (e : Expr) → e ≡ head_at m at → GoodExpr h m at → (weight m e ≤ size m at) × SoundExpr (GoodExpr (h - 1) m) m e
opened zero m at e q g = absurd g
opened (suc h) m at e q g =
    let a : h ≡ suc h - 1 = omega arith in
    subst (λ j. (weight m e ≤ size m at) × SoundExpr (GoodExpr j m) m e) a (subst (λ k. (weight m k ≤ size m at) × SoundExpr (GoodExpr h m) m k) (sym q) g)

pub formed : (h : ℕ) (m : List ℕ) (at : ℕ) (e : Expr) (mem : List ℕ) (r : Result Value EvalError) (q : s.Request) (es : s.Entities) → (h ≡ 0 → ⊥) → e ≡ head_at m at →
    Says (suc (h - 1 + 65)) mem r (evaluate (means_expr (expr_at (h - 1) m) m e) q es) → Says (h + 65) mem r (evaluate (expr_at h m at) q es)
formed zero m at e mem r q es n p d = absurd (n refl)
formed (suc h) m at e mem r q es n p d =
    let a : suc h - 1 ≡ h = omega arith in
    let b : suc (suc h - 1 + 65) ≡ suc h + 65 = omega arith in
    by_height (suc (suc h - 1 + 65)) (suc h + 65) mem r (evaluate (expr_at (suc h) m at) q es) b
    (subst (Says (suc (suc h - 1 + 65)) mem r) (ap₂ (λ j k. evaluate (means_expr (expr_at j m) m k) q es) a p) d)

-- ---- leaves: nothing is made
pub stays : (w : List ℕ) (t : ℕ) (m : List ℕ) (e k : Expr) → e ≡ k → weight m k ≡ 3 → Moved w w t t (weight m e)
stays w t m e k q l = let f : weight m e ≡ 3 = ap (weight m) q ∙ l in record { rises = omega arith; few = omega arith; keeps = refl }

pub string-says : (h : ℕ) (G : ℕ → Type 0) (d : ℕ → x.Expr) (m y : List ℕ) (e : Expr) (p : ℕ) (q : s.Request) (es : s.Entities) → e ≡ StringAt p → SoundExpr G m e → Says (suc h) (m ++ y) (Ok (String p)) (evaluate (means_expr d m e) q es)
string-says h G d m y e p q es eq g =
    let i : TextIn m p = subst (SoundExpr G m) eq g in
    (ap (λ k. evaluate (means_expr d m k) q es) eq ∙ ap (λ t. ok (prim (string t))) (sym (text-on m y p i)), text_in-on m y p i)

pub entity-says : (h : ℕ) (G : ℕ → Type 0) (d : ℕ → x.Expr) (m y : List ℕ) (e : Expr) (p : ℕ) (q : s.Request) (es : s.Entities) → e ≡ EntityAt p → SoundExpr G m e → Says (suc h) (m ++ y) (Ok (Entity p)) (evaluate (means_expr d m e) q es)
entity-says h G d m y e p q es eq g =
    let i : UIDIn m p = subst (SoundExpr G m) eq g in
    (ap (λ k. evaluate (means_expr d m k) q es) eq ∙ ap (λ t. ok (prim (entity_uid t))) (sym (uid-on m y p i)), uid-in-on m y p i)

word-says : (h : ℕ) (store m : List ℕ) (env : Env) (v : Var) (es : s.Entities) → RequestIn store m env.entities env.request → Says (suc (h + 65)) m (Ok (var_value env v)) (evaluate (var (var_of v)) (request_at m env.request) es)
word-says h store m env Principal es a = (refl, a.principal.name)
word-says h store m env Action es a = (refl, a.action.name)
word-says h store m env Resource es a = (refl, a.resource.name)
word-says h store m env Context es a =
    let S = stands-taller m 65 (h + 1) (Record env.request.context) (decode 65 m (Record env.request.context)) (record { good = a.context; is = refl }) (suc (h + 65)) (omega arith) in
    (ap ok (sym S.is), S.good)

pub var-says : (h : ℕ) (store m : List ℕ) (d : ℕ → x.Expr) (env : Env) (e : Expr) (v : Var) (r : Value) (es : s.Entities) → e ≡ Variable v → r ≡ var_value env v → RequestIn store m env.entities env.request →
    Says (suc (h + 65)) m (Ok r) (evaluate (means_expr d store e) (request_at m env.request) es)
var-says h store m d env e v r es p q a =
    by-outcome (suc (h + 65)) m (Ok r) (evaluate (means_expr d store e) (request_at m env.request) es) (evaluate (var (var_of v)) (request_at m env.request) es) (ap (λ k. evaluate (means_expr d store k) (request_at m env.request) es) p)
    (subst (λ k. Says (suc (h + 65)) m (Ok k) (evaluate (var (var_of v)) (request_at m env.request) es)) (sym q) (word-says h store m env v es a))

-- ---- and, or, if
abbrev and-rest : x.Expr → s.Request → s.Entities → Bool → Except Error s.Value
and-rest r q es b = cond b (just_bool (evaluate r q es)) (ok (of_bool false))

abbrev or-rest : x.Expr → s.Request → s.Entities → Bool → Except Error s.Value
or-rest r q es b = cond b (ok (of_bool true)) (just_bool (evaluate r q es))

abbrev ite-rest : x.Expr → x.Expr → s.Request → s.Entities → Bool → Except Error s.Value
ite-rest r z q es b = cond b (evaluate r q es) (evaluate z q es)

module _ (h : ℕ) (m : List ℕ) (v : Value) (l r z : x.Expr) (q : s.Request) (es : s.Entities) where
  pub and-wrong : ((b : Bool) → v ≡ B b → ⊥) → Says h m (Ok v) (evaluate l q es) → evaluate (and l r) q es ≡ error type_error
  and-wrong n d = not_bool h m v (evaluate l q es) (and-rest r q es) n d

  pub or-wrong : ((b : Bool) → v ≡ B b → ⊥) → Says h m (Ok v) (evaluate l q es) → evaluate (or l r) q es ≡ error type_error
  or-wrong n d = not_bool h m v (evaluate l q es) (or-rest r q es) n d

  pub ite-wrong : ((b : Bool) → v ≡ B b → ⊥) → Says h m (Ok v) (evaluate l q es) → evaluate (ite l r z) q es ≡ error type_error
  ite-wrong n d = not_bool h m v (evaluate l q es) (ite-rest r z q es) n d

  pub and-by : (b c : Bool) → v ≡ B b → b ≡ c → Says h m (Ok v) (evaluate l q es) → evaluate (and l r) q es ≡ cond c (just_bool (evaluate r q es)) (ok (of_bool false))
  and-by b c e f d = a-bool h m v (evaluate l q es) (and-rest r q es) b e d ∙ ap (and-rest r q es) f

  pub or-by : (b c : Bool) → v ≡ B b → b ≡ c → Says h m (Ok v) (evaluate l q es) → evaluate (or l r) q es ≡ cond c (ok (of_bool true)) (just_bool (evaluate r q es))
  or-by b c e f d = a-bool h m v (evaluate l q es) (or-rest r q es) b e d ∙ ap (or-rest r q es) f

  pub ite-by : (b c : Bool) → v ≡ B b → b ≡ c → Says h m (Ok v) (evaluate l q es) → evaluate (ite l r z) q es ≡ cond c (evaluate r q es) (evaluate z q es)
  ite-by b c e f d = a-bool h m v (evaluate l q es) (ite-rest r z q es) b e d ∙ ap (ite-rest r z q es) f

-- what was said of the request as it was later
pub of-request : (h : ℕ) (m : List ℕ) (r : Result Value EvalError) (e : x.Expr) (q q₁ : s.Request) (es : s.Entities) → q₁ ≡ q → Says h m r (evaluate e q₁ es) → Says h m r (evaluate e q es)
of-request h m r e q q₁ es p d = subst (λ k. Says h m r (evaluate e k es)) p d

-- ---- one value, and two
pub unary-in : (m y : List ℕ) (op : Unary) → UnaryIn m op → UnaryIn (m ++ y) op
unary-in m y Not h = tt
unary-in m y Neg h = tt
unary-in m y IsEmpty h = tt
unary-in m y (Like p) h = text_in-on m y p h
unary-in m y (Is p) h = text_in-on m y p h
unary-in m y (GetAttr p) h = text_in-on m y p h
unary-in m y (HasAttr p) h = text_in-on m y p h

unary-is : (m y : List ℕ) (op : Unary) (e : x.Expr) (q : s.Request) (es : s.Entities) (a : s.Value) → UnaryIn m op → evaluate e q es ≡ ok a → evaluate (unary_expr m op e) q es ≡ applied (m ++ y) op a es
unary-is m y Not e q es a h p = ap (λ o. o >>= apply1 not) p
unary-is m y Neg e q es a h p = ap (λ o. o >>= apply1 neg) p
unary-is m y IsEmpty e q es a h p = ap (λ o. o >>= apply1 is_empty) p
unary-is m y (Like k) e q es a h p = ap (λ o. o >>= apply1 (like (text_at m k))) p ∙ ap (λ t. apply1 (like t) a) (sym (text-on m y k h))
unary-is m y (Is k) e q es a h p = ap (λ o. o >>= apply1 (is (text_at m k))) p ∙ ap (λ t. apply1 (is t) a) (sym (text-on m y k h))
unary-is m y (GetAttr k) e q es a h p = ap (λ o. o >>= (λ v. get_attr_of v (text_at m k) es)) p ∙ ap (λ t. get_attr_of a t es) (sym (text-on m y k h))
unary-is m y (HasAttr k) e q es a h p = ap (λ o. o >>= (λ v. has_attr_of v (text_at m k) es)) p ∙ ap (λ t. has_attr_of a t es) (sym (text-on m y k h))

-- an operand, to the height at which operators are applied
pub operand : (store w₁ w₂ : List ℕ) (t₁ t₂ h : ℕ) (v : Value) (o : Except Error s.Value) → t₁ ≤ t₂ → take t₁ w₂ ≡ take t₁ w₁ → Says (h + 65) (up_to store w₁ t₁) (Ok v) o → Says (h + 66) (up_to store w₂ t₂) (Ok v) o
operand store w₁ w₂ t₁ t₂ h v o le e d = says-later store w₁ w₂ t₁ t₂ (h + 65) (h + 66) (Ok v) o le (omega arith) e d

pub unary-says : (h : ℕ) (store y : List ℕ) (op : Unary) (e : x.Expr) (q : s.Request) (es : s.Entities) (v : Value) (r : Result Value EvalError) → UnaryIn store op → Says (h + 66) (store ++ y) (Ok v) (evaluate e q es) → AnswersOf1 (h + 66) (store ++ y) es op v r →
    Says (suc (h + 65)) (store ++ y) r (evaluate (unary_expr store op e) q es)
unary-says h store y op e q es v r i d A =
    let S = came (h + 66) (store ++ y) v (evaluate e q es) d in
    let k : h + 66 ≡ suc (h + 65) = omega arith in
    by_height (h + 66) (suc (h + 65)) (store ++ y) r (evaluate (unary_expr store op e) q es) k
    (by-outcome (h + 66) (store ++ y) r (evaluate (unary_expr store op e) q es) (applied (store ++ y) op (decode (h + 66) (store ++ y) v) es) (unary-is store y op e q es (decode (h + 66) (store ++ y) v) i d.0) (A (decode (h + 66) (store ++ y) v) S))

pub binary-says : (h : ℕ) (m : List ℕ) (op : x.BinaryOp) (e f : x.Expr) (q : s.Request) (es : s.Entities) (v w : Value) (r : Result Value EvalError) → Says (h + 66) m (Ok v) (evaluate e q es) → Says (h + 66) m (Ok w) (evaluate f q es) →
    ((a b : s.Value) → Stands (h + 66) m v a → Stands (h + 66) m w b → Says (h + 66) m r (apply2 op a b es)) → Says (suc (h + 65)) m r (evaluate (binary_app op e f) q es)
binary-says h m op e f q es v w r d d' A =
    let k : h + 66 ≡ suc (h + 65) = omega arith in
    let a : s.Value = decode (h + 66) m v in
    let b : s.Value = decode (h + 66) m w in
    by_height (h + 66) (suc (h + 65)) m r (evaluate (binary_app op e f) q es) k
    (by-outcome (h + 66) m r (evaluate (binary_app op e f) q es) (apply2 op a b es)
    (ap₂ (λ o o'. o >>= (λ x. o' >>= (λ y. apply2 op x y es))) d.0 d'.0) (A a b (came (h + 66) m v (evaluate e q es) d) (came (h + 66) m w (evaluate f q es) d')))

pub first-fails : (o o' : Except Error s.Value) (k : Error) (f : s.Value → s.Value → Except Error s.Value) → o ≡ error k → (o >>= (λ a. o' >>= (λ b. f a b))) ≡ error k
first-fails o o' k f e = ap (λ x. x >>= (λ a. o' >>= (λ b. f a b))) e

pub second-fails : (o o' : Except Error s.Value) (a : s.Value) (k : Error) (f : s.Value → s.Value → Except Error s.Value) → o ≡ ok a → o' ≡ error k → (o >>= (λ a. o' >>= (λ b. f a b))) ≡ error k
second-fails o o' a k f e e' = ap₂ (λ x y. x >>= (λ a. y >>= (λ b. f a b))) e e'

-- ---- a part of the work memory was lent
module _ (work low : List ℕ) (limit : ℕ) (long : length low ≡ limit) where
  lent-take : (t : ℕ) → t ≤ limit → take t (low ++ drop limit work) ≡ take t low
  lent-take t l = take-append-le t low (drop limit work) (omega arith)

  pub lent-beyond : (i : ℕ) → limit ≤ i → get_or (low ++ drop limit work) i 0 ≡ get_or work i 0
  lent-beyond i l =
      let j : ℕ = i - limit in
      let e : i ≡ length low + j = omega arith in
      let f : limit + j ≡ i = omega arith in
      ap (λ k. get_or (low ++ drop limit work) k 0) e ∙ get_or-append-add low (drop limit work) j 0 ∙ get_or-drop limit work j 0 ∙ ap (λ k. get_or work k 0) f

  pub lent-moved : (t t₁ a : ℕ) → t ≤ limit → t₁ ≤ limit → Moved (take limit work) low t t₁ a → Moved work (low ++ drop limit work) t t₁ a
  lent-moved t t₁ a l l' M = record { rises = M.rises; few = M.few; keeps = lent-take t l ∙ M.keeps ∙ take-take t limit work l }

  pub lent-up-to : (store : List ℕ) (t : ℕ) → t ≤ limit → up_to store (low ++ drop limit work) t ≡ up_to store low t
  lent-up-to store t l = ap (λ k. store ++ k) (lent-take t l)
