-- One evaluation after the other, on a work memory as one: what it has room for, what is asked of it, and what is said.
use Rattle.std.proofs.Common.{◌≡◌, ℕ, suc, ◌+◌, ◌≤◌, Bool, true, false, cond, List, ◌++◌, take, Ok, Err, Result, IsErrAnd, sym, refl, ap, ◌∙◌, subst, arith}
use mathlib.Core.Bool.{beq}
use Rattle.std.proofs.lemmas.Result.{err_from_is_err_and}
use Rattle.spec.specs.Basics.{Except, ok, error}
use Rattle.spec.specs.Values as s
use Rattle.spec.specs.Exprs.{Expr, ite}
use Rattle.spec.specs.Evaluate.{Error, type_error, of_bool, just_bool, evaluate}
use Rattle.values.specs.declared.nodes.Value.{Value}
use Rattle.values.specs.declared.nodes.Value.TheVariants.{Bool as B}
use Rattle.operators.specs.Code.{error_of, Says}
use Rattle.operators.specs.declared.errors.EvalError.{EvalError}
use Rattle.entities.specs.Rows.{entities_at, request_at}
use Rattle.exprs.specs.Heads.{size}
use Rattle.entities.proofs.Meant.{request-grows}
use Rattle.exprs.specs.Stored.{expr_at, Row, GoodExpr}
use Rattle.values.specs.Memory.{numbers}
use Rattle.entities.specs.declared.env.Env.{Env}
use Rattle.entities.specs.declared.env.EnvView.{EnvView}
use Rattle.evaluator.specs.Running.{made, IsAsked, comes_to, HasRoom, Moves, logic}
use Rattle.evaluator.specs.declared.running.Inputs.{Inputs}
use Rattle.evaluator.specs.declared.running.Work.{Work}
use Rattle.evaluator.proofs.Steps.{moved-one, moved-two, says-taller, of-request, operand, and-wrong, or-wrong, and-by, or-by, ite-by}

-- what the definitions are given
abbrev pub request_of : Inputs → Work → s.Request
request_of i w = request_at (made i w) i.env.now.request

abbrev pub entities_of : Inputs → s.Entities
entities_of i = entities_at i.store.now i.env.now.entities

-- ---- what is left
pub moves-one : {w w₁ : Work} {a : ℕ} (c : ℕ) → a ≤ c → Moves w w₁ a → Moves w w₁ c
moves-one c le M = record { long = M.long; moved = moved-one c le M.moved }

pub moves-two : {w w₁ w₂ : Work} {a b : ℕ} (c : ℕ) → a + b ≤ c → Moves w w₁ a → Moves w₁ w₂ b → Moves w w₂ c
moves-two c le M N = record { long = N.long ∙ M.long; moved = moved-two c le M.moved N.moved }

pub room-left : (w w₁ : Work) (a b c : ℕ) → a + b ≤ c → HasRoom w c → Moves w w₁ a → HasRoom w₁ b
room-left w w₁ a b c le h M = omega (arith, M.long, M.moved.few)

-- what is asked stays, as the work memory grows
module _ (i : Inputs) (w w₁ : Work) (rises : w.top ≤ w₁.top) (keeps : take w.top w₁.numbers.now ≡ take w.top w.numbers.now) (A : IsAsked i w) where
  grown : IsAsked i w₁ × (request_of i w₁ ≡ request_of i w)
  grown = request-grows i.store.now w.numbers.now w₁.numbers.now w.top w₁.top i.env.now.entities i.env.now.request rises keeps A

  pub asked-since : IsAsked i w₁
  asked-since = grown.0

  -- what is said of the request as it was before
  pub says-since : (h : ℕ) (m : List ℕ) (r : Result Value EvalError) (e : Expr) → Says h m r (comes_to i w₁ e) → Says h m r (comes_to i w e)
  says-since h m r e d = of-request h m r e (request_of i w) (request_of i w₁) (entities_of i) grown.1 d

module _ (i : Inputs) (w w₁ : Work) (a : ℕ) (A : IsAsked i w) (M : Moves w w₁ a) where
  pub asked-then : IsAsked i w₁
  asked-then = asked-since i w w₁ M.moved.rises M.moved.keeps A

  pub then-says : (h : ℕ) (m : List ℕ) (r : Result Value EvalError) (e : Expr) → Says h m r (comes_to i w₁ e) → Says h m r (comes_to i w e)
  then-says h m r e d = says-since i w w₁ M.moved.rises M.moved.keeps A h m r e d

pub taller : (i : Inputs) (w : Work) (h : ℕ) (r : Result Value EvalError) (o : Except Error s.Value) → Says h (made i w) r o → Says (suc h) (made i w) r o
taller i w h r o d = says-taller i.store.now w.numbers.now w.top h r o d

-- what `?` hands on: the same error
pub handed-on-as : (h : ℕ) (m : List ℕ) (r : Result Value EvalError) (e : EvalError) (o : Except Error s.Value) → IsErrAnd r (λ k. k ≡ e) → o ≡ error (error_of e) → Says h m r o
handed-on-as h m r e o is d =
    let p = err_from_is_err_and r is in
    subst (λ k. Says h m k o) (sym (p.1 ∙ ap Err p.2)) d

-- ---- operands: what came is good and stands for what it came to, at the height at which operators are applied
module _ (i : Inputs) (w w₁ w₂ : Work) (a b h : ℕ) (e : Expr) (A : IsAsked i w) (M : Moves w w₁ a) (N : Moves w₁ w₂ b) where
  -- the one that came before the other
  pub left-operand : (p : Result Value EvalError) (v : Value) → p ≡ Ok v → Says (h + 65) (made i w₁) p (comes_to i w e) → Says (h + 66) (made i w₂) (Ok v) (comes_to i w e)
  left-operand p v q d = operand i.store.now w₁.numbers.now w₂.numbers.now w₁.top w₂.top h v (comes_to i w e) N.moved.rises N.moved.keeps (subst (λ k. Says (h + 65) (made i w₁) k (comes_to i w e)) q d)

  -- the one that came after it
  pub right-came : (p r : Result Value EvalError) → p ≡ r → Says (h + 65) (made i w₂) p (comes_to i w₁ e) → Says (h + 65) (made i w₂) r (comes_to i w e)
  right-came p r q d = then-says i w w₁ a A M (h + 65) (made i w₂) r e (subst (λ k. Says (h + 65) (made i w₂) k (comes_to i w₁ e)) q d)

pub last-operand : (i : Inputs) (w : Work) (h : ℕ) (v : Value) (o : Except Error s.Value) → Says (h + 65) (made i w) (Ok v) o → Says (h + 66) (made i w) (Ok v) o
last-operand i w h v o d = operand i.store.now w.numbers.now w.numbers.now w.top w.top h v o (omega arith) refl d

-- of what is given and all that is made by now, as it is seen at once
module _ (P : List ℕ → List ℕ → Env → Type 0) (i : Inputs) (w : Work) (v : EnvView) (e : v.memory.store.now ≡ i.store.now) (f : v.memory.work.now ≡ take w.top w.numbers.now) (g : v.env ≡ i.env.now) where
  pub seen : P i.store.now (made i w) i.env.now → P v.memory.store.now (numbers v.memory) v.env
  seen p =
      subst (λ k. P v.memory.store.now (numbers v.memory) k) (sym g)
      (subst (λ k. P k (k ++ v.memory.work.now) i.env.now) (sym e) (subst (λ k. P i.store.now (i.store.now ++ k) i.env.now) (sym f) p))

  pub as-seen : P v.memory.store.now (numbers v.memory) v.env → P i.store.now (made i w) i.env.now
  as-seen p =
      subst (λ k. P i.store.now (i.store.now ++ k) i.env.now) f
      (subst (λ k. P k (k ++ v.memory.work.now) i.env.now) e (subst (λ k. P v.memory.store.now (numbers v.memory) k) g p))

-- ---- if: the second or the third is evaluated, by the first
-- what is evaluated next is one of two rows
pub record Chosen (m : List ℕ) (h y z : ℕ) (b : Bool) (n : ℕ) : Type 0 where
  pub row : Row (GoodExpr h m) m n
  pub few : size m n ≤ size m y + size m z
  pub is : cond b (expr_at h m y) (expr_at h m z) ≡ expr_at h m n

pub chosen-then : (m : List ℕ) (h y z : ℕ) (b : Bool) (n : ℕ) → b ≡ true → n ≡ y → Row (GoodExpr h m) m y → Chosen m h y z b n
chosen-then m h y z b n p q r =
    let x : Chosen m h y z true y = record { row = r; few = omega arith; is = refl } in
    subst (λ b. Chosen m h y z b n) (sym p) (subst (λ n. Chosen m h y z true n) (sym q) x)

pub chosen-else : (m : List ℕ) (h y z : ℕ) (b : Bool) (n : ℕ) → b ≡ false → n ≡ z → Row (GoodExpr h m) m z → Chosen m h y z b n
chosen-else m h y z b n p q r =
    let x : Chosen m h y z false z = record { row = r; few = omega arith; is = refl } in
    subst (λ b. Chosen m h y z b n) (sym p) (subst (λ n. Chosen m h y z false n) (sym q) x)

cond-evaluate : (b : Bool) (x y : Expr) (q : s.Request) (es : s.Entities) → cond b (evaluate x q es) (evaluate y q es) ≡ evaluate (cond b x y) q es
cond-evaluate true x y q es = refl
cond-evaluate false x y q es = refl

pub ite-chosen : (h : ℕ) (m : List ℕ) (v : Value) (k : ℕ) (st : List ℕ) (x y z n : ℕ) (b : Bool) (q : s.Request) (es : s.Entities) → v ≡ B b → Chosen st k y z b n → Says h m (Ok v) (evaluate (expr_at k st x) q es) →
    evaluate (ite (expr_at k st x) (expr_at k st y) (expr_at k st z)) q es ≡ evaluate (expr_at k st n) q es
ite-chosen h m v k st x y z n b q es e C d =
    ite-by h m v (expr_at k st x) (expr_at k st y) (expr_at k st z) q es b b e refl d
    ∙ cond-evaluate b (expr_at k st y) (expr_at k st z) q es
    ∙ ap (λ e. evaluate e q es) C.is

-- ---- and, or
pub bools-same : (b d : Bool) → beq b d ≡ true → b ≡ d
bools-same false false h = refl
bools-same true true h = refl
bools-same false true h = cc
bools-same true false h = cc

pub bools-other : (b d : Bool) → beq b d ≡ false → b ≡ d → ⊥
bools-other false false h e = cc
bools-other true true h e = cc
bools-other false true h e = cc
bools-other true false h e = cc

module _ (h : ℕ) (m : List ℕ) (v : Value) (l r : Expr) (q : s.Request) (es : s.Entities) where
  pub logic-wrong : (d : Bool) → ((b : Bool) → v ≡ B b → ⊥) → Says h m (Ok v) (evaluate l q es) → evaluate (logic d l r) q es ≡ error type_error
  logic-wrong false n s = and-wrong h m v l r r q es n s
  logic-wrong true n s = or-wrong h m v l r r q es n s

  -- the first decides
  logic-decided : (d b : Bool) → v ≡ B b → b ≡ d → Says h m (Ok v) (evaluate l q es) → evaluate (logic d l r) q es ≡ ok (of_bool d)
  logic-decided false b e f s = and-by h m v l r r q es b false e f s
  logic-decided true b e f s = or-by h m v l r r q es b true e f s

  pub decided-says : (d b : Bool) → v ≡ B b → b ≡ d → Says h m (Ok v) (evaluate l q es) → Says (suc h) m (Ok (B d)) (evaluate (logic d l r) q es)
  decided-says d b e f s = (logic-decided d b e f s, tt)

  -- it does not
  pub logic-open : (d b : Bool) → v ≡ B b → (b ≡ d → ⊥) → Says h m (Ok v) (evaluate l q es) → evaluate (logic d l r) q es ≡ just_bool (evaluate r q es)
  logic-open false false e n s = absurd (n refl)
  logic-open false true e n s = and-by h m v l r r q es true true e refl s
  logic-open true false e n s = or-by h m v l r r q es false false e refl s
  logic-open true true e n s = absurd (n refl)
