-- The elements of a set, evaluated one by one: those that have come to something wait, and what is left gives what all gives.
use Rattle.std.proofs.Common.{◌≡◌, ℕ, zero, suc, ◌+◌, ◌-◌, ◌*◌, ◌<◌, ◌≤◌, List, [], ◌∷◌, ◌++◌, get_or, take, Ok, sym, refl, ap, ◌∙◌, subst, inl, inr, arith}
use Rattle.std.proofs.lemmas.Bool.{cases_eq}
use Rattle.spec.specs.Basics.{Except, ok, error, ◌>>=◌, insert_all}
use Rattle.spec.specs.Values as s
use Rattle.spec.specs.Values.{to_values, code}
use Rattle.spec.specs.Exprs.{set}
use Rattle.spec.specs.Evaluate.{Error, evaluate, evaluate_all}
use Rattle.values.specs.Held.{decode, Good, Stands}
use Rattle.values.specs.Making.{up_to, waiting, waiting_values, values_of, Laid}
use Rattle.values.specs.declared.nodes.Value.{Value}
use Rattle.values.proofs.Made.{good-later, decode-later}
use Rattle.values.proofs.Waits.{waits-beyond, waits-here, waits-still}
use Rattle.operators.specs.Code.{Says}
use Rattle.exprs.specs.Heads.{size, behind}
use Rattle.exprs.specs.Stored.{exprs_from, expr_at, sizes, Row, RowsFrom, GoodExpr}
use Rattle.evaluator.specs.Evaluated.{Moved}
use Rattle.evaluator.proofs.Steps.{keeps_on}
use Rattle.evaluator.proofs.Lists.{listed-push, nothing_yet, one-more-left, fails-there, all_done, keeps-less}

pub rows_long : (G : ℕ → Type 0) (m : List ℕ) (p n : ℕ) → RowsFrom G m p n → 3 * n ≤ sizes m p n
rows_long G m p zero h = omega arith
rows_long G m p (suc n) h = let r = rows_long G m (behind m p) n h.1 in omega (arith, r, h.0.1)

-- where k of n are done, and one is left
pub record NextRow (h : ℕ) (m : List ℕ) (p n k : ℕ) (q : s.Request) (es : s.Entities) : Type 0 where
  pub row : Row (GoodExpr h m) m p
  pub rest : RowsFrom (GoodExpr h m) m (behind m p) (n - (k + 1))
  pub sized : sizes m p (n - k) ≡ size m p + sizes m (behind m p) (n - (k + 1))
  pub left : evaluate_all (exprs_from (expr_at h m) m p (n - k)) q es ≡ (evaluate (expr_at h m p) q es >>= (λ v. evaluate_all (exprs_from (expr_at h m) m (behind m p) (n - (k + 1))) q es >>= (λ vs. ok (v ∷ vs))))
  pub long : 3 * (n - (k + 1)) ≤ sizes m (behind m p) (n - (k + 1))

pub next_row : (h : ℕ) (m : List ℕ) (p n k : ℕ) (q : s.Request) (es : s.Entities) → k < n → RowsFrom (GoodExpr h m) m p (n - k) → NextRow h m p n k q es
next_row h m p n k q es l r =
    let e : n - k ≡ suc (n - (k + 1)) = omega arith in
    let r' : RowsFrom (GoodExpr h m) m p (suc (n - (k + 1))) = subst (RowsFrom (GoodExpr h m) m p) e r in
    record {
      row = r'.0;
      rest = r'.1;
      sized = ap (sizes m p) e;
      left = ap (λ j. evaluate_all (exprs_from (expr_at h m) m p j) q es) e;
      long = rows_long (GoodExpr h m) m (behind m p) (n - (k + 1)) r'.1;
    }

-- so far: the work memory and its top when it began and now, where the next row lies, and how many are done
pub record SetSoFar (store : List ℕ) (h first n : ℕ) (q : s.Request) (es : s.Entities) (w₀ : List ℕ) (t₀ limit : ℕ) (w : List ℕ) (t at k : ℕ) : Type 0 where
  pub rows : RowsFrom (GoodExpr h store) store at (n - k)
  pub past : sizes store at (n - k) + 3 * k ≤ sizes store first n
  pub rises : t₀ ≤ t
  pub few : t + 4 * k + 2 * sizes store at (n - k) ≤ t₀ + 2 * sizes store first n
  pub keeps : take t₀ w ≡ take t₀ w₀
  pub good : (j : ℕ) → j < k → Good (h + 65) (up_to store w t) (waiting w limit j)
  pub left : evaluate_all (exprs_from (expr_at h store) store first n) q es ≡ (evaluate_all (exprs_from (expr_at h store) store at (n - k)) q es >>= (λ vs. ok (waiting_values (h + 65) (up_to store w t) w limit k ++ vs)))

pub set-next : {store : List ℕ} {h first n : ℕ} {q : s.Request} {es : s.Entities} {w₀ : List ℕ} {t₀ limit : ℕ} {w : List ℕ} {t at k : ℕ} → SetSoFar store h first n q es w₀ t₀ limit w t at k → k < n → NextRow h store at n k q es
set-next {store} {h} {first} {n} {q} {es} {w₀} {t₀} {limit} {w} {t} {at} {k} I l = next_row h store at n k q es l I.rows

module _ (store : List ℕ) (h first n : ℕ) (q : s.Request) (es : s.Entities) (w₀ : List ℕ) (t₀ limit : ℕ) where
  pub set-begins : RowsFrom (GoodExpr h store) store first n → SetSoFar store h first n q es w₀ t₀ limit w₀ t₀ first 0
  set-begins r =
      let e : n ≡ n - 0 = omega arith in
      let z : sizes store first n ≡ sizes store first (n - 0) = ap (sizes store first) e in
      record {
        rows = subst (RowsFrom (GoodExpr h store) store first) e r;
        past = omega arith;
        rises = omega arith;
        few = omega arith;
        keeps = refl;
        good = λ j l. absurd (omega arith);
        left = ap (λ j. evaluate_all (exprs_from (expr_at h store) store first j) q es) e ∙ nothing_yet (evaluate_all (exprs_from (expr_at h store) store first (n - 0)) q es);
      }

  module _ (w w' w'' : List ℕ) (t t' at k : ℕ) (v : Value) (I : SetSoFar store h first n q es w₀ t₀ limit w t at k) (l : k < n) where
    pub set-goes-on : Moved w w' t t' (size store at) → ((i : ℕ) → limit ≤ i → get_or w' i 0 ≡ get_or w i 0) → t' ≤ limit → Says (h + 65) (up_to store w' t') (Ok v) (evaluate (expr_at h store at) q es) → Laid w' w'' (limit + 2 * k) v →
        SetSoFar store h first n q es w₀ t₀ limit w'' t' (behind store at) (k + 1)
    set-goes-on M beyond below d L =
        let N = next_row h store at n k q es l I.rows in
        let m : List ℕ = up_to store w t in
        let m'' : List ℕ = up_to store w'' t' in
        let up : take t' w'' ≡ take t' w' = keeps-less t' (limit + 2 * k) w'' w' (omega arith) L.before in
        let kept : take t w'' ≡ take t w = keeps_on t t' w w' w'' M.rises M.keeps up in
        let same : (j : ℕ) → j < k → waiting w'' limit j ≡ waiting w limit j = λ j b. waits-still w' w'' limit k v L j b ∙ waits-beyond w w' limit beyond j in
        let here : waiting w'' limit k ≡ v = waits-here w' w'' limit k v L in
        let f : ℕ → s.Value = λ j. decode (h + 65) m (waiting w limit j) in
        let g : ℕ → s.Value = λ j. decode (h + 65) m'' (waiting w'' limit j) in
        let ds : List s.Value = waiting_values (h + 65) m w limit k in
        let a : s.Value = decode (h + 65) (up_to store w' t') v in
        let pushed : waiting_values (h + 65) m'' w'' limit (k + 1) ≡ ds ++ (a ∷ []) =
        listed-push f g k a
        (λ j b. ap (decode (h + 65) m'') (same j b) ∙ decode-later store w w'' t t' (h + 65) (waiting w limit j) M.rises kept (I.good j b))
        (ap (decode (h + 65) m'') here ∙ decode-later store w' w'' t' t' (h + 65) v (omega arith) up d.1) in
        let rest : Except Error (List s.Value) = evaluate_all (exprs_from (expr_at h store) store (behind store at) (n - (k + 1))) q es in
        let row = N.row.1 in
        let sized = N.sized in
        record {
          rows = N.rest;
          past = omega (arith, I.past);
          rises = omega (arith, I.rises, M.rises);
          few = omega (arith, I.few, M.few);
          keeps = keeps_on t₀ t w₀ w w'' I.rises I.keeps kept;
          good = λ j b. elim (cases_eq j k) [
            | inl z ↦ subst (Good (h + 65) m'') (sym (ap (waiting w'' limit) z ∙ here)) (good-later store w' w'' t' t' (h + 65) v (omega arith) up d.1)
            | inr u ↦ let b' : j < k = omega arith in subst (Good (h + 65) m'') (sym (same j b')) (good-later store w w'' t t' (h + 65) (waiting w limit j) M.rises kept (I.good j b'))
          ];
          left = I.left
              ∙ ap (λ o. o >>= (λ vs. ok (ds ++ vs))) N.left
              ∙ one-more-left (evaluate (expr_at h store at) q es) a (λ x. x) rest ds d.0
              ∙ ap (λ z. rest >>= (λ vs. ok (z ++ vs))) (sym pushed);
        }

    pub set_fails : (e : Error) → evaluate (expr_at h store at) q es ≡ error e → evaluate (set (exprs_from (expr_at h store) store first n)) q es ≡ error e
    set_fails e d =
        let N = next_row h store at n k q es l I.rows in
        let ds : List s.Value = waiting_values (h + 65) (up_to store w t) w limit k in
        let rest : Except Error (List s.Value) = evaluate_all (exprs_from (expr_at h store) store (behind store at) (n - (k + 1))) q es in
        ap (λ o. o >>= (λ vs. ok (s.set (to_values (insert_all code vs)))))
        (I.left ∙ ap (λ o. o >>= (λ vs. ok (ds ++ vs))) N.left ∙ fails-there (evaluate (expr_at h store at) q es) e (λ x. x) rest ds d)

  pub set-ends : (w : List ℕ) (t at k : ℕ) (I : SetSoFar store h first n q es w₀ t₀ limit w t at k) → n ≤ k → k ≤ n →
      evaluate (set (exprs_from (expr_at h store) store first n)) q es ≡ ok (s.set (values_of (waiting_values (h + 65) (up_to store w t) w limit n)))
  set-ends w t at k I a b =
      let e : k ≡ n = omega arith in
      let z : n - k ≡ 0 = omega arith in
      let ds : List s.Value = waiting_values (h + 65) (up_to store w t) w limit k in
      let done : evaluate_all (exprs_from (expr_at h store) store first n) q es ≡ ok ds =
      all_done (evaluate_all (exprs_from (expr_at h store) store first n) q es) ds (I.left ∙ ap (λ j. evaluate_all (exprs_from (expr_at h store) store at j) q es >>= (λ vs. ok (ds ++ vs))) z) in
      ap (λ o. o >>= (λ vs. ok (s.set (to_values (insert_all code vs))))) (done ∙ ap (λ j. ok (waiting_values (h + 65) (up_to store w t) w limit j)) e)

-- what is made of them stands for the set
pub made-says : (h : ℕ) (m : List ℕ) (v : Value) (a : s.Value) (o : Except Error s.Value) → o ≡ ok a → Stands (h + 65 + 1) m v a → Says (suc (h + 65)) m (Ok v) o
made-says h m v a o e S =
    let k : h + 65 + 1 ≡ suc (h + 65) = omega arith in
    let T : Stands (suc (h + 65)) m v a = subst (λ j. Stands j m v a) k S in
    (e ∙ ap ok (sym T.is), T.good)
