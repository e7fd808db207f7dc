-- The attributes of a record, evaluated one by one: those that have come to something wait with their names, and what is left gives what all gives.
use Rattle.std.proofs.Common.{◌≡◌, ℕ, zero, suc, ◌+◌, ◌-◌, ◌*◌, ◌<◌, ◌≤◌, List, [], ◌∷◌, ◌++◌, get_or, take, Ok, sym, refl, ap, ◌∙◌, subst, inl, inr, arith}
use Rattle.std.proofs.lemmas.Bool.{cases_eq}
use Rattle.spec.specs.Basics.{Except, ok, error, ◌>>=◌, Text, insert_all, name}
use Rattle.spec.specs.Values as s
use Rattle.spec.specs.Values.{to_attrs}
use Rattle.spec.specs.Exprs.{record_of}
use Rattle.spec.specs.Evaluate.{Error, evaluate, evaluate_attrs}
use Rattle.values.specs.Held.{text_at, TextIn, behind_text, decode, Good}
use Rattle.values.specs.Making.{up_to, waiting_name, waiting_attr, waiting_attrs, attrs_of, LaidAttr}
use Rattle.values.specs.declared.nodes.Value.{Value}
use Rattle.values.specs.declared.nodes.Value.TheVariants.{String}
use Rattle.values.proofs.Frame.{text-on, text_in-on}
use Rattle.values.proofs.Made.{good-later, decode-later}
use Rattle.values.proofs.Waits.{name-waits-beyond, name-waits-here, name-waits-still, attr-waits-beyond, attr-waits-here, attr-waits-still}
use Rattle.operators.specs.Code.{Says}
use Rattle.exprs.specs.Heads.{size, behind}
use Rattle.exprs.specs.Stored.{attrs_from, expr_at, attr_sizes, Row, AttrsFrom, GoodExpr}
use Rattle.evaluator.specs.Evaluated.{Moved}
use Rattle.evaluator.proofs.Steps.{keeps_on}
use Rattle.evaluator.proofs.Lists.{listed-push, nothing_yet, one-more-left, fails-there, all_done, keeps-less, text-later}

pub attrs-long : (G : ℕ → Type 0) (m : List ℕ) (p n : ℕ) → AttrsFrom G m p n → 4 * n ≤ attr_sizes m p n
attrs-long G m p zero h = omega arith
attrs-long G m p (suc n) h = let r = attrs-long G m (behind m (behind_text m p)) n h.2 in omega (arith, r, h.1.1)

-- where k of n are done, and one is left
pub record NextAttr (h : ℕ) (m : List ℕ) (p n k : ℕ) (q : s.Request) (es : s.Entities) : Type 0 where
  pub text : TextIn m p
  pub row : Row (GoodExpr h m) m (behind_text m p)
  pub rest : AttrsFrom (GoodExpr h m) m (behind m (behind_text m p)) (n - (k + 1))
  pub sized : attr_sizes m p (n - k) ≡ 1 + size m (behind_text m p) + attr_sizes m (behind m (behind_text m p)) (n - (k + 1))
  pub left : evaluate_attrs (attrs_from (expr_at h m) m p (n - k)) q es
      ≡ (evaluate (expr_at h m (behind_text m p)) q es >>= (λ v. evaluate_attrs (attrs_from (expr_at h m) m (behind m (behind_text m p)) (n - (k + 1))) q es >>= (λ fs. ok ((text_at m p, v) ∷ fs))))
  pub long : 4 * (n - (k + 1)) ≤ attr_sizes m (behind m (behind_text m p)) (n - (k + 1))

pub next-attr : (h : ℕ) (m : List ℕ) (p n k : ℕ) (q : s.Request) (es : s.Entities) → k < n → AttrsFrom (GoodExpr h m) m p (n - k) → NextAttr h m p n k q es
next-attr h m p n k q es l r =
    let e : n - k ≡ suc (n - (k + 1)) = omega arith in
    let r' : AttrsFrom (GoodExpr h m) m p (suc (n - (k + 1))) = subst (AttrsFrom (GoodExpr h m) m p) e r in
    record {
      text = r'.0;
      row = r'.1;
      rest = r'.2;
      sized = ap (attr_sizes m p) e;
      left = ap (λ j. evaluate_attrs (attrs_from (expr_at h m) m p j) q es) e;
      long = attrs-long (GoodExpr h m) m (behind m (behind_text m p)) (n - (k + 1)) r'.2;
    }

-- so far: the work memory and its top when it began and now, where the next name lies, and how many are done
pub record RecordSoFar (store : List ℕ) (h first n : ℕ) (q : s.Request) (es : s.Entities) (w₀ : List ℕ) (t₀ limit : ℕ) (w : List ℕ) (t at k : ℕ) : Type 0 where
  pub rows : AttrsFrom (GoodExpr h store) store at (n - k)
  pub past : attr_sizes store at (n - k) + 4 * k ≤ attr_sizes store first n
  pub rises : t₀ ≤ t
  pub few : t + 6 * k + 2 * attr_sizes store at (n - k) ≤ t₀ + 2 * attr_sizes store first n
  pub keeps : take t₀ w ≡ take t₀ w₀
  pub texts : (j : ℕ) → j < k → TextIn (up_to store w t) (waiting_name w limit j)
  pub good : (j : ℕ) → j < k → Good (h + 65) (up_to store w t) (waiting_attr w limit j)
  pub left : evaluate_attrs (attrs_from (expr_at h store) store first n) q es ≡ (evaluate_attrs (attrs_from (expr_at h store) store at (n - k)) q es >>= (λ fs. ok (waiting_attrs (h + 65) (up_to store w t) w limit k ++ fs)))

pub record-next : {store : List ℕ} {h first n : ℕ} {q : s.Request} {es : s.Entities} {w₀ : List ℕ} {t₀ limit : ℕ} {w : List ℕ} {t at k : ℕ} → RecordSoFar store h first n q es w₀ t₀ limit w t at k → k < n → NextAttr h store at n k q es
record-next {store} {h} {first} {n} {q} {es} {w₀} {t₀} {limit} {w} {t} {at} {k} I l = next-attr h store at n k q es l I.rows

module _ (store : List ℕ) (h first n : ℕ) (q : s.Request) (es : s.Entities) (w₀ : List ℕ) (t₀ limit : ℕ) where
  pub record-begins : AttrsFrom (GoodExpr h store) store first n → RecordSoFar store h first n q es w₀ t₀ limit w₀ t₀ first 0
  record-begins r =
      let e : n ≡ n - 0 = omega arith in
      let z : attr_sizes store first n ≡ attr_sizes store first (n - 0) = ap (attr_sizes store first) e in
      record {
        rows = subst (AttrsFrom (GoodExpr h store) store first) e r;
        past = omega arith;
        rises = omega arith;
        few = omega arith;
        keeps = refl;
        texts = λ j l. absurd (omega arith);
        good = λ j l. absurd (omega arith);
        left = ap (λ j. evaluate_attrs (attrs_from (expr_at h store) store first j) q es) e ∙ nothing_yet (evaluate_attrs (attrs_from (expr_at h store) store first (n - 0)) q es);
      }

  module _ (w w' w'' : List ℕ) (t t' at k : ℕ) (v : Value) (I : RecordSoFar store h first n q es w₀ t₀ limit w t at k) (l : k < n) where
    pub record-goes-on : Moved w w' t t' (size store (behind_text store at)) → ((i : ℕ) → limit ≤ i → get_or w' i 0 ≡ get_or w i 0) → t' ≤ limit →
        Says (h + 65) (up_to store w' t') (Ok v) (evaluate (expr_at h store (behind_text store at)) q es) → LaidAttr w' w'' (limit + 3 * k) at v →
        RecordSoFar store h first n q es w₀ t₀ limit w'' t' (behind store (behind_text store at)) (k + 1)
    record-goes-on M beyond below d L =
        let N = next-attr h store at n k q es l I.rows in
        let m : List ℕ = up_to store w t in
        let m'' : List ℕ = up_to store w'' t' in
        let up : take t' w'' ≡ take t' w' = keeps-less t' (limit + 3 * k) w'' w' (omega arith) L.before in
        let kept : take t w'' ≡ take t w = keeps_on t t' w w' w'' M.rises M.keeps up in
        let named : (j : ℕ) → j < k → waiting_name w'' limit j ≡ waiting_name w limit j = λ j b. name-waits-still w' w'' limit k at v L j b ∙ name-waits-beyond w w' limit beyond j in
        let name-here : waiting_name w'' limit k ≡ at = name-waits-here w' w'' limit k at v L in
        let same : (j : ℕ) → j < k → waiting_attr w'' limit j ≡ waiting_attr w limit j = λ j b. attr-waits-still w' w'' limit k at v L j b ∙ attr-waits-beyond w w' limit beyond j in
        let here : waiting_attr w'' limit k ≡ v = attr-waits-here w' w'' limit k at v L in
        let f : ℕ → Text × s.Value = λ j. (text_at m (waiting_name w limit j), decode (h + 65) m (waiting_attr w limit j)) in
        let g : ℕ → Text × s.Value = λ j. (text_at m'' (waiting_name w'' limit j), decode (h + 65) m'' (waiting_attr w'' limit j)) in
        let ds : List (Text × s.Value) = waiting_attrs (h + 65) m w limit k in
        let a : s.Value = decode (h + 65) (up_to store w' t') v in
        let old : (j : ℕ) → j < k → g j ≡ f j = λ j b.
        let x : text_at m'' (waiting_name w'' limit j) ≡ text_at m (waiting_name w limit j) = ap (text_at m'') (named j b) ∙ text-later store w w'' t t' (waiting_name w limit j) M.rises kept (I.texts j b) in
        let y : decode (h + 65) m'' (waiting_attr w'' limit j) ≡ decode (h + 65) m (waiting_attr w limit j) = ap (decode (h + 65) m'') (same j b) ∙ decode-later store w w'' t t' (h + 65) (waiting_attr w limit j) M.rises kept (I.good j b) in
        λ i. (x i, y i) in
        let new : g k ≡ (text_at store at, a) =
        let x : text_at m'' (waiting_name w'' limit k) ≡ text_at store at = ap (text_at m'') name-here ∙ text-on store (take t' w'') at N.text in
        let y : decode (h + 65) m'' (waiting_attr w'' limit k) ≡ a = ap (decode (h + 65) m'') here ∙ decode-later store w' w'' t' t' (h + 65) v (omega arith) up d.1 in
        λ i. (x i, y i) in
        let pushed : waiting_attrs (h + 65) m'' w'' limit (k + 1) ≡ ds ++ ((text_at store at, a) ∷ []) = listed-push f g k (text_at store at, a) old new in
        let rest : Except Error (List (Text × s.Value)) = evaluate_attrs (attrs_from (expr_at h store) store (behind store (behind_text store at)) (n - (k + 1))) q es in
        let row = N.row.1 in
        let sized = N.sized in
        record {
          rows = N.rest;
          past = omega (arith, I.past);
          rises = omega (arith, I.rises, M.rises);
          few = omega (arith, I.few, M.few);
          keeps = keeps_on t₀ t w₀ w w'' I.rises I.keeps kept;
          texts = λ j b. elim (cases_eq j k) [
            | inl z ↦ subst (TextIn m'') (sym (ap (waiting_name w'' limit) z ∙ name-here)) (text_in-on store (take t' w'') at N.text)
            | inr u ↦ let b' : j < k = omega arith in subst (TextIn m'') (sym (named j b')) (good-later store w w'' t t' 1 (String (waiting_name w limit j)) M.rises kept (I.texts j b'))
          ];
          good = λ j b. elim (cases_eq j k) [
            | inl z ↦ subst (Good (h + 65) m'') (sym (ap (waiting_attr w'' limit) z ∙ here)) (good-later store w' w'' t' t' (h + 65) v (omega arith) up d.1)
            | inr u ↦ let b' : j < k = omega arith in subst (Good (h + 65) m'') (sym (same j b')) (good-later store w w'' t t' (h + 65) (waiting_attr w limit j) M.rises kept (I.good j b'))
          ];
          left = I.left
              ∙ ap (λ o. o >>= (λ fs. ok (ds ++ fs))) N.left
              ∙ one-more-left (evaluate (expr_at h store (behind_text store at)) q es) a (λ x. (text_at store at, x)) rest ds d.0
              ∙ ap (λ z. rest >>= (λ fs. ok (z ++ fs))) (sym pushed);
        }

    pub record-fails : (e : Error) → evaluate (expr_at h store (behind_text store at)) q es ≡ error e → evaluate (record_of (attrs_from (expr_at h store) store first n)) q es ≡ error e
    record-fails e d =
        let N = next-attr h store at n k q es l I.rows in
        let ds : List (Text × s.Value) = waiting_attrs (h + 65) (up_to store w t) w limit k in
        let rest : Except Error (List (Text × s.Value)) = evaluate_attrs (attrs_from (expr_at h store) store (behind store (behind_text store at)) (n - (k + 1))) q es in
        ap (λ o. o >>= (λ fs. ok (s.record_of (to_attrs (insert_all name fs)))))
        (I.left ∙ ap (λ o. o >>= (λ fs. ok (ds ++ fs))) N.left ∙ fails-there (evaluate (expr_at h store (behind_text store at)) q es) e (λ x. (text_at store at, x)) rest ds d)

  pub record-ends : (w : List ℕ) (t at k : ℕ) (I : RecordSoFar store h first n q es w₀ t₀ limit w t at k) → n ≤ k → k ≤ n →
      evaluate (record_of (attrs_from (expr_at h store) store first n)) q es ≡ ok (s.record_of (attrs_of (waiting_attrs (h + 65) (up_to store w t) w limit n)))
  record-ends w t at k I a b =
      let e : k ≡ n = omega arith in
      let z : n - k ≡ 0 = omega arith in
      let ds : List (Text × s.Value) = waiting_attrs (h + 65) (up_to store w t) w limit k in
      let done : evaluate_attrs (attrs_from (expr_at h store) store first n) q es ≡ ok ds =
      all_done (evaluate_attrs (attrs_from (expr_at h store) store first n) q es) ds (I.left ∙ ap (λ j. evaluate_attrs (attrs_from (expr_at h store) store at j) q es >>= (λ fs. ok (ds ++ fs))) z) in
      ap (λ o. o >>= (λ fs. ok (s.record_of (to_attrs (insert_all name fs))))) (done ∙ ap (λ j. ok (waiting_attrs (h + 65) (up_to store w t) w limit j)) e)
