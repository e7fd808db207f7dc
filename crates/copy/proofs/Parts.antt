-- A list while it is walked: some of its elements lie before a place, and the others behind it.
use Rattle.std.proofs.Common.{◌≡◌, ℕ, zero, suc, ◌+◌, ◌<◌, ◌≤◌, Bool, true, false, cond, eqb, List, [], ◌∷◌, ◌++◌, length, get_or, drop, sym, refl, ap, ◌∙◌, ⊎_elim, arith}
use Rattle.std.proofs.lemmas.List.{append_assoc, append-nil, drop_more, drop_all, drop-drop, length_push}
use Rattle.std.proofs.lemmas.Bool.{eqb-true, cases_lt, cases_eq}
use Rattle.spec.specs.Bytes.{Bytes}
use Rattle.rows.specs.Rows.{rows_of}
use Rattle.wire.specs.Read.{Read, got, stops, past, next, read_list}
use Rattle.wire.proofs.Exact.{got-stops, got-long, got_same}
use Rattle.reader.proofs.Along.{list-skip, list-one}
use Rattle.copy.specs.Placed.{how_many}
use Rattle.copy.proofs.There.{turn-there}

pub past-there : {X : Type 0} (n : ℕ) (R : Read X) (x : X) (m : ℕ) → past n R ≡ got x m → (k : ℕ) × (R ≡ got x k) × (m ≡ n + k)
past-there n (got y k) x m e = (k, ap (λ z. got z k) (got_same _ _ _ _ e), sym (got-long _ _ _ _ e))
past-there n (stops k) x m e = got-stops x m (n + k) (sym e)

module _ {X : Type 0} (r : Bytes → Read X) where
  skip-there : (k : ℕ) (bs : Bytes) (xs : List X) (m : ℕ) → read_list r k bs ≡ got xs m → k ≤ length bs
  unfolding read_list
  skip-there zero bs xs m e = omega arith
  skip-there (suc k) [] xs m e = got-stops xs m 0 (sym e)
  skip-there (suc k) (b ∷ bs) xs m e = let w = past-there 1 (read_list r k bs) xs m e in let h = skip-there k bs xs w.0 w.1 in omega arith

  next-there : (R : Read X) (go : ℕ → Read (List X)) (xs : List X) (m : ℕ) → next R go ≡ got xs m → (x : X) × (n : ℕ) × (ys : List X) × (R ≡ got x n) × (go n ≡ got ys m) × (xs ≡ x ∷ ys)
  next-there (got x n) go xs m e = let w = turn-there (λ ys. x ∷ ys) (go n) xs m e in (x, n, w.0, refl, w.1, w.2)
  next-there (stops k) go xs m e = got-stops xs m k (sym e)

  module _ (bs : Bytes) (at : ℕ) (xs : List X) (m : ℕ) (is : read_list r 0 (drop at bs) ≡ got xs m) where
    -- the byte there is 1, or else 0 and the list ends
    pub list-byte : (at < length bs) × ((get_or bs at 0 ≡ 1 → ⊥) → get_or bs at 0 ≡ 0)
    unfolding read_list
    list-byte = ⊎_elim (λ l. (l, go (eqb (get_or bs at 0) 0) (eqb (get_or bs at 0) 1) refl refl _ (rw (drop_more bs at 0 l) at is))) (λ l. got-stops xs m 0 (sym (rw (drop_all at bs l) at is))) (cases_lt at (length bs))
      where
        go : (a b : Bool) → eqb (get_or bs at 0) 0 ≡ a → eqb (get_or bs at 0) 1 ≡ b → (R : Read (List X)) → cond a (got [] 1) (cond b R (stops 0)) ≡ got xs m → (get_or bs at 0 ≡ 1 → ⊥) → get_or bs at 0 ≡ 0
        go true b p q R e k = eqb-true _ _ p
        go false true p q R e k = absurd (k (eqb-true _ _ q))
        go false false p q R e k = got-stops xs m 0 (sym e)

    pub list-last : at < length bs → get_or bs at 0 ≡ 0 → (xs ≡ []) × (m ≡ 1)
    unfolding read_list
    list-last l e = let q : got [] 1 ≡ got xs m = rw (drop_more bs at 0 l, e) at is in (sym (got_same _ _ _ _ q), sym (got-long _ _ _ _ q))

    pub list-more : at < length bs → get_or bs at 0 ≡ 1 → (x : X) × (n : ℕ) × (ys : List X) × (k : ℕ) × (r (drop (at + 1) bs) ≡ got x n) × (read_list r 0 (drop (at + 1 + n) bs) ≡ got ys k) × (xs ≡ x ∷ ys) × (m ≡ 1 + (n + k))
    list-more l e =
        let p = past-there 1 _ xs m (sym (list-one r bs at l e) ∙ is) in
        let w = next-there (r (drop (at + 1) bs)) (λ n. read_list r n (drop (at + 1) bs)) xs p.0 p.1 in
        let n = w.1 in
        let s = past-there n _ w.2 p.0 (sym (list-skip r n (drop (at + 1) bs) (skip-there n (drop (at + 1) bs) w.2 p.0 w.4)) ∙ w.4) in
        (w.0, n, w.2, s.0, w.3, (ap (λ ys. read_list r 0 ys) (sym (drop-drop n (at + 1) bs)) ∙ s.1), w.5, omega (arith, p.2, s.2))

pub record Part {X : Type 0} (r : Bytes → Read X) (bs : Bytes) (at end : ℕ) : Type 0 where
  pub before : List X
  pub behind : List X
  pub long : ℕ
  pub rest : ℕ
  pub whole : read_list r 0 (drop at bs) ≡ got (before ++ behind) long
  pub left : read_list r 0 (drop end bs) ≡ got behind rest
  pub ends : end + rest ≡ at + long

module _ {X : Type 0} (r : Bytes → Read X) (bs : Bytes) (at : ℕ) where
  abbrev pub none_yet : (xs : List X) (n : ℕ) → read_list r 0 (drop at bs) ≡ got xs n → Part r bs at at
  none_yet xs n e = record { before = []; behind = xs; long = n; rest = n; whole = e; left = e; ends = refl }

  module _ (end : ℕ) (p : Part r bs at end) where
    pub byte-there : (end < length bs) × ((get_or bs end 0 ≡ 1 → ⊥) → get_or bs end 0 ≡ 0)
    byte-there = list-byte r bs end p.behind p.rest p.left

    pub all_there : get_or bs end 0 ≡ 0 → (read_list r 0 (drop at bs) ≡ got p.before p.long) × (end + 1 ≡ at + p.long)
    all_there e =
        let w = list-last r bs end p.behind p.rest p.left byte-there.0 e in
        (p.whole ∙ ap (λ ys. got ys p.long) (ap (λ ys. p.before ++ ys) w.0 ∙ append-nil p.before), omega (arith, w.1, p.ends))

    pub none-behind : get_or bs end 0 ≡ 0 → p.behind ≡ []
    none-behind e = (list-last r bs end p.behind p.rest p.left byte-there.0 e).0

    -- one element more
    pub record Step : Type 0 where
      pub one : X
      pub takes : ℕ
      pub is : r (drop (end + 1) bs) ≡ got one takes
      pub others : List X
      pub split : p.behind ≡ one ∷ others
      pub on : (e : ℕ) → e ≡ end + 1 + takes → (q : Part r bs at e) × (q.before ≡ p.before ++ (one ∷ [])) × (q.behind ≡ others)

    pub step : get_or bs end 0 ≡ 1 → Step
    step e =
        let w = list-more r bs end p.behind p.rest p.left byte-there.0 e in
        record {
          one = w.0;
          takes = w.1;
          is = w.4;
          others = w.2;
          split = w.6;
          on = λ e' h. (
            record {
              before = p.before ++ (w.0 ∷ []);
              behind = w.2;
              long = p.long;
              rest = w.3;
              whole = p.whole ∙ ap (λ ys. got ys p.long) (ap (λ ys. p.before ++ ys) w.6 ∙ sym (append_assoc p.before (w.0 ∷ []) w.2));
              left = ap (λ k. read_list r 0 (drop k bs)) h ∙ w.5;
              ends = omega (arith, w.7, p.ends, h);
            },
            refl,
            refl,
          );
        }

  module _ (end : ℕ) (p : Part r bs at end) where
    -- what is left tells the byte
    pub more-there : 0 < length p.behind → get_or bs end 0 ≡ 1
    more-there h = ⊎_elim (λ q. q) (λ q. absurd (omega (arith, ap length (none-behind end p ((byte-there end p).1 q))))) (cases_eq (get_or bs end 0) 1)

    pub none-left : length p.behind ≡ 0 → get_or bs end 0 ≡ 0
    none-left h = ⊎_elim (λ q. absurd (omega (arith, ap length (step end p q).split))) (λ q. (byte-there end p).1 q) (cases_eq (get_or bs end 0) 1)

pub rows_append : {X : Type 0} (f : X → List ℕ) (xs ys : List X) → rows_of f (xs ++ ys) ≡ rows_of f xs ++ rows_of f ys
rows_append f [] ys = refl
rows_append f (x ∷ xs) ys = ap (λ zs. f x ++ zs) (rows_append f xs ys) ∙ sym (append_assoc (f x) (rows_of f xs) (rows_of f ys))

pub rows-push : {X : Type 0} (f : X → List ℕ) (xs : List X) (x : X) → rows_of f (xs ++ (x ∷ [])) ≡ rows_of f xs ++ f x
rows-push f xs x = rows_append f xs (x ∷ []) ∙ ap (λ zs. rows_of f xs ++ zs) (append-nil (f x))

-- one element more was passed over
pub part-more : {X : Type 0} (r : Bytes → Read X) (bs : Bytes) (at end count e : ℕ) (p : Part r bs at end) (s : Step r bs at end p) → count ≤ end → count ≡ length p.before → e ≡ end + 1 + s.takes → (q : Part r bs at e) × (count + 1 ≤ e) × (count + 1 ≡ length q.before)
part-more r bs at end count e p s h c k = let q = s.on e k in (q.0, omega (arith, h, k), omega (arith, c, ap length q.1, length_push p.before s.one))

pub all-counted : {X : Type 0} (r : Bytes → Read X) (bs : Bytes) (at end count : ℕ) (p : Part r bs at end) → get_or bs end 0 ≡ 0 → count ≡ length p.before → count ≡ how_many (read_list r 0 (drop at bs))
all-counted r bs at end count p z c = c ∙ ap how_many (sym (all_there r bs at end p z).0)
