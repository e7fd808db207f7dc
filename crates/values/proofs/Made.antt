-- A set that was made is a value of the memory up to its end.
use Rattle.std.specs.declared.cmp.Ordering.{Ordering}
use Rattle.std.proofs.Common.{Result, [], ◌∷◌, ◌≡◌, ℕ, suc, ◌+◌, ◌-◌, ◌*◌, ◌<◌, ◌≤◌, cond, eqb, List, ◌++◌, length, get_or, take, drop, sym, refl, ap, ◌∙◌, subst, ap₂, arith}
use Rattle.std.proofs.lemmas.List.{get_or-take, get_or-append-add, length-append, length-take-le, take-take, take-append-drop, append_assoc}
use Rattle.spec.specs.Values as s
use Rattle.values.specs.Order.{order_row, order_value}
use Rattle.spec.specs.Values.{nil, empty}
use Rattle.values.specs.Held.{value_of, base, count, element_at, run, decode, Good, name_at, attr_at, run_attrs, text_at, TextIn, Stands}
use Rattle.values.specs.Making.{WorkGrows, Spotted, Written, up_to, kept, meant, gathered, Made, named, kept_attr, gathered_attrs, MadeRecord}
use Rattle.values.specs.declared.nodes.Value.{Value}
use Rattle.values.specs.declared.nodes.Value.TheVariants.{Set, Record}
use Rattle.values.proofs.Rising.{spotted-same}
use Rattle.values.proofs.Frame.{run-same, run-attrs-same, good-on, decode-on, stands-taller, text-on, text_in-on}

-- the memory later on is the memory before and more
pub up-to-on : (store w₁ w₂ : List ℕ) (t₁ t₂ : ℕ) → t₁ ≤ t₂ → take t₁ w₂ ≡ take t₁ w₁ → up_to store w₂ t₂ ≡ up_to store w₁ t₁ ++ drop t₁ (take t₂ w₂)
up-to-on store w₁ w₂ t₁ t₂ le e =
    let a : take t₁ (take t₂ w₂) ≡ take t₁ w₁ = take-take t₁ t₂ w₂ le ∙ e in
    ap (λ y. store ++ y) (sym (take-append-drop t₁ (take t₂ w₂)) ∙ ap (λ y. y ++ drop t₁ (take t₂ w₂)) a) ∙ sym (append_assoc store (take t₁ w₁) (drop t₁ (take t₂ w₂)))

-- so what stood for a value stands for it
pub good-later : (store w₁ w₂ : List ℕ) (t₁ t₂ h : ℕ) (v : Value) → t₁ ≤ t₂ → take t₁ w₂ ≡ take t₁ w₁ → Good h (up_to store w₁ t₁) v → Good h (up_to store w₂ t₂) v
good-later store w₁ w₂ t₁ t₂ h v le e g = subst (λ m. Good h m v) (sym (up-to-on store w₁ w₂ t₁ t₂ le e)) (good-on (up_to store w₁ t₁) (drop t₁ (take t₂ w₂)) h v g)

pub decode-later : (store w₁ w₂ : List ℕ) (t₁ t₂ h : ℕ) (v : Value) → t₁ ≤ t₂ → take t₁ w₂ ≡ take t₁ w₁ → Good h (up_to store w₁ t₁) v → decode h (up_to store w₂ t₂) v ≡ decode h (up_to store w₁ t₁) v
decode-later store w₁ w₂ t₁ t₂ h v le e g = ap (λ m. decode h m v) (up-to-on store w₁ w₂ t₁ t₂ le e) ∙ decode-on (up_to store w₁ t₁) (drop t₁ (take t₂ w₂)) h v g

pub work-grows : WorkGrows
work-grows store w₁ w₂ t₁ t₂ h₁ h₂ v x le le' e S =
    stands-taller (up_to store w₂ t₂) h₁ (h₂ - h₁) v x
    (record { good = good-later store w₁ w₂ t₁ t₂ h₁ v le e S.good; is = decode-later store w₁ w₂ t₁ t₂ h₁ v le e S.good ∙ S.is })
    h₂ (omega arith)

pub at-work : (store w : List ℕ) (t p i : ℕ) → i < t → p ≡ length store + i → get_or (up_to store w t) p 0 ≡ get_or w i 0
at-work store w t p i l e = ap (λ n. get_or (up_to store w t) n 0) e ∙ get_or-append-add store (take t w) i 0 ∙ get_or-take t w i 0 l

module _ (h : ℕ) (store w : List ℕ) (a t : ℕ) (M : Made h store w a t) where
  p : ℕ
  p = length store + a

  based : base (up_to store w t) (length store + a) ≡ 0
  based = ap (λ f. cond (eqb f 0) 0 (length store + a)) (at-work store w t (length store + a) a (omega (arith, M.ends)) refl ∙ M.flag)

  pub counted : count (up_to store w t) (length store + a) ≡ get_or w (a + 1) 0
  counted = at-work store w t (length store + a + 1) (a + 1) (omega (arith, M.ends)) (omega arith)

  element-made : (k : ℕ) → k < get_or w (a + 1) 0 → element_at (up_to store w t) (length store + a) k ≡ kept w a k
  element-made k l =
      let b = based in
      let x = at-work store w t (length store + a + 2 + 2 * k) (a + 2 + 2 * k) (omega (arith, M.ends)) (omega arith) in
      let y = at-work store w t (length store + a + 2 + 2 * k + 1) (a + 2 + 2 * k + 1) (omega (arith, M.ends)) (omega arith) in
      λ i. value_of (b i) (x i) (y i)

  pub meant-made : (k : ℕ) → k < get_or w (a + 1) 0 → decode h (up_to store w t) (element_at (up_to store w t) (length store + a) k) ≡ meant h store w a k
  meant-made k l = ap (decode h (up_to store w t)) (element-made k l) ∙ decode-later store w w a t h (kept w a k) (omega (arith, M.ends)) refl (M.each k l)

  pub set-made : Stands (suc h) (up_to store w t) (Set (length store + a)) (s.set (gathered h store w a))
  set-made =
      let n = counted in
      let long : length (up_to store w t) ≡ length store + t = simp length-append (omega (arith, length-take-le t w M.fits)) in
      record {
        good = record {
          fits = omega (arith, M.ends);
          each = λ k l. let l' : k < get_or w (a + 1) 0 = omega arith in
              subst (Good h (up_to store w t)) (sym (element-made k l')) (good-later store w w a t h (kept w a k) (omega (arith, M.ends)) refl (M.each k l'));
          rising = λ i j l l'. let l'' : j < get_or w (a + 1) 0 = omega arith in let l''' : i < get_or w (a + 1) 0 = omega arith in ap₂ order_value (meant-made i l''') (meant-made j l'') ∙ M.rising i j l l'';
        };
        is = ap s.set (ap (run (λ k. decode h (up_to store w t) (element_at (up_to store w t) (length store + a) k)) 0) n
            ∙ run-same (λ k. decode h (up_to store w t) (element_at (up_to store w t) (length store + a) k)) (meant h store w a) 0 (get_or w (a + 1) 0) (λ k l l'.
            let l'' : k < get_or w (a + 1) 0 = omega arith in
            ap (decode h (up_to store w t)) (element-made k l'') ∙ decode-later store w w a t h (kept w a k) (omega (arith, M.ends)) refl (M.each k l'')));
      }

-- a search in it, told of what it was made from
pub spotted-made : (h : ℕ) (store w : List ℕ) (a t : ℕ) (v : Value) (r : Result ℕ ℕ) → Made h store w a t → Good h (up_to store w a) v →
    Spotted (λ j. order_value (decode h (up_to store w t) v) (decode h (up_to store w t) (element_at (up_to store w t) (length store + a) j))) (count (up_to store w t) (length store + a)) r →
    Spotted (λ j. order_value (decode h (up_to store w a) v) (meant h store w a j)) (get_or w (a + 1) 0) r
spotted-made h store w a t v r M G S =
    let m : List ℕ = up_to store w t in
    let stands : ℕ → Ordering = λ j. order_value (decode h m v) (decode h m (element_at m (length store + a) j)) in
    spotted-same stands (λ j. order_value (decode h (up_to store w a) v) (meant h store w a j)) (get_or w (a + 1) 0) r
    (λ j l. ap₂ order_value (decode-later store w w a t h v (omega (arith, M.ends)) refl G) (meant-made h store w a t M j l))
    (subst (λ k. Spotted stands k r) (counted h store w a t M) S)

-- the set of none
pub begun : (h : ℕ) (store w w' : List ℕ) (t : ℕ) → Written w w' t (0 ∷ 0 ∷ []) → t + 2 ≤ length w' → Made h store w' t (t + 2) × (gathered h store w' t ≡ nil)
begun h store w w' t W l =
    let e : t ≡ t + 0 = omega arith in
    let c : get_or w' (t + 1) 0 ≡ 0 = W.here 1 (omega arith) in (
      record {
        flag = ap (λ i. get_or w' i 0) e ∙ W.here 0 (omega arith);
        ends = omega (arith, c);
        fits = l;
        each = λ k b. absurd (omega (arith, c));
        rising = λ i j b b'. absurd (omega (arith, c));
      },
      ap (run (meant h store w' t) 0) c,
    )

-- the same of a record
pub text-later : (store w : List ℕ) (a t p : ℕ) → a ≤ t → TextIn (up_to store w a) p → text_at (up_to store w t) p ≡ text_at (up_to store w a) p
text-later store w a t p le h = ap (λ m. text_at m p) (up-to-on store w w a t le refl) ∙ text-on (up_to store w a) (drop a (take t w)) p h

pub text_in-later : (store w : List ℕ) (a t p : ℕ) → a ≤ t → TextIn (up_to store w a) p → TextIn (up_to store w t) p
text_in-later store w a t p le h = subst (λ m. TextIn m p) (sym (up-to-on store w w a t le refl)) (text_in-on (up_to store w a) (drop a (take t w)) p h)

module _ (h : ℕ) (store w : List ℕ) (a t : ℕ) (M : MadeRecord h store w a t) where
  based-record : base (up_to store w t) (length store + a) ≡ 0
  based-record = ap (λ f. cond (eqb f 0) 0 (length store + a)) (at-work store w t (length store + a) a (omega (arith, M.ends)) refl ∙ M.flag)

  pub counted-record : count (up_to store w t) (length store + a) ≡ get_or w (a + 1) 0
  counted-record = at-work store w t (length store + a + 1) (a + 1) (omega (arith, M.ends)) (omega arith)

  name-made : (k : ℕ) → k < get_or w (a + 1) 0 → name_at (up_to store w t) (length store + a) k ≡ named w a k
  name-made k l =
      let b = based-record in
      let x = at-work store w t (length store + a + 2 + 3 * k) (a + 2 + 3 * k) (omega (arith, M.ends)) (omega arith) in
      omega arith

  attr-made : (k : ℕ) → k < get_or w (a + 1) 0 → attr_at (up_to store w t) (length store + a) k ≡ kept_attr w a k
  attr-made k l =
      let b = based-record in
      let x = at-work store w t (length store + a + 2 + 3 * k + 1) (a + 2 + 3 * k + 1) (omega (arith, M.ends)) (omega arith) in
      let y = at-work store w t (length store + a + 2 + 3 * k + 2) (a + 2 + 3 * k + 2) (omega (arith, M.ends)) (omega arith) in
      λ i. value_of (b i) (x i) (y i)

  pub named-made : (k : ℕ) → k < get_or w (a + 1) 0 → text_at (up_to store w t) (name_at (up_to store w t) (length store + a) k) ≡ text_at (up_to store w a) (named w a k)
  named-made k l = ap (text_at (up_to store w t)) (name-made k l) ∙ text-later store w a t (named w a k) (omega (arith, M.ends)) (M.names k l)

  pub record-made : Stands (suc h) (up_to store w t) (Record (length store + a)) (s.record_of (gathered_attrs h store w a))
  record-made =
      let n = counted-record in
      let m : List ℕ = up_to store w t in
      let q : ℕ = length store + a in
      let long : length (up_to store w t) ≡ length store + t = simp length-append (omega (arith, length-take-le t w M.fits)) in
      let le : a ≤ t = omega (arith, M.ends) in
      record {
        good = record {
          fits = omega (arith, M.ends);
          names = λ k l. let l' : k < get_or w (a + 1) 0 = omega arith in subst (TextIn m) (sym (name-made k l')) (text_in-later store w a t (named w a k) le (M.names k l'));
          rising = λ i j l l'.
              let l'' : j < get_or w (a + 1) 0 = omega arith in
              let l''' : i < get_or w (a + 1) 0 = omega arith in
              ap₂ order_row (named-made i l''') (named-made j l'') ∙ M.rising i j l l'';
          each = λ k l. let l' : k < get_or w (a + 1) 0 = omega arith in subst (Good h m) (sym (attr-made k l')) (good-later store w w a t h (kept_attr w a k) le refl (M.each k l'));
        };
        is = ap s.record_of (ap (run_attrs (λ k. text_at m (name_at m q k)) (λ k. decode h m (attr_at m q k)) 0) n
            ∙ run-attrs-same (λ k. text_at m (name_at m q k)) (λ k. text_at (up_to store w a) (named w a k)) (λ k. decode h m (attr_at m q k)) (λ k. decode h (up_to store w a) (kept_attr w a k)) 0 (get_or w (a + 1) 0)
            (λ k l l'. let l'' : k < get_or w (a + 1) 0 = omega arith in ap (text_at m) (name-made k l'') ∙ text-later store w a t (named w a k) le (M.names k l''))
            (λ k l l'. let l'' : k < get_or w (a + 1) 0 = omega arith in ap (decode h m) (attr-made k l'') ∙ decode-later store w w a t h (kept_attr w a k) le refl (M.each k l'')));
      }

pub spotted-record : (h : ℕ) (store w : List ℕ) (a t key : ℕ) (r : Result ℕ ℕ) → MadeRecord h store w a t → TextIn (up_to store w a) key →
    Spotted (λ j. order_row (text_at (up_to store w t) key) (text_at (up_to store w t) (name_at (up_to store w t) (length store + a) j))) (count (up_to store w t) (length store + a)) r →
    Spotted (λ j. order_row (text_at (up_to store w a) key) (text_at (up_to store w a) (named w a j))) (get_or w (a + 1) 0) r
spotted-record h store w a t key r M T S =
    let m : List ℕ = up_to store w t in
    let stands : ℕ → Ordering = λ j. order_row (text_at m key) (text_at m (name_at m (length store + a) j)) in
    spotted-same stands (λ j. order_row (text_at (up_to store w a) key) (text_at (up_to store w a) (named w a j))) (get_or w (a + 1) 0) r
    (λ j l. ap₂ order_row (text-later store w a t key (omega (arith, M.ends)) T) (named-made h store w a t M j l))
    (subst (λ k. Spotted stands k r) (counted-record h store w a t M) S)

pub begun-record : (h : ℕ) (store w w' : List ℕ) (t : ℕ) → Written w w' t (0 ∷ 0 ∷ []) → t + 2 ≤ length w' → MadeRecord h store w' t (t + 2) × (gathered_attrs h store w' t ≡ empty)
begun-record h store w w' t W l =
    let e : t ≡ t + 0 = omega arith in
    let c : get_or w' (t + 1) 0 ≡ 0 = W.here 1 (omega arith) in (
      record {
        flag = ap (λ i. get_or w' i 0) e ∙ W.here 0 (omega arith);
        ends = omega (arith, c);
        fits = l;
        names = λ k b. absurd (omega (arith, c));
        rising = λ i j b b'. absurd (omega (arith, c));
        each = λ k b. absurd (omega (arith, c));
      },
      ap (run_attrs (λ k. text_at (up_to store w' t) (named w' t k)) (λ k. decode h (up_to store w' t) (kept_attr w' t k)) 0) c,
    )
