-- What is made behind a memory leaves what its values stand for; and more height does.
use Rattle.std.proofs.Common.{◌≡◌, ℕ, zero, suc, ◌+◌, ◌-◌, ◌*◌, ◌<◌, ◌≤◌, cond, eqb, List, ◌++◌, length, get_or, take, drop, sym, refl, ap, ◌∙◌, subst, ap₂, arith}
use Rattle.std.proofs.lemmas.List.{take-append-le, drop-append-le, get_or_append_left, length-append, length-drop}
use Rattle.spec.specs.Values as s
use Rattle.values.specs.Order.{order_row, order_value}
use Rattle.spec.specs.Values.{prim, string, entity_uid, cons}
use Rattle.values.specs.Held.{Stands, text_at, TextIn, behind_text, uid_at, UIDIn, base, count, value_of, element_at, name_at, attr_at, run, run_attrs, values_at, attrs_at, decode, SetIn, RecordIn, Good}
use Rattle.values.specs.declared.nodes.Value.{Value}
use Rattle.values.specs.declared.nodes.Value.TheVariants.{Bool as B, Int, String, Entity, Set, Record}

pub run-same : (f g : ℕ → s.Value) (i n : ℕ) → ((k : ℕ) → i ≤ k → k < i + n → f k ≡ g k) → run f i n ≡ run g i n
run-same f g i zero h = refl
run-same f g i (suc n) h = ap₂ cons (h i (omega arith) (omega arith)) (run-same f g (i + 1) n (λ k l l'. h k (omega arith) (omega arith)))

pub run-attrs-same : (a b : ℕ → List ℕ) (f g : ℕ → s.Value) (i n : ℕ) → ((k : ℕ) → i ≤ k → k < i + n → a k ≡ b k) → ((k : ℕ) → i ≤ k → k < i + n → f k ≡ g k) → run_attrs a f i n ≡ run_attrs b g i n
run-attrs-same a b f g i zero e h = refl
run-attrs-same a b f g i (suc n) e h =
    let r : run_attrs a f (i + 1) n ≡ run_attrs b g (i + 1) n = run-attrs-same a b f g (i + 1) n (λ k l l'. e k (omega arith) (omega arith)) (λ k l l'. h k (omega arith) (omega arith)) in
    let p : a i ≡ b i = e i (omega arith) (omega arith) in
    let q : f i ≡ g i = h i (omega arith) (omega arith) in
    cc (p, q, r)

module _ (m x : List ℕ) where
  pub at_on : (i : ℕ) → i < length m → get_or (m ++ x) i 0 ≡ get_or m i 0
  at_on i l = get_or_append_left m x 0 i l

  pub text-on : (p : ℕ) → TextIn m p → text_at (m ++ x) p ≡ text_at m p
  text-on p h =
      ap (λ n. take n (drop (p + 1) (m ++ x))) (at_on p (omega arith)) ∙ ap (take (get_or m p 0)) (drop-append-le (p + 1) m x (omega arith)) ∙ take-append-le (get_or m p 0) (drop (p + 1) m) x (simp length-drop (omega arith))

  pub text_in-on : (p : ℕ) → TextIn m p → TextIn (m ++ x) p
  text_in-on p h = let g = at_on p (omega arith) in simp (length-append, g) (omega arith)

  pub uid-on : (p : ℕ) → UIDIn m p → uid_at (m ++ x) p ≡ uid_at m p
  uid-on p h =
      let a = text-on p h.0 in
      let e : behind_text (m ++ x) p ≡ behind_text m p = ap (λ n. p + 1 + n) (at_on p (omega (arith, h.0))) in
      let b = ap (text_at (m ++ x)) e ∙ text-on (behind_text m p) h.1 in
      λ i. record { ty = a i; eid = b i }

  pub uid-in-on : (p : ℕ) → UIDIn m p → UIDIn (m ++ x) p
  uid-in-on p h =
      let e : behind_text (m ++ x) p ≡ behind_text m p = ap (λ n. p + 1 + n) (at_on p (omega (arith, h.0))) in
      (text_in-on p h.0, subst (TextIn (m ++ x)) (sym e) (text_in-on (behind_text m p) h.1))

  pub base_on : (p : ℕ) → p < length m → base (m ++ x) p ≡ base m p
  base_on p l = ap (λ b. cond (eqb b 0) 0 p) (at_on p l)

  pub element-on : (p k : ℕ) → p + 2 + 2 * k + 1 < length m → element_at (m ++ x) p k ≡ element_at m p k
  element-on p k l =
      let a = base_on p (omega arith) in
      let b = at_on (p + 2 + 2 * k) (omega arith) in
      let c = at_on (p + 2 + 2 * k + 1) (omega arith) in
      λ i. value_of (a i) (b i) (c i)

  pub name-on : (p k : ℕ) → p + 2 + 3 * k + 2 < length m → name_at (m ++ x) p k ≡ name_at m p k
  name-on p k l = ap₂ ◌+◌ (base_on p (omega arith)) (at_on (p + 2 + 3 * k) (omega arith))

  pub attr-on : (p k : ℕ) → p + 2 + 3 * k + 2 < length m → attr_at (m ++ x) p k ≡ attr_at m p k
  attr-on p k l =
      let a = base_on p (omega arith) in
      let b = at_on (p + 2 + 3 * k + 1) (omega arith) in
      let c = at_on (p + 2 + 3 * k + 2) (omega arith) in
      λ i. value_of (a i) (b i) (c i)

  pub decode-on : (h : ℕ) (v : Value) → Good h m v → decode h (m ++ x) v ≡ decode h m v
  decode-on zero v g = refl
  decode-on (suc h) (B b) g = refl
  decode-on (suc h) (Int z) g = refl
  decode-on (suc h) (String p) g = ap (λ t. prim (string t)) (text-on p g)
  decode-on (suc h) (Entity p) g = ap (λ u. prim (entity_uid u)) (uid-on p g)
  decode-on (suc h) (Set p) g =
      let f = g.fits in
      let e = at_on (p + 1) (omega arith) in
      ap s.set (ap (run (λ k. decode h (m ++ x) (element_at (m ++ x) p k)) 0) e
      ∙ run-same (λ k. decode h (m ++ x) (element_at (m ++ x) p k)) (λ k. decode h m (element_at m p k)) 0 (count m p) (λ k l l'.
      let l'' : k < count m p = omega arith in
      ap (decode h (m ++ x)) (element-on p k (omega arith)) ∙ decode-on h (element_at m p k) (g.each k l'')))
  decode-on (suc h) (Record p) g =
      let f = g.fits in
      let e = at_on (p + 1) (omega arith) in
      ap s.record_of (ap (run_attrs (λ k. text_at (m ++ x) (name_at (m ++ x) p k)) (λ k. decode h (m ++ x) (attr_at (m ++ x) p k)) 0) e
      ∙ run-attrs-same (λ k. text_at (m ++ x) (name_at (m ++ x) p k)) (λ k. text_at m (name_at m p k)) (λ k. decode h (m ++ x) (attr_at (m ++ x) p k)) (λ k. decode h m (attr_at m p k)) 0 (count m p)
      (λ k l l'. let l'' : k < count m p = omega arith in ap (text_at (m ++ x)) (name-on p k (omega arith)) ∙ text-on (name_at m p k) (g.names k l''))
      (λ k l l'. let l'' : k < count m p = omega arith in ap (decode h (m ++ x)) (attr-on p k (omega arith)) ∙ decode-on h (attr_at m p k) (g.each k l'')))

  pub good-on : (h : ℕ) (v : Value) → Good h m v → Good h (m ++ x) v
  good-on zero v g = g
  good-on (suc h) (B b) g = tt
  good-on (suc h) (Int z) g = tt
  good-on (suc h) (String p) g = text_in-on p g
  good-on (suc h) (Entity p) g = uid-in-on p g
  good-on (suc h) (Set p) g =
      let f = g.fits in
      let e = at_on (p + 1) (omega arith) in
      record {
        fits = simp (length-append, e) (omega arith);
        each = λ k l. let l' : k < count m p = omega arith in subst (Good h (m ++ x)) (sym (element-on p k (omega arith))) (good-on h (element_at m p k) (g.each k l'));
        rising = λ i j l l'.
            let l'' : j < count m p = omega arith in
            let l''' : i < count m p = omega arith in
            ap₂ order_value (ap (decode h (m ++ x)) (element-on p i (omega arith)) ∙ decode-on h (element_at m p i) (g.each i l''')) (ap (decode h (m ++ x)) (element-on p j (omega arith)) ∙ decode-on h (element_at m p j) (g.each j l'')) ∙ g.rising i j l l'';
      }
  good-on (suc h) (Record p) g =
      let f = g.fits in
      let e = at_on (p + 1) (omega arith) in
      record {
        fits = simp (length-append, e) (omega arith);
        names = λ k l. let l' : k < count m p = omega arith in subst (TextIn (m ++ x)) (sym (name-on p k (omega arith))) (text_in-on (name_at m p k) (g.names k l'));
        rising = λ i j l l'.
            let l'' : j < count m p = omega arith in
            let l''' : i < count m p = omega arith in
            ap₂ order_row (ap (text_at (m ++ x)) (name-on p i (omega arith)) ∙ text-on (name_at m p i) (g.names i l''')) (ap (text_at (m ++ x)) (name-on p j (omega arith)) ∙ text-on (name_at m p j) (g.names j l'')) ∙ g.rising i j l l'';
        each = λ k l. let l' : k < count m p = omega arith in subst (Good h (m ++ x)) (sym (attr-on p k (omega arith))) (good-on h (attr_at m p k) (g.each k l'));
      }

module _ (m : List ℕ) where
  pub decode-taller : (h : ℕ) (v : Value) → Good h m v → decode (suc h) m v ≡ decode h m v
  decode-taller zero v g = absurd g
  decode-taller (suc h) (B b) g = refl
  decode-taller (suc h) (Int z) g = refl
  decode-taller (suc h) (String p) g = refl
  decode-taller (suc h) (Entity p) g = refl
  decode-taller (suc h) (Set p) g =
      ap s.set (run-same (λ k. decode (suc h) m (element_at m p k)) (λ k. decode h m (element_at m p k)) 0 (count m p) (λ k l l'. decode-taller h (element_at m p k) (g.each k (omega arith))))
  decode-taller (suc h) (Record p) g =
      ap s.record_of (run-attrs-same (λ k. text_at m (name_at m p k)) (λ k. text_at m (name_at m p k)) (λ k. decode (suc h) m (attr_at m p k)) (λ k. decode h m (attr_at m p k)) 0 (count m p) (λ k l l'. refl) (λ k l l'. decode-taller h (attr_at m p k) (g.each k (omega arith))))

  pub good-taller : (h : ℕ) (v : Value) → Good h m v → Good (suc h) m v
  good-taller zero v g = absurd g
  good-taller (suc h) (B b) g = tt
  good-taller (suc h) (Int z) g = tt
  good-taller (suc h) (String p) g = g
  good-taller (suc h) (Entity p) g = g
  good-taller (suc h) (Set p) g = record {
    fits = g.fits;
    each = λ k l. good-taller h (element_at m p k) (g.each k l);
    rising = λ i j l l'. let l'' : i < count m p = omega arith in ap₂ order_value (decode-taller h (element_at m p i) (g.each i l'')) (decode-taller h (element_at m p j) (g.each j l')) ∙ g.rising i j l l';
  }
  good-taller (suc h) (Record p) g = record { fits = g.fits; names = g.names; rising = g.rising; each = λ k l. good-taller h (attr_at m p k) (g.each k l) }

  -- what a set holds, and a record, to the height of the whole
  pub set-in : (h p : ℕ) → Good h m (Set p) → SetIn (Good h m) (decode h m) m p
  set-in h p g = good-taller h (Set p) g

  pub set_is : (h p : ℕ) → Good h m (Set p) → s.set (values_at (decode h m) m p) ≡ decode h m (Set p)
  set_is h p g = decode-taller h (Set p) g

  pub record-in : (h p : ℕ) → Good h m (Record p) → RecordIn (Good h m) m p
  record-in h p g = good-taller h (Record p) g

  pub record_is : (h p : ℕ) → Good h m (Record p) → s.record_of (attrs_at (decode h m) m p) ≡ decode h m (Record p)
  record_is h p g = decode-taller h (Record p) g

  pub stands-taller : (h k : ℕ) (v : Value) (x : s.Value) → Stands h m v x → (h' : ℕ) → h' ≡ k + h → Stands h' m v x
  stands-taller h zero v x S h' e = let q : h ≡ h' = omega arith in subst (λ n. Stands n m v x) q S
  stands-taller h (suc k) v x S h' e =
      let q : suc (h' - 1) ≡ h' = omega arith in
      let T = stands-taller h k v x S (h' - 1) (omega arith) in
      subst (λ n. Stands n m v x) q (record { good = good-taller (h' - 1) v T.good; is = decode-taller (h' - 1) v T.good ∙ T.is })
