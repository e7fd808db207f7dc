-- What is made behind types, or before them, leaves what they stand for; stored types stand for the same whatever is made.
use Rattle.std.proofs.Common.{◌≡◌, ℕ, zero, suc, ◌+◌, ◌-◌, ◌*◌, ◌<◌, ◌≤◌, Bool, true, false, cond, eqb, List, get_or, sym, refl, ap, ◌∙◌, subst, ap₂, arith}
use Rattle.spec.specs.Types.{set, record_of, attr}
use Rattle.values.specs.Held.{text_at, TextIn}
use Rattle.types.specs.Held.{bool_by, type_by, row_type_at, made_at, attr_type_at, name_at, required_at, next_at, attrs_from, plain, plain_attrs, decode, GoodFrom, Good, sum_to, made_attr_at, made}
use Rattle.types.specs.declared.nodes.CedarType.{CedarType}
use Rattle.types.specs.declared.nodes.CedarType.TheVariants.{Bool as B, Int, String, Entity, Set, Record, MadeSet, MadeRecord}

-- ---- the attributes of a record that was made, by their number
pub record Entry (G : CedarType → Type 0) (m w : List ℕ) (hi e : ℕ) : Type 0 where
  pub fits : e + 3 ≤ hi
  pub name : TextIn m (get_or w e 0)
  pub inner : G (made_at w (e + 1))

module _ (G : CedarType → Type 0) (m w : List ℕ) (hi : ℕ) where
  pub entry : (n e : ℕ) → GoodFrom G false m w hi n e → (k : ℕ) → k < n → Entry G m w hi (e + 3 * k)
  entry zero e g k l = absurd (omega arith)
  entry (suc n) e g zero l = let z : e ≡ e + 3 * 0 = omega arith in subst (Entry G m w hi) z (record { fits = g.0.0; name = g.0.1; inner = g.1 })
  entry (suc n) e g (suc k) l = let z : e + 3 + 3 * k ≡ e + 3 * suc k = omega arith in subst (Entry G m w hi) z (entry n (e + 3) g.2 k (omega arith))

  pub entries : (n e : ℕ) → ((k : ℕ) → k < n → Entry G m w hi (e + 3 * k)) → GoodFrom G false m w hi n e
  entries zero e f = tt
  entries (suc n) e f =
      let z : e + 3 * 0 ≡ e = omega arith in
      let x = subst (Entry G m w hi) z (f 0 (omega arith)) in
      ((x.fits, x.name), x.inner, entries n (e + 3) (λ k l. let q : e + 3 * suc k ≡ e + 3 + 3 * k = omega arith in subst (Entry G m w hi) q (f (suc k) (omega arith))))

pub sum_same : (n : ℕ) (f g : ℕ → ℕ) → ((k : ℕ) → k < n → f k ≡ g k) → sum_to n f ≡ sum_to n g
sum_same zero f g h = refl
sum_same (suc n) f g h = ap₂ ◌+◌ (sum_same n f g (λ k l. h k (omega arith))) (h n (omega arith))

-- ---- types in memories that are the same from lo up to hi
pub record Kept (m w w' : List ℕ) (lo' hi' h : ℕ) (v : CedarType) : Type 0 where
  pub good : Good h m w' lo' hi' v
  pub is : decode h m w' v ≡ decode h m w v
  pub numbers : made h w' v ≡ made h w v

module _ (m w w' : List ℕ) (lo lo' hi hi' : ℕ) (same : (i : ℕ) → lo ≤ i → i < hi → get_or w' i 0 ≡ get_or w i 0) (below : lo' ≤ lo) (above : hi ≤ hi') where
  node-same : (p : ℕ) → lo ≤ p → p + 2 ≤ hi → made_at w' p ≡ made_at w p
  node-same p a f = ap₂ type_by (same p a (omega arith)) (same (p + 1) (omega arith) (omega arith))

  pub record KeptFrom (h : ℕ) (b : Bool) (n e : ℕ) : Type 0 where
    pub each : GoodFrom (Good h m w' lo' hi') b m w' hi' n e
    pub attrs : attrs_from (decode h m w') b m w' n e ≡ attrs_from (decode h m w) b m w n e

  stored-from : (h : ℕ) → ((v : CedarType) → Good h m w lo hi v → Kept m w w' lo' hi' h v) → (n e : ℕ) → GoodFrom (Good h m w lo hi) true m w hi n e → KeptFrom h true n e
  stored-from h K zero e g = record { each = tt; attrs = refl }
  stored-from h K (suc n) e g =
      let x = K (attr_type_at true m w e) g.1 in
      let r = stored-from h K n (next_at true m e) g.2 in
      record { each = (g.0, x.good, r.each); attrs = ap₂ (attr (text_at m (e + 1)) (eqb (get_or m e 0) 1)) x.is r.attrs }

  made-from : (h : ℕ) → ((v : CedarType) → Good h m w lo hi v → Kept m w w' lo' hi' h v) → (n e : ℕ) → lo ≤ e → GoodFrom (Good h m w lo hi) false m w hi n e → KeptFrom h false n e
  made-from h K zero e l g = record { each = tt; attrs = refl }
  made-from h K (suc n) e l g =
      let x = K (made_at w (e + 1)) g.1 in
      let r = made-from h K n (e + 3) (omega arith) g.2 in
      let f = g.0.0 in
      let a = same e l (omega arith) in
      let z = node-same (e + 1) (omega arith) (omega arith) in
      record {
        each = ((omega arith, subst (TextIn m) (sym a) g.0.1), subst (Good h m w' lo' hi') (sym z) x.good, r.each);
        attrs = let p = ap (text_at m) a in let q = ap (decode h m w') z ∙ x.is in let u = r.attrs in (λ i. attr (p i) true (q i) (u i));
      }

  pub kept : (h : ℕ) (v : CedarType) → Good h m w lo hi v → Kept m w w' lo' hi' h v
  kept zero v g = absurd g
  kept (suc h) (B t) g = record { good = tt; is = refl; numbers = refl }
  kept (suc h) Int g = record { good = tt; is = refl; numbers = refl }
  kept (suc h) String g = record { good = tt; is = refl; numbers = refl }
  kept (suc h) (Entity p) g = record { good = g; is = refl; numbers = refl }
  kept (suc h) (Set p) g =
      let x = kept h (row_type_at m p) g.inner in
      record { good = record { row = g.row; inner = x.good; plainly = ap plain x.is ∙ g.plainly }; is = ap set x.is; numbers = refl }
  kept (suc h) (Record p) g =
      let x = stored-from h (kept h) (get_or m p 0) (p + 1) g.attrs.each in
      record { good = record { attrs = record { counts = g.attrs.counts; each = x.each }; plainly = ap plain_attrs x.attrs ∙ g.plainly }; is = ap record_of x.attrs; numbers = refl }
  kept (suc h) (MadeSet p) g =
      let x = kept h (made_at w p) g.inner in
      let z = node-same p g.above g.fits in
      record {
        good = record { above = omega (arith, g.above); fits = omega (arith, g.fits); inner = subst (Good h m w' lo' hi') (sym z) x.good };
        is = ap set (ap (decode h m w') z ∙ x.is);
        numbers = ap (λ n. 2 + n) (ap (made h w') z ∙ x.numbers);
      }
  kept (suc h) (MadeRecord p) g =
      let a : lo ≤ p = g.above in
      let c : p < hi = g.attrs.counts in
      let q = same p a c in
      let x = made-from h (kept h) (get_or w p 0) (p + 1) (omega arith) g.attrs.each in
      record {
        good = record { above = omega arith; attrs = record { counts = omega arith; each = subst (λ n. GoodFrom (Good h m w' lo' hi') false m w' hi' n (p + 1)) (sym q) x.each } };
        is = ap record_of (ap (λ n. attrs_from (decode h m w') false m w' n (p + 1)) q ∙ x.attrs);
        numbers = ap (λ n. 1 + 3 * n + sum_to n (λ k. made h w' (made_attr_at w' p k))) q ∙ ap (λ n. 1 + 3 * get_or w p 0 + n) (sum_same (get_or w p 0) (λ k. made h w' (made_attr_at w' p k)) (λ k. made h w (made_attr_at w p k)) (λ k l.
            let f = entry (Good h m w lo hi) m w hi (get_or w p 0) (p + 1) g.attrs.each k l in
            ap (made h w') (node-same (p + 1 + 3 * k + 1) (omega arith) (omega (arith, f.fits))) ∙ (kept h (made_at w (p + 1 + 3 * k + 1)) f.inner).numbers));
      }

-- ---- stored types
abbrev pub Stored : CedarType → Type 0
Stored (B t) = Unit {0}
Stored Int = Unit {0}
Stored String = Unit {0}
Stored (Entity p) = Unit {0}
Stored (Set p) = Unit {0}
Stored (Record p) = Unit {0}
Stored (MadeSet p) = ⊥
Stored (MadeRecord p) = ⊥

pub row-stored : (m : List ℕ) (p : ℕ) → Stored (row_type_at m p)
row-stored m p = go (eqb (get_or m p 0) 0) (eqb (get_or m p 0) 1) (eqb (get_or m p 0) 2) (eqb (get_or m p 0) 3) (eqb (get_or m p 0) 4)
  where
    go : (a b c d e : Bool) → Stored (cond a (B (bool_by (get_or m (p + 2) 0))) (cond b Int (cond c String (cond d (Entity (p + 2)) (cond e (Set (p + 2)) (Record (p + 2)))))))
    go true b c d e = tt
    go false true c d e = tt
    go false false true d e = tt
    go false false false true e = tt
    go false false false false true = tt
    go false false false false false = tt

module _ (m w : List ℕ) (lo lo' hi hi' : ℕ) where
  anywhere-from : (h : ℕ) → ((v : CedarType) → Stored v → Good h m w lo hi v → Good h m w lo' hi' v) → (n e : ℕ) → GoodFrom (Good h m w lo hi) true m w hi n e → GoodFrom (Good h m w lo' hi') true m w hi' n e
  anywhere-from h K zero e g = tt
  anywhere-from h K (suc n) e g = (g.0, K (attr_type_at true m w e) (row-stored m _) g.1, anywhere-from h K n (next_at true m e) g.2)

  pub anywhere : (h : ℕ) (v : CedarType) → Stored v → Good h m w lo hi v → Good h m w lo' hi' v
  anywhere zero v s g = g
  anywhere (suc h) (B t) s g = tt
  anywhere (suc h) Int s g = tt
  anywhere (suc h) String s g = tt
  anywhere (suc h) (Entity p) s g = g
  anywhere (suc h) (Set p) s g = record { row = g.row; inner = anywhere h (row_type_at m p) (row-stored m p) g.inner; plainly = g.plainly }
  anywhere (suc h) (Record p) s g = record { attrs = record { counts = g.attrs.counts; each = anywhere-from h (anywhere h) (get_or m p 0) (p + 1) g.attrs.each }; plainly = g.plainly }
  anywhere (suc h) (MadeSet p) s g = absurd s
  anywhere (suc h) (MadeRecord p) s g = absurd s

-- ---- to a greater height
pub record Taller (m w : List ℕ) (lo hi h : ℕ) (v : CedarType) : Type 0 where
  pub good : Good (suc h) m w lo hi v
  pub is : decode (suc h) m w v ≡ decode h m w v
  pub numbers : made (suc h) w v ≡ made h w v

module _ (m w : List ℕ) (lo hi : ℕ) where
  taller-from : (h : ℕ) (b : Bool) → ((v : CedarType) → Good h m w lo hi v → Taller m w lo hi h v) → (n e : ℕ) → GoodFrom (Good h m w lo hi) b m w hi n e
      → GoodFrom (Good (suc h) m w lo hi) b m w hi n e × (attrs_from (decode (suc h) m w) b m w n e ≡ attrs_from (decode h m w) b m w n e)
  taller-from h b K zero e g = (tt, refl)
  taller-from h b K (suc n) e g =
      let x = K (attr_type_at b m w e) g.1 in
      let r = taller-from h b K n (next_at b m e) g.2 in
      ((g.0, x.good, r.0), ap₂ (attr (text_at m (name_at b m w e)) (required_at b m e)) x.is r.1)

  pub taller : (h : ℕ) (v : CedarType) → Good h m w lo hi v → Taller m w lo hi h v
  taller zero v g = absurd g
  taller (suc h) (B t) g = record { good = tt; is = refl; numbers = refl }
  taller (suc h) Int g = record { good = tt; is = refl; numbers = refl }
  taller (suc h) String g = record { good = tt; is = refl; numbers = refl }
  taller (suc h) (Entity p) g = record { good = g; is = refl; numbers = refl }
  taller (suc h) (Set p) g =
      let x = taller h (row_type_at m p) g.inner in
      record { good = record { row = g.row; inner = x.good; plainly = ap plain x.is ∙ g.plainly }; is = ap set x.is; numbers = refl }
  taller (suc h) (Record p) g =
      let x = taller-from h true (taller h) (get_or m p 0) (p + 1) g.attrs.each in
      record { good = record { attrs = record { counts = g.attrs.counts; each = x.0 }; plainly = ap plain_attrs x.1 ∙ g.plainly }; is = ap record_of x.1; numbers = refl }
  taller (suc h) (MadeSet p) g =
      let x = taller h (made_at w p) g.inner in
      record { good = record { above = g.above; fits = g.fits; inner = x.good }; is = ap set x.is; numbers = ap (λ n. 2 + n) x.numbers }
  taller (suc h) (MadeRecord p) g =
      let x = taller-from h false (taller h) (get_or w p 0) (p + 1) g.attrs.each in
      record {
        good = record { above = g.above; attrs = record { counts = g.attrs.counts; each = x.0 } };
        is = ap record_of x.1;
        numbers = ap (λ n. 1 + 3 * get_or w p 0 + n) (sum_same (get_or w p 0) (λ k. made (suc h) w (made_attr_at w p k)) (λ k. made h w (made_attr_at w p k)) (λ k l. (taller h (made_attr_at w p k) (entry (Good h m w lo hi) m w hi (get_or w p 0) (p + 1) g.attrs.each k l).inner).numbers));
      }

  pub much-taller : (k h h' : ℕ) (v : CedarType) → h' ≡ k + h → Good h m w lo hi v → Good h' m w lo hi v × (decode h' m w v ≡ decode h m w v) × (made h' w v ≡ made h w v)
  much-taller zero h h' v e g = let q : h ≡ h' = omega arith in (subst (λ n. Good n m w lo hi v) q g, ap (λ n. decode n m w v) (sym q), ap (λ n. made n w v) (sym q))
  much-taller (suc k) h h' v e g =
      let q : h' ≡ suc (h' - 1) = omega arith in
      let x = much-taller k h (h' - 1) v (omega arith) g in
      let y = taller (h' - 1) v x.0 in
      (subst (λ n. Good n m w lo hi v) (sym q) y.good, ap (λ n. decode n m w v) q ∙ y.is ∙ x.1, ap (λ n. made n w v) q ∙ y.numbers ∙ x.2)

-- wider bounds
pub wider : (m w : List ℕ) (lo lo' hi hi' : ℕ) → lo' ≤ lo → hi ≤ hi' → (h : ℕ) (v : CedarType) → Good h m w lo hi v → Good h m w lo' hi' v
wider m w lo lo' hi hi' l k h v g = (kept m w w lo lo' hi hi' (λ i a b. refl) l k h v g).good
