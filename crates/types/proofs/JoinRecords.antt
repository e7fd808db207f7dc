-- The least record above two that were made: attribute by attribute, each made behind the node.
use Rattle.std.proofs.Common.{◌≡◌, ℕ, zero, suc, ◌+◌, ◌*◌, ◌<◌, ◌≤◌, Bool, true, false, cond, ◌&&◌, List, length, get_or, set as put, sym, refl, ap, ◌∙◌, subst, ap₂, inl, inr, add-one, arith, get_or-set_other, get_or-set_same, below_more}
use mathlib.Core.Option.{Option, some, none}
use Rattle.std.proofs.lemmas.Bool.{and_parts, cases_eq}
use Rattle.std.proofs.lemmas.List.{length-set}
use Rattle.laws.proofs.Texts.{false-true}
use Rattle.spec.specs.Basics.{is_some, same}
use Rattle.spec.specs.Types as s
use Rattle.spec.specs.Types.{record_of, RecordType, empty, attr, lub_attr, lub_record, lub, lub_attrs}
use Rattle.values.specs.Held.{text_at, TextIn}
use Rattle.types.specs.Held.{type_by, made_at, attrs_from, decode, Good, GoodFrom, sum_to, made_attr_at, made}
use Rattle.types.specs.Joining.{Keeps, LaidAttr, Joined}
use Rattle.types.specs.declared.nodes.CedarType.{CedarType}
use Rattle.types.specs.declared.nodes.CedarType.TheVariants.{MadeRecord}
use Rattle.types.proofs.Frame.{Entry, entry, entries, sum_same, kept, Kept}

-- ---- sums
pub sum_one : (i : ℕ) (f : ℕ → ℕ) → sum_to (i + 1) f ≡ sum_to i f + f i
sum_one i f = ap (λ k. sum_to k f) (add-one i)

pub sum-up : (i n : ℕ) (f : ℕ → ℕ) → i < n → sum_to i f + f i ≤ sum_to n f
sum-up i zero f l = absurd (omega arith)
sum-up i (suc n) f l = elim (cases_eq i n) [ inl e ↦ subst (λ k. sum_to k f + f k ≤ sum_to n f + f n) (sym e) (omega arith) | inr u ↦ let r = sum-up i n f (omega (arith, u)) in omega arith ]

-- ---- what the least record above two says of their attributes
some-attr : {A : Type 0} (c : Bool) (o : Option A) → is_some (cond c o none) ≡ true → (c ≡ true) × (is_some o ≡ true)
some-attr true o h = (refl, h)
some-attr false o h = false-true h

some-parts : (a : List ℕ) (r : Bool) (o : Option s.CedarType) (p : Option RecordType) → is_some (lub_attr a r o p) ≡ true → (is_some o ≡ true) × (is_some p ≡ true)
some-parts a r none p h = false-true h
some-parts a r (some t) none h = false-true h
some-parts a r (some t) (some ts) h = (refl, refl)

some-record : (o : Option RecordType) → is_some (lub_record o) ≡ true → is_some o ≡ true
some-record none h = h
some-record (some t) h = refl

module _ (d : CedarType → s.CedarType) (m w : List ℕ) where
  abbrev pub both : ℕ → ℕ → ℕ → ℕ → Option RecordType
  both n e k f = lub_attrs (attrs_from d false m w n e) (attrs_from d false m w k f)

  pub counts_same : (n k e f : ℕ) → is_some (both n e k f) ≡ true → n ≡ k
  counts_same zero zero e f h = refl
  counts_same zero (suc k) e f h = false-true h
  counts_same (suc n) zero e f h = false-true h
  counts_same (suc n) (suc k) e f h =
      let x = some-attr (same (text_at m (get_or w e 0)) (text_at m (get_or w f 0)) && true) _ h in
      let y = some-parts (text_at m (get_or w e 0)) true (lub (d (made_at w (e + 1))) (d (made_at w (f + 1)))) (both n (e + 3) k (f + 3)) x.1 in
      ap suc (counts_same n k (e + 3) (f + 3) y.1)

  pub record Pair (e f : ℕ) : Type 0 where
    pub names : same (text_at m (get_or w e 0)) (text_at m (get_or w f 0)) ≡ true
    pub inner : is_some (lub (d (made_at w (e + 1))) (d (made_at w (f + 1)))) ≡ true

  pub pairs : (n e f : ℕ) → is_some (both n e n f) ≡ true → (k : ℕ) → k < n → Pair (e + 3 * k) (f + 3 * k)
  pairs zero e f h k l = absurd (omega arith)
  pairs (suc n) e f h zero l =
      let x = some-attr (same (text_at m (get_or w e 0)) (text_at m (get_or w f 0)) && true) _ h in
      let y = some-parts (text_at m (get_or w e 0)) true (lub (d (made_at w (e + 1))) (d (made_at w (f + 1)))) (both n (e + 3) n (f + 3)) x.1 in
      let z = and_parts (same (text_at m (get_or w e 0)) (text_at m (get_or w f 0))) true x.0 in
      let a : e ≡ e + 3 * 0 = omega arith in
      let b : f ≡ f + 3 * 0 = omega arith in
      subst (λ g. Pair (e + 3 * 0) g) b (subst (λ g. Pair g f) a (record { names = z.0; inner = y.0 }))
  pairs (suc n) e f h (suc k) l =
      let x = some-attr (same (text_at m (get_or w e 0)) (text_at m (get_or w f 0)) && true) _ h in
      let y = some-parts (text_at m (get_or w e 0)) true (lub (d (made_at w (e + 1))) (d (made_at w (f + 1)))) (both n (e + 3) n (f + 3)) x.1 in
      let a : e + 3 + 3 * k ≡ e + 3 * suc k = omega arith in
      let b : f + 3 + 3 * k ≡ f + 3 * suc k = omega arith in
      subst (λ g. Pair (e + 3 * suc k) g) b (subst (λ g. Pair g (f + 3 + 3 * k)) a (pairs n (e + 3) (f + 3) y.1 k (omega arith)))

-- ---- and back
module _ (d₀ d : CedarType → s.CedarType) (m w₀ w : List ℕ) where
  pub record Both (e f g : ℕ) : Type 0 where
    pub names : same (text_at m (get_or w₀ e 0)) (text_at m (get_or w₀ f 0)) ≡ true
    pub name : get_or w g 0 ≡ get_or w₀ e 0
    pub is : lub (d₀ (made_at w₀ (e + 1))) (d₀ (made_at w₀ (f + 1))) ≡ some (d (made_at w (g + 1)))

  move : (e f g e' f' g' : ℕ) → e ≡ e' → f ≡ f' → g ≡ g' → Both e f g → Both e' f' g'
  move e f g e' f' g' p q r b = subst (λ x. Both x f' g') p (subst (λ x. Both e x g') q (subst (λ x. Both e f x) r b))

  pub attrs-join : (n e f g : ℕ) → ((k : ℕ) → k < n → Both (e + 3 * k) (f + 3 * k) (g + 3 * k)) → lub_attrs (attrs_from d₀ false m w₀ n e) (attrs_from d₀ false m w₀ n f) ≡ some (attrs_from d false m w n g)
  attrs-join zero e f g b = refl
  attrs-join (suc n) e f g b =
      let x = move (e + 3 * 0) (f + 3 * 0) (g + 3 * 0) e f g (omega arith) (omega arith) (omega arith) (b 0 (omega arith)) in
      let r = attrs-join n (e + 3) (f + 3) (g + 3) (λ k l. move (e + 3 * suc k) (f + 3 * suc k) (g + 3 * suc k) (e + 3 + 3 * k) (f + 3 + 3 * k) (g + 3 + 3 * k) (omega arith) (omega arith) (omega arith) (b (suc k) (omega arith))) in
      let p = x.names in
      let q = x.is in
      let z = sym x.name in
      (λ i. cond (p i && true) (lub_attr (text_at m (get_or w₀ e 0)) true (q i) (r i)) none) ∙ (λ i. some (attr (text_at m (z i)) true (d (made_at w (g + 1))) (attrs_from d false m w n (g + 3))))

-- ---- a record that is being made
pub record Joining (h : ℕ) (m w₀ w : List ℕ) (a n p q i t : ℕ) : Type 0 where
  pub fits : t ≤ length w
  pub keeps : Keeps a w₀ w
  pub few : t ≤ a + 1 + 3 * n + sum_to i (λ k. made h w₀ (made_attr_at w₀ p k))
  pub fewer : t ≤ a + 1 + 3 * n + sum_to i (λ k. made h w₀ (made_attr_at w₀ q k))
  pub holds : a + 1 + 3 * n + sum_to i (λ k. made h w (made_attr_at w a k)) ≤ t
  pub names : (k : ℕ) → k < i → get_or w (a + 1 + 3 * k) 0 ≡ get_or w₀ (p + 1 + 3 * k) 0
  pub each : (k : ℕ) → k < i → Good h m w (a + 1 + 3 * n) t (made_attr_at w a k)
  pub is : (k : ℕ) → k < i → lub (decode h m w₀ (made_attr_at w₀ p k)) (decode h m w₀ (made_attr_at w₀ q k)) ≡ some (decode h m w (made_attr_at w a k))

module _ (h : ℕ) (m w₀ : List ℕ) (a n p q : ℕ) (en : n ≡ get_or w₀ p 0)
    (P : Good (suc h) m w₀ 0 a (MadeRecord p)) (Q : Good (suc h) m w₀ 0 a (MadeRecord q))
    (E : is_some (lub (decode (suc h) m w₀ (MadeRecord p)) (decode (suc h) m w₀ (MadeRecord q))) ≡ true)
    (room : a + made (suc h) w₀ (MadeRecord p) ≤ length w₀) where
  exists : is_some (both (decode h m w₀) m w₀ (get_or w₀ p 0) (p + 1) (get_or w₀ q 0) (q + 1)) ≡ true
  exists = some-record (both (decode h m w₀) m w₀ (get_or w₀ p 0) (p + 1) (get_or w₀ q 0) (q + 1)) E

  pub many : n ≡ get_or w₀ q 0
  many = en ∙ counts_same (decode h m w₀) m w₀ (get_or w₀ p 0) (get_or w₀ q 0) (p + 1) (q + 1) exists

  pair : (k : ℕ) → k < n → Pair (decode h m w₀) m w₀ (p + 1 + 3 * k) (q + 1 + 3 * k)
  pair k l =
      let e : is_some (both (decode h m w₀) m w₀ n (p + 1) n (q + 1)) ≡ true = ap₂ (λ x y. is_some (both (decode h m w₀) m w₀ x (p + 1) y (q + 1))) en many ∙ exists in
      pairs (decode h m w₀) m w₀ n (p + 1) (q + 1) e k l

  pub first_entry : (k : ℕ) → k < n → Entry (Good h m w₀ 0 a) m w₀ a (p + 1 + 3 * k)
  first_entry k l = entry (Good h m w₀ 0 a) m w₀ a (get_or w₀ p 0) (p + 1) P.attrs.each k (omega arith)

  pub second-entry : (k : ℕ) → k < n → Entry (Good h m w₀ 0 a) m w₀ a (q + 1 + 3 * k)
  second-entry k l = let z = many in entry (Good h m w₀ 0 a) m w₀ a (get_or w₀ q 0) (q + 1) Q.attrs.each k (omega arith)

  -- room for the node, with nothing in it yet
  pub begins : Joining h m w₀ w₀ a n p q 0 (a + 1 + 3 * n)
  begins = record {
    fits = omega (arith, en);
    keeps = λ i l. refl;
    few = omega arith;
    fewer = omega arith;
    holds = omega arith;
    names = λ k l. absurd (omega arith);
    each = λ k l. absurd (omega arith);
    is = λ k l. absurd (omega arith);
  }

  -- what the next two attributes are, as they are read
  module _ (w : List ℕ) (i t : ℕ) (J : Joining h m w₀ w a n p q i t) (l : i < n) (long : length w ≡ length w₀) where
    pub record Turn (x y : CedarType) : Type 0 where
      pub space : t + made h w x ≤ length w
      pub left : Kept m w₀ w 0 t h x
      pub right : Kept m w₀ w 0 t h y
      pub goes : is_some (lub (decode h m w x) (decode h m w y)) ≡ true

    reads : (e : ℕ) → e + 3 ≤ a → made_at w (e + 1) ≡ made_at w₀ (e + 1)
    reads e f = ap₂ type_by (J.keeps (e + 1) (omega arith)) (J.keeps (e + 1 + 1) (omega arith))

    pub up : a ≤ t
    up = omega (arith, J.holds)

    pub turn : (x y : CedarType) → x ≡ made_at w (p + 1 + 3 * i + 1) → y ≡ made_at w (q + 1 + 3 * i + 1) → Turn x y
    turn x y ex ey =
        let f = first_entry i l in
        let g = second-entry i l in
        let dx : x ≡ made_at w₀ (p + 1 + 3 * i + 1) = ex ∙ reads (p + 1 + 3 * i) f.fits in
        let dy : y ≡ made_at w₀ (q + 1 + 3 * i + 1) = ey ∙ reads (q + 1 + 3 * i) g.fits in
        let kx = kept m w₀ w 0 0 a t (λ j u v. J.keeps j v) (omega arith) up h x (subst (Good h m w₀ 0 a) (sym dx) f.inner) in
        let ky = kept m w₀ w 0 0 a t (λ j u v. J.keeps j v) (omega arith) up h y (subst (Good h m w₀ 0 a) (sym dy) g.inner) in
        let sx : made h w x ≡ made h w₀ (made_attr_at w₀ p i) = kx.numbers ∙ ap (made h w₀) dx in
        let su = sum-up i n (λ k. made h w₀ (made_attr_at w₀ p k)) l in
        let fw = J.few in
        let rm : a + (1 + 3 * n + sum_to n (λ k. made h w₀ (made_attr_at w₀ p k))) ≤ length w₀ = subst (λ z. a + (1 + 3 * z + sum_to z (λ k. made h w₀ (made_attr_at w₀ p k))) ≤ length w₀) (sym en) room in
        record {
          space = omega arith;
          left = kx;
          right = ky;
          goes = ap₂ (λ u v. is_some (lub u v)) (kx.is ∙ ap (decode h m w₀) dx) (ky.is ∙ ap (decode h m w₀) dy) ∙ (pair i l).inner;
        }

    -- one attribute more
    pub again : (w₁ w₂ : List ℕ) (t₁ c : ℕ) (x y z : CedarType) → x ≡ made_at w (p + 1 + 3 * i + 1) → y ≡ made_at w (q + 1 + 3 * i + 1) → c ≡ get_or w (p + 1 + 3 * i) 0 → length w₂ ≡ length w₁ →
        Joined h m w w₁ t t₁ x y z → LaidAttr w₁ w₂ (a + 1 + 3 * i) c z → Joining h m w₀ w₂ a n p q (i + 1) t₁
    again w₁ w₂ t₁ c x y z ex ey ec len j d =
        let f = first_entry i l in
        let g = second-entry i l in
        let T = turn x y ex ey in
        let dx : x ≡ made_at w₀ (p + 1 + 3 * i + 1) = ex ∙ reads (p + 1 + 3 * i) f.fits in
        let dy : y ≡ made_at w₀ (q + 1 + 3 * i + 1) = ey ∙ reads (q + 1 + 3 * i) g.fits in
        let sx : made h w x ≡ made h w₀ (made_attr_at w₀ p i) = T.left.numbers ∙ ap (made h w₀) dx in
        let sy : made h w y ≡ made h w₀ (made_attr_at w₀ q i) = T.right.numbers ∙ ap (made h w₀) dy in
        let floor : a + 1 + 3 * n ≤ t = omega (arith, J.holds) in
        let new : made_attr_at w₂ a i ≡ z = d.is in
        let old : (k : ℕ) → k < i → made_attr_at w₂ a k ≡ made_attr_at w a k = λ k u.
        ap₂ type_by (d.before (a + 1 + 3 * k + 1) (omega arith) ∙ j.keeps (a + 1 + 3 * k + 1) (omega arith)) (d.before (a + 1 + 3 * k + 1 + 1) (omega arith) ∙ j.keeps (a + 1 + 3 * k + 1 + 1) (omega arith)) in
        let kz = kept m w₁ w₂ t (a + 1 + 3 * n) t₁ t₁ (λ r u v. d.behind r (omega arith)) floor (omega arith) h z j.good in
        let ko : (k : ℕ) → k < i → Kept m w w₂ (a + 1 + 3 * n) t₁ h (made_attr_at w a k) = λ k u.
        kept m w w₂ (a + 1 + 3 * n) (a + 1 + 3 * n) t t₁ (λ r b v. d.behind r (omega arith) ∙ j.keeps r v) (omega arith) j.rises h (made_attr_at w a k) (J.each k u) in
        let so : sum_to i (λ k. made h w₂ (made_attr_at w₂ a k)) ≡ sum_to i (λ k. made h w (made_attr_at w a k)) = sum_same i _ _ (λ k u. ap (made h w₂) (old k u) ∙ (ko k u).numbers) in
        let sn : made h w₂ (made_attr_at w₂ a i) ≡ made h w₁ z = ap (made h w₂) new ∙ kz.numbers in
        let a1 = sum_one i (λ k. made h w₀ (made_attr_at w₀ p k)) in
        let a2 = sum_one i (λ k. made h w₀ (made_attr_at w₀ q k)) in
        let a3 = sum_one i (λ k. made h w₂ (made_attr_at w₂ a k)) in
        let f1 = J.few in
        let f2 = J.fewer in
        let f3 = J.holds in
        let j1 = j.few in
        let j2 = j.fewer in
        let j3 = j.holds in
        record {
          fits = omega (arith, j.fits);
          keeps = λ r u. d.before r (omega arith) ∙ j.keeps r (omega arith) ∙ J.keeps r u;
          few = omega arith;
          fewer = omega arith;
          holds = omega arith;
          names = below_more (λ k. get_or w₂ (a + 1 + 3 * k) 0 ≡ get_or w₀ (p + 1 + 3 * k) 0) i
              (λ k u. d.before (a + 1 + 3 * k) (omega arith) ∙ j.keeps (a + 1 + 3 * k) (omega arith) ∙ J.names k u)
              (d.name ∙ ec ∙ J.keeps (p + 1 + 3 * i) (omega (arith, f.fits)));
          each = below_more (λ k. Good h m w₂ (a + 1 + 3 * n) t₁ (made_attr_at w₂ a k)) i
              (λ k u. subst (Good h m w₂ (a + 1 + 3 * n) t₁) (sym (old k u)) (ko k u).good)
              (subst (Good h m w₂ (a + 1 + 3 * n) t₁) (sym new) kz.good);
          is = below_more (λ k. lub (decode h m w₀ (made_attr_at w₀ p k)) (decode h m w₀ (made_attr_at w₀ q k)) ≡ some (decode h m w₂ (made_attr_at w₂ a k))) i
              (λ k u. J.is k u ∙ ap some (sym (ap (decode h m w₂) (old k u) ∙ (ko k u).is)))
              (ap₂ lub (sym (T.left.is ∙ ap (decode h m w₀) dx)) (sym (T.right.is ∙ ap (decode h m w₀) dy)) ∙ j.is ∙ ap some (sym (ap (decode h m w₂) new ∙ kz.is)));
        }

  -- the node is whole
  module _ (w w' : List ℕ) (i t : ℕ) (J : Joining h m w₀ w a n p q i t) (ei : i ≡ n) (ew : w' ≡ put w a n) where
    abbrev v : List ℕ
    v = put w a n

    pub whole : Joined (suc h) m w₀ w' a t (MadeRecord p) (MadeRecord q) (MadeRecord a)
    whole = subst (λ z. Joined (suc h) m w₀ z a t (MadeRecord p) (MadeRecord q) (MadeRecord a)) (sym ew) last
      where
        K : Joining h m w₀ w a n p q n t
        K = subst (λ z. Joining h m w₀ w a n p q z t) ei J

        floor : a + 1 + 3 * n ≤ t
        floor = omega (arith, K.holds)

        high : (r : ℕ) → a < r → get_or v r 0 ≡ get_or w r 0
        high r l = get_or-set_other w a r n 0 (omega arith)

        count : get_or v a 0 ≡ n
        count = get_or-set_same w a n 0 (omega (arith, K.fits))

        old : (k : ℕ) → made_attr_at v a k ≡ made_attr_at w a k
        old k = ap₂ type_by (high (a + 1 + 3 * k + 1) (omega arith)) (high (a + 1 + 3 * k + 1 + 1) (omega arith))

        ko : (k : ℕ) → k < n → Kept m w v a t h (made_attr_at w a k)
        ko k u = kept m w v (a + 1 + 3 * n) a t t (λ r b c. high r (omega arith)) (omega arith) (omega arith) h (made_attr_at w a k) (K.each k u)

        sums : sum_to n (λ k. made h v (made_attr_at v a k)) ≡ sum_to n (λ k. made h w (made_attr_at w a k))
        sums = sum_same n _ _ (λ k u. ap (made h v) (old k) ∙ (ko k u).numbers)

        part : (k : ℕ) → k < n → Both (decode h m w₀) (decode h m v) m w₀ v (p + 1 + 3 * k) (q + 1 + 3 * k) (a + 1 + 3 * k)
        part k u = record { names = (pair k u).names; name = high (a + 1 + 3 * k) (omega arith) ∙ K.names k u; is = K.is k u ∙ ap some (sym (ap (decode h m v) (old k) ∙ (ko k u).is)) }

        one : (k : ℕ) → k < n → Entry (Good h m v a t) m v t (a + 1 + 3 * k)
        one k u = record {
          fits = omega arith;
          name = subst (TextIn m) (sym (high (a + 1 + 3 * k) (omega arith) ∙ K.names k u)) (first_entry k u).name;
          inner = subst (Good h m v a t) (sym (old k)) (ko k u).good;
        }

        last : Joined (suc h) m w₀ v a t (MadeRecord p) (MadeRecord q) (MadeRecord a)
        last = record {
          rises = omega arith;
          fits = simp length-set (omega (arith, K.fits));
          keeps = λ r u. get_or-set_other w a r n 0 (omega arith) ∙ K.keeps r u;
          few = subst (λ z. t ≤ a + (1 + 3 * z + sum_to z (λ k. made h w₀ (made_attr_at w₀ p k)))) en (omega (arith, K.few));
          fewer = subst (λ z. t ≤ a + (1 + 3 * z + sum_to z (λ k. made h w₀ (made_attr_at w₀ q k)))) many (omega (arith, K.fewer));
          holds = subst (λ z. a + (1 + 3 * z + sum_to z (λ k. made h v (made_attr_at v a k))) ≤ t) (sym count) (omega (arith, K.holds, sums));
          good = record { above = omega arith; attrs = record { counts = omega arith; each = subst (λ z. GoodFrom (Good h m v a t) false m v t z (a + 1)) (sym count) (entries (Good h m v a t) m v t n (a + 1) one) } };
          is = ap lub_record (ap₂ (λ x y. both (decode h m w₀) m w₀ x (p + 1) y (q + 1)) (sym en) (sym many) ∙ attrs-join (decode h m w₀) (decode h m v) m w₀ v n (p + 1) (q + 1) (a + 1) part) ∙ ap (λ z. some (record_of (attrs_from (decode h m v) false m v z (a + 1)))) (sym count);
        }
