-- The least type above two, where nothing is made, and where a set or a record is.
use Rattle.std.proofs.Common.{◌≡◌, ℕ, suc, ◌+◌, ◌≤◌, true, false, List, length, sym, refl, ap, ◌∙◌, subst, ap₂, arith}
use mathlib.Core.Option.{Option, some, none}
use Rattle.std.proofs.lemmas.Bool.{and_parts}
use Rattle.laws.proofs.Texts.{false-true}
use Rattle.laws.proofs.Lubs.{Lub, bools, ints, strings, entities, sets, records, LubAttrs, nones, mores, lub-rel, swap}
use Rattle.spec.specs.Basics.{is_some}
use Rattle.spec.specs.Types as s
use Rattle.spec.specs.Types.{any_bool, is_true, is_false, bool, int, string, entity, set, record_of, RecordType, empty, attr, lub_set, lub, lub_attrs}
use Rattle.types.specs.Held.{made_at, plain, plain_attrs, decode, Good, made}
use Rattle.types.specs.Joining.{Laid, Joined}
use Rattle.types.specs.declared.nodes.CedarType.{CedarType}
use Rattle.types.specs.declared.nodes.CedarType.TheVariants.{Bool as B, Int, String, Entity, Set, Record, MadeSet, MadeRecord}
use Rattle.types.proofs.Frame.{Stored, anywhere, kept}

-- ---- a type with truths of either kind is its own least type above
mutual
  lift-left : {t u v : s.CedarType} → Lub t u v → plain t ≡ true → v ≡ t
  lift-left (bools any_bool b) h = refl
  lift-left (bools is_true b) h = false-true h
  lift-left (bools is_false b) h = false-true h
  lift-left ints h = refl
  lift-left strings h = refl
  lift-left (entities n) h = refl
  lift-left (sets l) h = ap set (lift-left l h)
  lift-left (records l) h = ap record_of (lift-left-attrs l h)

  lift-left-attrs : {t u v : RecordType} → LubAttrs t u v → plain_attrs t ≡ true → v ≡ t
  lift-left-attrs nones h = refl
  lift-left-attrs (mores {a} {r} {t} {u} {v} {ts} {us} l ls) h = let p = and_parts (plain t) (plain_attrs ts) h in ap₂ (attr a r) (lift-left l p.0) (lift-left-attrs ls p.1)

pub there : {A : Type 0} (o : Option A) → is_some o ≡ true → (a : A) × (o ≡ some a)
there (some a) h = (a, refl)
there none h = false-true h

pub not_there : {A : Type 0} (o : Option A) → is_some o ≡ false → o ≡ none
not_there (some a) h = false-true (sym h)
not_there none h = refl

pub plain-left : (t u : s.CedarType) → plain t ≡ true → is_some (lub t u) ≡ true → lub t u ≡ some t
plain-left t u p h = let x = there (lub t u) h in x.1 ∙ ap some (lift-left (lub-rel t u x.0 x.1) p)

pub plain-right : (t u : s.CedarType) → plain u ≡ true → is_some (lub t u) ≡ true → lub t u ≡ some u
plain-right t u p h = let x = there (lub t u) h in x.1 ∙ ap some (lift-left (swap (lub-rel t u x.0 x.1)) p)

-- ---- nothing is made
module _ (h : ℕ) (m w : List ℕ) (t : ℕ) (f : t ≤ length w) where
  no-numbers : (v : CedarType) → Stored v → made (suc h) w v ≡ 0
  no-numbers (B b) s = refl
  no-numbers Int s = refl
  no-numbers String s = refl
  no-numbers (Entity p) s = refl
  no-numbers (Set p) s = refl
  no-numbers (Record p) s = refl
  no-numbers (MadeSet p) s = absurd s
  no-numbers (MadeRecord p) s = absurd s

  pub stays : (v u r : CedarType) → Stored r → Good (suc h) m w 0 t r → lub (decode (suc h) m w v) (decode (suc h) m w u) ≡ some (decode (suc h) m w r) → Joined (suc h) m w w t t v u r
  stays v u r s g e = record {
    rises = omega arith;
    fits = f;
    keeps = λ i l. refl;
    few = omega arith;
    fewer = omega arith;
    holds = omega (arith, no-numbers r s);
    good = anywhere m w 0 t t t (suc h) r s g;
    is = e;
  }

  -- the first is of the schema, or has no parts
  pub first-stays : (v u : CedarType) → ((b : _) → v ≡ B b → ⊥) → ((p : ℕ) → v ≡ MadeSet p → ⊥) → ((p : ℕ) → v ≡ MadeRecord p → ⊥) → Good (suc h) m w 0 t v → is_some (lub (decode (suc h) m w v) (decode (suc h) m w u)) ≡ true → Joined (suc h) m w w t t v u v
  first-stays (B b) u x y z g e = absurd (x b refl)
  first-stays Int u x y z g e = stays Int u Int tt g (plain-left int (decode (suc h) m w u) refl e)
  first-stays String u x y z g e = stays String u String tt g (plain-left string (decode (suc h) m w u) refl e)
  first-stays (Entity p) u x y z g e = stays (Entity p) u (Entity p) tt g (plain-left (decode (suc h) m w (Entity p)) (decode (suc h) m w u) refl e)
  first-stays (Set p) u x y z g e = stays (Set p) u (Set p) tt g (plain-left (decode (suc h) m w (Set p)) (decode (suc h) m w u) g.plainly e)
  first-stays (Record p) u x y z g e = stays (Record p) u (Record p) tt g (plain-left (decode (suc h) m w (Record p)) (decode (suc h) m w u) g.plainly e)
  first-stays (MadeSet p) u x y z g e = absurd (y p refl)
  first-stays (MadeRecord p) u x y z g e = absurd (z p refl)

  -- the first is a set or a record that was made, and the second was not
  pub second-stays-set : (p : ℕ) (u : CedarType) → ((q : ℕ) → u ≡ MadeSet q → ⊥) → Good (suc h) m w 0 t u → is_some (lub (decode (suc h) m w (MadeSet p)) (decode (suc h) m w u)) ≡ true → Joined (suc h) m w w t t (MadeSet p) u u
  second-stays-set p (B b) x g e = false-true e
  second-stays-set p Int x g e = false-true e
  second-stays-set p String x g e = false-true e
  second-stays-set p (Entity q) x g e = false-true e
  second-stays-set p (Set q) x g e = stays (MadeSet p) (Set q) (Set q) tt g (plain-right (decode (suc h) m w (MadeSet p)) (decode (suc h) m w (Set q)) g.plainly e)
  second-stays-set p (Record q) x g e = false-true e
  second-stays-set p (MadeSet q) x g e = absurd (x q refl)
  second-stays-set p (MadeRecord q) x g e = false-true e

  pub second-stays-record : (p : ℕ) (u : CedarType) → ((q : ℕ) → u ≡ MadeRecord q → ⊥) → Good (suc h) m w 0 t u → is_some (lub (decode (suc h) m w (MadeRecord p)) (decode (suc h) m w u)) ≡ true → Joined (suc h) m w w t t (MadeRecord p) u u
  second-stays-record p (B b) x g e = false-true e
  second-stays-record p Int x g e = false-true e
  second-stays-record p String x g e = false-true e
  second-stays-record p (Entity q) x g e = false-true e
  second-stays-record p (Set q) x g e = false-true e
  second-stays-record p (Record q) x g e = stays (MadeRecord p) (Record q) (Record q) tt g (plain-right (decode (suc h) m w (MadeRecord p)) (decode (suc h) m w (Record q)) g.plainly e)
  second-stays-record p (MadeSet q) x g e = false-true e
  second-stays-record p (MadeRecord q) x g e = absurd (x q refl)

-- ---- sets
pub inner-some : (o : Option s.CedarType) → is_some (lub_set o) ≡ true → is_some o ≡ true
inner-some (some t) h = refl
inner-some none h = h

pub set-joined : (h : ℕ) (m w w₁ w₂ : List ℕ) (t t₁ p q : ℕ) (x y z : CedarType) → x ≡ made_at w p → y ≡ made_at w q → t₁ + 2 ≤ length w₁ → length w₂ ≡ length w₁ →
    Joined h m w w₁ t t₁ x y z → Laid w₁ w₂ t₁ z → Joined (suc h) m w w₂ t (t₁ + 2) (MadeSet p) (MadeSet q) (MadeSet t₁)
set-joined h m w w₁ w₂ t t₁ p q x y z ex ey room long j l =
    let k = kept m w₁ w₂ t t t₁ (t₁ + 2) (λ i a b. l.before i b) (omega arith) (omega arith) h z j.good in
    let e = l.is in
    let few = j.few in
    let fewer = j.fewer in
    let ax = ap (made h w) ex in
    let ay = ap (made h w) ey in
    let az : made h w₂ (made_at w₂ t₁) ≡ made h w₁ z = ap (made h w₂) e ∙ k.numbers in
    record {
      rises = omega (arith, j.rises);
      fits = omega arith;
      keeps = λ i a. l.before i (omega (arith, j.rises)) ∙ j.keeps i a;
      few = omega arith;
      fewer = omega arith;
      holds = omega (arith, j.holds);
      good = record { above = j.rises; fits = omega arith; inner = subst (Good h m w₂ t (t₁ + 2)) (sym e) k.good };
      is = ap₂ (λ a b. lub_set (lub (decode h m w a) (decode h m w b))) (sym ex) (sym ey) ∙ ap lub_set j.is ∙ ap (λ a. some (set a)) (sym (ap (decode h m w₂) e ∙ k.is));
    }
