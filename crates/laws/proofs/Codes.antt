-- A value is told by its row of numbers, whatever comes after it; and so is the name of an entity.
use Rattle.std.proofs.Common.{◌≡◌, ℕ, Bool, true, false, eqb, [], ◌∷◌, ◌++◌, length, sym, refl, ap, arith}
use Rattle.std.proofs.lemmas.Bool.{eqb-false}
use Rattle.std.proofs.lemmas.List.{append_assoc}
use Rattle.spec.specs.Basics.{Text, same}
use Rattle.spec.specs.Values.{EntityUID, Primitive, bool, int, string, entity_uid, Value, prim, set, record_of, Values, nil, cons, Attrs, empty, attr, code_text, code_uid, code_bool, code_primitive, code, code_values, code_attrs, same_uid, same_value}
use Rattle.spec.specs.Promises.{ValuesAreOrdered, EqualByCode}
use Rattle.laws.proofs.Texts.{same_true, same_refl, bool_same, yes_true, true-yes, less-irrefl, less-trans, less-tri}

-- two rows that begin by different numbers
apart : {A : Type 0} {a b : ℕ} {xs ys : Text} → eqb a b ≡ false → a ∷ xs ≡ b ∷ ys → A
apart {A} {a} {b} {xs} {ys} n h = let e : a ≡ b = cc in absurd (eqb-false a b n e)

tails : {a b : ℕ} {xs ys : Text} → a ∷ xs ≡ b ∷ ys → xs ≡ ys
tails {a} {b} {xs} {ys} h = cc

split : (s t x y : Text) → length s ≡ length t → s ++ x ≡ t ++ y → (s ≡ t) × (x ≡ y)
split [] [] x y l h = (refl, h)
split [] (b ∷ t) x y l h = absurd (omega arith)
split (a ∷ s) [] x y l h = absurd (omega arith)
split (a ∷ s) (b ∷ t) x y l h =
    let ab : a ≡ b = cc in
    let p = split s t x y (omega arith) (tails h) in
    (cc (ab, p.0), p.1)

text-told : (s t x y : Text) → code_text s ++ x ≡ code_text t ++ y → (s ≡ t) × (x ≡ y)
text-told s t x y h = let l : length s ≡ length t = cc in split s t x y l (tails h)

pub uid-told : (u w : EntityUID) (x y : Text) → code_uid u ++ x ≡ code_uid w ++ y → (u ≡ w) × (x ≡ y)
uid-told u w x y h =
    let p = text-told u.ty w.ty _ _ (rw (append_assoc (code_text u.ty) (code_text u.eid) x, append_assoc (code_text w.ty) (code_text w.eid) y) at h) in
    let r = text-told u.eid w.eid x y p.1 in
    let a = p.0 in let b = r.0 in
    ((λ i. record { ty = a i; eid = b i }), r.1)

bit-told : (a b : Bool) (x y : Text) → code_bool a ∷ x ≡ code_bool b ∷ y → (a ≡ b) × (x ≡ y)
bit-told true true x y h = (refl, tails h)
bit-told true false x y h = apart refl h
bit-told false true x y h = apart refl h
bit-told false false x y h = (refl, tails h)

prim-told : (p q : Primitive) (x y : Text) → code_primitive p ++ x ≡ code_primitive q ++ y → (p ≡ q) × (x ≡ y)
prim-told (bool a) (bool b) x y h = let p = bit-told a b x y (tails h) in (ap Primitive.bool p.0, p.1)
prim-told (bool a) (int n) x y h = apart refl h
prim-told (bool a) (string t) x y h = apart refl h
prim-told (bool a) (entity_uid u) x y h = apart refl h
prim-told (int m) (bool b) x y h = apart refl h
prim-told (int m) (int n) x y h = let e : m ≡ n = cc in (ap Primitive.int e, tails (tails h))
prim-told (int m) (string t) x y h = apart refl h
prim-told (int m) (entity_uid u) x y h = apart refl h
prim-told (string s) (bool b) x y h = apart refl h
prim-told (string s) (int n) x y h = apart refl h
prim-told (string s) (string t) x y h = let p = text-told s t x y (tails h) in (ap Primitive.string p.0, p.1)
prim-told (string s) (entity_uid u) x y h = apart refl h
prim-told (entity_uid u) (bool b) x y h = apart refl h
prim-told (entity_uid u) (int n) x y h = apart refl h
prim-told (entity_uid u) (string t) x y h = apart refl h
prim-told (entity_uid u) (entity_uid w) x y h = let p = uid-told u w x y (tails h) in (ap Primitive.entity_uid p.0, p.1)

prim-set : {A : Type 0} (p : Primitive) (n : ℕ) (x y : Text) → eqb 0 n ≡ false → eqb 1 n ≡ false → eqb 2 n ≡ false → eqb 3 n ≡ false → code_primitive p ++ x ≡ n ∷ y → A
prim-set (bool b) n x y h0 h1 h2 h3 h = apart h0 h
prim-set (int m) n x y h0 h1 h2 h3 h = apart h1 h
prim-set (string t) n x y h0 h1 h2 h3 h = apart h2 h
prim-set (entity_uid u) n x y h0 h1 h2 h3 h = apart h3 h

mutual
  pub told : (v w : Value) (x y : Text) → code v ++ x ≡ code w ++ y → (v ≡ w) × (x ≡ y)
  told (prim p) (prim q) x y h = let e = prim-told p q x y h in (ap prim e.0, e.1)
  told (prim p) (set ws) x y h = prim-set p 4 x _ refl refl refl refl h
  told (prim p) (record_of s) x y h = prim-set p 5 x _ refl refl refl refl h
  told (set vs) (prim q) x y h = prim-set q 4 y _ refl refl refl refl (sym h)
  told (set vs) (set ws) x y h = let p = tolds vs ws x y (tails h) in (ap Value.set p.0, p.1)
  told (set vs) (record_of s) x y h = apart refl h
  told (record_of r) (prim q) x y h = prim-set q 5 y _ refl refl refl refl (sym h)
  told (record_of r) (set ws) x y h = apart refl h
  told (record_of r) (record_of s) x y h = let p = tolds-attrs r s x y (tails h) in (ap Value.record_of p.0, p.1)

  tolds : (vs ws : Values) (x y : Text) → code_values vs ++ x ≡ code_values ws ++ y → (vs ≡ ws) × (x ≡ y)
  tolds nil nil x y h = (refl, tails h)
  tolds nil (cons w ws) x y h = apart refl h
  tolds (cons v vs) nil x y h = apart refl h
  tolds (cons v vs) (cons w ws) x y h =
      let p = told v w (code_values vs ++ x) (code_values ws ++ y) (rw (append_assoc (code v) (code_values vs) x, append_assoc (code w) (code_values ws) y) at (tails h)) in
      let r = tolds vs ws x y p.1 in
      (cc (p.0, r.0), r.1)

  tolds-attrs : (r s : Attrs) (x y : Text) → code_attrs r ++ x ≡ code_attrs s ++ y → (r ≡ s) × (x ≡ y)
  tolds-attrs empty empty x y h = (refl, tails h)
  tolds-attrs empty (attr b w s) x y h = apart refl h
  tolds-attrs (attr a v r) empty x y h = apart refl h
  tolds-attrs (attr a v r) (attr b w s) x y h =
      let n = text-told a b ((code v ++ code_attrs r) ++ x) ((code w ++ code_attrs s) ++ y)
      (rw (append_assoc (code_text a) (code v ++ code_attrs r) x, append_assoc (code_text b) (code w ++ code_attrs s) y) at (tails h)) in
      let p = told v w (code_attrs r ++ x) (code_attrs s ++ y) (rw (append_assoc (code v) (code_attrs r) x, append_assoc (code w) (code_attrs s) y) at n.1) in
      let q = tolds-attrs r s x y p.1 in
      (cc (n.0, p.0, q.0), q.1)

-- rows that are the same are of one value, or of one name
pub code_is : (v w : Value) → code v ≡ code w → v ≡ w
code_is v w h = (told v w [] [] (ap (λ r. r ++ []) h)).0

pub code_uid-is : (u w : EntityUID) → code_uid u ≡ code_uid w → u ≡ w
code_uid-is u w h = (uid-told u w [] [] (ap (λ r. r ++ []) h)).0

pub same_uid-true : (u v : EntityUID) → same_uid u v ≡ true → u ≡ v
same_uid-true u v h = code_uid-is u v (same_true (code_uid u) (code_uid v) h)

pub same_uid-refl : (u : EntityUID) → same_uid u u ≡ true
same_uid-refl u = same_refl (code_uid u)

pub same_code : (v w : Value) → same_value v w ≡ same (code v) (code w)
same_code v w =
    bool_same _ _ (λ h. let e : v ≡ w = yes_true _ h in rw e (same_refl (code w))) (λ h. true-yes _ (code_is v w (same_true (code v) (code w) h)))

pub values-are-ordered : ValuesAreOrdered
values-are-ordered =
    ((λ v. less-irrefl (code v)), (λ u v w. less-trans (code u) (code v) (code w)), (λ v w h k. code_is v w (less-tri (code v) (code w) h k)))

pub equal-by-code : EqualByCode
equal-by-code v w = (same_code v w, (λ h. yes_true _ h), (λ e. true-yes _ e))
