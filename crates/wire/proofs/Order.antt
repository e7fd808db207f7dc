-- The order of values is the order of their bytes.
use Rattle.std.proofs.Common.{◌≡◌, ℕ, ◌+◌, ◌-◌, ◌*◌, ◌/◌, ◌%◌, ◌<◌, Bool, true, cond, ◌&&◌, ◌||◌, eqb, ltb, [], ◌∷◌, ◌++◌, length, sym, refl, ap, ◌∙◌, ⊎_elim, arith}
use Rattle.std.proofs.lemmas.Bool.{and_parts, cases_order, ltb-true, lt-ltb, le-ltb, eq-eqb, ne_eqb}
use Rattle.std.proofs.lemmas.List.{append_assoc, append-nil}
use Rattle.spec.specs.Basics.{Text, less}
use Rattle.spec.specs.Values.{EntityUID, bool, int, string, entity_uid, Value, prim, set, record_of, Values, nil, cons, Attrs, empty, attr, code_text, code_uid, code_bool, code, code_values, code_attrs}
use Rattle.spec.specs.Bytes.{Bytes, encode_word, encode_text, encode_uid, encode_value, encode_values, encode_attrs}
use Rattle.spec.specs.Calls.{is_word, all_below, is_bytes, level, encodable_uid, encodable_value, encodable_values, encodable_attrs}
use Rattle.wire.specs.Reading.{ByteOrder}

-- ---- a number of eight bytes
-- two numbers, each with a digit more
merge : (a b c d : ℕ) (x : Bool) → c < 256 → d < 256 → (ltb a b || (eqb a b && (ltb c d || (eqb c d && x)))) ≡ (ltb (a * 256 + c) (b * 256 + d) || (eqb (a * 256 + c) (b * 256 + d) && x))
merge a b c d x p q = ⊎_elim (λ e. ⊎_elim (λ f. same e f) (λ f. ⊎_elim (λ l. low e l) (λ l. high e l) f) (cases_order c d)) (λ f. ⊎_elim (λ l. below l) (λ l. above l) f) (cases_order a b)
  where
    same : a ≡ b → c ≡ d → (ltb a b || (eqb a b && (ltb c d || (eqb c d && x)))) ≡ (ltb (a * 256 + c) (b * 256 + d) || (eqb (a * 256 + c) (b * 256 + d) && x))
    same e f = rw (le-ltb a b (omega arith), eq-eqb a b e, le-ltb c d (omega arith), eq-eqb c d f, le-ltb (a * 256 + c) (b * 256 + d) (omega arith), eq-eqb (a * 256 + c) (b * 256 + d) (omega arith))

    low : a ≡ b → c < d → (ltb a b || (eqb a b && (ltb c d || (eqb c d && x)))) ≡ (ltb (a * 256 + c) (b * 256 + d) || (eqb (a * 256 + c) (b * 256 + d) && x))
    low e l = rw (le-ltb a b (omega arith), eq-eqb a b e, lt-ltb c d l, lt-ltb (a * 256 + c) (b * 256 + d) (omega arith))

    high : a ≡ b → d < c → (ltb a b || (eqb a b && (ltb c d || (eqb c d && x)))) ≡ (ltb (a * 256 + c) (b * 256 + d) || (eqb (a * 256 + c) (b * 256 + d) && x))
    high e l = rw (le-ltb a b (omega arith), eq-eqb a b e, le-ltb c d (omega arith), ne_eqb c d (λ f. omega arith), le-ltb (a * 256 + c) (b * 256 + d) (omega arith), ne_eqb (a * 256 + c) (b * 256 + d) (λ f. omega arith))

    below : a < b → (ltb a b || (eqb a b && (ltb c d || (eqb c d && x)))) ≡ (ltb (a * 256 + c) (b * 256 + d) || (eqb (a * 256 + c) (b * 256 + d) && x))
    below l = rw (lt-ltb a b l, lt-ltb (a * 256 + c) (b * 256 + d) (omega arith))

    above : b < a → (ltb a b || (eqb a b && (ltb c d || (eqb c d && x)))) ≡ (ltb (a * 256 + c) (b * 256 + d) || (eqb (a * 256 + c) (b * 256 + d) && x))
    above l = rw (le-ltb a b (omega arith), ne_eqb a b (λ f. omega arith), le-ltb (a * 256 + c) (b * 256 + d) (omega arith), ne_eqb (a * 256 + c) (b * 256 + d) (λ f. omega arith))

-- two numbers, and what decides if they are the same
abbrev first : ℕ → ℕ → Bool → Bool
first a b x = ltb a b || (eqb a b && x)

digit : (a b m n : ℕ) (x : Bool) → a ≡ m / 256 → b ≡ n / 256 → first a b (first (m % 256) (n % 256) x) ≡ first m n x
digit a b m n x e f =
    let p : a * 256 + m % 256 ≡ m = omega arith in
    let q : b * 256 + n % 256 ≡ n = omega arith in
    merge a b (m % 256) (n % 256) x (omega arith) (omega arith) ∙ ap (λ k. first k (b * 256 + n % 256) x) p ∙ ap (λ k. first m k x) q

word-less : (m n : ℕ) (r s : Bytes) → m < 18446744073709551616 → n < 18446744073709551616 → less (encode_word m ++ r) (encode_word n ++ s) ≡ first m n (less r s)
unfolding encode_word less
word-less m n r s p q =
    let t0 = less r s in
    let t1 = first (m % 256) (n % 256) t0 in
    let t2 = first (m / 256 % 256) (n / 256 % 256) t1 in
    let t3 = first (m / 65536 % 256) (n / 65536 % 256) t2 in
    let t4 = first (m / 16777216 % 256) (n / 16777216 % 256) t3 in
    let t5 = first (m / 4294967296 % 256) (n / 4294967296 % 256) t4 in
    let t6 = first (m / 1099511627776 % 256) (n / 1099511627776 % 256) t5 in
    digit (m / 72057594037927936 % 256) (n / 72057594037927936 % 256) (m / 281474976710656) (n / 281474976710656) t6 (omega arith) (omega arith)
    ∙ digit (m / 281474976710656) (n / 281474976710656) (m / 1099511627776) (n / 1099511627776) t5 (omega arith) (omega arith)
    ∙ digit (m / 1099511627776) (n / 1099511627776) (m / 4294967296) (n / 4294967296) t4 (omega arith) (omega arith)
    ∙ digit (m / 4294967296) (n / 4294967296) (m / 16777216) (n / 16777216) t3 (omega arith) (omega arith)
    ∙ digit (m / 16777216) (n / 16777216) (m / 65536) (n / 65536) t2 (omega arith) (omega arith)
    ∙ digit (m / 65536) (n / 65536) (m / 256) (n / 256) t1 (omega arith) (omega arith)
    ∙ digit (m / 256) (n / 256) m n t0 (omega arith) (omega arith)

-- ---- texts
-- of one length, and what is behind them
runs-less : (t u r s r' s' : Text) → length t ≡ length u → less r s ≡ less r' s' → less (t ++ r) (u ++ s) ≡ less (t ++ r') (u ++ s')
unfolding less
runs-less [] [] r s r' s' l e = e
runs-less [] (y ∷ u) r s r' s' l e = absurd (omega arith)
runs-less (x ∷ t) [] r s r' s' l e = absurd (omega arith)
runs-less (x ∷ t) (y ∷ u) r s r' s' l e = ap (first x y) (runs-less t u r s r' s' (omega arith) e)

-- where two numbers differ, what is behind them doesn't matter
first-same : (m n : ℕ) (x y : Bool) → (m ≡ n → x ≡ y) → first m n x ≡ first m n y
first-same m n x y e = ⊎_elim (λ q. ap (first m n) (e q)) (λ h. ⊎_elim (λ l. rw (lt-ltb m n l)) (λ l. rw (ne_eqb m n (λ q. omega arith))) h) (cases_order m n)

text-less : (t u r s r' s' : Text) → is_bytes t ≡ true → is_bytes u ≡ true → less r s ≡ less r' s' → less (code_text t ++ r) (code_text u ++ s) ≡ less (encode_text t ++ r') (encode_text u ++ s')
unfolding less
text-less t u r s r' s' p q e =
    first-same (length t) (length u) _ _ (λ l. runs-less t u r s r' s' l e)
    ∙ sym (word-less (length t) (length u) (t ++ r') (u ++ s') (ltb-true _ _ (and_parts (all_below 256 t) (is_word (length t)) p).1) (ltb-true _ _ (and_parts (all_below 256 u) (is_word (length u)) q).1))
    ∙ ap (λ z. less z (encode_word (length u) ++ (u ++ s'))) (sym (append_assoc (encode_word (length t)) t r')) ∙ ap (λ z. less (encode_text t ++ r') z) (sym (append_assoc (encode_word (length u)) u s'))

-- ---- values, with anything behind them
assoc-less : (p q p' q' r s r' s' a b c d : Text) → less (p ++ (a ++ r)) (q ++ (b ++ s)) ≡ less (p' ++ (c ++ r')) (q' ++ (d ++ s')) → less ((p ++ a) ++ r) ((q ++ b) ++ s) ≡ less ((p' ++ c) ++ r') ((q' ++ d) ++ s')
assoc-less p q p' q' r s r' s' a b c d e = rw (append_assoc p a r, append_assoc q b s, append_assoc p' c r', append_assoc q' d s') e

int-less : (m n : ℕ) (r s r' s' : Text) → is_word m ≡ true → is_word n ≡ true → less r s ≡ less r' s' → less (m ∷ r) (n ∷ s) ≡ less (encode_word m ++ r') (encode_word n ++ s')
unfolding less
int-less m n r s r' s' p q e = ap (first m n) e ∙ sym (word-less m n r' s' (ltb-true m _ p) (ltb-true n _ q))

bool-less : (b c : Bool) (r s r' s' : Text) → less r s ≡ less r' s' → less (code_bool b ∷ r) (code_bool c ∷ s) ≡ less (cond b 1 0 ∷ r') (cond c 1 0 ∷ s')
unfolding less
bool-less b c r s r' s' e = ap (first (cond b 1 0) (cond c 1 0)) e

uid-less : (t u : EntityUID) (r s r' s' : Text) → encodable_uid t ≡ true → encodable_uid u ≡ true → less r s ≡ less r' s' → less (code_uid t ++ r) (code_uid u ++ s) ≡ less (encode_uid t ++ r') (encode_uid u ++ s')
uid-less t u r s r' s' p q e =
    let v = and_parts (is_bytes t.ty) (is_bytes t.eid) p in
    let w = and_parts (is_bytes u.ty) (is_bytes u.eid) q in
    assoc-less (code_text t.ty) (code_text u.ty) (encode_text t.ty) (encode_text u.ty) r s r' s' _ _ _ _
    (text-less t.ty u.ty _ _ _ _ v.0 w.0 (text-less t.eid u.eid r s r' s' v.1 w.1 e))

mutual
  unfolding less

  value-less : (v w : Value) (c d : ℕ) (r s r' s' : Text) → encodable_value v c ≡ true → encodable_value w d ≡ true → less r s ≡ less r' s' → less (code v ++ r) (code w ++ s) ≡ less (encode_value v ++ r') (encode_value w ++ s')
  value-less (prim (bool b)) (prim (bool b')) c d r s r' s' p q e = bool-less b b' r s r' s' e
  value-less (prim (bool b)) (prim (int n)) c d r s r' s' p q e = refl
  value-less (prim (bool b)) (prim (string u)) c d r s r' s' p q e = refl
  value-less (prim (bool b)) (prim (entity_uid u)) c d r s r' s' p q e = refl
  value-less (prim (bool b)) (set ws) c d r s r' s' p q e = refl
  value-less (prim (bool b)) (record_of gs) c d r s r' s' p q e = refl
  value-less (prim (int m)) (prim (bool b')) c d r s r' s' p q e = refl
  value-less (prim (int m)) (prim (int n)) c d r s r' s' p q e = int-less m n r s r' s' p q e
  value-less (prim (int m)) (prim (string u)) c d r s r' s' p q e = refl
  value-less (prim (int m)) (prim (entity_uid u)) c d r s r' s' p q e = refl
  value-less (prim (int m)) (set ws) c d r s r' s' p q e = refl
  value-less (prim (int m)) (record_of gs) c d r s r' s' p q e = refl
  value-less (prim (string t)) (prim (bool b')) c d r s r' s' p q e = refl
  value-less (prim (string t)) (prim (int n)) c d r s r' s' p q e = refl
  value-less (prim (string t)) (prim (string u)) c d r s r' s' p q e = text-less t u r s r' s' p q e
  value-less (prim (string t)) (prim (entity_uid u)) c d r s r' s' p q e = refl
  value-less (prim (string t)) (set ws) c d r s r' s' p q e = refl
  value-less (prim (string t)) (record_of gs) c d r s r' s' p q e = refl
  value-less (prim (entity_uid t)) (prim (bool b')) c d r s r' s' p q e = refl
  value-less (prim (entity_uid t)) (prim (int n)) c d r s r' s' p q e = refl
  value-less (prim (entity_uid t)) (prim (string u)) c d r s r' s' p q e = refl
  value-less (prim (entity_uid t)) (prim (entity_uid u)) c d r s r' s' p q e = uid-less t u r s r' s' p q e
  value-less (prim (entity_uid t)) (set ws) c d r s r' s' p q e = refl
  value-less (prim (entity_uid t)) (record_of gs) c d r s r' s' p q e = refl
  value-less (set vs) (prim (bool b')) c d r s r' s' p q e = refl
  value-less (set vs) (prim (int n)) c d r s r' s' p q e = refl
  value-less (set vs) (prim (string u)) c d r s r' s' p q e = refl
  value-less (set vs) (prim (entity_uid u)) c d r s r' s' p q e = refl
  value-less (set vs) (set ws) c d r s r' s' p q e = values-less vs ws (c - 1) (d - 1) r s r' s' (and_parts (level c) (encodable_values vs (c - 1)) p).1 (and_parts (level d) (encodable_values ws (d - 1)) q).1 e
  value-less (set vs) (record_of gs) c d r s r' s' p q e = refl
  value-less (record_of fs) (prim (bool b')) c d r s r' s' p q e = refl
  value-less (record_of fs) (prim (int n)) c d r s r' s' p q e = refl
  value-less (record_of fs) (prim (string u)) c d r s r' s' p q e = refl
  value-less (record_of fs) (prim (entity_uid u)) c d r s r' s' p q e = refl
  value-less (record_of fs) (set ws) c d r s r' s' p q e = refl
  value-less (record_of fs) (record_of gs) c d r s r' s' p q e = attrs-less fs gs (c - 1) (d - 1) r s r' s' (and_parts (level c) (encodable_attrs fs (c - 1)) p).1 (and_parts (level d) (encodable_attrs gs (d - 1)) q).1 e

  values-less : (vs ws : Values) (c d : ℕ) (r s r' s' : Text) → encodable_values vs c ≡ true → encodable_values ws d ≡ true → less r s ≡ less r' s' → less (code_values vs ++ r) (code_values ws ++ s) ≡ less (encode_values vs ++ r') (encode_values ws ++ s')
  values-less nil nil c d r s r' s' p q e = e
  values-less nil (cons w ws) c d r s r' s' p q e = refl
  values-less (cons v vs) nil c d r s r' s' p q e = refl
  values-less (cons v vs) (cons w ws) c d r s r' s' p q e =
      let g = and_parts (encodable_value v c) (encodable_values vs c) p in
      let h = and_parts (encodable_value w d) (encodable_values ws d) q in
      assoc-less (code v) (code w) (encode_value v) (encode_value w) r s r' s' _ _ _ _ (value-less v w c d _ _ _ _ g.0 h.0 (values-less vs ws c d r s r' s' g.1 h.1 e))

  attrs-less : (fs gs : Attrs) (c d : ℕ) (r s r' s' : Text) → encodable_attrs fs c ≡ true → encodable_attrs gs d ≡ true → less r s ≡ less r' s' → less (code_attrs fs ++ r) (code_attrs gs ++ s) ≡ less (encode_attrs fs ++ r') (encode_attrs gs ++ s')
  attrs-less empty empty c d r s r' s' p q e = e
  attrs-less empty (attr b w gs) c d r s r' s' p q e = refl
  attrs-less (attr a v fs) empty c d r s r' s' p q e = refl
  attrs-less (attr a v fs) (attr b w gs) c d r s r' s' p q e =
      let g = and_parts (is_bytes a) (encodable_value v c && encodable_attrs fs c) p in
      let h = and_parts (is_bytes b) (encodable_value w d && encodable_attrs gs d) q in
      let g' = and_parts (encodable_value v c) (encodable_attrs fs c) g.1 in
      let h' = and_parts (encodable_value w d) (encodable_attrs gs d) h.1 in
      assoc-less (code_text a) (code_text b) (encode_text a) (encode_text b) r s r' s' _ _ _ _
      (text-less a b _ _ _ _ g.0 h.0 (assoc-less (code v) (code w) (encode_value v) (encode_value w) r s r' s' _ _ _ _ (value-less v w c d _ _ _ _ g'.0 h'.0 (attrs-less fs gs c d r s r' s' g'.1 h'.1 e))))

pub byte-order : ByteOrder
byte-order v w c d p q =
    ap (λ z. less z (code w)) (sym (append-nil (code v))) ∙ ap (λ z. less (code v ++ []) z) (sym (append-nil (code w))) ∙ value-less v w c d [] [] [] [] p q refl
    ∙ ap (λ z. less z (encode_value w ++ [])) (append-nil (encode_value v)) ∙ ap (λ z. less (encode_value v) z) (append-nil (encode_value w))
