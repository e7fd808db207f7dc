-- A reader that is exact for an encoding: it reads back what is encoded, what it reads is what the bytes spell, and it stops just where no good thing goes on. One lemma for each way to make a reader of others.
use Rattle.std.proofs.Common.{◌≡◌, ℕ, zero, suc, ◌+◌, ◌<◌, ◌≤◌, Bool, true, List, [], ◌∷◌, ◌++◌, length, take, sym, refl, ap, ◌∙◌, subst, zero-add, arith}
use mathlib.Core.Option.{Option, some, none}
use Rattle.std.proofs.lemmas.Bool.{and_parts, and_from, ne_eqb}
use Rattle.std.proofs.lemmas.List.{length-append, append_assoc, drop_at}
use Rattle.spec.specs.Basics.{all}
use Rattle.spec.specs.Bytes.{Bytes, encode_list}
use Rattle.spec.specs.Calls.{all_below}
use Rattle.wire.specs.Read.{Read, got, stops, past, turn, follow, got_one, read_list}

-- k of the bytes are the beginning of something good, and with the byte behind them they are not
pub record Begun {X : Type 0} (e : X → Bytes) (good : X → Bool) (r : Bytes → Read X) (bs : Bytes) (k : ℕ) : Type 0 where
  pub stop : r bs ≡ stops k
  pub within : k ≤ length bs
  pub one : X
  pub one-good : good one ≡ true
  pub rest : Bytes
  pub begins : e one ≡ take k bs ++ rest
  pub stays : k < length bs → (other : Bytes) → r (take (suc k) bs ++ other) ≡ stops k

pub data Seen {X : Type 0} (e : X → Bytes) (good : X → Bool) (r : Bytes → Read X) (bs : Bytes) : Type 0 where
  whole : (x : X) (rest : Bytes) → good x ≡ true → bs ≡ e x ++ rest → Seen e good r bs
  partly : (k : ℕ) → Begun e good r bs k → Seen e good r bs

pub record Exact {X : Type 0} (e : X → Bytes) (good : X → Bool) (r : Bytes → Read X) : Type 0 where
  pub back : (x : X) (rest : Bytes) → good x ≡ true → r (e x ++ rest) ≡ got x (length (e x))
  pub sees : (bs : Bytes) → all_below 256 bs ≡ true → Seen e good r bs
  pub some : X
  pub some_good : good some ≡ true

-- ---- what was read, and where it stopped
pub got-stops : {A X : Type 0} (x : X) (n k : ℕ) → got x n ≡ stops k → A
got-stops {A} x n k e = let z : ◌≡◌ {A = ℕ} 0 1 = cc in absurd (omega arith)

pub got-long : {X : Type 0} (x y : X) (m n : ℕ) → got x m ≡ got y n → m ≡ n
got-long x y m n e = cc

pub got_same : {X : Type 0} (x y : X) (m n : ℕ) → got x m ≡ got y n → x ≡ y
got_same x y m n e = cc

module _ {X : Type 0} (e : X → Bytes) (good : X → Bool) (r : Bytes → Read X) (E : Exact e good r) (bs : Bytes) (small : all_below 256 bs ≡ true) where
  -- the bytes spell what is read
  pub spelled : (x : X) (n : ℕ) → r bs ≡ got x n → (rest : Bytes) × (bs ≡ e x ++ rest) × (n ≡ length (e x)) × (good x ≡ true)
  spelled x n q = go (E.sees bs small)
    where
      go : Seen e good r bs → (rest : Bytes) × (bs ≡ e x ++ rest) × (n ≡ length (e x)) × (good x ≡ true)
      go (whole y rest g p) =
          let w : got y (length (e y)) ≡ got x n = sym (ap r p ∙ E.back y rest g) ∙ q in
          let y-x : y ≡ x = got_same y x (length (e y)) n w in
          (rest, p ∙ ap (λ z. e z ++ rest) y-x, sym (got-long y x (length (e y)) n w) ∙ ap (λ z. length (e z)) y-x, ap good (sym y-x) ∙ g)
      go (partly k w) = got-stops x n k (sym q ∙ w.stop)

  -- where it stops, the bytes before are a beginning
  pub begun : (k : ℕ) → r bs ≡ stops k → Begun e good r bs k
  begun k q = go (E.sees bs small)
    where
      go : Seen e good r bs → Begun e good r bs k
      go (whole y rest g p) = got-stops y (length (e y)) k (sym (ap r p ∙ E.back y rest g) ∙ q)
      go (partly j w) = let P : ℕ → Type 0 = Begun e good r bs in subst P (stops_same j k (sym w.stop ∙ q)) w
        where
          stops_same : (i j : ℕ) → ◌≡◌ {A = Read X} (stops i) (stops j) → i ≡ j
          stops_same i j e = cc

-- ---- lists
pub all-behind : (f : ℕ → Bool) (xs ys : List ℕ) → all f (xs ++ ys) ≡ true → all f ys ≡ true
all-behind f [] ys h = h
all-behind f (x ∷ xs) ys h = all-behind f xs ys (and_parts (f x) (all f (xs ++ ys)) h).1

pub take_past : (xs ys : List ℕ) (k : ℕ) → take (length xs + k) (xs ++ ys) ≡ xs ++ take k ys
take_past [] ys k = ap (λ n. take n ys) (zero-add k)
take_past (x ∷ xs) ys k = let p : length (x ∷ xs) + k ≡ suc (length xs + k) = omega arith in rw p (ap (λ zs. x ∷ zs) (take_past xs ys k))

pub take-past-one : (xs ys zs : List ℕ) (k : ℕ) → take (suc (length xs + k)) (xs ++ ys) ++ zs ≡ xs ++ (take (suc k) ys ++ zs)
take-past-one xs ys zs k =
    let p : suc (length xs + k) ≡ length xs + suc k = omega arith in
    rw (p, take_past xs ys (suc k)) (append_assoc xs (take (suc k) ys) zs)

-- ---- the same reader, otherwise written
module _ {X : Type 0} (e : X → Bytes) (good : X → Bool) (r r' : Bytes → Read X) (same : (bs : Bytes) → r bs ≡ r' bs) where
  seen_same : (bs : Bytes) → Seen e good r bs → Seen e good r' bs
  seen_same bs (whole x rest g p) = whole x rest g p
  seen_same bs (partly k w) =
      partly k (record { stop = sym (same bs) ∙ w.stop; within = w.within; one = w.one; one-good = w.one-good; rest = w.rest; begins = w.begins; stays = λ h other. sym (same _) ∙ w.stays h other })

  pub exact_same : Exact e good r → Exact e good r'
  exact_same w = record { back = λ x rest g. sym (same _) ∙ w.back x rest g; sees = λ bs h. seen_same bs (w.sees bs h); some = w.some; some_good = w.some_good }

-- ---- nothing
pub exact-nothing : Exact {X = Unit {0}} (λ _. []) (λ _. true) (λ bs. got tt 0)
exact-nothing = record { back = λ x rest g. refl; sees = λ bs h. whole tt bs refl refl; some = tt; some_good = refl }

-- ---- one thing and another behind it, which make a third
module _ {X Z : Type 0} {Y : X → Type 0} (e₁ : X → Bytes) (g₁ : X → Bool) (r₁ : Bytes → Read X)
    (e₂ : (x : X) → Y x → Bytes) (g₂ : (x : X) → Y x → Bool) (r₂ : (x : X) → Bytes → Read (Y x))
    (m : (x : X) → Y x → Z) (e : Z → Bytes) (g : Z → Bool)
    (apart : (z : Z) → g z ≡ true → (x : X) × (y : Y x) × (m x y ≡ z) × (g₁ x ≡ true) × (g₂ x y ≡ true))
    (joined : (x : X) (y : Y x) → g₁ x ≡ true → g₂ x y ≡ true → (e (m x y) ≡ e₁ x ++ e₂ x y) × (g (m x y) ≡ true))
    (E₁ : Exact e₁ g₁ r₁) (E₂ : (x : X) → g₁ x ≡ true → Exact (e₂ x) (g₂ x) (r₂ x)) where
  abbrev pub behind : Bytes → Read Z
  behind bs = follow (r₁ bs) bs (λ x rest. turn (m x) (r₂ x rest))

  behind-got : (x : X) (bs : Bytes) → g₁ x ≡ true → behind (e₁ x ++ bs) ≡ past (length (e₁ x)) (turn (m x) (r₂ x bs))
  behind-got x bs h = rw (E₁.back x bs h, drop_at (e₁ x) bs (length (e₁ x)) refl)

  behind-back : (x : X) (y : Y x) (rest : Bytes) → g₁ x ≡ true → g₂ x y ≡ true → behind (e (m x y) ++ rest) ≡ got (m x y) (length (e (m x y)))
  behind-back x y rest h k =
      let j = (joined x y h k).0 in
      ap (λ bs. behind (bs ++ rest)) j ∙ ap behind (append_assoc (e₁ x) (e₂ x y) rest) ∙ behind-got x (e₂ x y ++ rest) h
      ∙ ap (λ R. past (length (e₁ x)) (turn (m x) R)) ((E₂ x h).back y rest k)
      ∙ ap (λ n. got (m x y) n) (sym (ap length j ∙ length-append (e₁ x) (e₂ x y)))

  back-of : (z : Z) (rest : Bytes) → g z ≡ true → behind (e z ++ rest) ≡ got z (length (e z))
  back-of z rest h =
      let a = apart z h in
      subst (λ z. behind (e z ++ rest) ≡ got z (length (e z))) a.2 (behind-back a.0 a.1 rest a.3 a.4)

  -- the first stops
  first_stops : (bs : Bytes) (k : ℕ) → Begun e₁ g₁ r₁ bs k → Begun e g behind bs k
  first_stops bs k w =
      let s = E₂ w.one w.one-good in
      let j = joined w.one s.some w.one-good s.some_good in
      record {
        stop = rw w.stop;
        within = w.within;
        one = m w.one s.some;
        one-good = j.1;
        rest = w.rest ++ e₂ w.one s.some;
        begins = j.0 ∙ ap (λ p. p ++ e₂ w.one s.some) w.begins ∙ append_assoc (take k bs) w.rest (e₂ w.one s.some);
        stays = λ h other. rw (w.stays h other);
      }

  -- the second stops
  second-stops : (x : X) (bs : Bytes) (k : ℕ) → g₁ x ≡ true → Begun (e₂ x) (g₂ x) (r₂ x) bs k → Begun e g behind (e₁ x ++ bs) (length (e₁ x) + k)
  second-stops x bs k h w =
      let j = joined x w.one h w.one-good in
      record {
        stop = behind-got x bs h ∙ ap (λ R. past (length (e₁ x)) (turn (m x) R)) w.stop;
        within = omega (arith, length-append (e₁ x) bs, w.within);
        one = m x w.one;
        one-good = j.1;
        rest = w.rest;
        begins = j.0 ∙ ap (λ q. e₁ x ++ q) w.begins ∙ sym (append_assoc (e₁ x) (take k bs) w.rest) ∙ ap (λ q. q ++ w.rest) (sym (take_past (e₁ x) bs k));
        stays = λ l other. ap behind (take-past-one (e₁ x) bs other k) ∙ behind-got x (take (suc k) bs ++ other) h
            ∙ ap (λ R. past (length (e₁ x)) (turn (m x) R)) (w.stays (omega (arith, length-append (e₁ x) bs)) other);
      }

  second-seen : (x : X) (bs : Bytes) → g₁ x ≡ true → Seen (e₂ x) (g₂ x) (r₂ x) bs → Seen e g behind (e₁ x ++ bs)
  second-seen x bs h (whole y rest k p) =
      let j = joined x y h k in
      whole (m x y) rest j.1 (ap (λ q. e₁ x ++ q) p ∙ sym (append_assoc (e₁ x) (e₂ x y) rest) ∙ ap (λ q. q ++ rest) (sym j.0))
  second-seen x bs h (partly k w) = partly (length (e₁ x) + k) (second-stops x bs k h w)

  first-seen : (bs : Bytes) → all_below 256 bs ≡ true → Seen e₁ g₁ r₁ bs → Seen e g behind bs
  first-seen bs h (whole x rest k p) =
      subst (Seen e g behind) (sym p) (second-seen x rest k ((E₂ x k).sees rest (all-behind _ (e₁ x) rest (subst (λ q. all_below 256 q ≡ true) p h))))
  first-seen bs h (partly k w) = partly k (first_stops bs k w)

  pub exact-behind : Exact e g behind
  exact-behind =
      let s = E₂ E₁.some E₁.some_good in
      record { back = back-of; sees = λ bs h. first-seen bs h (E₁.sees bs h); some = m E₁.some s.some; some_good = (joined E₁.some s.some E₁.some_good s.some_good).1 }

-- ---- one of some things, by a byte
abbrev pub read_byte : {X : Type 0} → (ℕ → Option X) → Bytes → Read X
read_byte o [] = stops 0
read_byte o (b ∷ bs) = got_one (o b)

module _ {X : Type 0} (number : X → ℕ) (good : X → Bool) (o : ℕ → Option X)
    (there : (x : X) → good x ≡ true → o (number x) ≡ some x)
    (only : (b : ℕ) (x : X) → o b ≡ some x → (b ≡ number x) × (good x ≡ true))
    (one_of_lem : X) (one-good : good one_of_lem ≡ true) where
  abbrev byte_of : X → Bytes
  byte_of x = number x ∷ []

  seen-byte : (b : ℕ) (bs : Bytes) (p : Option X) → o b ≡ p → Seen byte_of good (read_byte o) (b ∷ bs)
  seen-byte b bs (some x) q = let w = only b x q in whole x bs w.1 (ap (λ c. c ∷ bs) w.0)
  seen-byte b bs none q =
      partly 0 (record { stop = ap got_one q; within = omega arith; one = one_of_lem; one-good = one-good; rest = byte_of one_of_lem; begins = refl; stays = λ h other. ap got_one q })

  see-byte : (bs : Bytes) → Seen byte_of good (read_byte o) bs
  see-byte [] = partly 0 (record { stop = refl; within = omega arith; one = one_of_lem; one-good = one-good; rest = byte_of one_of_lem; begins = refl; stays = λ h other. absurd (omega arith) })
  see-byte (b ∷ bs) = seen-byte b bs (o b) refl

  pub exact-byte : Exact byte_of good (read_byte o)
  exact-byte = record { back = λ x rest h. ap got_one (there x h); sees = λ bs h. see-byte bs; some = one_of_lem; some_good = one-good }

-- ---- a list of things
past-zero : {X : Type 0} (R : Read X) → past 0 R ≡ R
past-zero (got x n) = ap (λ m. got x m) (zero-add n)
past-zero (stops n) = ap (λ m. stops m) (zero-add n)

past-past : {X : Type 0} (m n : ℕ) (R : Read X) → past m (past n R) ≡ past (m + n) R
past-past m n (got x k) = ap (λ j. got x j) (omega arith)
past-past m n (stops k) = ap (λ j. stops j) (omega arith)

-- the bytes that are passed over
pub list-skip : {X : Type 0} (r : Bytes → Read X) (as' bs : Bytes) → read_list r (length as') (as' ++ bs) ≡ past (length as') (read_list r 0 bs)
unfolding read_list
list-skip r [] bs = sym (past-zero _)
list-skip r (a ∷ as') bs = ap (λ R. past 1 R) (list-skip r as' bs) ∙ past-past 1 (length as') _ ∙ ap (λ n. past n (read_list r 0 bs)) (omega arith)

module _ {X : Type 0} (e : X → Bytes) (g : X → Bool) (r : Bytes → Read X) (E : Exact e g r) where
  abbrev list_bytes : List X → Bytes
  list_bytes xs = encode_list e xs

  abbrev list_good : List X → Bool
  list_good xs = all g xs

  abbrev list_read : Bytes → Read (List X)
  list_read bs = read_list r 0 bs

  list-got : (x : X) (bs : Bytes) → g x ≡ true → list_read (1 ∷ (e x ++ bs)) ≡ past 1 (turn (λ xs. x ∷ xs) (past (length (e x)) (list_read bs)))
  unfolding read_list
  list-got x bs h = rw (E.back x bs h) (ap (λ R. past 1 (turn (λ xs. x ∷ xs) R)) (list-skip r (e x) bs))

  list_back : (xs : List X) (rest : Bytes) → list_good xs ≡ true → list_read (list_bytes xs ++ rest) ≡ got xs (length (list_bytes xs))
  unfolding read_list
  list_back [] rest h = refl
  list_back (x ∷ xs) rest h =
      let w = and_parts (g x) (all g xs) h in
      ap (λ q. list_read (1 ∷ q)) (append_assoc (e x) (list_bytes xs) rest) ∙ list-got x (list_bytes xs ++ rest) w.0
      ∙ ap (λ R. past 1 (turn (λ xs. x ∷ xs) (past (length (e x)) R))) (list_back xs rest w.1)
      ∙ ap (λ n. got (x ∷ xs) n) (omega (arith, length-append (e x) (list_bytes xs)))

  -- no 0 or 1
  list-other : (b : ℕ) (bs : Bytes) → list_read (suc (suc b) ∷ bs) ≡ stops 0
  unfolding read_list
  list-other b bs = rw (ne_eqb (suc (suc b)) 0 (λ q. omega arith), ne_eqb (suc (suc b)) 1 (λ q. omega arith))

  -- one thing in the list stops
  item-stops : (bs : Bytes) (k : ℕ) → Begun e g r bs k → Begun list_bytes list_good list_read (1 ∷ bs) (suc k)
  unfolding read_list
  item-stops bs k w =
      record {
        stop = rw w.stop (ap (λ n. stops n) (omega arith));
        within = omega (arith, w.within);
        one = w.one ∷ [];
        one-good = and_from (g w.one) true w.one-good refl;
        rest = w.rest ++ 0 ∷ [];
        begins = ap (λ q. 1 ∷ q) (ap (λ q. q ++ 0 ∷ []) w.begins ∙ append_assoc (take k bs) w.rest (0 ∷ []));
        stays = λ h other. rw (w.stays (omega arith) other) (ap (λ n. stops n) (omega arith));
      }

  -- the list stops behind a thing
  rest-stops : (x : X) (bs : Bytes) (k : ℕ) → g x ≡ true → Begun list_bytes list_good list_read bs k → Begun list_bytes list_good list_read (1 ∷ (e x ++ bs)) (suc (length (e x) + k))
  rest-stops x bs k h w =
      record {
        stop = list-got x bs h ∙ ap (λ R. past 1 (turn (λ xs. x ∷ xs) (past (length (e x)) R))) w.stop ∙ ap (λ n. stops n) (omega arith);
        within = omega (arith, w.within, length-append (e x) bs);
        one = x ∷ w.one;
        one-good = and_from (g x) (all g w.one) h w.one-good;
        rest = w.rest;
        begins = ap (λ q. 1 ∷ q) (ap (λ q. e x ++ q) w.begins ∙ sym (append_assoc (e x) (take k bs) w.rest) ∙ ap (λ q. q ++ w.rest) (sym (take_past (e x) bs k)));
        stays = λ l other. ap (λ q. list_read (1 ∷ q)) (take-past-one (e x) bs other k) ∙ list-got x (take (suc k) bs ++ other) h
            ∙ ap (λ R. past 1 (turn (λ xs. x ∷ xs) (past (length (e x)) R))) (w.stays (omega (arith, length-append (e x) bs)) other)
            ∙ ap (λ n. stops n) (omega arith);
      }

  rest-seen : (x : X) (bs : Bytes) → g x ≡ true → Seen list_bytes list_good list_read bs → Seen list_bytes list_good list_read (1 ∷ (e x ++ bs))
  rest-seen x bs h (whole xs rest k p) =
      whole (x ∷ xs) rest (and_from (g x) (all g xs) h k) (ap (λ q. 1 ∷ q) (ap (λ q. e x ++ q) p ∙ sym (append_assoc (e x) (list_bytes xs) rest)))
  rest-seen x bs h (partly k w) = partly (suc (length (e x) + k)) (rest-stops x bs k h w)

  see-list : (n : ℕ) (bs : Bytes) → length bs ≤ n → all_below 256 bs ≡ true → Seen list_bytes list_good list_read bs
  unfolding read_list
  see-list n [] l h = partly 0 (record { stop = refl; within = omega arith; one = []; one-good = refl; rest = 0 ∷ []; begins = refl; stays = λ k other. absurd (omega arith) })
  see-list n (zero ∷ bs) l h = whole [] bs refl refl
  see-list zero (suc zero ∷ bs) l h = absurd (omega arith)
  see-list (suc n) (suc zero ∷ bs) l h = item (λ rest c a. see-list n rest c a) (E.sees bs (and_parts true (all_below 256 bs) h).1)
    where
      item : ((rest : Bytes) → length rest ≤ n → all_below 256 rest ≡ true → Seen list_bytes list_good list_read rest) → Seen e g r bs → Seen list_bytes list_good list_read (1 ∷ bs)
      item ih (whole x rest k p) =
          let a = all-behind _ (e x) rest (subst (λ q. all_below 256 q ≡ true) p (and_parts true (all_below 256 bs) h).1) in
          let c : length rest ≤ n = omega (arith, ap length p, length-append (e x) rest) in
          subst (λ q. Seen list_bytes list_good list_read (1 ∷ q)) (sym p) (rest-seen x rest k (ih rest c a))
      item ih (partly k w) = partly (suc k) (item-stops bs k w)
  see-list n (suc (suc b) ∷ bs) l h = partly 0 (record { stop = list-other b bs; within = omega arith; one = []; one-good = refl; rest = 0 ∷ []; begins = refl; stays = λ k other. list-other b other })

  pub exact-list : Exact list_bytes list_good list_read
  exact-list = record { back = list_back; sees = λ bs h. see-list (length bs) bs (omega arith) h; some = []; some_good = refl }
