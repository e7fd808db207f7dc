-- Lists that grow at their end, and what is left of evaluating one.
use Rattle.std.proofs.Common.{◌≡◌, ℕ, zero, suc, ◌+◌, ◌<◌, ◌≤◌, List, [], ◌∷◌, ◌++◌, take, drop, sym, refl, ap, ◌∙◌, ap₂, arith}
use Rattle.std.proofs.lemmas.List.{append_assoc, append-nil, take-take}
use Rattle.spec.specs.Basics.{Except, ok, error, ◌>>=◌}
use Rattle.values.specs.Held.{text_at, TextIn}
use Rattle.values.specs.Making.{up_to, listed}
use Rattle.values.proofs.Frame.{text-on}
use Rattle.values.proofs.Made.{up-to-on}

pub listed-alike : {A : Type 0} (f g : ℕ → A) (i n : ℕ) → ((k : ℕ) → i ≤ k → k < i + n → f k ≡ g k) → listed f i n ≡ listed g i n
listed-alike f g i zero e = refl
listed-alike f g i (suc n) e = ap₂ ◌∷◌ (e i (omega arith) (omega arith)) (listed-alike f g (i + 1) n (λ k l l'. e k (omega arith) (omega arith)))

listed-end : {A : Type 0} (f : ℕ → A) (i n : ℕ) → listed f i (suc n) ≡ listed f i n ++ (f (i + n) ∷ [])
listed-end f i zero = let e : i ≡ i + 0 = omega arith in ap (λ k. f k ∷ []) e
listed-end f i (suc n) =
    let e : i + 1 + n ≡ i + suc n = omega arith in
    ap (λ l. f i ∷ l) (listed-end f (i + 1) n ∙ ap (λ k. listed f (i + 1) n ++ (f k ∷ [])) e)

-- one more, where those before mean what they meant
pub listed-push : {A : Type 0} (f g : ℕ → A) (n : ℕ) (a : A) → ((k : ℕ) → k < n → g k ≡ f k) → g n ≡ a → listed g 0 (n + 1) ≡ listed f 0 n ++ (a ∷ [])
listed-push f g n a e last =
    let o : n + 1 ≡ suc n = omega arith in
    let z : 0 + n ≡ n = omega arith in
    ap (listed g 0) o ∙ listed-end g 0 n ∙ ap₂ (λ l k. l ++ (k ∷ [])) (listed-alike g f 0 n (λ k l l'. e k (omega arith))) (ap g z ∙ last)

-- ---- what is left of evaluating a list
pub nothing_yet : {E A : Type 0} (o : Except E (List A)) → o ≡ (o >>= (λ vs. ok ([] ++ vs)))
nothing_yet (ok vs) = refl
nothing_yet (error e) = refl

pub one-more-left : {E V A : Type 0} (o : Except E V) (v : V) (g : V → A) (r : Except E (List A)) (ds : List A) → o ≡ ok v → ((o >>= (λ v. r >>= (λ vs. ok (g v ∷ vs)))) >>= (λ vs. ok (ds ++ vs))) ≡ (r >>= (λ vs. ok ((ds ++ (g v ∷ [])) ++ vs)))
one-more-left o v g (ok vs) ds e = ap (λ x. (x >>= (λ v. ok (g v ∷ vs))) >>= (λ vs. ok (ds ++ vs))) e ∙ ap ok (sym (append_assoc ds (g v ∷ []) vs))
one-more-left o v g (error k) ds e = ap (λ x. (x >>= (λ v. error k)) >>= (λ vs. ok (ds ++ vs))) e

pub fails-there : {E V A : Type 0} (o : Except E V) (k : E) (g : V → A) (r : Except E (List A)) (ds : List A) → o ≡ error k → ((o >>= (λ v. r >>= (λ vs. ok (g v ∷ vs)))) >>= (λ vs. ok (ds ++ vs))) ≡ error k
fails-there o k g r ds e = ap (λ x. (x >>= (λ v. r >>= (λ vs. ok (g v ∷ vs)))) >>= (λ vs. ok (ds ++ vs))) e

pub all_done : {E A : Type 0} (o : Except E (List A)) (ds : List A) → o ≡ ok (ds ++ []) → o ≡ ok ds
all_done o ds e = e ∙ ap ok (append-nil ds)

-- ---- the work memory
pub keeps-less : (t n : ℕ) (a b : List ℕ) → t ≤ n → take n a ≡ take n b → take t a ≡ take t b
keeps-less t n a b le e = sym (take-take t n a le) ∙ ap (take t) e ∙ take-take t n b le

pub text-later : (store w₁ w₂ : List ℕ) (t₁ t₂ p : ℕ) → t₁ ≤ t₂ → take t₁ w₂ ≡ take t₁ w₁ → TextIn (up_to store w₁ t₁) p → text_at (up_to store w₂ t₂) p ≡ text_at (up_to store w₁ t₁) p
text-later store w₁ w₂ t₁ t₂ p le e i = ap (λ m. text_at m p) (up-to-on store w₁ w₂ t₁ t₂ le e) ∙ text-on (up_to store w₁ t₁) (drop t₁ (take t₂ w₂)) p i
