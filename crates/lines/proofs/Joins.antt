-- One text appended after another.
use Rattle.std.proofs.Common.{◌≡◌, ℕ, ◌+◌, ◌/◌, ◌%◌, ◌<◌, ◌≤◌, List, [], ◌∷◌, ◌++◌, length, get_or, take, sym, refl, ap, ◌∙◌, append_assoc}
use Rattle.std.proofs.lemmas.List.{take_more, take_all, append-nil}
use Rattle.lines.specs.Quotes.{hex_digit, hex_escape, escape, escapes, quote}

pub joined : (a b c x y : List ℕ) → b ≡ a ++ x → c ≡ b ++ y → c ≡ a ++ (x ++ y)
joined a b c x y p q = q ∙ ap (λ l. l ++ y) p ∙ append_assoc a x y

pub escapes-++ : (xs ys : List ℕ) → escapes (xs ++ ys) ≡ escapes xs ++ escapes ys
unfolding escapes
escapes-++ [] ys = refl
escapes-++ (x ∷ xs) ys = ap (λ l. escape x ++ l) (escapes-++ xs ys) ∙ sym (append_assoc (escape x) (escapes xs) (escapes ys))

escapes-one : (b : ℕ) → escapes (b ∷ []) ≡ escape b
unfolding escapes
escapes-one b = append-nil (escape b)

pub escapes-none : escapes [] ≡ []
unfolding escapes
escapes-none = refl

-- one byte more
pub escapes-more : (xs : List ℕ) (i : ℕ) → i < length xs → escapes (take (i + 1) xs) ≡ escapes (take i xs) ++ escape (get_or xs i 0)
escapes-more xs i h =
    ap escapes (take_more xs i 0 h) ∙ escapes-++ (take i xs) (get_or xs i 0 ∷ []) ∙ ap (λ l. escapes (take i xs) ++ l) (escapes-one (get_or xs i 0))

-- the whole of an id: a quote, the escaped bytes, a quote
pub quote-whole : (a b d e id : List ℕ) (n : ℕ) → b ≡ a ++ (34 ∷ []) → d ≡ b ++ escapes (take n id) → length id ≤ n → e ≡ d ++ (34 ∷ []) → e ≡ a ++ quote id
quote-whole a b d e id n p q all r =
    let whole : d ≡ b ++ escapes id = q ∙ ap (λ l. b ++ escapes l) (take_all n id all) in
    joined a b e (34 ∷ []) (escapes id ++ (34 ∷ [])) p (joined b d e (escapes id) (34 ∷ []) whole r)

pub hex-whole : (a b d e : List ℕ) (x y n : ℕ) → b ≡ a ++ (92 ∷ (120 ∷ [])) → d ≡ b ++ (x ∷ []) → e ≡ d ++ (y ∷ []) → x ≡ hex_digit (n / 16) → y ≡ hex_digit (n % 16) → e ≡ a ++ hex_escape n
hex-whole a b d e x y n p q r f g =
    joined a b e (92 ∷ (120 ∷ [])) (x ∷ (y ∷ [])) p (joined b d e (x ∷ []) (y ∷ []) q r)
    ∙ ap (λ h. a ++ (92 ∷ (120 ∷ (h ∷ (y ∷ []))))) f ∙ ap (λ h. a ++ (92 ∷ (120 ∷ (hex_digit (n / 16) ∷ (h ∷ []))))) g

pub escapes-step : (a b d id : List ℕ) (i : ℕ) → i < length id → b ≡ a ++ escapes (take i id) → d ≡ b ++ escape (get_or id i 0) → d ≡ a ++ escapes (take (i + 1) id)
escapes-step a b d id i h p q =
    joined a b d (escapes (take i id)) (escape (get_or id i 0)) p q ∙ ap (λ l. a ++ l) (sym (escapes-more id i h))
