-- The lines put together.
use Rattle.std.proofs.Common.{◌≡◌, ℕ, ◌<◌, Bool, cond, List, ◌∷◌, ◌++◌, Result, sym, ap, ◌∙◌, arith}
use Rattle.spec.specs.Calls.{Refusal, Answer, refused, done, all_valid, not_valid, authorized}
use Rattle.spec.specs.Bytes.{encode_answer}
use Rattle.lines.specs.declared.failures.LineError.{LineError}
use Rattle.lines.specs.Answers.{line_of, Fit}
use Rattle.lines.specs.Results.{OkOr}
use Rattle.lines.proofs.Firsts.{same-first}
use Rattle.lines.proofs.Joins.{joined}

pub two-last : (line mid after a b : List ℕ) (x y x' y' : Bool) (A B C D : List ℕ) → mid ≡ line ++ a → after ≡ mid ++ b → a ≡ cond x A B → b ≡ cond y C D → x ≡ x' → y ≡ y' → after ≡ line ++ (cond x' A B ++ cond y' C D)
two-last line mid after a b x y x' y' A B C D p q r s u v =
    joined line mid after a b p q
    ∙ ap (λ l. line ++ (l ++ b)) (r ∙ ap (λ t. cond t A B) u)
    ∙ ap (λ l. line ++ (cond x' A B ++ l)) (s ∙ ap (λ t. cond t C D) v)

-- the number before a refusal is that of no other answer
pub first-refused : {X : Type 0} (f : X → List ℕ) (bs left : List ℕ) (r : Result X LineError) → bs ≡ 0 ∷ left →
    ((refusal : Refusal) (place : ℕ) → place < 18446744073709551616 → 0 ∷ left ≡ encode_answer (refused refusal place) → OkOr r (λ l. f l ≡ line_of (refused refusal place))) →
    (a : Answer) → Fit a → bs ≡ encode_answer a → OkOr r (λ l. f l ≡ line_of a)
first-refused f bs left r z h (refused refusal place) fit e = h refusal place fit (sym z ∙ e)
first-refused f bs left r z h done fit e = let n = same-first _ _ _ _ (sym z ∙ e) in absurd (omega arith)
first-refused f bs left r z h all_valid fit e = let n = same-first _ _ _ _ (sym z ∙ e) in absurd (omega arith)
first-refused f bs left r z h (not_valid id w) fit e = let n = same-first _ _ _ _ (sym z ∙ e) in absurd (omega arith)
first-refused f bs left r z h (authorized response q es) fit e = let n = same-first _ _ _ _ (sym z ∙ e) in absurd (omega arith)
