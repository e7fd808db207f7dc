-- What stands at the beginning of an answer's bytes.
use Rattle.std.proofs.Common.{◌≡◌, ℕ, Bool, true, false, List, ◌∷◌, ◌++◌, refl, arith}
use Rattle.spec.specs.Bytes.{encode_bool}

-- a list has one first element and one rest
pub same-first : (a b : ℕ) (xs ys : List ℕ) → a ∷ xs ≡ b ∷ ys → a ≡ b
same-first a b xs ys e = cc

pub same-rest : (a b : ℕ) (xs ys : List ℕ) → a ∷ xs ≡ b ∷ ys → xs ≡ ys
same-rest a b xs ys e = cc

-- a truth is told from its byte
pub same_truth : (a b : Bool) (xs ys : List ℕ) → encode_bool a ++ xs ≡ encode_bool b ++ ys → (a ≡ b) × (xs ≡ ys)
same_truth true true xs ys e = (refl, cc)
same_truth true false xs ys e = let z : ◌≡◌ {A = ℕ} 1 0 = cc in absurd (omega arith)
same_truth false true xs ys e = let z : ◌≡◌ {A = ℕ} 0 1 = cc in absurd (omega arith)
same_truth false false xs ys e = (refl, cc)
