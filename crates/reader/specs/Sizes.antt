-- The size of a tree is counted as the laws of counting ask. Assumes nothing: this is a proof.
use Rattle.std.proofs.Common.{◌≡◌, ℕ, ◌+◌, List, [], ◌∷◌, refl, ap₂, ◌∙◌, arith}
use Rattle.spec.specs.Calls.{sum_of}
use Rattle.wire.specs.Grammar.{Field, part, small, word, text, pattern, node, list, Fields, no, one, more, Content, Contents, fields}
use Rattle.wire.specs.Sizes.{size_field, size_fields}
use Rattle.wire.proofs.Forms.{size-make}
use Rattle.reader.specs.Counts.{count_field, count_fields, Lawful, sizes}

-- ---- field by field
pub sum_same : {A : Type 0} (f g : A → ℕ) → ((x : A) → f x ≡ g x) → (xs : List A) → sum_of f xs ≡ sum_of g xs
sum_same f g e [] = refl
sum_same f g e (x ∷ xs) = ap₂ ◌+◌ (e x) (sum_same f g e xs)

mutual
  sizes-field : (f : Field) (x : Content f) → size_field f x ≡ count_field sizes 0 f x
  sizes-field part x = refl
  sizes-field (small e) x = refl
  sizes-field word x = refl
  sizes-field text x = refl
  sizes-field pattern x = refl
  sizes-field (node k) x = refl
  sizes-field (list fs) xs = sum_same (size_fields fs) (λ x. 0 + count_fields sizes 0 fs x) (λ x. sizes-fields fs x ∙ omega arith) xs ∙ omega arith

  pub sizes-fields : (fs : Fields) (x : Contents fs) → size_fields fs x ≡ count_fields sizes 0 fs x
  sizes-fields no x = refl
  sizes-fields (one f) x = sizes-field f x
  sizes-fields (more f fs) x = ap₂ ◌+◌ (sizes-field f x.0) (sizes-fields fs x.1)

pub sizes_lawful : Lawful sizes
sizes_lawful = record {
  made = λ k g x. size-make k g x ∙ sizes-fields (fields k g) x ∙ omega arith;
  some_weight = omega arith;
  units = λ k. omega arith;
  heads = λ k h bs g n e. omega arith;
  begins = λ i. omega arith;
  elements = λ i. omega arith;
}
