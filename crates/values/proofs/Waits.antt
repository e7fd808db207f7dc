-- What waits for its set or record: as one more is laid down, and as the work memory changes elsewhere. For those who evaluate the elements of a set one by one.
use Rattle.std.proofs.Common.{◌≡◌, ℕ, ◌+◌, ◌*◌, ◌<◌, ◌≤◌, List, get_or, ap, ◌∙◌, ap₂, arith}
use Rattle.values.specs.Held.{value_of}
use Rattle.values.specs.Making.{waiting, waiting_name, waiting_attr, Laid, LaidAttr}
use Rattle.values.specs.declared.nodes.Value.{Value}
use Rattle.values.proofs.OneMore.{at_before}

module _ (w w' : List ℕ) (from : ℕ) where
  -- ---- what waits from a place on stays if the work stays from there on
  pub waits-beyond : ((j : ℕ) → from ≤ j → get_or w' j 0 ≡ get_or w j 0) → (k : ℕ) → waiting w' from k ≡ waiting w from k
  waits-beyond e k = ap₂ (value_of 0) (e (from + 2 * k) (omega arith)) (e (from + 2 * k + 1) (omega arith))

  pub name-waits-beyond : ((j : ℕ) → from ≤ j → get_or w' j 0 ≡ get_or w j 0) → (k : ℕ) → waiting_name w' from k ≡ waiting_name w from k
  name-waits-beyond e k = e (from + 3 * k) (omega arith)

  pub attr-waits-beyond : ((j : ℕ) → from ≤ j → get_or w' j 0 ≡ get_or w j 0) → (k : ℕ) → waiting_attr w' from k ≡ waiting_attr w from k
  attr-waits-beyond e k = ap₂ (value_of 0) (e (from + 3 * k + 1) (omega arith)) (e (from + 3 * k + 2) (omega arith))

  -- ---- the i-th, as it is laid down, and those before it
  pub waits-here : (i : ℕ) (v : Value) → Laid w w' (from + 2 * i) v → waiting w' from i ≡ v
  waits-here i v L =
      let z : from + 2 * i ≡ from + 2 * i + 2 * 0 = omega arith in
      ap (λ n. value_of 0 (get_or w' n 0) (get_or w' (n + 1) 0)) z ∙ L.is

  pub waits-still : (i : ℕ) (v : Value) → Laid w w' (from + 2 * i) v → (k : ℕ) → k < i → waiting w' from k ≡ waiting w from k
  waits-still i v L k l =
      ap₂ (value_of 0) (at_before w w' (from + 2 * i) (from + 2 * k) L.before (omega arith)) (at_before w w' (from + 2 * i) (from + 2 * k + 1) L.before (omega arith))

  pub name-waits-here : (i n : ℕ) (v : Value) → LaidAttr w w' (from + 3 * i) n v → waiting_name w' from i ≡ n
  name-waits-here i n v L =
      let z : from + 3 * i ≡ from + 3 * i + 3 * 0 = omega arith in
      ap (λ k. get_or w' k 0) z ∙ L.name

  pub attr-waits-here : (i n : ℕ) (v : Value) → LaidAttr w w' (from + 3 * i) n v → waiting_attr w' from i ≡ v
  attr-waits-here i n v L =
      let z : from + 3 * i ≡ from + 3 * i + 3 * 0 = omega arith in
      ap (λ k. value_of 0 (get_or w' (k + 1) 0) (get_or w' (k + 2) 0)) z ∙ L.is

  pub name-waits-still : (i n : ℕ) (v : Value) → LaidAttr w w' (from + 3 * i) n v → (k : ℕ) → k < i → waiting_name w' from k ≡ waiting_name w from k
  name-waits-still i n v L k l = at_before w w' (from + 3 * i) (from + 3 * k) L.before (omega arith)

  pub attr-waits-still : (i n : ℕ) (v : Value) → LaidAttr w w' (from + 3 * i) n v → (k : ℕ) → k < i → waiting_attr w' from k ≡ waiting_attr w from k
  attr-waits-still i n v L k l =
      ap₂ (value_of 0) (at_before w w' (from + 3 * i) (from + 3 * k + 1) L.before (omega arith)) (at_before w w' (from + 3 * i) (from + 3 * k + 2) L.before (omega arith))
