-- The bytes of ids and of lists of ids, from a memory that holds them.
use Rattle.std.proofs.Common.{◌≡◌, ℕ, zero, suc, true, ◌+◌, ◌-◌, ◌<◌, ◌≤◌, List, [], ◌∷◌, ◌++◌, map, length, get_or, drop, ap, ◌∙◌, subst, arith}
use Rattle.std.proofs.lemmas.List.{length-append, get_or-take, get_or-drop}
use Rattle.std.proofs.lemmas.Bool.{ltb-true, and_parts}
use Rattle.spec.specs.Calls.{all_below}
use Rattle.spec.specs.Bytes.{Bytes, encode_text, encode_list}
use Rattle.values.specs.Held.{text_at}
use Rattle.values.proofs.Parts.{part-more}
use Rattle.answer_places.specs.Code.{texts_at, ids_at, IdIn, IdsIn}
use Rattle.answer_places.specs.declared.Ids.{Ids}
use Rattle.answers.proofs.Writes.{text-long}

pub byte_at : (m : List ℕ) (p i : ℕ) → i < get_or m p 0 → get_or (text_at m p) i 0 ≡ get_or m (p + 1 + i) 0
byte_at m p i h = get_or-take (get_or m p 0) (drop (p + 1) m) i 0 h ∙ get_or-drop (p + 1) m i 0

-- a number that stands among small ones
pub small_at : (b : ℕ) (xs : List ℕ) (i : ℕ) → all_below b xs ≡ true → i < length xs → get_or xs i 0 < b
small_at b [] i h l = absurd (omega arith)
small_at b (x ∷ xs) zero h l = ltb-true x b (and_parts _ _ h).0
small_at b (x ∷ xs) (suc i) h l = small_at b xs i (and_parts _ _ h).1 (omega arith)

-- ---- the bytes of the ids whose places stand from p on, with the list's end
module _ (m : List ℕ) (ids : Ids) where
  abbrev pub bytes_from : ℕ → Bytes
  bytes_from p = encode_list encode_text (texts_at m p (ids.from + ids.count - p))

  pub from_first : bytes_from ids.from ≡ encode_list encode_text (ids_at m ids)
  from_first = let n : ids.from + ids.count - ids.from ≡ ids.count = omega arith in ap (λ n. encode_list encode_text (texts_at m ids.from n)) n

  pub from_last : (p : ℕ) → ids.from + ids.count ≤ p → bytes_from p ≡ 0 ∷ []
  from_last p h = let n : ids.from + ids.count - p ≡ 0 = omega arith in ap (λ n. encode_list encode_text (texts_at m p n)) n

  -- the id whose place stands at p
  module _ (p : ℕ) (there : IdsIn m ids) (after : ids.from ≤ p) (within : p < ids.from + ids.count) where
    pub id-there : IdIn m (get_or m p 0)
    id-there =
        let k : ids.from + (p - ids.from) ≡ p = omega (arith, after) in
        subst (IdIn m) (ap (λ p. get_or m p 0) k) (there.each (p - ids.from) (omega (arith, after, within)))

    pub from_next : bytes_from p ≡ (1 ∷ encode_text (text_at m (get_or m p 0))) ++ bytes_from (p + 1)
    from_next =
        let n : ids.from + ids.count - p - 1 ≡ ids.from + ids.count - (p + 1) = omega arith in
        ap (λ ps. encode_list encode_text (map (λ q. text_at m q) ps)) (part-more m p (ids.from + ids.count - p) (omega (arith, there.fits, within)) (omega (arith, within)))
        ∙ ap (λ n. (1 ∷ encode_text (text_at m (get_or m p 0))) ++ encode_list encode_text (texts_at m (p + 1) n)) n

    pub next-long : length (bytes_from p) ≡ 9 + length (text_at m (get_or m p 0)) + length (bytes_from (p + 1))
    next-long = ap length from_next ∙ omega (arith, length-append (1 ∷ encode_text (text_at m (get_or m p 0))) (bytes_from (p + 1)), text-long (text_at m (get_or m p 0)))
