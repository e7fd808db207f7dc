-- What was read at a place: that it is there, and where it ends.
use Rattle.std.proofs.Common.{◌≡◌, ℕ, ◌+◌, ◌-◌, ◌≤◌, Bool, true, false, cond, leb, length, take, drop, Ok, sym, refl, ap, ◌∙◌, arith}
use Rattle.std.proofs.lemmas.Bool.{leb-true}
use Rattle.std.proofs.lemmas.List.{drop-drop, length-drop, length-take-le}
use Rattle.spec.specs.Bytes.{Bytes}
use Rattle.reader.specs.declared.scan.Found.{Found}
use Rattle.words.specs.Words.{big_endian}
use Rattle.wire.specs.Read.{Read, got, stops, past, follow, read_word, read_run, read_text}
use Rattle.reader.specs.Found.{found}
use Rattle.reader.specs.Ends.{Got, long, ending}

pub got-is : {X : Type 0} (R : Read X) → Got R → (x : X) × (n : ℕ) × (R ≡ got x n)
got-is (got x n) h = (x, n, refl)
got-is (stops k) h = absurd h

pub is-got : {X : Type 0} (R : Read X) (x : X) (n : ℕ) → R ≡ got x n → Got R
is-got R x n e = rw e tt

-- what a scan says of it
pub found-end : {X : Type 0} (size : X → ℕ) (at : ℕ) (f : Found) (R : Read X) → Got R → Ok f ≡ found size at R → f.end ≡ ending at R
found-end size at f (got x n) h e = cc
found-end size at f (stops k) h e = absurd h

-- ---- a text is eight bytes and those that they count
pub text-got : (bs : Bytes) → Got (read_text bs) → (8 ≤ length bs) × (read_text bs ≡ got (take (big_endian bs) (drop 8 bs)) (8 + big_endian bs)) × (big_endian bs ≤ length (drop 8 bs))
unfolding read_text read_word read_run
text-got bs h = go (leb 8 (length bs)) refl h
  where
    run : (b : Bool) → leb (big_endian bs) (length (drop 8 bs)) ≡ b → 8 ≤ length bs → Got (past 8 (cond b (got (take (big_endian bs) (drop 8 bs)) (big_endian bs)) (stops (length (drop 8 bs))))) →
        (8 ≤ length bs) × (past 8 (cond b (got (take (big_endian bs) (drop 8 bs)) (big_endian bs)) (stops (length (drop 8 bs)))) ≡ got (take (big_endian bs) (drop 8 bs)) (8 + big_endian bs)) × (big_endian bs ≤ length (drop 8 bs))
    run true e l h = (l, refl, leb-true _ _ e)
    run false e l h = absurd h

    go : (b : Bool) → leb 8 (length bs) ≡ b → Got (follow (cond b (got (big_endian bs) 8) (stops (length bs))) bs read_run) →
        (8 ≤ length bs) × (follow (cond b (got (big_endian bs) 8) (stops (length bs))) bs read_run ≡ got (take (big_endian bs) (drop 8 bs)) (8 + big_endian bs)) × (big_endian bs ≤ length (drop 8 bs))
    go true e h = run (leb (big_endian bs) (length (drop 8 bs))) refl (leb-true _ _ e) h
    go false e h = absurd h

module _ (bs : Bytes) (at : ℕ) (h : Got (read_text (drop at bs))) where
  pub text-inside : at + 8 ≤ length bs
  text-inside = omega (arith, (text-got (drop at bs) h).0, length-drop at bs)

  pub text-room : 8 ≤ long (read_text (drop at bs))
  text-room = omega (arith, ap long (text-got (drop at bs) h).1)

  -- its bytes are those up to its end
  pub text-spelt : (e : ℕ) → e ≡ ending at (read_text (drop at bs)) → read_text (drop at bs) ≡ got (take (e - (at + 8)) (drop (at + 8) bs)) (8 + length (take (e - (at + 8)) (drop (at + 8) bs)))
  text-spelt e q =
      let w = text-got (drop at bs) h in
      let u = take (e - (at + 8)) (drop (at + 8) bs) in
      let k : big_endian (drop at bs) ≡ e - (at + 8) = omega (arith, q, ap long w.1) in
      let t : take (big_endian (drop at bs)) (drop 8 (drop at bs)) ≡ take (e - (at + 8)) (drop (at + 8) bs) = ap (λ z. take z (drop 8 (drop at bs))) k ∙ ap (λ z. take (e - (at + 8)) z) (drop-drop 8 at bs) in
      let l : big_endian (drop at bs) ≡ length (take (e - (at + 8)) (drop (at + 8) bs)) = sym (length-take-le _ _ w.2) ∙ ap length t in
      w.1 ∙ ap (λ z. got z (8 + big_endian (drop at bs))) t ∙ ap (λ z. got u (8 + z)) l
