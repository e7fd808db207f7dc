-- What an iterator gives at a place, by what was read there; and what stands at the place of a call with its length is that call.
use Rattle.std.proofs.Common.{◌≡◌, ℕ, ◌+◌, ◌-◌, ◌<◌, ◌≤◌, Bool, true, false, cond, List, ◌++◌, length, take, drop, Some, None, Ok, Err, nat_le, refl, sym, ap, ◌∙◌, slice_range, arith}
use Rattle.std.specs.Borrow.{Bor}
use Rattle.std.proofs.lemmas.List.{length-append, length-drop, append_assoc, drop_at, take_at, take_all, drop-drop}
use Rattle.std.proofs.lemmas.Bool.{le-leb, lt-leb, cond-true, cond-false}
use Rattle.spec.specs.Bytes.{encode_word, encode_text}
use Rattle.words.specs.Words.{big_endian}
use Rattle.words.proofs.Round.{word-long, big_endian-word}
use Rattle.calls_file.specs.Frames.{Next, call, truncated, next_of, Steps}
use Rattle.calls_file.specs.Walk.{Reached, behind}

-- what is left from a place on
pub left : (file rest : List ℕ) (at : ℕ) → rest ≡ slice_range file at (length file) → rest ≡ drop at file
left file rest at e = e ∙ take_all (length file - at) (drop at file) (omega (arith, length-drop at file))

-- a call at the place
there : (file : List ℕ) (at : ℕ) (before expected rest : List ℕ) → file ≡ before ++ (encode_text expected ++ rest) → length before ≡ at → drop at file ≡ encode_word (length expected) ++ (expected ++ rest)
there file at before expected rest e l = rw e (drop_at before _ at l ∙ append_assoc (encode_word (length expected)) expected rest)

there-long : (file : List ℕ) (at : ℕ) (before expected rest : List ℕ) → file ≡ before ++ (encode_text expected ++ rest) → length before ≡ at → length file ≡ at + (8 + length expected + length rest)
there-long file at before expected rest e l = ap length e ∙ simp length-append (omega (arith, word-long (length expected)))

there-word : (file : List ℕ) (at : ℕ) (before expected rest : List ℕ) → length file < 18446744073709551616 → file ≡ before ++ (encode_text expected ++ rest) → length before ≡ at → big_endian (drop at file) ≡ length expected
there-word file at before expected rest small e l =
    let long = there-long file at before expected rest e l in
    ap big_endian (there file at before expected rest e l) ∙ big_endian-word (length expected) (expected ++ rest) (omega arith)

pub gives-end : (file : List ℕ) (at : ℕ) → length file ≤ at → Steps file at None file at
gives-end file at h =
    record {
      stays = refl;
      gives = (cond-true _ _ _ (le-leb _ _ h), h, refl);
      reads = λ before expected rest e l. let long = there-long file at before expected rest e l in absurd (omega arith);
    }

both : (b : Bool) (x : Next) → cond b x x ≡ x
both true x = refl
both false x = refl

pub gives-cut : (file : List ℕ) (at : ℕ) → length file < 18446744073709551616 → at < length file → length file < at + 8 + big_endian (drop at file) → Steps file at (Some (Err (record { at = at }))) file (length file)
gives-cut file at small a h =
    record {
      stays = refl;
      gives = (cond-false _ _ _ (lt-leb _ _ a) ∙ (ap (λ n. cond (nat_le (at + 8) (length file)) n truncated) (cond-false _ _ _ (lt-leb _ _ h)) ∙ both _ _), refl, omega arith, refl);
      reads = λ before expected rest e l. let long = there-long file at before expected rest e l in let word = there-word file at before expected rest small e l in absurd (omega arith);
    }

tested : (file : List ℕ) (at n : ℕ) → at < length file → at + 8 ≤ length file → big_endian (drop at file) ≡ n → at + 8 + n ≤ length file → next_of at file ≡ call (at + 8) (at + 8 + n)
tested file at n a b e h =
    cond-false _ _ _ (lt-leb _ _ a)
    ∙ (cond-true _ _ _ (le-leb _ _ b)
    ∙ rw e (cond-true _ _ _ (le-leb _ _ h)))

pub gives-call : (file : List ℕ) (at : ℕ) (bytes : Bor (List ℕ)) → length file < 18446744073709551616 → at + 8 + length bytes.now ≤ length file → length bytes.now ≡ big_endian (drop at file) → bytes.now ≡ take (length bytes.now) (drop 8 (drop at file)) →
    Steps file at (Some (Ok bytes)) file (at + 8 + length bytes.now)
gives-call file at bytes small h n e =
    record {
      stays = refl;
      gives = (tested file at (length bytes.now) (omega arith) (omega arith) (sym n) h, refl, h, e ∙ ap (λ l. take (length bytes.now) l) (drop-drop 8 at file));
      reads = λ before expected rest f l.
          let size : length bytes.now ≡ length expected = n ∙ there-word file at before expected rest small f l in
          let behind : drop 8 (drop at file) ≡ expected ++ rest = ap (drop 8) (there file at before expected rest f l) ∙ drop_at (encode_word (length expected)) (expected ++ rest) 8 (word-long (length expected)) in
          e ∙ ap (λ q. take (length bytes.now) q) behind ∙ ap (λ k. take k (expected ++ rest)) size ∙ take_at expected rest (length expected) refl;
    }

-- a step over a call, on the way through a file
pub over : (file f file' : List ℕ) (count at to : ℕ) (bytes : Bor (List ℕ)) → f ≡ file → Reached file count at → count ≤ at → Steps f at (Some (Ok bytes)) file' to →
    (file' ≡ file) × Reached file (count + 1) to × (to ≤ length file) × (count + 1 ≤ to)
over file f file' count at to bytes e r h s =
    let size = ap length e in
    (s.stays ∙ e, behind r (ap (next_of at) (sym e) ∙ s.gives.0), omega (arith, s.gives.2), omega (arith, s.gives.1))
