-- Bytes put one behind another.
use Rattle.std.proofs.Common.{◌≡◌, ℕ, ◌+◌, ◌<◌, ◌≤◌, List, [], ◌∷◌, ◌++◌, length, take, drop, set, Some, None, Option, IsSome, sym, refl, ap, ◌∙◌, subst, zero-add, append_assoc, length-append, length-drop, arith}
use Rattle.std.proofs.lemmas.List.{length-take-le, take-append-drop, take_at, drop_at, drop-drop}
use Rattle.spec.specs.Bytes.{encode_word, encode_text}
use Rattle.words.proofs.Round.{word-long}
use Rattle.answers.specs.Put.{written, Wrote, Put}

pub text-long : (t : List ℕ) → length (encode_text t) ≡ 8 + length t
text-long t = length-append (encode_word (length t)) t ∙ ap (λ n. n + length t) (word-long (length t))

-- one piece behind another
pub written-more : (xs : List ℕ) (at : ℕ) (ys zs : List ℕ) (n : ℕ) → n ≡ at + length ys → n ≤ length xs → written (written xs at ys) n zs ≡ written xs at (ys ++ zs)
written-more xs at ys zs n e h =
    let l : length (take at xs ++ ys) ≡ n = omega (arith, length-append (take at xs) ys, length-take-le at xs (omega arith)) in
    let m : at + length (ys ++ zs) ≡ n + length zs = omega (arith, length-append ys zs) in
    let w : written xs at ys ≡ (take at xs ++ ys) ++ drop n xs = ap (λ k. take at xs ++ (ys ++ drop k xs)) (sym e) ∙ sym (append_assoc (take at xs) ys (drop n xs)) in
    ap (λ qs. written qs n zs) w
    ∙ ap (λ qs. qs ++ (zs ++ drop (n + length zs) ((take at xs ++ ys) ++ drop n xs))) (take_at (take at xs ++ ys) (drop n xs) n l)
    ∙ ap (λ qs. (take at xs ++ ys) ++ (zs ++ qs)) (sym (drop-drop (length zs) n _) ∙ ap (λ qs. drop (length zs) qs) (drop_at (take at xs ++ ys) (drop n xs) n l) ∙ drop-drop (length zs) n xs)
    ∙ append_assoc (take at xs) ys _
    ∙ ap (λ qs. take at xs ++ qs) (sym (append_assoc ys zs (drop (n + length zs) xs)))
    ∙ ap (λ k. take at xs ++ ((ys ++ zs) ++ drop k xs)) (sym m)

pub written-long : (xs : List ℕ) (at : ℕ) (ys : List ℕ) → at + length ys ≤ length xs → length (written xs at ys) ≡ length xs
written-long xs at ys h =
    omega (arith, length-append (take at xs) (ys ++ drop (at + length ys) xs), length-append ys (drop (at + length ys) xs), length-drop (at + length ys) xs, length-take-le at xs (omega arith))

-- bytes in place of as many between two parts
pub written_between : (front olds bytes tail : List ℕ) (at : ℕ) → length front ≡ at → length olds ≡ length bytes → front ++ (bytes ++ tail) ≡ written (front ++ (olds ++ tail)) at bytes
written_between front olds bytes tail at f o =
    let whole : front ++ (olds ++ tail) ≡ (front ++ olds) ++ tail = sym (append_assoc front olds tail) in
    let long : length (front ++ olds) ≡ at + length bytes = omega (arith, length-append front olds) in
    let begin : take at (front ++ (olds ++ tail)) ≡ front = take_at front (olds ++ tail) at f in
    let rest : drop (at + length bytes) (front ++ (olds ++ tail)) ≡ tail = ap (drop (at + length bytes)) whole ∙ drop_at (front ++ olds) tail (at + length bytes) long in
    sym (ap (λ q. q ++ (bytes ++ drop (at + length bytes) (front ++ (olds ++ tail)))) begin ∙ ap (λ q. front ++ (bytes ++ q)) rest)

pub wrote_between : (old front olds bytes tail : List ℕ) (at end : ℕ) → old ≡ front ++ (olds ++ tail) → length front ≡ at → length olds ≡ length bytes → end ≡ at + length bytes → Wrote old at bytes end (front ++ (bytes ++ tail))
wrote_between old front olds bytes tail at end e f o n =
    record {
      ends = n;
      fits = omega (arith, ap length e, length-append front (olds ++ tail), length-append olds tail);
      holds = written_between front olds bytes tail at f o ∙ ap (λ q. written q at bytes) (sym e);
    }

-- bytes at the beginning of what stands behind a byte, written together with that byte
pub wrote_behind : (old front room new bytes : List ℕ) (at was is end : ℕ) → old ≡ front ++ (was ∷ room) → length front ≡ at → Wrote room 0 bytes end new → Wrote old at (is ∷ bytes) (at + 1 + end) (front ++ (is ∷ new))
wrote_behind old front room new bytes at was is end e f p =
    let n = length bytes in
    let size : n ≤ length room = omega arith in
    let news : new ≡ bytes ++ drop n room = p.holds ∙ ap (λ k. bytes ++ drop k room) (zero-add n) in
    subst (λ q. Wrote old at (is ∷ bytes) (at + 1 + end) (front ++ (is ∷ q))) (sym news)
    (wrote_between old front (was ∷ take n room) (is ∷ bytes) (drop n room) at (at + 1 + end)
    (e ∙ ap (λ q. front ++ (was ∷ q)) (sym (take-append-drop n room))) f
    (omega (arith, length-take-le n room size)) (omega arith))

-- a byte, as many bytes as there were, and one more byte
pub wrote_around : (old text new bytes room : List ℕ) (was is last byte end : ℕ) → old ≡ was ∷ (text ++ room) → length text ≡ length new → new ≡ bytes → 0 < length room → last ≡ byte → end ≡ 2 + length text → Wrote old 0 (is ∷ (bytes ++ (byte ∷ []))) end (is ∷ (new ++ set room 0 last))
wrote_around old text new bytes [] was is last byte end e l m h k n = absurd (omega arith)
wrote_around old text new bytes (r ∷ rest) was is last byte end e l m h k n =
    let news : (new ++ (last ∷ rest)) ≡ (bytes ++ (byte ∷ [])) ++ rest = ap (λ q. q ++ (last ∷ rest)) m ∙ ap (λ b. bytes ++ (b ∷ rest)) k ∙ sym (append_assoc bytes (byte ∷ []) rest) in
    subst (λ q. Wrote old 0 (is ∷ (bytes ++ (byte ∷ []))) end (is ∷ q)) (sym news)
    (wrote_between old [] (was ∷ (text ++ (r ∷ []))) (is ∷ (bytes ++ (byte ∷ []))) rest 0 end
    (e ∙ ap (λ q. was ∷ q) (sym (append_assoc text (r ∷ []) rest))) refl
    (omega (arith, ap length m, length-append text (r ∷ []), length-append bytes (byte ∷ []))) (omega (arith, ap length m, length-append bytes (byte ∷ []))))

-- what is written behind a piece is written with it
pub wrote-left : (old mid : List ℕ) (at : ℕ) (xs ys : List ℕ) (between : ℕ) → Wrote old at xs between mid → written mid between ys ≡ written old at (xs ++ ys)
wrote-left old mid at xs ys between p = ap (λ m. written m between ys) p.holds ∙ written-more old at xs ys between p.ends p.fits

-- two pieces, the second put where the first ends, are one
pub wrote-more : (old mid new : List ℕ) (at : ℕ) (xs ys : List ℕ) (between end : ℕ) → Wrote old at xs between mid → Wrote mid between ys end new → Wrote old at (xs ++ ys) end new
wrote-more old mid new at xs ys between end p q =
    let size : length mid ≡ length old = ap length p.holds ∙ written-long old at xs (omega arith) in
    record {
      ends = omega (arith, length-append xs ys);
      fits = omega arith;
      holds = q.holds ∙ wrote-left old mid at xs ys between p;
    }

-- where there is room, there is a place behind
pub placed : (old : List ℕ) (at : ℕ) (bytes : List ℕ) (r : Option ℕ) (new : List ℕ) → Put old at bytes r new → at + length bytes ≤ length old → IsSome r
placed old at bytes (Some end) new p h = refl
placed old at bytes None new p h = absurd (omega arith)

-- a last piece for which there is room
pub put-last : (old mid new : List ℕ) (at : ℕ) (xs ys : List ℕ) (between : ℕ) (r : Option ℕ) → Wrote old at xs between mid → Put mid between ys r new → between + length ys ≤ length mid → Put old at (xs ++ ys) r new
put-last old mid new at xs ys between (Some end) p q h = wrote-more old mid new at xs ys between end p q
put-last old mid new at xs ys between None p q h = absurd (omega arith)
