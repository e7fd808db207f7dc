-- An answer is read back as it was written.
use Rattle.std.proofs.Common.{◌≡◌, ℕ, ◌+◌, Bool, true, false, List, [], ◌∷◌, ◌++◌, length, refl, ap, ◌∙◌, arith}
use Rattle.std.proofs.lemmas.Bool.{and_parts}
use Rattle.std.proofs.lemmas.List.{append-nil, length-append, drop_at}
use Rattle.spec.specs.Basics.{Text, all}
use Rattle.spec.specs.Policies.{Decision, allow, deny, Response}
use Rattle.spec.specs.Typecheck.{lub_err, unexpected_type, attr_not_found, tag_not_found, unknown_entity, empty_set_err}
use Rattle.spec.specs.Validate.{ValidationError, type_error, impossible_policy, validation_error_number}
use Rattle.spec.specs.Calls.{Refusal, not_a_call, inadmissible, schema_not_well_formed, not_found, over_capacity, refusal_number, Answer, refused, done, all_valid, not_valid, authorized, is_word, is_bytes}
use Rattle.spec.specs.Bytes.{Bytes, encode_word, encode_text, encode_list, encode_bool, decision_number}
use Rattle.wire.specs.Read.{Read, got, past, turn, follow, read_word, read_text, read_one}
use Rattle.wire.specs.Answered.{read_numbered, refusals, whys, decisions, truths, read_texts, read_flags, response, read_answer, AnswersReadBack}
use Rattle.wire.proofs.Exact.{exact-list}
use Rattle.wire.proofs.Words.{exact_word, exact-text}

-- one thing read, and what is behind it
behind : {X Y : Type 0} (R : Bytes → Read X) (f : X → Bytes → Read Y) (x : X) (as' bs : Bytes) (y : Y) (n : ℕ) → R (as' ++ bs) ≡ got x (length as') → f x bs ≡ got y n →
    follow (R (as' ++ bs)) (as' ++ bs) f ≡ got y (length as' + n)
behind R f x as' bs y n h k = rw (h, drop_at as' bs (length as') refl, k)

refusal-back : (r : Refusal) (bs : Bytes) → read_numbered refusals (refusal_number r ∷ bs) ≡ got r 1
refusal-back not_a_call bs = refl
refusal-back inadmissible bs = refl
refusal-back schema_not_well_formed bs = refl
refusal-back not_found bs = refl
refusal-back over_capacity bs = refl

why-back : (e : ValidationError) (bs : Bytes) → read_numbered whys (validation_error_number e ∷ bs) ≡ got e 1
why-back (type_error lub_err) bs = refl
why-back (type_error unexpected_type) bs = refl
why-back (type_error attr_not_found) bs = refl
why-back (type_error tag_not_found) bs = refl
why-back (type_error unknown_entity) bs = refl
why-back (type_error empty_set_err) bs = refl
why-back impossible_policy bs = refl

decision-back : (d : Decision) (bs : Bytes) → read_one decisions (decision_number d ∷ bs) ≡ got d 1
unfolding read_one
decision-back allow bs = refl
decision-back deny bs = refl

truth-back : (b : Bool) (bs : Bytes) → read_one truths (encode_bool b ++ bs) ≡ got b 1
unfolding read_one
truth-back true bs = refl
truth-back false bs = refl

texts-back : (ts : List Text) (bs : Bytes) → all is_bytes ts ≡ true → read_texts (encode_list encode_text ts ++ bs) ≡ got ts (length (encode_list encode_text ts))
texts-back ts bs h = (exact-list encode_text is_bytes _ exact-text).back ts bs h

-- the two lists of ids, and the flags
abbrev ids : Response → Bool → Bool → Bytes
ids r q es = encode_list encode_text r.determining_policies ++ (encode_list encode_text r.erroring_policies ++ (encode_bool q ++ encode_bool es))

turned : {X Y : Type 0} (f : X → Y) (R : Read X) (x : X) (n : ℕ) → R ≡ got x n → turn f R ≡ got (f x) n
turned f R x n h = ap (turn f) h

finish : (R : Read Answer) (a : Answer) (m n : ℕ) → R ≡ got a m → 1 + m ≡ n → past 1 R ≡ got a n
finish R a m n h e = ap (past 1) h ∙ ap (got a) e

word_back : (k : ℕ) → is_word k ≡ true → read_word (encode_word k) ≡ got k (length (encode_word k))
word_back k h = rw (append-nil (encode_word k)) at (exact_word.back k [] h)

flags-back : (r : Response) (q es : Bool) → read_flags r (encode_bool q ++ encode_bool es) ≡ got (authorized r q es) 2
flags-back r q es = behind (read_one truths) (λ b rest. turn (authorized r b) (read_one truths rest)) q (encode_bool q) (encode_bool es) (authorized r q es) 1 (truth-back q (encode_bool es)) (turned (authorized r q) _ es 1 (truth-back es []))

lists_back : (r : Response) (q es : Bool) → all is_bytes r.determining_policies ≡ true → all is_bytes r.erroring_policies ≡ true →
    follow (read_texts (ids r q es)) (ids r q es) (λ reasons rest. follow (read_texts rest) rest (λ errors rest'. read_flags (response r.decision reasons errors) rest'))
    ≡ got (authorized r q es) (length (encode_list encode_text r.determining_policies) + (length (encode_list encode_text r.erroring_policies) + 2))
lists_back r q es h k =
    let xs = encode_list encode_text r.determining_policies in let ys = encode_list encode_text r.erroring_policies in let zs = encode_bool q ++ encode_bool es in
    behind read_texts (λ reasons rest. follow (read_texts rest) rest (λ errors rest'. read_flags (response r.decision reasons errors) rest')) r.determining_policies xs (ys ++ zs) (authorized r q es) (length ys + 2)
    (texts-back r.determining_policies (ys ++ zs) h)
    (behind read_texts (λ errors rest'. read_flags (response r.decision r.determining_policies errors) rest') r.erroring_policies ys zs (authorized r q es) 2 (texts-back r.erroring_policies zs k) (flags-back r q es))

pub answers-read-back : AnswersReadBack
unfolding read_answer
answers-read-back (refused r k) h =
    finish _ (refused r k) (1 + length (encode_word k)) _
    (behind (read_numbered refusals) (λ x rest. turn (refused x) (read_word rest)) r (refusal_number r ∷ []) (encode_word k) (refused r k) (length (encode_word k)) (refusal-back r (encode_word k)) (turned (refused r) _ k _ (word_back k h)))
    (omega arith)
answers-read-back done h = refl
answers-read-back all_valid h = refl
answers-read-back (not_valid t e) h =
    let n = validation_error_number e in
    finish _ (not_valid t e) (length (encode_text t) + 1) _
    (behind read_text (λ x rest. turn (not_valid x) (read_numbered whys rest)) t (encode_text t) (n ∷ []) (not_valid t e) 1 (exact-text.back t (n ∷ []) h) (turned (not_valid t) _ e 1 (why-back e [])))
    (let l = length-append (encode_text t) (n ∷ []) in omega (arith, l))
answers-read-back (authorized r q es) h =
    let p = and_parts (all is_bytes r.determining_policies) (all is_bytes r.erroring_policies) h in
    let xs = encode_list encode_text r.determining_policies in let ys = encode_list encode_text r.erroring_policies in
    finish _ (authorized r q es) (1 + (length xs + (length ys + 2))) _
    (behind (read_one decisions) (λ d rest. follow (read_texts rest) rest (λ reasons rest'. follow (read_texts rest') rest' (λ errors rest''. read_flags (response d reasons errors) rest'')))
    r.decision (decision_number r.decision ∷ []) (ids r q es) (authorized r q es) (length xs + (length ys + 2)) (decision-back r.decision (ids r q es)) (lists_back r q es p.0 p.1))
    (let l = length-append xs (ys ++ (encode_bool q ++ encode_bool es)) in let m = length-append ys (encode_bool q ++ encode_bool es) in omega (arith, l, m))
