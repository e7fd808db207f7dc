-- Calls: what is read is what is encoded, each call has one spelling, and reading stops where it must.
use Rattle.std.proofs.Common.{◌≡◌, ℕ, suc, ◌+◌, ◌<◌, ◌≤◌, Bool, true, false, cond, ◌&&◌, eqb, [], ◌∷◌, ◌++◌, length, take, sym, refl, ap, ◌∙◌, subst, add-one, arith, lit≤}
use Rattle.std.proofs.lemmas.Bool.{and_parts, and_from, eqb-true, eq-eqb}
use Rattle.std.proofs.lemmas.List.{length-append, length-take-le, append-nil, take_at, nil_from_length}
use Rattle.spec.specs.Bytes.{Bytes, encode_call}
use Rattle.spec.specs.Calls.{Call, set_schema, put_policy, remove_policy, put_entity, remove_entity, validate_policies, authorize, malformed, encodable}
use Rattle.laws.proofs.Texts.{false-true}
use Rattle.wire.specs.Tags.{CallTag, set_schema_tag, put_policy_tag, remove_policy_tag, put_entity_tag, remove_entity_tag, validate_tag, authorize_tag}
use Rattle.wire.specs.Read.{got, stops, read_one}
use Rattle.wire.specs.Grammar.{Contents, call_tags, call_fields, make_call, read_fields, read_node, call_height, read_call, whole as whole_call, decode}
use Rattle.wire.specs.Sizes.{encode_fields, good_fields}
use Rattle.wire.specs.Reading.{is_call, ReadsBack, OneSpelling, StopsWhereItMust}
use Rattle.wire.proofs.Exact.{Begun, Seen, whole, partly, Exact, got-stops, got-long, exact-behind, take-past-one}
use Rattle.wire.proofs.Fields.{exact_one, InFields, exact-fields}
use Rattle.wire.proofs.Nodes.{call_number, call-there, encode-make-call, rank, good, exact-node}
use Rattle.wire.proofs.Carried.{carried-call}

-- ---- the reader of calls is exact
abbrev pub good_call : Call → Bool
good_call c = is_call c && encodable c

call-low : (g : CallTag) → InFields (λ k. rank k ≤ call_height) (call_fields g)
call-low set_schema_tag = (lit≤ tt, lit≤ tt)
call-low put_policy_tag = (tt, (tt, (lit≤ tt, (lit≤ tt, (lit≤ tt, lit≤ tt)))))
call-low remove_policy_tag = tt
call-low put_entity_tag = lit≤ tt
call-low remove_entity_tag = lit≤ tt
call-low validate_tag = tt
call-low authorize_tag = lit≤ tt

is-call : (g : CallTag) (c : Contents (call_fields g)) → is_call (make_call g c) ≡ true
is-call set_schema_tag c = refl
is-call put_policy_tag c = refl
is-call remove_policy_tag c = refl
is-call put_entity_tag c = refl
is-call remove_entity_tag c = refl
is-call validate_tag c = refl
is-call authorize_tag c = refl

abbrev Apart : Call → Type 0
Apart c = (g : CallTag) × (x : Contents (call_fields g)) × (make_call g x ≡ c) × (◌≡◌ {A = Bool} true true) × (good_fields (good call_height) (call_fields g) x ≡ true)

form : (g : CallTag) (x : Contents (call_fields g)) → encodable (make_call g x) ≡ true → Apart (make_call g x)
form g x h = (g, x, refl, refl, sym (carried-call g x) ∙ h)

apart : (c : Call) → good_call c ≡ true → Apart c
apart (set_schema s) h = form set_schema_tag (s.ets, s.acts) h
apart (put_policy p) h = form put_policy_tag (p.id, (p.effect, (p.principal_scope, (p.action_scope, (p.resource_scope, p.conditions))))) h
apart (remove_policy t) h = form remove_policy_tag t h
apart (put_entity e) h = form put_entity_tag e h
apart (remove_entity u) h = form remove_entity_tag u h
apart validate_policies h = form validate_tag tt h
apart (authorize q) h = form authorize_tag q h
apart (malformed k) h = false-true h

joined : (g : CallTag) (x : Contents (call_fields g)) → ◌≡◌ {A = Bool} true true → good_fields (good call_height) (call_fields g) x ≡ true → (encode_call (make_call g x) ≡ call_number g ∷ encode_fields (call_fields g) x) × (good_call (make_call g x) ≡ true)
joined g x p h = (encode-make-call g x, and_from (is_call (make_call g x)) (encodable (make_call g x)) (is-call g x) (carried-call g x ∙ h))

pub exact-call : Exact encode_call good_call read_call
unfolding read_call
exact-call =
    exact-behind {X = CallTag} {Z = Call} {Y = λ g. Contents (call_fields g)} (λ g. call_number g ∷ []) (λ _. true) (read_one call_tags) (λ g. encode_fields (call_fields g)) (λ g. good_fields (good call_height) (call_fields g)) (λ g. read_fields (read_node call_height) (call_fields g)) make_call encode_call good_call apart joined
    (exact_one call_number call_tags (refl, (refl, (refl, (refl, (refl, (refl, (refl, tt))))))) call-there validate_tag)
    (λ g _. exact-fields (read_node call_height) (good call_height) (λ k. rank k ≤ call_height) (exact-node call_height) (call_fields g) (call-low g))

-- ---- all bytes
decode-got : (bs : Bytes) (c : Call) (n : ℕ) → read_call bs ≡ got c n → decode bs ≡ cond (eqb n (length bs)) c (malformed n)
unfolding decode
decode-got bs c n e = ap (whole_call (length bs)) e

decode-stops : (bs : Bytes) (k : ℕ) → read_call bs ≡ stops k → decode bs ≡ malformed k
unfolding decode
decode-stops bs k e = ap (whole_call (length bs)) e

read-call : (c : Call) → is_call c ≡ true → encodable c ≡ true → read_call (encode_call c) ≡ got c (length (encode_call c))
read-call c h k = ap read_call (sym (append-nil (encode_call c))) ∙ exact-call.back c [] (and_from (is_call c) (encodable c) h k)

pub reads-back : ReadsBack
reads-back c h k = decode-got (encode_call c) c (length (encode_call c)) (read-call c h k) ∙ ap (λ b. cond b c (malformed (length (encode_call c)))) (eq-eqb (length (encode_call c)) (length (encode_call c)) refl)

read_whole : (bs : Bytes) (c : Call) (rest : Bytes) → good_call c ≡ true → bs ≡ encode_call c ++ rest → read_call bs ≡ got c (length (encode_call c))
read_whole bs c rest g p = ap read_call p ∙ exact-call.back c rest g

decode-whole : (bs : Bytes) (c : Call) (rest : Bytes) → good_call c ≡ true → bs ≡ encode_call c ++ rest → (t : Bool) → eqb (length (encode_call c)) (length bs) ≡ t → decode bs ≡ cond t c (malformed (length (encode_call c)))
decode-whole bs c rest g p t q = decode-got bs c (length (encode_call c)) (read_whole bs c rest g p) ∙ ap (λ t. cond t c (malformed (length (encode_call c)))) q

no-malformed : {A : Type 0} (c : Call) (k : ℕ) → is_call c ≡ true → c ≡ malformed k → A
no-malformed c k h e = false-true (sym (ap is_call e) ∙ h)

no-rest : (as' bs : Bytes) → length as' ≡ length (as' ++ bs) → as' ++ bs ≡ as'
no-rest as' bs l = ap (λ q. as' ++ q) (nil_from_length bs (omega (arith, l, length-append as' bs))) ∙ append-nil as'

pub one-spelling : OneSpelling
one-spelling bs b h = go (exact-call.sees bs b)
  where
    go : Seen encode_call good_call read_call bs → (encode_call (decode bs) ≡ bs) × (encodable (decode bs) ≡ true)
    go (whole c rest g p) = last (eqb (length (encode_call c)) (length bs)) refl
      where
        last : (t : Bool) → eqb (length (encode_call c)) (length bs) ≡ t → (encode_call (decode bs) ≡ bs) × (encodable (decode bs) ≡ true)
        last true q =
            let d : decode bs ≡ c = decode-whole bs c rest g p true q in
            let l : length (encode_call c) ≡ length (encode_call c ++ rest) = eqb-true _ _ q ∙ ap length p in
            (ap encode_call d ∙ sym (p ∙ no-rest (encode_call c) rest l), ap encodable d ∙ (and_parts (is_call c) (encodable c) g).1)
        last false q = no-malformed (decode bs) (length (encode_call c)) h (decode-whole bs c rest g p false q)
    go (partly k w) = no-malformed (decode bs) k h (decode-stops bs k w.stop)

-- ---- the place of what is no call
malformed-same : (j k : ℕ) → malformed j ≡ malformed k → j ≡ k
malformed-same j k e = cc

abbrev Place : Bytes → ℕ → Type 0
Place bs k =
    (k ≤ length bs)
    × ((c : Call) × (rest : Bytes) × (is_call c ≡ true) × (encodable c ≡ true) × (encode_call c ≡ take k bs ++ rest))
    × (k < length bs → (c : Call) (rest : Bytes) → is_call c ≡ true → encodable c ≡ true → encode_call c ≡ take (k + 1) bs ++ rest → ⊥)

place-partly : (bs : Bytes) (k : ℕ) → Begun encode_call good_call read_call bs k → Place bs k
place-partly bs k w =
    let g = and_parts (is_call w.one) (encodable w.one) w.one-good in
    (w.within, (w.one, w.rest, g.0, g.1, w.begins), never)
  where
    never : k < length bs → (c : Call) (rest : Bytes) → is_call c ≡ true → encodable c ≡ true → encode_call c ≡ take (k + 1) bs ++ rest → ⊥
    never l c rest h e p =
        got-stops c (length (encode_call c)) k (sym (read-call c h e) ∙ ap read_call (p ∙ ap (λ n. take n bs ++ rest) (add-one k)) ∙ w.stays l rest)

place-whole : (c : Call) (bs : Bytes) → good_call c ≡ true → Place (encode_call c ++ bs) (length (encode_call c))
place-whole c bs g =
    let n = and_parts (is_call c) (encodable c) g in
    (omega (arith, length-append (encode_call c) bs), (c, [], n.0, n.1, sym (append-nil (take (length (encode_call c)) (encode_call c ++ bs)) ∙ take_at (encode_call c) bs (length (encode_call c)) refl)), never)
  where
    never : length (encode_call c) < length (encode_call c ++ bs) → (d : Call) (rest : Bytes) → is_call d ≡ true → encodable d ≡ true → encode_call d ≡ take (length (encode_call c) + 1) (encode_call c ++ bs) ++ rest → ⊥
    never l d rest h e p =
        let n : length (encode_call c) + 1 ≡ suc (length (encode_call c) + 0) = omega arith in
        let q : encode_call d ≡ encode_call c ++ (take 1 bs ++ rest) = p ∙ ap (λ m. take m (encode_call c ++ bs) ++ rest) n ∙ take-past-one (encode_call c) bs rest 0 in
        let r = got-long d c (length (encode_call d)) (length (encode_call c)) (sym (read-call d h e) ∙ read_whole (encode_call d) c (take 1 bs ++ rest) g q) in
        let s = length-take-le 1 bs (omega (arith, length-append (encode_call c) bs)) in
        absurd (omega (arith, r, s, ap length q, length-append (encode_call c) (take 1 bs ++ rest), length-append (take 1 bs) rest))

pub stops-where-it-must : StopsWhereItMust
stops-where-it-must bs k b e = go (exact-call.sees bs b)
  where
    go : Seen encode_call good_call read_call bs → Place bs k
    go (whole c rest g p) = last (eqb (length (encode_call c)) (length bs)) refl
      where
        last : (t : Bool) → eqb (length (encode_call c)) (length bs) ≡ t → Place bs k
        last true q = no-malformed c k (and_parts (is_call c) (encodable c) g).0 (sym (decode-whole bs c rest g p true q) ∙ e)
        last false q =
            let n : length (encode_call c) ≡ k = malformed-same (length (encode_call c)) k (sym (decode-whole bs c rest g p false q) ∙ e) in
            subst (Place bs) n (subst (λ q. Place q (length (encode_call c))) (sym p) (place-whole c rest g))
    go (partly j w) = subst (Place bs) (malformed-same j k (sym (decode-stops bs j w.stop) ∙ e)) (place-partly bs j w)
