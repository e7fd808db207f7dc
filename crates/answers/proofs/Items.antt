-- The answer to a request, piece by piece: a decision, the ids of each list one after the other, its end, and what fits.
use Rattle.std.proofs.Common.{◌≡◌, Bool, List, [], ◌∷◌, ◌++◌, sym, refl, ap, ◌∙◌}
use Rattle.std.proofs.lemmas.List.{append_assoc, append-nil}
use Rattle.spec.specs.Basics.{Text}
use Rattle.spec.specs.Policies.{Response}
use Rattle.spec.specs.Calls.{authorized}
use Rattle.spec.specs.Bytes.{Bytes, encode_text, encode_list, encode_bool, decision_number, encode_answer}

-- the ids of a list, before its end
abbrev pub items : List Text → Bytes
items [] = []
items (t ∷ ts) = (1 ∷ encode_text t) ++ items ts

pub items_more : (ts : List Text) (t : Text) → items (ts ++ (t ∷ [])) ≡ items ts ++ (1 ∷ encode_text t)
items_more [] t = append-nil (1 ∷ encode_text t)
items_more (u ∷ ts) t = ap (λ l. (1 ∷ encode_text u) ++ l) (items_more ts t) ∙ sym (append_assoc (1 ∷ encode_text u) (items ts) (1 ∷ encode_text t))

pub items-end : (ts : List Text) → items ts ++ (0 ∷ []) ≡ encode_list encode_text ts
items-end [] = refl
items-end (t ∷ ts) = append_assoc (1 ∷ encode_text t) (items ts) (0 ∷ []) ∙ ap (λ l. (1 ∷ encode_text t) ++ l) (items-end ts)

pub authorized-pieces : (r : Response) (q es : Bool) →
    (4 ∷ (decision_number r.decision ∷ [])) ++ ((items r.determining_policies ++ (0 ∷ [])) ++ ((items r.erroring_policies ++ (0 ∷ [])) ++ (encode_bool q ++ encode_bool es))) ≡ encode_answer (authorized r q es)
authorized-pieces r q es =
    ap (λ l. 4 ∷ (decision_number r.decision ∷ (l ++ ((items r.erroring_policies ++ (0 ∷ [])) ++ (encode_bool q ++ encode_bool es))))) (items-end r.determining_policies)
    ∙ ap (λ l. 4 ∷ (decision_number r.decision ∷ (encode_list encode_text r.determining_policies ++ (l ++ (encode_bool q ++ encode_bool es))))) (items-end r.erroring_policies)
