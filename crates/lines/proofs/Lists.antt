-- The way through a list of ids.
use Rattle.std.proofs.Common.{◌≡◌, ℕ, List, [], ◌∷◌, ◌++◌, length, sym, refl, ap, ◌∙◌, append_assoc, arith}
use Rattle.std.proofs.lemmas.List.{append-nil}
use Rattle.spec.specs.Basics.{Text}
use Rattle.spec.specs.Bytes.{encode_text, encode_list}
use Rattle.lines.specs.Quotes.{quote, quotes, quotes_or}
use Rattle.lines.proofs.Joins.{joined}
use Rattle.lines.proofs.Firsts.{same-first}

-- what is left gives what all gives
abbrev pub Ahead : List ℕ → List ℕ → List ℕ → List Text → List ℕ → Type 0
Ahead left line start all rest = (ids : List Text) × (left ≡ encode_list encode_text ids ++ rest) × (line ++ quotes ids ≡ start ++ quotes all)

quotes-none : quotes [] ≡ []
unfolding quotes
quotes-none = refl

-- a list that begins with a 0 is at its end
pub at-end : (ids : List Text) (left rest : List ℕ) → 0 ∷ left ≡ encode_list encode_text ids ++ rest → (left ≡ rest) × (ids ≡ [])
at-end [] left rest e = (cc, refl)
at-end (id ∷ ids) left rest e = let z : ◌≡◌ {A = ℕ} 0 1 = cc in absurd (omega arith)

pub ended : (left line start : List ℕ) (all : List Text) (rest : List ℕ) → Ahead (0 ∷ left) line start all rest → (left ≡ rest) × (line ≡ start ++ quotes all)
ended left line start all rest a =
    let p = at-end a.0 left rest a.1 in
    (p.0, sym (append-nil line) ∙ ap (λ l. line ++ l) (sym quotes-none) ∙ ap (λ ids. line ++ quotes ids) (sym p.1) ∙ a.2)

-- one that begins with a 1 goes on with an id
pub id-next : (ids : List Text) (item rest : List ℕ) → 1 ∷ item ≡ encode_list encode_text ids ++ rest → (id : List ℕ) × (more : List Text) × (ids ≡ id ∷ more) × (item ≡ encode_text id ++ (encode_list encode_text more ++ rest))
id-next [] item rest e = let z : ◌≡◌ {A = ℕ} 1 0 = cc in absurd (omega arith)
id-next (id ∷ ids) item rest e = let same : item ≡ (encode_text id ++ encode_list encode_text ids) ++ rest = cc in (id, ids, refl, same ∙ append_assoc (encode_text id) (encode_list encode_text ids) rest)

-- it begins with one of both
pub begins : (ids : List Text) (mark : ℕ) (left rest : List ℕ) → mark ∷ left ≡ encode_list encode_text ids ++ rest → (mark ≡ 0 → ⊥) → (mark ≡ 1 → ⊥) → ⊥
begins [] mark left rest e y z = let m : mark ≡ 0 = cc in y m
begins (id ∷ ids) mark left rest e y z = let m : mark ≡ 1 = cc in z m

-- and is not empty
pub no_list : (bs : List ℕ) (ids : List Text) (rest : List ℕ) → length bs ≡ 0 → bs ≡ encode_list encode_text ids ++ rest → ⊥
no_list bs [] rest n e = let z = ap length e in omega arith
no_list bs (id ∷ ids) rest n e = let z = ap length e in omega arith

quotes-one-more : (line id : List ℕ) (ids : List Text) → (line ++ (32 ∷ quote id)) ++ quotes ids ≡ line ++ quotes (id ∷ ids)
unfolding quotes
quotes-one-more line id ids = append_assoc line (32 ∷ quote id) (quotes ids)

-- the id is appended, and what is left is behind it
pub stepped : (item left line line1 line2 start id : List ℕ) (all : List Text) (rest : List ℕ) → ((id' rest' : List ℕ) → item ≡ encode_text id' ++ rest' → (id ≡ id') × (left ≡ rest')) →
    line1 ≡ line ++ (32 ∷ []) → line2 ≡ line1 ++ quote id → Ahead (1 ∷ item) line start all rest → Ahead left line2 start all rest
stepped item left line line1 line2 start id all rest read p q a =
    let i = id-next a.0 item rest a.1 in
    let told = read i.0 (encode_list encode_text i.1 ++ rest) i.3 in
    let same : a.0 ≡ id ∷ i.1 = i.2 ∙ ap (λ x. x ∷ i.1) (sym told.0) in
    (i.1, told.1, ap (λ xs. xs ++ quotes i.1) (joined line line1 line2 (32 ∷ []) (quote id) p q) ∙ quotes-one-more line id i.1 ∙ ap (λ ids. line ++ quotes ids) (sym same) ∙ a.2)

-- an empty list: what is said of none
pub none_said : (left line after none before : List ℕ) (all : List Text) (rest : List ℕ) → after ≡ line ++ none → 0 ∷ left ≡ encode_list encode_text all ++ rest → (left ≡ rest) × (after ≡ line ++ quotes_or none before all)
unfolding quotes_or
none_said left line after none before all rest l e =
    let p = at-end all left rest e in
    let said : quotes_or none before all ≡ none = ap (λ ids. quotes_or none before ids) p.1 in
    (p.0, l ∙ ap (λ xs. line ++ xs) (sym said))

some-quoted : (none before : List ℕ) (all : List Text) (rest : List ℕ) → (encode_list encode_text all ++ rest ≡ 0 ∷ rest → ⊥) → quotes_or none before all ≡ before ++ quotes all
unfolding quotes_or
some-quoted none before [] rest z = absurd (z refl)
some-quoted none before (id ∷ ids) rest z = refl

-- some ids: what stands before them, and they
pub some-said : (answer line mid none before : List ℕ) (all : List Text) (rest after : List ℕ) → (first : ℕ) (tail : List ℕ) → answer ≡ first ∷ tail → (first ≡ 0 → ⊥) → mid ≡ line ++ before → answer ≡ encode_list encode_text all ++ rest →
    after ≡ mid ++ quotes all → after ≡ line ++ quotes_or none before all
some-said answer line mid none before all rest after first tail f z l e q =
    joined line mid after before (quotes all) l q
    ∙ ap (λ xs. line ++ xs) (sym (some-quoted none before all rest (λ m. z (same-first _ _ _ _ (sym f ∙ e ∙ m)))))
