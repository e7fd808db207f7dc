-- That the rows of entities and of a request mean what they were made from, and that a request keeps its meaning.
use Rattle.std.specs.Prelude.{◌≡◌, ℕ, ◌+◌, ◌≤◌, true, List, [], ◌∷◌, length, take}
use Rattle.spec.specs.Basics.{all, ascending}
use Rattle.spec.specs.Values as s
use Rattle.spec.specs.Values.{entity_key}
use Rattle.spec.specs.Calls.{put_entity, authorize, admissible, encodable}
use Rattle.rows.specs.Rows.{row_entity, row_request}
use Rattle.values.specs.Making.{up_to}
use Rattle.values.specs.Stored.{LiesAt}
use Rattle.entities.specs.Rows.{row_place, entities_at, EntitiesIn, request_at, RequestIn, request_row_at, RequestRowIn}
use Rattle.shelves.specs.declared.table.Table.{Table}
use Rattle.entities.specs.declared.requests.Request.{Request}

-- the rows of entities lie where the table has them, from the k-th on
abbrev pub RowsLie : List ℕ → Table → ℕ → s.Entities → Type 0
RowsLie m e k [] = Unit {0}
RowsLie m e k (x ∷ xs) = LiesAt m (row_place m e k) (row_entity x) × RowsLie m e (k + 1) xs

-- entities as a store keeps them, each as a call can carry it
abbrev pub EntitiesMean : Type 0
EntitiesMean =
    (es : s.Entities) (m : List ℕ) (e : Table) → ascending entity_key es ≡ true → all (λ x. admissible (put_entity x)) es ≡ true → all (λ x. encodable (put_entity x)) es ≡ true →
    e.count ≡ length es → e.places + e.count ≤ length m → RowsLie m e 0 es → EntitiesIn m e × (entities_at m e ≡ es)

abbrev pub RequestMeans : Type 0
RequestMeans =
    (q : s.Request) (m : List ℕ) (p : ℕ) → admissible (authorize q) ≡ true → encodable (authorize q) ≡ true → LiesAt m p (row_request q) → RequestRowIn m p × (request_row_at m p ≡ q)

-- as the work memory grows, a request means what it meant
abbrev pub RequestGrows : Type 0
RequestGrows =
    (store w₁ w₂ : List ℕ) (t₁ t₂ : ℕ) (e : Table) (q : Request) → t₁ ≤ t₂ → take t₁ w₂ ≡ take t₁ w₁ → RequestIn store (up_to store w₁ t₁) e q →
    RequestIn store (up_to store w₂ t₂) e q × (request_at (up_to store w₂ t₂) q ≡ request_at (up_to store w₁ t₁) q)
