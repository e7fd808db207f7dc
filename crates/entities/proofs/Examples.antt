-- The entities and the request that a test has in memory are good.
use Rattle.std.proofs.Common.{◌≡◌, ℕ, true, List, [], ◌∷◌, ◌++◌, refl, arith}
use Rattle.spec.specs.Basics.{less, ascending, all}
use Rattle.spec.specs.Values as s
use Rattle.spec.specs.Values.{EntityUID, int, prim, empty, attr, Entity, entity_key}
use Rattle.spec.specs.Calls.{put_entity, authorize, admissible}
use Rattle.entities.specs.Rows.{EntitiesIn, RequestRowIn}
use Rattle.shelves.specs.declared.table.Table.{Table}
use Rattle.entities.proofs.Meant.{entities-mean, request-means}

abbrev user : ℕ → EntityUID
user n = record { ty = 85 ∷ []; eid = n ∷ [] }

abbrev two : s.Entities
two =
    record { uid = user 97; attrs = attr (120 ∷ []) (prim (int 9223372036854775815)) empty; ancestors = user 98 ∷ []; tags = empty }
    ∷ (record { uid = user 98; attrs = empty; ancestors = []; tags = empty } ∷ [])

abbrev asked : s.Request
asked = record { principal = user 97; action = user 118; resource = user 98; context = empty }

two-rise : ascending entity_key two ≡ true
unfolding ascending less
two-rise = refl

two-kept : all (λ x. admissible (put_entity x)) two ≡ true
unfolding ascending less
two-kept = refl

asked-kept : admissible (authorize asked) ≡ true
unfolding ascending less
asked-kept = refl

abbrev pub numbers : List ℕ
numbers =
    1 ∷ (85 ∷ (1 ∷ (97 ∷ (7 ∷ (1 ∷ (5 ∷ (1 ∷ (9223372036854775815 ∷ (1 ∷ (120 ∷ (2 ∷ (0 ∷ (1 ∷ (1 ∷ (85 ∷ (1 ∷ (98 ∷ (1 ∷ (85 ∷ (1 ∷ (98 ∷ (2 ∷ (0 ∷ (2 ∷ (0 ∷ (0 ∷ (0 ∷ (18 ∷ []))))))))))))))))))))))))))))

abbrev pub more : List ℕ
more = 1 ∷ (85 ∷ (1 ∷ (97 ∷ (1 ∷ (85 ∷ (1 ∷ (118 ∷ (1 ∷ (85 ∷ (1 ∷ (98 ∷ (2 ∷ (0 ∷ [])))))))))))))

abbrev pub table : Table
table = record { from = 0; places = 27; count = 2 }

pub the-entities : EntitiesIn numbers table
the-entities = (entities-mean two numbers table two-rise two-kept refl refl (omega arith) (refl, (refl, tt))).0

pub the-request : RequestRowIn (numbers ++ more) 29
the-request = (request-means asked (numbers ++ more) 29 asked-kept refl refl).0
