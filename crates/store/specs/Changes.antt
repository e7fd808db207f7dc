-- What each call of the store leaves. Assumes nothing: these are definitions.
use Rattle.std.specs.Prelude.{◌≡◌, ℕ, ◌+◌, ◌*◌, ◌<◌, ◌≤◌, List, length, take, IsSome}
use Rattle.spec.specs.Basics.{Text, insert, remove}
use Rattle.copy.specs.Writing.{written}
use Rattle.shelves.specs.Items.{Item, laid, id_key, IdIn, uid_key, UidIn}
use Rattle.shelves.specs.Spots.{taken, Place, Found, EntryOf}
use Rattle.shelves.specs.declared.finding.Spot.{Spot}
use Rattle.shelves.specs.declared.finding.Entry.{Entry}
use Rattle.store.specs.Sections.{Sections, sections, size_of, policies_at, entities_at, Holds}

-- ---- one part changed
abbrev pub with_policies : List Item → Sections → Sections
with_policies ps s = record { capacity = s.capacity; schema_size = s.schema_size; schema = s.schema; policies = ps; entities = s.entities; unfit = s.unfit; missing = s.missing }

abbrev pub with_entities : List Item → Sections → Sections
with_entities es s = record { capacity = s.capacity; schema_size = s.schema_size; schema = s.schema; policies = s.policies; entities = es; unfit = s.unfit; missing = s.missing }

abbrev pub with_schema : Item → Sections → Sections
with_schema i s = record { capacity = s.capacity; schema_size = i.size; schema = i.row; policies = s.policies; entities = s.entities; unfit = s.unfit; missing = s.missing }

abbrev pub with_counts : ℕ → ℕ → Sections → Sections
with_counts unfit missing s = record { capacity = s.capacity; schema_size = s.schema_size; schema = s.schema; policies = s.policies; entities = s.entities; unfit = unfit; missing = missing }

-- ---- new, or in place of the one with its key; and without the one with a key
abbrev pub with_policy : Item → Sections → Sections
with_policy i s = with_policies (insert id_key i s.policies) s

abbrev pub without_policy : Text → Sections → Sections
without_policy t s = with_policies (remove id_key t s.policies) s

abbrev pub with_entity : Item → Sections → Sections
with_entity i s = with_entities (insert uid_key i s.entities) s

abbrev pub without_entity : Text → Sections → Sections
without_entity t s = with_entities (remove uid_key t s.entities) s

-- ---- the spot of a key among the policies or the entities
abbrev pub PolicyFound : Sections → Text → Spot → Type 0
PolicyFound s t spot = Found id_key (policies_at s) s.policies t spot

abbrev pub EntityFound : Sections → Text → Spot → Type 0
EntityFound s t spot = Found uid_key (entities_at s) s.entities t spot

-- ---- room for a row
-- an item of so many numbers and such a size may come at a spot
pub record Comes (s : Sections) (from : ℕ) (xs : List Item) (spot : Spot) (n size : ℕ) : Type 0 where
  pub place : Place from xs spot
  pub bounded : n + 1 ≤ 4 * size
  pub least : 2 ≤ size
  pub fits : size_of s + size ≤ s.capacity + (taken spot).size

abbrev pub item : ℕ → List ℕ → Item
item size row = record { size = size; row = row }

-- whatever row of the length that was asked for, with the key that the spot was found by, is written there: memory is in order then, and holds it
pub record PolicyRoom (s : Sections) (m : List ℕ) (spot : Spot) (n size to : ℕ) : Type 0 where
  pub fits : to + n ≤ length m
  pub holds : (row : List ℕ) → length row ≡ n → IdIn (item size row) → PolicyFound s (id_key (item size row)) spot →
      Holds (written m to row) (with_policy (item size row) s)

pub record EntityRoom (s : Sections) (m : List ℕ) (spot : Spot) (n size to : ℕ) : Type 0 where
  pub fits : to + n ≤ length m
  pub holds : (row : List ℕ) → length row ≡ n → UidIn (item size row) → EntityFound s (uid_key (item size row)) spot →
      Holds (written m to row) (with_entity (item size row) s)

pub record SchemaRoom (s : Sections) (m : List ℕ) (n size to : ℕ) : Type 0 where
  pub fits : to + n ≤ length m
  pub holds : (row : List ℕ) → length row ≡ n → Holds (written m to row) (with_schema (item size row) s)

-- a schema of so many numbers and such a size may come
pub record SchemaComes (s : Sections) (n size : ℕ) : Type 0 where
  pub bounded : n ≤ 4 * size + 2
  pub fits : size_of s + size ≤ s.capacity + s.schema_size

-- the k-th of some items that lie from a place on begins there
pub record Begins (from : ℕ) (xs : List Item) (k at : ℕ) : Type 0 where
  pub under : k < length xs
  pub is : at ≡ from + length (laid (take k xs))

-- ---- an item goes
pub record Goes (from : ℕ) (xs : List Item) (spot : Spot) : Type 0 where
  pub place : Place from xs spot
  pub some : IsSome spot.item

-- memory is in order then, and holds the rest: by the key that the spot was found by
abbrev pub PolicyGone : Sections → List ℕ → Spot → Type 0
PolicyGone s m spot = (t : Text) → PolicyFound s t spot → Holds m (without_policy t s)

abbrev pub EntityGone : Sections → List ℕ → Spot → Type 0
EntityGone s m spot = (t : Text) → EntityFound s t spot → Holds m (without_entity t s)

-- ---- items as they lie
abbrev pub PolicyEntry : List ℕ → ℕ → Entry → Type 0
PolicyEntry m k e = EntryOf m (policies_at (sections m)) (sections m).policies k e

abbrev pub EntityEntry : List ℕ → ℕ → Entry → Type 0
EntityEntry m k e = EntryOf m (entities_at (sections m)) (sections m).entities k e

abbrev pub PolicyBegins : List ℕ → ℕ → ℕ → Type 0
PolicyBegins m k at = Begins (policies_at (sections m)) (sections m).policies k at
