-- What a type of the running code stands for: in a store and a work memory, to a height.
-- A type of the schema is held by the place of its row in the store. One that was made on the way lies in the work memory: a set as the tag and the payload
-- of what is in it, a record as the number of its attributes and three numbers for each, the place of its name, a tag and a payload. All of its attributes
-- are required. Names always lie in the store.
use Rattle.std.specs.Prelude.{◌≡◌, ℕ, zero, suc, ◌+◌, ◌*◌, ◌<◌, ◌≤◌, Bool, true, false, cond, ◌&&◌, List, length, ◌==◌, slice_index, slice_index_or}
use Rattle.spec.specs.Types as s
use Rattle.spec.specs.Types.{any_bool, is_true, is_false, bool, int, string, entity, set, record_of, RecordType, empty, attr}
use Rattle.values.specs.Held.{text_at, TextIn, behind_text}
use Rattle.values.specs.declared.memory.Memory.{Memory}
use Rattle.types.specs.declared.nodes.BoolType.{BoolType}
use Rattle.types.specs.declared.nodes.BoolType.TheVariants.{Any, True, False}
use Rattle.types.specs.declared.nodes.CedarType.{CedarType}
use Rattle.types.specs.declared.nodes.CedarType.TheVariants.{Bool as B, Int, String, Entity, Set, Record, MadeSet, MadeRecord}
use Rattle.types.specs.declared.nodes.RecordPlace.{RecordPlace}
use Rattle.types.specs.declared.nodes.RecordPlace.TheVariants.{Stored, Made}

-- ---- truths
abbrev pub means_bool : BoolType → s.BoolType
means_bool Any = any_bool
means_bool True = is_true
means_bool False = is_false

abbrev pub bool_by : ℕ → BoolType
bool_by x = cond (x == 0) Any (cond (x == 1) True False)

-- ---- types by numbers
-- the type that a tag and a payload are
abbrev pub type_by : ℕ → ℕ → CedarType
type_by k x =
    cond (k == 0) (B (bool_by x))
    (cond (k == 1) Int
    (cond (k == 2) String
    (cond (k == 3) (Entity x)
    (cond (k == 4) (Set x)
    (cond (k == 5) (Record x)
    (cond (k == 6) (MadeSet x)
    (MadeRecord x)))))))

-- the type whose row is at a place of the store: what is behind the row's form and length has the place p + 2
abbrev pub row_type_at : List ℕ → ℕ → CedarType
row_type_at m p =
    cond (slice_index m p == 0) (B (bool_by (slice_index m (p + 2))))
    (cond (slice_index m p == 1) Int
    (cond (slice_index m p == 2) String
    (cond (slice_index m p == 3) (Entity (p + 2))
    (cond (slice_index m p == 4) (Set (p + 2))
    (Record (p + 2))))))

-- the type that two numbers of the work memory are
abbrev pub made_at : List ℕ → ℕ → CedarType
made_at w p = type_by (slice_index w p) (slice_index w (p + 1))

-- ---- the attributes of a record, stored or made, from a place on
abbrev pub is_stored : RecordPlace → Bool
is_stored (Stored p) = true
is_stored (Made p) = false

abbrev pub place_of : RecordPlace → ℕ
place_of (Stored p) = p
place_of (Made p) = p

abbrev pub count_at : Bool → List ℕ → List ℕ → ℕ → ℕ
count_at true m w p = slice_index m p
count_at false m w p = slice_index w p

abbrev pub name_at : Bool → List ℕ → List ℕ → ℕ → ℕ
name_at true m w e = e + 1
name_at false m w e = slice_index w e

abbrev pub required_at : Bool → List ℕ → ℕ → Bool
required_at true m e = slice_index m e == 1
required_at false m e = true

abbrev pub attr_type_at : Bool → List ℕ → List ℕ → ℕ → CedarType
attr_type_at true m w e = row_type_at m (behind_text m (e + 1))
attr_type_at false m w e = made_at w (e + 1)

abbrev pub behind_row : List ℕ → ℕ → ℕ
behind_row m p = p + slice_index m (p + 1)

abbrev pub next_at : Bool → List ℕ → ℕ → ℕ
next_at true m e = behind_row m (behind_text m (e + 1))
next_at false m e = e + 3

abbrev pub attrs_from : (CedarType → s.CedarType) → Bool → List ℕ → List ℕ → ℕ → ℕ → RecordType
attrs_from d b m w zero e = empty
attrs_from d b m w (suc n) e = attr (text_at m (name_at b m w e)) (required_at b m e) (d (attr_type_at b m w e)) (attrs_from d b m w n (next_at b m e))

abbrev pub attrs_at : (CedarType → s.CedarType) → Bool → List ℕ → List ℕ → ℕ → RecordType
attrs_at d b m w p = attrs_from d b m w (count_at b m w p) (p + 1)

-- ---- what types stand for
abbrev pub means : (CedarType → s.CedarType) → List ℕ → List ℕ → CedarType → s.CedarType
means d m w (B t) = bool (means_bool t)
means d m w Int = int
means d m w String = string
means d m w (Entity p) = entity (text_at m p)
means d m w (Set p) = set (d (row_type_at m p))
means d m w (Record p) = record_of (attrs_at d true m w p)
means d m w (MadeSet p) = set (d (made_at w p))
means d m w (MadeRecord p) = record_of (attrs_at d false m w p)

abbrev pub decode : ℕ → List ℕ → List ℕ → CedarType → s.CedarType
decode zero m w v = int
decode (suc h) m w v = means (decode h m w) m w v

-- ---- which types are good: what they hold lies in the memories and is good; what is made lies from lo up to hi
-- in the types of a schema every truth may be either
abbrev mutual
  pub plain : s.CedarType → Bool
  plain (bool any_bool) = true
  plain (bool is_true) = false
  plain (bool is_false) = false
  plain int = true
  plain string = true
  plain (entity n) = true
  plain (set t) = plain t
  plain (record_of ts) = plain_attrs ts

  pub plain_attrs : RecordType → Bool
  plain_attrs empty = true
  plain_attrs (attr a r t ts) = plain t && plain_attrs ts

pub record TypeRowIn (m : List ℕ) (p : ℕ) : Type 0 where
  pub head : p + 2 ≤ length m
  pub truth : slice_index_or m p 0 ≡ 0 → p + 3 ≤ length m
  pub ends : behind_row m p ≤ length m

abbrev pub AttrIn : Bool → List ℕ → List ℕ → ℕ → ℕ → Type 0
AttrIn true m w hi e = (e < length m) × TextIn m (e + 1) × TypeRowIn m (behind_text m (e + 1))
AttrIn false m w hi e = (e + 3 ≤ hi) × TextIn m (slice_index w e)

abbrev pub GoodFrom : (CedarType → Type 0) → Bool → List ℕ → List ℕ → ℕ → ℕ → ℕ → Type 0
GoodFrom G b m w hi zero e = Unit {0}
GoodFrom G b m w hi (suc n) e = AttrIn b m w hi e × G (attr_type_at b m w e) × GoodFrom G b m w hi n (next_at b m e)

abbrev pub CountIn : Bool → List ℕ → ℕ → ℕ → Type 0
CountIn true m hi p = p < length m
CountIn false m hi p = p < hi

pub record AttrsIn (G : CedarType → Type 0) (b : Bool) (m w : List ℕ) (hi p : ℕ) : Type 0 where
  pub counts : CountIn b m hi p
  pub each : GoodFrom G b m w hi (count_at b m w p) (p + 1)

pub record SetIn (G : CedarType → Type 0) (d : CedarType → s.CedarType) (m : List ℕ) (p : ℕ) : Type 0 where
  pub row : TypeRowIn m p
  pub inner : G (row_type_at m p)
  pub plainly : plain (d (row_type_at m p)) ≡ true

pub record RecordIn (G : CedarType → Type 0) (d : CedarType → s.CedarType) (m w : List ℕ) (hi p : ℕ) : Type 0 where
  pub attrs : AttrsIn G true m w hi p
  pub plainly : plain_attrs (attrs_at d true m w p) ≡ true

pub record MadeSetIn (G : CedarType → Type 0) (w : List ℕ) (lo hi p : ℕ) : Type 0 where
  pub above : lo ≤ p
  pub fits : p + 2 ≤ hi
  pub inner : G (made_at w p)

pub record MadeRecordIn (G : CedarType → Type 0) (m w : List ℕ) (lo hi p : ℕ) : Type 0 where
  pub above : lo ≤ p
  pub attrs : AttrsIn G false m w hi p

abbrev pub Sound : (CedarType → Type 0) → (CedarType → s.CedarType) → List ℕ → List ℕ → ℕ → ℕ → CedarType → Type 0
Sound G d m w lo hi (B t) = Unit {0}
Sound G d m w lo hi Int = Unit {0}
Sound G d m w lo hi String = Unit {0}
Sound G d m w lo hi (Entity p) = TextIn m p
Sound G d m w lo hi (Set p) = SetIn G d m p
Sound G d m w lo hi (Record p) = RecordIn G d m w hi p
Sound G d m w lo hi (MadeSet p) = MadeSetIn G w lo hi p
Sound G d m w lo hi (MadeRecord p) = MadeRecordIn G m w lo hi p

abbrev pub Good : ℕ → List ℕ → List ℕ → ℕ → ℕ → CedarType → Type 0
Good zero m w lo hi v = ⊥
Good (suc h) m w lo hi v = Sound (Good h m w lo hi) (decode h m w) m w lo hi v

-- ---- the same in the memory of the running code
abbrev pub GoodIn : ℕ → Memory → CedarType → Type 0
GoodIn h k v = Good h k.store.now k.work.now 0 (length k.work.now) v

abbrev pub SoundIn : ℕ → Memory → CedarType → Type 0
SoundIn h k v = Sound (Good h k.store.now k.work.now 0 (length k.work.now)) (decode h k.store.now k.work.now) k.store.now k.work.now 0 (length k.work.now) v

abbrev pub AttrsLie : ℕ → Memory → RecordPlace → Type 0
AttrsLie h k p = AttrsIn (Good h k.store.now k.work.now 0 (length k.work.now)) (is_stored p) k.store.now k.work.now (length k.work.now) (place_of p)

abbrev pub type_in : ℕ → Memory → CedarType → s.CedarType
type_in h k v = decode h k.store.now k.work.now v

abbrev pub meant_in : ℕ → Memory → CedarType → s.CedarType
meant_in h k v = means (decode h k.store.now k.work.now) k.store.now k.work.now v

abbrev pub attrs_in : ℕ → Memory → RecordPlace → RecordType
attrs_in h k p = attrs_at (decode h k.store.now k.work.now) (is_stored p) k.store.now k.work.now (place_of p)

-- ---- how many numbers of it were made
abbrev pub sum_to : ℕ → (ℕ → ℕ) → ℕ
sum_to zero f = 0
sum_to (suc n) f = sum_to n f + f n

abbrev pub made_attr_at : List ℕ → ℕ → ℕ → CedarType
made_attr_at w p k = made_at w (p + 1 + 3 * k + 1)

abbrev pub made_in : (CedarType → ℕ) → List ℕ → CedarType → ℕ
made_in g w (B t) = 0
made_in g w Int = 0
made_in g w String = 0
made_in g w (Entity p) = 0
made_in g w (Set p) = 0
made_in g w (Record p) = 0
made_in g w (MadeSet p) = 2 + g (made_at w p)
made_in g w (MadeRecord p) = 1 + 3 * slice_index w p + sum_to (slice_index w p) (λ k. g (made_attr_at w p k))

abbrev pub made : ℕ → List ℕ → CedarType → ℕ
made zero w v = 0
made (suc h) w v = made_in (made h w) w v
