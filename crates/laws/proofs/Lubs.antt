-- The least type above two, as a relation: each pair of forms that goes together once.
use Rattle.std.proofs.Common.{◌≡◌, Bool, true, false, cond, ◌&&◌, sym, refl, ◌∙◌}
use mathlib.Core.Option.{Option, some, none}
use Rattle.std.proofs.lemmas.Bool.{and_parts}
use Rattle.spec.specs.Basics.{Text, same}
use Rattle.spec.specs.Types.{BoolType, any_bool, is_true, is_false, CedarType, bool, int, string, entity, set, record_of, RecordType, empty, attr, same_bool, lub_bool, lub_set, lub_record, lub_attr, lub, lub_attrs}
use Rattle.spec.specs.Promises.{LubIsLeast}
use Rattle.laws.proofs.Texts.{none-some, same_true, same_refl}

mutual
  pub data Lub : CedarType → CedarType → CedarType → Type 0 where
    bools : (a b : BoolType) → Lub (bool a) (bool b) (bool (lub_bool a b))
    ints : Lub int int int
    strings : Lub string string string
    entities : (n : Text) → Lub (entity n) (entity n) (entity n)
    sets : {t u v : CedarType} → Lub t u v → Lub (set t) (set u) (set v)
    records : {ts us vs : RecordType} → LubAttrs ts us vs → Lub (record_of ts) (record_of us) (record_of vs)

  pub data LubAttrs : RecordType → RecordType → RecordType → Type 0 where
    nones : LubAttrs empty empty empty
    mores : {a : Text} {r : Bool} {t u v : CedarType} {ts us vs : RecordType} → Lub t u v → LubAttrs ts us vs → LubAttrs (attr a r t ts) (attr a r u us) (attr a r v vs)

some_is : {A : Type 0} {x y : A} → ◌≡◌ {A = Option A} (some x) (some y) → x ≡ y
some_is {A} {x} {y} h = cc

cond-some : {A : Type 0} {y : A} (b : Bool) (o : Option A) → cond b o none ≡ some y → (b ≡ true) × (o ≡ some y)
cond-some true o h = (refl, h)
cond-some false o h = none-some h

set_is : (o : Option CedarType) {v : CedarType} → lub_set o ≡ some v → (t : CedarType) × (o ≡ some t) × (set t ≡ v)
set_is none h = none-some h
set_is (some t) h = (t, refl, some_is h)

record_is : (o : Option RecordType) {v : CedarType} → lub_record o ≡ some v → (t : RecordType) × (o ≡ some t) × (record_of t ≡ v)
record_is none h = none-some h
record_is (some t) h = (t, refl, some_is h)

attr-is : (a : Text) (r : Bool) (o : Option CedarType) (p : Option RecordType) {v : RecordType} → lub_attr a r o p ≡ some v →
    (t : CedarType) × (o ≡ some t) × (ts : RecordType) × (p ≡ some ts) × (attr a r t ts ≡ v)
attr-is a r none p h = none-some h
attr-is a r (some t) none h = none-some h
attr-is a r (some t) (some ts) h = (t, refl, ts, refl, some_is h)

bit_is : (r s : Bool) → same_bool r s ≡ true → r ≡ s
bit_is true true h = refl
bit_is true false h = sym h
bit_is false true h = h
bit_is false false h = refl

bit-refl : (r : Bool) → same_bool r r ≡ true
bit-refl true = refl
bit-refl false = refl

mutual
  pub lub-rel : (t u v : CedarType) → lub t u ≡ some v → Lub t u v
  lub-rel (bool a) (bool b) v h = rw (← some_is h) (bools a b)
  lub-rel (bool a) int v h = none-some h
  lub-rel (bool a) string v h = none-some h
  lub-rel (bool a) (entity n) v h = none-some h
  lub-rel (bool a) (set t) v h = none-some h
  lub-rel (bool a) (record_of t) v h = none-some h
  lub-rel int (bool b) v h = none-some h
  lub-rel int int v h = rw (← some_is h) ints
  lub-rel int string v h = none-some h
  lub-rel int (entity n) v h = none-some h
  lub-rel int (set t) v h = none-some h
  lub-rel int (record_of t) v h = none-some h
  lub-rel string (bool b) v h = none-some h
  lub-rel string int v h = none-some h
  lub-rel string string v h = rw (← some_is h) strings
  lub-rel string (entity n) v h = none-some h
  lub-rel string (set t) v h = none-some h
  lub-rel string (record_of t) v h = none-some h
  lub-rel (entity n) (bool b) v h = none-some h
  lub-rel (entity n) int v h = none-some h
  lub-rel (entity n) string v h = none-some h
  lub-rel (entity n) (entity m) v h =
      let (p, q) = cond-some (same n m) (some (entity n)) h in
      rw (← same_true n m p, ← some_is q) (entities n)
  lub-rel (entity n) (set t) v h = none-some h
  lub-rel (entity n) (record_of t) v h = none-some h
  lub-rel (set t) (bool b) v h = none-some h
  lub-rel (set t) int v h = none-some h
  lub-rel (set t) string v h = none-some h
  lub-rel (set t) (entity m) v h = none-some h
  lub-rel (set t) (set u) v h = let (w, p, q) = set_is (lub t u) h in rw (← q) (sets (lub-rel t u w p))
  lub-rel (set t) (record_of u) v h = none-some h
  lub-rel (record_of t) (bool b) v h = none-some h
  lub-rel (record_of t) int v h = none-some h
  lub-rel (record_of t) string v h = none-some h
  lub-rel (record_of t) (entity m) v h = none-some h
  lub-rel (record_of t) (set u) v h = none-some h
  lub-rel (record_of t) (record_of u) v h = let (w, p, q) = record_is (lub_attrs t u) h in rw (← q) (records (lub-rel-attrs t u w p))

  pub lub-rel-attrs : (t u v : RecordType) → lub_attrs t u ≡ some v → LubAttrs t u v
  lub-rel-attrs empty empty v h = rw (← some_is h) nones
  lub-rel-attrs empty (attr b s u us) v h = none-some h
  lub-rel-attrs (attr a r t ts) empty v h = none-some h
  lub-rel-attrs (attr a r t ts) (attr b s u us) v h =
      let (p, q) = cond-some (same a b && same_bool r s) _ h in
      let (p1, p2) = and_parts (same a b) (same_bool r s) p in
      let (w, e1, ws, e2, e3) = attr-is a r (lub t u) (lub_attrs ts us) q in
      rw (← same_true a b p1, ← bit_is r s p2, ← e3) (mores (lub-rel t u w e1) (lub-rel-attrs ts us ws e2))

-- and back
mutual
  pub rel-lub : {t u v : CedarType} → Lub t u v → lub t u ≡ some v
  rel-lub (bools a b) = refl
  rel-lub ints = refl
  rel-lub strings = refl
  rel-lub (entities n) = rw (same_refl n)
  rel-lub (sets l) = rw (rel-lub l)
  rel-lub (records l) = rw (rel-lub-attrs l)

  pub rel-lub-attrs : {t u v : RecordType} → LubAttrs t u v → lub_attrs t u ≡ some v
  rel-lub-attrs nones = refl
  rel-lub-attrs (mores {a} {r} l ls) = rw (same_refl a, bit-refl r, rel-lub l, rel-lub-attrs ls)

bool-swap : (a b : BoolType) → lub_bool a b ≡ lub_bool b a
bool-swap any_bool any_bool = refl
bool-swap any_bool is_true = refl
bool-swap any_bool is_false = refl
bool-swap is_true any_bool = refl
bool-swap is_true is_true = refl
bool-swap is_true is_false = refl
bool-swap is_false any_bool = refl
bool-swap is_false is_true = refl
bool-swap is_false is_false = refl

bool-above : (a b : BoolType) → lub_bool a (lub_bool a b) ≡ lub_bool a b
bool-above any_bool b = refl
bool-above is_true any_bool = refl
bool-above is_true is_true = refl
bool-above is_true is_false = refl
bool-above is_false any_bool = refl
bool-above is_false is_true = refl
bool-above is_false is_false = refl

bool-least : (a b c : BoolType) → lub_bool (lub_bool a b) c ≡ lub_bool a (lub_bool b c)
bool-least any_bool b c = refl
bool-least is_true any_bool c = refl
bool-least is_true is_true any_bool = refl
bool-least is_true is_true is_true = refl
bool-least is_true is_true is_false = refl
bool-least is_true is_false any_bool = refl
bool-least is_true is_false is_true = refl
bool-least is_true is_false is_false = refl
bool-least is_false any_bool c = refl
bool-least is_false is_true any_bool = refl
bool-least is_false is_true is_true = refl
bool-least is_false is_true is_false = refl
bool-least is_false is_false any_bool = refl
bool-least is_false is_false is_true = refl
bool-least is_false is_false is_false = refl

mutual
  pub swap : {t u v : CedarType} → Lub t u v → Lub u t v
  swap (bools a b) = rw (bool-swap a b) (bools b a)
  swap ints = ints
  swap strings = strings
  swap (entities n) = entities n
  swap (sets l) = sets (swap l)
  swap (records l) = records (swap-attrs l)

  swap-attrs : {t u v : RecordType} → LubAttrs t u v → LubAttrs u t v
  swap-attrs nones = nones
  swap-attrs (mores l ls) = mores (swap l) (swap-attrs ls)

mutual
  above : {t u v : CedarType} → Lub t u v → Lub t v v
  above (bools a b) = rw (bool-above a b) at (bools a (lub_bool a b))
  above ints = ints
  above strings = strings
  above (entities n) = entities n
  above (sets l) = sets (above l)
  above (records l) = records (above-attrs l)

  above-attrs : {t u v : RecordType} → LubAttrs t u v → LubAttrs t v v
  above-attrs nones = nones
  above-attrs (mores l ls) = mores (above l) (above-attrs ls)

-- the least type above three, whichever two are taken first
mutual
  three : {t u v w x : CedarType} → Lub t u v → Lub u w x → (y : CedarType) × Lub v w y × Lub t x y
  three (bools a b) (bools _ c) = (bool (lub_bool a (lub_bool b c)), rw (← bool-least a b c) (bools (lub_bool a b) c), bools a (lub_bool b c))
  three ints ints = (int, ints, ints)
  three strings strings = (string, strings, strings)
  three (entities n) (entities _) = (entity n, entities n, entities n)
  three (sets l) (sets m) = let (y, p, q) = three l m in (set y, sets p, sets q)
  three (records l) (records m) = let (y, p, q) = three-attrs l m in (record_of y, records p, records q)

  three-attrs : {t u v w x : RecordType} → LubAttrs t u v → LubAttrs u w x → (y : RecordType) × LubAttrs v w y × LubAttrs t x y
  three-attrs nones nones = (empty, nones, nones)
  three-attrs (mores {a} {r} l ls) (mores m ms) =
      let (y, p, q) = three l m in
      let (ys, ps, qs) = three-attrs ls ms in
      (attr a r y ys, mores p ps, mores q qs)

pub lub-is-least : LubIsLeast
lub-is-least t u v h = let l = lub-rel t u v h in (rel-lub (swap l), rel-lub (above l), rel-lub (above (swap l)), below l)
  where
    below : Lub t u v → (w : CedarType) → lub t w ≡ some w → lub u w ≡ some w → lub v w ≡ some w
    below l w a b = let (y, p, q) = three l (lub-rel u w w b) in rel-lub p ∙ (sym (rel-lub q) ∙ a)
