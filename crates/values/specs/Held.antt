-- What a value of the running code stands for: in a memory, to a height.
-- A set's node is `[length, count, (tag, payload)*, ..]`, a record's `[length, count, (name, tag, payload)*, ..]`. In a node that is stored the first number
-- is its length, and what it holds lies at offsets from the node itself; in one that was made on the way it is 0, and what it holds lies at places of the memory.
use Rattle.std.specs.declared.cmp.Ordering.TheVariants.{Less}
use Rattle.std.specs.Prelude.{◌≡◌, ℕ, zero, suc, ◌+◌, ◌-◌, ◌*◌, ◌<◌, ◌≤◌, false, cond, List, [], length, take, drop, ℤ, pos, negsuc, Some, None, Option, ◌==◌, nat_lt, slice_index}
use Rattle.std.proofs.Math.Option as o
use Rattle.spec.specs.Basics.{Text}
use Rattle.spec.specs.Values as s
use Rattle.spec.specs.Values.{EntityUID, bool, int, string, entity_uid, prim, set, record_of, Values, nil, cons, Attrs, empty, attr}
use Rattle.values.specs.Order.{order_row, order_value}
use Rattle.values.specs.declared.nodes.Value.{Value}
use Rattle.values.specs.declared.nodes.Value.TheVariants.{Bool as B, Int, String, Entity, Set, Record}

-- ---- texts and names of entities
-- n numbers from a place on
abbrev pub part : List ℕ → ℕ → ℕ → List ℕ
part m p n = take n (drop p m)

-- a text is its length and then its bytes, and it lies in the memory as a whole
abbrev pub text_at : List ℕ → ℕ → Text
text_at m p = part m (p + 1) (slice_index m p)

abbrev pub TextIn : List ℕ → ℕ → Type 0
TextIn m p = p + 1 + slice_index m p ≤ length m

-- an entity's name is two texts: its type and its id
abbrev pub behind_text : List ℕ → ℕ → ℕ
behind_text m p = p + 1 + slice_index m p

abbrev pub uid_at : List ℕ → ℕ → EntityUID
uid_at m p = record { ty = text_at m p; eid = text_at m (behind_text m p) }

abbrev pub UIDIn : List ℕ → ℕ → Type 0
UIDIn m p = TextIn m p × TextIn m (behind_text m p)

-- ---- integers: the definitions and the memory have them 2^63 higher
abbrev pub raised : ℤ → ℕ
raised (pos n) = n + 9223372036854775808
raised (negsuc n) = 9223372036854775807 - n

abbrev pub lowered : ℕ → ℤ
lowered x = cond (nat_lt x 9223372036854775808) (negsuc (9223372036854775807 - x)) (pos (x - 9223372036854775808))

-- ---- nodes
-- where the offsets of a node count from
abbrev pub base : List ℕ → ℕ → ℕ
base m p = cond (slice_index m p == 0) 0 p

abbrev pub count : List ℕ → ℕ → ℕ
count m p = slice_index m (p + 1)

-- the value that a tag and a payload are
abbrev pub value_of : ℕ → ℕ → ℕ → Value
value_of b t x =
    cond (t == 0) (B (x == 1))
    (cond (t == 1) (Int (lowered x))
    (cond (t == 2) (String (b + x))
    (cond (t == 3) (Entity (b + x))
    (cond (t == 4) (Set (b + x))
    (Record (b + x))))))

abbrev pub element_at : List ℕ → ℕ → ℕ → Value
element_at m p k = value_of (base m p) (slice_index m (p + 2 + 2 * k)) (slice_index m (p + 2 + 2 * k + 1))

abbrev pub name_at : List ℕ → ℕ → ℕ → ℕ
name_at m p k = base m p + slice_index m (p + 2 + 3 * k)

abbrev pub attr_at : List ℕ → ℕ → ℕ → Value
attr_at m p k = value_of (base m p) (slice_index m (p + 2 + 3 * k + 1)) (slice_index m (p + 2 + 3 * k + 2))

-- where a value lies
abbrev pub place : Value → ℕ
place (B b) = 0
place (Int z) = 0
place (String p) = p
place (Entity p) = p
place (Set p) = p
place (Record p) = p

-- ---- what values stand for
-- n values, or attributes, from the k-th on
abbrev pub run : (ℕ → s.Value) → ℕ → ℕ → Values
run f k zero = nil
run f k (suc n) = cons (f k) (run f (k + 1) n)

abbrev pub run_attrs : (ℕ → Text) → (ℕ → s.Value) → ℕ → ℕ → Attrs
run_attrs a f k zero = empty
run_attrs a f k (suc n) = attr (a k) (f k) (run_attrs a f (k + 1) n)

abbrev pub values_at : (Value → s.Value) → List ℕ → ℕ → Values
values_at d m p = run (λ k. d (element_at m p k)) 0 (count m p)

abbrev pub attrs_at : (Value → s.Value) → List ℕ → ℕ → Attrs
attrs_at d m p = run_attrs (λ k. text_at m (name_at m p k)) (λ k. d (attr_at m p k)) 0 (count m p)

abbrev pub means : (Value → s.Value) → List ℕ → Value → s.Value
means d m (B b) = prim (bool b)
means d m (Int z) = prim (int (raised z))
means d m (String p) = prim (string (text_at m p))
means d m (Entity p) = prim (entity_uid (uid_at m p))
means d m (Set p) = set (values_at d m p)
means d m (Record p) = record_of (attrs_at d m p)

abbrev pub decode : ℕ → List ℕ → Value → s.Value
decode zero m v = prim (bool false)
decode (suc h) m v = means (decode h m) m v

-- ---- which values are good: what they hold lies in the memory, is good, and is in order
pub record SetIn (G : Value → Type 0) (d : Value → s.Value) (m : List ℕ) (p : ℕ) : Type 0 where
  pub fits : p + 2 + 2 * count m p ≤ length m
  pub each : (k : ℕ) → k < count m p → G (element_at m p k)
  pub rising : (i j : ℕ) → i < j → j < count m p → order_value (d (element_at m p i)) (d (element_at m p j)) ≡ Less

pub record RecordIn (G : Value → Type 0) (m : List ℕ) (p : ℕ) : Type 0 where
  pub fits : p + 2 + 3 * count m p ≤ length m
  pub names : (k : ℕ) → k < count m p → TextIn m (name_at m p k)
  pub rising : (i j : ℕ) → i < j → j < count m p → order_row (text_at m (name_at m p i)) (text_at m (name_at m p j)) ≡ Less
  pub each : (k : ℕ) → k < count m p → G (attr_at m p k)

abbrev pub Sound : (Value → Type 0) → (Value → s.Value) → List ℕ → Value → Type 0
Sound G d m (B b) = Unit {0}
Sound G d m (Int z) = Unit {0}
Sound G d m (String p) = TextIn m p
Sound G d m (Entity p) = UIDIn m p
Sound G d m (Set p) = SetIn G d m p
Sound G d m (Record p) = RecordIn G m p

abbrev pub Good : ℕ → List ℕ → Value → Type 0
Good zero m v = ⊥
Good (suc h) m v = Sound (Good h m) (decode h m) m v

-- a value that is good and stands for what it should
pub record Stands (h : ℕ) (m : List ℕ) (v : Value) (x : s.Value) : Type 0 where
  pub good : Good h m v
  pub is : decode h m v ≡ x

-- the elements of a set and the attributes of a record; nothing else has any
abbrev pub elements_of : s.Value → List s.Value
elements_of (prim p) = []
elements_of (set vs) = s.elements vs
elements_of (record_of r) = []

abbrev pub fields_of : s.Value → List (Text × s.Value)
fields_of (prim p) = []
fields_of (set vs) = []
fields_of (record_of r) = s.fields r

-- what is found, or nothing
abbrev pub Found : ℕ → List ℕ → Option Value → o.Option s.Value → Type 0
Found h m (Some v) x = (x ≡ o.some (decode h m v)) × Good h m v
Found h m None x = x ≡ o.none
