-- Lists in the order of a key, carried over to items with the same keys. Assumes nothing: these are definitions.
use Rattle.std.specs.Prelude.{◌≡◌, List, map}
use Rattle.std.proofs.Math.Option.{Option, some, none}
use Rattle.spec.specs.Basics.{Text, insert, remove, find, ascending}
use Rattle.spec.specs.Values.{entity_key}
use Rattle.spec.specs.Policies.{policy_key}
use Rattle.shelves.specs.Items.{id_key, uid_key}

abbrev pub on_some : {A B : Type 0} → (A → B) → Option A → Option B
on_some f (some a) = some (f a)
on_some f none = none

-- a function that keeps keys carries insertion, removal, search and order over
abbrev pub CarriesOver : {A B : Type 0} → (A → Text) → (B → Text) → Type 0
CarriesOver {A} {B} key key' =
    (f : A → B) → ((a : A) → key' (f a) ≡ key a) →
    ((a : A) (xs : List A) → map f (insert key a xs) ≡ insert key' (f a) (map f xs))
    × ((t : Text) (xs : List A) → map f (remove key t xs) ≡ remove key' t (map f xs))
    × ((t : Text) (xs : List A) → find key' t (map f xs) ≡ on_some f (find key t xs))
    × ((xs : List A) → ascending key' (map f xs) ≡ ascending key xs)

abbrev pub KeysCarryOver : Type 0
KeysCarryOver = CarriesOver policy_key id_key × CarriesOver entity_key uid_key
