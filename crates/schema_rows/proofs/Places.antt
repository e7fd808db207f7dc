-- What the lists of a schema's entries are made of can be passed over.
use Rattle.std.proofs.Common.{◌≡◌, ℕ, zero, suc, ◌+◌, true, cond, List, [], ◌∷◌, get_or, Some, sym, refl, ap, subst}
use mathlib.Core.Option.{Option, some}
use Rattle.spec.specs.Basics.{Text, same, find}
use Rattle.spec.specs.Types.{EntitySchemaEntry, ActionSchemaEntry}
use Rattle.types.specs.Held.{next_at, behind_row, TypeRowIn, AttrIn, GoodFrom, Good}
use Rattle.types.specs.declared.nodes.CedarType.{CedarType}
use Rattle.schema_rows.specs.Lists.{AllFrom, ListIn}
use Rattle.schema_rows.specs.Entries.{type_depth, TypeIn, TypesIn, RecordTypeIn, entry_at, EntryIn, action_at, ActionIn}
use Rattle.schema_rows.specs.Read.{EntryIs, EntryFound, ActionIs, ActionFound, first_that}
use Rattle.schema_rows.specs.declared.entries.Entry.{Entry}
use Rattle.schema_rows.specs.declared.entries.Action.{Action}
use Rattle.schema_rows.proofs.Steps.{all_map}

attrs-from : (G : CedarType → Type 0) (m w : List ℕ) (hi n e : ℕ) → GoodFrom G true m w hi n e → AllFrom (AttrIn true m [] 0) (next_at true m) n e
attrs-from G m w hi zero e g = tt
attrs-from G m w hi (suc n) e g = (g.0, attrs-from G m w hi n (next_at true m e) g.2)

pub attrs-list : (m : List ℕ) (p : ℕ) → RecordTypeIn m p → ListIn (AttrIn true m [] 0) (next_at true m) m p
attrs-list m p g = record { counts = g.attrs.counts; each = attrs-from (Good type_depth m [] 0 0) m [] 0 (get_or m p 0) (p + 1) g.attrs.each }

pub types-list : (m : List ℕ) (p : ℕ) → TypesIn m p → ListIn (TypeRowIn m) (behind_row m) m p
types-list m p g = record { counts = g.counts; each = all_map (TypeIn m) (behind_row m) (TypeRowIn m) (λ e x. x.0) (get_or m p 0) (p + 1) g.each }

-- ---- the first that passes, in the words of the definitions
pub find_first : {A : Type 0} (key : A → Text) (t : Text) (xs : List A) → find key t xs ≡ first_that (λ x. same t (key x)) xs
unfolding find
find_first key t [] = refl
find_first key t (x ∷ xs) = ap (λ o. cond (same t (key x)) (some x) o) (find_first key t xs)

-- ---- what was found, by its own place
pub entry_found : (m : List ℕ) (e : ℕ) (r : Entry) (x : Option EntitySchemaEntry) → EntryIs m e r → EntryIn m e → x ≡ some (entry_at m e) → EntryFound m (Some r) x
entry_found m e r x i g h = let q = sym i.name in (subst (λ k. EntryIs m k r) q i, subst (EntryIn m) q g, subst (λ k. x ≡ some (entry_at m k)) q h)

pub action-found : (m : List ℕ) (e : ℕ) (r : Action) (x : Option ActionSchemaEntry) → ActionIs m e r → ActionIn m e → x ≡ some (action_at m e) → ActionFound m (Some r) x
action-found m e r x i g h = let q = sym i.uid in (subst (λ k. ActionIs m k r) q i, subst (ActionIn m) q g, subst (λ k. x ≡ some (action_at m k)) q h)
