-- The entries of a schema as they lie in the store: the places of what they are made of, what stands there, and what has to.
use Rattle.std.specs.Prelude.{ℕ, zero, suc, Bool, true, ◌&&◌, List, []}
use Rattle.std.specs.Coded.{×_prop, Unit-prop, le_prop}
use Rattle.spec.specs.Basics.{Text, any, same}
use Rattle.spec.specs.Types as s
use Rattle.spec.specs.Types.{RecordType, EntitySchemaEntry, ActionSchemaEntry}
use Rattle.values.specs.Held.{text_at, TextIn, behind_text, uid_at, UIDIn}
use Rattle.types.specs.Held.{row_type_at, next_at, behind_row, attrs_at, decode, TypeRowIn, Good}
use Rattle.types.specs.Once.{TypeRowIn-prop, Good-prop}
use Rattle.types.specs.declared.nodes.CedarType.TheVariants.{Record}
use Rattle.schema_rows.specs.Lists.{list_at, behind_list, AllFrom, ListIn, behind_uid, texts_at, uids_at, TextsIn, UIDsIn}

-- ---- types in a schema are at most so deep
unfoldable pub type_depth : ℕ
type_depth = 64

abbrev pub type_at : List ℕ → ℕ → s.CedarType
type_at m e = decode (suc type_depth) m [] (row_type_at m e)

abbrev pub attr_types_at : List ℕ → ℕ → RecordType
attr_types_at m p = attrs_at (decode type_depth m []) true m [] p

abbrev pub RecordTypeIn : List ℕ → ℕ → Type 0
RecordTypeIn m p = Good (suc type_depth) m [] 0 0 (Record p)

abbrev pub TypeIn : List ℕ → ℕ → Type 0
TypeIn m e = TypeRowIn m e × Good (suc type_depth) m [] 0 0 (row_type_at m e)

abbrev pub TypesIn : List ℕ → ℕ → Type 0
TypesIn m p = ListIn (TypeIn m) (behind_row m) m p

-- ---- the types of entities
abbrev pub entry_attrs : List ℕ → ℕ → ℕ
entry_attrs m e = behind_list (behind_text m) m (behind_text m e)

abbrev pub entry_tags : List ℕ → ℕ → ℕ
entry_tags m e = behind_list (next_at true m) m (entry_attrs m e)

abbrev pub behind_entry : List ℕ → ℕ → ℕ
behind_entry m e = behind_list (behind_row m) m (entry_tags m e)

abbrev pub entry_at : List ℕ → ℕ → EntitySchemaEntry
entry_at m e =
    record { name = text_at m e; ancestors = texts_at m (behind_text m e); attrs = attr_types_at m (entry_attrs m e); tags = list_at (type_at m) (behind_row m) m (entry_tags m e) }

pub record EntryIn (m : List ℕ) (e : ℕ) : Type 0 where
  pub name : TextIn m e
  pub ancestors : TextsIn m (behind_text m e)
  pub attrs : RecordTypeIn m (entry_attrs m e)
  pub tags : TypesIn m (entry_tags m e)

-- ---- the actions
abbrev pub action_resources : List ℕ → ℕ → ℕ
action_resources m e = behind_list (behind_text m) m (behind_uid m e)

abbrev pub action_ancestors : List ℕ → ℕ → ℕ
action_ancestors m e = behind_list (behind_text m) m (action_resources m e)

abbrev pub action_context : List ℕ → ℕ → ℕ
action_context m e = behind_list (behind_uid m) m (action_ancestors m e)

abbrev pub behind_action : List ℕ → ℕ → ℕ
behind_action m e = behind_list (next_at true m) m (action_context m e)

abbrev pub action_at : List ℕ → ℕ → ActionSchemaEntry
action_at m e =
    record {
      uid = uid_at m e;
      principals = texts_at m (behind_uid m e);
      resources = texts_at m (action_resources m e);
      ancestors = uids_at m (action_ancestors m e);
      context = attr_types_at m (action_context m e);
    }

pub record ActionIn (m : List ℕ) (e : ℕ) : Type 0 where
  pub uid : UIDIn m e
  pub principals : TextsIn m (behind_uid m e)
  pub resources : TextsIn m (action_resources m e)
  pub ancestors : UIDsIn m (action_ancestors m e)
  pub context : RecordTypeIn m (action_context m e)

-- an action of the first type, below one of the second
abbrev pub of_below : Text → Text → ActionSchemaEntry → Bool
of_below t u a = same t a.uid.ty && any (λ v. same u v.ty) a.ancestors

-- ---- the lists of both
abbrev pub EntriesIn : List ℕ → ℕ → Type 0
EntriesIn m p = ListIn (EntryIn m) (behind_entry m) m p

abbrev pub ActionsIn : List ℕ → ℕ → Type 0
ActionsIn m p = ListIn (ActionIn m) (behind_action m) m p

-- ---- that they lie there holds in one way only: so a struct can keep it
AllFrom-prop : (G : ℕ → Type 0) → ((e : ℕ) → IsProp (G e)) → (next : ℕ → ℕ) (n e : ℕ) → IsProp (AllFrom G next n e)
AllFrom-prop G once next zero e = Unit-prop
AllFrom-prop G once next (suc n) e = ×_prop (once e) (AllFrom-prop G once next n (next e))

ListIn-prop : (G : ℕ → Type 0) → ((e : ℕ) → IsProp (G e)) → (next : ℕ → ℕ) (m : List ℕ) (p : ℕ) → IsProp (ListIn G next m p)
ListIn-prop G once next m p = hlevel (le_prop, AllFrom-prop G once)

TextsIn-prop : (m : List ℕ) (p : ℕ) → IsProp (TextsIn m p)
TextsIn-prop m p = ListIn-prop (TextIn m) (λ e. le_prop) (behind_text m) m p

UIDsIn-prop : (m : List ℕ) (p : ℕ) → IsProp (UIDsIn m p)
UIDsIn-prop m p = ListIn-prop (UIDIn m) (λ e. ×_prop le_prop le_prop) (behind_uid m) m p

TypesIn-prop : (m : List ℕ) (p : ℕ) → IsProp (TypesIn m p)
TypesIn-prop m p = ListIn-prop (TypeIn m) (λ e. ×_prop (TypeRowIn-prop m e) (Good-prop (suc type_depth) m [] 0 0 (row_type_at m e))) (behind_row m) m p

RecordTypeIn-prop : (m : List ℕ) (p : ℕ) → IsProp (RecordTypeIn m p)
RecordTypeIn-prop m p = Good-prop (suc type_depth) m [] 0 0 (Record p)

EntryIn-prop : (m : List ℕ) (e : ℕ) → IsProp (EntryIn m e)
EntryIn-prop m e = λ x y i. record { name = le_prop x.name y.name i; ancestors = TextsIn-prop _ _ x.ancestors y.ancestors i; attrs = RecordTypeIn-prop _ _ x.attrs y.attrs i; tags = TypesIn-prop _ _ x.tags y.tags i }

ActionIn-prop : (m : List ℕ) (e : ℕ) → IsProp (ActionIn m e)
ActionIn-prop m e = λ x y i. record {
  uid = ×_prop le_prop le_prop x.uid y.uid i;
  principals = TextsIn-prop _ _ x.principals y.principals i;
  resources = TextsIn-prop _ _ x.resources y.resources i;
  ancestors = UIDsIn-prop _ _ x.ancestors y.ancestors i;
  context = RecordTypeIn-prop _ _ x.context y.context i;
}

pub EntriesIn-prop : (m : List ℕ) (p : ℕ) → IsProp (EntriesIn m p)
EntriesIn-prop m p = ListIn-prop (EntryIn m) (EntryIn-prop m) (behind_entry m) m p

pub ActionsIn-prop : (m : List ℕ) (p : ℕ) → IsProp (ActionsIn m p)
ActionsIn-prop m p = ListIn-prop (ActionIn m) (ActionIn-prop m) (behind_action m) m p
