-- Two types that are of one form but for their truths, of which a rule says what goes together. That two have a least type above them, that one is below
-- the other, and that they are the same, are three such rules: that is proved.
use Rattle.std.specs.Prelude.{◌≡◌, Bool, true, false, ◌&&◌}
use Rattle.spec.specs.Basics.{is_some, same}
use Rattle.spec.specs.Types as s
use Rattle.spec.specs.Types.{any_bool, is_true, is_false, bool, int, string, entity, set, record_of, RecordType, empty, attr, same_bool, lub_bool, lub, subty, same_type}
use Rattle.types.specs.declared.matching.Rule.{Rule}
use Rattle.types.specs.declared.matching.Rule.TheVariants.{Joins, Below, Same}

abbrev pub same_bool_type : s.BoolType → s.BoolType → Bool
same_bool_type any_bool any_bool = true
same_bool_type any_bool is_true = false
same_bool_type any_bool is_false = false
same_bool_type is_true any_bool = false
same_bool_type is_true is_true = true
same_bool_type is_true is_false = false
same_bool_type is_false any_bool = false
same_bool_type is_false is_true = false
same_bool_type is_false is_false = true

abbrev pub match_bool : Rule → s.BoolType → s.BoolType → Bool
match_bool Joins a b = true
match_bool Below a b = same_bool_type (lub_bool a b) b
match_bool Same a b = same_bool_type a b

abbrev mutual
  pub match_type : Rule → s.CedarType → s.CedarType → Bool
  match_type f (bool a) (bool b) = match_bool f a b
  match_type f (bool a) int = false
  match_type f (bool a) string = false
  match_type f (bool a) (entity n) = false
  match_type f (bool a) (set u) = false
  match_type f (bool a) (record_of us) = false
  match_type f int (bool b) = false
  match_type f int int = true
  match_type f int string = false
  match_type f int (entity n) = false
  match_type f int (set u) = false
  match_type f int (record_of us) = false
  match_type f string (bool b) = false
  match_type f string int = false
  match_type f string string = true
  match_type f string (entity n) = false
  match_type f string (set u) = false
  match_type f string (record_of us) = false
  match_type f (entity m) (bool b) = false
  match_type f (entity m) int = false
  match_type f (entity m) string = false
  match_type f (entity m) (entity n) = same m n
  match_type f (entity m) (set u) = false
  match_type f (entity m) (record_of us) = false
  match_type f (set t) (bool b) = false
  match_type f (set t) int = false
  match_type f (set t) string = false
  match_type f (set t) (entity n) = false
  match_type f (set t) (set u) = match_type f t u
  match_type f (set t) (record_of us) = false
  match_type f (record_of ts) (bool b) = false
  match_type f (record_of ts) int = false
  match_type f (record_of ts) string = false
  match_type f (record_of ts) (entity n) = false
  match_type f (record_of ts) (set u) = false
  match_type f (record_of ts) (record_of us) = match_attrs f ts us

  pub match_attrs : Rule → RecordType → RecordType → Bool
  match_attrs f empty empty = true
  match_attrs f empty (attr b s u us) = false
  match_attrs f (attr a r t ts) empty = false
  match_attrs f (attr a r t ts) (attr b s u us) = (same a b && same_bool r s) && (match_type f t u && match_attrs f ts us)

-- ---- the rules say what the definitions say
abbrev pub RulesTell : Type 0
RulesTell =
    ((t u : s.CedarType) → is_some (lub t u) ≡ match_type Joins t u)
    × ((t u : s.CedarType) → subty t u ≡ match_type Below t u)
    × ((t u : s.CedarType) → same_type t u ≡ match_type Same t u)
