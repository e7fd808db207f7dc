-- Which of two comes first, as the code tells it: by parts. The order of values is that of their code rows; that both say the same is proved.
use Rattle.std.specs.Ordering.{ordering_then, nat_cmp, bool_cmp}
use Rattle.std.specs.Cmp.Lexicographic.{slice_cmp}
use Rattle.std.specs.declared.cmp.Ordering.{Ordering}
use Rattle.std.specs.declared.cmp.Ordering.TheVariants.{Less, Equal, Greater}
use Rattle.std.specs.Prelude.{cond, length}
use Rattle.spec.specs.Basics.{Text}
use Rattle.spec.specs.Values.{EntityUID, Primitive, bool, int, string, entity_uid, Value, prim, set, record_of, Values, nil, cons, Attrs, empty, attr, less_value, same_value}

-- the order of two values, in the words of the definitions
abbrev pub order_by_code : Value → Value → Ordering
order_by_code v w = cond (less_value v w) Less (cond (same_value v w) Equal Greater)

-- texts by their bytes: so are the names of a record kept
abbrev pub order_row : Text → Text → Ordering
order_row s t = slice_cmp nat_cmp s t

-- texts by their lengths, and then by their bytes: so do they stand in code rows
abbrev pub order_text : Text → Text → Ordering
order_text s t = ordering_then (nat_cmp (length s) (length t)) (order_row s t)

abbrev pub order_uid : EntityUID → EntityUID → Ordering
order_uid u w = ordering_then (order_text u.ty w.ty) (order_text u.eid w.eid)

abbrev pub order_prim : Primitive → Primitive → Ordering
order_prim (bool a) (bool b) = bool_cmp a b
order_prim (bool a) (int n) = Less
order_prim (bool a) (string t) = Less
order_prim (bool a) (entity_uid u) = Less
order_prim (int m) (bool b) = Greater
order_prim (int m) (int n) = nat_cmp m n
order_prim (int m) (string t) = Less
order_prim (int m) (entity_uid u) = Less
order_prim (string s) (bool b) = Greater
order_prim (string s) (int n) = Greater
order_prim (string s) (string t) = order_text s t
order_prim (string s) (entity_uid u) = Less
order_prim (entity_uid w) (bool b) = Greater
order_prim (entity_uid w) (int n) = Greater
order_prim (entity_uid w) (string t) = Greater
order_prim (entity_uid w) (entity_uid u) = order_uid w u

abbrev mutual
  pub order_value : Value → Value → Ordering
  order_value (prim p) (prim q) = order_prim p q
  order_value (prim p) (set ws) = Less
  order_value (prim p) (record_of s) = Less
  order_value (set vs) (prim q) = Greater
  order_value (set vs) (set ws) = order_values vs ws
  order_value (set vs) (record_of s) = Less
  order_value (record_of r) (prim q) = Greater
  order_value (record_of r) (set ws) = Greater
  order_value (record_of r) (record_of s) = order_attrs r s

  pub order_values : Values → Values → Ordering
  order_values nil nil = Equal
  order_values nil (cons w ws) = Less
  order_values (cons v vs) nil = Greater
  order_values (cons v vs) (cons w ws) = ordering_then (order_value v w) (order_values vs ws)

  pub order_attrs : Attrs → Attrs → Ordering
  order_attrs empty empty = Equal
  order_attrs empty (attr b w s) = Less
  order_attrs (attr a v r) empty = Greater
  order_attrs (attr a v r) (attr b w s) = ordering_then (order_text a b) (ordering_then (order_value v w) (order_attrs r s))
