-- The first byte of a tree tells of which form it is: the forms of each kind of tree in the order of their numbers. Assumes nothing: these are definitions.

pub data ValueTag : Type 0 where
  bool_tag : ValueTag
  int_tag : ValueTag
  string_tag : ValueTag
  entity_tag : ValueTag
  set_tag : ValueTag
  record_tag : ValueTag

pub data ExprTag : Type 0 where
  bool_tag : ExprTag
  int_tag : ExprTag
  string_tag : ExprTag
  entity_tag : ExprTag
  var_tag : ExprTag
  ite_tag : ExprTag
  and_tag : ExprTag
  or_tag : ExprTag
  not_tag : ExprTag
  neg_tag : ExprTag
  is_empty_tag : ExprTag
  like_tag : ExprTag
  is_tag : ExprTag
  binary_tag : ExprTag
  get_attr_tag : ExprTag
  has_attr_tag : ExprTag
  set_tag : ExprTag
  record_tag : ExprTag

pub data TypeTag : Type 0 where
  bool_tag : TypeTag
  int_tag : TypeTag
  string_tag : TypeTag
  entity_tag : TypeTag
  set_tag : TypeTag
  record_tag : TypeTag

pub data ScopeTag : Type 0 where
  any_tag : ScopeTag
  eq_tag : ScopeTag
  mem_tag : ScopeTag
  is_tag : ScopeTag
  is_mem_tag : ScopeTag

-- the scope of actions: any other scope's form, or one of some
pub data ActionScopeTag : Type 0 where
  scope_tag : ScopeTag → ActionScopeTag
  in_any_tag : ActionScopeTag

pub data CallTag : Type 0 where
  set_schema_tag : CallTag
  put_policy_tag : CallTag
  remove_policy_tag : CallTag
  put_entity_tag : CallTag
  remove_entity_tag : CallTag
  validate_tag : CallTag
  authorize_tag : CallTag
