-- A call that sets a schema is its entries of types, and behind them those of actions.
use Rattle.std.proofs.Common.{◌≡◌, ℕ, ◌+◌, Bool, true, false, cond, eqb, [], ◌∷◌, length, drop, sym, refl, ap, ◌∙◌, subst}
use mathlib.Core.Option.{Option, some, none}
use Rattle.std.proofs.lemmas.Bool.{true≢false, false≢true}
use Rattle.spec.specs.Bytes.{Bytes}
use Rattle.spec.specs.Validate.{well_formed}
use Rattle.spec.specs.Calls.{Call, malformed}
use Rattle.wire.specs.Read.{Read, got, stops, past, turn, follow, nth, got_one, read_one}
use Rattle.wire.specs.Tags.{CallTag, set_schema_tag, put_policy_tag, remove_policy_tag, put_entity_tag, remove_entity_tag, validate_tag, authorize_tag}
use Rattle.wire.specs.Grammar.{Contents, call_tags, call_fields, make_call, read_fields, read_node, call_height, read_call, whole, decode}
use Rattle.schema_order.specs.declared.lists.Listed.TheVariants.{Entries, Actions}
use Rattle.reader.specs.Ends.{Got, ending}
use Rattle.schema_order.specs.Places.{what, is_schema, schema_of, read_many, schema_at, Stands}
use Rattle.schema_order.proofs.Parts.{both_is}

-- what a call of a number is made of
made-whole : (n : ℕ) (g : CallTag) (F : Read (Contents (call_fields g))) → is_schema (whole n (past 1 (turn (make_call g) F))) ≡ true → Got F × ((d : Contents (call_fields g)) → whole n (past 1 (turn (make_call g) F)) ≡ make_call g (what d F))
made-whole n g (got x k) h = (tt, λ d. go (eqb (1 + k) n) h)
  where
    go : (b : Bool) → is_schema (cond b (make_call g x) (malformed (1 + k))) ≡ true → cond b (make_call g x) (malformed (1 + k)) ≡ make_call g x
    go true h = refl
    go false h = absurd (false≢true h)
made-whole n g (stops k) h = absurd (false≢true h)

-- other calls set no schema
other : (n : ℕ) (g : CallTag) (F : Read (Contents (call_fields g))) → ((x : Contents (call_fields g)) → is_schema (make_call g x) ≡ false) → is_schema (whole n (past 1 (turn (make_call g) F))) ≡ true → ⊥
other n g (got x k) e h = go (eqb (1 + k) n) h
  where
    go : (b : Bool) → is_schema (cond b (make_call g x) (malformed (1 + k))) ≡ true → ⊥
    go true h = true≢false (sym h ∙ e x)
    go false h = false≢true h
other n g (stops k) e h = false≢true h

-- ---- the schema
abbrev pub actions_at : Bytes → ℕ
actions_at bs = ending 1 (read_many Entries (drop 1 bs))

module _ (bs : Bytes) where
  abbrev inside : (g : CallTag) → Read (Contents (call_fields g))
  inside g = read_fields (read_node call_height) (call_fields g) (drop 1 bs)

  abbrev read_as : Option CallTag → Read Call
  read_as o = follow (got_one o) bs (λ g rest. turn (make_call g) (read_fields (read_node call_height) (call_fields g) rest))

  by-tag : (n : ℕ) (o : Option CallTag) → is_schema (whole n (read_as o)) ≡ true → Stands bs (actions_at bs) × (schema_at bs (actions_at bs) ≡ schema_of (whole n (read_as o)))
  by-tag n (some set_schema_tag) h =
      let m = made-whole n set_schema_tag (inside set_schema_tag) h in
      let w = both_is (read_many Entries) (read_many Actions) bs 1 m.0 in
      ((w.0, w.1), sym (ap schema_of (m.1 ([], [])) ∙ ap (λ R. schema_of (make_call set_schema_tag (what ([], []) R))) (w.2 [] [])))
  by-tag n (some put_policy_tag) h = absurd (other n put_policy_tag (inside put_policy_tag) (λ x. refl) h)
  by-tag n (some remove_policy_tag) h = absurd (other n remove_policy_tag (inside remove_policy_tag) (λ x. refl) h)
  by-tag n (some put_entity_tag) h = absurd (other n put_entity_tag (inside put_entity_tag) (λ x. refl) h)
  by-tag n (some remove_entity_tag) h = absurd (other n remove_entity_tag (inside remove_entity_tag) (λ x. refl) h)
  by-tag n (some validate_tag) h = absurd (other n validate_tag (inside validate_tag) (λ x. refl) h)
  by-tag n (some authorize_tag) h = absurd (other n authorize_tag (inside authorize_tag) (λ x. refl) h)
  by-tag n none h = absurd (false≢true h)

pub schema-is : (bs : Bytes) → is_schema (decode bs) ≡ true → Stands bs (actions_at bs) × (schema_at bs (actions_at bs) ≡ schema_of (decode bs))
unfolding decode read_call read_one
schema-is [] h = absurd (false≢true h)
schema-is (b ∷ rest) h = by-tag (b ∷ rest) (length (b ∷ rest)) (nth call_tags b) h

module _ (bs : Bytes) (h : is_schema (decode bs) ≡ true) (actions : ℕ) (e : actions ≡ actions_at bs) where
  pub stands_at : Stands bs actions
  stands_at = subst (Stands bs) (sym e) (schema-is bs h).0

  pub well-at : well_formed (schema_at bs actions) ≡ well_formed (schema_of (decode bs))
  well-at = ap (λ k. well_formed (schema_at bs k)) e ∙ ap well_formed (schema-is bs h).1
