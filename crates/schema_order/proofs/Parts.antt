-- What trees are made of, and where their parts stand.
use Rattle.std.proofs.Common.{◌≡◌, ℕ, ◌+◌, Bool, false, List, [], ◌∷◌, drop, sym, refl, ap, ◌∙◌, subst, zero-add}
use mathlib.Core.Option.{Option, some, none}
use Rattle.std.proofs.lemmas.List.{drop-drop}
use Rattle.spec.specs.Basics.{Text}
use Rattle.spec.specs.Bytes.{Bytes}
use Rattle.spec.specs.Values.{EntityUID}
use Rattle.spec.specs.Types.{CedarType, int, empty}
use Rattle.wire.specs.Read.{Read, got, stops, past, turn, follow, nth, got_one, read_text, read_one, read_list}
use Rattle.wire.specs.Grammar.{type, uid, record_type, entity_entry, action_entry, truth, text, node, list, one, more, two, three, choices, fields, make, to_types, read_fields, read_node}
use Rattle.schema_order.specs.declared.lists.Listed.TheVariants.{Names, Uids, Entries, Actions, Attributes}
use Rattle.reader.specs.Ends.{Got, long, ending}
use Rattle.schema_order.specs.Places.{principals_at, resources_at, over_at, context_at, what, text_at, read_uid, uid_at, type_at, read_attribute, read_item, read_many, list_at}

-- ---- two things, one behind another
abbrev pub pair : {X Y : Type 0} → X → Y → X × Y
pair x y = (x, y)

module _ {X Y : Type 0} (r : Bytes → Read X) (s : Bytes → Read Y) (bs : Bytes) (at : ℕ) where
  abbrev both : Read (X × Y)
  both = follow (r (drop at bs)) (drop at bs) (λ x rest. turn (pair x) (s rest))

  abbrev mid : ℕ
  mid = ending at (r (drop at bs))

  second : (x : X) (n : ℕ) (S : Read Y) → Got (past n (turn (pair x) S)) → Got S × ((e : Y) → past n (turn (pair x) S) ≡ got (x, what e S) (n + long S))
  second x n (got y k) h = (tt, λ e. refl)
  second x n (stops k) h = absurd h

  pub both_is : Got both → Got (r (drop at bs)) × Got (s (drop mid bs)) × ((d : X) (e : Y) → both ≡ got (what d (r (drop at bs)), what e (s (drop mid bs))) (long (r (drop at bs)) + long (s (drop mid bs))))
  both_is h = go (r (drop at bs)) h
    where
      go : (R : Read X) → Got (follow R (drop at bs) (λ x rest. turn (pair x) (s rest))) →
          Got R × Got (s (drop (ending at R) bs)) × ((d : X) (e : Y) → follow R (drop at bs) (λ x rest. turn (pair x) (s rest)) ≡ got (what d R, what e (s (drop (ending at R) bs))) (long R + long (s (drop (ending at R) bs))))
      go (got x n) h =
          let P : Bytes → Type 0 = λ ys. Got (past n (turn (pair x) (s ys))) → Got (s (drop (at + n) bs)) × ((e : Y) → past n (turn (pair x) (s ys)) ≡ got (x, what e (s (drop (at + n) bs))) (n + long (s (drop (at + n) bs)))) in
          let w = subst P (sym (drop-drop n at bs)) (second x n (s (drop (at + n) bs))) h in
          (tt, w.0, λ d e. w.1 e)
      go (stops k) h = absurd h

-- a kind of one form
only : {X Y : Type 0} (g : X → Y) (R : Read X) → Got (past 0 (turn g R)) → Got R × ((d : X) → past 0 (turn g R) ≡ got (g (what d R)) (long R))
only g (got x n) h = (tt, λ d. ap (λ m. got (g x) m) (zero-add n))
only g (stops k) h = absurd h

-- ---- names of entities
pub record UidParts (bs : Bytes) (at : ℕ) : Type 0 where
  pub ty : Got (read_text (drop at bs))
  pub eid : Got (read_text (drop (ending at (read_text (drop at bs))) bs))
  pub is : uid_at bs at ≡ record { ty = text_at bs at; eid = text_at bs (ending at (read_text (drop at bs))) }

pub uid-parts : (bs : Bytes) (at : ℕ) → Got (read_uid (drop at bs)) → UidParts bs at
unfolding read_node
uid-parts bs at h =
    let o = only (make uid tt) (read_fields (read_node 64) (two text text) (drop at bs)) h in
    let w = both_is read_text read_text bs at o.0 in
    record { ty = w.0; eid = w.1; is = ap (what (record { ty = []; eid = [] })) (o.1 ([], []) ∙ ap (λ R. got (make uid tt (what ([], []) R)) (long R)) (w.2 [] [])) }

-- ---- attributes
one-long : {X : Type 0} (xs : List X) (bs : Bytes) → Got (read_one xs bs) → long (read_one xs bs) ≡ 1
unfolding read_one
one-long xs [] h = absurd h
one-long xs (b ∷ bs) h = go (nth xs b) h
  where
    go : {X : Type 0} (o : Option X) → Got (got_one o) → long (got_one o) ≡ 1
    go (some x) h = refl
    go none h = absurd h

module _ (h : ℕ) (bs : Bytes) (at : ℕ) where
  abbrev pub name_end : ℕ
  name_end = ending (at + 1) (read_text (drop (at + 1) bs))

  pub record AttributeParts : Type 0 where
    pub name : Got (read_text (drop (at + 1) bs))
    pub body : Got (read_node h type (drop name_end bs))
    pub required : Bool
    pub is : read_attribute h (drop at bs) ≡ got (required, (text_at bs (at + 1), type_at h bs name_end)) (1 + (long (read_text (drop (at + 1) bs)) + long (read_node h type (drop name_end bs))))

  pub attribute-parts : Got (read_attribute h (drop at bs)) → AttributeParts
  attribute-parts g =
      let w = both_is (read_one (choices truth)) (read_fields (read_node h) (two text (node type))) bs at g in
      let b = what false (read_one (choices truth) (drop at bs)) in
      let k = one-long (choices truth) (drop at bs) w.0 in
      let Q : ℕ → Type 0 = λ m. Got (read_fields (read_node h) (two text (node type)) (drop (at + m) bs)) × ((e : Text × CedarType) → read_attribute h (drop at bs) ≡ got (b, what e (read_fields (read_node h) (two text (node type)) (drop (at + m) bs))) (m + long (read_fields (read_node h) (two text (node type)) (drop (at + m) bs)))) in
      let q : Q 1 = subst Q k (w.1, w.2 false) in
      let v = both_is read_text (read_node h type) bs (at + 1) q.0 in
      record { name = v.0; body = v.1; required = b; is = q.1 ([], int) ∙ ap (λ R. got (b, what ([], int) R) (1 + long R)) (v.2 [] int) }

-- ---- records of types
record_is : (bs : Bytes) → read_node 65 record_type bs ≡ turn to_types (read_list (read_attribute 64) 0 bs)
unfolding read_node
record_is bs = past-nothing _
  where
    past-nothing : {X : Type 0} (R : Read X) → past 0 R ≡ R
    past-nothing (got x n) = ap (λ m. got x m) (zero-add n)
    past-nothing (stops n) = ap (λ m. stops m) (zero-add n)

-- the same, where the first thing is made of another
module _ {X X' Y : Type 0} (g : X' → X) (r : Bytes → Read X) (r' : Bytes → Read X') (s : Bytes → Read Y) (bs : Bytes) (at : ℕ) (q : r (drop at bs) ≡ turn g (r' (drop at bs))) where
  abbrev mid' : ℕ
  mid' = ending at (r' (drop at bs))

  turned-is : Got (both r s bs at) → Got (r' (drop at bs)) × Got (s (drop mid' bs)) × ((d : X') (e : Y) → both r s bs at ≡ got (g (what d (r' (drop at bs))), what e (s (drop mid' bs))) (long (r' (drop at bs)) + long (s (drop mid' bs))))
  turned-is h =
      let P : Read X → Type 0 = λ R. Got (follow R (drop at bs) (λ x rest. turn (pair x) (s rest))) in
      let w = go (r' (drop at bs)) (subst P q h) in
      (w.0, w.1, λ d e. ap (λ R. follow R (drop at bs) (λ x rest. turn (pair x) (s rest))) q ∙ w.2 d e)
    where
      go : (R : Read X') → Got (follow (turn g R) (drop at bs) (λ x rest. turn (pair x) (s rest))) →
          Got R × Got (s (drop (ending at R) bs)) × ((d : X') (e : Y) → follow (turn g R) (drop at bs) (λ x rest. turn (pair x) (s rest)) ≡ got (g (what d R), what e (s (drop (ending at R) bs))) (long R + long (s (drop (ending at R) bs))))
      go (got x n) h =
          let P : Bytes → Type 0 = λ ys. Got (past n (turn (pair (g x)) (s ys))) → Got (s (drop (at + n) bs)) × ((e : Y) → past n (turn (pair (g x)) (s ys)) ≡ got (g x, what e (s (drop (at + n) bs))) (n + long (s (drop (at + n) bs)))) in
          let w = subst P (sym (drop-drop n at bs)) (second r s bs at (g x) n (s (drop (at + n) bs))) h in
          (tt, w.0, λ d e. w.1 e)
      go (stops k) h = absurd h

turned : {X Y : Type 0} (g : X → Y) (R : Read X) (S : Read Y) → S ≡ turn g R → Got S → Got R × ((d : X) (e : Y) → what e S ≡ g (what d R))
turned g (got x n) S q h = rw q (tt, λ d e. refl)
turned g (stops k) S q h = absurd (rw q at h)

-- ---- entries of types
module _ (bs : Bytes) (at : ℕ) where
  abbrev pub above_at : ℕ
  above_at = ending at (read_text (drop at bs))

  abbrev pub attrs_at : ℕ
  attrs_at = ending above_at (read_many Names (drop above_at bs))

  abbrev pub tags_at : ℕ
  tags_at = ending attrs_at (read_many (Attributes 64) (drop attrs_at bs))

  pub record EntryParts : Type 0 where
    pub name : Got (read_text (drop at bs))
    pub above : Got (read_many Names (drop above_at bs))
    pub attrs : Got (read_many (Attributes 64) (drop attrs_at bs))
    pub tags : Got (read_list (read_node 65 type) 0 (drop tags_at bs))
    pub size : ℕ
    pub is : read_item Entries (drop at bs) ≡ got (record { name = text_at bs at; ancestors = list_at Names bs above_at; attrs = to_types (list_at (Attributes 64) bs attrs_at); tags = what [] (read_list (read_node 65 type) 0 (drop tags_at bs)) }) size

  pub entry-parts : Got (read_item Entries (drop at bs)) → EntryParts
  unfolding read_node
  entry-parts g =
      let F = read_fields (read_node 65) (fields entity_entry tt) (drop at bs) in
      let G = read_fields (read_node 65) (three (list (one text)) (node record_type) (list (one (node type)))) in
      let H = read_fields (read_node 65) (two (node record_type) (list (one (node type)))) in
      let o = only (make entity_entry tt) F g in
      let u = both_is read_text G bs at o.0 in
      let v = both_is (read_list read_text 0) H bs above_at u.1 in
      let w = turned-is to_types (read_node 65 record_type) (read_many (Attributes 64)) (read_list (read_node 65 type) 0) bs attrs_at (record_is (drop attrs_at bs)) v.1 in
      let l = long (read_text (drop at bs)) in
      let m = long (read_many Names (drop above_at bs)) in
      record {
        name = u.0;
        above = v.0;
        attrs = w.0;
        tags = w.1;
        size = _;
        is = o.1 ([], ([], (empty, []))) ∙ ap (λ R. got (make entity_entry tt (what ([], ([], (empty, []))) R)) (long R)) (u.2 [] ([], (empty, [])))
            ∙ ap (λ R. got (make entity_entry tt (text_at bs at, what ([], (empty, [])) R)) (l + long R)) (v.2 [] (empty, []))
            ∙ ap (λ R. got (make entity_entry tt (text_at bs at, (list_at Names bs above_at, what (empty, []) R))) (l + (m + long R))) (w.2 [] []);
      }

-- ---- entries of actions
module _ (bs : Bytes) (at : ℕ) where
  pub record ActionParts : Type 0 where
    pub uid : Got (read_uid (drop at bs))
    pub principals : Got (read_many Names (drop (principals_at bs at) bs))
    pub resources : Got (read_many Names (drop (resources_at bs at) bs))
    pub above : Got (read_many Uids (drop (over_at bs at) bs))
    pub context : Got (read_many (Attributes 64) (drop (context_at bs at) bs))
    pub size : ℕ
    pub is : read_item Actions (drop at bs) ≡ got (record { uid = uid_at bs at; principals = list_at Names bs (principals_at bs at); resources = list_at Names bs (resources_at bs at); ancestors = list_at Uids bs (over_at bs at); context = to_types (list_at (Attributes 64) bs (context_at bs at)) }) size

  pub action-parts : Got (read_item Actions (drop at bs)) → ActionParts
  unfolding read_node
  action-parts g =
      let nobody : EntityUID = record { ty = []; eid = [] } in
      let F = read_fields (read_node 65) (fields action_entry tt) (drop at bs) in
      let G = read_fields (read_node 65) (more (list (one text)) (three (list (one text)) (list (one (node uid))) (node record_type))) in
      let H = read_fields (read_node 65) (three (list (one text)) (list (one (node uid))) (node record_type)) in
      let K = read_fields (read_node 65) (two (list (one (node uid))) (node record_type)) in
      let o = only (make action_entry tt) F g in
      let u = both_is read_uid G bs at o.0 in
      let v = both_is (read_list read_text 0) H bs (principals_at bs at) u.1 in
      let w = both_is (read_list read_text 0) K bs (resources_at bs at) v.1 in
      let x = both_is (read_many Uids) (read_node 65 record_type) bs (over_at bs at) w.1 in
      let t = turned to_types (read_many (Attributes 64) (drop (context_at bs at) bs)) _ (record_is (drop (context_at bs at) bs)) x.1 in
      let l = long (read_uid (drop at bs)) in
      let m = long (read_many Names (drop (principals_at bs at) bs)) in
      let n = long (read_many Names (drop (resources_at bs at) bs)) in
      let i = uid_at bs at in
      let ps = list_at Names bs (principals_at bs at) in
      let rs = list_at Names bs (resources_at bs at) in
      let us = list_at Uids bs (over_at bs at) in
      record {
        uid = u.0;
        principals = v.0;
        resources = w.0;
        above = x.0;
        context = t.0;
        size = _;
        is = o.1 (nobody, ([], ([], ([], empty)))) ∙ ap (λ R. got (make action_entry tt (what (nobody, ([], ([], ([], empty)))) R)) (long R)) (u.2 nobody ([], ([], ([], empty))))
            ∙ ap (λ R. got (make action_entry tt (i, what ([], ([], ([], empty))) R)) (l + long R)) (v.2 [] ([], ([], empty)))
            ∙ ap (λ R. got (make action_entry tt (i, (ps, what ([], ([], empty)) R))) (l + (m + long R))) (w.2 [] ([], empty))
            ∙ ap (λ R. got (make action_entry tt (i, (ps, (rs, what ([], empty) R)))) (l + (m + (n + long R)))) (x.2 [] empty)
            ∙ ap (λ r. got (make action_entry tt (i, (ps, (rs, (us, r))))) (l + (m + (n + (long (read_many Uids (drop (over_at bs at) bs)) + long (read_node 65 record_type (drop (context_at bs at) bs))))))) (t.1 [] empty);
      }
