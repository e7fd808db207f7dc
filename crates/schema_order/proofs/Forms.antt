-- Types at a place, by the byte that tells of which form they are.
use Rattle.std.proofs.Common.{◌≡◌, ℕ, zero, suc, ◌+◌, ◌-◌, ◌<◌, Bool, true, false, cond, ◌&&◌, eqb, leb, List, [], ◌∷◌, length, get_or, drop, sym, refl, ap, ◌∙◌, subst, ⊎_elim, arith}
use mathlib.Core.Option.{some, none as nothing}
use Rattle.std.proofs.lemmas.Bool.{cases_lt, lt-leb}
use Rattle.std.proofs.lemmas.List.{drop_more, drop_all}
use Rattle.spec.specs.Basics.{name, all, less, ascending}
use Rattle.spec.specs.Bytes.{Bytes}
use Rattle.spec.specs.Types.{any_bool, CedarType, bool, int, entity, set, record_of, attributes, Schema}
use Rattle.spec.specs.Validate.{well_formed_type, well_formed_attrs}
use Rattle.wire.specs.Read.{Read, got, stops, past, turn, follow, got_one, read_text, read_one, read_list}
use Rattle.wire.specs.Tags.{bool_tag, entity_tag, set_tag, record_tag}
use Rattle.wire.specs.Grammar.{type, bool_type, choices, make_type, to_types, type_fields, read_tag_of, read_fields, read_node}
use Rattle.schema_order.specs.declared.lists.Listed.TheVariants.{Attributes}
use Rattle.reader.specs.Ends.{Got}
use Rattle.schema_order.specs.Places.{what, holds, Ends, read_item, text_at, type_at, types_at, Attribute, read_attribute, read_many, list_at}
use Rattle.schema_order.proofs.Parts.{pair, attribute-parts, name_end}
use Rattle.schema_order.proofs.Steps.{step, none, head}

-- ---- what is made of one thing
turn_one : {X Y : Type 0} (f : X → Y) (R : Read X) (S : Read Y) → S ≡ past 1 (turn f R) → Got S → Got R × ((d : X) (e : Y) → what e S ≡ f (what d R))
turn_one f (got x n) S q h = rw q (tt, λ d e. refl)
turn_one f (stops k) S q h = absurd (rw q at h)

turn_two : {X Z Y : Type 0} (f : Z → Y) (g : X → Z) (R : Read X) (S : Read Y) → S ≡ past 1 (turn f (past 0 (turn g R))) → Got S → Got R × ((d : X) (e : Y) → what e S ≡ f (g (what d R)))
turn_two f g (got x n) S q h = rw q (tt, λ d e. refl)
turn_two f g (stops k) S q h = absurd (rw q at h)

-- ---- the forms
bool-form : (h : ℕ) (rest : Bytes) → read_node (suc h) type (0 ∷ rest) ≡ past 1 (turn (make_type bool_tag) (past 0 (turn (pair tt) (read_one (choices bool_type) rest))))
unfolding read_node read_tag_of
bool-form h rest = refl

entity-form : (h : ℕ) (rest : Bytes) → read_node (suc h) type (3 ∷ rest) ≡ past 1 (turn (make_type entity_tag) (read_text rest))
unfolding read_node read_tag_of
entity-form h rest = refl

set-form : (h : ℕ) (rest : Bytes) → Got (read_node (suc h) type (4 ∷ rest)) → read_node (suc h) type (4 ∷ rest) ≡ past 1 (turn (make_type set_tag) (past 0 (turn (pair tt) (read_node h type rest))))
unfolding read_node read_tag_of
set-form h rest g = go (eqb h 0) g
  where
    go : (b : Bool) → Got (follow (got_one (cond b nothing (some set_tag))) (4 ∷ rest) (λ g rest. turn (make_type g) (read_fields (read_node h) (type_fields g) rest))) →
        follow (got_one (cond b nothing (some set_tag))) (4 ∷ rest) (λ g rest. turn (make_type g) (read_fields (read_node h) (type_fields g) rest)) ≡ past 1 (turn (make_type set_tag) (past 0 (turn (pair tt) (read_node h type rest))))
    go true g = absurd g
    go false g = refl

record-form : (h : ℕ) (rest : Bytes) → Got (read_node (suc h) type (5 ∷ rest)) → read_node (suc h) type (5 ∷ rest) ≡ past 1 (turn (make_type record_tag) (past 0 (turn (pair tt) (read_list (read_attribute h) 0 rest))))
unfolding read_node read_tag_of
record-form h rest g = go (eqb h 0) g
  where
    go : (b : Bool) → Got (follow (got_one (cond b nothing (some record_tag))) (5 ∷ rest) (λ g rest. turn (make_type g) (read_fields (read_node h) (type_fields g) rest))) →
        follow (got_one (cond b nothing (some record_tag))) (5 ∷ rest) (λ g rest. turn (make_type g) (read_fields (read_node h) (type_fields g) rest)) ≡ past 1 (turn (make_type record_tag) (past 0 (turn (pair tt) (read_list (read_attribute h) 0 rest))))
    go true g = absurd g
    go false g = refl

-- every other byte stands for a number or a text, or for nothing
leaf-form : (h b : ℕ) (rest : Bytes) (s : Schema) → Got (read_node (suc h) type (b ∷ rest)) → (b ≡ 0 → ⊥) → (b ≡ 3 → ⊥) → (b ≡ 4 → ⊥) → (b ≡ 5 → ⊥) → true ≡ well_formed_type (what int (read_node (suc h) type (b ∷ rest))) s
unfolding read_node read_tag_of
leaf-form h zero rest s g n0 n3 n4 n5 = absurd (n0 refl)
leaf-form h (suc zero) rest s g n0 n3 n4 n5 = refl
leaf-form h (suc (suc zero)) rest s g n0 n3 n4 n5 = refl
leaf-form h (suc (suc (suc zero))) rest s g n0 n3 n4 n5 = absurd (n3 refl)
leaf-form h (suc (suc (suc (suc zero)))) rest s g n0 n3 n4 n5 = absurd (n4 refl)
leaf-form h (suc (suc (suc (suc (suc zero))))) rest s g n0 n3 n4 n5 = absurd (n5 refl)
leaf-form h (suc (suc (suc (suc (suc (suc b)))))) rest s g n0 n3 n4 n5 = absurd g

no-form : (h b : ℕ) (rest : Bytes) → Got (read_node (suc h) type (b ∷ rest)) → 5 < b → ⊥
unfolding read_node read_tag_of
no-form h zero rest g l = omega arith
no-form h (suc zero) rest g l = omega arith
no-form h (suc (suc zero)) rest g l = omega arith
no-form h (suc (suc (suc zero))) rest g l = omega arith
no-form h (suc (suc (suc (suc zero)))) rest g l = omega arith
no-form h (suc (suc (suc (suc (suc zero))))) rest g l = omega arith
no-form h (suc (suc (suc (suc (suc (suc b)))))) rest g l = g

no-type : (h : ℕ) → Got (read_node h type []) → ⊥
unfolding read_node read_tag_of
no-type zero g = g
no-type (suc h) g = g

no-height : (bs : Bytes) → Got (read_node 0 type bs) → ⊥
unfolding read_node
no-height bs g = g

-- ---- a truth may be either
bool-byte : (b : ℕ) (rest : Bytes) (s : Schema) → Got (read_one (choices bool_type) (b ∷ rest)) → eqb b 0 ≡ well_formed_type (bool (what any_bool (read_one (choices bool_type) (b ∷ rest)))) s
unfolding read_one
bool-byte zero rest s g = refl
bool-byte (suc zero) rest s g = refl
bool-byte (suc (suc zero)) rest s g = refl
bool-byte (suc (suc (suc b))) rest s g = absurd g

no-choice : {X : Type 0} (xs : List X) → Got (read_one xs []) → ⊥
unfolding read_one
no-choice xs g = g

-- ---- at a place
module _ (bs : Bytes) (at : ℕ) where
  begins : (b : ℕ) → at < length bs → get_or bs at 0 ≡ b → drop at bs ≡ b ∷ drop (at + 1) bs
  begins b l e = drop_more bs at 0 l ∙ ap (λ c. c ∷ drop (at + 1) bs) e

  pub type-inside : (h : ℕ) → Got (read_node h type (drop at bs)) → at < length bs
  type-inside h g = ⊎_elim (λ l. l) (λ l. absurd (no-type h (subst (λ (ys : Bytes). Got (read_node h type ys)) (drop_all at bs l) g))) (cases_lt at (length bs))

  pub type-height : (h : ℕ) → Got (read_node h type (drop at bs)) → 0 < h
  type-height zero g = absurd (no-height (drop at bs) g)
  type-height (suc h) g = omega arith

  pub told-form : (h : ℕ) → Got (read_node h type (drop at bs)) → 5 < get_or bs at 0 → ⊥
  told-form zero g l = no-height (drop at bs) g
  told-form (suc h) g l = no-form h (get_or bs at 0) (drop (at + 1) bs) (subst (λ (ys : Bytes). Got (read_node (suc h) type ys)) (drop_more bs at 0 (type-inside (suc h) g)) g) l

  choice-inside : Got (read_one (choices bool_type) (drop at bs)) → at < length bs
  choice-inside g = ⊎_elim (λ l. l) (λ l. absurd (no-choice (choices bool_type) (subst (λ (ys : Bytes). Got (read_one (choices bool_type) ys)) (drop_all at bs l) g))) (cases_lt at (length bs))

module _ (bs : Bytes) (at : ℕ) (s : Schema) where
  pub bool-view : (h : ℕ) → Got (read_node h type (drop at bs)) → get_or bs at 0 ≡ 0 → (at + 1 < length bs) × (eqb (get_or bs (at + 1) 0) 0 ≡ well_formed_type (type_at h bs at) s)
  bool-view zero g e = absurd (no-height (drop at bs) g)
  bool-view (suc h) g e =
      let q = ap (read_node (suc h) type) (begins bs at 0 (type-inside bs at (suc h) g) e) ∙ bool-form h (drop (at + 1) bs) in
      let w = turn_two (make_type bool_tag) (pair tt) (read_one (choices bool_type) (drop (at + 1) bs)) _ q g in
      (choice-inside bs (at + 1) w.0, choice-either-at w.0 ∙ sym (ap (λ t. well_formed_type t s) (w.1 any_bool int)))
    where
      choice-either-at : Got (read_one (choices bool_type) (drop (at + 1) bs)) → eqb (get_or bs (at + 1) 0) 0 ≡ well_formed_type (bool (what any_bool (read_one (choices bool_type) (drop (at + 1) bs)))) s
      choice-either-at g =
          let q = drop_more bs (at + 1) 0 (choice-inside bs (at + 1) g) in
          bool-byte (get_or bs (at + 1) 0) (drop (at + 1 + 1) bs) s (subst (λ (ys : Bytes). Got (read_one (choices bool_type) ys)) q g) ∙ ap (λ ys. well_formed_type (bool (what any_bool (read_one (choices bool_type) ys))) s) (sym q)

  pub leaf-view : (h : ℕ) → Got (read_node h type (drop at bs)) → (get_or bs at 0 ≡ 0 → ⊥) → (get_or bs at 0 ≡ 3 → ⊥) → (get_or bs at 0 ≡ 4 → ⊥) → (get_or bs at 0 ≡ 5 → ⊥) → true ≡ well_formed_type (type_at h bs at) s
  leaf-view zero g n0 n3 n4 n5 = absurd (no-height (drop at bs) g)
  leaf-view (suc h) g n0 n3 n4 n5 =
      let q = drop_more bs at 0 (type-inside bs at (suc h) g) in
      leaf-form h (get_or bs at 0) (drop (at + 1) bs) s (subst (λ (ys : Bytes). Got (read_node (suc h) type ys)) q g) n0 n3 n4 n5 ∙ ap (λ ys. well_formed_type (what int (read_node (suc h) type ys)) s) (sym q)

module _ (bs : Bytes) (at : ℕ) where
  pub entity-view : (h : ℕ) → Got (read_node h type (drop at bs)) → get_or bs at 0 ≡ 3 → Got (read_text (drop (at + 1) bs)) × (type_at h bs at ≡ entity (text_at bs (at + 1)))
  entity-view zero g e = absurd (no-height (drop at bs) g)
  entity-view (suc h) g e =
      let q = ap (read_node (suc h) type) (begins bs at 3 (type-inside bs at (suc h) g) e) ∙ entity-form h (drop (at + 1) bs) in
      let w = turn_one (make_type entity_tag) (read_text (drop (at + 1) bs)) _ q g in
      (w.0, w.1 [] int)

  pub set_view : (h : ℕ) → Got (read_node h type (drop at bs)) → get_or bs at 0 ≡ 4 → Got (read_node (h - 1) type (drop (at + 1) bs)) × (type_at h bs at ≡ set (type_at (h - 1) bs (at + 1)))
  set_view zero g e = absurd (no-height (drop at bs) g)
  set_view (suc h) g e =
      let p : suc h - 1 ≡ h = omega arith in
      let b = begins bs at 4 (type-inside bs at (suc h) g) e in
      let q = ap (read_node (suc h) type) b ∙ set-form h (drop (at + 1) bs) (subst (λ (ys : Bytes). Got (read_node (suc h) type ys)) b g) in
      let w = turn_two (make_type set_tag) (pair tt) (read_node h type (drop (at + 1) bs)) _ q g in
      let P : ℕ → Type 0 = λ m. Got (read_node m type (drop (at + 1) bs)) × (type_at (suc h) bs at ≡ set (type_at m bs (at + 1))) in
      subst P (sym p) (w.0, w.1 int int)

  pub record-view : (h : ℕ) → Got (read_node h type (drop at bs)) → get_or bs at 0 ≡ 5 → Got (read_many (Attributes (h - 1)) (drop (at + 1) bs)) × (type_at h bs at ≡ record_of (to_types (list_at (Attributes (h - 1)) bs (at + 1))))
  record-view zero g e = absurd (no-height (drop at bs) g)
  record-view (suc h) g e =
      let p : suc h - 1 ≡ h = omega arith in
      let b = begins bs at 5 (type-inside bs at (suc h) g) e in
      let q = ap (read_node (suc h) type) b ∙ record-form h (drop (at + 1) bs) (subst (λ (ys : Bytes). Got (read_node (suc h) type ys)) b g) in
      let w = turn_two (make_type record_tag) (pair tt) (read_list (read_attribute h) 0 (drop (at + 1) bs)) _ q g in
      let P : ℕ → Type 0 = λ m. Got (read_many (Attributes m) (drop (at + 1) bs)) × (type_at (suc h) bs at ≡ record_of (to_types (list_at (Attributes m) bs (at + 1)))) in
      subst P (sym p) (w.0, w.1 [] int)

-- ---- records: the names are in order, and each type is well-formed
names-rise : (fs : List Attribute) → ascending (λ f. f.1.0) fs ≡ ascending name (attributes (to_types fs))
unfolding ascending
names-rise [] = refl
names-rise (f ∷ []) = refl
names-rise (f ∷ (g ∷ gs)) = ap (λ b. less f.1.0 g.1.0 && b) (names-rise (g ∷ gs))

types-fit : (s : Schema) (fs : List Attribute) → all (λ f. well_formed_type f.1.1 s) fs ≡ well_formed_attrs (to_types fs) s
types-fit s [] = refl
types-fit s (f ∷ fs) = ap (λ b. well_formed_type f.1.1 s && b) (types-fit s fs)

pub record-fits : (s : Schema) (fs : List Attribute) (a b : Bool) → a ≡ ascending (λ f. f.1.0) fs → b ≡ all (λ f. well_formed_type f.1.1 s) fs → (a && b) ≡ well_formed_type (record_of (to_types fs)) s
record-fits s fs a b p q = rw (p ∙ names-rise fs, q ∙ types-fit s fs)

pub attribute-type : (bs : Bytes) (at h e : ℕ) (s : Schema) → Got (read_item (Attributes h) (drop at bs)) → e ≡ name_end h bs at → well_formed_type (type_at h bs e) s ≡ holds (λ f. well_formed_type f.1.1 s) (read_item (Attributes h) (drop at bs))
attribute-type bs at h e s g q = ap (λ k. well_formed_type (type_at h bs k) s) q ∙ sym (ap (holds (λ f. well_formed_type f.1.1 s)) (attribute-parts h bs at g).is)

-- ---- the type of tags: one at most
module _ (bs : Bytes) (at : ℕ) (s : Schema) (g : Got (read_list (read_node 65 type) 0 (drop at bs))) where
  pub no-tags : (get_or bs at 0 ≡ 1 → ⊥) → true ≡ (leb (length (types_at bs at)) 1 && all (λ t. well_formed_type t s) (types_at bs at))
  no-tags n = rw (none (read_node 65 type) bs at g n)

  module _ (o : get_or bs at 0 ≡ 1) (e : ℕ) (w : Ends (length bs) (at + 1) (read_node 65 type (drop (at + 1) bs)) e) where
    two-tags : (t : CedarType) (ts us : List CedarType) → types_at bs at ≡ t ∷ ts → (u : CedarType) → ts ≡ u ∷ us → false ≡ (leb (length (types_at bs at)) 1 && all (λ t. well_formed_type t s) (types_at bs at))
    two-tags t ts us p u q = rw (p, q) (sym (ap (λ b. b && all (λ t. well_formed_type t s) (t ∷ (u ∷ us))) (lt-leb (length (t ∷ (u ∷ us))) 1 (omega arith))))

    pub more-tags : get_or bs e 0 ≡ 1 → false ≡ (leb (length (types_at bs at)) 1 && all (λ t. well_formed_type t s) (types_at bs at))
    more-tags o' =
        let v = step (read_node 65 type) bs at g o e w in
        let x = head (read_node 65 type) bs e v.rest o' in
        two-tags v.item _ x.2 v.is x.0 x.4

    pub one_tag : (get_or bs e 0 ≡ 1 → ⊥) → (b : Bool) → b ≡ well_formed_type (type_at 65 bs (at + 1)) s → b ≡ (leb (length (types_at bs at)) 1 && all (λ t. well_formed_type t s) (types_at bs at))
    one_tag n b q =
        let v = step (read_node 65 type) bs at g o e w in
        let k : types_at bs at ≡ v.item ∷ [] = v.is ∙ ap (λ ts. v.item ∷ ts) (ap (what []) (none (read_node 65 type) bs e v.rest n)) in
        q ∙ ap (λ t. well_formed_type t s) (ap (what int) v.first) ∙ last (well_formed_type v.item s) ∙ sym (ap (λ ts. leb (length ts) 1 && all (λ t. well_formed_type t s) ts) k)
      where
        last : (b : Bool) → b ≡ (b && true)
        last true = refl
        last false = refl
