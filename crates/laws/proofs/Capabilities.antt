-- What capabilities say: that an attribute of what an expression comes to, or a tag, is there.
use Rattle.std.proofs.Common.{◌≡◌, Bool, true, false, cond, ◌||◌, [], ◌∷◌, ◌++◌, refl, inl, inr}
use Rattle.std.proofs.lemmas.Bool.{or_cases, or_left, or_right}
use Rattle.spec.specs.Basics.{ok}
use Rattle.spec.specs.Values.{Value, Entities, Request}
use Rattle.spec.specs.Exprs.{has_tag}
use Rattle.spec.specs.Evaluate.{of_bool, apply2, has_attr_of, evaluate}
use Rattle.spec.specs.Typecheck.{Capability, attr_of, tag_of, Capabilities, same_capability, has, meet}
use Rattle.laws.proofs.Texts.{false-true, yes_true}

abbrev pub There : Request → Entities → Capability → Type 0
There q es (attr_of x a) = (v : Value) → evaluate x q es ≡ ok v → has_attr_of v a es ≡ ok (of_bool true)
There q es (tag_of x y) = (v w : Value) → evaluate x q es ≡ ok v → evaluate y q es ≡ ok w → apply2 has_tag v w es ≡ ok (of_bool true)

pub record Holds (q : Request) (es : Entities) (c : Capabilities) : Type 0 where
  pub there : (k : Capability) → has k c ≡ true → There q es k

has_meet : (c d : Capabilities) (k : Capability) → has k (meet c d) ≡ true → (has k c ≡ true) × (has k d ≡ true)
has_meet [] d k h = false-true h
has_meet (l ∷ c) d k h = go (has l d) refl (has_meet c d k) h
  where
    go : (b : Bool) → has l d ≡ b → (has k (meet c d) ≡ true → (has k c ≡ true) × (has k d ≡ true)) → has k (cond b (l ∷ meet c d) (meet c d)) ≡ true →
        ((same_capability k l || has k c) ≡ true) × (has k d ≡ true)
    go true e ih h = elim (or_cases (same_capability k l) (has k (meet c d)) h) [ inl s ↦ (or_left _ _ s, rw (yes_true _ s) e) | inr m ↦ (or_right _ _ (ih m).0, (ih m).1) ]
    go false e ih h = (or_right _ _ (ih h).0, (ih h).1)

module _ {q : Request} {es : Entities} where
  pub holds-none : Holds q es []
  holds-none = record { there = λ k h. false-true h }

  pub holds-one : (k : Capability) → There q es k → Holds q es (k ∷ [])
  holds-one k t = record { there = λ l h. elim (or_cases (same_capability l k) false h) [ inl e ↦ rw (yes_true _ e) t | inr f ↦ false-true f ] }

  pub holds-both : {c d : Capabilities} → Holds q es c → Holds q es d → Holds q es (c ++ d)
  holds-both {c} {d} hc hd = record { there = go c hc.there }
    where
      go : (c : Capabilities) → ((k : Capability) → has k c ≡ true → There q es k) → (k : Capability) → has k (c ++ d) ≡ true → There q es k
      go [] f k h = hd.there k h
      go (l ∷ c) f k h = elim (or_cases (same_capability k l) (has k (c ++ d)) h) [ inl e ↦ f k (or_left _ _ e) | inr m ↦ go c (λ j g. f j (or_right _ _ g)) k m ]

  pub holds-left : {c : Capabilities} (d : Capabilities) → Holds q es c → Holds q es (meet c d)
  holds-left {c} d h = record { there = λ k m. h.there k (has_meet c d k m).0 }

  pub holds-right : (c : Capabilities) {d : Capabilities} → Holds q es d → Holds q es (meet c d)
  holds-right c {d} h = record { there = λ k m. h.there k (has_meet c d k m).1 }
