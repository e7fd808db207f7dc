-- What is found by its key is any that has the key; and the types of actions.
use Rattle.std.proofs.Common.{◌≡◌, ℕ, Bool, true, false, cond, ◌||◌, List, [], ◌∷◌, drop, sym, refl, ap, ◌∙◌}
use mathlib.Core.Option.{some}
use Rattle.spec.specs.Basics.{Text, same, any, is_some, find}
use Rattle.spec.specs.Bytes.{Bytes}
use Rattle.spec.specs.Values.{EntityUID, code_uid}
use Rattle.wire.specs.Read.{read_text}
use Rattle.schema_order.specs.declared.lists.Listed.TheVariants.{Uids, Actions}
use Rattle.reader.specs.Ends.{Got}
use Rattle.schema_order.specs.Places.{holds, text_at, uid_at, read_item, key_at}
use Rattle.schema_order.proofs.Parts.{uid-parts, action-parts}
use Rattle.schema_order.proofs.Items.{key-uids}

pub find-any : {X : Type 0} (f : X → Text) (t : Text) (xs : List X) → any (λ x. same t (f x)) xs ≡ is_some (find f t xs)
unfolding find
find-any f t [] = refl
find-any f t (x ∷ xs) = go (same t (f x)) (find-any f t xs)
  where
    go : (b : Bool) → any (λ x. same t (f x)) xs ≡ is_some (find f t xs) → (b || any (λ x. same t (f x)) xs) ≡ is_some (cond b (some x) (find f t xs))
    go true ih = refl
    go false ih = ih

-- the name of an entity as a key
pub by-uid : {X : Type 0} (f : X → Text) (bs : Bytes) (at : ℕ) (xs : List X) → Got (read_item Uids (drop at bs)) → any (λ x. same (key_at Uids bs at) (f x)) xs ≡ any (λ x. same (code_uid (uid_at bs at)) (f x)) xs
by-uid f bs at xs h = ap (λ k. any (λ x. same k (f x)) xs) (key-uids bs at h)

-- the type of an action stands where the action does
pub action-type-got : (bs : Bytes) (at : ℕ) → Got (read_item Actions (drop at bs)) → Got (read_text (drop at bs))
action-type-got bs at h = (uid-parts bs at (action-parts bs at h).uid).ty

pub action-type : (bs : Bytes) (at : ℕ) (t : Text) → Got (read_item Actions (drop at bs)) → same t (text_at bs at) ≡ holds (λ a. same t a.uid.ty) (read_item Actions (drop at bs))
action-type bs at t h =
    let w = action-parts bs at h in
    ap (λ (u : EntityUID). same t u.ty) (sym (uid-parts bs at w.uid).is) ∙ sym (ap (holds (λ a. same t a.uid.ty)) w.is)
