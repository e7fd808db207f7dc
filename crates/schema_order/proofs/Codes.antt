-- The order and the sameness of names of entities, by their parts.
use Rattle.std.proofs.Common.{◌≡◌, ℕ, ◌<◌, Bool, true, false, ◌&&◌, ◌||◌, eqb, ltb, [], ◌∷◌, ◌++◌, length, drop, sym, refl, ap, ◌∙◌, ⊎_elim, arith}
use Rattle.std.proofs.lemmas.Bool.{true≢false, cases_order, lt-ltb, le-ltb, eq-eqb, ne_eqb}
use Rattle.spec.specs.Basics.{Text, same, less}
use Rattle.spec.specs.Bytes.{Bytes}
use Rattle.spec.specs.Values.{code_text, code_uid, same_uid}
use Rattle.laws.proofs.Texts.{same_true}
use Rattle.laws.proofs.Older.{same-by-parts}
use Rattle.wire.specs.Read.{read_text}
use Rattle.reader.specs.Ends.{Got, ending}
use Rattle.schema_order.specs.Places.{text_at, read_uid, uid_at}
use Rattle.schema_order.proofs.Parts.{uid-parts}

-- ---- the shorter text comes first
pub code-shorter : (t u : Text) → length t < length u → true ≡ less (code_text t) (code_text u)
unfolding less
code-shorter t u h = rw (lt-ltb (length t) (length u) h)

pub code-longer : (t u : Text) → length u < length t → false ≡ less (code_text t) (code_text u)
unfolding less
code-longer t u h = rw (le-ltb (length t) (length u) (omega arith), ne_eqb (length t) (length u) (λ e. omega arith))

pub code-even : (t u : Text) → length t ≡ length u → less t u ≡ less (code_text t) (code_text u)
unfolding less
code-even t u h = rw (le-ltb (length t) (length u) (omega arith), eq-eqb (length t) (length u) h)

pub code-as : (t u first second : Text) (x : Bool) → t ≡ first → u ≡ second → x ≡ less (code_text first) (code_text second) → x ≡ less (code_text t) (code_text u)
code-as t u first second x p q e = rw (p, q) e

-- what is the same in front doesn't decide
less-behind : (t r s : Text) → less (t ++ r) (t ++ s) ≡ less r s
unfolding less
less-behind [] r s = refl
less-behind (x ∷ t) r s = rw (le-ltb x x (omega arith), eq-eqb x x refl) (less-behind t r s)

-- where it differs it decides
less-before : (t u r s : Text) → length t ≡ length u → same t u ≡ false → less (t ++ r) (u ++ s) ≡ less t u
unfolding less same
less-before [] [] r s l d = absurd (true≢false d)
less-before [] (y ∷ u) r s l d = absurd (omega arith)
less-before (x ∷ t) [] r s l d = absurd (omega arith)
less-before (x ∷ t) (y ∷ u) r s l d = go (eqb x y) (same t u) d (λ e. less-before t u r s (omega arith) e)
  where
    go : (b c : Bool) → (b && c) ≡ false → (c ≡ false → less (t ++ r) (u ++ s) ≡ less t u) → (ltb x y || (b && less (t ++ r) (u ++ s))) ≡ (ltb x y || (b && less t u))
    go true c d f = ap (λ z. ltb x y || z) (f d)
    go false c d f = refl

pub uid-agree : (t u r s : Text) → same t u ≡ true → less (code_text t ++ r) (code_text u ++ s) ≡ less r s
uid-agree t u r s e = ap (λ z. less (code_text t ++ r) (code_text z ++ s)) (sym (same_true t u e)) ∙ less-behind (code_text t) r s

pub uid-differ : (t u r s : Text) → same t u ≡ false → less (code_text t ++ r) (code_text u ++ s) ≡ less (code_text t) (code_text u)
unfolding less
uid-differ t u r s d =
    ⊎_elim
    (λ e. ap (λ z. ltb (length t) (length u) || (eqb (length t) (length u) && z)) (less-before t u r s e d))
    (λ h. ⊎_elim (λ l. rw (lt-ltb (length t) (length u) l)) (λ l. rw (le-ltb (length t) (length u) (omega arith), ne_eqb (length t) (length u) (λ q. omega arith))) h)
    (cases_order (length t) (length u))

-- ---- names at places
by_parts : (bs : Bytes) (a b : ℕ) → Got (read_uid (drop a bs)) → Got (read_uid (drop b bs)) →
    same_uid (uid_at bs a) (uid_at bs b) ≡ (same (text_at bs a) (text_at bs b) && same (text_at bs (ending a (read_text (drop a bs)))) (text_at bs (ending b (read_text (drop b bs)))))
by_parts bs a b g h = ap (λ u. same_uid u (uid_at bs b)) (uid-parts bs a g).is ∙ ap (same_uid _) (uid-parts bs b h).is ∙ same-by-parts _ _

module _ (bs : Bytes) (a b : ℕ) (g : Got (read_uid (drop a bs))) (h : Got (read_uid (drop b bs))) (x : Bool) where
  pub types-decide : same (text_at bs a) (text_at bs b) ≡ false → x ≡ less (code_text (text_at bs a)) (code_text (text_at bs b)) → x ≡ less (code_uid (uid_at bs a)) (code_uid (uid_at bs b))
  types-decide d e = rw ((uid-parts bs a g).is, (uid-parts bs b h).is) (e ∙ sym (uid-differ (text_at bs a) (text_at bs b) _ _ d))

  pub types-differ : same (text_at bs a) (text_at bs b) ≡ false → false ≡ same_uid (uid_at bs a) (uid_at bs b)
  types-differ d = ap (λ z. z && same (text_at bs (ending a (read_text (drop a bs)))) (text_at bs (ending b (read_text (drop b bs))))) (sym d) ∙ sym (by_parts bs a b g h)

  module _ (i j : ℕ) (p : i ≡ ending a (read_text (drop a bs))) (q : j ≡ ending b (read_text (drop b bs))) (t : same (text_at bs a) (text_at bs b) ≡ true) where
    pub ids-decide : x ≡ less (code_text (text_at bs i)) (code_text (text_at bs j)) → x ≡ less (code_uid (uid_at bs a)) (code_uid (uid_at bs b))
    ids-decide e =
        rw ((uid-parts bs a g).is, (uid-parts bs b h).is)
        (e ∙ ap (λ k. less (code_text (text_at bs k)) (code_text (text_at bs j))) p ∙ ap (λ k. less (code_text (text_at bs (ending a (read_text (drop a bs))))) (code_text (text_at bs k))) q ∙ sym (uid-agree (text_at bs a) (text_at bs b) _ _ t))

    pub ids-agree : x ≡ same (text_at bs i) (text_at bs j) → x ≡ same_uid (uid_at bs a) (uid_at bs b)
    ids-agree e =
        e ∙ ap (λ k. same (text_at bs k) (text_at bs j)) p ∙ ap (λ k. same (text_at bs (ending a (read_text (drop a bs)))) (text_at bs k)) q
        ∙ ap (λ z. z && same (text_at bs (ending a (read_text (drop a bs)))) (text_at bs (ending b (read_text (drop b bs))))) (sym t) ∙ sym (by_parts bs a b g h)
