-- Things that lie one after the other: how they are read, and what is behind them.
use Rattle.std.specs.Prelude.{◌≡◌, ℕ, zero, suc, ◌+◌, ◌<◌, Bool, List, [], ◌∷◌, length, slice_index}
use Rattle.spec.specs.Basics.{Text}
use Rattle.spec.specs.Values.{EntityUID}
use Rattle.values.specs.Held.{text_at, TextIn, behind_text, uid_at, UIDIn}

-- n things from a place on
abbrev pub list_from : {A : Type 0} → (ℕ → A) → (ℕ → ℕ) → ℕ → ℕ → List A
list_from f next zero e = []
list_from f next (suc n) e = f e ∷ list_from f next n (next e)

-- what is behind them
abbrev pub past : (ℕ → ℕ) → ℕ → ℕ → ℕ
past next zero e = e
past next (suc n) e = past next n (next e)

-- each is as it should be
abbrev pub AllFrom : (ℕ → Type 0) → (ℕ → ℕ) → ℕ → ℕ → Type 0
AllFrom G next zero e = Unit {0}
AllFrom G next (suc n) e = G e × AllFrom G next n (next e)

-- the same behind their number
abbrev pub list_at : {A : Type 0} → (ℕ → A) → (ℕ → ℕ) → List ℕ → ℕ → List A
list_at f next m p = list_from f next (slice_index m p) (p + 1)

abbrev pub behind_list : (ℕ → ℕ) → List ℕ → ℕ → ℕ
behind_list next m p = past next (slice_index m p) (p + 1)

pub record ListIn (G : ℕ → Type 0) (next : ℕ → ℕ) (m : List ℕ) (p : ℕ) : Type 0 where
  pub counts : p < length m
  pub each : AllFrom G next (slice_index m p) (p + 1)

-- ---- texts and names of entities
abbrev pub behind_uid : List ℕ → ℕ → ℕ
behind_uid m e = behind_text m (behind_text m e)

abbrev pub texts_at : List ℕ → ℕ → List Text
texts_at m p = list_at (text_at m) (behind_text m) m p

abbrev pub uids_at : List ℕ → ℕ → List EntityUID
uids_at m p = list_at (uid_at m) (behind_uid m) m p

abbrev pub TextsIn : List ℕ → ℕ → Type 0
TextsIn m p = ListIn (TextIn m) (behind_text m) m p

abbrev pub UIDsIn : List ℕ → ℕ → Type 0
UIDsIn m p = ListIn (UIDIn m) (behind_uid m) m p

-- ---- what the code tests at the places of things that lie there is this test
abbrev pub TestsBy : (ℕ → Type 0) → (ℕ → Bool → Type 0) → (ℕ → Bool) → Type 0
TestsBy G gives t = (e : ℕ) (b : Bool) → G e → gives e b → b ≡ t e
