-- Types that are made at the top of the work memory, and what the least type above two leaves there.
use Rattle.std.specs.Prelude.{◌≡◌, ℕ, ◌+◌, ◌<◌, ◌≤◌, List, length, Some, None, Option, slice_index, slice_index_or}
use Rattle.std.proofs.Math.Option as o
use Rattle.spec.specs.Types.{lub}
use Rattle.types.specs.Held.{made_at, decode, Good, made}
use Rattle.types.specs.declared.nodes.CedarType.{CedarType}
use Rattle.types.specs.declared.nodes.CedarType.TheVariants.{Bool as B, Int, String, Entity, Set, Record, MadeSet, MadeRecord}

abbrev pub tag_of : CedarType → ℕ
tag_of (B t) = 0
tag_of Int = 1
tag_of String = 2
tag_of (Entity p) = 3
tag_of (Set p) = 4
tag_of (Record p) = 5
tag_of (MadeSet p) = 6
tag_of (MadeRecord p) = 7

-- what lies below a place is as it was
abbrev pub Keeps : ℕ → List ℕ → List ℕ → Type 0
Keeps t w w' = (i : ℕ) → i < t → slice_index w' i ≡ slice_index w i

-- a type as two numbers at a place, and all else as it was
pub record Laid (w w' : List ℕ) (at : ℕ) (v : CedarType) : Type 0 where
  pub is : made_at w' at ≡ v
  pub before : Keeps at w w'
  pub behind : (i : ℕ) → at + 2 ≤ i → slice_index w' i ≡ slice_index w i

-- a name's place and a type as three numbers at a place, and all else as it was
pub record LaidAttr (w w' : List ℕ) (at n : ℕ) (v : CedarType) : Type 0 where
  pub name : slice_index_or w' at 0 ≡ n
  pub is : made_at w' (at + 1) ≡ v
  pub before : Keeps at w w'
  pub behind : (i : ℕ) → at + 3 ≤ i → slice_index w' i ≡ slice_index w i

-- the least type above two is stored, or made between the old top and the new one, from no more numbers than either was
pub record Joined (h : ℕ) (m w w' : List ℕ) (t t' : ℕ) (v u r : CedarType) : Type 0 where
  pub rises : t ≤ t'
  pub fits : t' ≤ length w'
  pub keeps : Keeps t w w'
  pub few : t' ≤ t + made h w v
  pub fewer : t' ≤ t + made h w u
  pub holds : t + made h w' r ≤ t'
  pub good : Good h m w' t t' r
  pub is : lub (decode h m w v) (decode h m w u) ≡ o.some (decode h m w' r)

abbrev pub Lubbed : ℕ → List ℕ → List ℕ → List ℕ → ℕ → ℕ → CedarType → CedarType → Option CedarType → Type 0
Lubbed h m w w' t t' v u None = (t' ≡ t) × (w' ≡ w) × (lub (decode h m w v) (decode h m w u) ≡ o.none)
Lubbed h m w w' t t' v u (Some r) = Joined h m w w' t t' v u r
