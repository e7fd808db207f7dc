-- What is asked of types in memory holds in one way only: so a struct can keep it.
use Rattle.std.specs.Prelude.{ℕ, zero, suc, Bool, true, false, List}
use Rattle.std.proofs.Math.Bool.{Bool-set}
use Rattle.std.specs.Coded.{Unit-prop, le_prop}
use Rattle.types.specs.Held.{TypeRowIn, AttrIn, next_at, GoodFrom, CountIn, AttrsIn, Sound, Good, decode}
use Rattle.types.specs.declared.nodes.CedarType.{CedarType}
use Rattle.types.specs.declared.nodes.CedarType.TheVariants.{Bool as B, Int, String, Entity, Set, Record, MadeSet, MadeRecord}
use Rattle.spec.specs.Types as s

pub TypeRowIn-prop : (m : List ℕ) (p : ℕ) → IsProp (TypeRowIn m p)
TypeRowIn-prop m p = hlevel le_prop

pub AttrIn-prop : (b : Bool) (m w : List ℕ) (hi e : ℕ) → IsProp (AttrIn b m w hi e)
AttrIn-prop true m w hi e = hlevel (le_prop, TypeRowIn-prop)
AttrIn-prop false m w hi e = hlevel le_prop

module _ (G : CedarType → Type 0) (once : (v : CedarType) → IsProp (G v)) where
  pub GoodFrom-prop : (b : Bool) (m w : List ℕ) (hi n e : ℕ) → IsProp (GoodFrom G b m w hi n e)
  GoodFrom-prop b m w hi zero e = Unit-prop
  GoodFrom-prop b m w hi (suc n) e = hlevel (AttrIn-prop, once, GoodFrom-prop b m w hi n (next_at b m e))

  CountIn-prop : (b : Bool) (m : List ℕ) (hi p : ℕ) → IsProp (CountIn b m hi p)
  CountIn-prop true m hi p = le_prop
  CountIn-prop false m hi p = le_prop

  pub AttrsIn-prop : (b : Bool) (m w : List ℕ) (hi p : ℕ) → IsProp (AttrsIn G b m w hi p)
  AttrsIn-prop b m w hi p = hlevel (CountIn-prop, GoodFrom-prop)

  Sound-prop : (d : CedarType → s.CedarType) (m w : List ℕ) (lo hi : ℕ) (v : CedarType) → IsProp (Sound G d m w lo hi v)
  Sound-prop d m w lo hi (B t) = Unit-prop
  Sound-prop d m w lo hi Int = Unit-prop
  Sound-prop d m w lo hi String = Unit-prop
  Sound-prop d m w lo hi (Entity p) = le_prop
  Sound-prop d m w lo hi (Set p) = hlevel (TypeRowIn-prop, once, Bool-set)
  Sound-prop d m w lo hi (Record p) = hlevel (AttrsIn-prop, Bool-set)
  Sound-prop d m w lo hi (MadeSet p) = hlevel (le_prop, once)
  Sound-prop d m w lo hi (MadeRecord p) = hlevel (le_prop, AttrsIn-prop)

pub Good-prop : (h : ℕ) (m w : List ℕ) (lo hi : ℕ) (v : CedarType) → IsProp (Good h m w lo hi v)
Good-prop zero m w lo hi v = λ x y. absurd x
Good-prop (suc h) m w lo hi v = Sound-prop (Good h m w lo hi) (Good-prop h m w lo hi) (decode h m w) m w lo hi v
