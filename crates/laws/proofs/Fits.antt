-- An answer of the evaluator is as the checker's answer says: the relation between the two, and the rules by which they go on together.
use Rattle.std.proofs.Common.{◌≡◌, Bool, true, false, cond, refl}
use Rattle.spec.specs.Basics.{Except, ok, error, ◌>>=◌}
use Rattle.spec.specs.Evaluate.{Error}
use Rattle.spec.specs.Typecheck.{TypeError}
use Rattle.spec.specs.Promises.{is_excused}

-- what comes out, comes out alone
pub ok-is : {A : Type 0} {v w : A} → ◌≡◌ {A = Except Error A} (ok v) (ok w) → v ≡ w
ok-is {A} {v} {w} h = cc

pub came : {A : Type 0} {r : Except Error A} {v w : A} → r ≡ ok v → v ≡ w → r ≡ ok w
came {A} {r} {v} {w} e f = cc

-- the checker refuses; or both give something, and the two are related; or the evaluator fails for what cannot be kept out
pub data Fits {A B : Type 0} (R : A → B → Type 0) : Except TypeError A → Except Error B → Type 0 where
  refused : {e : TypeError} {r : Except Error B} → Fits R (error e) r
  fine : {a : A} {b : B} → R a b → Fits R (ok a) (ok b)
  ends : {T : Except TypeError A} {e : Error} → is_excused e ≡ true → Fits R T (error e)

module _ {A B : Type 0} {R : A → B → Type 0} where
  -- both go on
  pub bind : {C D : Type 0} {S : C → D → Type 0} {T : Except TypeError A} {r : Except Error B} (f : A → Except TypeError C) (g : B → Except Error D) → Fits R T r →
      ((a : A) (b : B) → R a b → r ≡ ok b → Fits S (f a) (g b)) → Fits S (T >>= f) (r >>= g)
  bind f g refused k = refused
  bind f g (fine h) k = k _ _ h refl
  bind f g (ends e) k = ends e

  -- the checker alone goes on
  pub on : {C : Type 0} {S : C → B → Type 0} {T : Except TypeError A} {r : Except Error B} (f : A → Except TypeError C) → Fits R T r →
      ((a : A) (b : B) → R a b → Fits S (f a) (ok b)) → Fits S (T >>= f) r
  on f refused k = refused
  on f (fine h) k = k _ _ h
  on f (ends e) k = ends e

  -- the same where the value is known
  pub then : {C : Type 0} {S : C → B → Type 0} {T : Except TypeError A} {b : B} (f : A → Except TypeError C) → Fits R T (ok b) → ((a : A) → R a b → Fits S (f a) (ok b)) → Fits S (T >>= f) (ok b)
  then f refused k = refused
  then f (fine h) k = k _ h

-- the checker goes on from what the evaluator does not come to
pub beside : {A C D : Type 0} {S : C → D → Type 0} (T : Except TypeError A) {r : Except Error D} (f : A → Except TypeError C) → ((a : A) → Fits S (f a) r) → Fits S (T >>= f) r
beside (ok a) f k = k a
beside (error e) f k = refused

-- the checker tests
pub by-test : {A B : Type 0} {R : A → B → Type 0} (b : Bool) {x y : Except TypeError A} {r : Except Error B} → (b ≡ true → Fits R x r) → (b ≡ false → Fits R y r) → Fits R (cond b x y) r
by-test true f g = f refl
by-test false f g = g refl
