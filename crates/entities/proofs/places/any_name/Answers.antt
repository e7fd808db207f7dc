use Rattle.values.specs.Memory.{numbers}
use Rattle.std.proofs.Common.{◌≡◌, ℕ, ◌-◌, ◌<◌, Bool, false, List, refl, subst, arith}
use Rattle.spec.specs.Basics.{any}
use Rattle.values.specs.Held.{UIDIn}
use Rattle.entities.specs.Rows.{uids_at, UIDsIn}
use Rattle.entities.proofs.Ancestry.{Left, left-name, left-found, left-next, left-none}
use Rattle.entities.proofs.places.any_name.Goals as goal

-- the names alone, of which nothing is asked
bare : (m : List ℕ) (p k : ℕ) → UIDsIn m p k → Left m (λ u. false) (any (λ u. false) (uids_at m p k)) p k
bare m p k h = record { names = h; tells = refl }

pub loop-init : goal.loop-init
loop-init g c =
    let m : List ℕ = numbers c.args.memory.now in
    let z : c.args.n ≡ c.args.n - 0 = omega arith in (
      subst (UIDsIn m c.args.first) z c.requires.names,
      λ f t. subst (Left m f (any f (uids_at m c.args.first c.args.n)) c.args.first) z (record { names = c.requires.names; tells = refl }),
    )

pub test-requires : goal.test-requires
test-requires g c =
    let m : List ℕ = numbers c.args.memory.now in
    let k : ℕ = c.args.n - c.loop.counter in
    c.requires.test c.loop.p (left-name m (λ u. false) (any (λ u. false) (uids_at m c.loop.p k)) c.loop.p c.args.n c.loop.counter (bare m c.loop.p k c.loop.invariant.0) (omega (arith, c.loop-test.true)))

pub returns-then-test : goal.returns-then-test
returns-then-test g c =
    let m : List ℕ = numbers c.args.memory.now in
    let k : ℕ = c.args.n - c.loop.counter in
    let l : c.loop.counter < c.args.n = omega (arith, c.loop-test.true) in
    let x : UIDIn m c.loop.p = left-name m (λ u. false) (any (λ u. false) (uids_at m c.loop.p k)) c.loop.p c.args.n c.loop.counter (bare m c.loop.p k c.loop.invariant.0) l in
    λ f t. left-found m f (any f (uids_at m c.args.first c.args.n)) c.loop.p c.args.n c.loop.counter (c.loop.invariant.1 f t) l (t c.loop.p _ x c.if-test.ensures)

pub behind_uid-p-requires : goal.behind_uid-p-requires
behind_uid-p-requires g c =
    let m : List ℕ = numbers c.args.memory.now in
    let k : ℕ = c.args.n - c.loop.counter in
    record { name = left-name m (λ u. false) (any (λ u. false) (uids_at m c.loop.p k)) c.loop.p c.args.n c.loop.counter (bare m c.loop.p k c.loop.invariant.0) (omega (arith, c.loop-test.true)) }

pub loop-preserved : goal.loop-preserved
loop-preserved g c =
    let m : List ℕ = numbers c.args.memory.now in
    let k : ℕ = c.args.n - c.loop.counter in
    let l : c.loop.counter < c.args.n = omega (arith, c.loop-test.true) in
    let B = bare m c.loop.p k c.loop.invariant.0 in
    let says : Bool = any (λ u. false) (uids_at m c.loop.p k) in
    let x : UIDIn m c.loop.p = left-name m (λ u. false) says c.loop.p c.args.n c.loop.counter B l in
    let N = left-next m (λ u. false) says c.loop.p c.args.n c.loop.counter B l refl c.behind_uid-p.result c.behind_uid-p.ensures in (
      N.names,
      λ f t. left-next m f (any f (uids_at m c.args.first c.args.n)) c.loop.p c.args.n c.loop.counter (c.loop.invariant.1 f t) l (t c.loop.p _ x c.if-test.ensures) c.behind_uid-p.result c.behind_uid-p.ensures,
    )

pub returns : goal.returns
returns g c =
    let m : List ℕ = numbers c.args.memory.now in
    λ f t. left-none m f (any f (uids_at m c.args.first c.args.n)) c.loop.p c.args.n c.loop.counter (c.loop.invariant.1 f t) (omega (arith, c.loop-test.false))
