-- A call that is refused changes nothing.
use Rattle.std.proofs.Common.{◌≡◌, true, refl}
use mathlib.Core.Option.{Option, some, none}
use Rattle.spec.specs.Basics.{is_some}
use Rattle.spec.specs.Calls.{Call, Store, Refusal, refusal, after_by}
use Rattle.spec.specs.Promises.{RefusedChangesNothing}
use Rattle.laws.proofs.Texts.{false-true}

refused-same : (o : Option Refusal) (s : Store) (c : Call) → is_some o ≡ true → after_by o s c ≡ s
refused-same (some r) s c h = refl
refused-same none s c h = false-true h

pub refused-changes-nothing : RefusedChangesNothing
refused-changes-nothing l s c h = refused-same (refusal l s c) s c h
