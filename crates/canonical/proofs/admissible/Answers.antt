use Rattle.std.proofs.Common.{◌≡◌, ℕ, Bool, true, false, cond, Some, None, ◌&&◌, leb, sym, refl, ap, ◌∙◌, arith}
use Rattle.std.specs.Option.{is_some}
use Rattle.std.proofs.lemmas.Bool.{le-leb}
use Rattle.spec.specs.Calls.{admissible, canonical_record, size_request}
use Rattle.canonical.specs.Kept.{judged, kept_entity}
use Rattle.reader.proofs.Stood.{is-got}
use Rattle.canonical.proofs.Whole.{carries, entity-told, request-told}
use Rattle.canonical.proofs.admissible.Goals as goal

pub kept_entity-requires : goal.kept_entity-requires
kept_entity-requires c =
    let w = carries c.args.bytes.now c.args.call c.requires in
    let e = entity-told c.args.bytes.now c.args.call w c.in-PutEntity.is in
    (w.inside, is-got _ e.0 e.1 e.3)

pub kept_request-requires : goal.kept_request-requires
kept_request-requires c =
    let w = carries c.args.bytes.now c.args.call c.requires in
    let q = request-told c.args.bytes.now c.args.call w c.in-Authorize.is in
    (w.inside, is-got _ q.0 q.1 q.3)

-- it is there if the test holds
there : (b : Bool) (n : ℕ) → is_some (cond b (Some n) None) ≡ b
there true n = refl
there false n = refl

pub returns-in-PutEntity : goal.returns-in-PutEntity
returns-in-PutEntity c =
    let w = carries c.args.bytes.now c.args.call c.requires in
    let e = entity-told c.args.bytes.now c.args.call w c.in-PutEntity.is in
    c.is_some.ensures ∙ ap is_some (c.kept_entity.ensures ∙ ap (judged kept_entity 1) e.3) ∙ there (kept_entity e.0) _ ∙ sym (ap admissible e.2)

-- a request that is not too large is admissible if its context is as it is kept
and-known : (a b : Bool) → b ≡ true → a ≡ (a && b)
and-known true b e = sym e
and-known false b e = λ _. false

pub returns-then-call-le-MOST_SIZE : goal.returns-then-call-le-MOST_SIZE
returns-then-call-le-MOST_SIZE c =
    let w = carries c.args.bytes.now c.args.call c.requires in
    let q = request-told c.args.bytes.now c.args.call w c.in-Authorize.is in
    let small : leb (size_request q.0) 65536 ≡ true = le-leb _ _ (omega (arith, q.4, c.if-call-le-MOST_SIZE.true)) in
    c.is_some-then-call-le-MOST_SIZE.ensures ∙ ap is_some (c.kept_request.ensures ∙ ap (judged (λ q. canonical_record q.context) 1) q.3) ∙ there (canonical_record q.0.context) _ ∙ and-known _ _ small ∙ sym (ap admissible q.2)
