use Rattle.std.proofs.Common.{ℕ, ◌+◌, ◌-◌, Bool, List, length, sym, subst, arith}
use Rattle.spec.specs.Basics.{Text}
use Rattle.values.specs.Held.{text_at, TextIn}
use Rattle.types.specs.Held.{is_stored, place_of, count_at}
use Rattle.types.proofs.Walks.{name_in}
use Rattle.types.proofs.Finds.{looking-starts, looking-attr, looking-on, looking_found, looking_none}
use Rattle.types.proofs.attributes.attribute.Goals as goal

pub loop-init : goal.loop-init
loop-init c =
    let m : List ℕ = c.args.memory.now.store.now in
    let w : List ℕ = c.args.memory.now.work.now in
    let b : Bool = is_stored c.args.place in
    let n : ℕ = count_at b m w (place_of c.args.place) in
    let e : ℕ = place_of c.args.place + 1 in
    let t : Text = text_at m c.args.name in
    looking-starts m w b t n e (c.count-n.result - 0) (c.at-e.result + 1) (omega (arith, c.count-n.ensures)) (omega (arith, c.at-e.ensures))

pub attr_at-attr-requires : goal.attr_at-attr-requires
attr_at-attr-requires c =
    let m : List ℕ = c.args.memory.now.store.now in
    let w : List ℕ = c.args.memory.now.work.now in
    let b : Bool = is_stored c.args.place in
    let n : ℕ = count_at b m w (place_of c.args.place) in
    let e : ℕ = place_of c.args.place + 1 in
    let t : Text = text_at m c.args.name in
    (looking-attr m w b t n e (c.count-n.result - c.loop.counter) c.loop.e c.requires.attrs.0 (omega (arith, c.loop-test.true)) c.loop.invariant c.requires.attrs.1.each).0

pub same_names-requires-clause-right : goal.same_names-requires-clause-right
same_names-requires-clause-right c =
    let m : List ℕ = c.args.memory.now.store.now in
    let w : List ℕ = c.args.memory.now.work.now in
    let b : Bool = is_stored c.args.place in
    let n : ℕ = count_at b m w (place_of c.args.place) in
    let e : ℕ = place_of c.args.place + 1 in
    let t : Text = text_at m c.args.name in
    subst (TextIn m) (sym c.attr_at-attr.ensures.name) (name_in b m w (length w) c.loop.e (looking-attr m w b t n e (c.count-n.result - c.loop.counter) c.loop.e c.requires.attrs.0 (omega (arith, c.loop-test.true)) c.loop.invariant c.requires.attrs.1.each).0)

pub returns-then-same_names : goal.returns-then-same_names
returns-then-same_names c h a =
    let m : List ℕ = c.args.memory.now.store.now in
    let w : List ℕ = c.args.memory.now.work.now in
    let b : Bool = is_stored c.args.place in
    let n : ℕ = count_at b m w (place_of c.args.place) in
    let e : ℕ = place_of c.args.place + 1 in
    let t : Text = text_at m c.args.name in
    looking_found m w b t n e (c.count-n.result - c.loop.counter) c.loop.e h c.attr_at-attr.result.name c.attr_at-attr.result.required c.attr_at-attr.result.ty (omega (arith, c.loop-test.true)) c.loop.invariant a.each c.attr_at-attr.ensures.name c.attr_at-attr.ensures.required c.attr_at-attr.ensures.ty c.if-same_names.ensures

pub loop-preserved : goal.loop-preserved
loop-preserved c =
    let m : List ℕ = c.args.memory.now.store.now in
    let w : List ℕ = c.args.memory.now.work.now in
    let b : Bool = is_stored c.args.place in
    let n : ℕ = count_at b m w (place_of c.args.place) in
    let e : ℕ = place_of c.args.place + 1 in
    let t : Text = text_at m c.args.name in
    looking-on m w b t n e (c.count-n.result - c.loop.counter) c.loop.e c.attr_at-attr.result.name c.attr_at-attr.result.next (c.count-n.result - (c.loop.counter + 1)) (omega (arith, c.loop-test.true)) c.loop.invariant c.attr_at-attr.ensures.name c.attr_at-attr.ensures.next c.if-same_names.ensures (omega arith)

pub returns : goal.returns
returns c h a =
    let m : List ℕ = c.args.memory.now.store.now in
    let w : List ℕ = c.args.memory.now.work.now in
    let b : Bool = is_stored c.args.place in
    let n : ℕ = count_at b m w (place_of c.args.place) in
    let e : ℕ = place_of c.args.place + 1 in
    let t : Text = text_at m c.args.name in
    looking_none m w b t n e (c.count-n.result - c.loop.counter) c.loop.e h (omega (arith, c.loop-test.false)) c.loop.invariant a.each
