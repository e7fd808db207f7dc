use Rattle.std.specs.declared.cmp.Ordering.{Ordering}
use Rattle.std.proofs.Common.{◌≡◌, ℕ, ◌+◌, ◌<◌, List, ◌++◌, sym, refl, ap, ◌∙◌, subst, arith}
use Rattle.values.specs.Held.{text_at, TextIn}
use Rattle.values.specs.Order.{order_row}
use Rattle.shelves.specs.Items.{Item, items_at, id_key, IdIn, Shelf}
use Rattle.shelves.proofs.Laid.{place_of}
use Rattle.shelves.proofs.Walks.{Going, one, lies, one_in, less-here, greater-here, next_here, going, new-here, none_left, there-here, id-lies}
use Rattle.shelves.proofs.finding.find_by_text.Goals as goal

-- the text that is compared is the key of the k-th
module _ (store work : List ℕ) (from count key : ℕ) (shelf : Shelf id_key IdIn store from count) (k at : ℕ) (h : k < count) (e : at ≡ place_of from (items_at store from count) k) where
  abbrev kth : Item
  kth = one id_key IdIn store from count (text_at (store ++ work) key) shelf k h

  seen : TextIn (store ++ work) (at + 2) × (text_at (store ++ work) (at + 2) ≡ id_key kth)
  seen =
      id-lies store work at kth (lies id_key IdIn store from count (text_at (store ++ work) key) shelf k h at e) (one_in id_key IdIn store from count (text_at (store ++ work) key) shelf k h)

  told : (o : Ordering) → o ≡ order_row (text_at (store ++ work) key) (text_at (store ++ work) (at + 2)) → order_row (text_at (store ++ work) key) (id_key kth) ≡ o
  told o f = sym (f ∙ ap (order_row (text_at (store ++ work) key)) seen.1)

pub loop-index-init : goal.loop-index-init
loop-index-init c =
    let m : List ℕ = c.args.memory.now.store.now in
    let t : List ℕ = text_at (m ++ c.args.memory.now.work.now) c.args.key in
    going id_key IdIn m c.args.from c.args.count t c.requires.shelf 0 c.args.from (omega arith) tt

pub compare_names-requires : goal.compare_names-requires
compare_names-requires c =
    record {
      left = c.requires.key;
      right = (seen c.args.memory.now.store.now c.args.memory.now.work.now c.args.from c.args.count c.args.key c.requires.shelf c.loop-index.index c.loop-index.at c.loop-index-test.true c.loop-index.invariant.0).0;
    }

pub returns-in-Less : goal.returns-in-Less
returns-in-Less c =
    let m : List ℕ = c.args.memory.now.store.now in
    let t : List ℕ = text_at (m ++ c.args.memory.now.work.now) c.args.key in
    new-here id_key IdIn m c.args.from c.args.count t c.requires.shelf _ (omega arith) c.loop-index.invariant refl
    (less-here id_key IdIn m c.args.from c.args.count t c.requires.shelf c.loop-index.index c.loop-index-test.true
    (told m c.args.memory.now.work.now c.args.from c.args.count c.args.key c.requires.shelf c.loop-index.index c.loop-index.at c.loop-index-test.true c.loop-index.invariant.0 _ c.in-Less.ensures))

pub returns-in-Equal : goal.returns-in-Equal
returns-in-Equal c =
    let m : List ℕ = c.args.memory.now.store.now in
    let t : List ℕ = text_at (m ++ c.args.memory.now.work.now) c.args.key in
    there-here id_key IdIn m c.args.from c.args.count t c.requires.shelf _ c.loop-index-test.true c.loop-index.invariant _ refl c.extent_at.ensures.numbers c.extent_at.ensures.size
    (told m c.args.memory.now.work.now c.args.from c.args.count c.args.key c.requires.shelf c.loop-index.index c.loop-index.at c.loop-index-test.true c.loop-index.invariant.0 _ c.in-Equal.ensures)

pub loop-index-preserved : goal.loop-index-preserved
loop-index-preserved c =
    let m : List ℕ = c.args.memory.now.store.now in
    let t : List ℕ = text_at (m ++ c.args.memory.now.work.now) c.args.key in
    going id_key IdIn m c.args.from c.args.count t c.requires.shelf (c.loop-index.index + 1) _
    (next_here id_key IdIn m c.args.from c.args.count t c.requires.shelf c.loop-index.index c.loop-index-test.true c.loop-index.at c.loop-index.invariant.0)
    (greater-here id_key IdIn m c.args.from c.args.count t c.requires.shelf c.loop-index.index c.loop-index-test.true
    (told m c.args.memory.now.work.now c.args.from c.args.count c.args.key c.requires.shelf c.loop-index.index c.loop-index.at c.loop-index-test.true c.loop-index.invariant.0 _ c.in-Greater.ensures))

pub returns : goal.returns
returns c =
    let m : List ℕ = c.args.memory.now.store.now in
    let t : List ℕ = text_at (m ++ c.args.memory.now.work.now) c.args.key in
    let e : c.loop-index.index ≡ c.args.count = omega arith in
    new-here id_key IdIn m c.args.from c.args.count t c.requires.shelf _ (omega arith)
    (subst (λ k. Going id_key IdIn m c.args.from c.args.count t c.requires.shelf k c.loop-index.at) e c.loop-index.invariant) refl
    (none_left id_key IdIn m c.args.from c.args.count t c.requires.shelf c.args.count (omega arith))
