use Rattle.std.proofs.Common.{◌≡◌, ℕ, ◌+◌, ◌-◌, ◌*◌, List, length}
use Rattle.types.specs.Held.{decode, attrs_from, attrs_at, Good, GoodFrom, is_stored, place_of}
use Rattle.types.specs.declared.nodes.CedarType.{CedarType}
use Rattle.types.specs.Matching.{match_attrs}
use Rattle.types.proofs.matching.+matching.Given as goal

abbrev pub decreases-match_attrs : goal.decreases-match_attrs
decreases-match_attrs l = 5 * l.height + 2

abbrev pub decreases-match_element : goal.decreases-match_element
decreases-match_element l = 5 * l.height + 3

abbrev pub decreases-match_kind : goal.decreases-match_kind
decreases-match_kind l = 5 * l.height + 4

abbrev pub decreases-match_record : goal.decreases-match_record
decreases-match_record l = 5 * l.height + 3

abbrev pub decreases-match_types : goal.decreases-match_types
decreases-match_types l = 5 * l.height

-- what is left gives what all gives
abbrev pub invariant-match_attrs-loop : goal.invariant-match_attrs-loop
invariant-match_attrs-loop l =
    let m : List ℕ = l.memory.store.now in
    let w : List ℕ = l.memory.work.now in
    let G : CedarType → Type 0 = Good l.height m w 0 (length w) in
    (match_attrs l.rule (attrs_from (decode l.height m w) (is_stored l.p) m w (l.n - l.counter) l.e) (attrs_from (decode l.height m w) (is_stored l.q) m w (l.n - l.counter) l.f)
    ≡ match_attrs l.rule (attrs_at (decode l.height m w) (is_stored l.p) m w (place_of l.p)) (attrs_at (decode l.height m w) (is_stored l.q) m w (place_of l.q)))
    × GoodFrom G (is_stored l.p) m w (length w) (l.n - l.counter) l.e
    × GoodFrom G (is_stored l.q) m w (length w) (l.n - l.counter) l.f
