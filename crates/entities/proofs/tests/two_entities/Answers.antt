use Rattle.entities.proofs.Examples.{the-entities, the-request}
use Rattle.entities.proofs.tests.two_entities.Goals as goal

pub read_request-request-requires : goal.read_request-request-requires
read_request-request-requires g c = record { all = the-entities; row = the-request }

pub invariant_of-view : goal.invariant_of-view
invariant_of-view g c = record { all = the-entities; asked = c.read_request-request.ensures.holds }

pub find-requires : goal.find-requires
find-requires g c = record { all = the-entities; name = c.read_request-request.ensures.holds.resource.name }

pub mem-requires : goal.mem-requires
mem-requires g c = record { left = c.read_request-request.ensures.holds.principal.name; right = c.read_request-request.ensures.holds.resource.name }

pub mem-requires-2 : goal.mem-requires-2
mem-requires-2 g c = record { left = c.read_request-request.ensures.holds.resource.name; right = c.read_request-request.ensures.holds.principal.name }
