use Rattle.wire.proofs.Reading.{stops-where-it-must}
use Rattle.wire.proofs.stops_where_it_must.Goals as goal

pub returns : goal.returns
returns c = stops-where-it-must
