use Rattle.laws.proofs.Authorization.{order-and-duplicates-dont-matter}
use Rattle.laws.proofs.order_and_duplicates_dont_matter.Goals as goal

pub returns : goal.returns
returns c = order-and-duplicates-dont-matter
