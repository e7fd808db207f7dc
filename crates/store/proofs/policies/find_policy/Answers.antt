use Rattle.store.proofs.PolicyChanges.{shelf, found}
use Rattle.store.proofs.policies.find_policy.Goals as goal

pub find_by_text-requires : goal.find_by_text-requires
find_by_text-requires c = record { shelf = shelf c.args.memory.now.store.now c.requires.good _ c.header_of-header.ensures.says; key = c.requires.key }

pub returns : goal.returns
returns c = found c.args.memory.now.store.now c.requires.good _ c.header_of-header.ensures.says _ _ c.find_by_text.ensures
