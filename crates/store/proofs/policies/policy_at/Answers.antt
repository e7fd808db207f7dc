use Rattle.store.proofs.PolicyChanges.{entry-fits, entry-is}
use Rattle.store.proofs.policies.policy_at.Goals as goal

pub entry_at-requires : goal.entry_at-requires
entry_at-requires c = entry-fits c.args.store.now c.requires.good c.requires.begins.0 c.args.at c.requires.begins.1

pub returns : goal.returns
returns c = λ k b. entry-is c.args.store.now c.requires.good k c.args.at b _ c.entry_at.ensures
