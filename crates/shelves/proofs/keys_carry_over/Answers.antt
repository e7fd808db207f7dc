use Rattle.spec.specs.Values.{entity_key}
use Rattle.spec.specs.Policies.{policy_key}
use Rattle.shelves.specs.Items.{id_key, uid_key}
use Rattle.shelves.proofs.Carried.{carried}
use Rattle.shelves.proofs.keys_carry_over.Goals as goal

pub returns : goal.returns
returns c = (carried policy_key id_key, carried entity_key uid_key)
