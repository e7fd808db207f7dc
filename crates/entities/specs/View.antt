-- What is known in an environment, as it lies in a memory. Assumes nothing: these are definitions.
use Rattle.spec.specs.Values as s
use Rattle.entities.specs.Rows.{entities_at}
use Rattle.entities.specs.declared.env.EnvView.{EnvView}

-- the entities that there are
abbrev pub known : EnvView → s.Entities
known v = entities_at v.memory.store.now v.env.entities
