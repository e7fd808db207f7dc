use Rattle.std.proofs.Common.{rules}
use Rattle.std.proofs.lemmas.List.{get_or_append_left, get_or-append_right, length-append}
use Rattle.values.proofs.memory.Memory.word.Goals as goal

pub bounds-work-at : goal.bounds-work-at
bounds-work-at c = let l = length-append c.args.self.now.store.now c.args.self.now.work.now in search rules

pub returns-then-at-store : goal.returns-then-at-store
returns-then-at-store c = search (rules, get_or_append_left)

pub returns-else-at-store : goal.returns-else-at-store
returns-else-at-store c = search (rules, get_or-append_right)

pub offset_bounds-work-at : goal.offset_bounds-work-at
offset_bounds-work-at c = let l = length-append c.args.self.now.store.now c.args.self.now.work.now in search rules
