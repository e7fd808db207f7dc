use Rattle.std.proofs.Common.{[], pos, arith}
use Rattle.values.proofs.Examples.{two-wait}
use Rattle.values.proofs.tests.a_set_keeps_a_value_once.Goals as goal

pub make_set-v-requires : goal.make_set-v-requires
make_set-v-requires g c = record {
  room = omega arith;
  fits = omega (arith, c.lay_element.auto.work, c.lay_element-2.auto.work);
  good = two-wait [] _ c.lay_element.new.work c.lay_element-2.new.work (pos 7) (pos 7) c.lay_element.ensures c.lay_element-2.ensures;
}
