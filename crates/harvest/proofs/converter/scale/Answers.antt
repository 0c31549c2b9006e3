use Rattle.std.proofs.Common.{arith}
use Rattle.harvest.proofs.Laws.{scaled_le}
use Rattle.harvest.proofs.converter.scale.Goals as goal

pub overflow_cast-result : goal.overflow_cast-result
overflow_cast-result c = omega (arith, scaled_le c.from.result c.from-2.result (omega (arith, c.requires)))
