use Rattle.std.proofs.Common.{refl}
use Rattle.capture.specs.Blocks.{sealed}
use Rattle.capture.proofs.laws.worked_blocks_stand.Goals as goal

pub returns : goal.returns
unfolding sealed
returns c = record { lines = refl; empty = refl; two = refl; read = refl; fifth = refl }
