use Rattle.std.proofs.Common.{◌≡◌, ◌-◌, ◌*◌, ◌/◌, min, length, drop}
use Rattle.inspection.specs.Places.{block_from}
use Rattle.inspection.proofs.place.refused_block.Given as goal

abbrev pub invariant-loop-number : goal.invariant-loop-number
invariant-loop-number l =
    block_from l.number (min (length l.bytes / 512) 4096 - l.number) (drop (512 * l.number) l.bytes)
    ≡ block_from 0 (min (length l.bytes / 512) 4096) l.bytes
