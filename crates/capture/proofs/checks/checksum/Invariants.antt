use Rattle.std.proofs.Common.{◌≡◌, ◌+◌, ◌%◌, ◌<◌, drop}
use Rattle.capture.specs.Checksum.{sum_from}
use Rattle.capture.proofs.checks.checksum.Given as goal

abbrev pub invariant-loop-i : goal.invariant-loop-i
invariant-loop-i l = (l.sum < 65536) × ((l.sum + sum_from l.i (drop l.i l.block)) % 65536 ≡ sum_from 0 l.block % 65536)
