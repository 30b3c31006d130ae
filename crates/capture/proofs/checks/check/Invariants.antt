use Rattle.std.proofs.Common.{◌≡◌, ◌-◌, ◌*◌, ◌/◌, length, drop}
use Rattle.capture.specs.Checking.{read_from, verdict}
use Rattle.capture.proofs.checks.check.Given as goal

abbrev pub invariant-loop-number : goal.invariant-loop-number
invariant-loop-number l = verdict (read_from l.number (length l.bytes / 512 - l.number) (drop (512 * l.number) l.bytes)) ≡ verdict (read_from 0 (length l.bytes / 512) l.bytes)
