use Rattle.std.proofs.Common.{◌≡◌, [], length, Ok}
use Rattle.capture.specs.Checking.{read_then, verdict}
use Rattle.capture.proofs.checks.check_records.Given as goal

abbrev pub invariant-loop-rest : goal.invariant-loop-rest
invariant-loop-rest l = verdict (read_then 0 l.rest (Ok [])) ≡ verdict (read_then 0 l.bytes (Ok []))

abbrev pub decreases-loop-rest : goal.decreases-loop-rest
decreases-loop-rest l = length l.rest
