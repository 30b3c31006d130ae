use Rattle.std.proofs.Common.{length}
use Rattle.capture.specs.Feeds.{left}
use Rattle.capture_tests.proofs.run_case.Given as goal

abbrev pub decreases-loop-record : goal.decreases-loop-record
decreases-loop-record l = length (left l.record-iterator)
