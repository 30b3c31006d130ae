use Rattle.std.proofs.Common.{◌≡◌, ◌+◌, ◌-◌, ◌≤◌, length}
use Rattle.inspection.specs.Places.{record_from}
use Rattle.inspection.proofs.place.refused_record.Given as goal

abbrev pub invariant-loop-rest : goal.invariant-loop-rest
invariant-loop-rest l =
    record { found : record_from (4 + (length l.bytes - length l.rest)) 0 l.rest ≡ record_from 4 0 l.bytes; within : length l.rest ≤ length l.bytes }

abbrev pub decreases-loop-rest : goal.decreases-loop-rest
decreases-loop-rest l = length l.rest
