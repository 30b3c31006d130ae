use Rattle.std.proofs.Common.{◌≡◌, ◌*◌, ◌++◌, drop}
use Rattle.recorder.specs.Noting.{empty_blocks}
use Rattle.recorder.proofs.opening.fill_empty.Given as goal

abbrev pub invariant-loop-b : goal.invariant-loop-b
invariant-loop-b l = l.buffer ≡ empty_blocks 0 l.b ++ drop (512 * l.b) l.initial.buffer
