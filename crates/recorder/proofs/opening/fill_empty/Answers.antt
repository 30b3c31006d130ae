use Rattle.std.proofs.Common.{◌∙◌}
use Rattle.recorder.proofs.Packing.{fill_more}
use Rattle.recorder.proofs.opening.fill_empty.Goals as goal

pub loop-b-preserved : goal.loop-b-preserved
loop-b-preserved c = fill_more c.loop-b.b c.args.buffer.now c.loop-b.buffer c.copy_from_slice.new.self c.loop-b.invariant (c.copy_from_slice.ensures.after ∙ c.write_block.ensures)
