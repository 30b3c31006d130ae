use Rattle.std.proofs.Common.{refl, ◌∙◌, arith}
use Rattle.recorder.proofs.Laying.{laid}
use Rattle.recorder.proofs.opening.lay.Goals as goal

pub returns : goal.returns
returns c =
    laid c.args.block.now c.copy_from_slice.new.self c.copy_from_slice-2.new.self c.copy_from_slice-3.new.self c.copy_from_slice-4.new.self c.args.before.now c.args.rec.now c.args.number _ _
    c.requires.zeros refl refl (omega arith)
    (c.copy_from_slice.ensures.after ∙ c.to_le_bytes.ensures)
    (c.copy_from_slice-2.ensures.after ∙ c.to_le_bytes-2.ensures)
    c.copy_from_slice-3.ensures.after
    c.copy_from_slice-4.ensures.after
