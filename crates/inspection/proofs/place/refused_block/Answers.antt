use Rattle.std.proofs.Common.{◌/◌, min, length, sym, ◌∙◌, arith}
use Rattle.std.proofs.lemmas.List.{length-take}
use Rattle.std.proofs.lemmas.Bool.{cond-true, cond-false}
use Rattle.inspection.proofs.Finding.{block_at, asked}
use Rattle.inspection.proofs.place.refused_block.Goals as goal

pub returns-then-is_err-clause-value : goal.returns-then-is_err-clause-value
returns-then-is_err-clause-value c =
    let xs = c.args.bytes.now in
    let b = c.loop-number.number in
    let k = min (length xs / 512) 4096 in
    let l = length-take c.min.result c.as_chunks.result.0.now in
    let t = asked xs c.as_chunks.result.0.now c.min.result b c.is_err.result c.check_block.result (omega arith) (omega arith) c.as_chunks.ensures.front c.is_err.ensures.value c.check_block.ensures in
    sym (cond-true _ b _ (t ∙ c.if-is_err.true)) ∙ (sym (block_at xs k b (omega arith)) ∙ c.loop-number.invariant)

pub loop-number-preserved : goal.loop-number-preserved
loop-number-preserved c =
    let xs = c.args.bytes.now in
    let b = c.loop-number.number in
    let k = min (length xs / 512) 4096 in
    let l = length-take c.min.result c.as_chunks.result.0.now in
    let t = asked xs c.as_chunks.result.0.now c.min.result b c.is_err.result c.check_block.result (omega arith) (omega arith) c.as_chunks.ensures.front c.is_err.ensures.value c.check_block.ensures in
    sym (cond-false _ b _ (t ∙ c.if-is_err.false)) ∙ (sym (block_at xs k b (omega arith)) ∙ c.loop-number.invariant)
