use Rattle.std.proofs.Common.{◌≡◌, ℕ, ◌+◌, ◌-◌, ◌*◌, ◌/◌, List, [], length, get_or, drop, Err, Result, sym, ap, ◌∙◌, ◌<◌, arith}
use Rattle.std.proofs.lemmas.Result.{err_from_is_err_and}
use Rattle.std.proofs.lemmas.Bool.{cond-true}
use Rattle.std.specs.Simd.{first_chunks}
use Rattle.capture.specs.declared.refusal.Refusal.{Refusal}
use Rattle.capture.specs.declared.refusal.Refusal.TheVariants.{Blocks}
use Rattle.capture.specs.Checking.{block_alone, whole_blocks, read_from, verdict}
use Rattle.capture.proofs.Walks.{verdict_more, seq}
use Rattle.capture.proofs.checks.check.Goals as goal

-- what follows a block's own answer
passed : (xs : List ℕ) (blocks : List (List ℕ)) (b : ℕ) (answer all : Result Unit Refusal)
    → b < length xs / 512
    → blocks ≡ first_chunks 512 (length xs / 512) xs
    → answer ≡ block_alone b (get_or blocks b [])
    → verdict (read_from b (length xs / 512 - b) (drop (512 * b) xs)) ≡ all
    → seq answer (verdict (read_from (b + 1) (length xs / 512 - (b + 1)) (drop (512 * (b + 1)) xs))) ≡ all
passed xs blocks b answer all h e a v =
    ap (λ (r : Result Unit Refusal). seq r (verdict (read_from (b + 1) (length xs / 512 - (b + 1)) (drop (512 * (b + 1)) xs))))
    (a ∙ ap (λ (bs : List (List ℕ)). block_alone b (get_or bs b [])) e)
    ∙ (sym (verdict_more xs (length xs / 512) b h) ∙ v)

pub returns-in_err-check_whole_block : goal.returns-in_err-check_whole_block
returns-in_err-check_whole_block c =
    let xs = c.args.bytes.now in
    let p = err_from_is_err_and c.from_residual.result c.from_residual.ensures.1 in
    rw (p.1, p.2)
    (passed xs c.as_chunks.result.0.now c.loop-number.number _ _ (omega arith) c.as_chunks.ensures.front c.in_err-check_whole_block.ensures c.loop-number.invariant
    ∙ ap verdict (sym (cond-true (whole_blocks (length xs)) _ (Err Blocks) (sym c.whole_blocks.ensures ∙ c.if-not-whole_blocks.false))))

pub loop-number-preserved : goal.loop-number-preserved
loop-number-preserved c = passed c.args.bytes.now c.as_chunks.result.0.now c.loop-number.number _ _ (omega arith) c.as_chunks.ensures.front c.in_ok-check_whole_block.ensures c.loop-number.invariant
