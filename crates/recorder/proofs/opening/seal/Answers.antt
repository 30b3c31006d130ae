use Rattle.std.proofs.Common.{◌≡◌, ℕ, ◌-◌, ◌%◌, List, [], ◌++◌, take, drop, ap, ◌∙◌, arith, length-drop}
use Rattle.std.proofs.lemmas.List.{drop_all}
use Rattle.capture.specs.Checksum.{block_sum}
use Rattle.capture.specs.Blocks.{sealed}
use Rattle.capture.specs.Words.{word_bytes}
use Rattle.recorder.proofs.opening.seal.Goals as goal

pub returns : goal.returns
unfolding sealed
returns c =
    let b : List ℕ = c.args.block.now in
    let w : c.wrapping_neg-balance.result ≡ (65536 - block_sum (take 510 b)) % 65536 = omega (arith, c.wrapping_neg-balance.ensures, c.checksum.ensures) in
    let z : drop 2 (drop 510 b) ≡ [] = drop_all 2 (drop 510 b) (omega (arith, length-drop 510 b)) in
    ap (λ (xs : List ℕ). take 510 b ++ (xs ++ drop 2 (drop 510 b))) (c.copy_from_slice.ensures.after ∙ (c.to_le_bytes.ensures ∙ ap word_bytes w))
    ∙ ap (λ (xs : List ℕ). take 510 b ++ (word_bytes ((65536 - block_sum (take 510 b)) % 65536) ++ xs)) z
