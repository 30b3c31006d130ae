use Rattle.std.proofs.Common.{◌≡◌, ℕ, ◌/◌, ◌<◌, List, [], length, get_or, drop, ap, ◌∙◌, arith}
use Rattle.std.proofs.lemmas.List.{take_rest}
use Rattle.std.specs.Simd.{first_chunks}
use Rattle.capture.specs.Checking.{used_bytes}
use Rattle.capture.specs.Remaining.{block_at, remains}
use Rattle.capture.proofs.Walks.{chunk_at}
use Rattle.capture.proofs.Feeding.{turn, stands}
use Rattle.capture.proofs.feed.Feed.next_place.Goals as goal

-- the record bytes of a block, in the words of the code
part : (xs : List ℕ) (blocks : List (List ℕ)) (b : ℕ) (bytes : List ℕ) → b < length xs / 512 → blocks ≡ first_chunks 512 (length xs / 512) xs → bytes ≡ used_bytes (get_or blocks b [])
    → bytes ≡ used_bytes (block_at xs b)
part xs blocks b bytes h e u = u ∙ (ap (λ (bs : List (List ℕ)). used_bytes (get_or bs b [])) e ∙ ap used_bytes (chunk_at (length xs / 512) b xs h))

pub returns-then-from-bytes : goal.returns-then-from-bytes
returns-then-from-bytes c =
    let f = c.args.self.now in
    let b = c.loop-block.block in
    let at = c.loop-block.from in
    let e = part f.bytes.now c.as_chunks.result.0.now b c.used_bytes-bytes.result.now (omega arith) c.as_chunks.ensures.front c.used_bytes-bytes.ensures in
    stands f b at _ c.loop-block.invariant.short (take_rest c.used_bytes-bytes.result.now at ∙ ap (drop at) e) (omega arith) c.loop-block.invariant.same

pub loop-block-preserved : goal.loop-block-preserved
loop-block-preserved c =
    let f = c.args.self.now in
    let b = c.loop-block.block in
    let e = part f.bytes.now c.as_chunks.result.0.now b c.used_bytes-bytes.result.now (omega arith) c.as_chunks.ensures.front c.used_bytes-bytes.ensures in
    let t = turn f.bytes.now b c.loop-block.from (remains f.bytes.now f.block f.from) f.whole f.passed (omega (arith, ap length e)) c.loop-block.invariant.same in
    record { short = t.used; same = t.same }
