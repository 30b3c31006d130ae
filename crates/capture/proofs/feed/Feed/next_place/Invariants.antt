use Rattle.std.proofs.Common.{◌≡◌, ◌≤◌}
use Rattle.capture.specs.Words.{word_at}
use Rattle.capture.specs.Remaining.{block_at, remains}
use Rattle.capture.proofs.feed.Feed.next_place.Given as goal

abbrev pub invariant-loop-block : goal.invariant-loop-block
invariant-loop-block l =
    record { short : word_at (block_at l.self.bytes.now l.block) 2 ≤ 506; same : remains l.self.bytes.now l.block l.from ≡ remains l.self.bytes.now l.self.block l.self.from }
