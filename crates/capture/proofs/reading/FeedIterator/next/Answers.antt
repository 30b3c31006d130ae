use Rattle.std.proofs.Common.{◌≡◌, ℕ, List, ◌+◌, ◌∷◌, map, drop, get_or, sym, ap, ◌∙◌, arith}
use Rattle.capture.specs.Checking.{entries}
use Rattle.capture.specs.Records.{numbers, first_entry}
use Rattle.capture.specs.Remaining.{remains}
use Rattle.capture.specs.declared.feed.Feed.{Feed}
use Rattle.capture.specs.Feeds.{held, left, Stands}
use Rattle.capture.proofs.Feeding.{step, within, same_numbers}
use Rattle.capture.proofs.reading.FeedIterator.next.Goals as goal

-- the records from the first unused one on
unused : (f : Feed) (b at : ℕ) (bytes : List ℕ) → Stands f b at bytes → drop f.used (held f) ≡ first_entry bytes ∷ entries (remains f.bytes.now b (at + (get_or bytes 0 0 + 4)))
unused f b at bytes s = sym (same_numbers (left f) (drop f.used (held f)) f.stands) ∙ s.left

pub overflow_add-self-3 : goal.overflow_add-self-3
overflow_add-self-3 c =
    let f = c.args.self.now in
    omega (arith, within f.bytes.now f.used _ _ (unused f c.in_ok-block.block c.in_ok-block.from c.in_ok-block.bytes.now c.in_ok-block.ensures))

pub invariant_of-self : goal.invariant_of-self
invariant_of-self c =
    let f = c.args.self.now in
    let k : Stands f c.in_ok-block.block c.in_ok-block.from c.in_ok-block.bytes.now = c.in_ok-block.ensures in
    let l = step f.used (held f) _ _ (unused f c.in_ok-block.block c.in_ok-block.from c.in_ok-block.bytes.now k) in
    record { whole = f.whole; short = k.short; passed = k.passed; stands = ap (map numbers) l }
