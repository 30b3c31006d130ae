-- What a feed holds, and what it has still to hand out.
use Rattle.std.specs.Prelude.{◌≡◌, ℕ, ◌+◌, ◌≤◌, true, cond, List, ◌∷◌, map, is_ok, is_some, slice_index, Option}
use Rattle.bus.specs.declared.exchange.Exchange.{Exchange}
use Rattle.capture.specs.declared.feed.Feed.{Feed}
use Rattle.capture.specs.declared.record.Record.{Record}
use Rattle.capture.specs.Words.{word_at}
use Rattle.capture.specs.Records.{Entry, plain_of, first_entry}
use Rattle.capture.specs.Checking.{one_read, read_capture, entries}
use Rattle.capture.specs.Remaining.{block_at, remains}
use Rattle.capture.specs.Exchanges.{exchange_of}
use Rattle.capture.specs.Handed.{given, head_of, tail_of}

-- all records of the capture
abbrev pub held : Feed → List Entry
held f = entries (read_capture f.bytes.now)

-- the records that are left
abbrev pub left : Feed → List Entry
left f = entries (remains f.bytes.now f.block f.from)

-- the same as exchanges
abbrev pub exchanges_left : Feed → List Exchange
exchanges_left f = map (λ e. exchange_of (plain_of e)) (left f)

-- a feed's next record stands at a byte of a block, from which on there are these record bytes
pub record Stands (f : Feed) (block from : ℕ) (bytes : List ℕ) : Type 0 where
  pub place : from ≤ 506
  pub first : is_ok (one_read bytes) ≡ true
  pub short : word_at (block_at f.bytes.now block) 2 ≤ 506
  pub passed : is_ok (remains f.bytes.now block (from + (slice_index bytes 0 + 4))) ≡ true
  pub left : left f ≡ first_entry bytes ∷ entries (remains f.bytes.now block (from + (slice_index bytes 0 + 4)))

-- a feed hands out the first record that is left, if there is one, and has the others left
pub record Hands (f : Feed) (r : Option Record) (g : Feed) : Type 0 where
  pub answer : given r ≡ head_of (left f)
  pub held : held g ≡ held f
  pub left : left g ≡ tail_of (left f)
  pub used : g.used ≡ f.used + cond (is_some r) 1 0
