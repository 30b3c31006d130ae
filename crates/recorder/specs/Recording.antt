-- What a recorder writes.
use Rattle.std.specs.Prelude.{ℕ, ◌+◌, ◌*◌, ◌/◌, Bool, true, cond, List, [], map, ◌==◌}
use Rattle.capture.specs.Words.{word_bytes}
use Rattle.capture.specs.Records.{Plain, plain_of}
use Rattle.capture.specs.Checking.{read_from, entries}
use Rattle.capture.specs.Layout.{laid_out}

-- header lengths that are written
abbrev pub header_allowed : ℕ → Bool
header_allowed h = cond (h == 4) true (h == 6)

-- what a header adds: of length 6 the rig's number, of length 4 nothing
abbrev pub added_by : ℕ → ℕ → List ℕ
added_by h number = cond (h == 6) (word_bytes number) []

-- k blocks with these records, under headers of length h
abbrev pub laid : ℕ → ℕ → ℕ → List Plain → List ℕ
laid h number k ps = laid_out (added_by h number) k ps

-- how many records have place in k blocks: 63 in each with header length 4, 50 with 6
abbrev pub places : ℕ → ℕ → ℕ
places h k = 506 / (h + 4) * k

-- the records that a reader finds in k blocks
abbrev pub found_in : ℕ → List ℕ → List Plain
found_in k buffer = map plain_of (entries (read_from 0 k buffer))
