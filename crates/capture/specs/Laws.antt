-- What holds of every capture.
use Rattle.std.specs.Prelude.{◌≡◌, ℕ, ◌+◌, ◌*◌, ◌<◌, ◌≤◌, true, List, map, length, Ok}
use Rattle.std.specs.List.{AllByRecursion}
use Rattle.capture.specs.Records.{Plain, Entry, Written, entry, plain_of}
use Rattle.capture.specs.Lawful.{writable, all_writable, lawful}
use Rattle.capture.specs.Checksum.{block_sum}
use Rattle.capture.specs.Checking.{read_capture, entries}
use Rattle.capture.specs.Remaining.{block_at}
use Rattle.capture.specs.Layout.{Sheet, body_of, blocks_of, entries_of, per_block, laid_out}

-- a record that can be written: lawful, and with a header of at most 32 bytes
pub record Fits (w : Written) : Type 0 where
  pub plain : writable w.entry.plain ≡ true
  pub header : length w.entry.added ≤ 28

-- a sheet that fills its block
pub record Fills (s : Sheet) : Type 0 where
  pub records : AllByRecursion Fits s.records
  pub whole : length (body_of s) + length s.unused ≡ 506

-- Whatever stands in a capture is read: any division into blocks, any header lengths, added, spare and unused bytes.
abbrev pub SheetsReadBack : Type 0
SheetsReadBack = (sheets : List Sheet) → 0 < length sheets → length sheets ≤ 4096 → AllByRecursion Fills sheets → read_capture (blocks_of 0 sheets) ≡ Ok (entries_of sheets)

-- So blocks, header length, added, spare and unused bytes change no record.
abbrev pub OnlyRecordsCount : Type 0
OnlyRecordsCount = (one other : List Sheet) → 0 < length one → length one ≤ 4096 → 0 < length other → length other ≤ 4096 → AllByRecursion Fills one → AllByRecursion Fills other
    → map plain_of (entries_of one) ≡ map plain_of (entries_of other)
    → map plain_of (entries (read_capture (blocks_of 0 one))) ≡ map plain_of (entries (read_capture (blocks_of 0 other)))

-- Records laid out are read back.
abbrev pub LayoutReadsBack : Type 0
LayoutReadsBack = (added : List ℕ) (k : ℕ) (ps : List Plain) → length added ≤ 28 → 0 < k → k ≤ 4096 → length ps ≤ per_block added * k → all_writable ps ≡ true
    → read_capture (laid_out added k ps) ≡ Ok (map (entry added) ps)

-- What is read is lawful.
abbrev pub RecordsReadAreLawful : Type 0
RecordsReadAreLawful = (bytes : List ℕ) → AllByRecursion (λ e. lawful e.plain ≡ true) (entries (read_capture bytes))

-- Every block of a capture that passes adds up to 0.
abbrev pub BlocksAddUp : Type 0
BlocksAddUp = (bytes : List ℕ) (es : List Entry) → read_capture bytes ≡ Ok es → (b : ℕ) → 512 * b < length bytes → block_sum (block_at bytes b) ≡ 0

-- The laws together.
pub record CaptureLaws : Type 0 where
  pub sheets : SheetsReadBack
  pub records : OnlyRecordsCount
  pub layout : LayoutReadsBack
  pub lawful : RecordsReadAreLawful
  pub sums : BlocksAddUp
