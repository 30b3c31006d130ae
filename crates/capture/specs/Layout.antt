-- Captures laid out from records.
use Rattle.std.specs.Prelude.{ℕ, zero, suc, ◌+◌, ◌/◌, List, [], ◌∷◌, ◌++◌, map, length, take, drop}
use Rattle.capture.specs.Records.{Plain, Entry, Written, entry, entry_of, written, record_bytes}
use Rattle.capture.specs.Blocks.{sealed, unsealed, block_bytes}

-- record bytes one after another
abbrev pub joined : List (List ℕ) → List ℕ
joined [] = []
joined (x ∷ xs) = x ++ joined xs

-- what one block holds: any records, and any bytes after them
pub record Sheet : Type 0 where
  pub records : List Written
  pub unused : List ℕ

-- the record bytes of a sheet
abbrev pub body_of : Sheet → List ℕ
body_of s = joined (map record_bytes s.records)

-- blocks of these sheets, from number b on
abbrev pub blocks_of : ℕ → List Sheet → List ℕ
blocks_of b [] = []
blocks_of b (s ∷ ss) = sealed (unsealed b (body_of s) s.unused) ++ blocks_of (b + 1) ss

-- all that sheets hold, in order
abbrev pub entries_of : List Sheet → List Entry
entries_of [] = []
entries_of (s ∷ ss) = map entry_of s.records ++ entries_of ss

-- k blocks from number b on, n records to each, spare and unused bytes zero
abbrev pub packed : ℕ → ℕ → ℕ → List (List ℕ) → List ℕ
packed n b zero recs = []
packed n b (suc k) recs = block_bytes b (joined (take n recs)) ++ packed n (b + 1) k (drop n recs)

-- as many records to a block as 506 bytes take
abbrev pub per_block : List ℕ → ℕ
per_block added = 506 / (8 + length added)

-- the bytes of a record with these added bytes, its spare byte zero
abbrev pub stamped : List ℕ → Plain → List ℕ
stamped added p = record_bytes (written 0 (entry added p))

-- the capture of these records in k blocks: each takes the first block with place for it
abbrev pub laid_out : List ℕ → ℕ → List Plain → List ℕ
laid_out added k ps = packed (per_block added) 0 k (map (stamped added) ps)
