-- Where a refusal was found.
use Rattle.std.specs.Prelude.{ℕ, zero, suc, ◌+◌, ◌/◌, min, cond, List, [], ◌∷◌, length, take, drop, is_err}
use Rattle.capture.specs.declared.refusal.Refusal.{Refusal}
use Rattle.capture.specs.declared.refusal.Refusal.TheVariants.{Blocks, Number, Used, Checksum, Length, Fields}
use Rattle.capture.specs.Checking.{one_read, used_bytes, verdict, block_verdict}

-- the first of k blocks, from number b on, that is refused; past the last where none is
abbrev pub block_from : ℕ → ℕ → List ℕ → ℕ
block_from b zero bytes = b
block_from b (suc k) bytes = cond (is_err (block_verdict b (take 512 bytes))) b (block_from (b + 1) k (drop 512 bytes))

-- captures have at most 4,096 blocks
abbrev pub refused_block : List ℕ → ℕ
refused_block bytes = block_from 0 (min (length bytes / 512) 4096) bytes

-- the first of these records, the first of which begins at a place, that is refused; the first k bytes are left out
abbrev pub record_from : ℕ → ℕ → List ℕ → ℕ
record_from place k [] = place
record_from place zero (x ∷ xs) = cond (is_err (verdict (one_read (x ∷ xs)))) place (record_from (place + (x + 4)) (x + 3) xs)
record_from place (suc k) (x ∷ xs) = record_from place k xs

-- the byte of a block that a refusal speaks of: number, used count, last word, or the first byte of a record
abbrev pub refused_byte : Refusal → List ℕ → ℕ
refused_byte Blocks block = 0
refused_byte Number block = 0
refused_byte Used block = 2
refused_byte Checksum block = 510
refused_byte Length block = record_from 4 0 (used_bytes block)
refused_byte Fields block = record_from 4 0 (used_bytes block)
