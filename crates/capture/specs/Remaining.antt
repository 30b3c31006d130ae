-- What is left to read from a place on.
use Rattle.std.specs.Prelude.{ℕ, ◌+◌, ◌-◌, ◌*◌, ◌/◌, List, length, take, drop}
use Rattle.capture.specs.Checking.{Answer, read_then, used_bytes, read_from}

-- block b of a capture
abbrev pub block_at : List ℕ → ℕ → List ℕ
block_at bytes b = take 512 (drop (512 * b) bytes)

-- the records from byte `from` of the used record bytes of block b on
abbrev pub remains : List ℕ → ℕ → ℕ → Answer
remains bytes b from =
    read_then 0 (drop from (used_bytes (block_at bytes b))) (read_from (b + 1) (length bytes / 512 - (b + 1)) (drop (512 * (b + 1)) bytes))
