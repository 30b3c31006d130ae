-- The bytes of a block.
use Rattle.std.specs.Prelude.{ℕ, ◌-◌, ◌%◌, List, ◌++◌, length, replicate}
use Rattle.capture.specs.Words.{word_bytes}
use Rattle.capture.specs.Checksum.{block_sum}

-- 510 bytes, and the word that brings the sum to 0
unfoldable pub sealed : List ℕ → List ℕ
sealed bytes = bytes ++ word_bytes ((65536 - block_sum bytes) % 65536)

-- number, used count, record bytes and unused bytes
abbrev pub unsealed : ℕ → List ℕ → List ℕ → List ℕ
unsealed number body unused = word_bytes number ++ (word_bytes (length body) ++ (body ++ unused))

-- the zeros after so many record bytes
abbrev pub zeros_after : List ℕ → List ℕ
zeros_after body = replicate (506 - length body) 0

-- a block with unused bytes zero
abbrev pub block_bytes : ℕ → List ℕ → List ℕ
block_bytes number body = sealed (unsealed number body (zeros_after body))
