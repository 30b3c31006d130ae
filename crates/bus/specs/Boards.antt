-- What each make of board means, and the bytes that a write leaves.
use Rattle.std.specs.Prelude.{ℕ, ◌+◌, ◌-◌, ◌*◌, ◌/◌, ◌%◌, Bool, cond, List, length, Some, None, Option, nat_lt, slice_index, slice_set}
use Rattle.bus.specs.Memory.{Place, silent, fixed, opened, Memory}

-- A word lies in two bytes, the low one first.
abbrev pub word_at : List ℕ → ℕ → ℕ
word_at bytes n = slice_index bytes (2 * n) + 256 * slice_index bytes (2 * n + 1)

-- Whether both bytes of a word are there.
abbrev pub whole : List ℕ → ℕ → Bool
whole bytes n = nat_lt (2 * n + 1) (length bytes)

-- Bytes as places of one kind, silent where they end.
abbrev pub held : (ℕ → Place) → List ℕ → Memory
held kind bytes = λ n. cond (whole bytes n) (kind (word_at bytes n)) silent

-- The flat board is open below the cabinet page, whose first word number is 32704.
abbrev pub flat : List ℕ → Memory
flat bytes = λ n. cond (nat_lt n 32704) (held opened bytes n) silent

-- The cabinet board has open RAM from 000000 and fixed ROM from 100000 octal, which is word number 16384.
abbrev pub above_ram : List ℕ → Memory
above_ram rom = λ n. cond (nat_lt n 32704) (held fixed rom (n - 16384)) silent

abbrev pub cabinet_board : List ℕ → List ℕ → Memory
cabinet_board ram rom = λ n. cond (nat_lt n 16384) (held opened ram n) (above_ram rom n)

-- The bytes after a word is written, and after a byte is.
abbrev pub with_word : List ℕ → ℕ → ℕ → List ℕ
with_word bytes n w = slice_set (slice_set bytes (2 * n) (w % 256)) (2 * n + 1) (w / 256)

abbrev pub with_byte : List ℕ → ℕ → ℕ → List ℕ
with_byte bytes at b = slice_set bytes at b

-- What a write of bytes that are there answers and leaves; it times out where they are not.
abbrev pub put : Bool → List ℕ → List ℕ → Option Unit × List ℕ
put there after before = cond there (Some tt, after) (None, before)
