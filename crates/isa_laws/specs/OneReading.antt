-- Reading against the instruction table: which instruction has a word, and how many words none has.
use Rattle.std.specs.Prelude.{◌≡◌, ℕ, ◌<◌, Bool, true, false, ◌⊎◌, ℤ, pos, negsuc, nat_lt, count_by}
use Rattle.std.specs.List.{range_with_len}
use Rattle.isa.specs.declared.instruction.Instruction.{Instruction}
use Rattle.isa.specs.Reading.{reading}
use Rattle.isa.specs.Word.{word}

-- a number of eight bits with its sign
abbrev pub in_byte : ℤ → Bool
in_byte (pos n) = nat_lt n 0o200
in_byte (negsuc n) = nat_lt n 0o200

-- whether an instruction is one of the table: its fields fit their places, and it is no reserved word
abbrev pub listed : Instruction → Bool
listed (Instruction.Control c) = true
listed (Instruction.Jump d) = true
listed (Instruction.Return r) = true
listed (Instruction.Flags change m) = true
listed (Instruction.SwapBytes d) = true
listed (Instruction.Branch c z) = in_byte z
listed (Instruction.Call r d) = true
listed (Instruction.Single size o d) = true
listed (Instruction.Mark n) = nat_lt n 0o100
listed (Instruction.SignExtend d) = true
listed (Instruction.ToStatus s) = true
listed (Instruction.FromStatus d) = true
listed (Instruction.Double size o s d) = true
listed (Instruction.Add s d) = true
listed (Instruction.Subtract s d) = true
listed (Instruction.ExclusiveOr r d) = true
listed (Instruction.Loop r n) = nat_lt n 0o100
listed (Instruction.Emulate n) = nat_lt n 0o400
listed (Instruction.Trap n) = nat_lt n 0o400
listed (Instruction.Reserved w) = false

-- i is the instruction of the table that has the word w
pub record Has (w : ℕ) (i : Instruction) : Type 0 where
  pub is_listed : listed i ≡ true
  pub has : word i ≡ w

-- the word w says i: i has that word, or w is reserved and nothing has it
abbrev pub Says : ℕ → Instruction → Type 0
Says w i = Has w i ⊎ ((i ≡ Instruction.Reserved w) × ((j : Instruction) → Has w j → ⊥))

-- the reading of w is what w says, and nothing else is
pub record OneReading (w : ℕ) : Type 0 where
  pub says : Says w (reading w)
  pub only : (i : Instruction) → Says w i → i ≡ reading w

-- each word has one reading
abbrev pub WordsHaveOneReading : Type 0
WordsHaveOneReading = (w : ℕ) → w < 0o200000 → OneReading w

-- whether an instruction is a reserved word
abbrev pub is_reserved : Instruction → Bool
is_reserved (Instruction.Control c) = false
is_reserved (Instruction.Jump d) = false
is_reserved (Instruction.Return r) = false
is_reserved (Instruction.Flags change m) = false
is_reserved (Instruction.SwapBytes d) = false
is_reserved (Instruction.Branch c z) = false
is_reserved (Instruction.Call r d) = false
is_reserved (Instruction.Single size o d) = false
is_reserved (Instruction.Mark n) = false
is_reserved (Instruction.SignExtend d) = false
is_reserved (Instruction.ToStatus s) = false
is_reserved (Instruction.FromStatus d) = false
is_reserved (Instruction.Double size o s d) = false
is_reserved (Instruction.Add s d) = false
is_reserved (Instruction.Subtract s d) = false
is_reserved (Instruction.ExclusiveOr r d) = false
is_reserved (Instruction.Loop r n) = false
is_reserved (Instruction.Emulate n) = false
is_reserved (Instruction.Trap n) = false
is_reserved (Instruction.Reserved w) = true

-- whether the word w is read as reserved
abbrev pub reserved_word : ℕ → Bool
reserved_word w = is_reserved (reading w)

-- how many numbers below n pass a test
unfoldable pub how_many : (ℕ → Bool) → ℕ → ℕ
how_many test n = count_by test (range_with_len 0 n)
