-- The text of an instruction.
use Rattle.std.specs.Prelude.{ℕ, ◌+◌, ◌-◌, ◌*◌, ◌/◌, ◌%◌, cond, List, [], ◌∷◌, ◌++◌, ℤ, pos, negsuc, codes, ◌==◌, slice_index}
use Rattle.isa.specs.declared.operand.Operand.{Operand}
use Rattle.isa.specs.declared.operand.Operand.TheVariants.{Direct, Deferred, Increment, IncrementDeferred, Decrement, DecrementDeferred, Index, IndexDeferred}
use Rattle.isa.specs.declared.instruction.Instruction.{Instruction}
use Rattle.isa.specs.Further.{is_pc, takes_word}
use Rattle.listing.specs.Names.{register_name, control_name, single_name, double_name, condition_name, byte_mark}

-- six octal digits
abbrev pub octal : ℕ → List ℕ
octal n = (48 + n / 0o100000) ∷ (48 + n / 0o10000 % 8) ∷ (48 + n / 0o1000 % 8) ∷ (48 + n / 0o100 % 8) ∷ (48 + n / 0o10 % 8) ∷ (48 + n % 8) ∷ []

-- an operand, with the index word that it may take
abbrev pub operand_text : Operand → ℕ → List ℕ
operand_text (Direct r) n = register_name r
operand_text (Deferred r) n = codes "(" ++ (register_name r ++ codes ")")
operand_text (Increment r) n = cond (is_pc r) (codes "#" ++ octal n) (codes "(" ++ (register_name r ++ codes ")+"))
operand_text (IncrementDeferred r) n = cond (is_pc r) (codes "@#" ++ octal n) (codes "@(" ++ (register_name r ++ codes ")+"))
operand_text (Decrement r) n = codes "-(" ++ (register_name r ++ codes ")")
operand_text (DecrementDeferred r) n = codes "@-(" ++ (register_name r ++ codes ")")
operand_text (Index r) n = octal n ++ (codes "(" ++ (register_name r ++ codes ")"))
operand_text (IndexDeferred r) n = codes "@" ++ (octal n ++ (codes "(" ++ (register_name r ++ codes ")")))

-- a branch counts words from the word behind it: `negsuc n` is -(n + 1)
abbrev pub branch_target : ℕ → ℤ → ℕ
branch_target address (pos n) = (address + 2 + 2 * n) % 65536
branch_target address (negsuc n) = (address + 2 + 65536 - 2 * (n + 1)) % 65536

-- SOB counts words back from the word behind it
abbrev pub loop_target : ℕ → ℕ → ℕ
loop_target address n = (address + 2 + 65536 - 2 * n) % 65536

-- a mnemonic, a space and what stands behind it
abbrev pub behind : List ℕ → List ℕ → List ℕ
behind name operands = name ++ (codes " " ++ operands)

abbrev pub pair : List ℕ → List ℕ → List ℕ
pair left right = left ++ (codes "," ++ right)

-- two operands: the second takes the first index word that the source leaves
abbrev pub operands_text : Operand → Operand → ℕ → ℕ → List ℕ
operands_text source destination first second =
    pair (operand_text source first) (operand_text destination (cond (takes_word source) second first))

-- a word with no name
abbrev pub unnamed : ℕ → List ℕ
unnamed word = behind (codes ".WORD") (octal word)

-- the flag words that have names
abbrev pub flag_text : ℕ → List ℕ
flag_text word =
    cond (word == 0o240) (codes "NOP") (
    cond (word == 0o241) (codes "CLC") (
    cond (word == 0o242) (codes "CLV") (
    cond (word == 0o244) (codes "CLZ") (
    cond (word == 0o250) (codes "CLN") (
    cond (word == 0o257) (codes "CCC") (
    cond (word == 0o261) (codes "SEC") (
    cond (word == 0o262) (codes "SEV") (
    cond (word == 0o264) (codes "SEZ") (
    cond (word == 0o270) (codes "SEN") (
    cond (word == 0o277) (codes "SCC") (
    unnamed word)))))))))))

-- three words: the instruction word and the two that may be its index words
abbrev pub word : List ℕ → ℕ
word words = slice_index words 0

abbrev pub first : List ℕ → ℕ
first words = slice_index words 1

abbrev pub second : List ℕ → ℕ
second words = slice_index words 2

-- an instruction at an address, as the first of three words says it
abbrev pub instruction_text : ℕ → List ℕ → Instruction → List ℕ
instruction_text address words (Instruction.Control c) = control_name c
instruction_text address words (Instruction.Jump d) = behind (codes "JMP") (operand_text d (first words))
instruction_text address words (Instruction.Return r) = behind (codes "RTS") (register_name r)
instruction_text address words (Instruction.Flags change mask) = flag_text (word words)
instruction_text address words (Instruction.SwapBytes d) = behind (codes "SWAB") (operand_text d (first words))
instruction_text address words (Instruction.Branch c offset) = behind (condition_name c) (octal (branch_target address offset))
instruction_text address words (Instruction.Call r d) = behind (codes "JSR") (pair (register_name r) (operand_text d (first words)))
instruction_text address words (Instruction.Single size o d) = behind (single_name o ++ byte_mark size) (operand_text d (first words))
instruction_text address words (Instruction.Mark n) = behind (codes "MARK") (octal n)
instruction_text address words (Instruction.SignExtend d) = behind (codes "SXT") (operand_text d (first words))
instruction_text address words (Instruction.ToStatus s) = behind (codes "MTPS") (operand_text s (first words))
instruction_text address words (Instruction.FromStatus d) = behind (codes "MFPS") (operand_text d (first words))
instruction_text address words (Instruction.Double size o s d) = behind (double_name o ++ byte_mark size) (operands_text s d (first words) (second words))
instruction_text address words (Instruction.Add s d) = behind (codes "ADD") (operands_text s d (first words) (second words))
instruction_text address words (Instruction.Subtract s d) = behind (codes "SUB") (operands_text s d (first words) (second words))
instruction_text address words (Instruction.ExclusiveOr r d) = behind (codes "XOR") (pair (register_name r) (operand_text d (first words)))
instruction_text address words (Instruction.Loop r n) = behind (codes "SOB") (pair (register_name r) (octal (loop_target address n)))
instruction_text address words (Instruction.Emulate n) = behind (codes "EMT") (octal n)
instruction_text address words (Instruction.Trap n) = behind (codes "TRAP") (octal n)
instruction_text address words (Instruction.Reserved n) = unnamed (word words)
