-- The words that a line is taken for, whatever it is.
use Rattle.std.specs.Prelude.{ℕ, ◌+◌, ◌%◌, cond, List, [], ◌∷◌, drop}
use Rattle.isa.specs.Word.{word}
use Rattle.isa.specs.Further.{takes_word}
use Rattle.isa.specs.declared.operand.Register.{Register}
use Rattle.isa.specs.declared.operand.Operand.{Operand}
use Rattle.isa.specs.declared.instruction.Size.{Size}
use Rattle.isa.specs.declared.instruction.Instruction.{Instruction}
use Rattle.line_reader.specs.declared.parsed.Parsed.{Parsed}
use Rattle.line_reader.specs.declared.parsed.Mnemonic.{Mnemonic}
use Rattle.line_reader.specs.declared.parsed.Numbered.{Numbered}
use Rattle.line_reader.specs.declared.parsed.OneOperand.{OneOperand}
use Rattle.line_reader.specs.declared.parsed.TwoOperands.{TwoOperands}
use Rattle.line_reader.specs.declared.parsed.RegisterFirst.{RegisterFirst}
use Rattle.line_reader.specs.Fields.{behind_name, register_in, number_in, size_in, offset_to, count_to}
use Rattle.line_reader.specs.Mnemonics.{mnemonic_in}
use Rattle.line_reader.specs.Operands.{operand_in}

abbrev pub one_instruction : OneOperand → Size → Operand → Instruction
one_instruction OneOperand.Jump size d = Instruction.Jump d
one_instruction OneOperand.SwapBytes size d = Instruction.SwapBytes d
one_instruction OneOperand.SignExtend size d = Instruction.SignExtend d
one_instruction OneOperand.ToStatus size d = Instruction.ToStatus d
one_instruction OneOperand.FromStatus size d = Instruction.FromStatus d
one_instruction (OneOperand.Single o) size d = Instruction.Single size o d

abbrev pub two_instruction : TwoOperands → Size → Operand → Operand → Instruction
two_instruction TwoOperands.Add size s d = Instruction.Add s d
two_instruction TwoOperands.Subtract size s d = Instruction.Subtract s d
two_instruction (TwoOperands.Double o) size s d = Instruction.Double size o s d

abbrev pub register_instruction : RegisterFirst → Register → Operand → Instruction
register_instruction RegisterFirst.Call r d = Instruction.Call r d
register_instruction RegisterFirst.ExclusiveOr r d = Instruction.ExclusiveOr r d

-- an instruction with one index word or 0
abbrev pub words_of : Instruction → ℕ → List ℕ
words_of i n = word i ∷ n ∷ 0 ∷ []

abbrev pub numbered_words : Numbered → ℕ → List ℕ
numbered_words Numbered.Mark n = words_of (Instruction.Mark (n % 0o100)) 0
numbered_words Numbered.Emulate n = words_of (Instruction.Emulate (n % 0o400)) 0
numbered_words Numbered.Trap n = words_of (Instruction.Trap (n % 0o400)) 0
numbered_words Numbered.Data n = n ∷ 0 ∷ 0 ∷ []

abbrev pub pair_words : TwoOperands → Size → Parsed → Parsed → List ℕ
pair_words name size p q =
    word (two_instruction name size p.operand q.operand)
    ∷ cond (takes_word p.operand) p.number q.number
    ∷ cond (takes_word p.operand) q.number 0
    ∷ []

-- the second operand stands behind the first and a comma
abbrev pub two_words : TwoOperands → Size → List ℕ → List ℕ
two_words name size s = pair_words name size (operand_in s) (operand_in (drop ((operand_in s).length + 1) s))

-- by what stands behind the mnemonic
abbrev pub words_behind : ℕ → Size → List ℕ → Mnemonic → List ℕ
words_behind address size s (Mnemonic.Control c) = words_of (Instruction.Control c) 0
words_behind address size s (Mnemonic.Flags w) = w ∷ 0 ∷ 0 ∷ []
words_behind address size s (Mnemonic.Branch c) = words_of (Instruction.Branch c (offset_to address (number_in s))) 0
words_behind address size s Mnemonic.Return = words_of (Instruction.Return (register_in s)) 0
words_behind address size s Mnemonic.Loop = words_of (Instruction.Loop (register_in s) (count_to address (number_in (drop 3 s)))) 0
words_behind address size s (Mnemonic.Number name) = numbered_words name (number_in s)
words_behind address size s (Mnemonic.One name) = words_of (one_instruction name size (operand_in s).operand) (operand_in s).number
words_behind address size s (Mnemonic.Two name) = two_words name size s
words_behind address size s (Mnemonic.Register name) =
    words_of (register_instruction name (register_in s) (operand_in (drop 3 s)).operand) (operand_in (drop 3 s)).number

abbrev pub candidate : ℕ → List ℕ → List ℕ
candidate address line = words_behind address (size_in line) (behind_name line) (mnemonic_in line)
