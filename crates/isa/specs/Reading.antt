-- What an instruction word says, group by group of the instruction table. R is a register digit, SS and DD are a mode
-- digit and a register digit, NN is six bits, XXX eight bits, and * is 0 for words and 1 for bytes.
use Rattle.std.specs.Prelude.{ℕ, zero, suc, ◌-◌, ◌/◌, ◌%◌, cond, List, [], ◌∷◌, eqb, ltb, ℤ, pos, negsuc, get_or}
use Rattle.isa.specs.declared.operand.Register.{Register}
use Rattle.isa.specs.declared.operand.Register.TheVariants.{R0, R1, R2, R3, R4, R5, Sp, Pc}
use Rattle.isa.specs.declared.operand.Operand.{Operand}
use Rattle.isa.specs.declared.operand.Operand.TheVariants.{Direct, Deferred, Increment, IncrementDeferred, Decrement, DecrementDeferred, Index, IndexDeferred}
use Rattle.isa.specs.declared.instruction.Size.{Size}
use Rattle.isa.specs.declared.instruction.Size.TheVariants.{Word, Byte}
use Rattle.isa.specs.declared.instruction.Control.TheVariants.{Halt, Wait, Rti, Bpt, Iot, Reset, Rtt}
use Rattle.isa.specs.declared.instruction.SingleOperation.{SingleOperation}
use Rattle.isa.specs.declared.instruction.SingleOperation.TheVariants.{Clr, Com, Inc, Dec, Neg, Adc, Sbc, Tst, Ror, Rol, Asr, Asl}
use Rattle.isa.specs.declared.instruction.DoubleOperation.{DoubleOperation}
use Rattle.isa.specs.declared.instruction.DoubleOperation.TheVariants.{Mov, Cmp, Bit, Bic, Bis}
use Rattle.isa.specs.declared.instruction.Condition.{Condition}
use Rattle.isa.specs.declared.instruction.Condition.TheVariants.{Br, Bne, Beq, Bge, Blt, Bgt, Ble, Bpl, Bmi, Bhi, Blos, Bvc, Bvs, Bcc, Bcs}
use Rattle.isa.specs.declared.instruction.FlagChange.TheVariants.{Clear, Set}
use Rattle.isa.specs.declared.flags.Flags.{Flags}
use Rattle.isa.specs.declared.instruction.Instruction.{Instruction}

-- the register of a digit: R0 to R5, SP, PC
abbrev pub register : ℕ → Register
register digit = get_or (R0 ∷ R1 ∷ R2 ∷ R3 ∷ R4 ∷ R5 ∷ Sp ∷ []) digit Pc

-- the operand of a mode digit and a register
abbrev pub mode : ℕ → Register → Operand
mode digit r =
    get_or
    (Direct r ∷ Deferred r ∷ Increment r ∷ IncrementDeferred r ∷ Decrement r ∷ DecrementDeferred r ∷ Index r ∷ [])
    digit (IndexDeferred r)

-- the operand in the two last digits: a mode digit and a register digit
abbrev pub operand : ℕ → Operand
operand w = mode (w / 0o10 % 8) (register (w % 8))

-- the signed number in the low byte
abbrev pub offset : ℕ → ℤ
offset w = cond (ltb (w % 0o400) 0o200) (pos (w % 0o400)) (negsuc (0o377 - w % 0o400))

-- the flags that bits 3 to 0 name: N, Z, V, C
abbrev pub mask : ℕ → Flags
mask w =
    record {
      n = eqb (w / 8 % 2) 1;
      z = eqb (w / 4 % 2) 1;
      v = eqb (w / 2 % 2) 1;
      c = eqb (w % 2) 1;
    }

-- the row of a table at a digit, or the row for all digits beyond it, at a word
abbrev pub pick : List (ℕ → Instruction) → ℕ → (ℕ → Instruction) → ℕ → Instruction
pick [] digit beyond w = beyond w
pick (row ∷ rows) zero beyond w = row w
pick (row ∷ rows) (suc digit) beyond w = pick rows digit beyond w

-- a word of no group
abbrev pub reserved : ℕ → Instruction
reserved w = Instruction.Reserved w

-- an operation of one operand: ..DD
abbrev pub single : Size → SingleOperation → ℕ → Instruction
single size operation w = Instruction.Single size operation (operand w)

-- an operation of two operands: ..SSDD
abbrev pub double : Size → DoubleOperation → ℕ → Instruction
double size operation w = Instruction.Double size operation (operand (w / 0o100)) (operand w)

-- the operations of *050DD to *057DD
abbrev pub five : ℕ → SingleOperation
five digit = get_or (Clr ∷ Com ∷ Inc ∷ Dec ∷ Neg ∷ Adc ∷ Sbc ∷ []) digit Tst

-- *050DD to *057DD by the digit after 5
abbrev pub fives : Size → ℕ → Instruction
fives size w = single size (five (w / 0o100 % 8)) w

-- the branches in steps of 000400 from 000400
abbrev pub low_condition : ℕ → Condition
low_condition step = get_or (Br ∷ Bne ∷ Beq ∷ Bge ∷ Blt ∷ Bgt ∷ []) (step - 1) Ble

-- 000400 to 003777
abbrev pub low_branch : ℕ → Instruction
low_branch w = Instruction.Branch (low_condition (w / 0o400)) (offset w)

-- the branches in steps of 000400 from 100000
abbrev pub high_condition : ℕ → Condition
high_condition step = get_or (Bpl ∷ Bmi ∷ Bhi ∷ Blos ∷ Bvc ∷ Bvs ∷ Bcc ∷ []) step Bcs

-- 100000 to 103777
abbrev pub high_branch : ℕ → Instruction
high_branch w = Instruction.Branch (high_condition (w / 0o400 % 8)) (offset w)

-- 000000 to 000006, and nothing up to 000077
abbrev pub control : ℕ → Instruction
control w =
    pick
    ((λ (v : ℕ). Instruction.Control Halt)
    ∷ (λ (v : ℕ). Instruction.Control Wait)
    ∷ (λ (v : ℕ). Instruction.Control Rti)
    ∷ (λ (v : ℕ). Instruction.Control Bpt)
    ∷ (λ (v : ℕ). Instruction.Control Iot)
    ∷ (λ (v : ℕ). Instruction.Control Reset)
    ∷ (λ (v : ℕ). Instruction.Control Rtt)
    ∷ [])
    w reserved w

-- 00020R RTS, and nothing up to 000217
abbrev pub returns : ℕ → Instruction
returns w = cond (ltb (w % 0o20) 0o10) (Instruction.Return (register (w % 8))) (reserved w)

-- 000200 to 000277 in steps of 000020: from 000240 flags are cleared, from 000260 set
abbrev pub return_or_flags : ℕ → Instruction
return_or_flags w =
    pick
    (returns
    ∷ reserved
    ∷ (λ (v : ℕ). Instruction.Flags Clear (mask v))
    ∷ (λ (v : ℕ). Instruction.Flags Set (mask v))
    ∷ [])
    (w / 0o20 % 4) reserved w

-- 0000.. to 0007..: 0001DD JMP, 0003DD SWAB, from 000400 BR
abbrev pub zeros : ℕ → Instruction
zeros w =
    pick
    (control
    ∷ (λ (v : ℕ). Instruction.Jump (operand v))
    ∷ return_or_flags
    ∷ (λ (v : ℕ). Instruction.SwapBytes (operand v))
    ∷ [])
    (w / 0o100 % 8) low_branch w

-- 0060DD to 0067DD: ROR ROL ASR ASL, 0064NN MARK, 0067DD SXT
abbrev pub word_sixes : ℕ → Instruction
word_sixes w =
    pick
    (single Word Ror
    ∷ single Word Rol
    ∷ single Word Asr
    ∷ single Word Asl
    ∷ (λ (v : ℕ). Instruction.Mark (v % 0o100))
    ∷ reserved
    ∷ reserved
    ∷ (λ (v : ℕ). Instruction.SignExtend (operand v))
    ∷ [])
    (w / 0o100 % 8) reserved w

-- 1060DD to 1067DD: RORB ROLB ASRB ASLB, 1064SS MTPS, 1067DD MFPS
abbrev pub byte_sixes : ℕ → Instruction
byte_sixes w =
    pick
    (single Byte Ror
    ∷ single Byte Rol
    ∷ single Byte Asr
    ∷ single Byte Asl
    ∷ (λ (v : ℕ). Instruction.ToStatus (operand v))
    ∷ reserved
    ∷ reserved
    ∷ (λ (v : ℕ). Instruction.FromStatus (operand v))
    ∷ [])
    (w / 0o100 % 8) reserved w

-- 00....: 001000 to 003777 branches, 004RDD JSR, 0050DD to 0057DD, 0060DD to 0067DD
abbrev pub low : ℕ → Instruction
low w =
    pick
    (zeros
    ∷ low_branch
    ∷ low_branch
    ∷ low_branch
    ∷ (λ (v : ℕ). Instruction.Call (register (v / 0o100 % 8)) (operand v))
    ∷ fives Word
    ∷ word_sixes
    ∷ [])
    (w / 0o1000 % 8) reserved w

-- 104000 to 104377 EMT, 104400 to 104777 TRAP
abbrev pub traps : ℕ → Instruction
traps w = cond (ltb (w % 0o1000) 0o400) (Instruction.Emulate (w % 0o400)) (Instruction.Trap (w % 0o400))

-- 10....: 100000 to 103777 branches, EMT and TRAP, 1050DD to 1057DD, 1060DD to 1067DD
abbrev pub high : ℕ → Instruction
high w =
    pick
    (high_branch
    ∷ high_branch
    ∷ high_branch
    ∷ high_branch
    ∷ traps
    ∷ fives Byte
    ∷ byte_sixes
    ∷ [])
    (w / 0o1000 % 8) reserved w

-- 07....: 074RDD XOR, 077RNN SOB
abbrev pub sevens : ℕ → Instruction
sevens w =
    pick
    (reserved
    ∷ reserved
    ∷ reserved
    ∷ reserved
    ∷ (λ (v : ℕ). Instruction.ExclusiveOr (register (v / 0o100 % 8)) (operand v))
    ∷ reserved
    ∷ reserved
    ∷ (λ (v : ℕ). Instruction.Loop (register (v / 0o100 % 8)) (v % 0o100))
    ∷ [])
    (w / 0o1000 % 8) reserved w

-- 00.... to 17.... by the first two digits: 01SSDD to 05SSDD and 11SSDD to 15SSDD MOV CMP BIT BIC BIS, 06SSDD ADD,
-- 16SSDD SUB
abbrev pub groups : List (ℕ → Instruction)
groups =
    low
    ∷ double Word Mov
    ∷ double Word Cmp
    ∷ double Word Bit
    ∷ double Word Bic
    ∷ double Word Bis
    ∷ (λ (v : ℕ). Instruction.Add (operand (v / 0o100)) (operand v))
    ∷ sevens
    ∷ high
    ∷ double Byte Mov
    ∷ double Byte Cmp
    ∷ double Byte Bit
    ∷ double Byte Bic
    ∷ double Byte Bis
    ∷ (λ (v : ℕ). Instruction.Subtract (operand (v / 0o100)) (operand v))
    ∷ []

-- what the word w says, by its digits
abbrev pub digits : ℕ → Instruction
digits w = pick groups (w / 0o10000) reserved w

-- the reading of the word w; it stays shut, so that a goal that names it stays short
unfoldable pub reading : ℕ → Instruction
reading w = digits w
