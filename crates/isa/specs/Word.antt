-- The word of an instruction: the base of its group in the instruction table, and its fields in their places.
use Rattle.std.specs.Prelude.{ℕ, ◌+◌, ◌-◌, ◌*◌, ◌%◌, Bool, true, false, ℤ, pos, negsuc}
use Rattle.isa.specs.declared.operand.Register.{Register}
use Rattle.isa.specs.declared.operand.Register.TheVariants.{R0, R1, R2, R3, R4, R5, Sp, Pc}
use Rattle.isa.specs.declared.operand.Operand.{Operand}
use Rattle.isa.specs.declared.operand.Operand.TheVariants.{Direct, Deferred, Increment, IncrementDeferred, Decrement, DecrementDeferred, Index, IndexDeferred}
use Rattle.isa.specs.declared.instruction.Size.{Size}
use Rattle.isa.specs.declared.instruction.Size.TheVariants.{Word, Byte}
use Rattle.isa.specs.declared.instruction.Control.{Control}
use Rattle.isa.specs.declared.instruction.Control.TheVariants.{Halt, Wait, Rti, Bpt, Iot, Reset, Rtt}
use Rattle.isa.specs.declared.instruction.SingleOperation.{SingleOperation}
use Rattle.isa.specs.declared.instruction.SingleOperation.TheVariants.{Clr, Com, Inc, Dec, Neg, Adc, Sbc, Tst, Ror, Rol, Asr, Asl}
use Rattle.isa.specs.declared.instruction.DoubleOperation.{DoubleOperation}
use Rattle.isa.specs.declared.instruction.DoubleOperation.TheVariants.{Mov, Cmp, Bit, Bic, Bis}
use Rattle.isa.specs.declared.instruction.Condition.{Condition}
use Rattle.isa.specs.declared.instruction.Condition.TheVariants.{Br, Bne, Beq, Bge, Blt, Bgt, Ble, Bpl, Bmi, Bhi, Blos, Bvc, Bvs, Bcc, Bcs}
use Rattle.isa.specs.declared.instruction.FlagChange.{FlagChange}
use Rattle.isa.specs.declared.instruction.FlagChange.TheVariants.{Clear, Set}
use Rattle.isa.specs.declared.flags.Flags.{Flags}
use Rattle.isa.specs.declared.instruction.Instruction.{Instruction}

-- R: the digit of a register
abbrev pub number : Register → ℕ
number R0 = 0
number R1 = 1
number R2 = 2
number R3 = 3
number R4 = 4
number R5 = 5
number Sp = 6
number Pc = 7

-- SS or DD: a mode digit and a register digit
abbrev pub bits : Operand → ℕ
bits (Direct r) = number r
bits (Deferred r) = 0o10 + number r
bits (Increment r) = 0o20 + number r
bits (IncrementDeferred r) = 0o30 + number r
bits (Decrement r) = 0o40 + number r
bits (DecrementDeferred r) = 0o50 + number r
bits (Index r) = 0o60 + number r
bits (IndexDeferred r) = 0o70 + number r

-- the first digit, * in the table
abbrev pub size_bit : Size → ℕ
size_bit Word = 0
size_bit Byte = 0o100000

-- the words with no field
abbrev pub control_word : Control → ℕ
control_word Halt = 0o000000
control_word Wait = 0o000001
control_word Rti = 0o000002
control_word Bpt = 0o000003
control_word Iot = 0o000004
control_word Reset = 0o000005
control_word Rtt = 0o000006

-- the word form of an operation of one operand, without DD
abbrev pub single_base : SingleOperation → ℕ
single_base Clr = 0o005000
single_base Com = 0o005100
single_base Inc = 0o005200
single_base Dec = 0o005300
single_base Neg = 0o005400
single_base Adc = 0o005500
single_base Sbc = 0o005600
single_base Tst = 0o005700
single_base Ror = 0o006000
single_base Rol = 0o006100
single_base Asr = 0o006200
single_base Asl = 0o006300

-- the word form of an operation of two operands, without SS and DD
abbrev pub double_base : DoubleOperation → ℕ
double_base Mov = 0o010000
double_base Cmp = 0o020000
double_base Bit = 0o030000
double_base Bic = 0o040000
double_base Bis = 0o050000

-- a branch with offset 0
abbrev pub branch_base : Condition → ℕ
branch_base Br = 0o000400
branch_base Bne = 0o001000
branch_base Beq = 0o001400
branch_base Bge = 0o002000
branch_base Blt = 0o002400
branch_base Bgt = 0o003000
branch_base Ble = 0o003400
branch_base Bpl = 0o100000
branch_base Bmi = 0o100400
branch_base Bhi = 0o101000
branch_base Blos = 0o101400
branch_base Bvc = 0o102000
branch_base Bvs = 0o102400
branch_base Bcc = 0o103000
branch_base Bcs = 0o103400

-- the byte of a signed number of eight bits
abbrev pub byte : ℤ → ℕ
byte (pos n) = n
byte (negsuc n) = 0o377 - n

-- a flag word that names no flag
abbrev pub flag_base : FlagChange → ℕ
flag_base Clear = 0o000240
flag_base Set = 0o000260

-- one bit
abbrev pub bit : Bool → ℕ
bit true = 1
bit false = 0

-- bits 3 to 0: N, Z, V, C
abbrev pub mask_bits : Flags → ℕ
mask_bits m = 8 * bit m.n + 4 * bit m.z + 2 * bit m.v + bit m.c

-- the word of each instruction; of a count NN its six low bits
abbrev pub word : Instruction → ℕ
word (Instruction.Control c) = control_word c
word (Instruction.Jump d) = 0o000100 + bits d
word (Instruction.Return r) = 0o000200 + number r
word (Instruction.Flags change m) = flag_base change + mask_bits m
word (Instruction.SwapBytes d) = 0o000300 + bits d
word (Instruction.Branch c z) = branch_base c + byte z
word (Instruction.Call r d) = 0o004000 + 0o100 * number r + bits d
word (Instruction.Single size o d) = size_bit size + single_base o + bits d
word (Instruction.Mark n) = 0o006400 + n % 0o100
word (Instruction.SignExtend d) = 0o006700 + bits d
word (Instruction.ToStatus s) = 0o106400 + bits s
word (Instruction.FromStatus d) = 0o106700 + bits d
word (Instruction.Double size o s d) = size_bit size + double_base o + 0o100 * bits s + bits d
word (Instruction.Add s d) = 0o060000 + 0o100 * bits s + bits d
word (Instruction.Subtract s d) = 0o160000 + 0o100 * bits s + bits d
word (Instruction.ExclusiveOr r d) = 0o074000 + 0o100 * number r + bits d
word (Instruction.Loop r n) = 0o077000 + 0o100 * number r + n % 0o100
word (Instruction.Emulate n) = 0o104000 + n
word (Instruction.Trap n) = 0o104400 + n
word (Instruction.Reserved w) = w
