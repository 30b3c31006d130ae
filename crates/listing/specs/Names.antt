-- The names of registers and instructions.
use Rattle.std.specs.Prelude.{ℕ, List, [], codes}
use Rattle.isa.specs.declared.operand.Register.{Register}
use Rattle.isa.specs.declared.operand.Register.TheVariants.{R0, R1, R2, R3, R4, R5, Sp, Pc}
use Rattle.isa.specs.declared.instruction.Size.{Size}
use Rattle.isa.specs.declared.instruction.Size.TheVariants.{Word, Byte}
use Rattle.isa.specs.declared.instruction.Control.{Control}
use Rattle.isa.specs.declared.instruction.Control.TheVariants.{Halt, Wait, Rti, Bpt, Iot, Reset, Rtt}
use Rattle.isa.specs.declared.instruction.SingleOperation.{SingleOperation}
use Rattle.isa.specs.declared.instruction.SingleOperation.TheVariants.{Clr, Com, Inc, Dec, Neg, Adc, Sbc, Tst, Ror, Rol, Asr, Asl}
use Rattle.isa.specs.declared.instruction.DoubleOperation.{DoubleOperation}
use Rattle.isa.specs.declared.instruction.DoubleOperation.TheVariants.{Mov, Cmp, Bit, Bic, Bis}
use Rattle.isa.specs.declared.instruction.Condition.{Condition}
use Rattle.isa.specs.declared.instruction.Condition.TheVariants.{Br, Bne, Beq, Bge, Blt, Bgt, Ble, Bpl, Bmi, Bhi, Blos, Bvc, Bvs, Bcc, Bcs}

abbrev pub register_name : Register → List ℕ
register_name R0 = codes "R0"
register_name R1 = codes "R1"
register_name R2 = codes "R2"
register_name R3 = codes "R3"
register_name R4 = codes "R4"
register_name R5 = codes "R5"
register_name Sp = codes "SP"
register_name Pc = codes "PC"

abbrev pub control_name : Control → List ℕ
control_name Halt = codes "HALT"
control_name Wait = codes "WAIT"
control_name Rti = codes "RTI"
control_name Bpt = codes "BPT"
control_name Iot = codes "IOT"
control_name Reset = codes "RESET"
control_name Rtt = codes "RTT"

-- one operand
abbrev pub single_name : SingleOperation → List ℕ
single_name Clr = codes "CLR"
single_name Com = codes "COM"
single_name Inc = codes "INC"
single_name Dec = codes "DEC"
single_name Neg = codes "NEG"
single_name Adc = codes "ADC"
single_name Sbc = codes "SBC"
single_name Tst = codes "TST"
single_name Ror = codes "ROR"
single_name Rol = codes "ROL"
single_name Asr = codes "ASR"
single_name Asl = codes "ASL"

-- two operands
abbrev pub double_name : DoubleOperation → List ℕ
double_name Mov = codes "MOV"
double_name Cmp = codes "CMP"
double_name Bit = codes "BIT"
double_name Bic = codes "BIC"
double_name Bis = codes "BIS"

-- branches
abbrev pub condition_name : Condition → List ℕ
condition_name Br = codes "BR"
condition_name Bne = codes "BNE"
condition_name Beq = codes "BEQ"
condition_name Bge = codes "BGE"
condition_name Blt = codes "BLT"
condition_name Bgt = codes "BGT"
condition_name Ble = codes "BLE"
condition_name Bpl = codes "BPL"
condition_name Bmi = codes "BMI"
condition_name Bhi = codes "BHI"
condition_name Blos = codes "BLOS"
condition_name Bvc = codes "BVC"
condition_name Bvs = codes "BVS"
condition_name Bcc = codes "BCC"
condition_name Bcs = codes "BCS"

-- what a byte operation appends to its name
abbrev pub byte_mark : Size → List ℕ
byte_mark Word = []
byte_mark Byte = codes "B"
