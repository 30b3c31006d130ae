-- The mnemonic that the first three characters name, whatever they are.
use Rattle.std.specs.Prelude.{ℕ, cond, ◌&&◌, List, ◌==◌, slice_index}
use Rattle.isa.specs.declared.instruction.Control.TheVariants.{Halt, Wait, Rti, Bpt, Iot, Reset, Rtt}
use Rattle.isa.specs.declared.instruction.SingleOperation.TheVariants.{Clr, Com, Inc, Dec, Neg, Adc, Sbc, Tst, Ror, Rol, Asr, Asl}
use Rattle.isa.specs.declared.instruction.DoubleOperation.TheVariants.{Mov, Cmp, Bit, Bic, Bis}
use Rattle.isa.specs.declared.instruction.Condition.TheVariants.{Br, Bne, Beq, Bge, Blt, Bgt, Ble, Bpl, Bmi, Bhi, Blos, Bvc, Bvs, Bcc, Bcs}
use Rattle.line_reader.specs.declared.parsed.Mnemonic.{Mnemonic}
use Rattle.line_reader.specs.declared.parsed.Numbered.{Numbered}
use Rattle.line_reader.specs.declared.parsed.OneOperand.{OneOperand}
use Rattle.line_reader.specs.declared.parsed.TwoOperands.{TwoOperands}
use Rattle.line_reader.specs.declared.parsed.RegisterFirst.{RegisterFirst}

-- after B
abbrev pub after_b : ℕ → ℕ → Mnemonic
after_b b c =
    cond (b == 80 && c == 84) (Mnemonic.Control Bpt) (
    cond (b == 82 && c == 32) (Mnemonic.Branch Br) (
    cond (b == 78 && c == 69) (Mnemonic.Branch Bne) (
    cond (b == 69 && c == 81) (Mnemonic.Branch Beq) (
    cond (b == 71 && c == 69) (Mnemonic.Branch Bge) (
    cond (b == 76 && c == 84) (Mnemonic.Branch Blt) (
    cond (b == 71 && c == 84) (Mnemonic.Branch Bgt) (
    cond (b == 76 && c == 69) (Mnemonic.Branch Ble) (
    cond (b == 80 && c == 76) (Mnemonic.Branch Bpl) (
    cond (b == 77 && c == 73) (Mnemonic.Branch Bmi) (
    cond (b == 72 && c == 73) (Mnemonic.Branch Bhi) (
    cond (b == 76 && c == 79) (Mnemonic.Branch Blos) (
    cond (b == 86 && c == 67) (Mnemonic.Branch Bvc) (
    cond (b == 86 && c == 83) (Mnemonic.Branch Bvs) (
    cond (b == 67 && c == 67) (Mnemonic.Branch Bcc) (
    cond (b == 67 && c == 83) (Mnemonic.Branch Bcs) (
    cond (b == 73 && c == 84) (Mnemonic.Two (TwoOperands.Double Bit)) (
    cond (b == 73 && c == 67) (Mnemonic.Two (TwoOperands.Double Bic)) (
    cond (b == 73 && c == 83) (Mnemonic.Two (TwoOperands.Double Bis)) (
    Mnemonic.Number Numbered.Data)))))))))))))))))))

-- after C
abbrev pub after_c : ℕ → ℕ → Mnemonic
after_c b c =
    cond (b == 76 && c == 67) (Mnemonic.Flags 0o241) (
    cond (b == 76 && c == 86) (Mnemonic.Flags 0o242) (
    cond (b == 76 && c == 90) (Mnemonic.Flags 0o244) (
    cond (b == 76 && c == 78) (Mnemonic.Flags 0o250) (
    cond (b == 67 && c == 67) (Mnemonic.Flags 0o257) (
    cond (b == 76 && c == 82) (Mnemonic.One (OneOperand.Single Clr)) (
    cond (b == 79 && c == 77) (Mnemonic.One (OneOperand.Single Com)) (
    cond (b == 77 && c == 80) (Mnemonic.Two (TwoOperands.Double Cmp)) (
    Mnemonic.Number Numbered.Data))))))))

-- after S
abbrev pub after_s : ℕ → ℕ → Mnemonic
after_s b c =
    cond (b == 69 && c == 67) (Mnemonic.Flags 0o261) (
    cond (b == 69 && c == 86) (Mnemonic.Flags 0o262) (
    cond (b == 69 && c == 90) (Mnemonic.Flags 0o264) (
    cond (b == 69 && c == 78) (Mnemonic.Flags 0o270) (
    cond (b == 67 && c == 67) (Mnemonic.Flags 0o277) (
    cond (b == 87 && c == 65) (Mnemonic.One OneOperand.SwapBytes) (
    cond (b == 66 && c == 67) (Mnemonic.One (OneOperand.Single Sbc)) (
    cond (b == 88 && c == 84) (Mnemonic.One OneOperand.SignExtend) (
    cond (b == 85 && c == 66) (Mnemonic.Two TwoOperands.Subtract) (
    cond (b == 79 && c == 66) (Mnemonic.Loop) (
    Mnemonic.Number Numbered.Data))))))))))

-- after another letter
abbrev pub other : ℕ → ℕ → ℕ → Mnemonic
other a b c =
    cond (a == 72 && b == 65 && c == 76) (Mnemonic.Control Halt) (
    cond (a == 87 && b == 65 && c == 73) (Mnemonic.Control Wait) (
    cond (a == 82 && b == 84 && c == 73) (Mnemonic.Control Rti) (
    cond (a == 73 && b == 79 && c == 84) (Mnemonic.Control Iot) (
    cond (a == 82 && b == 69 && c == 83) (Mnemonic.Control Reset) (
    cond (a == 82 && b == 84 && c == 84) (Mnemonic.Control Rtt) (
    cond (a == 78 && b == 79 && c == 80) (Mnemonic.Flags 0o240) (
    cond (a == 82 && b == 84 && c == 83) (Mnemonic.Return) (
    cond (a == 74 && b == 77 && c == 80) (Mnemonic.One OneOperand.Jump) (
    cond (a == 74 && b == 83 && c == 82) (Mnemonic.Register RegisterFirst.Call) (
    cond (a == 88 && b == 79 && c == 82) (Mnemonic.Register RegisterFirst.ExclusiveOr) (
    cond (a == 73 && b == 78 && c == 67) (Mnemonic.One (OneOperand.Single Inc)) (
    cond (a == 68 && b == 69 && c == 67) (Mnemonic.One (OneOperand.Single Dec)) (
    cond (a == 78 && b == 69 && c == 71) (Mnemonic.One (OneOperand.Single Neg)) (
    cond (a == 65 && b == 68 && c == 67) (Mnemonic.One (OneOperand.Single Adc)) (
    cond (a == 84 && b == 83 && c == 84) (Mnemonic.One (OneOperand.Single Tst)) (
    cond (a == 82 && b == 79 && c == 82) (Mnemonic.One (OneOperand.Single Ror)) (
    cond (a == 82 && b == 79 && c == 76) (Mnemonic.One (OneOperand.Single Rol)) (
    cond (a == 65 && b == 83 && c == 82) (Mnemonic.One (OneOperand.Single Asr)) (
    cond (a == 65 && b == 83 && c == 76) (Mnemonic.One (OneOperand.Single Asl)) (
    cond (a == 77 && b == 84 && c == 80) (Mnemonic.One OneOperand.ToStatus) (
    cond (a == 77 && b == 70 && c == 80) (Mnemonic.One OneOperand.FromStatus) (
    cond (a == 77 && b == 79 && c == 86) (Mnemonic.Two (TwoOperands.Double Mov)) (
    cond (a == 65 && b == 68 && c == 68) (Mnemonic.Two TwoOperands.Add) (
    cond (a == 77 && b == 65 && c == 82) (Mnemonic.Number Numbered.Mark) (
    cond (a == 69 && b == 77 && c == 84) (Mnemonic.Number Numbered.Emulate) (
    cond (a == 84 && b == 82 && c == 65) (Mnemonic.Number Numbered.Trap) (
    Mnemonic.Number Numbered.Data)))))))))))))))))))))))))))

-- by the first letter
abbrev pub by_letter : ℕ → ℕ → ℕ → Mnemonic
by_letter a b c = cond (a == 66) (after_b b c) (cond (a == 67) (after_c b c) (cond (a == 83) (after_s b c) (other a b c)))

unfoldable pub mnemonic_in : List ℕ → Mnemonic
mnemonic_in s = by_letter (slice_index s 0) (slice_index s 1) (slice_index s 2)
