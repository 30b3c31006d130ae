-- The word of a listed instruction is read as that instruction.
use Rattle.std.proofs.Common.{◌≡◌, ℕ, suc, ◌+◌, ◌-◌, ◌*◌, ◌/◌, ◌%◌, ◌<◌, ◌≤◌, true, false, ltb, ℤ, refl, ap, ◌∙◌, arith, lit<, lit≤, ltb-true}
use native.Mathlib.Decide.{dec_lt}
use Rattle.std.proofs.lemmas.Bool.Decides.{nat_tests}
use Rattle.isa.specs.declared.operand.Register.{Register}
use Rattle.isa.specs.declared.operand.Register.TheVariants.{R0, R1, R2, R3, R4, R5, Sp, Pc}
use Rattle.isa.specs.declared.operand.Operand.{Operand}
use Rattle.isa.specs.declared.instruction.Size.{Size}
use Rattle.isa.specs.declared.instruction.Size.TheVariants.{Word, Byte}
use Rattle.isa.specs.declared.instruction.Control.{Control}
use Rattle.isa.specs.declared.instruction.SingleOperation.{SingleOperation}
use Rattle.isa.specs.declared.instruction.SingleOperation.TheVariants.{Clr, Com, Inc, Dec, Neg, Adc, Sbc, Tst, Ror, Rol, Asr, Asl}
use Rattle.isa.specs.declared.instruction.DoubleOperation.{DoubleOperation}
use Rattle.isa.specs.declared.instruction.DoubleOperation.TheVariants.{Mov, Cmp, Bit, Bic, Bis}
use Rattle.isa.specs.declared.instruction.Condition.{Condition}
use Rattle.isa.specs.declared.instruction.Condition.TheVariants.{Br, Bne, Beq, Bge, Blt, Bgt, Ble, Bpl, Bmi, Bhi, Blos, Bvc, Bvs, Bcc, Bcs}
use Rattle.isa.specs.declared.instruction.FlagChange.{FlagChange}
use Rattle.isa.specs.declared.instruction.FlagChange.TheVariants.{Clear, Set}
use Rattle.isa.specs.declared.flags.Flags.{Flags}
use Rattle.isa.specs.declared.instruction.Instruction.{Instruction}
use Rattle.isa.specs.Reading.{operand, offset, five, low_condition, low_branch, high_condition, high_branch, reading}
use Rattle.isa.specs.Word.{number, bits, byte, mask_bits, size_bit, control_word, single_base, double_base, branch_base, flag_base, word}
use Rattle.isa_laws.specs.OneReading.{in_byte, listed}
use Rattle.isa_laws.proofs.Digits.{number_digit, register_at, operand_at, bits_small, Digits, digits_of, branching_of, byte_small, mask_at, mask_small}

control_said : (c : Control) → reading (control_word c) ≡ Instruction.Control c
unfolding reading
control_said c = grind arith

return_said : (r : Register) → reading (0o000200 + number r) ≡ Instruction.Return r
unfolding reading
return_said R0 = refl
return_said R1 = refl
return_said R2 = refl
return_said R3 = refl
return_said R4 = refl
return_said R5 = refl
return_said Sp = refl
return_said Pc = refl

flags_said : (change : FlagChange) (m : Flags) → reading (flag_base change + mask_bits m) ≡ Instruction.Flags change m
unfolding reading
flags_said Clear m =
    let w = 0o000240 + mask_bits m in
    let small = mask_small m in
    let g : Digits w 0 0 2 = record { first = omega arith; second = omega arith; third = omega arith } in
    let quarter : w / 0o20 % 4 ≡ 2 = omega arith in
    rw (g.first, g.second, g.third, quarter) (ap (Instruction.Flags Clear) (mask_at w 10 m (omega arith)))
flags_said Set m =
    let w = 0o000260 + mask_bits m in
    let small = mask_small m in
    let g : Digits w 0 0 2 = record { first = omega arith; second = omega arith; third = omega arith } in
    let quarter : w / 0o20 % 4 ≡ 3 = omega arith in
    rw (g.first, g.second, g.third, quarter) (ap (Instruction.Flags Set) (mask_at w 11 m (omega arith)))

-- one operand after three digits that name the instruction
operand-said
    : (a b c : ℕ) (make : Operand → Instruction) → b < 8 → c < 8 →
    ((w : ℕ) → Digits w a b c → reading w ≡ make (operand w)) →
    (d : Operand) → reading (0o10000 * a + 0o1000 * b + 0o100 * c + bits d) ≡ make d
operand-said a b c make p q row d =
    let w = 0o10000 * a + 0o1000 * b + 0o100 * c + bits d in
    row w (digits_of a b c (bits d) p q (bits_small d))
    ∙ ap make (operand_at w (0o100 * a + 0o10 * b + c) d (omega arith))

jump_said : (d : Operand) → reading (0o000100 + bits d) ≡ Instruction.Jump d
unfolding reading
jump_said = operand-said 0 0 1 Instruction.Jump (lit< tt) (lit< tt) (λ w g. rw (g.first, g.second, g.third) refl)

swap_said : (d : Operand) → reading (0o000300 + bits d) ≡ Instruction.SwapBytes d
unfolding reading
swap_said = operand-said 0 0 3 Instruction.SwapBytes (lit< tt) (lit< tt) (λ w g. rw (g.first, g.second, g.third) refl)

sign_said : (d : Operand) → reading (0o006700 + bits d) ≡ Instruction.SignExtend d
unfolding reading
sign_said = operand-said 0 6 7 Instruction.SignExtend (lit< tt) (lit< tt) (λ w g. rw (g.first, g.second, g.third) refl)

to_status_said : (d : Operand) → reading (0o106400 + bits d) ≡ Instruction.ToStatus d
unfolding reading
to_status_said = operand-said 8 6 4 Instruction.ToStatus (lit< tt) (lit< tt) (λ w g. rw (g.first, g.second, g.third) refl)

from_status_said : (d : Operand) → reading (0o106700 + bits d) ≡ Instruction.FromStatus d
unfolding reading
from_status_said = operand-said 8 6 7 Instruction.FromStatus (lit< tt) (lit< tt) (λ w g. rw (g.first, g.second, g.third) refl)

-- the first two digits of an operation of one operand, as one number
abbrev group : Size → ℕ
group Word = 0
group Byte = 8

five-said
    : (size : Size) (c : ℕ) → c < 8 → (d : Operand) →
    reading (0o10000 * group size + 0o1000 * 5 + 0o100 * c + bits d) ≡ Instruction.Single size (five c) d
unfolding reading
five-said Word c lt =
    operand-said 0 5 c (Instruction.Single Word (five c)) (lit< tt) lt (λ w g. rw (g.first, g.second, g.third) refl)
five-said Byte c lt =
    operand-said 8 5 c (Instruction.Single Byte (five c)) (lit< tt) lt (λ w g. rw (g.first, g.second, g.third) refl)

single-said
    : (size : Size) (o : SingleOperation) (d : Operand) →
    reading (size_bit size + single_base o + bits d) ≡ Instruction.Single size o d
unfolding reading
single-said Word Clr = five-said Word 0 (lit< tt)
single-said Byte Clr = five-said Byte 0 (lit< tt)
single-said Word Com = five-said Word 1 (lit< tt)
single-said Byte Com = five-said Byte 1 (lit< tt)
single-said Word Inc = five-said Word 2 (lit< tt)
single-said Byte Inc = five-said Byte 2 (lit< tt)
single-said Word Dec = five-said Word 3 (lit< tt)
single-said Byte Dec = five-said Byte 3 (lit< tt)
single-said Word Neg = five-said Word 4 (lit< tt)
single-said Byte Neg = five-said Byte 4 (lit< tt)
single-said Word Adc = five-said Word 5 (lit< tt)
single-said Byte Adc = five-said Byte 5 (lit< tt)
single-said Word Sbc = five-said Word 6 (lit< tt)
single-said Byte Sbc = five-said Byte 6 (lit< tt)
single-said Word Tst = five-said Word 7 (lit< tt)
single-said Byte Tst = five-said Byte 7 (lit< tt)
single-said Word Ror = operand-said 0 6 0 (Instruction.Single Word Ror) (lit< tt) (lit< tt) (λ w g. rw (g.first, g.second, g.third) refl)
single-said Byte Ror = operand-said 8 6 0 (Instruction.Single Byte Ror) (lit< tt) (lit< tt) (λ w g. rw (g.first, g.second, g.third) refl)
single-said Word Rol = operand-said 0 6 1 (Instruction.Single Word Rol) (lit< tt) (lit< tt) (λ w g. rw (g.first, g.second, g.third) refl)
single-said Byte Rol = operand-said 8 6 1 (Instruction.Single Byte Rol) (lit< tt) (lit< tt) (λ w g. rw (g.first, g.second, g.third) refl)
single-said Word Asr = operand-said 0 6 2 (Instruction.Single Word Asr) (lit< tt) (lit< tt) (λ w g. rw (g.first, g.second, g.third) refl)
single-said Byte Asr = operand-said 8 6 2 (Instruction.Single Byte Asr) (lit< tt) (lit< tt) (λ w g. rw (g.first, g.second, g.third) refl)
single-said Word Asl = operand-said 0 6 3 (Instruction.Single Word Asl) (lit< tt) (lit< tt) (λ w g. rw (g.first, g.second, g.third) refl)
single-said Byte Asl = operand-said 8 6 3 (Instruction.Single Byte Asl) (lit< tt) (lit< tt) (λ w g. rw (g.first, g.second, g.third) refl)

-- two operands after the digits that name the instruction
operands-said
    : (a : ℕ) (make : Operand → Operand → Instruction) →
    ((w : ℕ) → w / 0o10000 ≡ a → reading w ≡ make (operand (w / 0o100)) (operand w)) →
    (s d : Operand) → reading (0o10000 * a + 0o100 * bits s + bits d) ≡ make s d
operands-said a make row s d =
    let w = 0o10000 * a + 0o100 * bits s + bits d in
    let low = bits_small d in
    let high = bits_small s in
    let source : operand (w / 0o100) ≡ s = operand_at (w / 0o100) a s (omega arith) in
    let destination : operand w ≡ d = operand_at w (0o100 * a + bits s) d (omega arith) in
    row w (omega arith) ∙ ap (λ (x : Operand). make x (operand w)) source ∙ ap (make s) destination

double-said
    : (size : Size) (o : DoubleOperation) (s d : Operand) →
    reading (size_bit size + double_base o + 0o100 * bits s + bits d) ≡ Instruction.Double size o s d
unfolding reading
double-said Word Mov = operands-said 1 (Instruction.Double Word Mov) (λ w e. rw e refl)
double-said Word Cmp = operands-said 2 (Instruction.Double Word Cmp) (λ w e. rw e refl)
double-said Word Bit = operands-said 3 (Instruction.Double Word Bit) (λ w e. rw e refl)
double-said Word Bic = operands-said 4 (Instruction.Double Word Bic) (λ w e. rw e refl)
double-said Word Bis = operands-said 5 (Instruction.Double Word Bis) (λ w e. rw e refl)
double-said Byte Mov = operands-said 9 (Instruction.Double Byte Mov) (λ w e. rw e refl)
double-said Byte Cmp = operands-said 10 (Instruction.Double Byte Cmp) (λ w e. rw e refl)
double-said Byte Bit = operands-said 11 (Instruction.Double Byte Bit) (λ w e. rw e refl)
double-said Byte Bic = operands-said 12 (Instruction.Double Byte Bic) (λ w e. rw e refl)
double-said Byte Bis = operands-said 13 (Instruction.Double Byte Bis) (λ w e. rw e refl)

add_said : (s d : Operand) → reading (0o060000 + 0o100 * bits s + bits d) ≡ Instruction.Add s d
unfolding reading
add_said = operands-said 6 Instruction.Add (λ w e. rw e refl)

subtract_said : (s d : Operand) → reading (0o160000 + 0o100 * bits s + bits d) ≡ Instruction.Subtract s d
unfolding reading
subtract_said = operands-said 14 Instruction.Subtract (λ w e. rw e refl)

-- a register digit and six bits after two digits
register_digits : (a b y : ℕ) (r : Register) → b < 8 → y < 0o100 → Digits (0o10000 * a + 0o1000 * b + 0o100 * number r + y) a b (number r)
register_digits a b y r p q = digits_of a b (number r) y p (number_digit r) q

call_said : (r : Register) (d : Operand) → reading (0o004000 + 0o100 * number r + bits d) ≡ Instruction.Call r d
unfolding reading
call_said r d =
    let w = 0o004000 + 0o100 * number r + bits d in
    let g = register_digits 0 4 (bits d) r (lit< tt) (bits_small d) in
    rw (g.first, g.second)
    (ap (λ (x : Register). Instruction.Call x (operand w)) (register_at (w / 0o100 % 8) r g.third)
    ∙ ap (Instruction.Call r) (operand_at w (0o40 + number r) d (omega arith)))

exclusive_or_said : (r : Register) (d : Operand) → reading (0o074000 + 0o100 * number r + bits d) ≡ Instruction.ExclusiveOr r d
unfolding reading
exclusive_or_said r d =
    let w = 0o074000 + 0o100 * number r + bits d in
    let g = register_digits 7 4 (bits d) r (lit< tt) (bits_small d) in
    rw (g.first, g.second)
    (ap (λ (x : Register). Instruction.ExclusiveOr x (operand w)) (register_at (w / 0o100 % 8) r g.third)
    ∙ ap (Instruction.ExclusiveOr r) (operand_at w (0o740 + number r) d (omega arith)))

loop-said : (r : Register) (n : ℕ) → n < 0o100 → reading (0o077000 + 0o100 * number r + n % 0o100) ≡ Instruction.Loop r n
unfolding reading
loop-said r n lt =
    let w = 0o077000 + 0o100 * number r + n % 0o100 in
    let g = register_digits 7 7 (n % 0o100) r (lit< tt) (omega arith) in
    let low : w % 0o100 ≡ n = omega arith in
    rw (g.first, g.second)
    (ap (λ (x : Register). Instruction.Loop x (w % 0o100)) (register_at (w / 0o100 % 8) r g.third)
    ∙ ap (Instruction.Loop r) low)

mark_said : (n : ℕ) → n < 0o100 → reading (0o006400 + n % 0o100) ≡ Instruction.Mark n
unfolding reading
mark_said n lt =
    let w = 0o006400 + n % 0o100 in
    let g : Digits w 0 6 4 = record { first = omega arith; second = omega arith; third = omega arith } in
    let low : w % 0o100 ≡ n = omega arith in
    rw (g.first, g.second, g.third) (ap Instruction.Mark low)

emulate_said : (n : ℕ) → n < 0o400 → reading (0o104000 + n) ≡ Instruction.Emulate n
unfolding reading
emulate_said n lt =
    let w = 0o104000 + n in
    let first : w / 0o10000 ≡ 8 = omega arith in
    let second : w / 0o1000 % 8 ≡ 4 = omega arith in
    let half : ltb (w % 0o1000) 0o400 ≡ true = grind (arith, nat_tests) in
    let low : w % 0o400 ≡ n = omega arith in
    rw (first, second, half) (ap Instruction.Emulate low)

trap_said : (n : ℕ) → n < 0o400 → reading (0o104400 + n) ≡ Instruction.Trap n
unfolding reading
trap_said n lt =
    let w = 0o104400 + n in
    let first : w / 0o10000 ≡ 8 = omega arith in
    let second : w / 0o1000 % 8 ≡ 4 = omega arith in
    let half : ltb (w % 0o1000) 0o400 ≡ false = grind (arith, nat_tests) in
    let low : w % 0o400 ≡ n = omega arith in
    rw (first, second, half) (ap Instruction.Trap low)

low_branch_lem : (w : ℕ) → 0o400 ≤ w → w < 0o4000 → reading w ≡ low_branch w
unfolding reading
low_branch_lem w from to =
    let first : w / 0o10000 ≡ 0 = omega arith in
    elim (dec_lt w 0o1000) [
      | yes a ↦
          let second : w / 0o1000 % 8 ≡ 0 = omega arith in
          let third : w / 0o100 % 8 ≡ suc (suc (suc (suc (w / 0o100 % 8 - 4)))) = omega arith in
          rw (first, second, third) refl
      | no a ↦ elim (dec_lt w 0o2000) [
        | yes b ↦ let second : w / 0o1000 % 8 ≡ 1 = omega arith in rw (first, second) refl
        | no b ↦ elim (dec_lt w 0o3000) [
          | yes c ↦ let second : w / 0o1000 % 8 ≡ 2 = omega arith in rw (first, second) refl
          | no c ↦ let second : w / 0o1000 % 8 ≡ 3 = omega arith in rw (first, second) refl
        ]
      ]
    ]

high_branch_lem : (w : ℕ) → 0o100000 ≤ w → w < 0o104000 → reading w ≡ high_branch w
unfolding reading
high_branch_lem w from to =
    let first : w / 0o10000 ≡ 8 = omega arith in
    elim (dec_lt w 0o101000) [
      | yes a ↦ let second : w / 0o1000 % 8 ≡ 0 = omega arith in rw (first, second) refl
      | no a ↦ elim (dec_lt w 0o102000) [
        | yes b ↦ let second : w / 0o1000 % 8 ≡ 1 = omega arith in rw (first, second) refl
        | no b ↦ elim (dec_lt w 0o103000) [
          | yes c ↦ let second : w / 0o1000 % 8 ≡ 2 = omega arith in rw (first, second) refl
          | no c ↦ let second : w / 0o1000 % 8 ≡ 3 = omega arith in rw (first, second) refl
        ]
      ]
    ]

low-said
    : (k : ℕ) (z : ℤ) → in_byte z ≡ true → 1 ≤ k → k < 8 →
    reading (0o400 * k + byte z) ≡ Instruction.Branch (low_condition k) z
low-said k z h from to =
    let w = 0o400 * k + byte z in
    let g = branching_of k z h in
    let b = byte_small z h in
    low_branch_lem w (omega arith) (omega arith)
    ∙ ap (λ (x : ℕ). Instruction.Branch (low_condition x) (offset w)) g.step
    ∙ ap (Instruction.Branch (low_condition k)) g.said

high-said
    : (k : ℕ) (z : ℤ) → in_byte z ≡ true → k < 8 →
    reading (0o400 * (0o200 + k) + byte z) ≡ Instruction.Branch (high_condition k) z
high-said k z h to =
    let w = 0o400 * (0o200 + k) + byte z in
    let g = branching_of (0o200 + k) z h in
    let b = byte_small z h in
    let step : w / 0o400 % 8 ≡ k = omega arith in
    high_branch_lem w (omega arith) (omega arith)
    ∙ ap (λ (x : ℕ). Instruction.Branch (high_condition x) (offset w)) step
    ∙ ap (Instruction.Branch (high_condition k)) g.said

branch_said : (c : Condition) (z : ℤ) → in_byte z ≡ true → reading (branch_base c + byte z) ≡ Instruction.Branch c z
branch_said Br z h = low-said 1 z h (lit≤ tt) (lit< tt)
branch_said Bne z h = low-said 2 z h (lit≤ tt) (lit< tt)
branch_said Beq z h = low-said 3 z h (lit≤ tt) (lit< tt)
branch_said Bge z h = low-said 4 z h (lit≤ tt) (lit< tt)
branch_said Blt z h = low-said 5 z h (lit≤ tt) (lit< tt)
branch_said Bgt z h = low-said 6 z h (lit≤ tt) (lit< tt)
branch_said Ble z h = low-said 7 z h (lit≤ tt) (lit< tt)
branch_said Bpl z h = high-said 0 z h (lit< tt)
branch_said Bmi z h = high-said 1 z h (lit< tt)
branch_said Bhi z h = high-said 2 z h (lit< tt)
branch_said Blos z h = high-said 3 z h (lit< tt)
branch_said Bvc z h = high-said 4 z h (lit< tt)
branch_said Bvs z h = high-said 5 z h (lit< tt)
branch_said Bcc z h = high-said 6 z h (lit< tt)
branch_said Bcs z h = high-said 7 z h (lit< tt)

-- the word of a listed instruction is read as that instruction
pub listed_said : (i : Instruction) → listed i ≡ true → reading (word i) ≡ i
listed_said (Instruction.Control c) h = control_said c
listed_said (Instruction.Jump d) h = jump_said d
listed_said (Instruction.Return r) h = return_said r
listed_said (Instruction.Flags change m) h = flags_said change m
listed_said (Instruction.SwapBytes d) h = swap_said d
listed_said (Instruction.Branch c z) h = branch_said c z h
listed_said (Instruction.Call r d) h = call_said r d
listed_said (Instruction.Single size o d) h = single-said size o d
listed_said (Instruction.Mark n) h = mark_said n (ltb-true n 0o100 h)
listed_said (Instruction.SignExtend d) h = sign_said d
listed_said (Instruction.ToStatus s) h = to_status_said s
listed_said (Instruction.FromStatus d) h = from_status_said d
listed_said (Instruction.Double size o s d) h = double-said size o s d
listed_said (Instruction.Add s d) h = add_said s d
listed_said (Instruction.Subtract s d) h = subtract_said s d
listed_said (Instruction.ExclusiveOr r d) h = exclusive_or_said r d
listed_said (Instruction.Loop r n) h = loop-said r n (ltb-true n 0o100 h)
listed_said (Instruction.Emulate n) h = emulate_said n (ltb-true n 0o400 h)
listed_said (Instruction.Trap n) h = trap_said n (ltb-true n 0o400 h)
listed_said (Instruction.Reserved w) h = cc
