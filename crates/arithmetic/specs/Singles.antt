-- The operations of one operand, in the order of their codes. x is below the span of the size; c is the old carry.
use Rattle.std.specs.Prelude.{ℕ, ◌+◌, ◌-◌, ◌*◌, ◌/◌, ◌%◌, Bool, true, false, not, ◌&&◌, pos, ◌+ℤ◌, ◌-ℤ◌, neg_ℤ, ◌==◌}
use Rattle.isa.specs.declared.instruction.Size.{Size}
use Rattle.isa.specs.declared.instruction.SingleOperation.{SingleOperation}
use Rattle.isa.specs.declared.instruction.SingleOperation.TheVariants.{Clr, Com, Inc, Dec, Neg, Adc, Sbc, Tst, Ror, Rol, Asr, Asl}
use Rattle.isa.specs.declared.flags.Flags.{Flags}
use Rattle.arithmetic.specs.declared.outcome.Outcome.{Outcome}
use Rattle.arithmetic.specs.Outcomes.{◌xor◌, result, flags_only}
use Rattle.arithmetic.specs.Status.{bit, odd}
use Rattle.arithmetic.specs.Widths.{span, half, negative, signed, outside}

-- CLR: zero
abbrev pub cleared : Size → Outcome
cleared size = result size 0 false false

-- COM: every bit turned
abbrev pub complemented : Size → ℕ → Outcome
complemented size x = result size (span size - 1 - x) false true

-- INC: one more; V if the signed sum is out of range, C kept
abbrev pub incremented : Size → ℕ → Bool → Outcome
incremented size x c = result size ((x + 1) % span size) (outside size (signed size x +ℤ pos 1)) c

-- DEC: one less; V if the signed difference is out of range, C kept
abbrev pub decremented : Size → ℕ → Bool → Outcome
decremented size x c = result size ((x + (span size - 1)) % span size) (outside size (signed size x -ℤ pos 1)) c

-- NEG: the negative; V if it is out of range, C unless the result is zero
abbrev pub negated : Size → ℕ → Outcome
negated size x =
    let r = (span size - x) % span size in
    result size r (outside size (neg_ℤ (signed size x))) (not (r == 0))

-- ADC: the carry added; with a carry, V if x was the largest signed number, C if it was all ones
abbrev pub carry_added : Size → ℕ → Bool → Outcome
carry_added size x c = result size ((x + bit c) % span size) (c && x == half size - 1) (c && x == span size - 1)

-- SBC: the carry taken away; with a carry, V if x was the smallest signed number, C if it was zero
abbrev pub carry_taken : Size → ℕ → Bool → Outcome
carry_taken size x c = result size ((x + (span size - bit c)) % span size) (c && x == half size) (c && x == 0)

-- TST: the flags of x itself
abbrev pub tested : Size → ℕ → Outcome
tested size x = flags_only size x false false

-- the result r of a shift or a rotation, and the bit that it moved out: V is N xor C
abbrev pub moved : Size → ℕ → Bool → Outcome
moved size r out = result size r (negative size r xor out) out

-- ROR: the carry and x, as one number, moved right by a bit
abbrev pub rotated_right : Size → ℕ → Bool → Outcome
rotated_right size x c = moved size ((bit c * span size + x) / 2) (odd x)

-- ROL: x and the carry, as one number, moved left by a bit
abbrev pub rotated_left : Size → ℕ → Bool → Outcome
rotated_left size x c = moved size ((2 * x + bit c) % span size) (negative size x)

-- ASR: the sign and x, as one number, moved right by a bit
abbrev pub shifted_right : Size → ℕ → Outcome
shifted_right size x = rotated_right size x (negative size x)

-- ASL: x and a zero, as one number, moved left by a bit
abbrev pub shifted_left : Size → ℕ → Outcome
shifted_left size x = rotated_left size x false

-- what each operation makes of an operand below the span
abbrev pub single_below : SingleOperation → Size → ℕ → Bool → Outcome
single_below Clr size x c = cleared size
single_below Com size x c = complemented size x
single_below Inc size x c = incremented size x c
single_below Dec size x c = decremented size x c
single_below Neg size x c = negated size x
single_below Adc size x c = carry_added size x c
single_below Sbc size x c = carry_taken size x c
single_below Tst size x c = tested size x
single_below Ror size x c = rotated_right size x c
single_below Rol size x c = rotated_left size x c
single_below Asr size x c = shifted_right size x
single_below Asl size x c = shifted_left size x

-- what each operation makes of its operand, of which it takes what the size holds, and of the old flags
unfoldable pub single_outcome : SingleOperation → Size → ℕ → Flags → Outcome
single_outcome operation size x flags = single_below operation size (x % span size) flags.c
