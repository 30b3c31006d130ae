-- The digits of a word that is written as a base and fields.
use Rattle.std.proofs.Common.{◌≡◌, ℕ, ◌+◌, ◌-◌, ◌*◌, ◌/◌, ◌%◌, ◌<◌, Bool, true, false, eqb, ltb, ℤ, pos, negsuc, refl, ap, ◌∙◌, arith, lit<, ltb-true}
use Rattle.isa.specs.declared.operand.Register.{Register}
use Rattle.isa.specs.declared.operand.Operand.{Operand}
use Rattle.isa.specs.declared.operand.Operand.TheVariants.{Direct, Deferred, Increment, IncrementDeferred, Decrement, DecrementDeferred, Index, IndexDeferred}
use Rattle.isa.specs.Reading.{register, mode, operand, offset, mask}
use Rattle.isa.specs.Word.{number, bits, byte, bit, mask_bits}
use Rattle.isa_laws.specs.OneReading.{in_byte}
use Rattle.isa.specs.declared.flags.Flags.{Flags}
use Rattle.std.proofs.lemmas.Bool.Decides.{nat_tests}

pub number_digit : (r : Register) → number r < 8
number_digit r = grind arith

register_number : (r : Register) → register (number r) ≡ r
register_number r = grind arith

-- a register digit is read as its register
pub register_at : (digit : ℕ) (r : Register) → digit ≡ number r → register digit ≡ r
register_at digit r e = ap register e ∙ register_number r

mode_at : (w k m : ℕ) (r : Register) → m < 8 → w ≡ 0o100 * k + 0o10 * m + number r → operand w ≡ mode m r
mode_at w k m r lt e =
    let n = number_digit r in
    let p : w / 0o10 % 8 ≡ m = omega arith in
    let q : w % 8 ≡ number r = omega arith in
    ap (λ (x : ℕ). mode x (register (w % 8))) p ∙ ap (mode m) (register_at (w % 8) r q)

-- a mode digit and a register digit are read as their operand
pub operand_at : (w k : ℕ) (d : Operand) → w ≡ 0o100 * k + bits d → operand w ≡ d
operand_at w k (Direct r) e = mode_at w k 0 r (lit< tt) (omega arith)
operand_at w k (Deferred r) e = mode_at w k 1 r (lit< tt) (omega arith)
operand_at w k (Increment r) e = mode_at w k 2 r (lit< tt) (omega arith)
operand_at w k (IncrementDeferred r) e = mode_at w k 3 r (lit< tt) (omega arith)
operand_at w k (Decrement r) e = mode_at w k 4 r (lit< tt) (omega arith)
operand_at w k (DecrementDeferred r) e = mode_at w k 5 r (lit< tt) (omega arith)
operand_at w k (Index r) e = mode_at w k 6 r (lit< tt) (omega arith)
operand_at w k (IndexDeferred r) e = mode_at w k 7 r (lit< tt) (omega arith)

pub bits_small : (d : Operand) → bits d < 0o100
bits_small d = grind (arith, number_digit)

-- the digits of a word before the two last, its first two as one number
pub record Digits (w a b c : ℕ) : Type 0 where
  pub first : w / 0o10000 ≡ a
  pub second : w / 0o1000 % 8 ≡ b
  pub third : w / 0o100 % 8 ≡ c

pub digits_of
    : (a b c y : ℕ) → b < 8 → c < 8 → y < 0o100 →
    Digits (0o10000 * a + 0o1000 * b + 0o100 * c + y) a b c
digits_of a b c y p q r = record { first = omega arith; second = omega arith; third = omega arith }

pub byte_small : (z : ℤ) → in_byte z ≡ true → byte z < 0o400
byte_small (pos n) h = omega (arith, ltb-true n 0o200 h)
byte_small (negsuc n) h = omega arith

-- a low byte is read as its signed number
pub offset_at : (w k : ℕ) (z : ℤ) → in_byte z ≡ true → w ≡ 0o400 * k + byte z → offset w ≡ z
offset_at w k (pos n) h e =
    let lt = ltb-true n 0o200 h in
    let low : w % 0o400 ≡ n = omega arith in
    rw low (rw h refl)
offset_at w k (negsuc n) h e =
    let lt = ltb-true n 0o200 h in
    let low : w % 0o400 ≡ 0o377 - n = omega arith in
    let high : ltb (0o377 - n) 0o200 ≡ false = grind (arith, nat_tests) in
    let back : 0o377 - (0o377 - n) ≡ n = omega arith in
    rw low (rw high (ap negsuc back))

-- where a branch stands: its word in steps of 000400, and its offset
pub record Branching (w k : ℕ) (z : ℤ) : Type 0 where
  pub step : w / 0o400 ≡ k
  pub said : offset w ≡ z

pub branching_of : (k : ℕ) (z : ℤ) → in_byte z ≡ true → Branching (0o400 * k + byte z) k z
branching_of k z h =
    let b = byte_small z h in
    record { step = omega arith; said = offset_at (0o400 * k + byte z) k z h refl }

bit_at : (x : ℕ) (b : Bool) → x ≡ bit b → eqb x 1 ≡ b
bit_at x b e = grind arith

pub bit_small : (b : Bool) → bit b < 2
bit_small b = grind arith

-- four low bits are read as their flags
pub mask_at : (w k : ℕ) (m : Flags) → w ≡ 0o20 * k + mask_bits m → mask w ≡ m
mask_at w k m e =
    let n = bit_small m.n in
    let z = bit_small m.z in
    let v = bit_small m.v in
    let c = bit_small m.c in
    let n_is : w / 8 % 2 ≡ bit m.n = omega arith in
    let z_is : w / 4 % 2 ≡ bit m.z = omega arith in
    let v_is : w / 2 % 2 ≡ bit m.v = omega arith in
    let c_is : w % 2 ≡ bit m.c = omega arith in
    rw (bit_at _ _ n_is, bit_at _ _ z_is, bit_at _ _ v_is, bit_at _ _ c_is) refl

pub mask_small : (m : Flags) → mask_bits m < 0o20
mask_small m = omega (arith, bit_small m.n, bit_small m.z, bit_small m.v, bit_small m.c)
