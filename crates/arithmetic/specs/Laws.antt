-- What holds of the operations by the subject's own laws, for all operands of their size and all old flags.
use Rattle.std.specs.Prelude.{◌≡◌, ℕ, ◌+◌, ◌*◌, ◌/◌, ◌<◌, Bool, false, not, pos, ◌+ℤ◌, ◌-ℤ◌, neg_ℤ, None, ◌==◌, int_le, int_lt, nat_eq, nat_le, nat_lt}
use Rattle.std.specs.Option.{unwrap_or}
use Rattle.isa.specs.declared.instruction.Size.{Size}
use Rattle.isa.specs.declared.instruction.Size.TheVariants.{Word, Byte}
use Rattle.isa.specs.declared.instruction.SingleOperation.{SingleOperation}
use Rattle.isa.specs.declared.instruction.SingleOperation.TheVariants.{Com, Inc, Dec, Neg, Adc, Sbc, Tst, Ror, Rol, Asr, Asl}
use Rattle.isa.specs.declared.instruction.DoubleOperation.TheVariants.{Mov, Cmp, Bit}
use Rattle.isa.specs.declared.instruction.Condition.{Condition}
use Rattle.isa.specs.declared.instruction.Condition.TheVariants.{Bne, Beq, Bge, Blt, Bgt, Ble, Bhi, Blos, Bcc, Bcs}
use Rattle.isa.specs.declared.flags.Flags.{Flags}
use Rattle.arithmetic.specs.declared.outcome.Outcome.{Outcome}
use Rattle.arithmetic.specs.Branches.{branches}
use Rattle.arithmetic.specs.Doubles.{double_outcome}
use Rattle.arithmetic.specs.Singles.{single_outcome}
use Rattle.arithmetic.specs.Status.{bit, flags_of, with_flags}
use Rattle.arithmetic.specs.Widths.{span, signed, spread}
use Rattle.arithmetic.specs.Words.{add_outcome, subtract_outcome, exclusive_or_outcome, swap_outcome}

-- of every operand of either size, with every old flags
abbrev pub Operands : (Size → ℕ → Flags → Type 0) → Type 0
Operands P = (size : Size) (x : ℕ) (f : Flags) → x < span size → P size x f

-- of every two words
abbrev pub Words : (ℕ → ℕ → Type 0) → Type 0
Words P = (s d : ℕ) → s < span Word → d < span Word → P s d

-- of every two operands of either size, with every old flags
abbrev pub Pairs : (Size → ℕ → ℕ → Flags → Type 0) → Type 0
Pairs P = (size : Size) (s d : ℕ) (f : Flags) → s < span size → d < span size → P size s d f

-- the result of an operation that has one
abbrev pub left : Outcome → ℕ
left o = unwrap_or o.value 0

-- the second operation makes x of what the first has made of it, and of its flags
abbrev pub Undoes : SingleOperation → SingleOperation → Size → ℕ → Flags → Type 0
Undoes second first size x f =
    left (single_outcome second size (left (single_outcome first size x f)) (single_outcome first size x f).flags) ≡ x

-- the second operation gives the carry back that the first has taken in
abbrev pub GivesCarryBack : SingleOperation → SingleOperation → Size → ℕ → Flags → Type 0
GivesCarryBack second first size x f =
    (single_outcome second size (left (single_outcome first size x f)) (single_outcome first size x f).flags).flags.c ≡ f.c

-- what one operation does, another takes back; rotations take the carry back too
pub record Undoing : Type 0 where
  pub subtraction_undoes_addition : Words (λ s d. left (subtract_outcome s (left (add_outcome s d))) ≡ d)
  pub exclusive_or_twice : Words (λ s d. (f g : Flags) → left (exclusive_or_outcome s (left (exclusive_or_outcome s d f)) g) ≡ d)
  pub swap_twice : (x : ℕ) → x < span Word → left (swap_outcome (left (swap_outcome x))) ≡ x
  pub negation_twice : Operands (Undoes Neg Neg)
  pub complement_twice : Operands (Undoes Com Com)
  pub decrement_undoes_increment : Operands (Undoes Dec Inc)
  pub right_undoes_left : Operands (Undoes Ror Rol)
  pub left_undoes_right : Operands (Undoes Rol Ror)
  pub right_gives_carry_back : Operands (GivesCarryBack Ror Rol)
  pub left_gives_carry_back : Operands (GivesCarryBack Rol Ror)

-- result and carry together lose nothing
pub record Carrying : Type 0 where
  pub sum : Words (λ s d. left (add_outcome s d) + span Word * bit (add_outcome s d).flags.c ≡ s + d)
  pub difference : Words (λ s d. left (subtract_outcome s d) + s ≡ d + span Word * bit (subtract_outcome s d).flags.c)
  pub carry_added :
      Operands (λ size x f. left (single_outcome Adc size x f) + span size * bit (single_outcome Adc size x f).flags.c ≡ x + bit f.c)
  pub carry_taken :
      Operands (λ size x f. left (single_outcome Sbc size x f) + bit f.c ≡ x + span size * bit (single_outcome Sbc size x f).flags.c)

-- without overflow the result is exact as a signed number; a shift halves or doubles it
pub record Exactness : Type 0 where
  pub sum : Words (λ s d. (add_outcome s d).flags.v ≡ false → signed Word (left (add_outcome s d)) ≡ signed Word s +ℤ signed Word d)
  pub difference :
      Words (λ s d. (subtract_outcome s d).flags.v ≡ false → signed Word (left (subtract_outcome s d)) ≡ signed Word d -ℤ signed Word s)
  pub negative :
      Operands (λ size x f. (single_outcome Neg size x f).flags.v ≡ false → signed size (left (single_outcome Neg size x f)) ≡ neg_ℤ (signed size x))
  pub carry_added :
      Operands (λ size x f. (single_outcome Adc size x f).flags.v ≡ false → signed size (left (single_outcome Adc size x f)) ≡ signed size x +ℤ pos (bit f.c))
  pub carry_taken :
      Operands (λ size x f. (single_outcome Sbc size x f).flags.v ≡ false → signed size (left (single_outcome Sbc size x f)) ≡ signed size x -ℤ pos (bit f.c))
  pub half :
      Operands
      (λ size x f. signed size x ≡ signed size (left (single_outcome Asr size x f)) +ℤ signed size (left (single_outcome Asr size x f)) +ℤ pos (bit (single_outcome Asr size x f).flags.c))
  pub double : (x : ℕ) (f : Flags) → x < span Word → single_outcome Asl Word x f ≡ add_outcome x x

-- after CMP of s with d, a branch with this condition is taken where the test says so
abbrev pub Tells : Condition → (Size → ℕ → ℕ → Bool) → Type 0
Tells condition test = Pairs (λ size s d f. branches condition (double_outcome Cmp size s d f).flags ≡ test size s d)

-- CMP sets the flags of a SUB with its operands exchanged, and the branches after it tell the order of s and d
pub record Comparing : Type 0 where
  pub as_subtraction : Words (λ s d. (f : Flags) → (double_outcome Cmp Word s d f).flags ≡ (subtract_outcome d s).flags)
  pub equal : Tells Beq (λ size s d. nat_eq s d)
  pub different : Tells Bne (λ size s d. not (s == d))
  pub less : Tells Blt (λ size s d. int_lt (signed size s) (signed size d))
  pub less_or_equal : Tells Ble (λ size s d. int_le (signed size s) (signed size d))
  pub greater : Tells Bgt (λ size s d. int_lt (signed size d) (signed size s))
  pub greater_or_equal : Tells Bge (λ size s d. int_le (signed size d) (signed size s))
  pub lower : Tells Bcs (λ size s d. nat_lt s d)
  pub lower_or_same : Tells Blos (λ size s d. nat_le s d)
  pub higher : Tells Bhi (λ size s d. nat_lt d s)
  pub higher_or_same : Tells Bcc (λ size s d. nat_le d s)

-- the status word gives back the flags that were put into it, and keeps its other bits; a byte spread over a word
-- keeps its signed value
pub record Keeping : Type 0 where
  pub flags_come_back : (status : ℕ) (f : Flags) → flags_of (with_flags status f) ≡ f
  pub own_flags_change_nothing : (status : ℕ) → with_flags status (flags_of status) ≡ status
  pub other_bits_stay : (status : ℕ) (f : Flags) → with_flags status f / 16 ≡ status / 16
  pub spread_keeps_value : (b : ℕ) → b < span Byte → signed Word (spread b) ≡ signed Byte b

-- TST, CMP and BIT have no result, and MOV makes nothing of its destination
pub record Reading : Type 0 where
  pub test : Operands (λ size x f. (single_outcome Tst size x f).value ≡ None)
  pub compare : Pairs (λ size s d f. (double_outcome Cmp size s d f).value ≡ None)
  pub bit_test : Pairs (λ size s d f. (double_outcome Bit size s d f).value ≡ None)
  pub move : (size : Size) (s d e : ℕ) (f : Flags) → double_outcome Mov size s d f ≡ double_outcome Mov size s e f
