-- The operations of a source s and a destination d, in the order of their codes; c is the old carry.
use Rattle.std.specs.Prelude.{ℕ, ◌-◌, ◌%◌, Bool, false, None, bit_and, bit_or}
use Rattle.isa.specs.declared.instruction.Size.{Size}
use Rattle.isa.specs.declared.instruction.DoubleOperation.{DoubleOperation}
use Rattle.isa.specs.declared.instruction.DoubleOperation.TheVariants.{Mov, Cmp, Bit, Bic, Bis}
use Rattle.isa.specs.declared.flags.Flags.{Flags}
use Rattle.arithmetic.specs.declared.outcome.Outcome.{Outcome}
use Rattle.arithmetic.specs.Outcomes.{logical, flags_only}
use Rattle.arithmetic.specs.Sums.{difference_of}
use Rattle.arithmetic.specs.Widths.{span}

-- CMP: the flags of the source less the destination
abbrev pub compared : Size → ℕ → ℕ → Outcome
compared size s d = record { value = None; flags = (difference_of size s d).flags }

-- what each operation makes of operands below the span: MOV the source, BIT the bits of both, BIC the destination
-- without the source's bits, BIS with them
abbrev pub double_below : DoubleOperation → Size → ℕ → ℕ → Bool → Outcome
double_below Mov size s d c = logical size s c
double_below Cmp size s d c = compared size s d
double_below Bit size s d c = flags_only size (bit_and s d) false c
double_below Bic size s d c = logical size (bit_and d (span size - 1 - s)) c
double_below Bis size s d c = logical size (bit_or d s) c

-- what each operation makes of its operands, of which it takes what the size holds, and of the old flags
unfoldable pub double_outcome : DoubleOperation → Size → ℕ → ℕ → Flags → Outcome
double_outcome operation size s d flags = double_below operation size (s % span size) (d % span size) flags.c
