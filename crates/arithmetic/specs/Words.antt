-- The operations that exist for words alone.
use Rattle.std.specs.Prelude.{ℕ, ◌/◌, ◌%◌, Bool, false, cond, not, Some, bit_xor}
use Rattle.isa.specs.declared.instruction.Size.TheVariants.{Word, Byte}
use Rattle.isa.specs.declared.flags.Flags.{Flags}
use Rattle.arithmetic.specs.declared.outcome.Outcome.{Outcome}
use Rattle.arithmetic.specs.Outcomes.{flagged, logical}
use Rattle.arithmetic.specs.Sums.{sum_of, difference_of}
use Rattle.arithmetic.specs.Widths.{joined}

-- ADD: the sum of source and destination
unfoldable pub add_outcome : ℕ → ℕ → Outcome
add_outcome s d = sum_of Word s d

-- SUB: the destination less the source
unfoldable pub subtract_outcome : ℕ → ℕ → Outcome
subtract_outcome s d = difference_of Word d s

-- XOR: the bits in which register and destination differ
unfoldable pub exclusive_or_outcome : ℕ → ℕ → Flags → Outcome
exclusive_or_outcome s d flags = logical Word (bit_xor s d) flags.c

-- SWAB: the two bytes exchanged; N and Z by the low byte of the result
unfoldable pub swap_outcome : ℕ → Outcome
swap_outcome x = record { value = Some (joined (x % 256) (x / 256)); flags = flagged Byte (x / 256) false false }

-- a word with this bit in every place
abbrev pub all_bits : Bool → ℕ
all_bits b = cond b 0o177777 0

-- SXT: every bit N; Z is not N, N and C kept
unfoldable pub extend_outcome : Flags → Outcome
extend_outcome flags =
    record {
      value = Some (all_bits flags.n);
      flags = record { n = flags.n; z = not flags.n; v = false; c = flags.c };
    }
