-- Sums and differences of two numbers of a size.
use Rattle.std.specs.Prelude.{ℕ, ◌+◌, ◌-◌, ◌%◌, ◌+ℤ◌, ◌-ℤ◌, nat_le, nat_lt}
use Rattle.isa.specs.declared.instruction.Size.{Size}
use Rattle.arithmetic.specs.declared.outcome.Outcome.{Outcome}
use Rattle.arithmetic.specs.Outcomes.{result}
use Rattle.arithmetic.specs.Widths.{span, signed, outside}

-- a plus b: V if the signed sum is out of range, C if it carries
abbrev pub sum_of : Size → ℕ → ℕ → Outcome
sum_of size a b =
    result size ((a + b) % span size) (outside size (signed size a +ℤ signed size b)) (nat_le (span size) (a + b))

-- a less b: V if the signed difference is out of range, C if it borrows
abbrev pub difference_of : Size → ℕ → ℕ → Outcome
difference_of size a b =
    result size ((a + (span size - b)) % span size) (outside size (signed size a -ℤ signed size b)) (nat_lt a b)
