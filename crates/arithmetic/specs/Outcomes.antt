-- What an operation leaves: a result, or none, and the four flags.
use Rattle.std.specs.Prelude.{ℕ, ◌<◌, Bool, true, false, not, IfSome, Some, None, ◌==◌}
use Rattle.isa.specs.declared.instruction.Size.{Size}
use Rattle.isa.specs.declared.flags.Flags.{Flags}
use Rattle.arithmetic.specs.declared.outcome.Outcome.{Outcome}
use Rattle.arithmetic.specs.Widths.{negative, span}

infixl 20 ◌xor◌
-- one of the two, and not both
abbrev pub ◌xor◌ : Bool → Bool → Bool
true xor b = not b
false xor b = b

-- N is the result's sign, Z its being zero
abbrev pub flagged : Size → ℕ → Bool → Bool → Flags
flagged size r v c = record { n = negative size r; z = (r == 0); v = v; c = c }

-- the result r, with these V and C
abbrev pub result : Size → ℕ → Bool → Bool → Outcome
result size r v c = record { value = Some r; flags = flagged size r v c }

-- the flags that the result r would have, and no result
abbrev pub flags_only : Size → ℕ → Bool → Bool → Outcome
flags_only size r v c = record { value = None; flags = flagged size r v c }

-- the result r of an operation on single bits: V 0, C kept
abbrev pub logical : Size → ℕ → Bool → Outcome
logical size r c = result size r false c

-- a result, where there is one, is a number of this size
abbrev pub Holds : Size → Outcome → Type 0
Holds size o = IfSome o.value (λ r. r < span size)
