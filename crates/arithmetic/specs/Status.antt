-- The flags in the status word: C is bit 0, V bit 1, Z bit 2, N bit 3.
use Rattle.std.specs.Prelude.{ℕ, ◌/◌, ◌%◌, Bool, not, ◌&&◌, ◌||◌, ◌==◌}
use Rattle.isa.specs.declared.instruction.FlagChange.{FlagChange}
use Rattle.isa.specs.declared.instruction.FlagChange.TheVariants.{Clear, Set}
use Rattle.isa.specs.declared.instruction.Size.TheVariants.{Byte}
use Rattle.isa.specs.declared.flags.Flags.{Flags}
use Rattle.arithmetic.specs.declared.outcome.Outcome.{Outcome}
unfoldable pub use Rattle.isa.specs.Status.{flags_of, with_flags}
pub use Rattle.isa.specs.Word.{bit}
use Rattle.arithmetic.specs.Outcomes.{logical}
use Rattle.arithmetic.specs.Widths.{joined}

-- the last binary digit is 1
abbrev pub odd : ℕ → Bool
odd n = n % 2 == 1

-- MTPS: the low byte of the operand in the place of the status word's
unfoldable pub with_low_byte : ℕ → ℕ → ℕ
with_low_byte status x = joined (status / 256) (x % 256)

-- MFPS: the low byte of the status word, as it was before these flags; C kept
unfoldable pub from_status_outcome : ℕ → Outcome
from_status_outcome status = logical Byte (status % 256) (flags_of status).c

-- 000240 to 000257 clear the flags of the mask, 000260 to 000277 set them; the others are kept
abbrev pub changed_flags : FlagChange → Flags → Flags → Flags
changed_flags Clear m f =
    record { n = not m.n && f.n; z = not m.z && f.z; v = not m.v && f.v; c = not m.c && f.c }
changed_flags Set m f = record { n = m.n || f.n; z = m.z || f.z; v = m.v || f.v; c = m.c || f.c }
