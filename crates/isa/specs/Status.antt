-- The flags in the status word: C is bit 0, V bit 1, Z bit 2, N bit 3, as in a flag word.
use Rattle.std.specs.Prelude.{ℕ, ◌+◌, ◌*◌, ◌/◌, ◌%◌}
use Rattle.isa.specs.declared.flags.Flags.{Flags}
use Rattle.isa.specs.Reading.{mask}
use Rattle.isa.specs.Word.{mask_bits}

-- the flags that a status word holds
unfoldable pub flags_of : ℕ → Flags
flags_of status = mask (status % 16)

-- the status word with these flags, its other bits kept
unfoldable pub with_flags : ℕ → Flags → ℕ
with_flags status f = status / 16 * 16 + mask_bits f
