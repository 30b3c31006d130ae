-- What a memory board means, and what its accesses answer and leave.
use Rattle.std.specs.Prelude.{ℕ, ◌+◌, ◌*◌, ◌/◌, ◌%◌, cond, Some, None, Option, ◌==◌}

-- One word of a board: silent, fixed with a word, or open with a word.
pub data Place : Type 0 where
  silent : Place
  fixed : ℕ → Place
  opened : ℕ → Place

-- A board's meaning: a place for each word number, which is the even address halved.
abbrev pub Memory : Type 0
Memory = ℕ → Place

-- A read answers the word, or times out where the place is silent.
abbrev pub word_of : Place → Option ℕ
word_of silent = None
word_of (fixed w) = Some w
word_of (opened w) = Some w

-- A word access at an odd address reaches the even one below.
abbrev pub read : Memory → ℕ → Option ℕ
read m at = word_of (m (at / 2))

-- The memory with another place at one word number, and nothing else changed.
abbrev pub with_place : Memory → ℕ → Place → Memory
with_place m n p = λ k. cond (k == n) p (m k)

-- A write replaces an open word by what it makes of it; at a fixed or silent place it times out and changes nothing.
abbrev pub replaced : Place → (ℕ → ℕ) → Memory → ℕ → Option Unit × Memory
replaced silent f m n = (None, m)
replaced (fixed w) f m n = (None, m)
replaced (opened w) f m n = (Some tt, with_place m n (opened (f w)))

abbrev pub write : Memory → ℕ → ℕ → Option Unit × Memory
write m at w = replaced (m (at / 2)) (λ old. w) m (at / 2)

-- A byte replaces the low half of a word at an even address, the high half at an odd one.
abbrev pub with_half : ℕ → ℕ → ℕ → ℕ
with_half at b old = cond (at % 2 == 0) (old / 256 * 256 + b) (b * 256 + old % 256)

abbrev pub write_byte : Memory → ℕ → ℕ → Option Unit × Memory
write_byte m at b = replaced (m (at / 2)) (with_half at b) m (at / 2)
