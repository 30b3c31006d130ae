-- The sum of a block's words, modulo 65,536.
use Rattle.std.specs.Prelude.{ℕ, ◌+◌, ◌*◌, ◌%◌, cond, List, [], ◌∷◌, ◌==◌}

-- what a byte adds at place i: at an even place it is a word's low half, at an odd one its high half
abbrev pub part_at : ℕ → ℕ → ℕ
part_at i x = cond (i % 2 == 0) x (x * 256)

-- what bytes add from place i on
abbrev pub sum_from : ℕ → List ℕ → ℕ
sum_from i [] = 0
sum_from i (x ∷ xs) = part_at i x + sum_from (i + 1) xs

-- the sum of a block: words wrap at 65,536
abbrev pub block_sum : List ℕ → ℕ
block_sum bytes = sum_from 0 bytes % 65536
