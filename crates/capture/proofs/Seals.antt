-- A sealed block adds up to 0.
use Rattle.std.proofs.Common.{◌≡◌, ℕ, suc, ◌+◌, ◌-◌, ◌*◌, ◌/◌, ◌%◌, List, [], ◌∷◌, ◌++◌, length, sym, refl, ap, ◌∙◌, add-zero, zero-add, arith}
use Rattle.capture.specs.Words.{word_bytes}
use Rattle.capture.specs.Checksum.{sum_from, block_sum}
use Rattle.capture.specs.Blocks.{sealed}

sum-append : (i : ℕ) (xs ys : List ℕ) → sum_from i (xs ++ ys) ≡ sum_from i xs + sum_from (i + length xs) ys
sum-append i [] ys = ap (λ (j : ℕ). sum_from j ys) (sym (add-zero i)) ∙ sym (zero-add (sum_from (i + 0) ys))
sum-append i (x ∷ xs) ys =
    let e : (i + 1) + length xs ≡ i + suc (length xs) = omega arith in
    let f : sum_from ((i + 1) + length xs) ys ≡ sum_from (i + suc (length xs)) ys = ap (λ (j : ℕ). sum_from j ys) e in
    omega (arith, sum-append (i + 1) xs ys, f)

-- s and the two bytes of what brings it to 0
zeroed : (s w : ℕ) → w ≡ (65536 - s % 65536) % 65536 → (s + ((w % 256) + ((w / 256 % 256) * 256 + 0))) % 65536 ≡ 0
zeroed s w e = omega arith

pub sealed_sum : (xs : List ℕ) → length xs ≡ 510 → block_sum (sealed xs) ≡ 0
unfolding sealed
sealed_sum xs h =
    let w : ℕ = (65536 - block_sum xs) % 65536 in
    ap (λ (n : ℕ). n % 65536) (sum-append 0 xs (word_bytes w) ∙ ap (λ (j : ℕ). sum_from 0 xs + sum_from (0 + j) (word_bytes w)) h)
    ∙ zeroed (sum_from 0 xs) w refl
