-- Where a refusal is found, one block and one record at a time.
use Rattle.std.proofs.Common.{◌≡◌, ℕ, zero, suc, ◌+◌, ◌-◌, ◌*◌, ◌/◌, ◌<◌, ◌≤◌, Bool, cond, List, [], ◌∷◌, length, get_or, take, drop, is_err, Result, sym, refl, ap, ◌∙◌, arith}
use Rattle.std.proofs.lemmas.List.{drop-drop, get_or-take}
use Rattle.std.specs.Simd.{first_chunks}
use Rattle.capture.specs.declared.refusal.Refusal.{Refusal}
use Rattle.capture.specs.Checking.{one_read, verdict, block_verdict}
use Rattle.capture.proofs.Walks.{chunk_at}
use Rattle.inspection.specs.Places.{block_from, record_from}

record_skip : (place k : ℕ) (xs : List ℕ) → record_from place k xs ≡ record_from place 0 (drop k xs)
record_skip place zero xs = refl
record_skip place (suc k) [] = refl
record_skip place (suc k) (x ∷ xs) = record_skip place k xs

-- whether the first record is refused, and then the others
pub record_first : (place : ℕ) (xs : List ℕ) → 0 < length xs
    → record_from place 0 xs ≡ cond (is_err (verdict (one_read xs))) place (record_from (place + (get_or xs 0 0 + 4)) 0 (drop (get_or xs 0 0 + 4) xs))
record_first place [] h = absurd (omega arith)
record_first place (x ∷ xs) h =
    let n : suc (x + 3) ≡ x + 4 = omega arith in
    ap (cond (is_err (verdict (one_read (x ∷ xs)))) place)
    (record_skip (place + (x + 4)) (x + 3) xs ∙ ap (λ (k : ℕ). record_from (place + (x + 4)) 0 (drop k (x ∷ xs))) n)

-- whether the first of the blocks that are left is refused, and then the others
pub block_at : (xs : List ℕ) (k b : ℕ) → b < k
    → block_from b (k - b) (drop (512 * b) xs) ≡ cond (is_err (block_verdict b (take 512 (drop (512 * b) xs)))) b (block_from (b + 1) (k - (b + 1)) (drop (512 * (b + 1)) xs))
block_at xs k b h =
    let e : k - b ≡ suc (k - (b + 1)) = omega arith in
    let o : 512 * b + 512 ≡ 512 * (b + 1) = omega arith in
    ap (λ (j : ℕ). block_from b j (drop (512 * b) xs)) e
    ∙ ap (λ (ys : List ℕ). cond (is_err (block_verdict b (take 512 (drop (512 * b) xs)))) b (block_from (b + 1) (k - (b + 1)) ys)) (drop-drop 512 (512 * b) xs ∙ ap (λ (j : ℕ). drop j xs) o)

-- whether the block is refused, in the words of the code
pub asked : (xs : List ℕ) (blocks : List (List ℕ)) (k b : ℕ) (t : Bool) (r : Result Unit Refusal) → b < k → k ≤ length xs / 512 → blocks ≡ first_chunks 512 (length xs / 512) xs
    → t ≡ is_err r → r ≡ block_verdict b (get_or (take k blocks) b []) → is_err (block_verdict b (take 512 (drop (512 * b) xs))) ≡ t
asked xs blocks k b t r h m e f g =
    let c : get_or (take k blocks) b [] ≡ take 512 (drop (512 * b) xs) =
    get_or-take k blocks b [] h ∙ (ap (λ (bs : List (List ℕ)). get_or bs b []) e ∙ chunk_at (length xs / 512) b xs (omega arith))
    in
    ap (λ (ys : List ℕ). is_err (block_verdict b ys)) (sym c) ∙ (ap is_err (sym g) ∙ sym f)
