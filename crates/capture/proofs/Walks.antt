-- The check, one record and one block at a time.
use Rattle.std.proofs.Common.{rules}
use Rattle.std.proofs.Common.{◌≡◌, ℕ, zero, suc, ◌+◌, ◌-◌, ◌*◌, ◌/◌, ◌%◌, ◌<◌, ◌≤◌, Bool, true, cond, eqb, leb, List, [], ◌∷◌, length, get_or, take, drop, Ok, Err, Result, sym, refl, ap, ◌∙◌, arith}
use Rattle.std.proofs.lemmas.List.{drop-drop}
use Rattle.std.specs.Simd.{first_chunks}
use Rattle.capture.specs.declared.refusal.Refusal.{Refusal}
use Rattle.capture.specs.declared.refusal.Refusal.TheVariants.{Number, Used, Checksum}
use Rattle.capture.specs.Words.{word_at, both}
use Rattle.capture.specs.Checksum.{block_sum}
use Rattle.capture.specs.Records.{Entry}
use Rattle.capture.specs.Checking.{Answer, one_read, before, and_then, read_then, used_bytes, block_then, read_from, read_capture, verdict, block_alone}
use Rattle.capture.specs.Remaining.{block_at}

pub read_skip : (k : ℕ) (xs : List ℕ) (rest : Answer) → read_then k xs rest ≡ read_then 0 (drop k xs) rest
read_skip zero xs rest = refl
read_skip (suc k) [] rest = refl
read_skip (suc k) (x ∷ xs) rest = read_skip k xs rest

-- the first record, and then what follows it
pub read_first : (xs : List ℕ) (rest : Answer) → 0 < length xs → read_then 0 xs rest ≡ and_then (one_read xs) (read_then 0 (drop (get_or xs 0 0 + 4) xs) rest)
read_first [] rest h = absurd (omega arith)
read_first (x ∷ xs) rest h =
    let n : suc (x + 3) ≡ x + 4 = omega arith in
    ap (and_then (one_read (x ∷ xs))) (read_skip (x + 3) xs rest ∙ ap (λ (k : ℕ). read_then 0 (drop k (x ∷ xs)) rest) n)

-- the second verdict only after a good first
abbrev pub seq : Result Unit Refusal → Result Unit Refusal → Result Unit Refusal
seq (Ok u) r = r
seq (Err e) r = Err e

verdict_before : (p : Entry) (a : Answer) → verdict (before p a) ≡ verdict a
verdict_before p a1 = search rules

verdict_then : (o : Result Entry Refusal) (a : Answer) → verdict (and_then o a) ≡ seq (verdict o) (verdict a)
verdict_then a0 a = search rules

-- the verdict on records is that on the first, and then that on the others
pub verdict_first : (xs : List ℕ) (rest : Answer) → 0 < length xs
    → verdict (read_then 0 xs rest) ≡ seq (verdict (one_read xs)) (verdict (read_then 0 (drop (get_or xs 0 0 + 4) xs) rest))
verdict_first xs rest h = ap verdict (read_first xs rest h) ∙ verdict_then (one_read xs) (read_then 0 (drop (get_or xs 0 0 + 4) xs) rest)

seq_then : (o : Result Entry Refusal) (a a0 : Answer) (v : Result Unit Refusal) → verdict a ≡ seq (verdict a0) v → verdict (and_then o a) ≡ seq (verdict (and_then o a0)) v
seq_then (Ok p) a a0 v e = verdict_before p a ∙ (e ∙ ap (λ (r : Result Unit Refusal). seq r v) (sym (verdict_before p a0)))
seq_then (Err r) a a0 v e = refl

pub read_seq : (k : ℕ) (xs : List ℕ) (rest : Answer) → verdict (read_then k xs rest) ≡ seq (verdict (read_then k xs (Ok []))) (verdict rest)
read_seq k [] rest = refl
read_seq zero (x ∷ xs) rest = seq_then (one_read (x ∷ xs)) (read_then (x + 3) xs rest) (read_then (x + 3) xs (Ok [])) (verdict rest) (read_seq (x + 3) xs rest)
read_seq (suc k) (x ∷ xs) rest = read_seq k xs rest

gate : (t : Bool) (x y : Answer) (e : Refusal) (v : Result Unit Refusal) → verdict x ≡ seq (verdict y) v → verdict (cond t x (Err e)) ≡ seq (verdict (cond t y (Err e))) v
gate a0 x y e v h = search rules

pub block_seq : (b : ℕ) (xs : List ℕ) (rest : Answer) → verdict (block_then b xs rest) ≡ seq (block_alone b xs) (verdict rest)
block_seq b xs rest =
    gate (eqb (word_at xs 0) b) _ _ Number (verdict rest)
    (gate (leb (word_at xs 2) 506) _ _ Used (verdict rest)
    (gate (eqb (block_sum xs) 0) _ _ Checksum (verdict rest) (read_seq 0 (used_bytes xs) rest)))

pub read_more : (xs : List ℕ) (k b : ℕ) → b < k
    → read_from b (k - b) (drop (512 * b) xs) ≡ block_then b (take 512 (drop (512 * b) xs)) (read_from (b + 1) (k - (b + 1)) (drop (512 * (b + 1)) xs))
read_more xs k b h =
    let e : k - b ≡ suc (k - (b + 1)) = omega arith in
    let o : 512 * b + 512 ≡ 512 * (b + 1) = omega arith in
    ap (λ (j : ℕ). read_from b j (drop (512 * b) xs)) e
    ∙ ap (λ (ys : List ℕ). block_then b (take 512 (drop (512 * b) xs)) (read_from (b + 1) (k - (b + 1)) ys)) (drop-drop 512 (512 * b) xs ∙ ap (λ (j : ℕ). drop j xs) o)

-- block b of a capture's whole blocks
pub chunk_at : (k b : ℕ) (xs : List ℕ) → b < k → get_or (first_chunks 512 k xs) b [] ≡ block_at xs b
chunk_at zero b xs h = absurd (omega arith)
chunk_at (suc k) zero xs h = refl
chunk_at (suc k) (suc b) xs h =
    let e : 512 + 512 * b ≡ 512 * suc b = omega arith in
    chunk_at k b (drop 512 xs) (omega arith) ∙ ap (take 512) (drop-drop (512 * b) 512 xs ∙ ap (λ (j : ℕ). drop j xs) e)

-- the verdict on blocks is that on the first, and then that on the others
pub verdict_more : (xs : List ℕ) (k b : ℕ) → b < k
    → verdict (read_from b (k - b) (drop (512 * b) xs)) ≡ seq (block_alone b (get_or (first_chunks 512 k xs) b [])) (verdict (read_from (b + 1) (k - (b + 1)) (drop (512 * (b + 1)) xs)))
verdict_more xs k b h =
    let rest : Answer = read_from (b + 1) (k - (b + 1)) (drop (512 * (b + 1)) xs) in
    ap verdict (read_more xs k b h)
    ∙ (block_seq b (block_at xs b) rest ∙ ap (λ (ys : List ℕ). seq (block_alone b ys) (verdict rest)) (sym (chunk_at k b xs h)))

pub both_true : (x y : Bool) → x ≡ true → y ≡ true → both x y ≡ true
both_true x y a b = search rules

pub read_whole : (xs : List ℕ) → length xs % 512 ≡ 0 → 0 < length xs → length xs ≤ 2097152 → read_capture xs ≡ read_from 0 (length xs / 512) xs
read_whole xs a b c = search rules

pub block_then_lem : (b : ℕ) (xs : List ℕ) (rest : Answer) → word_at xs 0 ≡ b → word_at xs 2 ≤ 506 → block_sum xs ≡ 0
    → block_then b xs rest ≡ read_then 0 (used_bytes xs) rest
block_then_lem b xs rest e1 e2 e3 = search rules
