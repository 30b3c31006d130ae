-- The check: for all bytes either the first refusal or the records.
use Rattle.std.specs.Prelude.{ℕ, zero, suc, ◌+◌, ◌/◌, ◌%◌, Bool, cond, List, [], ◌∷◌, length, take, drop, Ok, Err, Result, ◌==◌, nat_le, nat_lt}
use Rattle.capture.specs.declared.refusal.Refusal.{Refusal}
use Rattle.capture.specs.declared.refusal.Refusal.TheVariants.{Blocks, Number, Used, Checksum, Length, Fields}
use Rattle.capture.specs.Words.{word_at, both}
use Rattle.capture.specs.Checksum.{block_sum}
use Rattle.capture.specs.Records.{Entry, first_plain, first_entry}
use Rattle.capture.specs.Lawful.{lawful, fits_within}

-- the number of each refusal, and 0 for none
abbrev pub refusal_number : Refusal → ℕ
refusal_number Blocks = 3
refusal_number Number = 5
refusal_number Used = 6
refusal_number Checksum = 7
refusal_number Length = 8
refusal_number Fields = 9

-- what a check answers: the first refusal, or the records in order
abbrev pub Answer : Type 0
Answer = Result (List Entry) Refusal

-- what is asked of the record that these bytes begin with
abbrev pub one_read : List ℕ → Result Entry Refusal
one_read bytes = cond (fits_within bytes) (cond (lawful (first_plain bytes)) (Ok (first_entry bytes)) (Err Fields)) (Err Length)

-- a record before the others
abbrev pub before : Entry → Answer → Answer
before e (Ok es) = Ok (e ∷ es)
before e (Err r) = Err r

-- the first refusal, or all records
abbrev pub and_then : Result Entry Refusal → Answer → Answer
and_then (Ok e) rest = before e rest
and_then (Err r) rest = Err r

-- the records of these bytes, the first k bytes left out, and then the rest
abbrev pub read_then : ℕ → List ℕ → Answer → Answer
read_then k [] rest = rest
read_then zero (x ∷ xs) rest = and_then (one_read (x ∷ xs)) (read_then (x + 3) xs rest)
read_then (suc k) (x ∷ xs) rest = read_then k xs rest

-- the used record bytes of a block
abbrev pub used_bytes : List ℕ → List ℕ
used_bytes block = take (word_at block 2) (drop 4 block)

-- the questions of a block before its records, over what it has as number, used count and sum, where it should have number b
abbrev pub head_answer : ℕ → ℕ → ℕ → ℕ → Result Unit Refusal
head_answer b number used sum =
    cond (number == b) (cond (nat_le used 506) (cond (sum == 0) (Ok tt) (Err Checksum)) (Err Used)) (Err Number)

-- the questions of the block that should have number b, in their order, and then the rest
abbrev pub block_then : ℕ → List ℕ → Answer → Answer
block_then b block rest =
    cond (word_at block 0 == b)
    (cond (nat_le (word_at block 2) 506)
    (cond (block_sum block == 0) (read_then 0 (used_bytes block) rest) (Err Checksum))
    (Err Used))
    (Err Number)

-- k blocks from number b on
abbrev pub read_from : ℕ → ℕ → List ℕ → Answer
read_from b zero bytes = Ok []
read_from b (suc k) bytes = block_then b (take 512 bytes) (read_from (b + 1) k (drop 512 bytes))

-- 1 to 4,096 whole blocks
abbrev pub whole_blocks : ℕ → Bool
whole_blocks len = both (len % 512 == 0) (both (nat_lt 0 len) (nat_le len 2097152))

-- what the check of a whole capture answers
abbrev pub read_capture : List ℕ → Answer
read_capture bytes = cond (whole_blocks (length bytes)) (read_from 0 (length bytes / 512) bytes) (Err Blocks)

-- the answer without the records
abbrev pub verdict : {X : Type 0} → Result X Refusal → Result Unit Refusal
verdict (Ok x) = Ok tt
verdict (Err r) = Err r

-- the answer to the questions of one block alone
abbrev pub block_alone : ℕ → List ℕ → Result Unit Refusal
block_alone b block = verdict (block_then b block (Ok []))

-- the same of any bytes: another length than 512 is no whole block
abbrev pub block_verdict : ℕ → List ℕ → Result Unit Refusal
block_verdict b block = cond (length block == 512) (block_alone b block) (Err Blocks)

-- the records of an answer, none where it is a refusal
abbrev pub entries : Answer → List Entry
entries (Ok es) = es
entries (Err r) = []
