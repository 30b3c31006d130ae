-- What a passed check tells of a reader that stands in the capture.
use Rattle.std.proofs.lemmas.Grind.{common_steps}
use Rattle.std.proofs.Common.{rules}
use Rattle.std.proofs.Common.{◌≡◌, ℕ, zero, suc, ◌+◌, ◌-◌, ◌*◌, ◌/◌, ◌%◌, ◌<◌, ◌≤◌, Bool, true, cond, eqb, leb, List, [], ◌∷◌, map, length, get_or, take, drop, is_ok, Ok, Err, Result, sym, refl, ap, ◌∙◌, inl, inr, arith}
use Rattle.std.proofs.lemmas.List.{drop-drop, length-take, length-drop}
use Rattle.std.proofs.lemmas.Bool.{cond-true, eqb-true, cases_lt}
use Rattle.std.specs.List.{AllByRecursion}
use Rattle.capture.specs.declared.refusal.Refusal.{Refusal}
use Rattle.capture.specs.declared.refusal.Refusal.TheVariants.{Blocks, Number, Used, Checksum}
use Rattle.capture.specs.Words.{word_at}
use Rattle.capture.specs.Checksum.{block_sum}
use Rattle.capture.specs.Records.{Entry, numbers, unnumbers, first_plain, first_entry}
use Rattle.capture.specs.Lawful.{lawful, fits_within}
use Rattle.capture.specs.Checking.{Answer, one_read, before, and_then, read_then, used_bytes, block_then, read_from, read_capture, whole_blocks, entries, verdict}
use Rattle.capture.specs.Remaining.{block_at, remains}
use Rattle.capture.specs.declared.feed.Feed.{Feed}
use Rattle.capture.specs.Feeds.{Stands}
use Rattle.capture.proofs.Matching.{both_parts}
use Rattle.capture.proofs.Walks.{read_first, read_more}

ok_gate : (t : Bool) (x : Answer) (e : Refusal) → is_ok (cond t x (Err e)) ≡ true → (t ≡ true) × (is_ok x ≡ true)
ok_gate a0 x e h = search rules

pub record Block (b : ℕ) (xs : List ℕ) (rest : Answer) : Type 0 where
  pub used : word_at xs 2 ≤ 506
  pub same : block_then b xs rest ≡ read_then 0 (used_bytes xs) rest

block_ok : (b : ℕ) (xs : List ℕ) (rest : Answer) → is_ok (block_then b xs rest) ≡ true → Block b xs rest
block_ok b xs rest h = search rules

-- past the last block nothing is left
pub past : (xs : List ℕ) (b at : ℕ) → length xs % 512 ≡ 0 → length xs / 512 ≤ b → (word_at (block_at xs b) 2 ≡ 0) × (remains xs b at ≡ Ok [])
past xs b at w h = search (arith, common_steps)

-- a lawful rest from block b on, as a reader at its start has it
pub record Starts (xs : List ℕ) (b : ℕ) : Type 0 where
  pub used : word_at (block_at xs b) 2 ≤ 506
  pub same : read_from b (length xs / 512 - b) (drop (512 * b) xs) ≡ remains xs b 0

pub starts : (xs : List ℕ) (b : ℕ) → length xs % 512 ≡ 0 → is_ok (read_from b (length xs / 512 - b) (drop (512 * b) xs)) ≡ true → Starts xs b
starts xs b w h = elim (cases_lt b (length xs / 512)) [
  | inl lt ↦
      let m = read_more xs (length xs / 512) b lt in
      let k = block_ok b (block_at xs b) (read_from (b + 1) (length xs / 512 - (b + 1)) (drop (512 * (b + 1)) xs)) (sym (ap is_ok m) ∙ h) in
      record { used = k.used; same = m ∙ k.same }
  | inr ge ↦
      let p = past xs b 0 w ge in
      let k : length xs / 512 - b ≡ 0 = omega arith in
      record { used = omega (arith, p.0); same = ap (λ (j : ℕ). read_from b j (drop (512 * b) xs)) k ∙ sym p.1 }
]

-- at the end of a block's record bytes
pub ends : (xs : List ℕ) (b at : ℕ) → length (used_bytes (block_at xs b)) ≤ at
    → remains xs b at ≡ read_from (b + 1) (length xs / 512 - (b + 1)) (drop (512 * (b + 1)) xs)
ends xs b at h = search (arith, common_steps)

pub record Turn (xs : List ℕ) (b : ℕ) (all : Answer) : Type 0 where
  pub used : word_at (block_at xs (b + 1)) 2 ≤ 506
  pub same : remains xs (b + 1) 0 ≡ all

pub turn : (xs : List ℕ) (b at : ℕ) (all : Answer) → length xs % 512 ≡ 0 → is_ok all ≡ true → length (used_bytes (block_at xs b)) ≤ at → remains xs b at ≡ all → Turn xs b all
turn xs b at all w o h e =
    let n = sym (ends xs b at h) ∙ e in
    let s = starts xs (b + 1) w (ap is_ok n ∙ o) in
    record { used = s.used; same = sym s.same ∙ n }

-- a checked capture, from its start
pub opens : (xs : List ℕ) → length xs % 512 ≡ 0 → is_ok (read_from 0 (length xs / 512) xs) ≡ true → Starts xs 0
opens xs w h =
    let k : length xs / 512 - 0 ≡ length xs / 512 = omega arith in
    starts xs 0 w (ap (λ (j : ℕ). is_ok (read_from 0 j xs)) k ∙ h)

split_then : (o : Result Entry Refusal) (a : Answer) → is_ok (and_then o a) ≡ true → (is_ok o ≡ true) × (is_ok a ≡ true)
split_then a0 a1 h = search rules

one_ok : (t u : Bool) (x : Entry) (e f : Refusal) → is_ok (cond t (cond u (Ok x) (Err e)) (Err f)) ≡ true → cond t (cond u (Ok x) (Err e)) (Err f) ≡ Ok x
one_ok a0 a1 x e f h = search rules

then_first : (x : Entry) (a : Answer) → is_ok a ≡ true → entries (before x a) ≡ x ∷ entries a
then_first x a1 h = search rules

-- a feed's next record, where some of the record bytes of a block are left
pub stands : (f : Feed) (b at : ℕ) (ys : List ℕ) → word_at (block_at f.bytes.now b) 2 ≤ 506 → ys ≡ drop at (used_bytes (block_at f.bytes.now b)) → 0 < length ys
    → remains f.bytes.now b at ≡ remains f.bytes.now f.block f.from → Stands f b at ys
stands f b at ys u e n s =
    let xs : List ℕ = f.bytes.now in
    let body : List ℕ = used_bytes (block_at xs b) in
    let after : Answer = read_from (b + 1) (length xs / 512 - (b + 1)) (drop (512 * (b + 1)) xs) in
    let rest : Answer = remains xs b (at + (get_or ys 0 0 + 4)) in
    let d : drop (get_or ys 0 0 + 4) ys ≡ drop (at + (get_or ys 0 0 + 4)) body = ap (drop (get_or ys 0 0 + 4)) e ∙ drop-drop (get_or ys 0 0 + 4) at body in
    let r : remains xs b at ≡ and_then (one_read ys) rest =
    ap (λ (zs : List ℕ). read_then 0 zs after) (sym e) ∙ (read_first ys after n ∙ ap (λ (zs : List ℕ). and_then (one_read ys) (read_then 0 zs after)) d)
    in
    let p = split_then (one_read ys) rest (sym (ap is_ok r) ∙ (ap is_ok s ∙ f.passed)) in
    let g : one_read ys ≡ Ok (first_entry ys) = one_ok (fits_within ys) (lawful (first_plain ys)) (first_entry ys) _ _ p.0 in
    record {
      place = omega (arith, ap length e, length-drop at body, length-take (word_at (block_at xs b) 2) (drop 4 (block_at xs b)));
      first = p.0;
      short = u;
      passed = p.1;
      left = ap entries (sym s ∙ r) ∙ (ap (λ (q : Result Entry Refusal). entries (and_then q rest)) g ∙ then_first (first_entry ys) rest p.1);
    }

ok_verdict : (r : Answer) → Ok tt ≡ verdict r → is_ok r ≡ true
ok_verdict a0 h = search rules

-- what a passed check tells of a feed at the start
pub record Checked (xs : List ℕ) : Type 0 where
  pub whole : length xs % 512 ≡ 0
  pub used : word_at (block_at xs 0) 2 ≤ 506
  pub same : read_capture xs ≡ remains xs 0 0
  pub fine : is_ok (remains xs 0 0) ≡ true

pub checked : (xs : List ℕ) → Ok tt ≡ verdict (read_capture xs) → Checked xs
checked xs h =
    let o : is_ok (read_capture xs) ≡ true = ok_verdict (read_capture xs) h in
    let g = ok_gate (whole_blocks (length xs)) (read_from 0 (length xs / 512) xs) Blocks o in
    let w : length xs % 512 ≡ 0 = eqb-true (length xs % 512) 0 (both_parts (eqb (length xs % 512) 0) _ g.0).0 in
    let s = opens xs w g.1 in
    let k : length xs / 512 - 0 ≡ length xs / 512 = omega arith in
    let e : read_capture xs ≡ remains xs 0 0 = cond-true (whole_blocks (length xs)) _ (Err Blocks) g.0 ∙ (ap (λ (j : ℕ). read_from 0 j xs) (sym k) ∙ s.same) in
    record { whole = w; used = s.used; same = e; fine = sym (ap is_ok e) ∙ o }

unnumbered : (xs : List Entry) → map unnumbers (map numbers xs) ≡ xs
unnumbered [] = refl
unnumbered (x ∷ xs) = ap (λ (ys : List Entry). x ∷ ys) (unnumbered xs)

pub same_numbers : (xs ys : List Entry) → map numbers xs ≡ map numbers ys → xs ≡ ys
same_numbers xs ys e = sym (unnumbered xs) ∙ (ap (map unnumbers) e ∙ unnumbered ys)

-- how many entries there can be
and_short : (o : Result Entry Refusal) (a : Answer) → length (entries (and_then o a)) ≤ suc (length (entries a))
and_short a0 a1 = search rules

read_short : (k : ℕ) (xs : List ℕ) (rest : Answer) → length (entries (read_then k xs rest)) ≤ length xs + length (entries rest)
read_short k [] rest = omega arith
read_short zero (x ∷ xs) rest = omega (arith, and_short (one_read (x ∷ xs)) (read_then (x + 3) xs rest), read_short (x + 3) xs rest)
read_short (suc k) (x ∷ xs) rest = omega (arith, read_short k xs rest)

gate_short : (t : Bool) (x : Answer) (e : Refusal) → length (entries (cond t x (Err e))) ≤ length (entries x)
gate_short a0 x e = search rules

block_short : (b : ℕ) (xs : List ℕ) (rest : Answer) → length (entries (block_then b xs rest)) ≤ length xs + length (entries rest)
block_short b xs rest =
    let W : Answer = read_then 0 (used_bytes xs) rest in
    let U : Answer = cond (eqb (block_sum xs) 0) W (Err Checksum) in
    let N : Answer = cond (leb (word_at xs 2) 506) U (Err Used) in
    omega (
      arith,
      gate_short (eqb (word_at xs 0) b) N Number,
      gate_short (leb (word_at xs 2) 506) U Used,
      gate_short (eqb (block_sum xs) 0) W Checksum,
      read_short 0 (used_bytes xs) rest,
      length-take (word_at xs 2) (drop 4 xs),
      length-drop 4 xs,
    )

read_from_short : (b k : ℕ) (xs : List ℕ) → length (entries (read_from b k xs)) ≤ length xs
read_from_short b zero xs = omega arith
read_from_short b (suc k) xs =
    omega (
      arith,
      block_short b (take 512 xs) (read_from (b + 1) k (drop 512 xs)),
      read_from_short (b + 1) k (drop 512 xs),
      length-take 512 xs,
      length-drop 512 xs,
    )

pub short : (xs : List ℕ) → length (entries (read_capture xs)) ≤ length xs
short xs = omega (arith, gate_short (whole_blocks (length xs)) (read_from 0 (length xs / 512) xs) Blocks, read_from_short 0 (length xs / 512) xs)

-- one record used
pub step : (n : ℕ) (all : List Entry) (e : Entry) (rest : List Entry) → drop n all ≡ e ∷ rest → rest ≡ drop (n + 1) all
step n all e rest h = sym (ap (λ (ys : List Entry). drop 1 ys) h) ∙ drop-drop 1 n all

pub within : (xs : List ℕ) (n : ℕ) (e : Entry) (rest : List Entry) → drop n (entries (read_capture xs)) ≡ e ∷ rest → n + 1 ≤ length xs
within xs n e rest h = omega (arith, short xs, ap length h, length-drop n (entries (read_capture xs)))

-- what is read is lawful
abbrev Lawfuls : Answer → Type 0
Lawfuls a = AllByRecursion (λ e. lawful e.plain ≡ true) (entries a)

then_lawful : (t u : Bool) (x : Entry) (r s : Refusal) (a : Answer) → (u ≡ true → lawful x.plain ≡ true) → Lawfuls a → Lawfuls (and_then (cond t (cond u (Ok x) (Err r)) (Err s)) a)
then_lawful a0 a1 x r s a5 l h = search rules

read_lawful : (k : ℕ) (xs : List ℕ) (rest : Answer) → Lawfuls rest → Lawfuls (read_then k xs rest)
read_lawful k [] rest h = h
read_lawful zero (x ∷ xs) rest h =
    then_lawful (fits_within (x ∷ xs)) (lawful (first_plain (x ∷ xs))) (first_entry (x ∷ xs)) _ _ (read_then (x + 3) xs rest) (λ e. e) (read_lawful (x + 3) xs rest h)
read_lawful (suc k) (x ∷ xs) rest h = read_lawful k xs rest h

gate_lawful : (t : Bool) (x : Answer) (e : Refusal) → Lawfuls x → Lawfuls (cond t x (Err e))
gate_lawful a0 x e h = search rules

block_lawful : (b : ℕ) (xs : List ℕ) (rest : Answer) → Lawfuls rest → Lawfuls (block_then b xs rest)
block_lawful b xs rest h =
    gate_lawful (eqb (word_at xs 0) b) _ Number
    (gate_lawful (leb (word_at xs 2) 506) _ Used (gate_lawful (eqb (block_sum xs) 0) _ Checksum (read_lawful 0 (used_bytes xs) rest h)))

blocks_lawful : (b k : ℕ) (xs : List ℕ) → Lawfuls (read_from b k xs)
blocks_lawful b zero xs = tt
blocks_lawful b (suc k) xs = block_lawful b (take 512 xs) (read_from (b + 1) k (drop 512 xs)) (blocks_lawful (b + 1) k (drop 512 xs))

pub all_lawful : (xs : List ℕ) → Lawfuls (read_capture xs)
all_lawful xs = gate_lawful (whole_blocks (length xs)) (read_from 0 (length xs / 512) xs) Blocks (blocks_lawful 0 (length xs / 512) xs)

pub left_lawful : (xs : List ℕ) (b from : ℕ) → Lawfuls (remains xs b from)
left_lawful xs b from = read_lawful 0 (drop from (used_bytes (block_at xs b))) _ (blocks_lawful (b + 1) (length xs / 512 - (b + 1)) (drop (512 * (b + 1)) xs))

rest_ok : (k : ℕ) (xs : List ℕ) (rest : Answer) → is_ok (read_then k xs rest) ≡ true → is_ok rest ≡ true
rest_ok k [] rest h = h
rest_ok zero (x ∷ xs) rest h = rest_ok (x + 3) xs rest (split_then (one_read (x ∷ xs)) (read_then (x + 3) xs rest) h).1
rest_ok (suc k) (x ∷ xs) rest h = rest_ok k xs rest h

-- where the blocks from number b on pass, each adds up to 0
blocks_add_up : (k b j : ℕ) (xs : List ℕ) → is_ok (read_from b k xs) ≡ true → j < k → block_sum (block_at xs j) ≡ 0
blocks_add_up zero b j xs h lt = absurd (omega arith)
blocks_add_up (suc k) b zero xs h lt =
    let g1 = ok_gate (eqb (word_at (take 512 xs) 0) b) _ Number h in
    let g2 = ok_gate (leb (word_at (take 512 xs) 2) 506) _ Used g1.1 in
    eqb-true (block_sum (take 512 xs)) 0 (ok_gate (eqb (block_sum (take 512 xs)) 0) _ Checksum g2.1).0
blocks_add_up (suc k) b (suc j) xs h lt =
    let rest : Answer = read_from (b + 1) k (drop 512 xs) in
    let o : is_ok rest ≡ true = rest_ok 0 (used_bytes (take 512 xs)) rest (sym (ap is_ok (block_ok b (take 512 xs) rest h).same) ∙ h) in
    let e : 512 + 512 * j ≡ 512 * suc j = omega arith in
    ap (λ (ys : List ℕ). block_sum (take 512 ys)) (ap (λ (i : ℕ). drop i xs) (sym e) ∙ sym (drop-drop (512 * j) 512 xs))
    ∙ blocks_add_up k (b + 1) j (drop 512 xs) o (omega arith)

pub capture_adds_up : (xs : List ℕ) (es : List Entry) → read_capture xs ≡ Ok es → (b : ℕ) → 512 * b < length xs → block_sum (block_at xs b) ≡ 0
capture_adds_up xs es h b lt =
    let g = ok_gate (whole_blocks (length xs)) (read_from 0 (length xs / 512) xs) Blocks (ap is_ok h) in
    let w : length xs % 512 ≡ 0 = eqb-true (length xs % 512) 0 (both_parts (eqb (length xs % 512) 0) _ g.0).0 in
    blocks_add_up (length xs / 512) 0 b xs g.1 (omega arith)
