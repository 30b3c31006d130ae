-- What is laid out is read back.
use Rattle.std.proofs.lemmas.Grind.{common_steps}
use Rattle.std.proofs.Common.{rules}
use Rattle.std.proofs.Common.{◌≡◌, ℕ, zero, suc, ◌+◌, ◌-◌, ◌*◌, ◌/◌, ◌%◌, ◌<◌, ◌≤◌, true, cond, leb, List, [], ◌∷◌, ◌++◌, map, length, take, drop, Ok, Err, Result, sym, refl, ap, ◌∙◌, subst, mul-le-mul_left, mul-zero, mul-suc, arith, length-append, length-drop}
use native.Mathlib.Nat.{min-le_left, mul-div-le}
use Rattle.std.proofs.lemmas.List.{drop_at, take_at, append_assoc, length-take, map-append, take-map, drop-map, take-append-drop, nil_from_length, length-map}
use Rattle.std.proofs.ByRecursion.{All-take, All-drop}
use Rattle.std.proofs.lemmas.Bool.{cond-true, le-leb}
use Rattle.std.specs.List.{AllByRecursion}
use Rattle.capture.specs.declared.refusal.Refusal.{Refusal}
use Rattle.capture.specs.declared.refusal.Refusal.TheVariants.{Length, Fields}
use Rattle.capture.specs.Words.{word_bytes, word_at}
use Rattle.capture.specs.Records.{Plain, Entry, Written, plain, entry, entry_of, plain_of, written, record_bytes, first_plain, first_entry}
use Rattle.capture.specs.Lawful.{lawful, writable, all_writable, fits_within}
use Rattle.capture.specs.Checking.{Answer, one_read, and_then, read_then, block_then, read_from, entries}
use Rattle.capture.specs.Blocks.{sealed, unsealed, zeros_after, block_bytes}
use Rattle.capture.specs.Layout.{joined, Sheet, body_of, blocks_of, entries_of, packed, per_block, stamped, laid_out}
use Rattle.capture.specs.Laws.{Fits, Fills, SheetsReadBack, OnlyRecordsCount, LayoutReadsBack}
use Rattle.capture.proofs.Matching.{both_parts}
use Rattle.capture.proofs.Walks.{read_skip, both_true, block_then_lem, read_whole}
use Rattle.capture.proofs.Seals.{sealed_sum}

-- a two-byte field behind n bytes
word_at_lem : (p ys : List ℕ) (w n : ℕ) → length p ≡ n → w < 65536 → word_at (p ++ (word_bytes w ++ ys)) n ≡ w
word_at_lem p ys w n e h = search (arith, common_steps)

low_address : (p : Plain) → lawful p ≡ true → p.address < 65536
low_address p e = search rules

pub record Sound (p : Plain) : Type 0 where
  pub lawful : lawful p ≡ true
  pub word : p.word < 65536

pub sound : (p : Plain) → writable p ≡ true → Sound p
sound p e = search rules

pub writable_since : (p : Plain) → lawful p ≡ true → p.word < 65536 → writable p ≡ true
writable_since p l w = search rules

-- a record's bytes, read
first_written : (s : ℕ) (x : List ℕ) (p : Plain) (rest : List ℕ) → p.address < 65536 → p.word < 65536 → first_plain (record_bytes (written s (entry x p)) ++ rest) ≡ p
first_written s x p rest ha hw =
    let a : ℕ = p.address in
    let w : ℕ = p.word in
    let head : List ℕ = (4 + length x) ∷ p.kind ∷ p.mark ∷ s ∷ x in
    let full : List ℕ = head ++ (word_bytes a ++ (word_bytes w ++ rest)) in
    let h : ℕ = 4 + length x in
    let e0 : record_bytes (written s (entry x p)) ++ rest ≡ full = ap (λ (t : List ℕ). (4 + length x) ∷ p.kind ∷ p.mark ∷ s ∷ t) (append_assoc x (word_bytes a ++ word_bytes w) rest) in
    let lh : length head ≡ h = omega arith in
    let ea : word_at full h ≡ a = word_at_lem head (word_bytes w ++ rest) a h lh ha in
    let e1 : full ≡ (head ++ word_bytes a) ++ (word_bytes w ++ rest) = sym (append_assoc head (word_bytes a) (word_bytes w ++ rest)) in
    let ew : word_at full (h + 2) ≡ w = ap (λ (xs : List ℕ). word_at xs (h + 2)) e1 ∙ word_at_lem (head ++ word_bytes a) rest w (h + 2) (length-append head (word_bytes a) ∙ omega arith) hw in
    ap first_plain e0 ∙ (ap (λ (n : ℕ). plain p.kind p.mark n (word_at full (h + 2))) ea ∙ ap (λ (n : ℕ). plain p.kind p.mark a n) ew)

added_written : (x : List ℕ) (p : Plain) (rest : List ℕ) → take ((4 + length x) - 4) ((x ++ (word_bytes p.address ++ word_bytes p.word)) ++ rest) ≡ x
added_written x p rest = search (arith, common_steps)

pub length-record : (w : Written) → length (record_bytes w) ≡ 8 + length w.entry.added
length-record w = search (arith, common_steps)

one_written : (w : Written) (rest : List ℕ) → Fits w → one_read (record_bytes w ++ rest) ≡ Ok w.entry
one_written w rest f =
    let x : List ℕ = w.entry.added in
    let p : Plain = w.entry.plain in
    let xs : List ℕ = record_bytes w ++ rest in
    let s : Sound p = sound p f.plain in
    let hx : length x ≤ 28 = f.header in
    let l : length xs ≡ length (record_bytes w) + length rest = length-append (record_bytes w) rest in
    let sh : fits_within xs ≡ true =
    both_true (leb 4 (4 + length x)) _ (le-leb 4 (4 + length x) (omega arith))
    (both_true (leb (4 + length x) 32) _ (le-leb (4 + length x) 32 (omega arith))
    (le-leb ((4 + length x) + 4) (length xs) (omega (arith, l, length-record w))))
    in
    cond-true (fits_within xs) _ (Err Length) sh
    ∙ (ap (λ (q : Plain). cond (lawful q) (Ok (entry (first_entry xs).added q)) (Err Fields)) (first_written w.spare x p rest (low_address p s.lawful) s.word)
    ∙ (cond-true (lawful p) (Ok (entry (first_entry xs).added p)) (Err Fields) s.lawful
    ∙ ap (λ (t : List ℕ). Ok (entry t p)) (added_written x p rest)))

read_written : (ws : List Written) (rest : List Entry) → AllByRecursion Fits ws → read_then 0 (joined (map record_bytes ws)) (Ok rest) ≡ Ok (map entry_of ws ++ rest)
read_written [] rest f = refl
read_written (w ∷ ws) rest f =
    let x : List ℕ = w.entry.added in
    let p : Plain = w.entry.plain in
    let F : List ℕ = joined (map record_bytes ws) in
    let tail : List ℕ = p.kind ∷ p.mark ∷ w.spare ∷ (x ++ (word_bytes p.address ++ word_bytes p.word)) in
    let n : length tail ≡ (4 + length x) + 3 = omega (arith, length-record w) in
    let skip : read_then ((4 + length x) + 3) (tail ++ F) (Ok rest) ≡ Ok (map entry_of ws ++ rest) =
    read_skip ((4 + length x) + 3) (tail ++ F) (Ok rest)
    ∙ (ap (λ (ys : List ℕ). read_then 0 ys (Ok rest)) (drop_at tail F ((4 + length x) + 3) n) ∙ read_written ws rest f.1)
    in
    ap (λ (q : Answer). and_then (one_read (record_bytes w ++ F)) q) skip ∙ ap (λ (o : Result Entry Refusal). and_then o (Ok (map entry_of ws ++ rest))) (one_written w F f.0)

length-unsealed : (b : ℕ) (body unused : List ℕ) → length body + length unused ≡ 506 → length (unsealed b body unused) ≡ 510
length-unsealed b body unused h = search (arith, common_steps)

pub length-sealed : (b : ℕ) (body unused : List ℕ) → length body + length unused ≡ 506 → length (sealed (unsealed b body unused)) ≡ 512
unfolding sealed
length-sealed b body unused h = search (arith, common_steps)

-- the record bytes of a block, read back
pub body_of_lem : (b : ℕ) (body unused : List ℕ) (m : ℕ) → m ≡ length body → take m (drop 4 (sealed (unsealed b body unused))) ≡ body
unfolding sealed
body_of_lem b body unused m e = search (arith, common_steps)

number_of : (b : ℕ) (body unused : List ℕ) → b < 65536 → word_at (sealed (unsealed b body unused)) 0 ≡ b
unfolding sealed
number_of b body unused h = search rules

used_of : (b : ℕ) (body unused : List ℕ) → length body ≤ 506 → word_at (sealed (unsealed b body unused)) 2 ≡ length body
unfolding sealed
used_of b body unused h = word_at_lem (word_bytes b) [] (length body) 2 refl (omega arith)

block_round : (b : ℕ) (body unused : List ℕ) (rest : Answer) → b < 65536 → length body + length unused ≡ 506
    → block_then b (sealed (unsealed b body unused)) rest ≡ read_then 0 body rest
block_round b body unused rest hb h =
    let u = used_of b body unused (omega arith) in
    let B : List ℕ = sealed (unsealed b body unused) in
    block_then_lem b B rest (number_of b body unused hb) (omega (arith, u)) (sealed_sum (unsealed b body unused) (length-unsealed b body unused h))
    ∙ ap (λ (ys : List ℕ). read_then 0 ys rest) (body_of_lem b body unused (word_at B 2) u)

length-blocks : (b : ℕ) (ss : List Sheet) → AllByRecursion Fills ss → length (blocks_of b ss) ≡ 512 * length ss
length-blocks b [] f = refl
length-blocks b (s ∷ ss) f =
    omega (arith, length-append (sealed (unsealed b (body_of s) s.unused)) (blocks_of (b + 1) ss), length-sealed b (body_of s) s.unused f.0.whole, length-blocks (b + 1) ss f.1)

sheets_round : (b : ℕ) (ss : List Sheet) → b + length ss ≤ 65536 → AllByRecursion Fills ss → read_from b (length ss) (blocks_of b ss) ≡ Ok (entries_of ss)
sheets_round b [] hb f = refl
sheets_round b (s ∷ ss) hb f =
    let B : List ℕ = sealed (unsealed b (body_of s) s.unused) in
    let L : List ℕ = blocks_of (b + 1) ss in
    let k : ℕ = length ss in
    let l_b : length B ≡ 512 = length-sealed b (body_of s) s.unused f.0.whole in
    let ih : read_from (b + 1) k L ≡ Ok (entries_of ss) = sheets_round (b + 1) ss (omega arith) f.1 in
    ap (λ (xs : List ℕ). block_then b xs (read_from (b + 1) k (drop 512 (B ++ L)))) (take_at B L 512 l_b)
    ∙ (ap (λ (xs : List ℕ). block_then b B (read_from (b + 1) k xs)) (drop_at B L 512 l_b)
    ∙ (ap (λ (q : Answer). block_then b B q) ih
    ∙ (block_round b (body_of s) s.unused (Ok (entries_of ss)) (omega arith) f.0.whole
    ∙ read_written s.records (entries_of ss) f.0.records)))

pub sheets_read_back : SheetsReadBack
sheets_read_back ss h0 h1 f =
    let bytes : List ℕ = blocks_of 0 ss in
    let l : length bytes ≡ 512 * length ss = length-blocks 0 ss f in
    let d : length bytes / 512 ≡ length ss = ap (λ (m : ℕ). m / 512) l ∙ omega arith in
    read_whole bytes (ap (λ (m : ℕ). m % 512) l ∙ omega arith) (omega (arith, l)) (omega (arith, l))
    ∙ (ap (λ (j : ℕ). read_from 0 j bytes) d ∙ sheets_round 0 ss (omega arith) f)

pub only_records_count : OnlyRecordsCount
only_records_count one other a b c d f g e =
    ap (λ (q : Answer). map plain_of (entries q)) (sheets_read_back one a b f)
    ∙ (e ∙ sym (ap (λ (q : Answer). map plain_of (entries q)) (sheets_read_back other c d g)))

-- the sheets of records packed n to a block
sheets_of : ℕ → ℕ → List Written → List Sheet
sheets_of n zero ws = []
sheets_of n (suc k) ws = record { records = take n ws; unused = zeros_after (joined (map record_bytes (take n ws))) } ∷ sheets_of n k (drop n ws)

packed_is : (n b k : ℕ) (ws : List Written) → packed n b k (map record_bytes ws) ≡ blocks_of b (sheets_of n k ws)
unfolding sheets_of
packed_is n b zero ws = refl
packed_is n b (suc k) ws =
    ap (λ (rs : List (List ℕ)). block_bytes b (joined rs) ++ packed n (b + 1) k (drop n (map record_bytes ws))) (take-map record_bytes n ws)
    ∙ (ap (λ (rs : List (List ℕ)). block_bytes b (joined (map record_bytes (take n ws))) ++ packed n (b + 1) k rs) (drop-map record_bytes n ws)
    ∙ ap (λ (xs : List ℕ). block_bytes b (joined (map record_bytes (take n ws))) ++ xs) (packed_is n (b + 1) k (drop n ws)))

sheets_many : (n k : ℕ) (ws : List Written) → length (sheets_of n k ws) ≡ k
unfolding sheets_of
sheets_many n zero ws = refl
sheets_many n (suc k) ws = ap suc (sheets_many n k (drop n ws))

sheets_hold : (n k : ℕ) (ws : List Written) → length ws ≤ n * k → entries_of (sheets_of n k ws) ≡ map entry_of ws
unfolding sheets_of
sheets_hold n zero ws h = ap (λ (vs : List Written). map entry_of vs) (sym (nil_from_length ws (omega (arith, mul-zero n))))
sheets_hold n (suc k) ws h =
    ap (λ (es : List Entry). map entry_of (take n ws) ++ es) (sheets_hold n k (drop n ws) (omega (arith, length-drop n ws, mul-suc n k)))
    ∙ (sym (map-append entry_of (take n ws) (drop n ws)) ∙ ap (λ (vs : List Written). map entry_of vs) (take-append-drop n ws))

-- records of one size
abbrev pub Sized : ℕ → List (List ℕ) → Type 0
Sized size recs = AllByRecursion (λ r. length r ≡ size) recs

pub length-joined : (size : ℕ) (recs : List (List ℕ)) → Sized size recs → length (joined recs) ≡ size * length recs
length-joined size [] s = sym (mul-zero size)
length-joined size (x ∷ xs) s = omega (arith, length-append x (joined xs), length-joined size xs s.1, s.0, mul-suc size (length xs))

pub joined_fits : (size n : ℕ) (recs : List (List ℕ)) → size * n ≤ 506 → Sized size recs → length (joined (take n recs)) ≤ 506
joined_fits size n recs h s =
    let m : length (take n recs) ≤ n = omega (arith, length-take n recs, min-le_left n (length recs)) in
    omega (arith, length-joined size (take n recs) (All-take (λ r. length r ≡ size) n recs s), mul-le-mul_left size m)

pub zeros_fill : (body : List ℕ) → length body ≤ 506 → length body + length (zeros_after body) ≡ 506
zeros_fill body h = search (arith, common_steps)

sheets_fill : (size n : ℕ) → size * n ≤ 506 → (k : ℕ) (ws : List Written) → AllByRecursion Fits ws → Sized size (map record_bytes ws) → AllByRecursion Fills (sheets_of n k ws)
unfolding sheets_of
sheets_fill size n hs zero ws f s = tt
sheets_fill size n hs (suc k) ws f s =
    let short : length (joined (map record_bytes (take n ws))) ≤ 506 =
    omega (arith, joined_fits size n (map record_bytes ws) hs s, ap (λ (rs : List (List ℕ)). length (joined rs)) (take-map record_bytes n ws))
    in (
      record { records = All-take Fits n ws f; whole = zeros_fill (joined (map record_bytes (take n ws))) short },
      sheets_fill size n hs k (drop n ws) (All-drop Fits n ws f) (subst (Sized size) (drop-map record_bytes n ws) (All-drop (λ r. length r ≡ size) n (map record_bytes ws) s)),
    )

-- records of one header, as they are written
abbrev plainly : List ℕ → Plain → Written
plainly x p = written 0 (entry x p)

written_all : (x : List ℕ) (ps : List Plain) → map record_bytes (map (plainly x) ps) ≡ map (stamped x) ps
written_all x [] = refl
written_all x (p ∷ ps) = ap (λ (rs : List (List ℕ)). stamped x p ∷ rs) (written_all x ps)

entries_all : (x : List ℕ) (ps : List Plain) → map entry_of (map (plainly x) ps) ≡ map (entry x) ps
entries_all x [] = refl
entries_all x (p ∷ ps) = ap (λ (es : List Entry). entry x p ∷ es) (entries_all x ps)

fits_all : (x : List ℕ) (ps : List Plain) → length x ≤ 28 → all_writable ps ≡ true → AllByRecursion Fits (map (plainly x) ps)
fits_all x [] h s = tt
fits_all x (p ∷ ps) h s =
    let b = both_parts (writable p) (all_writable ps) s in
    (record { plain = b.0; header = h }, fits_all x ps h b.1)

pub sized_all : (x : List ℕ) (ps : List Plain) → Sized (8 + length x) (map (stamped x) ps)
sized_all x [] = tt
sized_all x (p ∷ ps) = (length-record (plainly x p), sized_all x ps)

-- what is read in k blocks of records packed n to a block
pub packed_round : (x : List ℕ) (n k : ℕ) (ps : List Plain) → length x ≤ 28 → (8 + length x) * n ≤ 506 → k ≤ 4096 → length ps ≤ n * k → all_writable ps ≡ true
    → read_from 0 k (packed n 0 k (map (stamped x) ps)) ≡ Ok (map (entry x) ps)
packed_round x n k ps hx hs h1 hk s =
    let ws : List Written = map (plainly x) ps in
    let ss : List Sheet = sheets_of n k ws in
    let lw : length ws ≤ n * k = omega (arith, length-map ps (plainly x)) in
    let sz : Sized (8 + length x) (map record_bytes ws) = subst (Sized (8 + length x)) (sym (written_all x ps)) (sized_all x ps) in
    let m : length ss ≡ k = sheets_many n k ws in
    ap (λ (rs : List (List ℕ)). read_from 0 k (packed n 0 k rs)) (sym (written_all x ps))
    ∙ (ap (read_from 0 k) (packed_is n 0 k ws)
    ∙ (ap (λ (j : ℕ). read_from 0 j (blocks_of 0 ss)) (sym m)
    ∙ (sheets_round 0 ss (omega (arith, m)) (sheets_fill (8 + length x) n hs k ws (fits_all x ps hx s) sz)
    ∙ (ap Ok (sheets_hold n k ws lw ∙ entries_all x ps)))))

pub length-packed : (size n : ℕ) → size * n ≤ 506 → (k b : ℕ) (recs : List (List ℕ)) → Sized size recs → length (packed n b k recs) ≡ 512 * k
length-packed size n hs zero b recs s = refl
length-packed size n hs (suc k) b recs s =
    let body : List ℕ = joined (take n recs) in
    omega (
      arith,
      length-append (block_bytes b body) (packed n (b + 1) k (drop n recs)),
      length-sealed b body (zeros_after body) (zeros_fill body (joined_fits size n recs hs s)),
      length-packed size n hs k (b + 1) (drop n recs) (All-drop (λ r. length r ≡ size) n recs s),
    )

pub layout_reads_back : LayoutReadsBack
layout_reads_back x k ps hx h0 h1 hk s =
    let n : ℕ = per_block x in
    let hs : (8 + length x) * n ≤ 506 = mul-div-le 506 (8 + length x) in
    let bytes : List ℕ = laid_out x k ps in
    let l : length bytes ≡ 512 * k = length-packed (8 + length x) n hs k 0 (map (stamped x) ps) (sized_all x ps) in
    let d : length bytes / 512 ≡ k = ap (λ (m : ℕ). m / 512) l ∙ omega arith in
    read_whole bytes (ap (λ (m : ℕ). m % 512) l ∙ omega arith) (omega (arith, l)) (omega (arith, l))
    ∙ (ap (λ (j : ℕ). read_from 0 j bytes) d ∙ packed_round x n k ps hx hs h1 hk s)
