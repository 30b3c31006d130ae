-- Records packed into blocks, one after another.
use Rattle.std.proofs.lemmas.Grind.{common_steps}
use Rattle.std.proofs.Common.{rules}
use Rattle.std.proofs.Common.{◌≡◌, ℕ, zero, suc, ◌+◌, ◌-◌, ◌*◌, ◌/◌, ◌%◌, ◌<◌, ◌≤◌, true, cond, ltb, List, [], ◌∷◌, ◌++◌, map, length, take, drop, Ok, Err, sym, refl, ap, ◌∙◌, subst, inl, inr, add-zero, mod-eq_of_lt, mul-zero, zero-add, mul-suc, add-one, arith, length-append, length-drop}
use native.Mathlib.Nat.{add-mod_right, div-eq_of_lt, add-div_right}
use lib.Seq.{take-append-add, take-nil}
use borrow.Rule.Slice.PartMut.{put_mid}
use Rattle.std.proofs.lemmas.List.{take_at, drop_at, append_assoc, append-nil, take_all, drop_all, drop-drop, drop-take, take-take, take-append-le, drop-append-le, length_push, map_push, length-map, nil_from_length}
use Rattle.std.proofs.ByRecursion.{All-drop}
use Rattle.std.proofs.lemmas.Bool.{cases_lt, cond-true, cond-false, lt-ltb, le-ltb}
use Rattle.capture.specs.declared.refusal.Refusal.TheVariants.{Blocks}
use Rattle.capture.specs.Records.{Plain, Entry, entry, plain_of, written}
use Rattle.capture.specs.Lawful.{writable, all_writable}
use Rattle.capture.specs.Checksum.{block_sum}
use Rattle.capture.specs.Checking.{Answer, read_from, read_capture, entries}
use Rattle.capture.specs.Remaining.{block_at}
use Rattle.capture.specs.Blocks.{zeros_after, block_bytes}
use Rattle.capture.specs.Layout.{joined, packed, stamped, per_block}
use Rattle.capture.proofs.Matching.{both_parts}
use Rattle.capture.proofs.Walks.{both_true, read_whole}
use Rattle.capture.proofs.Feeding.{capture_adds_up}
use Rattle.capture.proofs.Rounds.{length-sealed, body_of_lem, zeros_fill, Sized, length-joined, joined_fits, length-record, sized_all, packed_round, length-packed}
use Rattle.recorder.specs.Recording.{header_allowed, added_by, laid, places, found_in}
use Rattle.recorder.specs.Noting.{edited, noted, empty_blocks}

length-block : (b : ℕ) (body : List ℕ) → length body ≤ 506 → length (block_bytes b body) ≡ 512
length-block b body h = length-sealed b body (zeros_after body) (zeros_fill body h)

joined_push : (recs : List (List ℕ)) (r : List ℕ) → joined (recs ++ r ∷ []) ≡ joined recs ++ r
joined_push [] r = append-nil r
joined_push (x ∷ xs) r = ap (λ (ys : List ℕ). x ++ ys) (joined_push xs r) ∙ sym (append_assoc x (joined xs) r)

edited_here : (f : List ℕ → List ℕ) (B L : List ℕ) → length B ≡ 512 → edited f 0 (B ++ L) ≡ f B ++ L
edited_here f B L h = search (arith, common_steps)

drop_past : (B L : List ℕ) (o : ℕ) → length B ≡ 512 → drop (512 + o) (B ++ L) ≡ drop o L
drop_past B L o h = sym (drop-drop o 512 (B ++ L)) ∙ ap (λ (xs : List ℕ). drop o xs) (drop_at B L 512 h)

take_past : (B L : List ℕ) (o : ℕ) → length B ≡ 512 → take (512 + o) (B ++ L) ≡ B ++ take o L
take_past B L o h = ap (λ (m : ℕ). take (m + o) (B ++ L)) (sym h) ∙ take-append-add B L o

edited_there : (f : List ℕ → List ℕ) (B L : List ℕ) (o : ℕ) → length B ≡ 512 → edited f (512 + o) (B ++ L) ≡ B ++ edited f o L
edited_there f B L o h =
    let e : (512 + o) + 512 ≡ 512 + (o + 512) = omega arith in
    let d : drop ((512 + o) + 512) (B ++ L) ≡ drop (o + 512) L = ap (λ (m : ℕ). drop m (B ++ L)) e ∙ drop_past B L (o + 512) h in
    let g : f (take 512 (drop (512 + o) (B ++ L))) ≡ f (take 512 (drop o L)) = ap (λ (xs : List ℕ). f (take 512 xs)) (drop_past B L o h) in
    ap (λ (xs : List ℕ). xs ++ (f (take 512 (drop (512 + o) (B ++ L))) ++ drop ((512 + o) + 512) (B ++ L))) (take_past B L o h)
    ∙ (ap (λ (xs : List ℕ). (B ++ take o L) ++ (xs ++ drop ((512 + o) + 512) (B ++ L))) g
    ∙ (ap (λ (xs : List ℕ). (B ++ take o L) ++ (f (take 512 (drop o L)) ++ xs)) d
    ∙ append_assoc B (take o L) (f (take 512 (drop o L)) ++ drop (o + 512) L)))

-- one record put at place r of the block that is numbered m and stands at o
unfoldable put : ℕ → List ℕ → ℕ → ℕ → ℕ → List ℕ → List ℕ
put size rec m o r buf = edited (λ block. block_bytes m (take (size * r) (drop 4 block) ++ rec)) o buf

noted_from : (size n : ℕ) → 0 < n → size * n ≤ 506 → (k b : ℕ) (recs : List (List ℕ)) (rec : List ℕ)
    → Sized size recs → length rec ≡ size → length recs < n * k
    → put size rec (b + length recs / n) (512 * (length recs / n)) (length recs % n) (packed n b k recs) ≡ packed n b k (recs ++ rec ∷ [])
unfolding put
noted_from size n hn hs zero b recs rec s e h = absurd (omega (arith, mul-zero n))
noted_from size n hn hs (suc k) b recs rec s e h = elim (cases_lt (length recs) n) [
  | inl lt ↦
      let q : length recs / n ≡ 0 = div-eq_of_lt lt in
      let r : length recs % n ≡ length recs = mod-eq_of_lt lt in
      let B : List ℕ = block_bytes b (joined (take n recs)) in
      let L : List ℕ = packed n (b + 1) k (drop n recs) in
      let l_b : length B ≡ 512 = length-block b (joined (take n recs)) (joined_fits size n recs hs s) in
      let tr : take n recs ≡ recs = take_all n recs (omega arith) in
      let tr' : take n (recs ++ rec ∷ []) ≡ recs ++ rec ∷ [] = take_all n (recs ++ rec ∷ []) (omega (arith, length_push recs rec)) in
      let dr : drop n recs ≡ [] = drop_all n recs (omega arith) in
      let dr' : drop n (recs ++ rec ∷ []) ≡ [] = drop_all n (recs ++ rec ∷ []) (omega (arith, length_push recs rec)) in
      let fl : size * length recs ≡ length (joined (take n recs)) = sym (length-joined size recs s) ∙ ap (λ (xs : List (List ℕ)). length (joined xs)) (sym tr) in
      let q1 : b + length recs / n ≡ b = omega (arith, q) in
      let q2 : 512 * (length recs / n) ≡ 0 = omega (arith, q) in
      let e1 : put size rec (b + length recs / n) (512 * (length recs / n)) (length recs % n) (B ++ L) ≡ put size rec b 0 (length recs) (B ++ L) =
      ap (λ (m : ℕ). put size rec m (512 * (length recs / n)) (length recs % n) (B ++ L)) q1
      ∙ (ap (λ (m : ℕ). put size rec b m (length recs % n) (B ++ L)) q2
      ∙ ap (λ (m : ℕ). put size rec b 0 m (B ++ L)) r)
      in
      let e2 : put size rec b 0 (length recs) (B ++ L) ≡ block_bytes b (take (size * length recs) (drop 4 B) ++ rec) ++ L =
      edited_here (λ block. block_bytes b (take (size * length recs) (drop 4 block) ++ rec)) B L l_b
      in
      let e3 : take (size * length recs) (drop 4 B) ++ rec ≡ joined (take n (recs ++ rec ∷ [])) =
      ap (λ (xs : List ℕ). xs ++ rec) (body_of_lem b (joined (take n recs)) (zeros_after (joined (take n recs))) (size * length recs) fl)
      ∙ (ap (λ (xs : List (List ℕ)). joined xs ++ rec) tr
      ∙ (sym (joined_push recs rec) ∙ ap joined (sym tr')))
      in
      e1 ∙ (e2 ∙ (ap (λ (xs : List ℕ). block_bytes b xs ++ L) e3
      ∙ ap (λ (xs : List (List ℕ)). block_bytes b (joined (take n (recs ++ rec ∷ []))) ++ packed n (b + 1) k xs) (dr ∙ sym dr')))
  | inr ge ↦
      let d : List (List ℕ) = drop n recs in
      let ld : length d ≡ length recs - n = length-drop n recs in
      let c : length recs ≡ length d + n = omega arith in
      let q : length recs / n ≡ length d / n + 1 = ap (λ (m : ℕ). m / n) c ∙ add-div_right (length d) hn in
      let r : length recs % n ≡ length d % n = ap (λ (m : ℕ). m % n) c ∙ add-mod_right (length d) n in
      let B : List ℕ = block_bytes b (joined (take n recs)) in
      let L : List ℕ = packed n (b + 1) k d in
      let l_b : length B ≡ 512 = length-block b (joined (take n recs)) (joined_fits size n recs hs s) in
      let q1 : b + length recs / n ≡ (b + 1) + length d / n = omega (arith, q) in
      let q2 : 512 * (length recs / n) ≡ 512 + 512 * (length d / n) = omega (arith, q) in
      let e1 : put size rec (b + length recs / n) (512 * (length recs / n)) (length recs % n) (B ++ L) ≡ put size rec ((b + 1) + length d / n) (512 + 512 * (length d / n)) (length d % n) (B ++ L) =
      ap (λ (m : ℕ). put size rec m (512 * (length recs / n)) (length recs % n) (B ++ L)) q1
      ∙ (ap (λ (m : ℕ). put size rec ((b + 1) + length d / n) m (length recs % n) (B ++ L)) q2
      ∙ ap (λ (m : ℕ). put size rec ((b + 1) + length d / n) (512 + 512 * (length d / n)) m (B ++ L)) r)
      in
      let e2 : put size rec ((b + 1) + length d / n) (512 + 512 * (length d / n)) (length d % n) (B ++ L) ≡ B ++ put size rec ((b + 1) + length d / n) (512 * (length d / n)) (length d % n) L =
      edited_there (λ block. block_bytes ((b + 1) + length d / n) (take (size * (length d % n)) (drop 4 block) ++ rec)) B L (512 * (length d / n)) l_b
      in
      let ih : put size rec ((b + 1) + length d / n) (512 * (length d / n)) (length d % n) L ≡ packed n (b + 1) k (d ++ rec ∷ []) =
      noted_from size n hn hs k (b + 1) d rec (All-drop (λ r. length r ≡ size) n recs s) e (omega (arith, mul-suc n k))
      in
      e1 ∙ (e2 ∙ (ap (λ (xs : List ℕ). B ++ xs) ih
      ∙ (ap (λ (xs : List (List ℕ)). B ++ packed n (b + 1) k xs) (sym (drop-append-le n recs (rec ∷ []) ge))
      ∙ ap (λ (xs : List (List ℕ)). block_bytes b (joined xs) ++ packed n (b + 1) k (drop n (recs ++ rec ∷ []))) (sym (take-append-le n recs (rec ∷ []) ge)))))
]

pub packed_none : (n b k : ℕ) → packed n b k [] ≡ empty_blocks b k
packed_none n b zero = refl
packed_none n b (suc k) =
    ap (λ (xs : List (List ℕ)). block_bytes b (joined xs) ++ packed n (b + 1) k (drop n [])) (take-nil n)
    ∙ (ap (λ (xs : List (List ℕ)). block_bytes b [] ++ packed n (b + 1) k xs) (drop_all n [] (omega arith))
    ∙ ap (λ (xs : List ℕ). block_bytes b [] ++ xs) (packed_none n (b + 1) k))

length-empty : (b k : ℕ) → length (empty_blocks b k) ≡ 512 * k
length-empty b zero = refl
length-empty b (suc k) =
    omega (arith, length-append (block_bytes b []) (empty_blocks (b + 1) k), length-block b [] (omega arith), length-empty (b + 1) k)

empty_more : (b k : ℕ) → empty_blocks b (suc k) ≡ empty_blocks b k ++ block_bytes (b + k) []
empty_more b zero = append-nil (block_bytes b []) ∙ ap (λ (j : ℕ). block_bytes j []) (sym (add-zero b))
empty_more b (suc k) =
    let e : (b + 1) + k ≡ b + suc k = omega arith in
    ap (λ (xs : List ℕ). block_bytes b [] ++ xs) (empty_more (b + 1) k)
    ∙ (sym (append_assoc (block_bytes b []) (empty_blocks (b + 1) k) (block_bytes ((b + 1) + k) []))
    ∙ ap (λ (j : ℕ). (block_bytes b [] ++ empty_blocks (b + 1) k) ++ block_bytes j []) e)

pub place_fits : (size n c : ℕ) → 0 < n → size * n ≤ 506 → size * (c % n) + size ≤ 506
place_fits size n c hn hs = search rules

pub noted_packed : (size n : ℕ) → 0 < n → size * n ≤ 506 → (k : ℕ) (recs : List (List ℕ)) (rec : List ℕ)
    → Sized size recs → length rec ≡ size → length recs < n * k
    → noted size n (length recs) rec (packed n 0 k recs) ≡ packed n 0 k (recs ++ rec ∷ [])
unfolding put
noted_packed size n hn hs k recs rec s e h =
    ap (λ (m : ℕ). put size rec m (512 * (length recs / n)) (length recs % n) (packed n 0 k recs)) (sym (zero-add (length recs / n)))
    ∙ noted_from size n hn hs k 0 recs rec s e h

-- the records of a block that stand before a new one, as they lie in the buffer
before_is : (o k : ℕ) (buf : List ℕ) → k ≤ 506 → take (((o + 4) + k) - (o + 4)) (drop (o + 4) buf) ≡ take k (drop 4 (take 512 (drop o buf)))
before_is o k buf h =
    let n : ((o + 4) + k) - (o + 4) ≡ k = omega arith in
    ap (λ (j : ℕ). take j (drop (o + 4) buf)) n
    ∙ (ap (take k) (sym (drop-drop 4 o buf))
    ∙ (sym (take-take k 508 (drop 4 (drop o buf)) (omega arith)) ∙ ap (take k) (sym (drop-take 4 508 (drop o buf)))))

pub note_is : (o m k : ℕ) (buf rec new : List ℕ) → k ≤ 506 → new ≡ block_bytes m (take (((o + 4) + k) - (o + 4)) (drop (o + 4) buf) ++ rec)
    → put_mid o ((o + 512) - o) buf new ≡ edited (λ block. block_bytes m (take k (drop 4 block) ++ rec)) o buf
note_is o m k buf rec new h e =
    let n : (o + 512) - o ≡ 512 = omega arith in
    ap (λ (j : ℕ). put_mid o j buf new) n
    ∙ (ap (λ (xs : List ℕ). put_mid o 512 buf xs) (e ∙ ap (λ (xs : List ℕ). block_bytes m (xs ++ rec)) (before_is o k buf h))
    ∙ ap (λ (xs : List ℕ). take o buf ++ (block_bytes m (take k (drop 4 (take 512 (drop o buf))) ++ rec) ++ xs)) (drop-drop 512 o buf))

pub fill_more : (b : ℕ) (s cur new : List ℕ) → cur ≡ empty_blocks 0 b ++ drop (512 * b) s → new ≡ block_bytes b []
    → put_mid (512 * b) ((512 * b + 512) - 512 * b) cur new ≡ empty_blocks 0 (b + 1) ++ drop (512 * (b + 1)) s
fill_more b s cur new ec en =
    let o : ℕ = 512 * b in
    let P : List ℕ = empty_blocks 0 b in
    let D : List ℕ = drop o s in
    let k : (o + 512) - o ≡ 512 = omega arith in
    let o' : o + 512 ≡ 512 * (b + 1) = omega arith in
    let d : drop 512 (drop o (P ++ D)) ≡ drop (512 * (b + 1)) s =
    ap (λ (xs : List ℕ). drop 512 xs) (drop_at P D o (length-empty 0 b)) ∙ (drop-drop 512 o s ∙ ap (λ (j : ℕ). drop j s) o')
    in
    let m : empty_blocks 0 (b + 1) ≡ P ++ block_bytes b [] =
    ap (λ (j : ℕ). empty_blocks 0 j) (add-one b) ∙ (empty_more 0 b ∙ ap (λ (j : ℕ). P ++ block_bytes j []) (zero-add b))
    in
    ap (λ (xs : List ℕ). put_mid o ((o + 512) - o) xs new) ec
    ∙ (ap (λ (xs : List ℕ). put_mid o ((o + 512) - o) (P ++ D) xs) en
    ∙ (ap (λ (j : ℕ). put_mid o j (P ++ D) (block_bytes b [])) k
    ∙ (ap (λ (xs : List ℕ). xs ++ (block_bytes b [] ++ drop 512 (drop o (P ++ D)))) (take_at P D o (length-empty 0 b))
    ∙ (ap (λ (xs : List ℕ). P ++ (block_bytes b [] ++ xs)) d
    ∙ (sym (append_assoc P (block_bytes b []) (drop (512 * (b + 1)) s))
    ∙ ap (λ (xs : List ℕ). xs ++ drop (512 * (b + 1)) s) (sym m))))))

pub header_many : (h : ℕ) → header_allowed h ≡ true → 0 < 506 / (h + 4)
header_many h l = search rules

-- a record's size, by its header and by what that adds
pub added_size : (h number : ℕ) → header_allowed h ≡ true → h + 4 ≡ 8 + length (added_by h number)
added_size h number l = search rules

added_short : (h number : ℕ) → header_allowed h ≡ true → length (added_by h number) ≤ 28
added_short h number l = search rules

plains : (x : List ℕ) (ps : List Plain) → map plain_of (map (entry x) ps) ≡ ps
plains x [] = refl
plains x (p ∷ ps) = ap (λ (qs : List Plain). p ∷ qs) (plains x ps)

writable_push : (ps : List Plain) (p : Plain) → all_writable ps ≡ true → writable p ≡ true → all_writable (ps ++ p ∷ []) ≡ true
writable_push [] p a w = both_true (writable p) true w refl
writable_push (q ∷ qs) p a w =
    let b = both_parts (writable q) (all_writable qs) a in
    both_true (writable q) _ b.0 (writable_push qs p b.1 w)

-- as many records to a block as the header says
per_block_lem : (h number : ℕ) → header_allowed h ≡ true → 506 / (h + 4) ≡ per_block (added_by h number)
per_block_lem h number l = search rules

laid_fit : (h number : ℕ) → (8 + length (added_by h number)) * per_block (added_by h number) ≤ 506
laid_fit h number = search rules

laid_read : (h number k : ℕ) (ps : List Plain) → header_allowed h ≡ true → k ≤ 4096 → length ps ≤ places h k → all_writable ps ≡ true
    → read_from 0 k (laid h number k ps) ≡ Ok (map (entry (added_by h number)) ps)
laid_read h number k ps l hk hp s =
    let e : places h k ≡ per_block (added_by h number) * k = ap (λ (m : ℕ). m * k) (per_block_lem h number l) in
    packed_round (added_by h number) (per_block (added_by h number)) k ps (added_short h number l) (laid_fit h number) hk (omega (arith, e)) s

laid_found : (h number k : ℕ) (ps : List Plain) → header_allowed h ≡ true → k ≤ 4096 → length ps ≤ places h k → all_writable ps ≡ true
    → found_in k (laid h number k ps) ≡ ps
laid_found h number k ps l hk hp s = ap (λ (a : Answer). map plain_of (entries a)) (laid_read h number k ps l hk hp s) ∙ plains (added_by h number) ps

laid_whole : (h number k : ℕ) (ps : List Plain) → length (laid h number k ps) ≡ 512 * k
laid_whole h number k ps = length-packed (8 + length (added_by h number)) (per_block (added_by h number)) (laid_fit h number) k 0 (map (stamped (added_by h number)) ps) (sized_all (added_by h number) ps)

-- one record more
pub record More (h number k c : ℕ) (buffer : List ℕ) (p : Plain) (new : List ℕ) : Type 0 where
  pub made : found_in k new ≡ found_in k buffer ++ p ∷ []
  pub whole : length new ≡ 512 * k
  pub many : length (found_in k new) ≡ c + 1
  pub sound : all_writable (found_in k new) ≡ true
  pub stands : new ≡ laid h number k (found_in k new)

pub more : (h number k c : ℕ) (buffer : List ℕ) (p : Plain) (rec new : List ℕ) → header_allowed h ≡ true → k ≤ 4096 → length (found_in k buffer) ≡ c → all_writable (found_in k buffer) ≡ true → buffer ≡ laid h number k (found_in k buffer)
    → writable p ≡ true → rec ≡ stamped (added_by h number) p → c < places h k → new ≡ noted (h + 4) (506 / (h + 4)) c rec buffer → More h number k c buffer p new
more h number k c buffer p rec new l hk hc s laid-buffer sp er hp e =
    let x : List ℕ = added_by h number in
    let n : ℕ = per_block x in
    let size : ℕ = 8 + length x in
    let ps : List Plain = found_in k buffer in
    let rs : List (List ℕ) = map (stamped x) ps in
    let lr : length rs ≡ c = length-map ps (stamped x) ∙ hc in
    let pl : places h k ≡ n * k = ap (λ (m : ℕ). m * k) (per_block_lem h number l) in
    let hn : 0 < n = subst (λ m. 0 < m) (per_block_lem h number l) (header_many h l) in
    let s' : all_writable (ps ++ p ∷ []) ≡ true = writable_push ps p s sp in
    let l' : length (ps ++ p ∷ []) ≡ c + 1 = length_push ps p ∙ ap (λ (m : ℕ). m + 1) hc in
    let f : new ≡ laid h number k (ps ++ p ∷ []) =
    e
    ∙ (ap (λ (m : ℕ). noted m (506 / m) c rec buffer) (added_size h number l)
    ∙ (ap (λ (ys : List ℕ). noted size n c ys buffer) er
    ∙ (ap (λ (ys : List ℕ). noted size n c (stamped x p) ys) laid-buffer
    ∙ (ap (λ (m : ℕ). noted size n m (stamped x p) (packed n 0 k rs)) (sym lr)
    ∙ (noted_packed size n hn (laid_fit h number) k rs (stamped x p) (sized_all x ps) (length-record (written 0 (entry x p))) (omega (arith, lr, pl))
    ∙ ap (λ (ys : List (List ℕ)). packed n 0 k ys) (sym (map_push (stamped x) ps p)))))))
    in
    let g : found_in k new ≡ ps ++ p ∷ [] = ap (found_in k) f ∙ laid_found h number k (ps ++ p ∷ []) l hk (omega (arith, l')) s' in
    record {
      made = g;
      whole = ap length f ∙ laid_whole h number k (ps ++ p ∷ []);
      many = ap length g ∙ l';
      sound = ap all_writable g ∙ s';
      stands = f ∙ ap (laid h number k) (sym g);
    }

-- a new recorder's buffer
pub record New (h number k : ℕ) (buffer : List ℕ) : Type 0 where
  pub made : found_in k buffer ≡ []
  pub bytes : buffer ≡ laid h number k []
  pub stands : buffer ≡ laid h number k (found_in k buffer)

pub new : (h number k : ℕ) (buffer : List ℕ) → header_allowed h ≡ true → k ≤ 4096 → buffer ≡ empty_blocks 0 k → New h number k buffer
new h number k buffer l hk e =
    let b : buffer ≡ laid h number k [] = e ∙ sym (packed_none (per_block (added_by h number)) 0 k) in
    let m : found_in k buffer ≡ [] = ap (found_in k) b ∙ laid_found h number k [] l hk (omega arith) refl in
    record { made = m; bytes = b; stands = b ∙ ap (laid h number k) (sym m) }

-- a closed recorder's bytes
pub closed_read : (h number k : ℕ) (buffer : List ℕ) → header_allowed h ≡ true → k ≤ 4096 → length buffer ≡ 512 * k → length (found_in k buffer) ≤ places h k → all_writable (found_in k buffer) ≡ true → buffer ≡ laid h number k (found_in k buffer)
    → read_capture buffer ≡ cond (ltb 0 k) (Ok (map (entry (added_by h number)) (found_in k buffer))) (Err Blocks)
closed_read h number k buffer l hk lb hp s e = elim (cases_lt 0 k) [
  | inl h0 ↦
      let d : length buffer / 512 ≡ k = ap (λ (m : ℕ). m / 512) lb ∙ omega arith in
      read_whole buffer (ap (λ (m : ℕ). m % 512) lb ∙ omega arith) (omega arith) (omega arith)
      ∙ (ap (λ (j : ℕ). read_from 0 j buffer) d
      ∙ (ap (read_from 0 k) e
      ∙ (laid_read h number k (found_in k buffer) l hk hp s
      ∙ sym (cond-true (ltb 0 k) _ (Err Blocks) (lt-ltb 0 k h0)))))
  | inr none ↦
      let z : buffer ≡ [] = nil_from_length buffer (omega (arith, lb)) in
      ap read_capture z ∙ sym (cond-false (ltb 0 k) _ (Err Blocks) (le-ltb 0 k none))
]

pub closed_sums : (h number k : ℕ) (buffer : List ℕ) (es : List Entry) → length buffer ≡ 512 * k → read_capture buffer ≡ cond (ltb 0 k) (Ok es) (Err Blocks) → (b : ℕ) → b < k → block_sum (block_at buffer b) ≡ 0
closed_sums h number k buffer es lb r b lt = capture_adds_up buffer es (r ∙ cond-true (ltb 0 k) (Ok es) (Err Blocks) (lt-ltb 0 k (omega arith))) b (omega arith)
