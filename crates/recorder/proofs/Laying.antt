-- A block as its parts are written one after another.
use Rattle.std.proofs.lemmas.Grind.{common_steps}
use Rattle.std.proofs.Common.{◌≡◌, ℕ, ◌+◌, ◌-◌, ◌≤◌, List, ◌++◌, length, take, drop, replicate, ap, ◌∙◌, arith, length-append}
use borrow.Rule.Slice.PartMut.{put_mid, post_of}
use Rattle.std.proofs.Math.Seq.{take-add}
use Rattle.std.proofs.lemmas.List.{drop-replicate, length-replicate, take-replicate}
use Rattle.std.proofs.lemmas.Slice.{drop-put_mid}
use Rattle.capture.specs.Words.{word_bytes}
use Rattle.capture.specs.Blocks.{unsealed, zeros_after}

-- what stands before e after a part that ends there was written at p
record Put (p e : ℕ) (xs ys new : List ℕ) : Type 0 where
  pub front : take e new ≡ take p xs ++ ys
  pub long : length new ≡ length xs

put : (p e : ℕ) (xs ys : List ℕ) → e ≡ p + length ys → e ≤ length xs → Put p e xs ys (put_mid p (e - p) xs ys)
put p e xs ys h l = search (arith, common_steps)

joined : (A U B R Z a u b r z : List ℕ) → A ≡ a → U ≡ u → B ≡ b → R ≡ r → Z ≡ z → (((A ++ U) ++ B) ++ R) ++ Z ≡ (((a ++ u) ++ b) ++ r) ++ z
joined A U B R Z a u b r z eA eU eB eR eZ = cc

-- number, used count and two runs of records, over what each copy left of zeros
pub laid : (block A U B R before rec : List ℕ) (number at end : ℕ)
    → block ≡ replicate 512 0
    → at ≡ 4 + length before
    → end ≡ at + length rec
    → end ≤ 510
    → A ≡ word_bytes number
    → U ≡ word_bytes (end - 4)
    → B ≡ before
    → R ≡ rec
    → take 510 (put_mid at (end - at) (put_mid 4 (at - 4) (put_mid 2 2 (A ++ post_of 0 2 block) U) B) R)
    ≡ unsealed number (before ++ rec) (zeros_after (before ++ rec))
laid block A U B R before rec number at end eb ha he h eA eU eB eR =
    let lb : length block ≡ 512 = ap length eb ∙ length-replicate {A = ℕ} 512 0 in
    let lA : length A ≡ 2 = ap length eA in
    let lU : length U ≡ 2 = ap length eU in
    let lB : length B ≡ length before = ap length eB in
    let lR : length R ≡ length rec = ap length eR in
    let n : end - 4 ≡ length (before ++ rec) = omega (arith, length-append before rec) in
    let x1 : List ℕ = A ++ post_of 0 2 block in
    let x2 : List ℕ = put_mid 2 2 x1 U in
    let x3 : List ℕ = put_mid 4 (at - 4) x2 B in
    let x4 : List ℕ = put_mid at (end - at) x3 R in
    let p1 : Put 0 2 block A x1 = put 0 2 block A (omega arith) (omega arith) in
    let p2 : Put 2 4 x1 U x2 = put 2 4 x1 U (omega arith) (omega (arith, p1.long)) in
    let p3 : Put 4 at x2 B x3 = put 4 at x2 B (omega arith) (omega (arith, p1.long, p2.long)) in
    let p4 : Put at end x3 R x4 = put at end x3 R (omega arith) (omega (arith, p1.long, p2.long, p3.long)) in
    let d1 : drop end x1 ≡ drop end block = drop-put_mid 0 2 block A end (omega arith) (omega arith) (omega arith) in
    let d2 : drop end x2 ≡ drop end x1 = drop-put_mid 2 2 x1 U end (omega arith) (omega (arith, p1.long)) (omega arith) in
    let d3 : drop end x3 ≡ drop end x2 = drop-put_mid 4 (at - 4) x2 B end (omega arith) (omega (arith, p1.long, p2.long)) (omega arith) in
    let d4 : drop end x4 ≡ drop end x3 = drop-put_mid at (end - at) x3 R end (omega arith) (omega (arith, p1.long, p2.long, p3.long)) (omega arith) in
    let tail : drop end x4 ≡ replicate (512 - end) 0 = d4 ∙ (d3 ∙ (d2 ∙ (d1 ∙ (ap (drop end) eb ∙ drop-replicate {X = ℕ} end 512 0)))) in
    let Z : List ℕ = take (510 - end) (drop end x4) in
    let z : Z ≡ zeros_after (before ++ rec) =
    ap (take (510 - end)) tail ∙ (take-replicate {X = ℕ} (510 - end) (512 - end) 0 (omega arith) ∙ ap (λ (k : ℕ). replicate k 0) (omega arith))
    in
    let u : U ≡ word_bytes (length (before ++ rec)) = eU ∙ ap word_bytes n in
    let whole : 510 ≡ end + (510 - end) = omega arith in
    ap (λ (k : ℕ). take k x4) whole
    ∙ (take-add end (510 - end) x4
    ∙ (ap (λ (xs : List ℕ). xs ++ Z) (p4.front ∙ ap (λ (xs : List ℕ). xs ++ R) (p3.front ∙ ap (λ (xs : List ℕ). xs ++ B) (p2.front ∙ ap (λ (xs : List ℕ). xs ++ U) p1.front)))
    ∙ joined A U B R Z (word_bytes number) (word_bytes (length (before ++ rec))) before rec (zeros_after (before ++ rec)) eA u eB eR z))
