-- Laws of the flat board.
use Rattle.std.proofs.Common.{◌≡◌, ℕ, ◌+◌, ◌*◌, ◌/◌, ◌%◌, ◌<◌, ◌≤◌, Bool, true, false, cond, ltb, List, length, get_or, drop, set, refl, ap, ◌∙◌, arith, drop-set-lt}
use mathlib.Core.Path.{fun_ext}
use Rattle.std.proofs.lemmas.Bool.{cond-true, cond-false, ltb-true, lt-ltb, le-ltb}
use Rattle.bus.specs.Memory.{silent, opened}
use Rattle.bus.specs.Boards.{word_at, whole, held, flat, with_word, with_byte}

pub all_open : (bytes : List ℕ) → length bytes ≡ 65536 → (n : ℕ) → n < 32704 → flat bytes n ≡ opened (word_at bytes n)
all_open bytes l n h = cond-true _ _ _ (lt-ltb n 32704 h) ∙ cond-true _ _ _ (lt-ltb (2 * n + 1) (length bytes) (omega arith))

pub page_silent : (bytes : List ℕ) (n : ℕ) → 32704 ≤ n → flat bytes n ≡ silent
page_silent bytes n h = cond-false _ _ _ (le-ltb n 32704 h)

pub begin_alike : (bytes others : List ℕ) → length bytes ≡ length others → ((i : ℕ) → i < 65408 → get_or bytes i 0 ≡ get_or others i 0) → flat bytes ≡ flat others
begin_alike bytes others l h = fun_ext (λ n. go n (ltb n 32704) refl)
  where
    go : (n : ℕ) (b : Bool) → ltb n 32704 ≡ b → cond b (held opened bytes n) silent ≡ cond b (held opened others n) silent
    go n false e = refl
    go n true e =
        let k : n < 32704 = ltb-true n 32704 e in
        let w : word_at bytes n ≡ word_at others n = omega (arith, h (2 * n) (omega arith), h (2 * n + 1) (omega arith)) in
        ap (λ m. cond (ltb (2 * n + 1) m) (opened (word_at bytes n)) silent) l ∙ ap (λ v. cond (whole others n) (opened v) silent) w

pub last_bytes_stay : (bytes : List ℕ) (at w : ℕ) → at < 65408 → drop 65408 (with_word bytes (at / 2) w) ≡ drop 65408 bytes
last_bytes_stay bytes at w h =
    drop-set-lt 65408 (set bytes (2 * (at / 2)) (w % 256)) (2 * (at / 2) + 1) (w / 256) (omega arith) ∙ drop-set-lt 65408 bytes (2 * (at / 2)) (w % 256) (omega arith)

pub last_bytes_stay_bytes : (bytes : List ℕ) (at b : ℕ) → at < 65408 → drop 65408 (with_byte bytes at b) ≡ drop 65408 bytes
last_bytes_stay_bytes bytes at b h = drop-set-lt 65408 bytes at b h
