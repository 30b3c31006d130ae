-- A line as it grows.
use Rattle.std.proofs.lemmas.Grind.{common_steps}
use Rattle.std.proofs.Common.{◌≡◌, ℕ, ◌+◌, ◌<◌, arith, List, [], ◌∷◌, ◌++◌, length, get_or, take, sym, ap, ◌∙◌}
use Rattle.std.proofs.lemmas.List.{take_more, append_assoc, append-nil}
use Rattle.inspection.specs.Texts.{hex_text, bytes_text}

text_push : (xs : List ℕ) (b : ℕ) → bytes_text (xs ++ b ∷ []) ≡ bytes_text xs ++ hex_text b
text_push [] b = append-nil (hex_text b)
text_push (x ∷ xs) b = ap (λ (ys : List ℕ). hex_text x ++ ys) (text_push xs b) ∙ sym (append_assoc (hex_text x) (bytes_text xs) (hex_text b))

grown : (base old more s0 s1 piece : List ℕ) → s0 ≡ base ++ old → s1 ≡ s0 ++ piece → more ≡ old ++ piece → s1 ≡ base ++ more
grown base old more s0 s1 piece e f g = search (arith, common_steps)

-- one byte more, as it is
pub byte_more : (base xs s0 s1 piece : List ℕ) (i : ℕ) → i < length xs → s0 ≡ base ++ take i xs → s1 ≡ s0 ++ piece → piece ≡ get_or xs i 0 ∷ [] → s1 ≡ base ++ take (i + 1) xs
byte_more base xs s0 s1 piece i h e f g = grown base (take i xs) (take (i + 1) xs) s0 s1 piece e f (take_more xs i 0 h ∙ ap (λ (ys : List ℕ). take i xs ++ ys) (sym g))

-- one byte more, in digits
pub digits_more : (base xs s0 s1 piece : List ℕ) (i : ℕ) → i < length xs → s0 ≡ base ++ bytes_text (take i xs) → s1 ≡ s0 ++ piece → piece ≡ hex_text (get_or xs i 0) → s1 ≡ base ++ bytes_text (take (i + 1) xs)
digits_more base xs s0 s1 piece i h e f g =
    grown base (bytes_text (take i xs)) (bytes_text (take (i + 1) xs)) s0 s1 piece e f
    (ap bytes_text (take_more xs i 0 h) ∙ (text_push (take i xs) (get_or xs i 0) ∙ ap (λ (ys : List ℕ). bytes_text (take i xs) ++ ys) (sym g)))
