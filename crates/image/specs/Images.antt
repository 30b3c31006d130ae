-- Images: their size, and their words.
use Rattle.std.specs.Prelude.{ℕ, ◌+◌, ◌*◌, ◌/◌, ◌%◌, cond, List, [], ◌∷◌, length, Ok, Err, Result, ◌==◌, slice_index}
use Rattle.image.specs.declared.refusal.Refusal.{Refusal}
use Rattle.image.specs.declared.refusal.Refusal.TheVariants.{WrongSize}

abbrev pub refusal_number : Refusal → ℕ
refusal_number WrongSize = 1

-- an answer as its number, 0 where nothing is refused, and its bytes
abbrev pub told : {X : Type 0} → (X → List ℕ) → Result X Refusal → ℕ × List ℕ
told bytes (Ok x) = (0, bytes x)
told bytes (Err e) = (refusal_number e, [])

-- all of the bytes, if there is one for each address; none of them otherwise, and the number of the refusal
abbrev pub sized : List ℕ → ℕ × List ℕ
sized bytes = cond (length bytes == 65536) (0, bytes) (1, [])

-- the word at the even address at or below, low byte first
abbrev pub word_at : List ℕ → ℕ → ℕ
word_at image address = slice_index image (2 * (address / 2)) + 256 * slice_index image (2 * (address / 2) + 1)

-- that word and the two that follow, around the end of the image
abbrev pub words_at : List ℕ → ℕ → List ℕ
words_at image address =
    word_at image address ∷ word_at image ((address + 2) % 65536) ∷ word_at image ((address + 4) % 65536) ∷ []
