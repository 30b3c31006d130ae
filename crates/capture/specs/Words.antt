-- Two-byte fields, low byte first, and tests joined.
use Rattle.std.specs.Prelude.{ℕ, ◌+◌, ◌*◌, ◌/◌, ◌%◌, Bool, true, false, cond, List, [], ◌∷◌, slice_index}

-- the two bytes of a word
abbrev pub word_bytes : ℕ → List ℕ
word_bytes w = (w % 256) ∷ (w / 256 % 256) ∷ []

-- the word whose low byte stands at a place
abbrev pub word_at : List ℕ → ℕ → ℕ
word_at bytes place = slice_index bytes place + 256 * slice_index bytes (place + 1)

-- both tests
abbrev pub both : Bool → Bool → Bool
both x y = cond x y false

-- one test or the other
abbrev pub either : Bool → Bool → Bool
either x y = cond x true y
