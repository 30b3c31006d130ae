-- Reading back: which words a line is the listing of.
use Rattle.std.specs.Prelude.{◌≡◌, ℕ, ◌<◌, cond, List, [], ◌∷◌, length, Some, None, Option, nat_lt}
use Rattle.isa.specs.Further.{further_words}
use Rattle.isa.specs.Reading.{reading}
use Rattle.listing.specs.Listing.{text}
use Rattle.listing.specs.Refused.{refusal_number}
use Rattle.listing.specs.Text.{word, first, second}
use Rattle.listing.specs.declared.refusal.Refusal.{Refusal}
use Rattle.line_reader.specs.declared.back.ReadBack.{ReadBack}

-- three words of 16 bits
pub record Words (words : List ℕ) : Type 0 where
  pub three : length words ≡ 3
  pub word_fits : word words < 65536
  pub first_fits : first words < 65536
  pub second_fits : second words < 65536

-- the words that a listing shows, then zeros
abbrev pub shown_words : List ℕ → List ℕ
shown_words words =
    word words
    ∷ cond (nat_lt 0 (further_words (reading (word words)))) (first words) 0
    ∷ cond (nat_lt 1 (further_words (reading (word words)))) (second words) 0
    ∷ []

-- the line is the listing of these words, and those that it does not show are zero
pub record Lists (address : ℕ) (line words : List ℕ) : Type 0 where
  pub listed : text address words ≡ line
  pub rest_zero : shown_words words ≡ words

-- no words list to the line
abbrev pub NoWords : ℕ → List ℕ → Type 0
NoWords address line = (others : List ℕ) → Words others → text address others ≡ line → ⊥

-- what is found for a line: words that it lists, and whatever words it lists are those; or that there are none
pub record Only (address : ℕ) (line words : List ℕ) : Type 0 where
  pub lists : Lists address line words
  pub only : (others : List ℕ) → Words others → text address others ≡ line → words ≡ shown_words others

abbrev pub Found : ℕ → List ℕ → Option (List ℕ) → Type 0
Found address line (Some words) = Only address line words
Found address line None = NoWords address line

-- the refusal is 16, the words beside it are zeros, and no words list to the line
pub record Refuses (address : ℕ) (line words : List ℕ) (refusal : Refusal) : Type 0 where
  pub sixteen : refusal_number refusal ≡ 16
  pub zeros : words ≡ 0 ∷ 0 ∷ 0 ∷ []
  pub none : NoWords address line

-- what an answer says of the line: its words, or that there are none
abbrev pub Answers : ℕ → List ℕ → List ℕ → Option Refusal → Type 0
Answers address line words None = Lists address line words
Answers address line words (Some refusal) = Refuses address line words refusal

-- the answer for words that list to the line
abbrev pub read_as : List ℕ → ReadBack
read_as words = record { words = shown_words words; refusal = None }
