-- The listing of three words at an address: its text, its answer, and what it leaves in the output.
use Rattle.std.specs.Prelude.{ℕ, ◌+◌, cond, List, [], ◌∷◌, ◌++◌, length, drop, Ok, Err, Result, nat_lt}
use Rattle.isa.specs.Further.{further_words}
use Rattle.isa.specs.Reading.{reading}
use Rattle.listing.specs.declared.lister.Listed.{Listed}
use Rattle.listing.specs.declared.refusal.Refusal.{Refusal}
use Rattle.listing.specs.declared.refusal.Refusal.TheVariants.{ShortOutput}
use Rattle.listing.specs.Refused.{refusal_number}
use Rattle.listing.specs.Text.{word, instruction_text}

-- the text of three words at an address
abbrev pub text : ℕ → List ℕ → List ℕ
text address words = instruction_text address words (reading (word words))

-- the answer: the text's length and how many words it shows, or the refusal of a short output
abbrev pub listing : ℕ → List ℕ → List ℕ → Result Listed Refusal
listing address words out =
    cond (nat_lt (length out) 28) (Err ShortOutput)
    (Ok (record { length = length (text address words); words = 1 + further_words (reading (word words)) }))

-- an answer as a number with its values: 0 with the length and the words that it shows, or the refusal's number
abbrev pub numbered : Result Listed Refusal → ℕ × List ℕ
numbered (Ok listed) = (0, listed.length ∷ listed.words ∷ [])
numbered (Err refusal) = (refusal_number refusal, [])

-- the answer in numbers: 15 for an output of fewer than 28 bytes
abbrev pub numbers : ℕ → List ℕ → List ℕ → ℕ × List ℕ
numbers address words out =
    cond (nat_lt (length out) 28) (15, [])
    (0, length (text address words) ∷ (1 + further_words (reading (word words))) ∷ [])

-- the output: the text, and behind it what was there; all of what was there where it is refused
abbrev pub output : ℕ → List ℕ → List ℕ → List ℕ
output address words out = cond (nat_lt (length out) 28) out (text address words ++ drop (length (text address words)) out)
