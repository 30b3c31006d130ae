-- Words that a listing does not show do not matter to it.
use Rattle.std.proofs.Common.{◌≡◌, ℕ, ◌+◌, true, cond, ltb, List, [], ◌∷◌, ap₂, arith}
use Rattle.std.proofs.lemmas.Bool.Decides.{nat_tests}
use Rattle.isa.specs.declared.operand.Operand.{Operand}
use Rattle.isa.specs.declared.instruction.Instruction.{Instruction}
use Rattle.isa.specs.Further.{takes_word, further_words}
use Rattle.isa.specs.Word.{bit}
use Rattle.listing.specs.Text.{operand_text, operands_text, pair, word, first, second, instruction_text}

-- the instruction word and k further words, then zeros
abbrev pub shown_of : ℕ → List ℕ → List ℕ
shown_of k words = word words ∷ cond (ltb 0 k) (first words) 0 ∷ cond (ltb 1 k) (second words) 0 ∷ []

-- an operand that takes no word shows none
operand_same : (o : Operand) (m n : ℕ) → (takes_word o ≡ true → m ≡ n) → operand_text o m ≡ operand_text o n
operand_same o m n h = grind arith

-- one operand
one_same : (d : Operand) (x : ℕ) → operand_text d (cond (ltb 0 (bit (takes_word d) + 0)) x 0) ≡ operand_text d x
one_same d x = operand_same d _ x (λ e. rw e)

-- two operands
two-same
    : (s d : Operand) (x y : ℕ) →
    operands_text s d (cond (ltb 0 (bit (takes_word s) + (bit (takes_word d) + 0))) x 0) (cond (ltb 1 (bit (takes_word s) + (bit (takes_word d) + 0))) y 0)
    ≡ operands_text s d x y
two-same s d x y = ap₂ pair (operand_same s _ x (λ e. grind (arith, nat_tests))) (operand_same d _ _ (λ e. grind (arith, nat_tests)))

pub shown_same : (a : ℕ) (words : List ℕ) (i : Instruction) → instruction_text a (shown_of (further_words i) words) i ≡ instruction_text a words i
shown_same a words i = grind (arith, one_same, two-same)
