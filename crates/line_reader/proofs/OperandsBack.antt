-- An operand of a listing is read back, whatever but a plus stands behind it.
use Rattle.std.proofs.Common.{◌≡◌, ℕ, ◌<◌, ◌≤◌, false, cond, eqb, List, [], ◌++◌, length, get_or, drop, refl, append-nil, arith}
use Rattle.std.proofs.lemmas.Bool.Decides.{nat_tests}
use Rattle.isa.specs.declared.operand.Operand.{Operand}
use Rattle.isa.specs.declared.operand.Operand.TheVariants.{Direct, Deferred, Increment, IncrementDeferred, Decrement, DecrementDeferred, Index, IndexDeferred}
use Rattle.isa.specs.Further.{takes_word}
use Rattle.listing.specs.Text.{operand_text}
use Rattle.line_reader.specs.declared.parsed.Parsed.{Parsed}
use Rattle.line_reader.specs.Fields.{number_in, register_in}
use Rattle.line_reader.specs.Operands.{numbered, behind_at, operand_in}
use Rattle.line_reader.proofs.FieldsBack.{number_back}

-- what an operand of a listing is read as
abbrev pub parsed_of : Operand → ℕ → Parsed
parsed_of o n = record { operand = o; number = cond (takes_word o) n 0; length = length (operand_text o n) }

-- a text that begins with a digit
digit-first
    : (s : List ℕ) → 48 ≤ get_or s 0 0 → get_or s 0 0 ≤ 55 →
    operand_in s ≡ numbered (Index (register_in (drop 7 s))) (number_in s) 10
unfolding operand_in
digit-first s lo hi = grind (arith, nat_tests)

-- a text with a digit behind its @
digit-behind-at
    : (s : List ℕ) → 48 ≤ get_or s 1 0 →
    behind_at s ≡ numbered (IndexDeferred (register_in (drop 8 s))) (number_in (drop 1 s)) 11
digit-behind-at s lo = grind (arith, nat_tests)

pub operand-back
    : (o : Operand) (n : ℕ) (rest : List ℕ) → n < 65536 → eqb (get_or rest 0 0) 43 ≡ false →
    operand_in (operand_text o n ++ rest) ≡ parsed_of o n
unfolding operand_in
operand-back (Direct r) n rest hn hp = grind arith
operand-back (Deferred r) n rest hn hp = grind arith
operand-back (Increment r) n rest hn hp = grind (arith, number_back)
operand-back (IncrementDeferred r) n rest hn hp = grind (arith, number_back)
operand-back (Decrement r) n rest hn hp = grind arith
operand-back (DecrementDeferred r) n rest hn hp = grind arith
operand-back (Index r) n rest hn hp =
    let s = operand_text (Index r) n ++ rest in
    grind (arith, digit-first s (omega arith) (omega arith), number_back n (drop 6 s) hn)
operand-back (IndexDeferred r) n rest hn hp =
    let s = operand_text (IndexDeferred r) n ++ rest in
    grind (arith, digit-behind-at s (omega arith), number_back n (drop 7 s) hn)

-- an operand at the end of a line
pub operand_alone : (o : Operand) (n : ℕ) → n < 65536 → operand_in (operand_text o n) ≡ parsed_of o n
operand_alone o n hn = rw append-nil at (operand-back o n [] hn refl)
