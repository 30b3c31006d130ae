-- The operand at the front of a text, whatever the text is.
use Rattle.std.specs.Prelude.{ℕ, cond, ◌&&◌, List, drop, ◌==◌, nat_le, slice_index}
use Rattle.isa.specs.declared.operand.Register.TheVariants.{Pc}
use Rattle.isa.specs.declared.operand.Operand.{Operand}
use Rattle.isa.specs.declared.operand.Operand.TheVariants.{Direct, Deferred, Increment, IncrementDeferred, Decrement, DecrementDeferred, Index, IndexDeferred}
use Rattle.line_reader.specs.declared.parsed.Parsed.{Parsed}
use Rattle.line_reader.specs.Fields.{register_in, number_in}

abbrev pub numbered : Operand → ℕ → ℕ → Parsed
numbered d n l = record { operand = d; number = n; length = l }

abbrev pub plain : Operand → ℕ → Parsed
plain d l = numbered d 0 l

-- behind @
abbrev pub behind_at : List ℕ → Parsed
behind_at s =
    cond (slice_index s 1 == 35) (numbered (IncrementDeferred Pc) (number_in (drop 2 s)) 8)
    (cond (slice_index s 1 == 40) (plain (IncrementDeferred (register_in (drop 2 s))) 6)
    (cond (slice_index s 1 == 45) (plain (DecrementDeferred (register_in (drop 3 s))) 6)
    (numbered (IndexDeferred (register_in (drop 8 s))) (number_in (drop 1 s)) 11)))

unfoldable pub operand_in : List ℕ → Parsed
operand_in s =
    cond (slice_index s 0 == 40)
    (cond (slice_index s 4 == 43) (plain (Increment (register_in (drop 1 s))) 5) (plain (Deferred (register_in (drop 1 s))) 4))
    (cond (slice_index s 0 == 35) (numbered (Increment Pc) (number_in (drop 1 s)) 7)
    (cond (slice_index s 0 == 45) (plain (Decrement (register_in (drop 2 s))) 5)
    (cond (slice_index s 0 == 64) (behind_at s)
    (cond (nat_le 48 (slice_index s 0) && nat_le (slice_index s 0) 55) (numbered (Index (register_in (drop 7 s))) (number_in s) 10)
    (plain (Direct (register_in s)) 2)))))
