-- What the arguments of a program say.
use Rattle.std.specs.Prelude.{ℕ, ◌%◌, cond, ◌&&◌, List, Ok, Err, Result, ◌==◌, nat_le}
use Rattle.image.specs.declared.arguments.AddressFault.{AddressFault}
use Rattle.image.specs.declared.arguments.AddressFault.TheVariants.{NotOctal, TooLarge, Odd}
use Rattle.image.specs.declared.arguments.CountFault.{CountFault}
use Rattle.image.specs.declared.arguments.CountFault.TheVariants.{NotDecimal, OutOfRange}
use Rattle.image.specs.Numerals.{numeral, number_of}

-- an even address in octal digits
abbrev pub address_in : List ℕ → Result ℕ AddressFault
address_in text =
    cond (numeral 8 text) (
    cond (nat_le (number_of 8 text) 0o177777) (
    cond (number_of 8 text % 2 == 0) (Ok (number_of 8 text))
    (Err Odd)) (Err TooLarge)) (Err NotOctal)

-- a count of instructions in decimal digits
abbrev pub count_in : List ℕ → Result ℕ CountFault
count_in text =
    cond (numeral 10 text) (
    cond (nat_le 1 (number_of 10 text) && nat_le (number_of 10 text) 32768) (Ok (number_of 10 text))
    (Err OutOfRange)) (Err NotDecimal)
