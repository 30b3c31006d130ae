-- Faults in words.
use Rattle.std.specs.Prelude.{ℕ, List, codes}
use Rattle.image.specs.declared.arguments.AddressFault.{AddressFault}
use Rattle.image.specs.declared.arguments.AddressFault.TheVariants.{NotOctal, TooLarge, Odd}
use Rattle.image.specs.declared.arguments.CountFault.{CountFault}
use Rattle.image.specs.declared.arguments.CountFault.TheVariants.{NotDecimal, OutOfRange}

-- what is wrong with an address
abbrev pub address_text : AddressFault → List ℕ
address_text NotOctal = codes "the address is not octal"
address_text TooLarge = codes "the address is too large"
address_text Odd = codes "the address is odd"

-- what is wrong with a count
abbrev pub count_text : CountFault → List ℕ
count_text NotDecimal = codes "the count is not a decimal number"
count_text OutOfRange = codes "the count is out of range"
