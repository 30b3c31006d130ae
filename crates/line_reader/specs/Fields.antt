-- Registers, numbers and targets in a text, whatever it is. What the reader takes for them: nothing here has to be
-- believed, since what is read is listed again and compared.
use Rattle.std.specs.Prelude.{ℕ, ◌+◌, ◌-◌, ◌*◌, ◌/◌, ◌%◌, cond, ◌&&◌, List, drop, ℤ, ◌==◌, nat_le, slice_index}
use Rattle.isa.specs.declared.operand.Register.{Register}
use Rattle.isa.specs.declared.operand.Register.TheVariants.{R0, R1, R2, R3, R4, R5, Sp, Pc}
use Rattle.isa.specs.declared.instruction.Size.{Size}
use Rattle.isa.specs.declared.instruction.Size.TheVariants.{Word, Byte}
use Rattle.isa.specs.Reading.{offset}

-- behind the space after a name
abbrev pub behind_name : List ℕ → List ℕ
behind_name s =
    cond (slice_index s 2 == 32) (drop 3 s)
    (cond (slice_index s 3 == 32) (drop 4 s)
    (cond (slice_index s 4 == 32) (drop 5 s)
    (drop 6 s)))

abbrev pub register_of : ℕ → ℕ → Register
register_of a b =
    cond (a == 82)
    (cond (b == 48) R0 (cond (b == 49) R1 (cond (b == 50) R2 (cond (b == 51) R3 (cond (b == 52) R4 R5)))))
    (cond (a == 83) Sp Pc)

abbrev pub register_in : List ℕ → Register
register_in s = register_of (slice_index s 0) (slice_index s 1)

abbrev pub digit_in : ℕ → ℕ
digit_in c = cond (nat_le 48 c && nat_le c 55) (c - 48) 0

-- one more octal digit
abbrev pub with_digit : ℕ → ℕ → ℕ
with_digit n c = (n * 0o10 + digit_in c) % 65536

unfoldable pub number_in : List ℕ → ℕ
number_in s =
    with_digit (with_digit (with_digit (with_digit (with_digit (with_digit 0
    (slice_index s 0)) (slice_index s 1)) (slice_index s 2)) (slice_index s 3)) (slice_index s 4)) (slice_index s 5)

abbrev pub size_in : List ℕ → Size
size_in s = cond (slice_index s 3 == 66) Byte Word

-- half the way from the word behind the branch, modulo 256
abbrev pub offset_to : ℕ → ℕ → ℤ
offset_to address target = offset ((target + 131070 - address) % 65536 / 2)

abbrev pub count_to : ℕ → ℕ → ℕ
count_to address target = (address + 65538 - target) % 65536 / 2 % 0o100
