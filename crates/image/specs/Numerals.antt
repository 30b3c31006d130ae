-- Numbers that are written in digits of a base.
use Rattle.std.specs.Prelude.{ℕ, ◌+◌, ◌-◌, ◌*◌, Bool, cond, ◌&&◌, List, [], ◌∷◌, length, Some, None, Option, nat_le, nat_lt}
use Rattle.std.specs.List.{list_all}

-- a byte is a digit of the base: '0' is 48
abbrev pub digit : ℕ → ℕ → Bool
digit base c = nat_le 48 c && nat_lt (c - 48) base

-- each byte is
abbrev pub digits : ℕ → List ℕ → Bool
digits base text = list_all (digit base) text

-- one digit or more, and nothing else
abbrev pub numeral : ℕ → List ℕ → Bool
numeral base text = nat_lt 0 (length text) && digits base text

-- the number that digits write behind those of n
abbrev pub number_after : ℕ → ℕ → List ℕ → ℕ
number_after base n [] = n
number_after base n (c ∷ cs) = number_after base (n * base + (c - 48)) cs

-- the number that digits write
abbrev pub number_of : ℕ → List ℕ → ℕ
number_of base text = number_after base 0 text

-- a number, if it is not above the most
abbrev pub up_to : ℕ → ℕ → Option ℕ
up_to most n = cond (nat_le n most) (Some n) None
