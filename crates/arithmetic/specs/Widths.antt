-- Numbers of the two sizes, unsigned and signed.
use Rattle.std.specs.Prelude.{ℕ, suc, ◌+◌, ◌-◌, ◌*◌, ◌%◌, Bool, cond, ◌||◌, ℤ, pos, negsuc, ◌+ℤ◌, ◌-ℤ◌, neg_ℤ, int_le, int_lt, nat_le}
use Rattle.isa.specs.declared.instruction.Size.{Size}
use Rattle.isa.specs.declared.instruction.Size.TheVariants.{Word, Byte}

-- how many numbers there are of a size
abbrev pub span : Size → ℕ
span Word = 65536
span Byte = 256

-- the least number whose sign bit is set; it stands for the smallest signed number
abbrev pub half : Size → ℕ
half Word = 0o100000
half Byte = 0o200

-- the sign bit is set
abbrev pub negative : Size → ℕ → Bool
negative size x = nat_le (half size) x

-- the signed number that x stands for
abbrev pub signed : Size → ℕ → ℤ
signed size x = cond (negative size x) (pos x -ℤ pos (span size)) (pos x)

-- a signed number that no number of this size stands for
abbrev pub outside : Size → ℤ → Bool
outside size z = int_lt z (neg_ℤ (pos (half size))) || int_le (pos (half size)) z

-- the number of this size that stands for a signed number that is not outside
abbrev pub standing : Size → ℤ → ℕ
standing size (pos n) = n
standing size (negsuc n) = span size - suc n

-- the word of a high and a low byte
abbrev pub joined : ℕ → ℕ → ℕ
joined high low = high * 256 + low

-- the word that stands for the same signed number as the low byte of x
unfoldable pub spread : ℕ → ℕ
spread x = standing Word (signed Byte (x % 256))

-- the word that a taken branch adds to PC: twice its offset
unfoldable pub branch_distance : ℤ → ℕ
branch_distance offset = standing Word (offset +ℤ offset)
