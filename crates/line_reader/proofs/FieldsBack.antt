-- Numbers, targets and registers of a listing are read back.
use Rattle.std.proofs.Common.{◌≡◌, ℕ, ◌+◌, ◌-◌, ◌*◌, ◌/◌, ◌%◌, ◌<◌, true, List, ◌∷◌, ◌++◌, drop, ℤ, pos, negsuc, arith, ltb-true}
use Rattle.std.proofs.lemmas.Bool.Decides.{nat_tests}
use Rattle.isa.specs.declared.operand.Register.{Register}
use Rattle.isa_laws.specs.OneReading.{in_byte}
use Rattle.isa_laws.proofs.Digits.{offset_at}
use Rattle.listing.specs.Names.{register_name}
use Rattle.listing.specs.Text.{octal, branch_target, loop_target}
use Rattle.line_reader.specs.Fields.{digit_in, number_in, register_in, offset_to, count_to}

pub digit_back : (x : ℕ) → x < 8 → digit_in (48 + x) ≡ x
digit_back x h = grind (arith, nat_tests)

-- six octal digits are read as their number, whatever stands behind them
pub number_back : (n : ℕ) (rest : List ℕ) → n < 65536 → number_in (octal n ++ rest) ≡ n
unfolding number_in
number_back n rest h =
    let a = digit_back (n / 0o100000) (omega arith) in
    let b = digit_back (n / 0o10000 % 8) (omega arith) in
    let c = digit_back (n / 0o1000 % 8) (omega arith) in
    let d = digit_back (n / 0o100 % 8) (omega arith) in
    let e = digit_back (n / 0o10 % 8) (omega arith) in
    let f = digit_back (n % 8) (omega arith) in
    simp (a, b, c, d, e, f) (omega arith)

pub register_back : (r : Register) (rest : List ℕ) → register_in (register_name r ++ rest) ≡ r
register_back r rest = grind arith

-- behind a register and a comma
pub behind_register : (r : Register) (rest : List ℕ) → drop 3 (register_name r ++ (44 ∷ rest)) ≡ rest
behind_register r rest = grind arith

-- a branch is read back from its target
pub branch_back : (a : ℕ) (z : ℤ) → a < 65536 → in_byte z ≡ true → offset_to a (branch_target a z) ≡ z
branch_back a (pos n) ha hz =
    let lt = ltb-true n 0o200 hz in
    let t = (a + 2 + 2 * n) % 65536 in
    let e : (t + 131070 - a) % 65536 / 2 ≡ n = omega arith in
    offset_at ((t + 131070 - a) % 65536 / 2) 0 (pos n) hz (omega arith)
branch_back a (negsuc n) ha hz =
    let lt = ltb-true n 0o200 hz in
    let t = (a + 2 + 65536 - 2 * (n + 1)) % 65536 in
    let e : (t + 131070 - a) % 65536 / 2 ≡ 32767 - n = omega arith in
    offset_at ((t + 131070 - a) % 65536 / 2) 127 (negsuc n) hz (omega arith)

-- SOB is read back from its target
pub loop-back : (a n : ℕ) → a < 65536 → n < 0o100 → count_to a (loop_target a n) ≡ n
loop-back a n ha hn =
    let t = (a + 2 + 65536 - 2 * n) % 65536 in
    let d : (a + 65538 - t) % 65536 ≡ 2 * n = omega arith in
    rw d (omega arith)
