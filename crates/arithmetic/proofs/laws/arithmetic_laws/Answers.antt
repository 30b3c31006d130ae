use Rattle.std.proofs.Common.{arith}
use lib.Bits.{xor_assoc, xor_self, xor_zero_l}
use Rattle.std.proofs.lemmas.Int.{ints}
use Rattle.std.proofs.lemmas.Bool.Decides.{nat_tests}
use Rattle.arithmetic.specs.Doubles.{double_outcome}
use Rattle.arithmetic.specs.Singles.{single_outcome}
use Rattle.isa.specs.Status.{flags_of, with_flags}
use Rattle.arithmetic.specs.Widths.{spread}
use Rattle.arithmetic.specs.Words.{add_outcome, subtract_outcome, exclusive_or_outcome, swap_outcome}
use Rattle.arithmetic.proofs.laws.arithmetic_laws.Goals as goal

pub returns-clause-undoing : goal.returns-clause-undoing
unfolding add_outcome subtract_outcome exclusive_or_outcome swap_outcome single_outcome
returns-clause-undoing c =
    record {
      subtraction_undoes_addition = λ s d p q. omega arith;
      exclusive_or_twice = λ s d p q f g. cc (xor_assoc s s d, xor_self s, xor_zero_l d);
      swap_twice = λ x p. omega arith;
      negation_twice = λ size x f p. grind (arith, nat_tests);
      complement_twice = λ size x f p. grind (arith, nat_tests);
      decrement_undoes_increment = λ size x f p. grind (arith, nat_tests);
      right_undoes_left = λ size x f p. grind (arith, nat_tests);
      left_undoes_right = λ size x f p. grind (arith, nat_tests);
      right_gives_carry_back = λ size x f p. grind (arith, nat_tests);
      left_gives_carry_back = λ size x f p. grind (arith, nat_tests);
    }

pub returns-clause-comparing : goal.returns-clause-comparing
unfolding subtract_outcome double_outcome
returns-clause-comparing c =
    record {
      as_subtraction = λ s d p q f. grind (arith, ints, nat_tests);
      equal = λ size s d f p q. grind (arith, nat_tests);
      different = λ size s d f p q. grind (arith, nat_tests);
      less = λ size s d f p q. grind (arith, ints, nat_tests);
      less_or_equal = λ size s d f p q. grind (arith, ints, nat_tests);
      greater = λ size s d f p q. grind (arith, ints, nat_tests);
      greater_or_equal = λ size s d f p q. grind (arith, ints, nat_tests);
      lower = λ size s d f p q. grind (arith, nat_tests);
      lower_or_same = λ size s d f p q. grind (arith, nat_tests);
      higher = λ size s d f p q. grind (arith, nat_tests);
      higher_or_same = λ size s d f p q. grind (arith, nat_tests);
    }

pub returns-clause-keeping : goal.returns-clause-keeping
unfolding flags_of with_flags spread
returns-clause-keeping c =
    record {
      flags_come_back = λ status f. grind (arith, nat_tests);
      own_flags_change_nothing = λ status. grind (arith, nat_tests);
      other_bits_stay = λ status f. grind (arith, nat_tests);
      spread_keeps_value = λ b p. grind (arith, ints, nat_tests);
    }
