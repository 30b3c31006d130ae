use Rattle.std.proofs.Common.{◌≡◌, ℕ, ◌+◌, ◌-◌, ◌*◌, ◌^◌, ◌<◌, ◌≤◌, Result, Ok, Err, true, List, [], ◌∷◌, length, nat_lt, refl, subst, arith, ltb-true}
use Rattle.std.proofs.lemmas.Bool.{and_parts}
use Rattle.std.proofs.lemmas.Bool.Decides.{nat_tests}
use Rattle.std.proofs.lemmas.Str.Parse.{without_leading_plus_none}
use Rattle.std.specs.Char.{digit_value}
use Rattle.std.specs.Result.{OkIff, result_ok}
use Rattle.std.specs.Str.Parse.{AllDigits, IsNumeral, digits_value_after, digits_value, without_leading_plus, ParsesUnsigned}
use Rattle.image.specs.Numerals.{digit, digits, numeral, number_after, number_of, up_to}
use Rattle.image.proofs.numerals.value.Goals as goal

-- what fits 16 bits is read, and nothing else
fits : {E : Type 0} (r : Result ℕ E) (P : Type 0) (v : ℕ) → P → OkIff r (P × (v < 2 ^ 16)) v → result_ok r ≡ up_to 65535 v
fits (Ok x) P v p h = grind (arith, nat_tests)
fits (Err e) P v p h = grind (arith, nat_tests)

module _ (base : ℕ) (most : base ≤ 10) where
  one : (c : ℕ) → digit base c ≡ true → (48 ≤ c) × (digit_value c ≡ c - 48) × (c - 48 < base)
  one c d = grind (arith, nat_tests)

  -- digits of the base are the library's digits, and write the same number
  same : (n : ℕ) (cs : List ℕ) → digits base cs ≡ true → AllDigits base cs × (digits_value_after base n cs ≡ number_after base n cs)
  same n [] d = (tt, refl)
  same n (c ∷ cs) d =
      let parts = and_parts (digit base c) (digits base cs) d in
      let e = one c parts.0 in
      let r = same (n * base + (c - 48)) cs parts.1 in
      ((omega (arith, e), r.0), rw e.1 (r.1))

  -- no sign stands in front of digits
  unsigned : (text : List ℕ) → digits base text ≡ true → without_leading_plus text ≡ text
  unsigned [] d = refl
  unsigned (c ∷ cs) d =
      let e = one c (and_parts (digit base c) (digits base cs) d).0 in
      without_leading_plus_none (c ∷ cs) (λ q. absurd (omega (arith, e, q)))

  read : {E : Type 0} (text : List ℕ) (r : Result ℕ E) → ParsesUnsigned 16 base text r → numeral base text ≡ true → result_ok r ≡ up_to 65535 (number_of base text)
  read text r h d =
      let parts = and_parts (nat_lt 0 (length text)) (digits base text) d in
      let s = same 0 text parts.1 in
      let plain = subst (λ t. OkIff r (IsNumeral base t × (digits_value base t < 2 ^ 16)) (digits_value base t)) (unsigned text parts.1) h in
      fits r (IsNumeral base text) (number_of base text) (ltb-true 0 (length text) parts.0, s.0)
      (subst (λ v. OkIff r (IsNumeral base text × (v < 2 ^ 16)) v) s.1 plain)

pub returns : goal.returns
returns c = λ d. rw c.ok.ensures.value (read c.args.base c.requires.most c.args.text.now c.from_str_radix.result c.from_str_radix.ensures.value d)
