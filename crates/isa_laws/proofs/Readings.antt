-- What is computed of the readings of all words.
use Rattle.std.proofs.Common.{◌≡◌, ℕ, ◌^◌, ◌<◌, Bool, true, false, eqb, ◌&&◌, ◌||◌, ◌⊎◌, List, length, get_or, count_by, refl, ap, ◌∙◌, inl, inr, eqb-true, zero-add, rules}
use Rattle.std.specs.List.{list_all, range_with_len}
use Rattle.std.proofs.lemmas.Bool.Decides.{nat_tests}
use Rattle.std.proofs.lemmas.List.{map-id}
use Rattle.std.proofs.lemmas.List.Elements.{All-get_or}
use Rattle.std.proofs.lemmas.List.FromFn.{length-range_with_len, get_or-range_with_len, fill_by_all}
use Rattle.std.proofs.lemmas.List.Sums.{AllPass-from_list_all}
use Rattle.isa.specs.declared.instruction.Instruction.{Instruction}
use Rattle.isa.specs.Reading.{reading}
use Rattle.isa.specs.Word.{word}
use Rattle.isa_laws.specs.OneReading.{listed, Has, is_reserved, reserved_word, how_many}

-- whether the reading of w is listed or reserved, and has the word w
abbrev right : ℕ → Bool
right w = (listed (reading w) || is_reserved (reading w)) && eqb (word (reading w)) w

all_right : list_all right (range_with_len 0 0o200000) ≡ true
unfolding reading
all_right = refl

-- a test that passes by computing at all numbers below n passes at each
pub every : (test : ℕ → Bool) (n k : ℕ) → list_all test (range_with_len 0 n) ≡ true → k < n → test k ≡ true
every test n k h lt =
    rw (get_or-range_with_len 0 n k 0 lt, zero-add) at
    (All-get_or (λ x. test x ≡ true) (range_with_len 0 n) k 0 (rw length-range_with_len lt)
    (AllPass-from_list_all test (range_with_len 0 n) h))

reserved_said : (i : Instruction) (w : ℕ) → (is_reserved i && eqb (word i) w) ≡ true → i ≡ Instruction.Reserved w
reserved_said i w h = grind (rules, nat_tests)

-- what is tested of one reading
told
    : (i : Instruction) (w : ℕ) (b : Bool) → listed i ≡ b → ((b || is_reserved i) && eqb (word i) w) ≡ true →
    Has w i ⊎ (i ≡ Instruction.Reserved w)
told i w true e h = inl (record { is_listed = e; has = eqb-true (word i) w h })
told i w false e h = inr (reserved_said i w h)

-- the reading of a word has that word, or is that word as a reserved one
pub reads_back : (w : ℕ) → w < 2 ^ 16 → Has w (reading w) ⊎ (reading w ≡ Instruction.Reserved w)
reads_back w lt = told (reading w) w (listed (reading w)) refl (every right 0o200000 w all_right lt)

-- how many words are reserved
pub reserved_number : how_many reserved_word 0o200000 ≡ 8529
unfolding reading how_many
reserved_number = refl

-- as many of a list of the numbers below n pass a test
pub counted_in
    : (test : ℕ → Bool) (xs : List ℕ) (n : ℕ) → length xs ≡ n → ((k : ℕ) → k < n → get_or xs k 0 ≡ k) →
    count_by test xs ≡ how_many test n
unfolding how_many
counted_in test xs n long places = ap (count_by test) (fill_by_all (λ k. k) xs n 0 long places ∙ map-id (range_with_len 0 n))
