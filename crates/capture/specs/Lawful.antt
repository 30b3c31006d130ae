-- Which fields a record may have, and which header length.
use Rattle.std.specs.Prelude.{ℕ, ◌+◌, ◌%◌, Bool, true, false, cond, List, [], ◌∷◌, length, ◌==◌, nat_le, nat_lt, slice_index}
use Rattle.capture.specs.Words.{both, either}
use Rattle.capture.specs.Records.{Plain}

-- the cabinet page
abbrev pub is_on_page : ℕ → Bool
is_on_page a = both (nat_le 0o177600 a) (nat_le a 0o177777)

-- words stand at even addresses
abbrev pub even : ℕ → Bool
even a = a % 2 == 0

-- answered, or with word 0
abbrev pub word_if_answered : ℕ → ℕ → Bool
word_if_answered m w = either (m == 1) (w == 0)

-- the rules of kinds 1 to 6, over mark, address and word: word read, word write, byte write, lines, vector, INIT
abbrev pub rules : ℕ → ℕ → ℕ → ℕ → Bool
rules k m a w =
    cond (k == 1) (both (is_on_page a) (both (even a) (word_if_answered m w)))
    (cond (k == 2) (both (is_on_page a) (even a))
    (cond (k == 3) (both (is_on_page a) (nat_lt w 256))
    (cond (k == 4) (both (a == 0) (both (m == 1) (nat_le w 0o17)))
    (cond (k == 5) (both (a == 0) (word_if_answered m w))
    (cond (k == 6) (both (a == 0) (both (m == 1) (w == 0))) false)))))

-- mark 0 or 1, and the rules of the kind
abbrev pub lawful : Plain → Bool
lawful p = both (nat_le p.mark 1) (rules p.kind p.mark p.address p.word)

-- lawful, with a word of 16 bits: what can be written
abbrev pub writable : Plain → Bool
writable p = both (lawful p) (nat_lt p.word 65536)

-- the same of each
abbrev pub all_writable : List Plain → Bool
all_writable [] = true
all_writable (p ∷ ps) = both (writable p) (all_writable ps)

-- header length 4 to 32, and the record's end within the bytes
abbrev pub fits_within : List ℕ → Bool
fits_within bytes = both (nat_le 4 (slice_index bytes 0)) (both (nat_le (slice_index bytes 0) 32) (nat_le (slice_index bytes 0 + 4) (length bytes)))
