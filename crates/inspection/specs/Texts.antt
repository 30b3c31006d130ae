-- The words and digits of a listing.
use Rattle.std.specs.Prelude.{ℕ, ◌+◌, ◌/◌, ◌%◌, cond, List, [], ◌∷◌, ◌++◌, length, codes, decimal, ◌==◌, nat_lt}
use Rattle.capture.specs.Records.{Plain}

-- a kind in words
abbrev pub kind_text : ℕ → List ℕ
kind_text k =
    cond (k == 1) (codes "word read")
    (cond (k == 2) (codes "word write")
    (cond (k == 3) (codes "byte write")
    (cond (k == 4) (codes "lines")
    (cond (k == 5) (codes "vector")
    (codes "INIT")))))

-- a mark in words
abbrev pub mark_text : ℕ → List ℕ
mark_text m = cond (m == 1) (codes "answered") (codes "timed out")

-- six octal digits
abbrev pub octal_text : ℕ → List ℕ
octal_text w =
    (48 + w / 32768 % 8) ∷ (48 + w / 4096 % 8) ∷ (48 + w / 512 % 8) ∷ (48 + w / 64 % 8) ∷ (48 + w / 8 % 8) ∷ (48 + w % 8) ∷ []

-- a hexadecimal digit
abbrev pub hex_digit : ℕ → ℕ
hex_digit d = cond (nat_lt d 10) (48 + d) (55 + d)

-- a space and two hexadecimal digits
abbrev pub hex_text : ℕ → List ℕ
hex_text b = 32 ∷ hex_digit (b / 16) ∷ hex_digit (b % 16) ∷ []

-- bytes one after another
abbrev pub bytes_text : List ℕ → List ℕ
bytes_text [] = []
bytes_text (b ∷ bs) = hex_text b ++ bytes_text bs

-- the bytes that a header adds, where there are any
abbrev pub added_text : List ℕ → List ℕ
added_text added = cond (length added == 0) [] (codes ", added" ++ bytes_text added)

-- number, kind, mark, address, word and added bytes of a record
abbrev pub line_text : ℕ → Plain → List ℕ → List ℕ
line_text number p added =
    ((((decimal number ++ (codes ": " ++ (kind_text p.kind ++ (codes ", " ++ (mark_text p.mark ++ codes ", address "))))) ++ octal_text p.address)
    ++ codes ", word ") ++ octal_text p.word) ++ added_text added
