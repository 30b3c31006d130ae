-- Records: what they are compared by, and their bytes.
use Rattle.std.specs.Prelude.{ℕ, ◌+◌, ◌-◌, List, ◌∷◌, ◌++◌, length, take, drop, slice_index}
use Rattle.capture.specs.Words.{word_bytes, word_at}

-- A record as records are compared: kind 1 to 6, mark 1 answered or 0 timed out, address and word.
pub record Plain : Type 0 where
  pub kind : ℕ
  pub mark : ℕ
  pub address : ℕ
  pub word : ℕ

-- a record from kind, mark, address and word
abbrev pub plain : ℕ → ℕ → ℕ → ℕ → Plain
plain k m a w = record { kind = k; mark = m; address = a; word = w }

-- a plain record with the bytes that its header adds
pub record Entry : Type 0 where
  pub plain : Plain
  pub added : List ℕ

-- an entry from added bytes and a record
abbrev pub entry : List ℕ → Plain → Entry
entry x p = record { plain = p; added = x }

-- an entry without its added bytes
abbrev pub plain_of : Entry → Plain
plain_of e = e.plain

-- a record as it stands in a file: the spare byte too
pub record Written : Type 0 where
  pub spare : ℕ
  pub entry : Entry

-- a record from its spare byte and its entry
abbrev pub written : ℕ → Entry → Written
written s e = record { spare = s; entry = e }

-- a record in a file without its spare byte
abbrev pub entry_of : Written → Entry
entry_of w = w.entry

-- header length, kind, mark, spare byte, added bytes, address, word
abbrev pub record_bytes : Written → List ℕ
record_bytes w =
    (4 + length w.entry.added) ∷ w.entry.plain.kind ∷ w.entry.plain.mark ∷ w.spare
    ∷ (w.entry.added ++ (word_bytes w.entry.plain.address ++ word_bytes w.entry.plain.word))

-- the record that these bytes begin with
abbrev pub first_plain : List ℕ → Plain
first_plain bytes = plain (slice_index bytes 1) (slice_index bytes 2) (word_at bytes (slice_index bytes 0)) (word_at bytes (slice_index bytes 0 + 2))

-- the same with its added bytes
abbrev pub first_entry : List ℕ → Entry
first_entry bytes = entry (take (slice_index bytes 0 - 4) (drop 4 bytes)) (first_plain bytes)

-- an entry as numbers alone, and back: facts that a struct keeps are stated on numbers
abbrev pub numbers : Entry → List ℕ
numbers e = e.plain.kind ∷ e.plain.mark ∷ e.plain.address ∷ e.plain.word ∷ e.added

abbrev pub unnumbers : List ℕ → Entry
unnumbers ns = entry (drop 4 ns) (plain (slice_index ns 0) (slice_index ns 1) (slice_index ns 2) (slice_index ns 3))
