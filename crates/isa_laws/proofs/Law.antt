-- Each word has one reading.
use Rattle.std.proofs.Common.{◌≡◌, ℕ, ◌⊎◌, sym, ap, ◌∙◌, inl, inr, arith}
use Rattle.isa.specs.declared.instruction.Instruction.{Instruction}
use Rattle.isa.specs.Reading.{reading}
use Rattle.isa_laws.specs.OneReading.{listed, Has, Says, WordsHaveOneReading}
use Rattle.isa_laws.proofs.Listed.{listed_said}
use Rattle.isa_laws.proofs.Readings.{reads_back}

read_as : (w : ℕ) (i : Instruction) → Has w i → i ≡ reading w
read_as w i h = sym (listed_said i h.is_listed) ∙ ap reading h.has

none_has : (w : ℕ) → reading w ≡ Instruction.Reserved w → (j : Instruction) → Has w j → ⊥
none_has w e j h =
    let l = h.is_listed in
    let r = ap listed (read_as w j h ∙ e) in
    let z : ◌≡◌ {A = ℕ} 0 1 = cc in
    omega arith

says : (w : ℕ) → Has w (reading w) ⊎ (reading w ≡ Instruction.Reserved w) → Says w (reading w)
says w (inl h) = inl h
says w (inr e) = inr (e, none_has w e)

only : (w : ℕ) → Has w (reading w) ⊎ (reading w ≡ Instruction.Reserved w) → (i : Instruction) → Says w i → i ≡ reading w
only w back i (inl h) = read_as w i h
only w (inl h) i (inr n) = absurd (n.1 (reading w) h)
only w (inr e) i (inr n) = n.0 ∙ sym e

-- each word has one reading
pub words_have_one_reading : WordsHaveOneReading
words_have_one_reading w lt = record { says = says w (reads_back w lt); only = only w (reads_back w lt) }
