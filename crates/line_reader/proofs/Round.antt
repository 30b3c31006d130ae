-- The line of a listing is taken for the words that it shows.
use Rattle.std.proofs.Common.{◌≡◌, ℕ, ◌+◌, ◌%◌, ◌<◌, ◌≤◌, Bool, true, cond, ltb, List, [], ◌∷◌, ◌++◌, drop, ℤ, pos, negsuc, codes, sym, refl, ap, ◌∙◌, inl, inr, mod-eq_of_lt, arith, ltb-true}
use Rattle.std.proofs.Math.Seq.{drop-append-add}
use Rattle.std.proofs.lemmas.Bool.{cond_both}
use Rattle.std.proofs.lemmas.Bool.Decides.{nat_tests}
use Rattle.isa.specs.declared.operand.Register.{Register}
use Rattle.isa.specs.declared.operand.Operand.{Operand}
use Rattle.isa.specs.declared.instruction.Size.{Size}
use Rattle.isa.specs.declared.instruction.Size.TheVariants.{Word, Byte}
use Rattle.isa.specs.declared.instruction.Condition.{Condition}
use Rattle.isa.specs.declared.instruction.Instruction.{Instruction}
use Rattle.isa.specs.Further.{takes_word, further_words}
use Rattle.isa.specs.Reading.{reading}
use Rattle.isa.specs.Word as code
use Rattle.isa.specs.Word.{bit}
use Rattle.isa_laws.specs.OneReading.{listed, in_byte}
use Rattle.isa_laws.proofs.Readings.{reads_back}
use Rattle.listing.specs.Names.{register_name, single_name, double_name, condition_name, byte_mark}
use Rattle.listing.specs.Listing.{text}
use Rattle.listing.specs.Text.{octal, operand_text, operands_text, behind, pair, unnamed, flag_text, branch_target, loop_target, word, first, second, instruction_text}
use Rattle.line_reader.specs.declared.parsed.Parsed.{Parsed}
use Rattle.line_reader.specs.declared.parsed.Mnemonic.{Mnemonic}
use Rattle.line_reader.specs.declared.parsed.Numbered.{Numbered}
use Rattle.line_reader.specs.declared.parsed.OneOperand.{OneOperand}
use Rattle.line_reader.specs.declared.parsed.TwoOperands.{TwoOperands}
use Rattle.line_reader.specs.declared.parsed.RegisterFirst.{RegisterFirst}
use Rattle.line_reader.specs.Fields.{size_in}
use Rattle.line_reader.specs.Mnemonics.{mnemonic_in}
use Rattle.line_reader.specs.Operands.{operand_in}
use Rattle.line_reader.specs.Candidate.{one_instruction, two_instruction, register_instruction, words_of, numbered_words, pair_words, candidate}
use Rattle.line_reader.specs.Back.{Words, shown_words}
use Rattle.line_reader.proofs.FieldsBack.{number_back, register_back, behind_register, branch_back, loop-back}
use Rattle.line_reader.proofs.OperandsBack.{parsed_of, operand-back, operand_alone}
use Rattle.line_reader.proofs.Opening.{Opens, opened, single_opens, double_opens, branch_opens, control_back}
use Rattle.line_reader.proofs.Shown.{shown_same}

-- the word of an instruction and the k further words that it takes, then zeros
abbrev taken_by : Instruction → ℕ → ℕ → List ℕ
taken_by i x y = code.word i ∷ cond (ltb 0 (further_words i)) x 0 ∷ cond (ltb 1 (further_words i)) y 0 ∷ []

two-words
    : (b c : Bool) (w x y : ℕ) →
    ◌≡◌ {A = List ℕ}
    (w ∷ cond b (cond b x 0) (cond c (cond b y x) 0) ∷ cond b (cond c (cond b y x) 0) 0 ∷ [])
    (w ∷ cond (ltb 0 (bit b + (bit c + 0))) x 0 ∷ cond (ltb 1 (bit b + (bit c + 0))) y 0 ∷ [])
two-words b c w x y = grind (arith, nat_tests)

-- one operand
one-back
    : (a : ℕ) (m : List ℕ) (name : OneOperand) (z : Size) (d : Operand) (x y : ℕ) → x < 65536 →
    Opens (behind m (operand_text d x)) z (operand_text d x) (Mnemonic.One name) →
    candidate a (behind m (operand_text d x))
    ≡ code.word (one_instruction name z d) ∷ cond (ltb 0 (bit (takes_word d) + 0)) x 0 ∷ cond (ltb 1 (bit (takes_word d) + 0)) y 0 ∷ []
one-back a m name z d x y hx o =
    let r = opened a (behind m (operand_text d x)) z (operand_text d x) (Mnemonic.One name) o in
    let p = operand_alone d x hx in
    grind (arith, nat_tests)

-- a register and an operand
register-operand-back
    : (a : ℕ) (m : List ℕ) (name : RegisterFirst) (z : Size) (r : Register) (d : Operand) (x y : ℕ) → x < 65536 →
    Opens (behind m (pair (register_name r) (operand_text d x))) z (pair (register_name r) (operand_text d x)) (Mnemonic.Register name) →
    candidate a (behind m (pair (register_name r) (operand_text d x)))
    ≡ code.word (register_instruction name r d) ∷ cond (ltb 0 (bit (takes_word d) + 0)) x 0 ∷ cond (ltb 1 (bit (takes_word d) + 0)) y 0 ∷ []
register-operand-back a m name z r d x y hx o =
    let t = pair (register_name r) (operand_text d x) in
    let q = opened a (behind m t) z t (Mnemonic.Register name) o in
    let k = register_back r (44 ∷ operand_text d x) in
    let rest = behind_register r (operand_text d x) in
    let p = operand_alone d x hx in
    grind (arith, nat_tests)

-- two operands
two_back
    : (a : ℕ) (m : List ℕ) (name : TwoOperands) (z : Size) (s d : Operand) (x y : ℕ) → x < 65536 → y < 65536 →
    Opens (behind m (operands_text s d x y)) z (operands_text s d x y) (Mnemonic.Two name) →
    candidate a (behind m (operands_text s d x y))
    ≡ code.word (two_instruction name z s d)
    ∷ cond (ltb 0 (bit (takes_word s) + (bit (takes_word d) + 0))) x 0
    ∷ cond (ltb 1 (bit (takes_word s) + (bit (takes_word d) + 0))) y 0
    ∷ []
two_back a m name z s d x y hx hy o =
    let n = cond (takes_word s) y x in
    let D = operand_text d n in
    let t = operand_text s x ++ (44 ∷ D) in
    opened a (behind m t) z t (Mnemonic.Two name) o
    ∙ ap (λ (p : Parsed). pair_words name z p (operand_in (drop (p.length + 1) t))) (operand-back s x (44 ∷ D) hx refl)
    ∙ ap (λ (l : List ℕ). pair_words name z (parsed_of s x) (operand_in l)) (drop-append-add (operand_text s x) (44 ∷ D) 1)
    ∙ ap (pair_words name z (parsed_of s x)) (operand_alone d n (cond_both (takes_word s) y x (λ k. k < 65536) (λ e. hy) (λ e. hx)))
    ∙ two-words (takes_word s) (takes_word d) (code.word (two_instruction name z s d)) x y

numbered-back
    : (a : ℕ) (m : List ℕ) (name : Numbered) (n : ℕ) → n < 65536 →
    Opens (behind m (octal n)) Word (octal n) (Mnemonic.Number name) → candidate a (behind m (octal n)) ≡ numbered_words name n
numbered-back a m name n hn o =
    opened a (behind m (octal n)) Word (octal n) (Mnemonic.Number name) o ∙ ap (numbered_words name) (number_back n [] hn)

-- a number that an instruction holds whole, below a bound
counted-back
    : (a : ℕ) (m : List ℕ) (name : Numbered) (i : ℕ → Instruction) (most n : ℕ) → most ≤ 0o400 → ltb n most ≡ true →
    numbered_words name n ≡ words_of (i (n % most)) 0 → Opens (behind m (octal n)) Word (octal n) (Mnemonic.Number name) →
    candidate a (behind m (octal n)) ≡ words_of (i n) 0
counted-back a m name i most n hm l e o =
    let lt = ltb-true n most l in
    numbered-back a m name n (omega arith) o ∙ e ∙ ap (λ (k : ℕ). words_of (i k) 0) (mod-eq_of_lt lt)

unnamed_back : (a w : ℕ) → w < 65536 → candidate a (unnamed w) ≡ w ∷ 0 ∷ 0 ∷ []
unfolding mnemonic_in
unnamed_back a w hw = numbered-back a (codes ".WORD") Numbered.Data w hw (refl, refl, refl)

flags_back : (a w : ℕ) → w < 65536 → candidate a (flag_text w) ≡ w ∷ 0 ∷ 0 ∷ []
unfolding mnemonic_in
flags_back a w hw = grind (arith, nat_tests, unnamed_back a w hw)

branch-line-back
    : (a : ℕ) (c : Condition) (z : ℤ) → a < 65536 → in_byte z ≡ true →
    candidate a (behind (condition_name c) (octal (branch_target a z))) ≡ words_of (Instruction.Branch c z) 0
branch-line-back a c z ha hz =
    let t = octal (branch_target a z) in
    let s = behind (condition_name c) t in
    let o = opened a s (size_in s) t (Mnemonic.Branch c) (branch_opens c t) in
    let n = number_back (branch_target a z) [] (target_small z) in
    let b = branch_back a z ha hz in
    cc
  where
    target_small : (q : ℤ) → branch_target a q < 65536
    target_small (pos n) = omega arith
    target_small (negsuc n) = omega arith

loop-line-back
    : (a : ℕ) (r : Register) (n : ℕ) → a < 65536 → n < 0o100 →
    candidate a (behind (codes "SOB") (pair (register_name r) (octal (loop_target a n)))) ≡ words_of (Instruction.Loop r n) 0
unfolding mnemonic_in
loop-line-back a r n ha hn =
    let t = octal (loop_target a n) in
    let o = opened a (behind (codes "SOB") (pair (register_name r) t)) Word (pair (register_name r) t) Mnemonic.Loop (refl, refl, refl) in
    let k = register_back r (44 ∷ t) in
    let rest = behind_register r t in
    let m = number_back (loop_target a n) [] (omega arith) in
    let c = loop-back a n ha hn in
    cc

-- the text of a listed instruction
back
    : (a : ℕ) (words : List ℕ) (i : Instruction) → a < 65536 → Words words → listed i ≡ true → code.word i ≡ word words →
    candidate a (instruction_text a words i) ≡ taken_by i (first words) (second words)
unfolding mnemonic_in
back a words (Instruction.Control c) ha h l e = control_back a c
back a words (Instruction.Jump d) ha h l e =
    one-back a (codes "JMP") OneOperand.Jump Word d (first words) (second words) h.first_fits (refl, refl, refl)
back a words (Instruction.Return r) ha h l e = grind arith
back a words (Instruction.Flags change m) ha h l e =
    flags_back a (word words) h.word_fits ∙ ap (λ (w : ℕ). w ∷ 0 ∷ 0 ∷ []) (sym e)
back a words (Instruction.SwapBytes d) ha h l e =
    one-back a (codes "SWAB") OneOperand.SwapBytes Byte d (first words) (second words) h.first_fits (refl, refl, refl)
back a words (Instruction.Branch c z) ha h l e = branch-line-back a c z ha l
back a words (Instruction.Call r d) ha h l e =
    register-operand-back a (codes "JSR") RegisterFirst.Call Word r d (first words) (second words) h.first_fits (refl, refl, refl)
back a words (Instruction.Single size o d) ha h l e =
    one-back a (single_name o ++ byte_mark size) (OneOperand.Single o) size d (first words) (second words) h.first_fits (single_opens size o (operand_text d (first words)))
back a words (Instruction.Mark n) ha h l e = counted-back a (codes "MARK") Numbered.Mark Instruction.Mark 0o100 n (omega arith) l refl (refl, refl, refl)
back a words (Instruction.SignExtend d) ha h l e =
    one-back a (codes "SXT") OneOperand.SignExtend Word d (first words) (second words) h.first_fits (refl, refl, refl)
back a words (Instruction.ToStatus d) ha h l e =
    one-back a (codes "MTPS") OneOperand.ToStatus Word d (first words) (second words) h.first_fits (refl, refl, refl)
back a words (Instruction.FromStatus d) ha h l e =
    one-back a (codes "MFPS") OneOperand.FromStatus Word d (first words) (second words) h.first_fits (refl, refl, refl)
back a words (Instruction.Double size o s d) ha h l e =
    two_back a (double_name o ++ byte_mark size) (TwoOperands.Double o) size s d (first words) (second words) h.first_fits h.second_fits
    (double_opens size o (operands_text s d (first words) (second words)))
back a words (Instruction.Add s d) ha h l e =
    two_back a (codes "ADD") TwoOperands.Add Word s d (first words) (second words) h.first_fits h.second_fits (refl, refl, refl)
back a words (Instruction.Subtract s d) ha h l e =
    two_back a (codes "SUB") TwoOperands.Subtract Word s d (first words) (second words) h.first_fits h.second_fits (refl, refl, refl)
back a words (Instruction.ExclusiveOr r d) ha h l e =
    register-operand-back a (codes "XOR") RegisterFirst.ExclusiveOr Word r d (first words) (second words) h.first_fits (refl, refl, refl)
back a words (Instruction.Loop r n) ha h l e = loop-line-back a r n ha (ltb-true n 0o100 l)
back a words (Instruction.Emulate n) ha h l e = counted-back a (codes "EMT") Numbered.Emulate Instruction.Emulate 0o400 n (omega arith) l refl (refl, refl, refl)
back a words (Instruction.Trap n) ha h l e = counted-back a (codes "TRAP") Numbered.Trap Instruction.Trap 0o400 n (omega arith) l refl (refl, refl, refl)
back a words (Instruction.Reserved n) ha h l e =
    unnamed_back a (word words) h.word_fits ∙ ap (λ (w : ℕ). w ∷ 0 ∷ 0 ∷ []) (sym e)

-- the listing of three words is taken for the words that it shows
pub round : (a : ℕ) (words : List ℕ) → a < 65536 → Words words → candidate a (text a words) ≡ shown_words words
round a words ha h =
    let w = word words in
    elim (reads_back w h.word_fits) [
      | inl has ↦
          back a words (reading w) ha h has.is_listed has.has
          ∙ ap (λ (v : ℕ). v ∷ cond (ltb 0 (further_words (reading w))) (first words) 0 ∷ cond (ltb 1 (further_words (reading w))) (second words) 0 ∷ []) has.has
      | inr reserved ↦
          ap (λ (i : Instruction). candidate a (instruction_text a words i)) reserved
          ∙ unnamed_back a w h.word_fits
          ∙ ap (λ (i : Instruction). w ∷ cond (ltb 0 (further_words i)) (first words) 0 ∷ cond (ltb 1 (further_words i)) (second words) 0 ∷ []) (sym reserved)
    ]

module _ (a : ℕ) (line words : List ℕ) (ha : a < 65536) (fits : Words words) (cand : words ≡ candidate a line) where
  -- a candidate that lists to the line has zeros where the line shows nothing
  pub rest_zero : text a words ≡ line → shown_words words ≡ words
  rest_zero e = sym (round a words ha fits) ∙ ap (candidate a) e ∙ sym cand

  -- whatever words list to the line, the candidate is those
  pub found : (others : List ℕ) → Words others → text a others ≡ line → words ≡ shown_words others
  found others h e = cand ∙ ap (candidate a) (sym e) ∙ round a others ha h

  -- where any words list to the line, the candidate does
  pub lists_too : (others : List ℕ) → Words others → text a others ≡ line → text a words ≡ line
  lists_too others h e = ap (text a) (found others h e) ∙ shown_same a others (reading (word others)) ∙ e
