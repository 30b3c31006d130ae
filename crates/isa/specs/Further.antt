-- The words that an instruction takes beyond its first.
use Rattle.std.specs.Prelude.{ℕ, ◌+◌, Bool, true, false, List, [], ◌∷◌}
use Rattle.isa.specs.declared.operand.Register.{Register}
use Rattle.isa.specs.declared.operand.Register.TheVariants.{R0, R1, R2, R3, R4, R5, Sp, Pc}
use Rattle.isa.specs.declared.operand.Operand.{Operand}
use Rattle.isa.specs.declared.operand.Operand.TheVariants.{Direct, Deferred, Increment, IncrementDeferred, Decrement, DecrementDeferred, Index, IndexDeferred}
use Rattle.isa.specs.declared.instruction.Instruction.{Instruction}
use Rattle.isa.specs.Word.{bit}

-- whether a register is PC
abbrev pub is_pc : Register → Bool
is_pc R0 = false
is_pc R1 = false
is_pc R2 = false
is_pc R3 = false
is_pc R4 = false
is_pc R5 = false
is_pc Sp = false
is_pc Pc = true

-- whether an operand takes the next word of the instruction: modes 6 and 7 as an index, modes 2 and 3 where PC itself
-- points to it and rises past it
abbrev pub takes_word : Operand → Bool
takes_word (Direct r) = false
takes_word (Deferred r) = false
takes_word (Increment r) = is_pc r
takes_word (IncrementDeferred r) = is_pc r
takes_word (Decrement r) = false
takes_word (DecrementDeferred r) = false
takes_word (Index r) = true
takes_word (IndexDeferred r) = true

-- the operands of an instruction, the source first
abbrev pub operands : Instruction → List Operand
operands (Instruction.Control c) = []
operands (Instruction.Jump d) = d ∷ []
operands (Instruction.Return r) = []
operands (Instruction.Flags change m) = []
operands (Instruction.SwapBytes d) = d ∷ []
operands (Instruction.Branch c z) = []
operands (Instruction.Call r d) = d ∷ []
operands (Instruction.Single size o d) = d ∷ []
operands (Instruction.Mark n) = []
operands (Instruction.SignExtend d) = d ∷ []
operands (Instruction.ToStatus s) = s ∷ []
operands (Instruction.FromStatus d) = d ∷ []
operands (Instruction.Double size o s d) = s ∷ d ∷ []
operands (Instruction.Add s d) = s ∷ d ∷ []
operands (Instruction.Subtract s d) = s ∷ d ∷ []
operands (Instruction.ExclusiveOr r d) = d ∷ []
operands (Instruction.Loop r n) = []
operands (Instruction.Emulate n) = []
operands (Instruction.Trap n) = []
operands (Instruction.Reserved w) = []

-- how many operands take a word
abbrev pub taken : List Operand → ℕ
taken [] = 0
taken (d ∷ ds) = bit (takes_word d) + taken ds

-- the words beyond the first
abbrev pub further_words : Instruction → ℕ
further_words i = taken (operands i)
