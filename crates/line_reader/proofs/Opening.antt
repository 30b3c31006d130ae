-- The front of a line of a listing: its mnemonic, its size and what stands behind them.
use Rattle.std.proofs.Common.{◌≡◌, ℕ, List, ◌++◌, ap, ◌∙◌, arith, rules}
use Rattle.isa.specs.declared.instruction.Size.{Size}
use Rattle.isa.specs.declared.instruction.Control.{Control}
use Rattle.isa.specs.declared.instruction.SingleOperation.{SingleOperation}
use Rattle.isa.specs.declared.instruction.DoubleOperation.{DoubleOperation}
use Rattle.isa.specs.declared.instruction.Condition.{Condition}
use Rattle.isa.specs.declared.instruction.Instruction.{Instruction}
use Rattle.listing.specs.Names.{single_name, double_name, condition_name, control_name, byte_mark}
use Rattle.listing.specs.Text.{behind}
use Rattle.line_reader.specs.declared.parsed.Mnemonic.{Mnemonic}
use Rattle.line_reader.specs.declared.parsed.OneOperand.{OneOperand}
use Rattle.line_reader.specs.declared.parsed.TwoOperands.{TwoOperands}
use Rattle.line_reader.specs.Fields.{size_in, behind_name}
use Rattle.line_reader.specs.Mnemonics.{mnemonic_in}
use Rattle.line_reader.specs.Candidate.{words_of, words_behind, candidate}

-- the line s is read as the mnemonic m, with the text t behind it
abbrev pub Opens : List ℕ → Size → List ℕ → Mnemonic → Type 0
Opens s z t m = (size_in s ≡ z) × (behind_name s ≡ t) × (mnemonic_in s ≡ m)

-- the words that it is taken for
pub opened : (a : ℕ) (s : List ℕ) (z : Size) (t : List ℕ) (m : Mnemonic) → Opens s z t m → candidate a s ≡ words_behind a z t m
opened a s z t m o =
    ap (λ q. words_behind a q (behind_name s) (mnemonic_in s)) o.0
    ∙ ap (λ q. words_behind a z q (mnemonic_in s)) o.1
    ∙ ap (words_behind a z t) o.2

pub single_opens : (z : Size) (o : SingleOperation) (t : List ℕ) → Opens (behind (single_name o ++ byte_mark z) t) z t (Mnemonic.One (OneOperand.Single o))
unfolding mnemonic_in
single_opens z o t = grind arith

pub double_opens : (z : Size) (o : DoubleOperation) (t : List ℕ) → Opens (behind (double_name o ++ byte_mark z) t) z t (Mnemonic.Two (TwoOperands.Double o))
unfolding mnemonic_in
double_opens z o t = grind arith

-- the size of a branch does not matter: behind BR it is what the number begins with
pub branch_opens : (c : Condition) (t : List ℕ) → Opens (behind (condition_name c) t) (size_in (behind (condition_name c) t)) t (Mnemonic.Branch c)
unfolding mnemonic_in
branch_opens c t = grind arith

pub control_back : (a : ℕ) (c : Control) → candidate a (control_name c) ≡ words_of (Instruction.Control c) 0
unfolding mnemonic_in
control_back a c = search rules
