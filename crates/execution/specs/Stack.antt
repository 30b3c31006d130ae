-- The stack below SP.
use Rattle.std.specs.Prelude.{ℕ, Option}
use Rattle.isa.specs.declared.operand.Register.TheVariants.{Sp}
use Rattle.bus.specs.Accesses.{stores}
use Rattle.bus.specs.Courses.{Act}
use Rattle.operands.specs.declared.state.Processor.{Processor}
use Rattle.operands.specs.State.{register, with_register, difference, leaving}
use Rattle.operands.specs.Operands.{reads_past}

-- SP is lowered, and a word written there.
abbrev pub lowered : Processor → Processor
lowered p = with_register p Sp (difference (register p Sp) 2)

unfoldable pub pushes : ℕ → Processor → Act (Option Unit × Processor)
pushes w p = leaving (lowered p) (stores (register (lowered p) Sp) w)

-- A word is read at SP, which rises as it is asked for.
unfoldable pub pops : Processor → Act (Option ℕ × Processor)
pops p = reads_past Sp p
