-- When two states are the same: in each of their parts.
use Rattle.std.specs.Prelude.{ℕ, Bool, ◌&&◌, nat_eq}
use Rattle.std.specs.Cmp.Lexicographic.{pointwise}
use mathlib.Core.Bool.{beq}
use Rattle.bus.specs.declared.panel.LineBits.{LineBits}
use Rattle.operands.specs.declared.state.Life.{Life}
use Rattle.operands.specs.declared.state.Life.TheVariants.{Running, Halted, Dead, Ended}
use Rattle.operands.specs.declared.state.Requests.{Requests}
use Rattle.operands.specs.declared.state.Processor.{Processor}

-- lines that are active and not at the same places
abbrev pub same_lines : LineBits → LineBits → Bool
same_lines a b = beq a.aclo b.aclo && (beq a.irq2 b.irq2 && (beq a.irq3 b.irq3 && beq a.virq b.virq))

-- the same requests set
abbrev pub same_requests : Requests → Requests → Bool
same_requests a b = beq a.aclo b.aclo && (beq a.irq2 b.irq2 && beq a.irq3 b.irq3)

-- lives by number, so that they can be compared
abbrev pub life_number : Life → ℕ
life_number Running = 0
life_number Halted = 1
life_number Dead = 2
life_number Ended = 3

abbrev pub same_life : Life → Life → Bool
same_life a b = nat_eq (life_number a) (life_number b)

-- the whole state: registers, PSW, lines, requests, marks and life
unfoldable pub same_state : Processor → Processor → Bool
same_state p q =
    pointwise nat_eq p.registers q.registers
    && (nat_eq p.psw q.psw
    && (same_lines p.lines q.lines
    && (same_requests p.requests q.requests
    && (beq p.trace q.trace && (beq p.waiting q.waiting && same_life p.life q.life)))))
