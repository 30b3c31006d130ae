-- The request lines, and the request that is accepted.
use Rattle.std.specs.Prelude.{ℕ, ◌/◌, Bool, false, cond, not, ◌&&◌, ◌||◌, Some, None, Option}
use Rattle.bus.specs.declared.panel.LineBits.{LineBits}
use Rattle.arithmetic.specs.Status.{odd}
use Rattle.operands.specs.declared.state.Processor.{Processor}
use Rattle.processor.specs.declared.sample.Accepted.{Accepted}
use Rattle.processor.specs.declared.sample.Accepted.TheVariants.{Aclo, Irq2, Irq3, Virq}

-- The lines of an answer, where 1 is active: bit 0 ACLO, 1 IRQ2, 2 IRQ3, 3 VIRQ. (The request for them never times out.)
abbrev pub lines_of : Option ℕ → LineBits
lines_of (Some w) = record { aclo = odd w; irq2 = odd (w / 2); irq3 = odd (w / 4); virq = odd (w / 8) }
lines_of None = record { aclo = false; irq2 = false; irq3 = false; virq = false }

-- A request is set when its line is active now and was not last time.
abbrev pub requested : Bool → Bool → Bool → Bool
requested before last current = before || (current && not last)

abbrev pub sampled : LineBits → Processor → Processor
sampled l p = record p {
  lines = l;
  requests = record {
    aclo = requested p.requests.aclo p.lines.aclo l.aclo;
    irq2 = requested p.requests.irq2 p.lines.irq2 l.irq2;
    irq3 = requested p.requests.irq3 p.lines.irq3 l.irq3;
  };
}

-- T is bit 4 of PSW, P is bit 7.
abbrev pub traces : ℕ → Bool
traces psw = odd (psw / 16)

abbrev pub masks : ℕ → Bool
masks psw = odd (psw / 128)

-- The first request that applies: ACLO, and with P 0 IRQ2, IRQ3, and VIRQ while its line is active.
abbrev pub accepted : Processor → Option Accepted
accepted p =
    cond p.requests.aclo (Some Aclo)
    (cond (masks p.psw) None
    (cond p.requests.irq2 (Some Irq2)
    (cond p.requests.irq3 (Some Irq3)
    (cond p.lines.virq (Some Virq) None))))
