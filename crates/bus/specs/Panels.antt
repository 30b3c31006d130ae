-- What a panel answers and becomes.
use Rattle.std.specs.Prelude.{ℕ, ◌+◌, ◌/◌, ◌%◌, cond, Ok, Result, slice_index, slice_set, Option, Some}
use Rattle.bus.specs.declared.exchange.Request.{Request}
use Rattle.bus.specs.declared.exchange.Request.TheVariants.{Read, Write, WriteByte, Lines, Vector, Init}
use Rattle.bus.specs.declared.exchange.Gone.{Gone}
use Rattle.bus.specs.declared.panel.LineBits.{LineBits}
use Rattle.bus.specs.declared.panel.Panel.{Panel}
use Rattle.bus.specs.Memory.{with_half}

-- The lines as a word: bit 0 ACLO, 1 IRQ2, 2 IRQ3, 3 VIRQ, where 1 is active.
abbrev pub line_word : LineBits → ℕ
line_word l = cond l.aclo 1 0 + cond l.irq2 2 0 + cond l.irq3 4 0 + cond l.virq 8 0

-- Which of the panel's 64 words an address of the page names.
abbrev pub place : ℕ → ℕ
place at = at / 2 % 64

abbrev pub word_of_panel : Panel → ℕ → ℕ
word_of_panel p at = slice_index p.words (place at)

-- A panel answers every request: a read with its word, lines and vector as they are set, the others with 0.
abbrev pub panel_word : Panel → Request → ℕ
panel_word p (Read at) = word_of_panel p at
panel_word p (Write at w) = 0
panel_word p (WriteByte at b) = 0
panel_word p Lines = line_word p.lines
panel_word p Vector = p.vector
panel_word p Init = 0

abbrev pub panel_means : Panel → Request → Result (Option ℕ) Gone
panel_means p q = Ok (Some (panel_word p q))

-- The panel with another word at an address.
abbrev pub with_panel_word : Panel → ℕ → ℕ → Panel
with_panel_word p at w = record { words = slice_set p.words (place at) w; lines = p.lines; vector = p.vector }

-- It stores words and bytes, and nothing else changes it, INIT neither.
abbrev pub panel_after : Panel → Request → Panel
panel_after p (Read at) = p
panel_after p (Write at w) = with_panel_word p at w
panel_after p (WriteByte at b) = with_panel_word p at (with_half at b (word_of_panel p at))
panel_after p Lines = p
panel_after p Vector = p
panel_after p Init = p
