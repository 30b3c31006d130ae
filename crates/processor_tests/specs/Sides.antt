-- What a stuck side answers.
use Rattle.std.specs.Prelude.{cond, Ok, Err, Result, Option, Some, None, ℕ}
use Rattle.bus.specs.declared.exchange.Request.{Request}
use Rattle.bus.specs.declared.exchange.Request.TheVariants.{Read, Write, WriteByte, Lines, Vector, Init}
use Rattle.bus.specs.declared.exchange.Gone.{Gone}
use Rattle.bus.specs.Feeds.{gone}
use Rattle.processor_tests.specs.declared.side.Stuck.{Stuck}

-- What it has for a request to the page or for a vector.
abbrev pub nothing : Stuck → Result (Option ℕ) Gone
nothing s = cond s.unplugged (Err gone) (Ok None)

abbrev pub stuck_means : Stuck → Request → Result (Option ℕ) Gone
stuck_means s (Read at) = nothing s
stuck_means s (Write at w) = nothing s
stuck_means s (WriteByte at b) = nothing s
stuck_means s Lines = Ok (Some (cond s.virq 8 0))
stuck_means s Vector = nothing s
stuck_means s Init = Ok (Some 0)
