-- The refusals of calls: each with its number and its values.
use Rattle.std.specs.Prelude.{ℕ, List, [], ◌∷◌}
use Rattle.station.specs.declared.call.Refusal.{Refusal}
use Rattle.station.specs.declared.call.Refusal.TheVariants.{StepCount, HasEnded, NotRunning, NoPlace, SideGone}

abbrev pub numbered : Refusal → ℕ × List ℕ
numbered StepCount = (10, [])
numbered HasEnded = (11, [])
numbered NotRunning = (12, [])
numbered NoPlace = (13, [])
numbered (SideGone records) = (14, records ∷ [])
