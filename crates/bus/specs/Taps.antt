-- What a tap notes of the exchanges that go through it.
use Rattle.std.specs.Prelude.{List, [], ◌∷◌, ◌++◌, take, Ok, Err, Result, Option, ℕ}
use Rattle.bus.specs.declared.exchange.Request.{Request}
use Rattle.bus.specs.declared.exchange.Gone.{Gone}
use Rattle.bus.specs.declared.exchange.Exchange.{Exchange}
use Rattle.bus.specs.declared.notes.Notes.{Notes}

-- The exchanges that are noted, in the order in which they were made.
abbrev pub listed : Notes → List Exchange
listed n = take n.count n.table

-- Another exchange is noted behind the others; there is place for eleven, and a twelfth is omitted.
abbrev pub noted : List Exchange → Exchange → List Exchange
noted es e = take 11 (es ++ (e ∷ []))

-- A request that finds the side gone is not noted.
abbrev pub noting : List Exchange → Request → Result (Option ℕ) Gone → List Exchange
noting es q (Ok a) = noted es (record { request = q; reply = a })
noting es q (Err g) = es

abbrev pub all_noted : List Exchange → List Exchange → List Exchange
all_noted es [] = es
all_noted es (f ∷ fs) = all_noted (noted es f) fs
