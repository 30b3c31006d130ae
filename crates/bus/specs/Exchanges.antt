-- Which requests may be asked of a cabinet side, and which replies they may have.
use Rattle.std.specs.Prelude.{ℕ, ◌%◌, Bool, true, false, ◌&&◌, List, [], ◌∷◌, Ok, Err, Result, ◌==◌, nat_le, nat_lt, Option, Some, None}
use Rattle.bus.specs.declared.exchange.Request.{Request}
use Rattle.bus.specs.declared.exchange.Request.TheVariants.{Read, Write, WriteByte, Lines, Vector, Init}
use Rattle.bus.specs.declared.exchange.Gone.{Gone}
use Rattle.bus.specs.declared.exchange.Exchange.{Exchange}

-- The cabinet page is 177600 to 177777 octal; lower addresses are the board's.
abbrev pub on_page : ℕ → Bool
on_page at = nat_le 65408 at && nat_lt at 65536

abbrev pub even : ℕ → Bool
even at = at % 2 == 0

-- Words are read and written at even page addresses, bytes are written at any.
abbrev pub lawful_request : Request → Bool
lawful_request (Read at) = on_page at && even at
lawful_request (Write at w) = on_page at && even at && nat_lt w 65536
lawful_request (WriteByte at b) = on_page at && nat_lt b 256
lawful_request Lines = true
lawful_request Vector = true
lawful_request Init = true

-- Reads and the vector answer a word, writes and INIT answer 0, the lines 0 to 17 octal; lines and INIT never time out.
abbrev pub lawful_reply : Request → Option ℕ → Bool
lawful_reply (Read at) (Some w) = nat_lt w 65536
lawful_reply (Read at) None = true
lawful_reply (Write at v) (Some w) = w == 0
lawful_reply (Write at v) None = true
lawful_reply (WriteByte at b) (Some w) = w == 0
lawful_reply (WriteByte at b) None = true
lawful_reply Lines (Some w) = nat_le w 15
lawful_reply Lines None = false
lawful_reply Vector (Some w) = nat_lt w 65536
lawful_reply Vector None = true
lawful_reply Init (Some w) = w == 0
lawful_reply Init None = false

-- A side that is gone may be so at any request.
abbrev pub lawful_answer : Request → Result (Option ℕ) Gone → Bool
lawful_answer q (Ok x) = lawful_reply q x
lawful_answer q (Err g) = true

abbrev pub lawful_exchange : Exchange → Bool
lawful_exchange e = lawful_request e.request && lawful_reply e.request e.reply

abbrev pub all_lawful : List Exchange → Bool
all_lawful [] = true
all_lawful (e ∷ es) = lawful_exchange e && all_lawful es
