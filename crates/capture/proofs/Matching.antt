-- A lawful exchange that is written as a record is kept.
use Rattle.std.proofs.Common.{◌≡◌, ℕ, Bool, true, Option, rules}
use Rattle.bus.specs.declared.exchange.Request.{Request}
use Rattle.capture.specs.Words.{both}
use Rattle.capture.specs.Exchanges.{exchange, reply_is_lawful, KeptByRecord}

pub both_parts : (x y : Bool) → both x y ≡ true → (x ≡ true) × (y ≡ true)
both_parts x y h = search rules

pub written : (q : Request) (r : Option ℕ) → reply_is_lawful q r ≡ true → KeptByRecord (exchange q r)
written q r h = search rules
