-- What a feed answers from the records that are left.
use Rattle.std.proofs.Common.{rules}
use Rattle.std.proofs.Common.{◌≡◌, true, false, List, map, Some}
use Rattle.std.specs.List.{AllByRecursion}
use Rattle.bus.specs.declared.exchange.Request.{Request}
use Rattle.bus.specs.declared.exchange.Exchange.{Exchange}
use Rattle.capture.specs.Records.{Entry, plain_of}
use Rattle.capture.specs.Lawful.{lawful}
use Rattle.capture.specs.Exchanges.{exchange_of, reply_is_lawful, same_request, leaves}
use Rattle.capture.specs.Handed.{head_of}

-- as exchanges
abbrev tape : List Entry → List Exchange
tape L = map (λ e. exchange_of (plain_of e)) L

-- where the next record is of another request nothing is used
pub misfit : (q : Request) (L : List Entry) (e : Entry) (x : Exchange) → Some e ≡ head_of L → x ≡ exchange_of e.plain → same_request x.request q ≡ false → tape L ≡ leaves q (tape L)
misfit q L e x h ex f = search rules

-- where it is of this request its reply is lawful
pub fit : (q : Request) (L : List Entry) (e : Entry) (x : Exchange) → Some e ≡ head_of L → x ≡ exchange_of e.plain → AllByRecursion (λ e. lawful e.plain ≡ true) L → same_request x.request q ≡ true
    → reply_is_lawful q x.reply ≡ true
fit q L e x h ex a f = search rules
