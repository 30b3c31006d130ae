use Rattle.std.proofs.Common.{◌≡◌, true, false, rules}
use Rattle.capture.specs.Exchanges.{same_request}
use Rattle.capture.specs.Feeds.{left}
use Rattle.capture.specs.Handed.{seen}
use Rattle.capture.proofs.Asking.{misfit, fit}
use Rattle.capture.proofs.Feeding.{left_lawful}
use Rattle.capture.proofs.feed.Feed.ask.Goals as goal

pub returns-then-ne-clause-moved : goal.returns-then-ne-clause-moved
returns-then-ne-clause-moved c =
    let other : same_request c.exchange-exchange.result.request c.args.request ≡ false = search rules in
    misfit c.args.request (left c.args.self.now) (seen c.in-Some.record) c.exchange-exchange.result c.in-Some.ensures c.exchange-exchange.ensures other

pub returns-clause-lawful : goal.returns-clause-lawful
returns-clause-lawful c =
    let f = c.args.self.now in
    let same : same_request c.exchange-exchange.result.request c.args.request ≡ true = search rules in
    fit c.args.request (left f) (seen c.in-Some.record) c.exchange-exchange.result c.in-Some.ensures c.exchange-exchange.ensures (left_lawful f.bytes.now f.block f.from) same
