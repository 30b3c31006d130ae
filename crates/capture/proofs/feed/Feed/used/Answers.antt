use Rattle.std.proofs.Common.{drop, refl}
use Rattle.capture.specs.Feeds.{held, left}
use Rattle.capture.proofs.Feeding.{same_numbers}
use Rattle.capture.proofs.feed.Feed.used.Goals as goal

pub returns : goal.returns
returns c =
    let f = c.args.self.now in
    record { count = refl; left = same_numbers (left f) (drop f.used (held f)) f.stands }
