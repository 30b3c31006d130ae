use Rattle.std.proofs.Common.{map, sym, refl, ap}
use Rattle.capture.specs.Checking.{Answer, entries}
use Rattle.capture.specs.Records.{numbers}
use Rattle.capture.proofs.Feeding.{checked}
use Rattle.capture.proofs.feed.Feed.check.Goals as goal

pub invariant_of-self : goal.invariant_of-self
invariant_of-self c =
    let k = checked c.args.bytes.now c.in_ok-check.ensures in
    record { whole = k.whole; short = k.used; passed = k.fine; stands = ap (λ (a : Answer). map numbers (entries a)) (sym k.same) }

pub returns : goal.returns
returns c =
    let k = checked c.args.bytes.now c.in_ok-check.ensures in
    record { answer = c.in_ok-check.ensures; held = refl; left = ap entries (sym k.same); used = refl }
