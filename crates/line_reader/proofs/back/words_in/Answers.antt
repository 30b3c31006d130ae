use Rattle.std.proofs.Common.{◌≡◌, ◌<◌, List, ℕ, Bool, true, false, refl, rules}
use borrow.Author.Tests.{clash}
use Rattle.std.specs.Bool.{Decides, then_some}
use Rattle.listing.specs.Listing.{text}
use Rattle.line_reader.specs.Back.{Words, Found}
use Rattle.line_reader.specs.Candidate.{candidate}
use Rattle.line_reader.proofs.Round.{rest_zero, found, lists_too}
use Rattle.line_reader.proofs.back.words_in.Goals as goal

module _ (a : ℕ) (line words : List ℕ) (ha : a < 65536) (fits : Words words) (cand : words ≡ candidate a line) where
  -- whether the candidate lists to the line decides what is found
  decided : (b : Bool) → Decides b (text a words ≡ line) → Found a line (then_some b words)
  decided true d =
      let listed = d.0 refl in
      record {
        lists = record { listed = listed; rest_zero = rest_zero a line words ha fits cand listed };
        only = found a line words ha fits cand;
      }
  decided false d = λ others w u. clash (d.1 (lists_too a line words ha fits cand others w u))

pub returns : goal.returns
returns c =
    let fits : Words c.candidate_in-words.result = search rules in
    rw c.then_some.ensures (decided c.args.address c.args.line.now c.candidate_in-words.result (search rules) fits c.candidate_in-words.ensures c.is_listing.result c.is_listing.ensures)
