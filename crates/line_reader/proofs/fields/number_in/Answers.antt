use Rattle.std.proofs.Common.{refl, rules, tests}
use Rattle.std.proofs.lemmas.Iterator.{YieldsList-from_range}
use Rattle.std.proofs.lemmas.Iterator.Consumers.{fold_from_yields_List}
use Rattle.std.specs.List.{slice_index}
use Rattle.line_reader.specs.Fields.{number_in, with_digit}
use Rattle.line_reader.proofs.fields.number_in.Goals as goal

pub returns : goal.returns
unfolding number_in
returns c =
    fold_from_yields_List _ (λ n i. with_digit n (slice_index c.args.text.now i)) 0 c.fold.result c.fold.ensures.ran
    (YieldsList-from_range 0 6 6 refl refl) (λ n i m q k. search (rules, tests))
