use Rattle.std.proofs.Common.{◌≡◌, ℕ, ◌+◌, ◌<◌, length, filter, slice_index_or, rules, arith, ap, ◌∙◌}
use Rattle.std.proofs.iter.runs.Sources.{inclusive_listed}
use Rattle.std.specs.Range.{range_inclusive_start, range_inclusive_end}
use Rattle.std.proofs.lemmas.List.Sums.{length-filter}
use Rattle.isa_laws.specs.OneReading.{reserved_word, how_many}
use Rattle.isa_laws.proofs.Readings.{counted_in}
use Rattle.isa_laws.proofs.Law.{words_have_one_reading}
use Rattle.isa_laws.proofs.Readings.{reserved_number}
use Rattle.isa_laws.proofs.reserved_words.Goals as goal

pub returns : goal.returns
returns c =
    let counts = c.count.ensures.runs in
    let kept = c.filter.ensures.runs counts.0 counts.0.seen counts.1 in
    let words = kept.0 in
    let listed = inclusive_listed words words.seen in
    let passed : counts.0.items ≡ filter reserved_word words.items = kept.2.4 reserved_word (λ x r k called. search rules) in
    let places = listed.4 (search rules) in
    let whole = kept.2.0 ∙ counts.2 in
    let long : length words.items ≡ 0o200000 = omega (arith, words.long, places.0.1 whole, listed.2, listed.3, ap range_inclusive_start kept.1, ap range_inclusive_end kept.1) in
    let at_place : (k : ℕ) → k < 0o200000 → slice_index_or words.items k 0 ≡ k = λ k low.
    let below : k < words.len = omega (arith, words.long, long) in
    let place : slice_index_or words.items k 0 ≡ listed.0 + k = cc (words.reads k 0 below, places.0.3 k below) in
    omega (arith, place, listed.2, ap range_inclusive_start kept.1) in
    let counted : c.count.result ≡ how_many reserved_word 0o200000 =
    counts.3 ∙ counts.0.long ∙ ap length passed ∙ length-filter reserved_word words.items
    ∙ counted_in reserved_word words.items 0o200000 long at_place in
    record {
      counted = counted;
      number = counted ∙ reserved_number;
      words_have_one_reading = words_have_one_reading;
    }
