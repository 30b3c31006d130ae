-- Refusals in words.
use Rattle.std.specs.Prelude.{ℕ, List, codes}
use Rattle.capture.specs.declared.refusal.Refusal.{Refusal}
use Rattle.capture.specs.declared.refusal.Refusal.TheVariants.{Blocks, Number, Used, Checksum, Length, Fields}

-- what was found
abbrev pub refusal_text : Refusal → List ℕ
refusal_text Blocks = codes "not 1 to 4096 whole blocks"
refusal_text Number = codes "another block number than its place"
refusal_text Used = codes "more than 506 used bytes"
refusal_text Checksum = codes "the words do not add up to 0"
refusal_text Length = codes "no header length from 4 to 32, or the record ends past the used bytes"
refusal_text Fields = codes "fields that the record's kind does not allow"
