-- What a recorder holds.
use Rattle.std.specs.Prelude.{ℕ, List}
use Rattle.capture.specs.Records.{Plain}
use Rattle.recorder.specs.declared.recorder.Recorder.{Recorder}
use Rattle.recorder.specs.Recording.{places, found_in}

-- its bytes
abbrev pub bytes_of : Recorder → List ℕ
bytes_of r = r.sheets.buffer.now

-- the records made so far, in order: what a reader finds in its bytes
abbrev pub made : Recorder → List Plain
made r = found_in r.blocks (bytes_of r)

-- how many records have place in all
abbrev pub places_of : Recorder → ℕ
places_of r = places r.header r.blocks
