-- What stands in a line.
use Rattle.std.specs.Prelude.{ℕ, List, take}
use Rattle.listing.specs.declared.text_line.Line.{Line}

abbrev pub shown : Line → List ℕ
shown line = take line.length line.bytes
