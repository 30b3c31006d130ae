-- What a record that the feed hands out stands for.
use Rattle.std.specs.Prelude.{ℕ, cond, List, [], ◌∷◌, Some, None, Option}
use Rattle.capture.specs.declared.record.Record.{Record}
use Rattle.capture.specs.declared.record.Record.TheVariants as kinds
use Rattle.capture.specs.Records.{Plain, Entry, plain, entry}
use Rattle.capture.specs.Exchanges.{mark_of, answered_word}

-- as records are compared
abbrev pub shown : Record → Plain
shown (kinds.Read a r x) = plain 1 (mark_of r) a (answered_word r)
shown (kinds.Write a w t x) = plain 2 (cond t 1 0) a w
shown (kinds.WriteByte a b t x) = plain 3 (cond t 1 0) a b
shown (kinds.Lines w x) = plain 4 1 0 w
shown (kinds.Vector r x) = plain 5 (mark_of r) 0 (answered_word r)
shown (kinds.Init x) = plain 6 1 0 0

-- the added header bytes that it borrows
abbrev pub added_of : Record → List ℕ
added_of (kinds.Read a r x) = x.now
added_of (kinds.Write a w t x) = x.now
added_of (kinds.WriteByte a b t x) = x.now
added_of (kinds.Lines w x) = x.now
added_of (kinds.Vector r x) = x.now
added_of (kinds.Init x) = x.now

-- both together
abbrev pub seen : Record → Entry
seen r = entry (added_of r) (shown r)

-- the same of what is handed out, if anything is
abbrev pub given : Option Record → Option Entry
given None = None
given (Some r) = Some (seen r)

-- the first of a list, if there is one
abbrev pub head_of : List Entry → Option Entry
head_of [] = None
head_of (x ∷ xs) = Some x

-- the others
abbrev pub tail_of : List Entry → List Entry
tail_of [] = []
tail_of (x ∷ xs) = xs
