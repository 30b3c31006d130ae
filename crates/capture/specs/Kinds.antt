-- The numbers that stand for kinds in records.
use Rattle.std.specs.Prelude.{ℕ, cond, Ok, Err, Result, ◌==◌}
use Rattle.capture.specs.declared.refusal.Refusal.{Refusal}
use Rattle.capture.specs.declared.refusal.Refusal.TheVariants.{Fields}
use Rattle.capture.specs.declared.kind.Kind.{Kind}
use Rattle.capture.specs.declared.kind.Kind.TheVariants.{Read, Write, WriteByte, Lines, Vector, Init}

-- the number of each kind
abbrev pub kind_number : Kind → ℕ
kind_number Read = 1
kind_number Write = 2
kind_number WriteByte = 3
kind_number Lines = 4
kind_number Vector = 5
kind_number Init = 6

-- the kind that has a number, or the refusal of other numbers
abbrev pub kind_numbered : ℕ → Result Kind Refusal
kind_numbered k =
    cond (k == 1) (Ok Read)
    (cond (k == 2) (Ok Write)
    (cond (k == 3) (Ok WriteByte)
    (cond (k == 4) (Ok Lines)
    (cond (k == 5) (Ok Vector)
    (cond (k == 6) (Ok Init) (Err Fields))))))
