-- When each branch is taken.
use Rattle.std.specs.Prelude.{Bool, true, not, ◌||◌}
use Rattle.isa.specs.declared.instruction.Condition.{Condition}
use Rattle.isa.specs.declared.instruction.Condition.TheVariants.{Br, Bne, Beq, Bge, Blt, Bgt, Ble, Bpl, Bmi, Bhi, Blos, Bvc, Bvs, Bcc, Bcs}
use Rattle.isa.specs.declared.flags.Flags.{Flags}
use Rattle.arithmetic.specs.Outcomes.{◌xor◌}

-- a branch with this condition is taken under these flags
abbrev pub branches : Condition → Flags → Bool
branches Br f = true
branches Bne f = not f.z
branches Beq f = f.z
branches Bge f = not (f.n xor f.v)
branches Blt f = f.n xor f.v
branches Bgt f = not (f.z || (f.n xor f.v))
branches Ble f = f.z || (f.n xor f.v)
branches Bpl f = not f.n
branches Bmi f = f.n
branches Bhi f = not (f.c || f.z)
branches Blos f = f.c || f.z
branches Bvc f = not f.v
branches Bvs f = f.v
branches Bcc f = not f.c
branches Bcs f = f.c
