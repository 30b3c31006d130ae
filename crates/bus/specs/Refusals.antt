-- Refusals: their numbers, and the questions in the order in which they are asked.
use Rattle.std.specs.Prelude.{ℕ, ◌%◌, Bool, cond, ◌&&◌, List, [], ◌∷◌, Ok, Err, Result, ◌==◌, nat_le}
use Rattle.bus.specs.declared.refusal.Refusal.{Refusal}
use Rattle.bus.specs.declared.refusal.Refusal.TheVariants.{Ram, Rom}

abbrev pub number : Refusal → ℕ
number Ram = 1
number Rom = 2

-- An answer as its number, 0 where nothing is refused, and its values.
abbrev pub told : {X : Type 0} → (X → List ℕ) → Result X Refusal → ℕ × List ℕ
told values (Ok x) = (0, values x)
told values (Err e) = (number e, [])

-- The first question that is answered no decides; each stands with what is told then.
abbrev pub ordered : List (Bool × (ℕ × List ℕ)) → ℕ × List ℕ → ℕ × List ℕ
ordered [] last = last
ordered (q ∷ qs) last = cond q.0 (ordered qs last) q.1

-- An even number of bytes, at most so many.
abbrev pub even_at_most : ℕ → ℕ → Bool
even_at_most limit length = length % 2 == 0 && nat_le length limit
