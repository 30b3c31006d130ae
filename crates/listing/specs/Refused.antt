-- The numbers of the refusals.
use Rattle.std.specs.Prelude.{ℕ}
use Rattle.listing.specs.declared.refusal.Refusal.{Refusal}
use Rattle.listing.specs.declared.refusal.Refusal.TheVariants.{ShortOutput, NoListing}

abbrev pub refusal_number : Refusal → ℕ
refusal_number ShortOutput = 15
refusal_number NoListing = 16
