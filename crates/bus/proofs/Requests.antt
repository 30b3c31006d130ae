-- Laws of requests and of lists of exchanges.
use Rattle.std.proofs.Common.{◌≡◌, ℕ, true, false, eqb, List, [], ◌∷◌, ◌++◌, refl, arith}
use Rattle.std.proofs.lemmas.Bool.{eq-eqb, and_parts, and_from}
use Rattle.bus.specs.declared.exchange.Request.{Request}
use Rattle.bus.specs.declared.exchange.Exchange.{Exchange}
use Rattle.bus.specs.Exchanges.{lawful_exchange, all_lawful}
use Rattle.bus.specs.Feeds.{kind, address, sent, same}

pub no_bool : {A : Type 0} → true ≡ false → A
no_bool {A} e = let z : ◌≡◌ {A = ℕ} 0 1 = cc in absurd (omega arith)

eqb_refl : (n : ℕ) → eqb n n ≡ true
eqb_refl n = eq-eqb n n refl

-- a request is the same as itself
pub same_refl : (q : Request) → same q q ≡ true
same_refl q = and_from _ _ (and_from _ _ (eqb_refl (kind q)) (eqb_refl (address q))) (eqb_refl (sent q))

-- lawful exchanges after lawful ones are lawful
pub lawful_on : (es fs : List Exchange) → all_lawful es ≡ true → all_lawful fs ≡ true → all_lawful (es ++ fs) ≡ true
lawful_on [] fs h k = k
lawful_on (e ∷ es) fs h k = let p = and_parts (lawful_exchange e) (all_lawful es) h in and_from _ _ p.0 (lawful_on es fs p.1 k)
