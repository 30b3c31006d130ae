-- Notes: the first eleven exchanges are noted, in order.
use Rattle.std.proofs.Common.{◌≡◌, ℕ, zero, suc, ◌≤◌, List, [], ◌∷◌, ◌++◌, length, take, sym, refl, ap, ◌∙◌, append_assoc, append-nil, arith, length-take}
use Rattle.std.proofs.lemmas.List.{take_all}
use Rattle.bus.specs.declared.exchange.Exchange.{Exchange}
use Rattle.bus.specs.Taps.{noted, all_noted}

front_of_front : (n : ℕ) (xs ys : List Exchange) → take n (take n xs ++ ys) ≡ take n (xs ++ ys)
front_of_front zero xs ys = refl
front_of_front (suc n) [] ys = refl
front_of_front (suc n) (x ∷ xs) ys = ap (λ l. x ∷ l) (front_of_front n xs ys)

at_most_eleven : (es : List Exchange) → length (take 11 es) ≤ 11
at_most_eleven es = omega (arith, length-take 11 es)

-- of any exchanges, the first eleven are noted
pub all_noted_is : (fs es : List Exchange) → length es ≤ 11 → all_noted es fs ≡ take 11 (es ++ fs)
all_noted_is [] es h = sym (ap (take 11) (append-nil es) ∙ take_all 11 es h)
all_noted_is (f ∷ fs) es h =
    all_noted_is fs (noted es f) (at_most_eleven (es ++ (f ∷ [])))
    ∙ (front_of_front 11 (es ++ (f ∷ [])) fs ∙ ap (take 11) (append_assoc es (f ∷ []) fs))

-- eleven exchanges or fewer are all noted
pub all_noted_whole : (fs : List Exchange) → length fs ≤ 11 → all_noted [] fs ≡ fs
all_noted_whole fs h = all_noted_is fs [] (omega arith) ∙ take_all 11 fs h
