-- Sameness of states decides that they are equal, and so is an equivalence: the laws of `==`.
use Rattle.std.proofs.Common.{◌≡◌, ℕ, Decides, [], ◌∷◌, get_or, refl, sym, ap, ◌∙◌}
use Rattle.std.specs.Cmp.{IsEquivalence, IsPartialEquivalence, decided, partial_equiv_from_equiv, booleans_Decides}
use Rattle.std.specs.Cmp.Lexicographic.{bytes_decides}
use Rattle.std.proofs.lemmas.Bool.Decides.{Decides-eqb, Decides-like, Decides-and}
use Rattle.bus.specs.declared.panel.LineBits.{LineBits}
use Rattle.operands.specs.declared.state.Life.{Life}
use Rattle.operands.specs.declared.state.Life.TheVariants.{Running, Halted, Dead, Ended}
use Rattle.operands.specs.declared.state.Requests.{Requests}
use Rattle.operands.specs.declared.state.Processor.{Processor}
use Rattle.operands.specs.Sameness.{same_lines, same_requests, life_number, same_life, same_state}

lines_Decides : (a b : LineBits) → Decides (same_lines a b) (a ≡ b)
lines_Decides a b =
    Decides-like (same_lines a b) (λ h i. record { aclo = h.0 i; irq2 = h.1.0 i; irq3 = h.1.1.0 i; virq = h.1.1.1 i }) (λ e. (ap (λ (l : LineBits). l.aclo) e, (ap (λ (l : LineBits). l.irq2) e, (ap (λ (l : LineBits). l.irq3) e, ap (λ (l : LineBits). l.virq) e))))
    (Decides-and _ _ (booleans_Decides a.aclo b.aclo) (Decides-and _ _ (booleans_Decides a.irq2 b.irq2) (Decides-and _ _ (booleans_Decides a.irq3 b.irq3) (booleans_Decides a.virq b.virq))))

requests_Decides : (a b : Requests) → Decides (same_requests a b) (a ≡ b)
requests_Decides a b =
    Decides-like (same_requests a b) (λ h i. record { aclo = h.0 i; irq2 = h.1.0 i; irq3 = h.1.1 i }) (λ e. (ap (λ (l : Requests). l.aclo) e, (ap (λ (l : Requests). l.irq2) e, ap (λ (l : Requests). l.irq3) e)))
    (Decides-and _ _ (booleans_Decides a.aclo b.aclo) (Decides-and _ _ (booleans_Decides a.irq2 b.irq2) (booleans_Decides a.irq3 b.irq3)))

-- the life of a number
abbrev life_of : ℕ → Life
life_of n = get_or (Running ∷ Halted ∷ Dead ∷ []) n Ended

life_again : (a : Life) → life_of (life_number a) ≡ a
life_again Running = refl
life_again Halted = refl
life_again Dead = refl
life_again Ended = refl

life_back : (a b : Life) → life_number a ≡ life_number b → a ≡ b
life_back a b e = sym (life_again a) ∙ (ap life_of e ∙ life_again b)

life_Decides : (a b : Life) → Decides (same_life a b) (a ≡ b)
life_Decides a b = Decides-like (same_life a b) (life_back a b) (ap life_number) (Decides-eqb (life_number a) (life_number b))

pub same_state_Decides : (p q : Processor) → Decides (same_state p q) (p ≡ q)
unfolding same_state
same_state_Decides p q =
    Decides-like (same_state p q)
    (λ h i. record { registers = h.0 i; psw = h.1.0 i; lines = h.1.1.0 i; requests = h.1.1.1.0 i; trace = h.1.1.1.1.0 i; waiting = h.1.1.1.1.1.0 i; life = h.1.1.1.1.1.1 i })
    (λ e. (ap (λ (r : Processor). r.registers) e, (ap (λ (r : Processor). r.psw) e, (ap (λ (r : Processor). r.lines) e, (ap (λ (r : Processor). r.requests) e, (ap (λ (r : Processor). r.trace) e, (ap (λ (r : Processor). r.waiting) e, ap (λ (r : Processor). r.life) e)))))))
    (Decides-and _ _ (bytes_decides p.registers q.registers)
    (Decides-and _ _ (Decides-eqb p.psw q.psw)
    (Decides-and _ _ (lines_Decides p.lines q.lines)
    (Decides-and _ _ (requests_Decides p.requests q.requests)
    (Decides-and _ _ (booleans_Decides p.trace q.trace) (Decides-and _ _ (booleans_Decides p.waiting q.waiting) (life_Decides p.life q.life)))))))

pub same_state_equivalence : IsEquivalence same_state
same_state_equivalence = decided same_state same_state_Decides

pub same_state_chain : IsPartialEquivalence same_state
same_state_chain = partial_equiv_from_equiv same_state_equivalence
