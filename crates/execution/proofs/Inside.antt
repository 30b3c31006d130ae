-- Courses on registers alone stay inside the processor.
use Rattle.std.proofs.Common.{◌≡◌, ℕ, true, Some, None, Option, sym, refl, ap, ◌∙◌, subst}
use Rattle.std.proofs.lemmas.Bool.{and_parts}
use Rattle.isa.specs.declared.operand.Register.{Register}
use Rattle.isa.specs.declared.operand.Operand.{Operand}
use Rattle.isa.specs.declared.operand.Operand.TheVariants.{Direct, Deferred, Increment, IncrementDeferred, Decrement, DecrementDeferred, Index, IndexDeferred}
use Rattle.isa.specs.declared.instruction.Size.{Size}
use Rattle.isa.specs.declared.instruction.Size.TheVariants.{Word, Byte}
use Rattle.isa.specs.declared.instruction.DoubleOperation.{DoubleOperation}
use Rattle.isa.specs.declared.instruction.DoubleOperation.TheVariants.{Mov, Cmp, Bit, Bic, Bis}
use Rattle.isa.specs.declared.instruction.Instruction.{Instruction}
use Rattle.isa.specs.declared.instruction.Instruction.TheVariants as word
use Rattle.bus.specs.Courses.{Act, done, bind}
use Rattle.bus.specs.Feeds.{onto, feed}
use Rattle.bus.proofs.Requests.{no_bool}
use Rattle.arithmetic.specs.declared.outcome.Outcome.{Outcome}
use Rattle.operands.specs.declared.state.Processor.{Processor}
use Rattle.operands.specs.declared.operand.Location.TheVariants.{InRegister}
use Rattle.operands.specs.Operands.{locates, takes, gives}
use Rattle.execution.specs.declared.change.Change.{Change}
use Rattle.execution.specs.declared.change.Sum.{Sum}
use Rattle.execution.specs.declared.change.Reach.{Reach}
use Rattle.execution.specs.declared.change.Reach.TheVariants.{LowHalf, Whole}
use Rattle.execution.specs.Changes.{size, written, puts, concludes, alters, changes, overwrites, reads, combines, doubles, sums, loads_status}
use Rattle.execution.specs.Executes.{executes}
use Rattle.execution.specs.Laws.{direct, in_registers, StaysInside}

inside_done : {X : Type 0} (x : X) → StaysInside (done x)
inside_done x = record { ends = λ m v t. (x, refl) }

inside_bind : {X Y : Type 0} {p : Act X} {f : X → Act Y} → StaysInside p → ((y : X) → StaysInside (f y)) → StaysInside (bind p f)
inside_bind {f = f} h k =
    record {
      ends = λ m v t.
          let a = h.ends m v t in
          let b = (k a.0).ends m v t in
          (b.0, ap (λ z. onto (λ y. feed (f y)) z.0 z.1 z.2 z.3) a.1 ∙ b.1);
    }

inside_option : {X Y : Type 0} {p : Act Y} {f : X → Act Y} → StaysInside p → ((x : X) → StaysInside (f x)) → (o : Option X) → StaysInside (elim o [ None ↦ p | Some x ↦ f x ])
inside_option h k None = h
inside_option h k (Some x) = k x

inside_takes : (s : Size) (r : Register) (p : Processor) → StaysInside (takes s (InRegister r) p)
unfolding takes
inside_takes Word r p = inside_done _
inside_takes Byte r p = inside_done _

inside_gives : (s : Size) (r : Register) (v : ℕ) (p : Processor) → StaysInside (gives s (InRegister r) v p)
unfolding gives
inside_gives Word r v p = inside_done _
inside_gives Byte r v p = inside_done _

inside_written : {course : Act (Option Unit × Processor)} → StaysInside course → StaysInside (written course)
inside_written h = inside_bind h (λ z. inside_option (inside_done _) (λ u. inside_done _) z.0)

inside_puts : (reach : Reach) (s : Size) (r : Register) (v : ℕ) (p : Processor) → StaysInside (puts reach s (InRegister r) v p)
unfolding puts
inside_puts Whole Byte r v p = inside_done _
inside_puts Whole Word r v p = inside_written (inside_gives Word r v p)
inside_puts LowHalf s r v p = inside_written (inside_gives s r v p)

inside_concludes : (reach : Reach) (s : Size) (r : Register) (o : Outcome) (p : Processor) → StaysInside (concludes reach s (InRegister r) o p)
unfolding concludes
inside_concludes reach s r o p = inside_option (inside_done _) (λ v. inside_puts reach s r v _) o.value

inside_alters : (c : Change) (r : Register) (p : Processor) → StaysInside (alters c (InRegister r) p)
unfolding alters
inside_alters c r p = inside_bind (inside_takes (size c) r p) (λ v. inside_option (inside_done _) (λ d. inside_concludes LowHalf _ r _ p) v)

-- an operand of mode 0 is a register
is_direct : (d : Operand) → direct d ≡ true → (r : Register) × (d ≡ Direct r)
is_direct (Direct r) h = (r, refl)
is_direct (Deferred r) h = no_bool (sym h)
is_direct (Increment r) h = no_bool (sym h)
is_direct (IncrementDeferred r) h = no_bool (sym h)
is_direct (Decrement r) h = no_bool (sym h)
is_direct (DecrementDeferred r) h = no_bool (sym h)
is_direct (Index r) h = no_bool (sym h)
is_direct (IndexDeferred r) h = no_bool (sym h)

register_changes : (c : Change) (r : Register) (p : Processor) → StaysInside (changes c (Direct r) p)
unfolding changes locates
register_changes c r p = record { ends = λ m v t. (inside_alters c r p).ends m v t }

inside_changes : (c : Change) (d : Operand) → direct d ≡ true → (p : Processor) → StaysInside (changes c d p)
inside_changes c d h p = let e = is_direct d h in subst (λ d. StaysInside (changes c d p)) (sym e.1) (register_changes c e.0 p)

register_overwrites : (s : Size) (o : Outcome) (r : Register) (p : Processor) → StaysInside (overwrites s o (Direct r) p)
unfolding overwrites locates
register_overwrites s o r p = record { ends = λ m v t. (inside_concludes Whole s r o p).ends m v t }

inside_overwrites : (s : Size) (o : Outcome) (d : Operand) → direct d ≡ true → (p : Processor) → StaysInside (overwrites s o d p)
inside_overwrites s o d h p = let e = is_direct d h in subst (λ d. StaysInside (overwrites s o d p)) (sym e.1) (register_overwrites s o e.0 p)

register_reads : (s : Size) (r : Register) (p : Processor) → StaysInside (reads s (Direct r) p)
unfolding reads locates
register_reads s r p = record { ends = λ m v t. (inside_bind {f = λ x. done (x, p)} (inside_takes s r p) (λ x. inside_done _)).ends m v t }

inside_reads : (s : Size) (x : Operand) → direct x ≡ true → (p : Processor) → StaysInside (reads s x p)
inside_reads s x h p = let e = is_direct x h in subst (λ x. StaysInside (reads s x p)) (sym e.1) (register_reads s e.0 p)

inside_combines : (o : DoubleOperation) (s : Size) (x : ℕ) (d : Operand) → direct d ≡ true → (p : Processor) → StaysInside (combines o s x d p)
inside_combines Mov s x d h p = inside_overwrites s _ d h p
inside_combines Cmp s x d h p = inside_changes _ d h p
inside_combines Bit s x d h p = inside_changes _ d h p
inside_combines Bic s x d h p = inside_changes _ d h p
inside_combines Bis s x d h p = inside_changes _ d h p

inside_doubles : (o : DoubleOperation) (s : Size) (x d : Operand) → direct x ≡ true → direct d ≡ true → (p : Processor) → StaysInside (doubles o s x d p)
unfolding doubles
inside_doubles o s x d h k p = inside_bind (inside_reads s x h p) (λ z. inside_option (inside_done _) (λ v. inside_combines o s v d k z.1) z.0)

inside_sums : (o : Sum) (x d : Operand) → direct x ≡ true → direct d ≡ true → (p : Processor) → StaysInside (sums o x d p)
unfolding sums
inside_sums o x d h k p = inside_bind (inside_reads Word x h p) (λ z. inside_option (inside_done _) (λ v. inside_changes _ d k z.1) z.0)

inside_loads_status : (x : Operand) → direct x ≡ true → (p : Processor) → StaysInside (loads_status x p)
unfolding loads_status
inside_loads_status x h p = inside_bind (inside_reads Byte x h p) (λ z. inside_option (inside_done _) (λ v. inside_done _) z.0)

pub inside_executes : (i : Instruction) → in_registers i ≡ true → (p : Processor) → StaysInside (executes i p)
unfolding executes
inside_executes (word.Control c) h p = no_bool (sym h)
inside_executes (word.Jump d) h p = no_bool (sym h)
inside_executes (word.Return r) h p = no_bool (sym h)
inside_executes (word.Flags change mask) h p = inside_done _
inside_executes (word.SwapBytes d) h p = inside_changes _ d h p
inside_executes (word.Branch c offset) h p = inside_done _
inside_executes (word.Call r d) h p = no_bool (sym h)
inside_executes (word.Single s o d) h p = inside_changes _ d h p
inside_executes (word.Mark n) h p = no_bool (sym h)
inside_executes (word.SignExtend d) h p = inside_changes _ d h p
inside_executes (word.ToStatus x) h p = inside_loads_status x h p
inside_executes (word.FromStatus d) h p = inside_overwrites Byte _ d h p
inside_executes (word.Double s o x d) h p = let k = and_parts (direct x) (direct d) h in inside_doubles o s x d k.0 k.1 p
inside_executes (word.Add x d) h p = let k = and_parts (direct x) (direct d) h in inside_sums _ x d k.0 k.1 p
inside_executes (word.Subtract x d) h p = let k = and_parts (direct x) (direct d) h in inside_sums _ x d k.0 k.1 p
inside_executes (word.ExclusiveOr r d) h p = inside_changes _ d h p
inside_executes (word.Loop r n) h p = inside_done _
inside_executes (word.Emulate n) h p = inside_done _
inside_executes (word.Trap n) h p = inside_done _
inside_executes (word.Reserved w) h p = inside_done _
