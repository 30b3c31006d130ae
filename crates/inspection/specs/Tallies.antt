-- How many records there are of each kind.
use Rattle.std.specs.Prelude.{ℕ, ◌+◌, ◌-◌, ◌^◌, min, cond, ◌==◌}
use Rattle.capture.specs.Records.{Plain}
use Rattle.inspection.specs.declared.totals.Totals.{Totals}

-- one more, up to the largest count
abbrev pub more : ℕ → ℕ
more n = min (n + 1) (2 ^ 32 - 1)

-- one more where it is the kind
abbrev pub one_more : ℕ → ℕ → ℕ → ℕ
one_more kind k n = cond (kind == k) (more n) n

-- the totals with one record more
abbrev pub counted : Plain → Totals → Totals
counted p t =
    record {
      reads = one_more p.kind 1 t.reads;
      writes = one_more p.kind 2 t.writes;
      byte_writes = one_more p.kind 3 t.byte_writes;
      lines = one_more p.kind 4 t.lines;
      vectors = one_more p.kind 5 t.vectors;
      inits = one_more p.kind 6 t.inits;
      timed_out = cond (p.mark == 0) (more t.timed_out) t.timed_out;
    }
