-- The block of a collector, which is applied to what the collector takes.
use Rattle.std.specs.Prelude.{◌≡◌, ℕ, nat_lt, Bool, true, false, not, ◌&&◌, List, [], ◌∷◌, length, map, Option, None}
use Rattle.std.specs.Prelude.{Some, Result, Ok, Err, slice_get}
use Rattle.override_rules.specs.Lines as over
use Rattle.override_rules.specs.Meaning.{State, line_added}
use Rattle.override_rules.specs.declared.override_line.Right.TheVariants as right
use Rattle.pp_values.specs.Answers.{and_then, IsRefused, fault_told}
use Rattle.pp_values.specs.declared.fault.Fault.{Fault}
use Rattle.pp_values.specs.declared.fault.Stop.{Stop}
use Rattle.pp_values.specs.declared.reference.Reference.{Reference}
use Rattle.res_book.specs.Relations.{is_applied, with_applied}
use Rattle.res_book.specs.Rows.{reference_of}
use Rattle.res_book.specs.declared.collector.Collector.{Collector}
use Rattle.res_book.specs.declared.row.Row.{Row}
use Rattle.res_core.specs.Lines.{Line}
use Rattle.eval_world.specs.Outcomes.{Step, ◌>>=◌, ◌>>◌, pure}
use Rattle.eval_world.specs.Worlds.{with_overrides}
use Rattle.eval_world.specs.declared.world.World.{World}

-- ---- what a block says of a declaration

-- a line of a block may set and change anything
abbrev pub line_on : Reference → Line → over.Line
line_on q l = record {
  target = q;
  name = l.name;
  append = l.append;
  value = l.value;
  at = l.at;
  right = right.Any;
}

abbrev pub lines_on : Reference → List Line → List over.Line
lines_on q = map (line_on q)

-- a number of no collector, or of no declaration, stands for nothing that is said
abbrev pub said_by : Option Collector → Option Row → List over.Line
said_by None r = []
said_by (Some c) None = []
said_by (Some c) (Some r) = lines_on (reference_of r.declared) c.lines

abbrev pub said_at : World → ℕ → ℕ → List over.Line
said_at w c n = said_by (slice_get w.relations.collectors c) (slice_get w.book n)

-- ---- its lines are put behind all others

-- one after another, each tested as any line on what is declared: F10; F15 on an instance that was evaluated
unfoldable pub lines_added : List Row → List over.Line → State → Result (Unit {0} × State) Fault
lines_added book [] s = Ok (tt, s)
lines_added book (l ∷ ls) s = and_then (line_added book l s) (λ p. lines_added book ls p.1)

-- the call that puts them gives exactly this, unless memory ran out
abbrev pub Puts : Result (Unit {0} × State) Fault → Result (Unit {0}) Stop → State → Type 0
Puts meant (Ok u) new = meant ≡ Ok (tt, new)
Puts meant (Err e) new = IsRefused (fault_told e) meant

abbrev pub put_lines : List over.Line → Step (Unit {0})
put_lines ls = λ w. with_overrides (lines_added w.book ls w.overrides) w

-- ---- once

abbrev pub mark_applied : ℕ → ℕ → Step (Unit {0})
mark_applied c n = λ w. Ok (tt, record w { relations = with_applied c n w.relations })

unfoldable pub apply_block : ℕ → ℕ → List over.Line → Step Bool
apply_block c n ls = do
  mark_applied c n
  put_lines ls
  pure true

abbrev pub has_lines : Option Collector → Bool
has_lines None = false
has_lines (Some c) = nat_lt 0 (length c.lines)

-- there is a block, which was not applied before
abbrev pub is_due : World → ℕ → ℕ → Bool
is_due w c n = has_lines (slice_get w.relations.collectors c) && not (is_applied c n w.relations)

abbrev pub apply_if : Bool → ℕ → ℕ → List over.Line → Step Bool
apply_if true c n ls = apply_block c n ls
apply_if false c n ls = pure false

-- whether it is applied now
unfoldable pub block_applied : ℕ → ℕ → Step Bool
block_applied c n = λ w. apply_if (is_due w c n) c n (said_at w c n) w
