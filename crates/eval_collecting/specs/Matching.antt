-- Which local declarations a collector takes, and what becomes of them.
use Rattle.std.specs.Prelude.{ℕ, Bool, true, false, not, ◌&&◌, ◌||◌, List, Option, None, Some, Ok, slice_get}
use Rattle.std.specs.Str.{bytes_eq}
use Rattle.collector_query.specs.Matches.{matches}
use Rattle.collector_query.specs.Reading.{reads_attributes as query_reads_attributes}
use Rattle.override_rules.specs.Meaning.{State}
use Rattle.override_rules.specs.Names.{attributes_of}
use Rattle.pp_values.specs.References.{same_reference}
use Rattle.pp_values.specs.Settings.{Setting}
use Rattle.pp_values.specs.declared.reference.Reference.{Reference}
use Rattle.res_book.specs.Rows.{is_live_at, with_mark}
use Rattle.res_book.specs.declared.collector.Collector.{Collector}
use Rattle.res_book.specs.declared.mode.Mode.{Mode}
use Rattle.res_book.specs.declared.mode.Mode.TheVariants as mode
use Rattle.res_book.specs.declared.row.Row.{Row}
use Rattle.res_core.specs.Criteria.{Criterion}
use Rattle.res_core.specs.declared.resource.Resource.{Resource}
use Rattle.eval_world.specs.Outcomes.{Step, ◌>>=◌, pure}
use Rattle.eval_world.specs.declared.world.World.{World}
use Rattle.eval_collecting.specs.Blocks.{block_applied}

-- `<<| |>>` takes exported declarations alone. What was imported is taken by none.
abbrev pub is_open : Bool → Mode → Bool
is_open exported mode.Plain = not exported
is_open exported mode.Virtual = not exported
is_open exported mode.Exported = true
is_open exported (mode.Imported node place) = false

abbrev pub reference_of : Resource → Reference
reference_of r = record { kind = r.kind; title = r.title }

abbrev pub named : Reference → Resource → Bool
named wanted r = same_reference wanted (reference_of r)

-- that of the function `realize` asks for one reference, each other what its query says
abbrev pub asks : Option Reference → Criterion → Resource → List Setting → Bool
asks (Some wanted) query r set = named wanted r
asks None query r set = matches query r.title r.tags set

-- whether that is asked for hangs on attributes
abbrev pub reads_attributes : Option Reference → Criterion → Bool
reads_attributes (Some wanted) query = false
reads_attributes None query = query_reads_attributes query

-- the one reference that a collector of the function `realize` asks for
abbrev pub realized_by : Option Collector → Option Reference
realized_by None = None
realized_by (Some c) = c.realized

abbrev pub realized : World → ℕ → Option Reference
realized w c = realized_by (slice_get w.relations.collectors c)

-- it is open to the collector and of its kind
abbrev pub may_take : Collector → Row → Bool
may_take c r = is_open c.exported r.mode && bytes_eq r.declared.item.kind c.kind

-- and asked for; a query sees the attributes as override lines and defaults leave them
unfoldable pub takes : State → Collector → Row → Bool
takes s c r = may_take c r && asks c.realized c.query r.declared.item (attributes_of s r)

-- a number of no collector and of no declaration stands for nothing that is taken
abbrev pub taken_by : State → Option Collector → Option Row → Bool
taken_by s None r = false
taken_by s (Some c) None = false
taken_by s (Some c) (Some r) = takes s c r

abbrev pub takes_at : World → ℕ → ℕ → Bool
takes_at w c n = taken_by w.overrides (slice_get w.relations.collectors c) (slice_get w.book n)

-- ---- what becomes of it

-- it is marked: whether that makes it live
abbrev pub mark : ℕ → Step Bool
mark n = λ w. Ok (not (is_live_at w.book n), record w { book = with_mark n w.book })

-- Behind the mark comes the collector's block. Something was added where the declaration came to life, or where the
-- block was applied to it.
unfoldable pub take : ℕ → ℕ → Step Bool
take c n = do
  came_to_life ← mark n
  applied ← block_applied c n
  pure (came_to_life || applied)

abbrev pub take_if : Bool → ℕ → ℕ → Step Bool
take_if true c n = take c n
take_if false c n = pure false

unfoldable pub local_match : ℕ → ℕ → Step Bool
local_match c n = λ w. take_if (takes_at w c n) c n w
