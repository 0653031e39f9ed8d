-- Collectors: `File <| tag == 'a' |> { mode => '0644' }`, and the function `realize` of one reference.
use Rattle.std.specs.Prelude.{ℕ, Bool, true, false, if◌then◌else◌, List, [], Option, None, Some, Ok, codes}
use Rattle.std.specs.Str.{bytes_eq}
use Rattle.pp_tree.specs.Names.{normal}
use Rattle.pp_tree.specs.declared.collector.Collector as tree
use Rattle.pp_tree.specs.declared.collector.Query.{Query}
use Rattle.pp_values.specs.Kinds.{kind_of}
use Rattle.pp_values.specs.declared.fault.Subject.TheVariants as subject
use Rattle.pp_values.specs.declared.fault.What.TheVariants as what
use Rattle.pp_values.specs.declared.reference.Reference.{Reference}
use Rattle.res_book.specs.Relations.{with_collector}
use Rattle.res_book.specs.declared.collector.Collector.{Collector}
use Rattle.res_core.specs.Criteria.{Criterion, all}
use Rattle.res_core.specs.Lines.{Line}
use Rattle.attribute_lines.specs.Reading.{lines_from}
use Rattle.eval_collectors.specs.Queries.{query_levels, query_within}
use Rattle.eval_world.specs.Inner.{Inner}
use Rattle.eval_world.specs.Outcomes.{Step, ◌>>=◌, pure}
use Rattle.eval_world.specs.Worlds.{fault, place_at}
use Rattle.eval_world.specs.declared.here.Here.{Here}
use Rattle.eval_world.specs.declared.world.World.{World}

-- ---- what is registered

-- behind the collectors that are there
unfoldable pub register : Collector → Step (Unit {0})
register c = λ w. Ok (tt, record w { relations = with_collector c w.relations })

-- ---- the statement

-- without a query all are asked for
abbrev pub asked : Inner → Option Query → ℕ → Here → Step Criterion
asked inner None line here = pure all
asked inner (Some q) line here = query_within query_levels inner line q here

-- Classes are not collected: F26. Any other kind is, whether the site has it or not; where a tree has one that no text
-- of the grammar has, that is F1.
abbrev pub kind_by : Option (List ℕ) → ℕ → Here → Step (List ℕ)
kind_by None line here = fault here line what.Syntax
kind_by (Some kind) line here =
    if bytes_eq kind (codes "class") then fault here line (what.ClassVirtual (subject.Kind kind)) else pure kind

unfoldable pub kind_rule : List ℕ → ℕ → Here → Step (List ℕ)
kind_rule written line here = kind_by (kind_of (normal written)) line here

-- that of a statement which begins at this line
abbrev pub of_kind : List ℕ → Criterion → List Line → Bool → ℕ → Here → World → Collector
of_kind kind query lines exported line here w = record {
  kind = kind;
  query = query;
  at = place_at w here line;
  owner = here.owner;
  exported = exported;
  lines = lines;
  realized = None;
}

unfoldable pub register_kind : List ℕ → Criterion → List Line → Bool → ℕ → Here → Step (Unit {0})
register_kind kind query lines exported line here = λ w.
    register (of_kind kind query lines exported line here w) w

-- The query is evaluated once, and then the lines of the block. Nothing is taken yet.
unfoldable pub collector_rule : Inner → tree.Collector → Here → Step (Unit {0})
collector_rule inner c here = do
  query ← asked inner (tree.out-Collector c).query (tree.out-Collector c).at here
  lines ← lines_from inner [] (tree.out-Collector c).attributes here
  kind ← kind_rule (tree.out-Collector c).kind (tree.out-Collector c).at here
  register_kind kind query lines (tree.out-Collector c).exported (tree.out-Collector c).at here

-- ---- the function

-- that of the one resource of this reference
abbrev pub of_reference : Reference → ℕ → Here → World → Collector
of_reference r line here w = record {
  kind = r.kind;
  query = all;
  at = place_at w here line;
  owner = here.owner;
  exported = false;
  lines = [];
  realized = Some r;
}

unfoldable pub register_reference : Reference → ℕ → Here → Step (Unit {0})
register_reference r line here = λ w. register (of_reference r line here w) w

-- that of a class is F26
unfoldable pub realize_rule : Reference → ℕ → Here → Step (Unit {0})
realize_rule r line here =
    if bytes_eq r.kind (codes "class") then fault here line (what.ClassVirtual (subject.Reference r))
    else register_reference r line here
