-- Statements and blocks.
use Rattle.std.specs.Prelude.{ℕ, List, [], ◌∷◌, Option, Some, None}
use Rattle.pp_tree.specs.Layers.{OperandLayer, StatementLayer}
use Rattle.pp_tree.specs.declared.collector.Test.TheOpen.{Operand-F, Statement-F}
use Rattle.pp_tree.specs.declared.expr.Expr.{Expr}
use Rattle.pp_tree.specs.declared.statement.Chain.{Chain}
use Rattle.pp_tree.specs.declared.statement.Link.{Link}
use Rattle.pp_tree.specs.declared.statement.Operand.{Operand, out-Operand}
use Rattle.pp_tree.specs.declared.statement.Statement.{Statement, out-Statement}
use Rattle.pp_values.specs.Datum as d
use Rattle.pp_values.specs.Datum.{Datum}
use Rattle.pp_values.specs.TextOf.{text_of}
use Rattle.class_eval.specs.Chains.{links_rule}
use Rattle.eval_calls.specs.Templates.{begin, finish}
use Rattle.eval_collectors.specs.Collectors.{collector_rule}
use Rattle.eval_overrides.specs.DefaultStatements.{defaults_rule}
use Rattle.eval_overrides.specs.OverrideStatements.{override_rule}
use Rattle.eval_resources.specs.Resources.{resource_rule}
use Rattle.eval_world.specs.Inner.{Inner}
use Rattle.eval_world.specs.Outcomes.{Step, ◌>>=◌, ◌>>◌, pure}
use Rattle.eval_world.specs.Worlds.{emit}
use Rattle.eval_world.specs.declared.here.Here.{Here}

-- a statement that gives a value
abbrev pub valued : Step Datum → Step (Option Datum)
valued p = do
  v ← p
  pure (Some v)

-- a statement that gives none
abbrev pub unvalued : Step (Unit {0}) → Step (Option Datum)
unvalued p = do
  p
  pure None

-- An expression gives its value. All others give none.
abbrev pub operand_by : Inner → OperandLayer → ℕ → Here → Step (Option Datum)
operand_by inner (Operand-F.Expr e) line here = valued (inner.value e here)
operand_by inner (Operand-F.Resource r) line here = unvalued (resource_rule inner r here)
operand_by inner (Operand-F.Collector c) line here = unvalued (collector_rule inner c here)
operand_by inner (Operand-F.Override o) line here = unvalued (override_rule inner o here)
operand_by inner (Operand-F.Defaults o) line here = unvalued (defaults_rule inner o here)

unfoldable pub operand_rule : Inner → Operand → ℕ → Here → Step (Option Datum)
operand_rule inner o line here = operand_by inner (out-Operand o) line here

-- A chain with arrows gives no value.
abbrev pub chained_by : Inner → Operand → List (Link Operand) → ℕ → Here → Step (Option Datum)
chained_by inner first [] line here = operand_rule inner first line here
chained_by inner first (l ∷ ls) line here = unvalued (links_rule inner first (l ∷ ls) line here)

unfoldable pub chain_rule : Inner → Chain Operand → Here → Step (Option Datum)
chain_rule inner c here = chained_by inner c.first c.links c.at here

-- `<%= $a %>` in a template
abbrev pub emitted_value : Inner → Expr → Here → Step (Unit {0})
emitted_value inner e here = do
  v ← inner.value e here
  emit (text_of v)

-- What a template emits gives no value.
abbrev pub statement_by : Inner → StatementLayer → Here → Step (Option Datum)
statement_by inner (Statement-F.Chain c) here = chain_rule inner c here
statement_by inner (Statement-F.Words w) here = valued (inner.words w here)
statement_by inner (Statement-F.Emit t) here = unvalued (emit t)
statement_by inner (Statement-F.EmitValue e) here = unvalued (emitted_value inner e here)

unfoldable pub statement_rule : Inner → Statement → Here → Step (Option Datum)
statement_rule inner s here = statement_by inner (out-Statement s) here

abbrev pub or_before : Option Datum → Datum → Datum
or_before None before = before
or_before (Some v) before = v

-- the statements in order; the value is that of the last one that gives one
unfoldable pub statements_from : Inner → Datum → List Statement → Here → Step Datum
statements_from inner last [] here = pure last
statements_from inner last (s ∷ ss) here = do
  given ← statement_rule inner s here
  statements_from inner (or_before given last) ss here

abbrev pub block_rule : Inner → List Statement → Here → Step Datum
block_rule inner b here = statements_from inner d.undef b here

-- The text that statements emit: what was emitted before is put apart meanwhile. Their value is nobody's.
unfoldable pub emitted_rule : Inner → List Statement → Here → Step Datum
emitted_rule inner b own = do
  before ← begin
  block_rule inner b own
  finish before
