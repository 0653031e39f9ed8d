-- A block that is one expression and nothing more.
use Rattle.std.specs.Prelude.{◌≡◌, List, [], ◌∷◌}
use Rattle.pp_tree.specs.Layers.{OperandLayer, StatementLayer}
use Rattle.pp_tree.specs.declared.collector.Test.TheOpen.{Operand-F, Statement-F}
use Rattle.pp_tree.specs.declared.expr.Expr.{Expr}
use Rattle.pp_tree.specs.declared.statement.Link.{Link}
use Rattle.pp_tree.specs.declared.statement.Operand.{Operand, out-Operand}
use Rattle.pp_tree.specs.declared.statement.Statement.{Statement, out-Statement}

abbrev pub IsOperand : Expr → OperandLayer → Type 0
IsOperand e (Operand-F.Expr x) = x ≡ e
IsOperand e _ = ⊥

abbrev pub IsChain : Expr → List (Link Operand) → Operand → Type 0
IsChain e [] first = IsOperand e (out-Operand first)
IsChain e (l ∷ ls) first = ⊥

abbrev pub IsStatement : Expr → StatementLayer → Type 0
IsStatement e (Statement-F.Chain c) = IsChain e c.links c.first
IsStatement e (Statement-F.Words w) = ⊥
IsStatement e (Statement-F.Emit t) = ⊥
IsStatement e (Statement-F.EmitValue x) = ⊥

abbrev pub IsBlock : Expr → List Statement → Type 0
IsBlock e (s ∷ []) = IsStatement e (out-Statement s)
IsBlock e _ = ⊥
