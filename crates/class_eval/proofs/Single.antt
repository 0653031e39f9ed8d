-- A block that is one expression has the value of that.
use Rattle.std.proofs.Common.{◌≡◌, ℕ, List, [], ◌∷◌, Some, Result, Ok, Err, refl}
use Rattle.pp_tree.specs.Layers.{OperandLayer, StatementLayer}
use Rattle.pp_tree.specs.declared.collector.Test.TheOpen.{Operand-F, Statement-F}
use Rattle.pp_tree.specs.declared.expr.Expr.{Expr}
use Rattle.pp_tree.specs.declared.statement.Link.{Link}
use Rattle.pp_tree.specs.declared.statement.Operand.{Operand, out-Operand}
use Rattle.pp_tree.specs.declared.statement.Statement.{Statement, out-Statement}
use Rattle.pp_values.specs.Datum.{Datum, undef}
use Rattle.pp_values.specs.declared.fault.Stop.{Stop}
use Rattle.class_eval.specs.Single.{IsBlock, IsChain, IsOperand, IsStatement}
use Rattle.class_eval.specs.Statements.{block_rule, chain_rule, chained_by, operand_by, operand_rule, or_before, statement_by, statement_rule, statements_from, valued}
use Rattle.eval_world.specs.Inner.{Inner}
use Rattle.eval_world.specs.Outcomes.{Gives, Outcome, go_on, same}
use Rattle.eval_world.specs.declared.here.Here.{Here}
use Rattle.eval_world.specs.declared.world.World.{World}

-- a value that is the last one and the first
nothing_more : (p : Outcome Datum)
    → go_on (go_on p (λ v w. Ok (Some v, w))) (λ given w. Ok (or_before given undef, w)) ≡ p
nothing_more (Ok p) = refl
nothing_more (Err f) = refl

module _ (inner : Inner) (e : Expr) (here : Here) where
  of_operand : (o : OperandLayer) (line : ℕ) → IsOperand e o → operand_by inner o line here ≡ valued (inner.value e here)
  of_operand (Operand-F.Expr x) line is = rw is refl
  of_operand o line is = absurd is

  of_chain : (ls : List (Link Operand)) (first : Operand) (line : ℕ) → IsChain e ls first
      → chained_by inner first ls line here ≡ valued (inner.value e here)
  unfolding operand_rule
  of_chain [] first line is = of_operand (out-Operand first) line is
  of_chain (l ∷ ls) first line is = absurd is

  pub of_statement : (s : StatementLayer) → IsStatement e s → statement_by inner s here ≡ valued (inner.value e here)
  unfolding chain_rule
  of_statement (Statement-F.Chain c) is = of_chain c.links c.first c.at is
  of_statement (Statement-F.Words x) is = absurd is
  of_statement (Statement-F.Emit t) is = absurd is
  of_statement (Statement-F.EmitValue x) is = absurd is

  whole : (b : List Statement) (w : World) → IsBlock e b → block_rule inner b here w ≡ inner.value e here w
  unfolding statements_from statement_rule
  whole [] w is = absurd is
  whole (s ∷ []) w is = rw (of_statement (out-Statement s) is) (nothing_more (inner.value e here w))
  whole (s ∷ t ∷ ts) w is = absurd is

  pub of_block : (b : List Statement) (w : World) (r : Result Datum Stop) (new : World) → IsBlock e b
      → Gives same (inner.value e here w) r new → Gives same (block_rule inner b here w) r new
  of_block b w r new is gives = rw (whole b w is) gives
