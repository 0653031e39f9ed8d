-- Statements that are run for what they do.
use Rattle.std.specs.Prelude.{List, [], ◌∷◌}
use Rattle.pp_tree.specs.declared.statement.Statement.{Statement}
use Rattle.class_eval.specs.Statements.{statement_rule}
use Rattle.eval_world.specs.Inner.{Inner}
use Rattle.eval_world.specs.Outcomes.{Step, ◌>>=◌, ◌>>◌, pure}
use Rattle.eval_world.specs.declared.here.Here.{Here}

-- a step whose value nobody asks for
abbrev pub run : {A : Type 0} → Step A → Step (Unit {0})
run p = p >>= (λ _. pure tt)

-- statements in order, none of whose values is asked for
unfoldable pub run_from : Inner → List Statement → Here → Step (Unit {0})
run_from inner [] here = pure tt
run_from inner (s ∷ ss) here = do
  run (statement_rule inner s here)
  run_from inner ss here
