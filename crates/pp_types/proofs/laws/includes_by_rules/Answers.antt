use Rattle.std.proofs.Common.{suc, arith}
use Rattle.pp_types.proofs.Fuel.{enough, includes-rules, only_includes}
use Rattle.pp_types.proofs.laws.includes_by_rules.Goals as goal

pub returns-clause-rules : goal.returns-clause-rules
returns-clause-rules c = includes-rules

pub returns-clause-only : goal.returns-clause-only
returns-clause-only c = only_includes

pub returns-clause-enough : goal.returns-clause-enough
returns-clause-enough c k w n lt = enough k (suc k) w n lt (omega arith)
