-- The table is the one of the definition.
use Rattle.pp_funcs.specs.Names.{function_of}
use Rattle.pp_funcs.proofs.function.Function.from_name.Goals as goal

pub returns : goal.returns
unfolding function_of
returns c = c.named.ensures
