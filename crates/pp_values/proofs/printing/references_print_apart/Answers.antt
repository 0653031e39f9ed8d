use Rattle.pp_values.proofs.Printed.{printed_apart}
use Rattle.pp_values.proofs.printing.references_print_apart.Goals as goal

pub returns : goal.returns
returns c = printed_apart
