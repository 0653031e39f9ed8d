use Rattle.hiera_config.proofs.OptionLemmas.{lent_option}
use Rattle.hiera_config.proofs.option_table.OptionTable.get.Goals as goal

pub returns : goal.returns
returns c = lent_option c.get.result _ c.get.ensures.value
