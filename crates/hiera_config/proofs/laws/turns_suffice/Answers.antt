use Rattle.hiera_config.proofs.PieceLemmas.{turns_suffice}
use Rattle.hiera_config.proofs.laws.turns_suffice.Goals as goal

pub returns : goal.returns
returns c = record { pieces = turns_suffice }
