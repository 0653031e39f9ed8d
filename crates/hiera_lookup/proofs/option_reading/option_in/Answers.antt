use Rattle.std.proofs.Common.{refl}
use Rattle.hiera_config.proofs.Meets.{gives}
use Rattle.hiera_lookup.specs.Options.{option_in}
use Rattle.hiera_lookup.proofs.option_reading.option_in.Goals as goal

pub returns-in-None : goal.returns-in-None
unfolding option_in
returns-in-None c = rw c.in-None.is (gives refl)

pub returns-in-Some : goal.returns-in-Some
unfolding option_in
returns-in-Some c = rw c.in-Some.is (rw c.member.ensures at c.of_options.ensures)
