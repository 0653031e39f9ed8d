use Rattle.std.proofs.Common.{Ok, option_map, sym, ap}
use Rattle.pp_values.specs.Views.{view}
use Rattle.hiera_config.specs.Seen.{seen}
use Rattle.hiera_config.proofs.Meets.{after_ok, after_err, gives}
use Rattle.hiera_config.proofs.SoundLemmas.{is_highest}
use Rattle.hiera_config.proofs.highest.highest_value.Goals as goal

pub returns-in_ok-highest_of-in-Some : goal.returns-in_ok-highest_of-in-Some
returns-in_ok-highest_of-in-Some c =
    gives (is_highest c.args.files.now c.args.key.now (seen c.args.variables.now)
    (option_map (λ m. m.now) c.args.module_name) c.in-Some.global.now c.in-Some.environment.now
    (option_map view c.in_ok-highest_of-in-Some.field-0) c.in-Some.ensures.plans c.in-Some.ensures.module
    c.in_ok-highest_of-in-Some.ensures)

pub returns-in_err-sources-in-None : goal.returns-in_err-sources-in-None
returns-in_err-sources-in-None c = after_err _ c.in_err-sources-in-None.ensures c.from_residual-in_err-sources-in-None.ensures.1

pub returns-in_ok-sources-in-None : goal.returns-in_ok-sources-in-None
returns-in_ok-sources-in-None c =
    after_ok _ c.in_ok-sources-in-None.ensures (gives (ap Ok (sym c.first_value.ensures)))
