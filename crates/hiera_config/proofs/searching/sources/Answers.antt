use Rattle.std.proofs.Common.{option_map, refl, ap}
use Rattle.hiera_config.specs.Found.{source_views}
use Rattle.hiera_config.specs.Seen.{seen}
use Rattle.hiera_config.proofs.Meets.{after_ok, after_err, passes, gives, same_meets}
use Rattle.hiera_config.proofs.ReachLemmas.{sources_begun}
use Rattle.hiera_config.proofs.searching.sources.Goals as goal

pub returns-in_err-add_all : goal.returns-in_err-add_all
returns-in_err-add_all c =
    same_meets
    (sources_begun c.args.files.now c.args.key.now (seen c.args.variables.now)
    (option_map (λ m. m.now) c.args.module_name) _ _ c.in_ok-there.ensures.0
    (ap source_views c.new-found.ensures.items))
    (after_err _ c.in_err-add_all.ensures c.from_residual-in_err-add_all.ensures.1)

pub returns-in_err-add_default : goal.returns-in_err-add_default
returns-in_err-add_default c =
    same_meets
    (sources_begun c.args.files.now c.args.key.now (seen c.args.variables.now)
    (option_map (λ m. m.now) c.args.module_name) _ _ c.in_ok-there.ensures.0
    (ap source_views c.new-found.ensures.items))
    (after_ok _ c.in_ok-add_all.ensures
    (passes c.in_err-add_default.ensures c.from_residual-in_err-add_default.ensures.1))

pub returns : goal.returns
returns c =
    same_meets
    (sources_begun c.args.files.now c.args.key.now (seen c.args.variables.now)
    (option_map (λ m. m.now) c.args.module_name) _ _ c.in_ok-there.ensures.0
    (ap source_views c.new-found.ensures.items))
    (after_ok _ c.in_ok-add_all.ensures (gives (c.in_ok-add_default.ensures.ok _ refl)))
