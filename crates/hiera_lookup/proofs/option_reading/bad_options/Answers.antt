use Rattle.std.proofs.Common.{Err, sym, ap, ◌∙◌}
use Rattle.pp_values.specs.declared.fault.What.TheVariants as what
use Rattle.hiera_config.proofs.Meets.{after_ok, after_err, refuses}
use Rattle.hiera_config.specs.Found.{source_views}
use Rattle.hiera_lookup.specs.Options.{bad_options, highest_path}
use Rattle.hiera_lookup.specs.World.{seen}
use Rattle.hiera_lookup.proofs.option_reading.bad_options.Goals as goal

pub returns-in_err-sources : goal.returns-in_err-sources
unfolding bad_options
returns-in_err-sources c = after_err _ c.in_err-sources.ensures c.from_residual.ensures.1

pub returns : goal.returns
unfolding bad_options
returns c =
    after_ok _ c.in_ok-sources.ensures
    (refuses _ _ c.bad_data.ensures
    (ap (λ p. Err (what.BadData p))
    (sym (c.in_ok-path.ensures ∙ ap
    (λ xs. highest_path (seen c.args.world.now) c.args.answers.now c.args.root.now (source_views xs))
    c.deref.ensures.value))))
