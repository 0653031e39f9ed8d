-- What was told so far, over what is left, is what all tell.
use Rattle.std.proofs.Common.{◌≡◌, Some, drop}
use Rattle.json_values.specs.FromData.{both}
use Rattle.hiera_config.specs.OptionTables.{over, told_all, told_view}
use Rattle.hiera_config.specs.ReachedFiles.{reached_views}
use Rattle.hiera_config.proofs.told_options.told_all.Given as goal

abbrev pub invariant-loop-one : goal.invariant-loop-one
invariant-loop-one l =
    both over (Some (told_view l.told)) (told_all l.key (reached_views (drop l.one-index l.there)))
    ≡ told_all l.key (reached_views l.there)
