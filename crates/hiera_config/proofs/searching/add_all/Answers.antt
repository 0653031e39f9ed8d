use Rattle.std.proofs.Common.{refl, sym, ap, ◌∙◌}
use Rattle.std.proofs.lemmas.List.{nil_from_length}
use Rattle.hiera_config.specs.ReachedFiles.{reached_views}
use Rattle.hiera_config.proofs.AddLemmas.{one_read, one_refused, rest_kept}
use Rattle.hiera_config.proofs.Meets.{after_err, gives, same_meets, turns_end}
use Rattle.hiera_config.proofs.searching.add_all.Goals as goal

pub loop-one-preserved : goal.loop-one-preserved
loop-one-preserved c =
    let split = c.in-Some.ensures.steps.0 in (
      one_read _ _ _ _ _ _ _ split (c.in_ok-add_one.ensures.ok _ refl) c.loop-one.invariant.0,
      rest_kept _ _ _ split c.loop-one.invariant.1,
    )

pub returns-in_err-add_one : goal.returns-in_err-add_one
returns-in_err-add_one c =
    same_meets (sym c.loop-one.invariant.0 ∙ one_refused _ _ _ _ _ c.in-Some.ensures.steps.0)
    (after_err _ c.in_err-add_one.ensures c.from_residual.ensures.1)

pub returns : goal.returns
returns c =
    gives (sym c.loop-one.invariant.0 ∙ turns_end _ _ _ (ap reached_views
    (nil_from_length _ (sym c.loop-one.one-iterator.rest.ok.0 ∙ c.in-None.ensures.steps.0))))
