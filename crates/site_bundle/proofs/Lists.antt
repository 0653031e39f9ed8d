-- Bytes that are no JSON are no list of requests.
use Rattle.std.proofs.Common.{◌≡◌, ap, ◌∙◌, subst}
use Rattle.std.specs.Prelude.{Result, Ok, Err, codes}
use Rattle.serde_json.specs.Data.{Data}
use Rattle.site_bundle.specs.Bundles.{list_or}
use Rattle.site_bundle.specs.Refusals.{Refusal, not_json, bad_shape, Refuses, Tells}
use Rattle.site_bundle.specs.declared.bundle_stop.BundleStop.{BundleStop}
use Rattle.site_bundle.specs.declared.bundle_stop.BundleStop.TheVariants as stop

told_list : (s : BundleStop) (meant : Result Data Refusal) → meant ≡ Err not_json → Tells s (bad_shape (codes "requests")) →
    Refuses s (list_or meant)
told_list stop.NotJson meant is told = cc
told_list (stop.BadShape path) meant is told = ap list_or is ∙ ap Err told
told_list (stop.TooLarge path) meant is told = cc
told_list (stop.TreeFault path) meant is told = absurd told
told_list stop.Memory meant is told = tt

pub no_list : (s why : BundleStop) (meant : Result Data Refusal) → why ≡ stop.NotJson → Refuses why meant →
    Tells s (bad_shape (codes "requests")) → Refuses s (list_or meant)
no_list s why meant same refuses told = told_list s meant (subst (λ w. Refuses w meant) same refuses) told
