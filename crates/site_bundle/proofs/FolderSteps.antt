-- The bundle of what was read of a folder.
use Rattle.std.proofs.Common.{◌≡◌, ℕ, List, Result, Ok, Err, subst}
use Rattle.std.specs.Prelude.{IsErrAnd}
use Rattle.site_io.specs.Folders.{Folder, folder_front}
use Rattle.site_bundle.specs.declared.bundle.Bundle.{Bundle}
use Rattle.site_bundle.specs.declared.bundle_stop.BundleStop.{BundleStop}
use Rattle.site_bundle.specs.declared.gathered.Gathered.{Gathered}
use Rattle.site_bundle.specs.Refusals.{Reads}
use Rattle.site_bundle.specs.Walks.{Goes, walk_then, walk_of}
use Rattle.site_bundle.specs.FolderSites.{files_walk, bundle_with, site_walk}
use Rattle.site_bundle.proofs.WalkSteps.{leads_start, leads_next, leads_end, goes_stop, goes_exit, goes_reading}

pub site_stopped : {before after : Folder} (folder front : List ℕ) (r : Result Bundle BundleStop) (s : BundleStop) →
    front ≡ folder_front folder → IsErrAnd r (λ t. t ≡ s) →
    Goes (λ (g : Gathered). g) (Err s) (files_walk front) before after →
    Goes (λ (b : Bundle). b) r (site_walk folder) before after
unfolding site_walk
site_stopped {before} {after} folder front r s is exits goes =
    subst (λ f. Goes (λ (b : Bundle). b) r (walk_then (λ g. walk_of (bundle_with g)) (files_walk f)) before after) is
    (goes_exit (λ (b : Bundle). b) r s _ exits
    (goes_stop (λ (g : Gathered). g) (λ (b : Bundle). b) (λ g. walk_of (bundle_with g)) (files_walk front) s goes))

pub site_found : {before after : Folder} (folder front : List ℕ) (g : Gathered) (r : Result Bundle BundleStop) →
    front ≡ folder_front folder → Goes (λ (g : Gathered). g) (Ok g) (files_walk front) before after →
    Reads r (bundle_with g) → Goes (λ (b : Bundle). b) r (site_walk folder) before after
unfolding site_walk
site_found {before} {after} folder front g r is goes reads =
    subst (λ f. Goes (λ (b : Bundle). b) r (walk_then (λ g. walk_of (bundle_with g)) (files_walk f)) before after) is
    (leads_end (λ (b : Bundle). b) r _ _
    (leads_next (λ g. walk_of (bundle_with g)) (files_walk front) g (leads_start before _) goes.ends goes.same)
    (goes_reading after (λ (b : Bundle). b) r (bundle_with g) reads))
