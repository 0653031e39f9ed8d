-- What is kept of each manifest is what its text is read as.
use Rattle.std.proofs.Common.{◌≡◌, ℕ, suc, arith, List, [], ◌∷◌, map, refl, ap, ◌∙◌}
use Rattle.pp_tree.specs.declared.manifest_file.ManifestFile.{ManifestFile}
use Rattle.site_bundle.specs.Listing.{filed, AreRead}
use Rattle.command_outputs.specs.Checks.{read_as}

pub reads_kept : (es : List (List ℕ × ManifestFile)) → AreRead es → map (λ e. e.1.read) es ≡ map read_as (filed es)
reads_kept [] h = refl
reads_kept (e ∷ es) h =
    ap (λ x. x ∷ map (λ e. e.1.read) es) (h 0 e (omega arith))
    ∙ ap (λ xs. read_as (e.0, e.1.text) ∷ xs) (reads_kept es (λ k d below. h (suc k) d (omega (arith, below))))
