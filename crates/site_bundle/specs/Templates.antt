-- The templates among the files of a site that are no manifests.
use Rattle.std.specs.Prelude.{ℕ, ◌==◌, nat_eq, nat_lt, Bool, false, if◌then◌else◌, List, [], ◌∷◌, length, Option, None, Some}
use Rattle.std.specs.Prelude.{codes}
use Rattle.std.specs.BTreeMap.{insert_entry}
use Rattle.std.specs.List.{after_first, position_or_len, starts_with}
use Rattle.pp_values.specs.Rising.{text_cmp}
use Rattle.site_io.specs.Folders.{after_front}
use Rattle.site_bundle.specs.SiteView.{Filed}

abbrev pub is_slash : ℕ → Bool
is_slash b = b == 47

-- what stands behind a module's name begins with the folder of templates
abbrev pub is_in_templates : List ℕ → Bool
is_in_templates rest =
    if nat_lt (position_or_len is_slash rest) (length rest)
    then starts_with nat_eq (after_first is_slash rest) (codes "templates/")
    else false

abbrev pub is_in_modules : Option (List ℕ) → Bool
is_in_modules None = false
is_in_modules (Some rest) = is_in_templates rest

-- the file at this path may be named to `epp`
abbrev pub is_template_path : List ℕ → Bool
is_template_path path = is_in_modules (after_front (codes "modules/") path)

-- what is kept of templates: by its path, a path with its text
abbrev pub KeptTemplates : Type 0
KeptTemplates = List (List ℕ × Filed)

abbrev pub with_template : KeptTemplates → List ℕ → List ℕ → KeptTemplates
with_template kept path text = if is_template_path path then insert_entry text_cmp kept path (path, text) else kept

-- the templates among files, kept one after another
abbrev pub with_templates : KeptTemplates → List Filed → KeptTemplates
with_templates kept [] = kept
with_templates kept (f ∷ fs) = with_templates (with_template kept f.0 f.1) fs
