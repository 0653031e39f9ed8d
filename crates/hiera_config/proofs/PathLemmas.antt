-- Paths and folders, by the texts that the code has.
use Rattle.std.proofs.Common.{◌≡◌, ℕ, List, Some, ap, sym}
use Rattle.hiera_config.specs.Documents.{File}
use Rattle.hiera_config.specs.Meant.{go_on}
use Rattle.hiera_config.specs.Sources.{Source, config_in, module_folder, in_module_config, in_module}
use Rattle.hiera_config.specs.Variables.{Variables}

pub module_with : (files : List File) (key : List ℕ) (variables : Variables) (name : List ℕ) (found : List Source)
    (folder : List ℕ) → folder ≡ module_folder name
    → in_module files key variables (Some name) found
    ≡ go_on (config_in files folder) (in_module_config files key variables folder found)
unfolding in_module
module_with files key variables name found folder is =
    ap (λ f. go_on (config_in files f) (in_module_config files key variables f found)) (sym is)
