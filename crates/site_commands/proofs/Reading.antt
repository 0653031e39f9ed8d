-- What was read, by the folder that is named.
use Rattle.std.proofs.Common.{◌≡◌, ℕ, List, ◌∷◌, [], ◌++◌, sym, subst}
use Rattle.std.specs.Prelude.{Result, Ok, Err, IfOk, codes}
use Rattle.command_outputs.specs.Lines.{line}
use Rattle.site_bundle.specs.Refusals.{stop_line}
use Rattle.site_bundle.specs.declared.bundle.Bundle.{Bundle}
use Rattle.site_bundle.specs.declared.bundle_stop.BundleStop.{BundleStop}
use Rattle.site_bundle.specs.declared.bundle_stop.BundleStop.TheVariants as b
use Rattle.site_io.specs.Folders.{Folder}
use Rattle.site_io.specs.Stream.{Stream}
use Rattle.site_commands.specs.Inputs as read
use Rattle.site_commands.specs.Inputs.{Reading, HasInput}
use Rattle.site_commands.specs.World.{Says}
use Rattle.site_commands.specs.declared.input.InputStop.{InputStop}

-- a folder is named by a copy of its path too
pub had_at : (had : Result Bundle InputStop) (dir other : List ℕ) (f f' : Folder) → other ≡ dir →
    IfOk had (λ said. (s : Stream) → HasInput (read.folder other) (read.site said) s s f f') →
    IfOk had (λ said. (s : Stream) → HasInput (read.folder dir) (read.site said) s s f f')
had_at had dir other f f' same did =
    subst (λ d. IfOk had (λ said. (s : Stream) → HasInput (read.folder d) (read.site said) s s f f')) same did

pub had_folder : (had : Result Bundle InputStop) (from : Reading) (dir : List ℕ) (s : Stream) (f f' : Folder) →
    from ≡ read.folder dir → IfOk had (λ said. (s : Stream) → HasInput (read.folder dir) (read.site said) s s f f') →
    IfOk had (λ said. HasInput from (read.site said) s s f f')
had_folder (Ok said) from dir s f f' is did = subst (λ x. HasInput x (read.site said) s s f f') (sym is) (did s)
had_folder (Err stop) from dir s f f' is did = did

pub had_source : (had : Result Bundle InputStop) (from : Reading) (s s' : Stream) (f : Folder) → from ≡ read.bundle →
    IfOk had (λ said. (f : Folder) → HasInput read.bundle (read.site said) s s' f f) →
    IfOk had (λ said. HasInput from (read.site said) s s' f f)
had_source (Ok said) from s s' f is did = subst (λ x. HasInput x (read.site said) s s' f f) (sym is) (did f)
had_source (Err stop) from s s' f is did = did

-- a fault of the tree is told by its path
pub told_tree : (stop : BundleStop) (path word : List ℕ) (s t : Stream) → stop ≡ b.TreeFault path → word ≡ path →
    Says (codes "tree fault " ++ (word ++ 10 ∷ [])) s t → Says (line (stop_line stop)) s t
told_tree stop path word s t is same said =
    subst (λ x. Says (line (stop_line x)) s t) (sym is)
    (subst (λ w. Says (codes "tree fault " ++ (w ++ 10 ∷ [])) s t) same said)
