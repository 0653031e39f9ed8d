-- The metaparameters that relate resources.
use Rattle.std.specs.Prelude.{ℕ, Bool, true, false, if◌then◌else◌, List, [], ◌∷◌, codes}
use Rattle.std.specs.List.{list_any}
use Rattle.pp_values.specs.Settings.{Setting}
use Rattle.res_core.specs.Metaparameters.{is_relation_name}
use Rattle.catalog_finish.specs.EdgeTables.{Entry, joined}
use Rattle.catalog_finish.specs.declared.relating.Metaparameter.{Metaparameter}
use Rattle.catalog_finish.specs.declared.relating.Metaparameter.TheVariants as parameter

abbrev pub name_of : Metaparameter → List ℕ
name_of parameter.Before = codes "before"
name_of parameter.Require = codes "require"
name_of parameter.Notify = codes "notify"
name_of parameter.Subscribe = codes "subscribe"

-- its resource comes before the others
abbrev pub goes_before : Metaparameter → Bool
goes_before parameter.Before = true
goes_before parameter.Require = false
goes_before parameter.Notify = true
goes_before parameter.Subscribe = false

-- what comes later is refreshed where what comes first has changed
abbrev pub does_signal : Metaparameter → Bool
does_signal parameter.Before = false
does_signal parameter.Require = false
does_signal parameter.Notify = true
does_signal parameter.Subscribe = true

-- some of these attributes relates its resource to others
abbrev pub does_relate : List Setting → Bool
does_relate ss = list_any (λ s. is_relation_name s.0) ss

abbrev pub joined_by : Metaparameter → ℕ → List ℕ → List Entry → List Entry
joined_by m i others es =
    if goes_before m then joined es (i ∷ []) others (does_signal m) else joined es others (i ∷ []) (does_signal m)
