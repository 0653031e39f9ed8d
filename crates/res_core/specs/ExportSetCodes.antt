-- The code by which a proof tells export sets apart.
use Rattle.std.specs.Prelude.{List, refl}
use Rattle.std.specs.Coded.{Coded, code_by, coded_list}
use Rattle.res_core.specs.ExportedCodes.{coded_exported}
use Rattle.res_core.specs.declared.exported.Exported.{Exported}
use Rattle.res_core.specs.declared.export_set.ExportSet.{ExportSet}

abbrev pub coded_export_set : Coded ExportSet
coded_export_set =
    code_by (List Exported) (coded_list coded_exported) (λ s. s.items) (λ es. record { items = es }) (λ _. refl)
