-- The code by which a proof tells catalogs apart.
use Rattle.std.specs.Prelude.{ℕ, List, refl}
use Rattle.std.specs.Coded.{Coded, code_by, coded×, coded_list}
use Rattle.pp_values.specs.Codes.{coded_text}
use Rattle.res_core.specs.Catalogs.{Catalog}
use Rattle.res_core.specs.contracts.edge.Edge as edge
use Rattle.res_core.specs.contracts.held.Held as held
use Rattle.res_core.specs.contracts.log_line.LogLine as log_line
use Rattle.res_core.specs.declared.edge.Edge.{Edge}
use Rattle.res_core.specs.declared.held.Held.{Held}
use Rattle.res_core.specs.declared.log_line.LogLine.{LogLine}

abbrev pub coded_catalog : Coded Catalog
coded_catalog =
    code_by ((List ℕ × List Held) × (List Edge × List LogLine))
    (coded× (coded× coded_text (coded_list held.the_row.coded))
    (coded× (coded_list edge.the_row.coded) (coded_list log_line.the_row.coded)))
    (λ c. ((c.node, c.resources), (c.edges, c.log)))
    (λ p. record { node = p.0.0; resources = p.0.1; edges = p.1.0; log = p.1.1 }) (λ _. refl)
