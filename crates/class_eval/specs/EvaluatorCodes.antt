-- The code by which a proof tells evaluators apart, from those of the tables that their worlds have.
use Rattle.std.specs.Prelude.{ℕ, List, refl}
use Rattle.std.specs.Coded.{Coded, code_by, coded×, coded_list, coded_ℕ}
use Rattle.override_rules.specs.Codes.{coded_state}
use Rattle.override_rules.specs.Meaning.{State}
use Rattle.pp_values.specs.Codes.{coded_text}
use Rattle.res_book.specs.Relations.{Related, coded_related}
use Rattle.res_book.specs.contracts.row.Row as row
use Rattle.res_book.specs.declared.row.Row.{Row}
use Rattle.res_core.specs.contracts.log_line.LogLine as log_line
use Rattle.res_core.specs.declared.log_line.LogLine.{LogLine}
use Rattle.scope_core.specs.Scopes.{Scopes, coded_scopes}
use Rattle.eval_world.specs.Environment.{Environment, coded_environment}
use Rattle.eval_world.specs.Owners.{Owners, coded_owners}
use Rattle.eval_world.specs.declared.world.World.{World}
use Rattle.class_eval.specs.Evaluators.{Evaluation}

abbrev pub coded_world : Coded World
coded_world =
    code_by ((Environment × (Scopes × Owners)) × ((List Row × State) × (Related × (List LogLine × List ℕ))))
    (coded× (coded× coded_environment (coded× coded_scopes coded_owners))
    (coded× (coded× (coded_list row.the_row.coded) coded_state)
    (coded× coded_related (coded× (coded_list log_line.the_row.coded) coded_text))))
    (λ w. ((w.environment, (w.scopes, w.owners)), ((w.book, w.overrides), (w.relations, (w.log, w.rendered)))))
    (λ p. record {
      heap = tt;
      environment = p.0.0;
      scopes = p.0.1.0;
      owners = p.0.1.1;
      book = p.1.0.0;
      overrides = p.1.0.1;
      relations = p.1.1.0;
      log = p.1.1.1.0;
      rendered = p.1.1.1.1;
    })
    (λ _. refl)

abbrev pub coded_evaluation : Coded Evaluation
coded_evaluation =
    code_by (World × (List ℕ × ℕ)) (coded× coded_world (coded× coded_text coded_ℕ)) (λ e. (e.world, (e.node, e.looks)))
    (λ p. record { world = p.0; node = p.1.0; looks = p.1.1 }) (λ _. refl)
