-- From a search for a fixed point of a site to what is told of it.
use Rattle.std.proofs.Common.{◌≡◌, ◌∙◌, ap, subst, ℕ, List, ◌≤◌}
use Rattle.std.specs.Prelude.{Result, Ok, Err, IfOk}
use Rattle.compile_core.specs.Puppet.{puppet, listed}
use Rattle.history_tools.specs.Settles.{AreListed, Settles, SettledIsMeant}
use Rattle.history_tools.specs.declared.settle_end.SettleEnd.{SettleEnd}
use Rattle.history_tools.specs.declared.settle_end.SettleEnd.TheVariants as e
use Rattle.pp_values.specs.Settings.{setting_names}
use Rattle.pp_values.specs.declared.fault.Fault.{Fault}
use Rattle.pp_values.specs.declared.memory.Memory.{Memory}
use Rattle.site_bundle.specs.SiteView.{SiteView}
use Rattle.site_bundle.specs.declared.bundle.Bundle.{Bundle}
use Rattle.site_core.specs.Events.{Event}
use Rattle.site_core.specs.Resuming.{base_of}
use Rattle.site_core.specs.declared.history.TheConstants.{MOST_ENTRIES}
use Rattle.command_outputs.specs.Settling.{HasSettled, IsFixedAt, end_output, settled_text}
use Rattle.command_outputs.specs.declared.output.Output.{Output}

-- where it ended as settled, the site is a fixed point
fixed_at : (site : SiteView) (nodes : List (List ℕ)) (rounds run : ℕ) (end : SettleEnd Fault)
    (h : List (Event SiteView)) → SettledIsMeant puppet listed MOST_ENTRIES → AreListed listed site nodes →
    Settles puppet listed MOST_ENTRIES site nodes rounds run end h → IsFixedAt end site h
fixed_at site nodes rounds run e.Settled h law are did = law site nodes rounds run h are did
fixed_at site nodes rounds run (e.NotSettled node before after) h law are did = tt
fixed_at site nodes rounds run (e.Refused node k fault) h law are did = tt
fixed_at site nodes rounds run (e.Full most) h law are did = tt

module _ (rounds workers run : ℕ) (end : SettleEnd Fault) (h : List (Event SiteView)) (bundle : Bundle)
    (nodes : List (List ℕ)) (text : List ℕ) where
  pub if_settled : (made : Result Output Memory) → nodes ≡ setting_names bundle.site.nodes →
      AreListed listed bundle.site nodes → SettledIsMeant puppet listed MOST_ENTRIES →
      Settles puppet listed MOST_ENTRIES bundle.site nodes rounds run end h → base_of h ≤ workers →
      text ≡ settled_text h run → IfOk made (λ output. output ≡ end_output text end) →
      IfOk made (λ output. HasSettled rounds workers output bundle)
  if_settled (Ok output) names are law did few told is =
      record {
        run = run;
        end = end;
        history = h;
        settles = subst (λ all. Settles puppet listed MOST_ENTRIES bundle.site all rounds run end h) names did;
        authors = few;
        fixed = fixed_at bundle.site nodes rounds run end h law are did;
        is = is ∙ ap (λ t. end_output t end) told;
      }
  if_settled (Err memory) names are law did few told is = tt
