-- What comes of a search for a fixed point of a site.
use Rattle.std.specs.Prelude.{◌≡◌, ℕ, ◌≤◌, List, ◌++◌, length, codes, decimal, Option, None, Some, IsSomeAnd}
use Rattle.std.specs.Prelude.{option_map}
use Rattle.std.specs.Arc.{arc_value}
use Rattle.std.specs.FinMap as fin
use Rattle.compile_core.specs.Puppet.{puppet, listed}
use Rattle.history_tools.specs.Settles.{Settles}
use Rattle.history_tools.specs.declared.settle_end.SettleEnd.{SettleEnd}
use Rattle.history_tools.specs.declared.settle_end.SettleEnd.TheVariants as e
use Rattle.pp_values.specs.Datum.{Datum}
use Rattle.pp_values.specs.Settings.{setting_names}
use Rattle.pp_values.specs.declared.fault.Fault.{Fault}
use Rattle.res_core.specs.declared.export_set.ExportSet.{ExportSet}
use Rattle.site_bundle.specs.SiteView.{SiteView}
use Rattle.site_bundle.specs.declared.bundle.Bundle.{Bundle}
use Rattle.site_core.specs.Events.{Event}
use Rattle.site_core.specs.Meaning.{HasExports}
use Rattle.site_core.specs.Resuming.{base_of}
use Rattle.site_core.specs.Sets.{sets_at}
use Rattle.site_core.specs.declared.history.TheConstants.{MOST_ENTRIES}
use Rattle.site_docs.specs.FaultText.{fault_text}
use Rattle.site_docs.specs.JournalText.{journal_text, set_text}
use Rattle.command_outputs.specs.Lines.{line}
use Rattle.command_outputs.specs.declared.output.Output.{Output}
use Rattle.command_outputs.specs.declared.output.Output.TheVariants as a

-- a node that published nothing has no set
abbrev pub set_or_none : Option ExportSet → List ℕ
set_or_none None = codes "none"
set_or_none (Some set) = set_text set

-- the journal, and how many rounds were run
abbrev pub rounds_line : ℕ → List ℕ
rounds_line run = line (codes "rounds " ++ decimal run)

abbrev pub settled_text : List (Event SiteView) → ℕ → List ℕ
settled_text history run = journal_text history ++ rounds_line run

-- `not settled NODE BEFORE AFTER`, with the sets that the node had
abbrev pub sets_line : (node before after : List ℕ) → List ℕ
sets_line node before after =
    line (codes "not settled " ++ (node ++ (codes " " ++ (before ++ (codes " " ++ after)))))

abbrev pub unsettled_line : List ℕ → Option ExportSet → ExportSet → List ℕ
unsettled_line node before after = sets_line node (set_or_none before) (set_text after)

abbrev pub full_line : ℕ → List ℕ
full_line most = line (codes "full " ++ decimal most)

-- by how the search ended
abbrev pub end_output : List ℕ → SettleEnd Fault → Output
end_output text e.Settled = a.Done text
end_output text (e.NotSettled node before after) =
    a.Unsettled text (unsettled_line node (option_map arc_value before) (arc_value after))
end_output text (e.Refused node k fault) = a.Faulty text (line (fault_text fault))
end_output text (e.Full most) = a.Faulty text (full_line most)

-- each node that the site lists has the set that is exported by what the site means for it, by its listed facts and
-- among the sets that there are behind all entries
abbrev pub AreMeant : SiteView → List (Event SiteView) → Type 0
AreMeant site h =
    (node : List ℕ) (facts : Datum) → listed site node ≡ Some facts →
    IsSomeAnd (fin.get (sets_at h (length h)) node)
    (λ set. HasExports (puppet site node facts (sets_at h (length h))) set)

-- a site that has settled is a fixed point
abbrev pub IsFixedAt : SettleEnd Fault → SiteView → List (Event SiteView) → Type 0
IsFixedAt e.Settled site h = AreMeant site h
IsFixedAt (e.NotSettled node before after) site h = Unit {0}
IsFixedAt (e.Refused node k fault) site h = Unit {0}
IsFixedAt (e.Full most) site h = Unit {0}

-- `settle`: so many rounds were run of those that are allowed, in each of which every node that the site of the bundle
-- lists was compiled, and the search ended so. The output is the text of the history, and what tells of the end.
pub record HasSettled (rounds workers : ℕ) (output : Output) (bundle : Bundle) : Type 0 where
  pub run : ℕ
  pub end : SettleEnd Fault
  pub history : List (Event SiteView)
  pub settles :
      Settles puppet listed MOST_ENTRIES bundle.site (setting_names bundle.site.nodes) rounds run end history
  -- the workers are the authors, in all rounds the same
  pub authors : base_of history ≤ workers
  pub fixed : IsFixedAt end bundle.site history
  pub is : output ≡ end_output (settled_text history run) end
