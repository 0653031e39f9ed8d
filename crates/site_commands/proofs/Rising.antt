-- Statuses of faults of the outside come where its counts rose.
use Rattle.std.proofs.Common.{◌≡◌, ◌⊎◌, ℕ, Bool, true, false, List, [], ◌∷◌, ◌∙◌, subst, refl, inl, inr}
use Rattle.std.specs.Prelude.{Option, Result, Ok, Err, nat_lt}
use Rattle.std.specs.List.{count_by}
use Rattle.agent_docs.specs.ReportText.{has_changed, has_failed}
use Rattle.agent_machine.specs.Machines.{Told}
use Rattle.agent_machine.specs.declared.machine_doc.MachineDoc.{MachineDoc}
use Rattle.command_outputs.specs.Nodes.{NodeRefusal, node_meaning}
use Rattle.command_outputs.specs.declared.output.Output.{Output}
use Rattle.command_outputs.specs.declared.output.Output.TheVariants as o
use Rattle.compile_core.specs.Puppet.{puppet}
use Rattle.history_audit.specs.Audits.{audited}
use Rattle.res_core.specs.declared.catalog.Catalog.{Catalog}
use Rattle.site_bundle.specs.declared.bundle_stop.BundleStop.TheVariants as b
use Rattle.site_core.specs.Events.{opens}
use Rattle.site_io.specs.Folders.{Folder}
use Rattle.site_io.specs.Stream.{Stream, Rose}
use Rattle.site_io.specs.declared.transfer.ReadStop.TheVariants as r
use Rattle.site_words.specs.Asked as a
use Rattle.site_words.specs.Asked.{Asked}
use Rattle.site_commands.proofs.GoneOn.{on_net, on_sinks}
use Rattle.site_commands.proofs.Served.{served_net, served_sinks}
use Rattle.site_commands.specs.Applying.{ending_by, AppliesCatalog, AppliesMeant}
use Rattle.site_commands.proofs.Decoding.{ending_of, ending-is}
use Rattle.site_commands.specs.Endings.{Ends, HasEnded, HasStopped, HasWorked, Works}
use Rattle.site_commands.specs.Inputs.{Reading, nothing, manifest, bundle, folder, journal, resuming, Input, site, history, reading_of, HasStoppedBy, stop_ending}
use Rattle.site_commands.specs.Work.{Delivers}
use Rattle.site_commands.specs.World.{World}
use Rattle.site_commands.specs.declared.ending.Ending.{Ending}
use Rattle.site_commands.specs.declared.ending.Ending.TheVariants as e
use Rattle.site_commands.specs.declared.input.InputStop.{InputStop}
use Rattle.site_commands.specs.declared.input.InputStop.TheVariants as i

-- ---- the source

read_rose : (stop : InputStop) (from : Reading) (s s' : Stream) (f f' : Folder) → e.ReadFault ≡ stop_ending stop →
    HasStoppedBy stop from s s' f f' → Rose s.faults s'.faults
read_rose (i.Unread r.Fault) from s s' f f' is did = did.1.0.0
read_rose (i.Unread r.TooLong) from s s' f f' is did = cc
read_rose (i.Unread r.Memory) from s s' f f' is did = cc
read_rose (i.Refused b.NotJson) from s s' f f' is did = cc
read_rose (i.Refused (b.BadShape path)) from s s' f f' is did = cc
read_rose (i.Refused (b.TooLarge path)) from s s' f f' is did = cc
read_rose (i.Refused (b.TreeFault path)) from s s' f f' is did = cc
read_rose (i.Refused b.Memory) from s s' f f' is did = cc
read_rose (i.BadLine number) from s s' f f' is did = cc
read_rose i.TooManyEntries from s s' f f' is did = cc

-- ---- the tree

tree_rose : (stop : InputStop) (from : Reading) (s s' : Stream) (f f' : Folder) → e.TreeFault ≡ stop_ending stop →
    HasStoppedBy stop from s s' f f' → Rose f.faults f'.faults
tree_rose (i.Unread r.Fault) from s s' f f' is did = cc
tree_rose (i.Unread r.TooLong) from s s' f f' is did = cc
tree_rose (i.Unread r.Memory) from s s' f f' is did = cc
tree_rose (i.Refused b.NotJson) from s s' f f' is did = cc
tree_rose (i.Refused (b.BadShape path)) from s s' f f' is did = cc
tree_rose (i.Refused (b.TooLarge path)) from s s' f f' is did = cc
tree_rose (i.Refused (b.TreeFault path)) nothing s s' f f' is did = absurd did
tree_rose (i.Refused (b.TreeFault path)) manifest s s' f f' is did = absurd did
tree_rose (i.Refused (b.TreeFault path)) bundle s s' f f' is did = absurd did.0.refuses
tree_rose (i.Refused (b.TreeFault path)) (folder dir) s s' f f' is did = did.1.ends.1
tree_rose (i.Refused (b.TreeFault path)) journal s s' f f' is did = absurd did.0.wrong
tree_rose (i.Refused (b.TreeFault path)) resuming s s' f f' is did = absurd did.0.wrong.1
tree_rose (i.Refused b.Memory) from s s' f f' is did = cc
tree_rose (i.BadLine number) from s s' f f' is did = cc
tree_rose i.TooManyEntries from s s' f f' is did = cc

-- ---- out and err

SinkRose : World → World → Type 0
SinkRose before after = Rose before.out.faults after.out.faults ⊎ Rose before.err.faults after.err.faults

delivered_rose : (output : Output) (before after : World) →
    Delivers e.WriteFault output before.out after.out before.err after.err → SinkRose before after
unfolding SinkRose
delivered_rose (o.Done text) before after did = inl did.0.0
delivered_rose (o.Compiled log text) before after (inl did) = inr did.0.0
delivered_rose (o.Compiled log text) before after (inr did) = inl did.1.0
delivered_rose (o.Refused text) before after did = inl did.0.0
delivered_rose (o.Faulty text line) before after (inl did) = inl did.0.0
delivered_rose (o.Faulty text line) before after (inr did) = inr did.1.0
delivered_rose (o.Unsettled text line) before after (inl did) = inl did.0.0
delivered_rose (o.Unsettled text line) before after (inr did) = inr did.1.0
delivered_rose (o.Short text) before after did = inl did.0.0
delivered_rose (o.Fault text) before after did = inr did.0.0
delivered_rose (o.BadInput text) before after did = cc

catalog_rose : (by : Option ℕ) (catalog : Catalog) (document : MachineDoc) (before after : World) →
    AppliesCatalog e.WriteFault by catalog document before.out after.out before.err after.err before.machine
    after.machine →
    SinkRose before after
unfolding SinkRose
catalog_rose by catalog document before after (inl did) = inr did.0.0
catalog_rose by catalog document before after (inr did) = inl did.runs.ran.told.0.0

meant_rose : (by : Option ℕ) (node : List ℕ) (meant : Result Catalog NodeRefusal) (document : MachineDoc)
    (before after : World) →
    AppliesMeant by node meant document before.out after.out before.err after.err before.machine after.machine
    e.WriteFault →
    SinkRose before after
unfolding SinkRose
meant_rose by node (Ok catalog) document before after did = catalog_rose by catalog document before after did
meant_rose by node (Err refusal) document before after did = inr did.0.0

works_rose : (asked : Asked) (input : Input) (before after : World) → Works e.WriteFault asked input before after →
    SinkRose before after
unfolding SinkRose
works_rose (a.apply node dir by) (site said) before after did =
    meant_rose by node (node_meaning said.site node) said.machine before after did.0
works_rose (a.serve port count dir) (site said) before after did =
    served_sinks 0 (opens said.site ∷ []) count before.out after.out before.err after.err before.net after.net did.0
works_rose (a.serve_on port count) (history h) before after did =
    on_sinks (audited puppet h) h count before.out after.out before.err after.err before.net after.net did.0
works_rose asked input before after did = delivered_rose did.0.output before after did.0.written

-- ---- the net

delivered_no_net : (output : Output) (out out' err err' : Stream) → Delivers e.NetFault output out out' err err' → ⊥
delivered_no_net (o.Done text) out out' err err' did = cc did.0.0
delivered_no_net (o.Compiled log text) out out' err err' did = cc did.0
delivered_no_net (o.Refused text) out out' err err' did = cc did.0.0
delivered_no_net (o.Faulty text line) out out' err err' did = cc did.0
delivered_no_net (o.Unsettled text line) out out' err err' did = cc did.0
delivered_no_net (o.Short text) out out' err err' did = cc did.0
delivered_no_net (o.Fault text) out out' err err' did = cc did.0.0
delivered_no_net (o.BadInput text) out out' err err' did = cc did.0

report_no_net : (changed failed : Bool) → e.NetFault ≡ ending_by changed failed → ⊥
report_no_net false false is = cc
report_no_net true false is = cc
report_no_net false true is = cc
report_no_net true true is = cc

meant_no_net : (by : Option ℕ) (node : List ℕ) (meant : Result Catalog NodeRefusal) (document : MachineDoc)
    (out out' err err' : Stream)
    (m m' : Told) → AppliesMeant by node meant document out out' err err' m m' e.NetFault → ⊥
meant_no_net by node (Ok catalog) document out out' err err' m m' did =
    report_no_net (nat_lt 0 (count_by has_changed did.runs.ran.report.lines))
    (nat_lt 0 (count_by has_failed did.runs.ran.report.lines)) did.runs.ran.told.0
meant_no_net by node (Err refusal) document out out' err err' m m' did = cc did.0.0

NetRose : World → World → Type 0
NetRose before after = Rose before.net.faults after.net.faults

works_net : (asked : Asked) (input : Input) (before after : World) → Works e.NetFault asked input before after →
    NetRose before after
unfolding NetRose
works_net (a.serve port count dir) (site said) before after did =
    served_net 0 (opens said.site ∷ []) count before.out after.out before.err after.err before.net after.net did.0
works_net (a.serve_on port count) (history h) before after did =
    on_net (audited puppet h) h count before.out after.out before.err after.err before.net after.net did.0
works_net (a.apply node dir by) (site said) before after did =
    absurd (meant_no_net by node (node_meaning said.site node) said.machine _ _ _ _ _ _ did.0)
works_net asked input before after did = absurd (delivered_no_net did.0.output _ _ _ _ did.0.written)

-- ---- by the status

module _ (status : ℕ) (asked : Asked) (before after : World) (ended : HasEnded status asked before after) where
  ends_as : (n : ℕ) (ending : Ending) → status ≡ n → ending_of n ≡ ending → Ends ending asked before after
  ends_as n ending is same =
      subst (λ x. Ends x asked before after) (ending-is status ended.ending n ended.is is ∙ same) ended.ends

  pub ended-source : status ≡ 12 → Rose before.source.faults after.source.faults
  ended-source is =
      let stopped : HasStopped e.ReadFault asked before after = ends_as 12 e.ReadFault is refl in
      read_rose stopped.stop (reading_of asked) _ _ _ _ stopped.is stopped.read

  pub ended-tree : status ≡ 15 → Rose before.folder.faults after.folder.faults
  ended-tree is =
      let stopped : HasStopped e.TreeFault asked before after = ends_as 15 e.TreeFault is refl in
      tree_rose stopped.stop (reading_of asked) _ _ _ _ stopped.is stopped.read

  pub ended-sinks : status ≡ 13 → Rose before.out.faults after.out.faults ⊎ Rose before.err.faults after.err.faults
  unfolding SinkRose
  ended-sinks is =
      let worked : HasWorked e.WriteFault asked before after = ends_as 13 e.WriteFault is refl in
      works_rose asked worked.input before after worked.work

  pub ended-net : status ≡ 14 → Rose before.net.faults after.net.faults
  unfolding NetRose
  ended-net is =
      let worked : HasWorked e.NetFault asked before after = ends_as 14 e.NetFault is refl in
      works_net asked worked.input before after worked.work
