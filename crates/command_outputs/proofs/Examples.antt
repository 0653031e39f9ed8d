-- What inputs give, on examples.
use Rattle.std.proofs.Common.{◌≡◌, ℕ, List, [], ◌∷◌, ◌++◌, length, pos, refl, ap, ◌∙◌}
use Rattle.std.specs.Fmt.{digits}
use Rattle.std.specs.FinMap as fin
use Rattle.std.specs.Prelude.{Result, Ok, Err, codes}
use Rattle.pp_tree.specs.declared.file.File.{File}
use Rattle.pp_values.specs.Datum as d
use Rattle.pp_values.specs.declared.fault.Fault.{Fault}
use Rattle.pp_values.specs.declared.fault.What.TheVariants.{Failed, LookupMissing, Syntax}
use Rattle.pp_values.specs.declared.place.TheConstants.{MAIN_MANIFEST}
use Rattle.res_core.specs.declared.catalog.Catalog.{Catalog}
use Rattle.res_core.specs.declared.held.Held.{Held}
use Rattle.history_audit.specs.declared.verdict.Part.TheVariants as part
use Rattle.history_audit.specs.declared.verdict.Verdict.TheVariants as v
use Rattle.site_bundle.specs.SiteView.{SiteView}
use Rattle.site_core.specs.declared.reply.ReplyOf.TheVariants as r
use Rattle.serde_json.proofs.OnLiterals.{serde_json_on_literals}
use Rattle.site_docs.specs.CatalogText.{catalog_text}
use Rattle.site_docs.specs.FaultText.{plain_line, fault_text}
use Rattle.site_docs.specs.LogText.{log_text}
use Rattle.compile_core.specs.Puppet.{puppet}
use Rattle.command_outputs.specs.Checks.{count_line, fault_lines, faults_among, read_as}
use Rattle.command_outputs.specs.Demo.{demo_name, demo_ip, demo_facts, demo_nodes, demo_site, demo_request, once_each, demo_requests, held_in_all, summary_lines, summary_text, served_in_all}
use Rattle.command_outputs.specs.Journals.{verdict_output, migrated_output}
use Rattle.command_outputs.specs.Lines.{line}
use Rattle.command_outputs.specs.Nodes.{unknown, faulty, catalog_made, node_meaning}
use Rattle.command_outputs.specs.Outputs.{checked_by, checked_output, compiled_output, node_output, output_meant, output_of, value_output}
use Rattle.command_outputs.specs.Statuses.{check_status, compile_status, output_status}
use Rattle.command_outputs.specs.declared.demo_site.TheConstants.{DEMO_MANIFEST}
use Rattle.command_outputs.specs.declared.output.Output.{Output}
use Rattle.command_outputs.specs.declared.output.Output.TheVariants as a

-- ---- manifests and nodes

-- a catalog comes with the log of its compile, and a fault with none
abbrev logged : Catalog
logged = record {
  node = codes "a";
  resources = [];
  edges = [];
  log = record { level = codes "notice"; text = codes "b" } ∷ record { level = codes "err"; text = codes "c" } ∷ [];
}

abbrev failed : Fault
failed = record { at = record { file = codes "m.pp"; line = 7 }; what = Failed (codes "d") }

outputs : (output_meant (Ok (logged, record { items = [] })) ≡
    a.Compiled (codes "notice: b" ++ 10 ∷ codes "err: c" ++ 10 ∷ []) (line (catalog_text logged)))
    × (output_meant (Err failed) ≡ a.Fault (codes "F25 m.pp:7 Failed d" ++ 10 ∷ []))
unfolding log_text fault_text plain_line digits
outputs = (refl, refl)

-- the same of a node that is listed, and a line for one that is not
nodes : (node_output (codes "a") (Ok logged) ≡
    a.Compiled (codes "notice: b" ++ 10 ∷ codes "err: c" ++ 10 ∷ []) (line (catalog_text logged)))
    × (node_output (codes "a") (Err (faulty failed)) ≡ a.Fault (codes "F25 m.pp:7 Failed d" ++ 10 ∷ []))
    × (node_output (codes "z") (Err unknown) ≡ a.Fault (codes "unknown node z" ++ 10 ∷ []))
unfolding log_text fault_text plain_line digits
nodes = (refl, refl, refl)

-- a site that lists the one node `a`, with one fact
abbrev listing : SiteView
listing = record {
  manifests = (MAIN_MANIFEST.now, []) ∷ [];
  «data» = [];
  nodes = (codes "a", d.hash (d.entry (d.text (codes "b")) (d.int (pos 1)) d.no_entries)) ∷ [];
}

-- a node is compiled with the facts that are listed for it, and with no exported resources; any other node is unknown
asked_nodes : (node_meaning listing (codes "a") ≡ catalog_made (puppet listing (codes "a")
    (d.hash (d.entry (d.text (codes "b")) (d.int (pos 1)) d.no_entries)) fin.empty))
    × (node_meaning listing (codes "z") ≡ Err unknown)
    × (node_meaning listing [] ≡ Err unknown)
    × (compiled_output listing (codes "z") ≡ a.Fault (codes "unknown node z" ++ 10 ∷ []))
    × (compile_status listing (codes "z") ≡ 1)
unfolding node_meaning
asked_nodes = (refl, refl, refl, refl, refl)

-- ---- checks

abbrev faulted : Fault
faulted = record { at = record { file = MAIN_MANIFEST.now; line = 1 }; what = Syntax }

-- each manifest that has a fault is told, in their order
told : (file : File) → (faults_among (Err faulted ∷ Ok file ∷ Err failed ∷ []) ≡ faulted ∷ failed ∷ [])
    × (faults_among (Ok file ∷ Ok file ∷ []) ≡ [])
    × (fault_lines (faulted ∷ failed ∷ []) ≡
    codes "F1 manifests/site.pp:1 Syntax" ++ 10 ∷ codes "F25 m.pp:7 Failed d" ++ 10 ∷ [])
unfolding faults_among fault_lines fault_text plain_line digits
told file = (refl, refl, refl)

counts : (count_line 2 1 ≡ codes "files 2 faults 1" ++ 10 ∷ [])
    × (count_line 1 0 ≡ codes "files 1 faults 0" ++ 10 ∷ [])
    × (count_line 120 13 ≡ codes "files 120 faults 13" ++ 10 ∷ [])
unfolding count_line digits
counts = (refl, refl, refl)

-- a main manifest and one of a module
abbrev two_files : List ℕ → List ℕ → SiteView
two_files main module_file = record {
  manifests = (MAIN_MANIFEST.now, main) ∷ (codes "modules/m/manifests/init.pp", module_file) ∷ [];
  «data» = [];
  nodes = [];
}

-- what a check gives by what two manifests are read as
checked_two : (main other : Result File Fault) → Output
checked_two main other =
    checked_by (faults_among (main ∷ other ∷ []))
    (fault_lines (faults_among (main ∷ other ∷ [])) ++ count_line 2 (length (faults_among (main ∷ other ∷ []))))

by_reads : (main other : List ℕ) → checked_output (two_files main other) ≡
    checked_two (read_as (MAIN_MANIFEST.now, main)) (read_as (codes "modules/m/manifests/init.pp", other))
unfolding checked_two
by_reads main other = refl

-- one of the two has a fault
one_faulty : (file : File) → checked_two (Err faulted) (Ok file) ≡
    a.Refused (codes "F1 manifests/site.pp:1 Syntax" ++ 10 ∷ codes "files 2 faults 1" ++ 10 ∷ [])
unfolding checked_two faults_among fault_lines count_line fault_text plain_line digits
one_faulty file = refl

none_faulty : (one other : File) → checked_two (Ok one) (Ok other) ≡ a.Done (codes "files 2 faults 0" ++ 10 ∷ [])
unfolding checked_two faults_among fault_lines count_line digits
none_faulty one other = refl

-- so that is what a check writes of such a site, and its status is 1
checked : (main other : List ℕ) (file : File) → read_as (MAIN_MANIFEST.now, main) ≡ Err faulted →
    read_as (codes "modules/m/manifests/init.pp", other) ≡ Ok file →
    (checked_output (two_files main other) ≡
    a.Refused (codes "F1 manifests/site.pp:1 Syntax" ++ 10 ∷ codes "files 2 faults 1" ++ 10 ∷ []))
    × (check_status (two_files main other) ≡ 1)
checked main other file bad good =
    let told = by_reads main other ∙ ap (λ x. checked_two x (read_as (codes "modules/m/manifests/init.pp", other))) bad
    ∙ ap (checked_two (Err faulted)) good ∙ one_faulty file in
    (told, ap output_status told)

-- ---- look-ups

-- what was looked up is written on one line, and a fault where there is none
looked_up : (value_output (Ok (d.text (codes "xy"))) ≡ a.Done (codes "\"xy\"" ++ 10 ∷ []))
    × (value_output (Err (record { at = record { file = codes "lookup"; line = 1 }; what = LookupMissing (codes "zz") })) ≡
    a.Fault (codes "F20 lookup:1 LookupMissing zz" ++ 10 ∷ []))
unfolding fault_text plain_line digits serde_json_on_literals
looked_up = (refl, refl)

-- ---- replies

-- what a reply tells of counts for the whole output: want of memory before a refusal
abbrev served_and : r.the_data ℕ (List ℕ) → List (r.the_data ℕ (List ℕ))
served_and reply = r.Served 1 1 5 ∷ reply ∷ []

refusals : (output_of (served_and (r.Refused 2 (codes "bad"))) (codes "x") ≡ a.Refused (codes "x"))
    × (output_of (served_and (r.HistoryFull 2)) (codes "x") ≡ a.Refused (codes "x"))
    × (output_of (served_and (r.SeenAhead 2)) (codes "x") ≡ a.Refused (codes "x"))
    × (output_of (served_and (r.UnknownNode 2)) (codes "x") ≡ a.Refused (codes "x"))
    × (output_of (served_and (r.Deactivated 2)) (codes "x") ≡ a.Done (codes "x"))
    × (output_of (served_and (r.Deployed 2)) (codes "x") ≡ a.Done (codes "x"))
    × (output_of (served_and (r.Reported 2)) (codes "x") ≡ a.Done (codes "x"))
    × (output_of (served_and r.Memory) (codes "x") ≡ a.Short (codes "x"))
    × (output_of (r.UnknownNode 1 ∷ served_and r.Memory) (codes "x") ≡ a.Short (codes "x"))
refusals = (refl, refl, refl, refl, refl, refl, refl, refl, refl)

-- ---- journals

-- a history that isn't legal is a refusal
verdicts : (verdict_output (v.Legal 6) ≡ a.Done (codes "legal 6\n"))
    × (verdict_output (v.Broken 2 part.Set) ≡ a.Refused (codes "entry 2 set\n"))
    × (output_status (verdict_output (v.Legal 6)) ≡ 0)
    × (output_status (verdict_output (v.Broken 0 part.Call)) ≡ 1)
    × (output_status (migrated_output []) ≡ 0)
unfolding digits
verdicts = (refl, refl, refl, refl, refl)

-- ---- the demo

-- the demo site of two nodes, each asked for twice
two_nodes : demo_site 2 ≡ record {
  manifests = (MAIN_MANIFEST.now, DEMO_MANIFEST.now) ∷ [];
  «data» = [];
  nodes = (
    codes "n0",
    d.hash (d.entry (d.text (codes "group")) (d.int (pos 0))
        (d.entry (d.text (codes "ip")) (d.text (codes "10.0.0.0")) d.no_entries)),
  ) ∷ (
    codes "n1",
    d.hash (d.entry (d.text (codes "group")) (d.int (pos 1))
        (d.entry (d.text (codes "ip")) (d.text (codes "10.0.0.1")) d.no_entries)),
  ) ∷ [];
}
unfolding demo_nodes digits
two_nodes = refl

asked_twice : demo_requests 2 ≡ demo_request 0 ∷ demo_request 1 ∷ demo_request 0 ∷ demo_request 1 ∷ []
unfolding once_each
asked_twice = refl

-- groups and addresses go on behind the sixteenth node and the 256th
later_nodes : (demo_facts 17 ≡ d.hash (d.entry (d.text (codes "group")) (d.int (pos 1))
    (d.entry (d.text (codes "ip")) (d.text (codes "10.0.0.17")) d.no_entries)))
    × (demo_ip 4095 ≡ codes "10.0.15.255")
    × (demo_name 4095 ≡ codes "n4095")
unfolding digits
later_nodes = (refl, refl, refl)

manifest_is : DEMO_MANIFEST.now ≡ codes "node default { @@host { $trusted['certname']: ip => $facts['ip'], tag => \"g${facts['group']}\" } Host <<| tag == \"g${facts['group']}\" |>> }\n"
manifest_is = refl

abbrev held : List ℕ → Held
held title = record { item = record { kind = codes "host"; title = title; attributes = []; tags = [] }; inside = [] }

-- a catalog of two resources
abbrev two : Catalog
two = record { node = codes "a"; resources = held (codes "x") ∷ held (codes "y") ∷ []; edges = []; log = [] }

-- a catalog's resources count once for each time that it was served
counted : summary_text {F = List ℕ} 2 (r.Served 1 1 two ∷ r.Refused 2 (codes "bad") ∷ r.Served 2 2 two ∷ []) []
    ≡ codes "nodes 2\nserved 2\nresources 4\nentries 0\n"
unfolding summary_lines held_in_all served_in_all digits
counted = refl
