-- Whole runs of the definition, at worked examples. By the law of told runs each is the only one from its content.
use Rattle.std.proofs.Common.{◌≡◌, ℕ, true, false, not, List, [], ◌∷◌, Some, inl, refl, codes, arith}
use Rattle.std.specs.List.{All, list_all}
use Rattle.pp_values.specs.Datum.{flag, text}
use Rattle.pp_values.specs.Settings.{Setting}
use Rattle.rel_graph.specs.Before.{Direct}
use Rattle.rel_graph.specs.CatalogPairs.{containment, relations}
use Rattle.res_core.specs.Catalogs.{IsCatalog}
use Rattle.res_core.specs.NativeTypes.{native_of}
use Rattle.res_core.specs.declared.edge.Edge.{Edge}
use Rattle.res_core.specs.declared.held.Held.{Held}
use Rattle.res_core.specs.declared.native_type.NativeType.TheVariants as native
use Rattle.agent_machine.specs.Contents.{Content}
use Rattle.agent_machine.specs.States.{State, present, has, written}
use Rattle.agent_machine.specs.declared.report.Report.{Report}
use Rattle.agent_machine.specs.declared.status.Status.TheVariants as status
use Rattle.agent_transaction.proofs.FlatOrders.{second, found, same, none_before}
use Rattle.agent_transaction.proofs.FlatTurns.{held, main, file, service, content_of, edge, ref, catalog, content, line, had, skipped, had_is, calm_is, ordered}
use Rattle.agent_transaction.proofs.MadeTurns.{told, turn_made}
use Rattle.agent_transaction.proofs.SecondRunLemmas.{second_run_changes_nothing}
use Rattle.agent_transaction.specs.Catalogs.{IsRun}
use Rattle.agent_transaction.specs.Runs.{has_failed}
use Rattle.agent_transaction.specs.SecondRuns.{IsToldRun, unchanged_line}
use Rattle.agent_transaction.specs.Tasks.{ensure, task_of}
use Rattle.agent_transaction.specs.declared.task.Task.{Task}

abbrev pub running : List Setting
running = (ensure, text (codes "running")) ∷ []

abbrev pub ran : State
ran = (codes "Service[s]", running) ∷ []

-- ---- two files that a service subscribes to are written, and it is refreshed once

abbrev pub two_files : List Held
two_files =
    main ∷ file (codes "/a") (content_of (codes "x") ∷ []) ∷ file (codes "/b")
    (content_of (codes "y") ∷ []) ∷ service ∷ []

abbrev pub two_edges : List Edge
two_edges = edge 1 3 true ∷ edge 2 3 true ∷ []

abbrev pub task_a : Task
task_a = task_of native.File (file (codes "/a") (content_of (codes "x") ∷ [])).item

abbrev pub task_b : Task
task_b = task_of native.File (file (codes "/b") (content_of (codes "y") ∷ [])).item

abbrev pub task_s : Task
task_s = task_of native.Service service.item

abbrev pub both_written : State
both_written =
    (codes "File[/a]", content_of (codes "x") ∷ []) ∷ (codes "File[/b]", content_of (codes "y") ∷ []) ∷ ran

abbrev pub a_written : State
a_written = (codes "File[/a]", content_of (codes "x") ∷ []) ∷ ran

abbrev pub two_report : Report
two_report = record {
  node = codes "n";
  lines =
      line (ref (codes "file") (codes "/a")) status.Changed (codes "content" ∷ []) false
      ∷ line (ref (codes "file") (codes "/b")) status.Changed (codes "content" ∷ []) false
      ∷ line (ref (codes "service") (codes "s")) status.Unchanged [] true ∷ [];
}

refreshed_once : (g : ℕ) × IsRun (catalog two_files two_edges) two_report (told (content [] ran 0) 0)
    (told (content [] both_written 6) g)
unfolding has written native_of
refreshed_once =
    let a = had two_files two_edges [] 1 task_a (content [] ran 0) 0 in
    let f = (turn_made task_a false (content [] ran 0) 0).0 in
    let b = had two_files two_edges (a ∷ []) 2 task_b (content [] a_written 2) f in
    let g = (turn_made task_b false (content [] a_written 2) f).0 in
    let s = had two_files two_edges (a ∷ b ∷ []) 3 task_s (content [] both_written 4) g in (
      (turn_made task_s true (content [] both_written 4) g).0,
      record {
        order = 0 ∷ 1 ∷ 2 ∷ 3 ∷ [];
        ordered = ordered two_files two_edges refl 4 (0 ∷ 1 ∷ 2 ∷ 3 ∷ []) refl refl;
        node = refl;
        lines = record {
          turned = a ∷ b ∷ s ∷ [];
          whose = refl;
          told = refl;
          each = (
            refl,
            calm_is two_files two_edges refl [] 1 task_a (content [] ran 0) 0 refl,
            (
              refl,
              calm_is two_files two_edges refl (a ∷ []) 2 task_b (content [] a_written 2) f refl,
              (refl, calm_is two_files two_edges refl (a ∷ b ∷ []) 3 task_s (content [] both_written 4) g refl, refl),
            ),
          );
        };
      },
    )

-- the two files again, on a machine with that state: by the law of second runs nothing is done
two_kept : IsCatalog two_files two_edges
two_kept = record { apart = refl; contained = refl; forms = refl; between = refl; ordered = refl }

nothing_again : (second : Report) (found end : Content) → found.document.state ≡ both_written →
    IsToldRun (catalog two_files two_edges) second found end → list_all (λ l. not (has_failed l)) second.lines ≡ true →
    All (λ l. l ≡ unchanged_line l.item) second.lines × (end.document ≡ found.document)
nothing_again second found end same run none =
    second_run_changes_nothing (catalog two_files two_edges) two_report second (content [] ran 0)
    (content [] both_written 6)
    found end two_kept refl refl (record {
      before = told (content [] ran 0) 0;
      after = told (content [] both_written 6) refreshed_once.0;
      run = refreshed_once.1;
      finds = refl;
      leaves = refl;
    }) refl same run none

-- ---- a resource fails; what comes after it is skipped, and what does not has its turn

abbrev a_package : Held
a_package = held (codes "package") (codes "p") ((ensure, present) ∷ []) (0 ∷ [])

abbrev notify : Held
notify = held (codes "notify") (codes "n") [] (0 ∷ [])

abbrev mixed : List Held
mixed = main ∷ a_package ∷ held (codes "class") (codes "e") [] [] ∷ service ∷ notify ∷ []

abbrev mixed_edges : List Edge
mixed_edges = edge 1 2 false ∷ edge 2 3 true ∷ []

abbrev task_p : Task
task_p = task_of native.Package a_package.item

abbrev task_n : Task
task_n = task_of native.Notify notify.item

abbrev refused : List (List ℕ)
refused = codes "write Package[p] ensure" ∷ []

abbrev mixed_report : Report
mixed_report = record {
  node = codes "n";
  lines =
      record {
        item = ref (codes "package") (codes "p");
        status = status.Failed;
        changes = [];
        refreshed = false;
        fault = Some (codes "write ensure");
      }
      ∷ line (ref (codes "service") (codes "s")) status.Skipped [] false
      ∷ line (ref (codes "notify") (codes "n")) status.Changed (codes "run" ∷ []) false ∷ [];
}

skips_what_comes_after : (g : ℕ) × IsRun (catalog mixed mixed_edges) mixed_report (told (content refused [] 0) 0)
    (told (content refused [] 3) g)
unfolding has written native_of
skips_what_comes_after =
    let p = had mixed mixed_edges [] 1 task_p (content refused [] 0) 0 in
    let f = (turn_made task_p false (content refused [] 0) 0).0 in
    let s = skipped mixed mixed_edges 3 task_s (content refused [] 2) f in
    let n = had mixed mixed_edges (p ∷ s ∷ []) 4 task_n (content refused [] 2) f in (
      (turn_made task_n false (content refused [] 2) f).0,
      record {
        order = 0 ∷ 1 ∷ 2 ∷ 3 ∷ 4 ∷ [];
        ordered = ordered mixed mixed_edges refl 5 (0 ∷ 1 ∷ 2 ∷ 3 ∷ 4 ∷ []) refl refl;
        node = refl;
        lines = record {
          turned = p ∷ s ∷ n ∷ [];
          whose = refl;
          told = refl;
          each = (
            refl,
            calm_is mixed mixed_edges refl [] 1 task_p (content refused [] 0) 0 refl,
            (
              refl,
              inl ((p, (0, omega arith, refl), refl, (2 ∷ [], (one_two, two_three))), refl, refl),
              (
                refl,
                had_is mixed mixed_edges refl (p ∷ s ∷ []) 4 task_n (content refused [] 2) f
                    (λ r. none_before (containment mixed) (relations mixed_edges) refl 4 refl r.0.at r.3),
                refl,
              ),
            ),
          );
        };
      },
    ) where
      one_two : Direct (containment mixed) (relations mixed_edges) 1 2
      one_two = record { earlier = 1; later = 2; edge = (0, omega arith, refl); source = inl refl; target = inl refl }

      two_three : Direct (containment mixed) (relations mixed_edges) 2 3
      two_three = record { earlier = 2; later = 3; edge = (1, omega arith, refl); source = inl refl; target = inl refl }

-- ---- a file with `noop` is not written and does not signal

abbrev noop_file : Held
noop_file = file (codes "/a") (content_of (codes "x") ∷ (codes "noop", flag true) ∷ [])

abbrev noops : List Held
noops = main ∷ noop_file ∷ service ∷ []

abbrev noop_edges : List Edge
noop_edges = edge 1 2 true ∷ []

abbrev task_o : Task
task_o = task_of native.File noop_file.item

abbrev noop_report : Report
noop_report = record {
  node = codes "n";
  lines =
      line (ref (codes "file") (codes "/a")) status.Noop (codes "content" ∷ []) false
      ∷ line (ref (codes "service") (codes "s")) status.Unchanged [] false ∷ [];
}

noop_does_not_signal : (g : ℕ) × IsRun (catalog noops noop_edges) noop_report (told (content [] ran 0) 0)
    (told (content [] ran 2) g)
unfolding has written native_of
noop_does_not_signal =
    let o = had noops noop_edges [] 1 task_o (content [] ran 0) 0 in
    let f = (turn_made task_o false (content [] ran 0) 0).0 in
    let s = had noops noop_edges (o ∷ []) 2 task_s (content [] ran 1) f in (
      (turn_made task_s false (content [] ran 1) f).0,
      record {
        order = 0 ∷ 1 ∷ 2 ∷ [];
        ordered = ordered noops noop_edges refl 3 (0 ∷ 1 ∷ 2 ∷ []) refl refl;
        node = refl;
        lines = record {
          turned = o ∷ s ∷ [];
          whose = refl;
          told = refl;
          each = (
            refl,
            calm_is noops noop_edges refl [] 1 task_o (content [] ran 0) 0 refl,
            (refl, calm_is noops noop_edges refl (o ∷ []) 2 task_s (content [] ran 1) f refl, refl),
          );
        };
      },
    )
