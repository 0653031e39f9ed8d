-- Whole runs by waves, at worked examples.
use Rattle.std.proofs.Common.{◌≡◌, ℕ, zero, suc, ◌+◌, ◌<◌, ◌≤◌, Bool, true, false, not, List, [], ◌∷◌, refl, codes, arith}
use Rattle.std.specs.List.{list_all}
use Rattle.std.proofs.lemmas.List.Elements.{All-from_recursion}
use Rattle.pp_values.specs.declared.reference.Reference.{Reference}
use Rattle.rel_graph.specs.CatalogPairs.{containment, relations}
use Rattle.res_core.specs.NativeTypes.{native_of}
use Rattle.res_core.specs.declared.edge.Edge.{Edge}
use Rattle.res_core.specs.declared.held.Held.{Held}
use Rattle.res_core.specs.declared.native_type.NativeType.TheVariants as native
use Rattle.agent_machine.specs.Contents.{Content}
use Rattle.agent_machine.specs.Parts.{part_content, content_back, TakesBack}
use Rattle.agent_machine.specs.States.{has, written}
use Rattle.agent_machine.specs.declared.report.Report.{Report}
use Rattle.agent_machine.specs.declared.status.Status.TheVariants as status
use Rattle.agent_transaction.proofs.FlatTurns.{held, main, edge, ref, catalog, content, line, Comes, Signals, had, calm_is, ordered}
use Rattle.agent_transaction.proofs.FlatOrders.{is_flat}
use Rattle.agent_transaction.proofs.MadeTurns.{told, turn_made}
use Rattle.agent_transaction.proofs.RunExamples.{ran, a_written, two_files, two_edges, task_a, task_b, task_s, both_written, two_report}
use Rattle.agent_transaction.specs.Runs.{Turned, has_failed, signalling, tasks_at}
use Rattle.agent_transaction.specs.Tasks.{creates_of, task_of}
use Rattle.agent_transaction.specs.ToldTurns.{turn}
use Rattle.agent_transaction.specs.declared.task.Task.{Task}
use Rattle.wide_apply.proofs.FlatWaves.{numbering_made}
use Rattle.wide_apply.specs.WideCatalogs.{IsWideRun}
use Rattle.wide_apply.specs.WideRuns.{IsTurnedApart}

-- the part of a machine with this content for a task
abbrev part_for : Task → Content → Content
part_for task c = part_content task.what (creates_of task.work) c

-- the part comes back with this content, and at least as many faults are counted as on either
came_back : (what : Reference) (d c : Content) (g f h : ℕ) → f ≤ h → g ≤ h →
    TakesBack what (told d g) (told c f) (told (content_back what d c) h)
came_back what d c g f h own part = record { content = refl; own_faults = own; part_faults = part }

-- ---- two files that a service subscribes to

-- both stand in the first wave
abbrev service_last : ℕ → ℕ
service_last zero = 0
service_last (suc zero) = 0
service_last (suc (suc zero)) = 0
service_last (suc (suc (suc n))) = 1

-- ---- a resource that is declared first and comes last

abbrev notify : List ℕ → Held
notify title = held (codes "notify") title [] (0 ∷ [])

-- `notify { 'b': }` and then `notify { 'a': before => Notify['b'] }`
abbrev two_notifies : List Held
two_notifies = main ∷ notify (codes "b") ∷ notify (codes "a") ∷ []

abbrev a_before_b : List Edge
a_before_b = edge 2 1 false ∷ []

abbrev task_of_a : Task
task_of_a = task_of native.Notify (notify (codes "a")).item

abbrev task_of_b : Task
task_of_b = task_of native.Notify (notify (codes "b")).item

-- it stands in the second wave
abbrev b_last : ℕ → ℕ
b_last zero = 0
b_last (suc zero) = 1
b_last (suc (suc n)) = 0

abbrev wide_report : Report
wide_report = record {
  node = codes "n";
  lines =
      line (ref (codes "notify") (codes "b")) status.Changed (codes "run" ∷ []) false
      ∷ line (ref (codes "notify") (codes "a")) status.Changed (codes "run" ∷ []) false ∷ [];
}

abbrev nothing : ℕ → Content
nothing calls = content [] [] calls

-- ---- the runs

module _ (resources : List Held) (edges : List Edge) where
  -- a turn on its part of a machine with this content
  abbrev had_part : List Turned → ℕ → Task → Content → ℕ → Turned
  had_part earlier at task c f = had resources edges earlier at task (part_for task c) f

  apart_is : is_flat (containment resources) (signalling edges) ≡ true → (earlier : List Turned) (at : ℕ) (task : Task)
      (c : Content) (f : ℕ) → list_all (λ (t : Turned). not (has_failed t.line)) earlier ≡ true →
      IsTurnedApart (Comes resources edges) (Signals resources edges) earlier (told c f) (had_part earlier at task c f)
  apart_is flat earlier at task c f none = record {
    part = refl;
    turned = calm_is resources edges flat earlier at task (part_for task c) f none;
  }

-- how many faults are counted at the end of a turn that found so many
abbrev faults_after : Task → Bool → Content → ℕ → ℕ
faults_after task due c f = (turn_made task due (part_for task c) f).0

-- the line of the one with the lesser index stands first, though it had its turn last
b_stands_first : (g : ℕ) × IsWideRun (catalog two_notifies a_before_b) wide_report (told (nothing 0) 0)
    (told (nothing 2) g)
unfolding has written native_of
b_stands_first =
    let tasks = tasks_at two_notifies (0 ∷ 2 ∷ 1 ∷ []) in
    let a = had_part two_notifies a_before_b [] 2 task_of_a (nothing 0) 0 in
    let f = faults_after task_of_a false (nothing 0) 0 in
    let b = had_part two_notifies a_before_b (a ∷ []) 1 task_of_b (nothing 1) f in
    let g = faults_after task_of_b false (nothing 1) f in (
      f + g,
      record {
        node = refl;
        lines = record {
          order = 0 ∷ 2 ∷ 1 ∷ [];
          ordered = ordered two_notifies a_before_b refl 3 (0 ∷ 2 ∷ 1 ∷ []) refl refl;
          run = record {
            waves = (a ∷ []) ∷ (b ∷ []) ∷ [];
            whose = record {
              wave = b_last;
              numbering = numbering_made (containment two_notifies) (relations a_before_b) refl tasks b_last refl;
              whole = All-from_recursion (λ (t : ℕ × Task). b_last t.0 < 2) tasks (omega arith, (omega arith, tt));
              each = refl;
            };
            each = (
              All-from_recursion (IsTurnedApart (Comes two_notifies a_before_b) (Signals two_notifies a_before_b) []
                  (told (nothing 0) 0)) (a ∷ [])
                  (apart_is two_notifies a_before_b refl [] 2 task_of_a (nothing 0) 0 refl, tt),
              (
                told (nothing 1) f,
                (
                  told (nothing 1) f,
                  came_back task_of_a.what (nothing 1) (nothing 0) f 0 f (omega arith) (omega arith),
                  refl,
                ),
                (
                  All-from_recursion (IsTurnedApart (Comes two_notifies a_before_b) (Signals two_notifies a_before_b)
                      (a ∷ []) (told (nothing 1) f)) (b ∷ [])
                      (apart_is two_notifies a_before_b refl (a ∷ []) 1 task_of_b (nothing 1) f refl, tt),
                  (
                    told (nothing 2) (f + g),
                    (
                      told (nothing 2) (f + g),
                      came_back task_of_b.what (nothing 2) (nothing 1) g f (f + g) (omega arith) (omega arith),
                      refl,
                    ),
                    refl,
                  ),
                ),
              ),
            );
            rising = refl;
          };
        };
      },
    )

-- The files are written at once, and then the service is refreshed once: the lines and the document of the run of one
-- turn after another. (Two calls fewer are counted, since each part counts on from the machine as its wave found it.)
both_at_once : (g : ℕ) × IsWideRun (catalog two_files two_edges) two_report (told (content [] ran 0) 0)
    (told (content [] both_written 4) g)
unfolding has written native_of
both_at_once =
    let tasks = tasks_at two_files (0 ∷ 1 ∷ 2 ∷ 3 ∷ []) in
    let start = content [] ran 0 in
    let a = had_part two_files two_edges [] 1 task_a start 0 in
    let b = had_part two_files two_edges [] 2 task_b start 0 in
    let f = faults_after task_a false start 0 in
    let h = faults_after task_b false start 0 in
    let written_a = (turn task_a false (part_for task_a start)).1 in
    let written_b = (turn task_b false (part_for task_b start)).1 in
    let between = content [] both_written 2 in
    let s = had_part two_files two_edges (a ∷ b ∷ []) 3 task_s between (f + h) in
    let g = faults_after task_s true between (f + h) in (
      (f + h) + g,
      record {
        node = refl;
        lines = record {
          order = 0 ∷ 1 ∷ 2 ∷ 3 ∷ [];
          ordered = ordered two_files two_edges refl 4 (0 ∷ 1 ∷ 2 ∷ 3 ∷ []) refl refl;
          run = record {
            waves = (a ∷ b ∷ []) ∷ (s ∷ []) ∷ [];
            whose = record {
              wave = service_last;
              numbering = numbering_made (containment two_files) (relations two_edges) refl tasks service_last refl;
              whole = All-from_recursion (λ (t : ℕ × Task). service_last t.0 < 2) tasks
                  (omega arith, (omega arith, (omega arith, tt)));
              each = refl;
            };
            each = (
              All-from_recursion (IsTurnedApart (Comes two_files two_edges) (Signals two_files two_edges) []
                  (told start 0)) (a ∷ b ∷ []) (
                    apart_is two_files two_edges refl [] 1 task_a start 0 refl,
                    (apart_is two_files two_edges refl [] 2 task_b start 0 refl, tt),
                  ),
              (
                told between (f + h),
                (
                  told (content [] a_written 2) f,
                  came_back task_a.what written_a start f 0 f (omega arith) (omega arith),
                  (
                    told between (f + h),
                    came_back task_b.what written_b (content [] a_written 2) h f (f + h) (omega arith) (omega arith),
                    refl,
                  ),
                ),
                (
                  All-from_recursion (IsTurnedApart (Comes two_files two_edges) (Signals two_files two_edges)
                      (a ∷ b ∷ []) (told between (f + h))) (s ∷ [])
                      (apart_is two_files two_edges refl (a ∷ b ∷ []) 3 task_s between (f + h) refl, tt),
                  (
                    told (content [] both_written 4) ((f + h) + g),
                    (
                      told (content [] both_written 4) ((f + h) + g),
                      came_back task_s.what (turn task_s true (part_for task_s between)).1 between g (f + h)
                          ((f + h) + g) (omega arith) (omega arith),
                      refl,
                    ),
                    refl,
                  ),
                ),
              ),
            );
            rising = refl;
          };
        };
      },
    )
