-- Rounds: what collectors take, and the instances of defines, again and again, until a round adds nothing.
use Rattle.std.specs.Prelude.{ℕ, zero, suc, ◌+◌, Bool, true, false, ◌||◌, if◌then◌else◌, List, [], ◌∷◌, length, filter}
use Rattle.std.specs.Prelude.{Option, None, Some}
use Rattle.std.specs.List.{range_with_len}
use Rattle.export_store.specs.ExportQueries.{Placed, exports_of, is_found}
use Rattle.export_store.specs.Sets.{Sets}
use Rattle.pp_values.specs.declared.fault.What.TheVariants as what
use Rattle.res_book.specs.Rows.{is_pending_at}
use Rattle.res_book.specs.declared.row.Row.{Row}
use Rattle.class_eval.specs.Evaluating.{instance_at}
use Rattle.eval_collecting.specs.Importing.{import_match, imports}
use Rattle.eval_collecting.specs.Matching.{local_match}
use Rattle.eval_world.specs.Outcomes.{Step, ◌>>=◌, ◌>>◌, pure}
use Rattle.eval_world.specs.Worlds.{fault, top}

-- ---- one collector: first the local declarations, by number

-- so many of them, from a number on; `added` says whether something was added before
unfoldable pub take_from : ℕ → Bool → ℕ → ℕ → Step Bool
take_from c added n zero = pure added
take_from c added n (suc left) = do
  more ← local_match c n
  take_from c (more || added) (n + 1) left

abbrev pub take_locals : ℕ → Step Bool
take_locals c = λ w. take_from c false 0 (length w.book) w

-- ---- and then what other nodes export, by the node's name and by its place in the node's set

unfoldable pub take_imports : ℕ → Bool → List Placed → Step Bool
take_imports c added [] = pure added
take_imports c added (p ∷ ps) = do
  more ← import_match c p.0.node p.0.place p.1
  take_imports c (more || added) ps

-- what the other nodes export of a kind, from one version of their sets
abbrev pub others : List ℕ → List ℕ → Sets → List Placed
others kind node sets = filter (is_found kind None node) (exports_of sets)

abbrev pub import_kind : ℕ → Bool → Option (List ℕ) → List ℕ → Sets → Step Bool
import_kind c added None node sets = pure added
import_kind c added (Some kind) node sets = take_imports c added (others kind node sets)

abbrev pub import_all : ℕ → Bool → List ℕ → Sets → Step Bool
import_all c added node sets = λ w. import_kind c added (imports w c) node sets w

unfoldable pub collector_turn : ℕ → List ℕ → Sets → Step Bool
collector_turn c node sets = do
  added ← take_locals c
  import_all c added node sets

-- ---- all collectors that are there, in the order of their registration

unfoldable pub turns_from : Bool → ℕ → ℕ → List ℕ → Sets → Step Bool
turns_from added c zero node sets = pure added
turns_from added c (suc left) node sets = do
  more ← collector_turn c node sets
  turns_from (more || added) (c + 1) left node sets

abbrev pub all_turns : List ℕ → Sets → Step Bool
all_turns node sets = λ w. turns_from false 0 (length w.relations.collectors) node sets w

-- ---- instances of defines: those that are live and were not evaluated, by number

abbrev pub pending : List Row → List ℕ
pending rows = filter (is_pending_at rows) (range_with_len 0 (length rows))

-- each is evaluated at depth 1, which is something that was added
unfoldable pub run_instances : Bool → List ℕ → Step Bool
run_instances added [] = pure added
run_instances added (n ∷ ns) = do
  instance_at n 1
  run_instances true ns

-- ---- one round: the collectors, and then the instances that are pending by then

unfoldable pub round : List ℕ → Sets → Step Bool
round node sets = do
  added ← all_turns node sets
  (λ w. run_instances added (pending w.book) w)

-- ---- rounds

abbrev pub again : Bool → Step (Unit {0}) → Step (Unit {0})
again true more = more
again false more = pure tt

-- F27, at line 1 of the main manifest, where the last round still added something
abbrev pub too_many : Step (Unit {0})
too_many = fault top 1 what.RoundLimit

unfoldable pub rounds_left : ℕ → List ℕ → Sets → Step (Unit {0})
rounds_left zero node sets = too_many
rounds_left (suc left) node sets = do
  added ← round node sets
  again added (rounds_left left node sets)

-- how many rounds there may be
abbrev pub limit : ℕ
limit = 1000

-- all collectors and all rounds see one version of the sets
abbrev pub rounds : List ℕ → Sets → Step (Unit {0})
rounds = rounds_left limit
