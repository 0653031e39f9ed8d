-- Rounds in which a collector looks at a declaration again only where more concerns it than did at its last look.
use Rattle.std.specs.Prelude.{ℕ, zero, suc, ◌+◌, Bool, true, false, ◌||◌, List, length}
use Rattle.export_store.specs.Sets.{Sets}
use Rattle.defined_types.specs.Rounds.{again, import_all, limit, pending, run_instances, too_many}
use Rattle.eval_collecting.specs.Matching.{local_match}
use Rattle.eval_world.specs.Outcomes.{Step, ◌>>=◌, pure}
use Rattle.collecting_laws.specs.Looks.{touched_at}
use Rattle.collecting_laws.specs.Notes.{Notes, is_noted, no_notes, noted}

-- ---- one look, which is passed over where as many concern the declaration as did

abbrev pub look_unless : Bool → ℕ → ℕ → ℕ → Notes → Step (Bool × Notes)
look_unless true c n touched notes = pure (false, notes)
look_unless false c n touched notes = do
  more ← local_match c n
  pure (more, noted c n touched notes)

unfoldable pub watch : ℕ → ℕ → Notes → Step (Bool × Notes)
watch c n notes = λ w. look_unless (is_noted (notes c n) (touched_at w n)) c n (touched_at w n) notes w

-- ---- the rounds with such looks, in the order of the others

unfoldable pub watch_from : ℕ → Bool → ℕ → ℕ → Notes → Step (Bool × Notes)
watch_from c added n zero notes = pure (added, notes)
watch_from c added n (suc left) notes = do
  p ← watch c n notes
  watch_from c (p.0 || added) (n + 1) left p.1

-- what is imported
unfoldable pub with_imports : ℕ → List ℕ → Sets → Bool × Notes → Step (Bool × Notes)
with_imports c node sets p = do
  added ← import_all c p.0 node sets
  pure (added, p.1)

unfoldable pub watched_turn : ℕ → List ℕ → Sets → Notes → Step (Bool × Notes)
watched_turn c node sets notes = do
  p ← (λ w. watch_from c false 0 (length w.book) notes w)
  with_imports c node sets p

unfoldable pub watched_turns : Bool → ℕ → ℕ → List ℕ → Sets → Notes → Step (Bool × Notes)
watched_turns added c zero node sets notes = pure (added, notes)
watched_turns added c (suc left) node sets notes = do
  p ← watched_turn c node sets notes
  watched_turns (p.0 || added) (c + 1) left node sets p.1

-- what is evaluated
unfoldable pub with_instances : Bool × Notes → Step (Bool × Notes)
with_instances p = do
  added ← (λ w. run_instances p.0 (pending w.book) w)
  pure (added, p.1)

unfoldable pub watched_round : List ℕ → Sets → Notes → Step (Bool × Notes)
watched_round node sets notes = do
  p ← (λ w. watched_turns false 0 (length w.relations.collectors) node sets notes w)
  with_instances p

unfoldable pub watched_left : ℕ → List ℕ → Sets → Notes → Step (Unit {0})
watched_left zero node sets notes = too_many
watched_left (suc left) node sets notes = do
  p ← watched_round node sets notes
  again p.0 (watched_left left node sets p.1)

abbrev pub watched_rounds : List ℕ → Sets → Step (Unit {0})
watched_rounds node sets = watched_left limit node sets no_notes
