-- The rounds as the code makes them. A look of a collector at a declaration is passed over where nothing more came to
-- concern the declaration since the collector's last turn began. What functions promise one another.
use Rattle.std.specs.Prelude.{◌≡◌, ℕ, zero, suc, ◌+◌, ◌-◌, ◌==◌, nat_le, Bool, true, false, ◌||◌, ◌&&◌, List, [], ◌∷◌}
use Rattle.std.specs.Prelude.{◌++◌, length, Option, None, Some, is_some, Result, Ok, Err, slice_get, slice_set}
use Rattle.export_store.specs.Sets.{Sets}
use Rattle.pp_values.specs.Answers.{IsRefused, fault_told}
use Rattle.pp_values.specs.declared.fault.Fault.{Fault}
use Rattle.pp_values.specs.declared.fault.Stop.{Stop}
use Rattle.pp_values.specs.declared.reference.Reference.{Reference}
use Rattle.res_book.specs.Rows.{number_of}
use Rattle.class_eval.specs.Evaluators.{Evaluation, one_more}
use Rattle.eval_collecting.specs.Importing.{imports}
use Rattle.eval_collecting.specs.Matching.{local_match, realized}
use Rattle.eval_world.specs.Outcomes.{Outcome, Step}
use Rattle.eval_world.specs.declared.world.World.{World}
use Rattle.collecting_laws.specs.Looks.{touched_at}
use Rattle.defined_types.specs.Rounds.{import_all, limit, pending, run_instances, too_many}
use Rattle.defined_types.specs.declared.watchlist.Told.{Told}
use Rattle.defined_types.specs.declared.watchlist.Watchlist.{Watchlist}

-- ---- what is at hand

-- the world, how often collectors looked, and what is known of the declarations and of the collectors' turns
pub record Watched : Type 0 where
  pub world : World
  pub looks : ℕ
  pub told : List Told
  pub turns : List ℕ
  pub clock : ℕ

abbrev pub seen : Evaluation → Watchlist → Watched
seen e w = record {
  world = e.world;
  looks = e.looks;
  told = w.told.items;
  turns = w.turns.items;
  clock = w.clock;
}

-- ---- steps

abbrev pub Looked : Type 0 → Type 0
Looked A = Result (A × Watched) Fault

abbrev pub Watching : Type 0 → Type 0
Watching A = Watched → Looked A

abbrev pub further : {A B : Type 0} → Looked A → (A → Watched → Looked B) → Looked B
further (Ok p) next = next p.0 p.1
further (Err f) next = Err f

abbrev pub just : {A : Type 0} → A → Watching A
just a = λ s. Ok (a, s)

-- a step of the evaluator, which is no look
abbrev pub lifted_by : {A : Type 0} → Outcome A → Watched → Looked A
lifted_by (Ok p) s = Ok (p.0, record s { world = p.1 })
lifted_by (Err f) s = Err f

abbrev pub lifted : {A : Type 0} → Step A → Watching A
lifted step = λ s. lifted_by (step s.world) s

-- a call gives exactly this, unless memory ran out
abbrev pub Tells : {A : Type 0} → Looked A → Result A Stop → Watched → Type 0
Tells meant (Ok v) new = meant ≡ Ok (v, new)
Tells meant (Err e) new = IsRefused (fault_told e) meant

-- ---- one look

-- nothing more concerns the declaration than when the collector's last turn began
abbrev pub noted_by : Option Told → Option ℕ → Bool
noted_by None turn = false
noted_by (Some told) None = false
noted_by (Some told) (Some turn) = nat_le told.risen turn

abbrev pub is_noted : ℕ → ℕ → Watched → Bool
is_noted c n s = noted_by (slice_get s.told n) (slice_get s.turns c)

abbrev pub same_by : Option Told → ℕ → Bool
same_by None touched = true
same_by (Some told) touched = told.touched == touched

-- where more concerns it now, that is told, at a later time
abbrev pub told_risen : Bool → ℕ → ℕ → List Told → ℕ → List Told
told_risen true n touched told clock = told
told_risen false n touched told clock = slice_set told n (record { touched = touched; risen = suc clock })

abbrev pub clock_risen : Bool → ℕ → ℕ
clock_risen true clock = clock
clock_risen false clock = suc clock

abbrev pub risen : ℕ → ℕ → Watched → Watched
risen n touched s = record s {
  told = told_risen (same_by (slice_get s.told n) touched) n touched s.told s.clock;
  clock = clock_risen (same_by (slice_get s.told n) touched) s.clock;
}

abbrev pub looked_by : ℕ → Looked Bool → Looked Bool
looked_by n (Ok p) = Ok (p.0, risen n (touched_at p.1.world n) p.1)
looked_by n (Err f) = Err f

-- each look counts
abbrev pub look_at : ℕ → ℕ → Watching Bool
look_at c n = λ s. looked_by n (lifted_by (local_match c n s.world) (record s { looks = one_more s.looks }))

abbrev pub look_unless : Bool → ℕ → ℕ → Watching Bool
look_unless true c n = just false
look_unless false c n = look_at c n

unfoldable pub look : ℕ → ℕ → Watching Bool
look c n = λ s. look_unless (is_noted c n s) c n s

-- ---- one collector

unfoldable pub look_from : ℕ → Bool → ℕ → ℕ → Watching Bool
look_from c added n zero = just added
look_from c added n (suc left) = λ s. further (look c n s) (λ more. look_from c (more || added) (n + 1) left)

abbrev pub look_all : ℕ → Watching Bool
look_all c = λ s. look_from c false 0 (length s.world.book) s

abbrev pub look_named : ℕ → Option ℕ → Watching Bool
look_named c None = just false
look_named c (Some n) = look c n

-- one that comes from the function `realize` looks at the one declaration that it names
abbrev pub locals_by : Option Reference → ℕ → Watching Bool
locals_by None c = look_all c
locals_by (Some q) c = λ s. look_named c (number_of q s.world.book) s

unfoldable pub look_locals : ℕ → Watching Bool
look_locals c = λ s. locals_by (realized s.world c) c s

-- ---- what concerns each declaration is counted anew

abbrev pub told_if : Bool → Told → ℕ → ℕ → Told
told_if true told touched now = told
told_if false told touched now = record { touched = touched; risen = now }

abbrev pub told_now : Option Told → ℕ → ℕ → Told
told_now None touched now = record { touched = touched; risen = now }
told_now (Some told) touched now = told_if (told.touched == touched) told touched now

unfoldable pub told_from : World → List Told → ℕ → ℕ → ℕ → List Told
told_from w old now n zero = []
told_from w old now n (suc left) = told_now (slice_get old n) (touched_at w n) now ∷ told_from w old now (n + 1) left

-- a collector that is new had no turn
unfoldable pub no_turns : ℕ → List ℕ
no_turns zero = []
no_turns (suc left) = 0 ∷ no_turns left

abbrev pub opened : List ℕ → ℕ → List ℕ
opened turns count = turns ++ no_turns (count - length turns)

unfoldable pub counted : Watched → Watched
counted s = record s {
  told = told_from s.world s.told (suc s.clock) 0 (length s.world.book);
  turns = opened s.turns (length s.world.relations.collectors);
  clock = suc s.clock;
}

abbrev pub counted_if : Bool → Watched → Watched
counted_if true s = counted s
counted_if false s = s

-- ---- one collector's turn

-- its looks were those of a turn that began at this time
abbrev pub turned : ℕ → ℕ → Watched → Watched
turned c begun s = record s { turns = slice_set s.turns c begun }

abbrev pub imported_by : Bool → Looked Bool → Looked Bool
imported_by imports (Ok p) = Ok (p.0, counted_if (imports && p.0) p.1)
imported_by imports (Err f) = Err f

unfoldable pub with_imports : ℕ → Bool → List ℕ → Sets → Watching Bool
with_imports c added node sets = λ s.
    imported_by (is_some (imports s.world c)) (lifted (import_all c added node sets) s)

abbrev pub turned_by : ℕ → ℕ → Looked Bool → Looked Bool
turned_by c begun (Ok p) = Ok (p.0, turned c begun p.1)
turned_by c begun (Err f) = Err f

unfoldable pub looks_of_turn : ℕ → Watching Bool
looks_of_turn c = λ s. turned_by c s.clock (look_locals c s)

unfoldable pub watched_turn : ℕ → List ℕ → Sets → Watching Bool
watched_turn c node sets = λ s. further (looks_of_turn c s) (λ added. with_imports c added node sets)

unfoldable pub watched_turns : Bool → ℕ → ℕ → List ℕ → Sets → Watching Bool
watched_turns added c zero node sets = just added
watched_turns added c (suc left) node sets = λ s.
    further (watched_turn c node sets s) (λ more. watched_turns (more || added) (c + 1) left node sets)

-- ---- rounds

abbrev pub all_watched : List ℕ → Sets → Watching Bool
all_watched node sets = λ s. watched_turns false 0 (length s.world.relations.collectors) node sets s

abbrev pub instances_watched : Bool → Watching Bool
instances_watched added = λ s. lifted (run_instances added (pending s.world.book)) s

unfoldable pub watched_round : List ℕ → Sets → Watching Bool
watched_round node sets = λ s. further (all_watched node sets (counted s)) instances_watched

abbrev pub again_watched : Bool → Watching (Unit {0}) → Watching (Unit {0})
again_watched true more = more
again_watched false more = just tt

unfoldable pub watched_left : ℕ → List ℕ → Sets → Watching (Unit {0})
watched_left zero node sets = lifted too_many
watched_left (suc left) node sets = λ s.
    further (watched_round node sets s) (λ added. again_watched added (watched_left left node sets))
