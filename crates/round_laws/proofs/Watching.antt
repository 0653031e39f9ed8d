-- The rounds without needless looks are the rounds.
use Rattle.std.proofs.Common.{◌≡◌, ℕ, zero, suc, ◌+◌, ◌<◌, ◌≤◌, Bool, true, false, ◌||◌, List, length}
use Rattle.std.proofs.Common.{Ok, Err, refl, sym, ap, subst, ◌∙◌, arith}
use Rattle.export_store.specs.Sets.{Sets}
use Rattle.defined_types.specs.Rounds.{again, all_turns, collector_turn, import_all, limit, pending, round, rounds}
use Rattle.defined_types.specs.Rounds.{rounds_left, run_instances, take_from, turns_from}
use Rattle.eval_collecting.specs.Matching.{local_match}
use Rattle.eval_world.specs.Outcomes.{Outcome, Step, go_on, pure}
use Rattle.eval_world.specs.declared.world.World.{World}
use Rattle.defined_types.proofs.OfRounds.{import_all_grows, instances_grow}
use Rattle.world_laws.proofs.Worlds.{extends_on, same_world}
use Rattle.world_laws.specs.Extends.{Extends, IsPlaced}
use Rattle.world_laws.specs.Growing.{Grows, Reaches}
use Rattle.collecting_laws.proofs.Looking.{collectors_rise, look_extends}
use Rattle.collecting_laws.proofs.Noting.{good_noted, good_on, none_good, noted_value, passed_over}
use Rattle.collecting_laws.specs.Looks.{touched_at}
use Rattle.collecting_laws.specs.Notes.{AreGood, Notes, is_noted, no_notes, noted}
use Rattle.round_laws.specs.Watching.{look_unless, watch}
use Rattle.round_laws.specs.Watching.{watch_from, watched_left, watched_round, watched_rounds, watched_turn}
use Rattle.round_laws.specs.Watching.{watched_turns, with_imports, with_instances}

-- ---- steps with notes that do what other steps do

-- the same answer and the same world, with good notes; or the same fault
abbrev Agrees : {A : Type 0} → World → Outcome (A × Notes) → Outcome A → Type 0
Agrees w (Ok p) o = (o ≡ Ok (p.0.0, p.1)) × AreGood p.0.1 p.1 × Extends w p.1
Agrees w (Err f) o = o ≡ Err f

module _ {A : Type 0} where
  widened : (w v : World) (o : Outcome (A × Notes)) (plain : Outcome A) → Extends w v → Agrees v o plain →
      Agrees w o plain
  widened w v (Ok p) plain extends same = (same.0, same.1, extends_on w v p.1 extends same.2)
  widened w v (Err f) plain extends same = same

  -- a step that only adds leaves notes good
  agrees_by : (notes : Notes) (w : World) (o : Outcome A) → Reaches w o → AreGood notes w →
      Agrees w (go_on o (λ a. pure (a, notes))) o
  agrees_by notes w (Ok p) grows good = (refl, good_on notes w p.1 grows good, grows)
  agrees_by notes w (Err f) grows good = refl

  agrees_plain : (step : Step A) → Grows step → (notes : Notes) (w : World) → AreGood notes w →
      Agrees w (go_on (step w) (λ a. pure (a, notes))) (step w)
  agrees_plain step grows notes w good = agrees_by notes w (step w) (grows.reaches w) good

module _ {A B : Type 0} where
  agrees_then : (w : World) (o : Outcome (A × Notes)) (plain : Outcome A) (next : A × Notes → Step (B × Notes))
      (rest : A → Step B) → Agrees w o plain →
      ((a : A) (notes : Notes) (v : World) → Extends w v → AreGood notes v → Agrees v (next (a, notes) v) (rest a v)) →
      Agrees w (go_on o next) (go_on plain rest)
  agrees_then w (Ok p) plain next rest same more =
      subst (λ x. Agrees w (next p.0 p.1) (go_on x rest)) (sym same.0)
      (widened w p.1 (next p.0 p.1) (rest p.0.0 p.1) same.2 (more p.0.0 p.0.1 p.1 same.2 same.1))
  agrees_then w (Err f) plain next rest same more = ap (λ x. go_on x rest) same

-- ---- looks

looked : (notes : Notes) (c n : ℕ) (w : World) (o : Outcome Bool) → local_match c n w ≡ o →
    c < length w.relations.collectors → n < length w.book → AreGood notes w →
    Agrees w (go_on o (λ more. pure (more, noted c n (touched_at w n) notes))) o
looked notes c n w (Ok p) is there below good =
    (refl, good_noted notes c n w p.1 p.0 is there below good, look_extends c n w p.1 p.0 is)
looked notes c n w (Err f) is there below good = refl

look_agrees : (notes : Notes) (c n : ℕ) (w : World) (b : Bool) → is_noted (notes c n) (touched_at w n) ≡ b →
    c < length w.relations.collectors → n < length w.book → AreGood notes w →
    Agrees w (look_unless b c n (touched_at w n) notes w) (local_match c n w)
look_agrees notes c n w true is there below good =
    (passed_over notes c n w good (noted_value (notes c n) (touched_at w n) is), good, same_world w)
look_agrees notes c n w false is there below good = looked notes c n w (local_match c n w) refl there below good

watch_agrees : (notes : Notes) (c n : ℕ) (w : World) → c < length w.relations.collectors → n < length w.book →
    AreGood notes w → Agrees w (watch c n notes w) (local_match c n w)
unfolding watch
watch_agrees notes c n w there below good =
    look_agrees notes c n w (is_noted (notes c n) (touched_at w n)) refl there below good

from_agrees : (c : ℕ) (added : Bool) (n left : ℕ) (notes : Notes) (w : World) → c < length w.relations.collectors →
    n + left ≤ length w.book → AreGood notes w →
    Agrees w (watch_from c added n left notes w) (take_from c added n left w)
unfolding watch_from take_from
from_agrees c added n zero notes w there below good = (refl, good, same_world w)
from_agrees c added n (suc left) notes w there below good =
    agrees_then w (watch c n notes w) (local_match c n w) (λ p. watch_from c (p.0 || added) (n + 1) left p.1)
    (λ more. take_from c (more || added) (n + 1) left)
    (watch_agrees notes c n w there (omega (arith, below)) good)
    (λ more found v extends good_then.
    let longer = extends.declarations.longer in let more_there = collectors_rise w v extends in
    from_agrees c (more || added) (n + 1) left found v (omega (arith, there, more_there))
    (omega (arith, below, longer)) good_then)

-- ---- turns

imports_agree : (c : ℕ) (node : List ℕ) (sets : Sets) (added : Bool) (notes : Notes) (w : World) → AreGood notes w →
    Agrees w (with_imports c node sets (added, notes) w) (import_all c added node sets w)
unfolding with_imports
imports_agree c node sets added notes w good =
    agrees_plain (import_all c added node sets) (import_all_grows c added node sets) notes w good

turn_agrees : (c : ℕ) (node : List ℕ) (sets : Sets) (notes : Notes) (w : World) → c < length w.relations.collectors →
    AreGood notes w → Agrees w (watched_turn c node sets notes w) (collector_turn c node sets w)
unfolding watched_turn collector_turn
turn_agrees c node sets notes w there good =
    agrees_then w (watch_from c false 0 (length w.book) notes w) (take_from c false 0 (length w.book) w)
    (λ p. with_imports c node sets p) (λ added. import_all c added node sets)
    (from_agrees c false 0 (length w.book) notes w there (omega arith) good)
    (λ added found v extends good_then. imports_agree c node sets added found v good_then)

turns_agree : (added : Bool) (c left : ℕ) (node : List ℕ) (sets : Sets) (notes : Notes) (w : World) →
    c + left ≤ length w.relations.collectors → AreGood notes w →
    Agrees w (watched_turns added c left node sets notes w) (turns_from added c left node sets w)
unfolding watched_turns turns_from
turns_agree added c zero node sets notes w there good = (refl, good, same_world w)
turns_agree added c (suc left) node sets notes w there good =
    agrees_then w (watched_turn c node sets notes w) (collector_turn c node sets w)
    (λ p. watched_turns (p.0 || added) (c + 1) left node sets p.1) (λ more. turns_from (more || added) (c + 1) left node sets)
    (turn_agrees c node sets notes w (omega (arith, there)) good)
    (λ more found v extends good_then.
    let more_there = collectors_rise w v extends in
    turns_agree (more || added) (c + 1) left node sets found v (omega (arith, there, more_there)) good_then)

-- ---- rounds

instances_agree : (added : Bool) (notes : Notes) (w : World) → AreGood notes w →
    Agrees w (with_instances (added, notes) w) (run_instances added (pending w.book) w)
unfolding with_instances
instances_agree added notes w good =
    agrees_plain (λ v. run_instances added (pending v.book) v)
    (record { reaches = λ v. (instances_grow added (pending v.book)).reaches v }) notes w good

round_agrees : (node : List ℕ) (sets : Sets) (notes : Notes) (w : World) → AreGood notes w →
    Agrees w (watched_round node sets notes w) (round node sets w)
unfolding watched_round round
round_agrees node sets notes w good =
    agrees_then w (watched_turns false 0 (length w.relations.collectors) node sets notes w) (all_turns node sets w)
    with_instances (λ added v. run_instances added (pending v.book) v)
    (turns_agree false 0 (length w.relations.collectors) node sets notes w (omega arith) good)
    (λ added found v extends good_then. instances_agree added found v good_then)

again_same : (b : Bool) (p q : Step (Unit {0})) (w : World) → p w ≡ q w → again b p w ≡ again b q w
again_same true p q w same = same
again_same false p q w same = refl

left_by : (left : ℕ) (node : List ℕ) (sets : Sets) (w : World) (o : Outcome (Bool × Notes)) (plain : Outcome Bool) →
    Agrees w o plain →
    ((notes : Notes) (v : World) → AreGood notes v →
    watched_left left node sets notes v ≡ rounds_left left node sets v) →
    go_on o (λ p. again p.0 (watched_left left node sets p.1)) ≡ go_on plain (λ added. again added (rounds_left left node sets))
left_by left node sets w (Ok p) plain same more =
    again_same p.0.0 (watched_left left node sets p.0.1) (rounds_left left node sets) p.1 (more p.0.1 p.1 same.1)
    ∙ sym (ap (λ x. go_on x (λ added. again added (rounds_left left node sets))) same.0)
left_by left node sets w (Err f) plain same more =
    sym (ap (λ x. go_on x (λ added. again added (rounds_left left node sets))) same)

left_agree : (left : ℕ) (node : List ℕ) (sets : Sets) (notes : Notes) (w : World) → AreGood notes w →
    watched_left left node sets notes w ≡ rounds_left left node sets w
unfolding watched_left rounds_left
left_agree zero node sets notes w good = refl
left_agree (suc left) node sets notes w good =
    left_by left node sets w (watched_round node sets notes w) (round node sets w) (round_agrees node sets notes w good)
    (λ found v good_then. left_agree left node sets found v good_then)

pub rounds_agree : (node : List ℕ) (sets : Sets) (w : World) → IsPlaced w → watched_rounds node sets w ≡ rounds node sets w
rounds_agree node sets w placed = left_agree limit node sets no_notes w (none_good w placed)
