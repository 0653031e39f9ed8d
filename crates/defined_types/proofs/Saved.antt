-- The rounds with looks that are passed over are the rounds, and how many looks there are.
use Rattle.std.proofs.Common.{◌≡◌, ℕ, zero, suc, ◌+◌, ◌<◌, ◌≤◌, Bool, true, false, ◌||◌, ◌&&◌, List, [], ◌∷◌, length}
use Rattle.std.proofs.Common.{Option, None, Some, is_some, Result, Ok, Err, refl, sym, ap, subst, ◌∙◌, true≢false}
use Rattle.std.proofs.Common.{arith, ◌-◌, length-append}
use Rattle.std.specs.Prelude.{OnOk, nat_le, slice_get, slice_set}
use Rattle.override_rules.specs.Meaning.{touched_by}
use Rattle.res_book.specs.declared.row.Row.{Row}
use Rattle.export_store.specs.ExportQueries.{Placed}
use Rattle.export_store.specs.Sets.{Sets}
use Rattle.pp_values.specs.Answers.{IsRefused, fault_told}
use Rattle.pp_values.specs.declared.fault.Fault.{Fault}
use Rattle.pp_values.specs.declared.fault.Stop.{Stop}
use Rattle.eval_collecting.specs.Importing.{import_match, imports}
use Rattle.eval_world.specs.Outcomes.{Gives, Outcome, Step, go_on, nothing}
use Rattle.eval_world.specs.declared.world.World.{World}
use Rattle.world_laws.proofs.Worlds.{same_world}
use Rattle.world_laws.specs.Extends.{Extends, IsPlaced}
use Rattle.world_laws.specs.Growing.{Reaches}
use Rattle.collecting_laws.proofs.Importing.{import_nothing}
use Rattle.collecting_laws.proofs.Looking.{after, collectors_rise, not_refused}
use Rattle.collecting_laws.proofs.Looking.{told}
use Rattle.collecting_laws.specs.Looks.{touched_at, touched_row}
use Rattle.defined_types.specs.Bound.{most_looks, most_looks_of_one}
use Rattle.defined_types.specs.Rounds.{again, all_turns, collector_turn, import_all, import_kind, limit}
use Rattle.defined_types.specs.Rounds.{others as exports, pending, round, rounds, rounds_left, run_instances}
use Rattle.defined_types.specs.Rounds.{take_imports, take_locals, turns_from}
use Rattle.defined_types.specs.Watched.{Looked, Tells, Watched, Watching, again_watched, all_watched, counted}
use Rattle.defined_types.specs.Watched.{counted_if, imported_by, instances_watched, lifted_by, no_turns, opened}
use Rattle.defined_types.specs.Watched.{look_locals, looks_of_turn, risen, turned, turned_by, watched_left}
use Rattle.defined_types.specs.Watched.{watched_round, watched_turn, watched_turns, with_imports}
use Rattle.defined_types.specs.declared.watchlist.Told.{Told}
use Rattle.defined_types.proofs.OfRounds.{import_all_grows, instances_grow}
use Rattle.defined_types.proofs.Few.{begin_costs, end_costs, flag_le, plain}
use Rattle.defined_types.proofs.Sums.{cell, cost, upto, upto_sum}
use Rattle.defined_types.proofs.Tables.{counted_length}
use Rattle.defined_types.proofs.Turning.{IsFresh, IsGood, counted_fresh, counted_good}
use Rattle.defined_types.proofs.Turning.{no_note, turn_begins, turn_ends, world_on}
use Rattle.defined_types.proofs.Going.{Agrees, Few, Going, agrees_then, few_counted, few_not, few_on, lifted_agrees}
use Rattle.defined_types.proofs.Going.{looks_agree, mapped}

-- ---- imports

-- known, and all that was told is so, of each declaration
record Holds (s : Watched) : Type 0 where
  is_good : IsGood s
  fresh : IsFresh s
  whole : length s.told ≡ length s.world.book

-- from one state to another
record Goes (s v : Watched) : Type 0 where
  holds : Holds v
  few : Few s v
  turns : length s.turns ≤ length v.turns

goes_on : (s v u : Watched) → Extends v.world u.world → Few s v → length s.turns ≤ length v.turns → Goes v u → Goes s u
goes_on s v u extends few turns goes = record {
  holds = goes.holds;
  few = few_on s v u extends few goes.few;
  turns = let more = goes.turns in omega (arith, turns, more);
}

counted_holds : (s : Watched) → IsGood s → Holds (counted s)
unfolding counted
counted_holds s good = record {
  is_good = counted_good s good;
  fresh = counted_fresh s good;
  whole = counted_length s.world s.told (suc s.clock) 0 (length s.world.book);
}

more_turns : (turns : List ℕ) (count : ℕ) → length turns ≤ length (opened turns count)
more_turns turns count =
    let e = length-append turns (no_turns (count - length turns)) in omega (arith, e)

more_true : (a b : Bool) → b ≡ true → (a || b) ≡ true
more_true true b is = refl
more_true false b is = is

both_false : (a b : Bool) → (a || b) ≡ false → (a ≡ false) × (b ≡ false)
both_false true b e = absurd (true≢false e)
both_false false b e = (refl, e)

-- what was added before is told in the end
one_import : (c : ℕ) (added : Bool) (ps : List Placed) (v : World) (o : Outcome Bool) →
    ((more : Bool) (x : World) → take_imports c (more || added) ps x ≡ Ok (false, v) → ⊥) →
    go_on o (λ more. take_imports c (more || added) ps) ≡ Ok (false, v) → ⊥
one_import c added ps v (Ok q) more e = more q.0 q.1 e
one_import c added ps v (Err f) more e = not_refused e

imports_true : (c : ℕ) (added : Bool) (ps : List Placed) (w v : World) → added ≡ true →
    take_imports c added ps w ≡ Ok (false, v) → ⊥
unfolding take_imports
imports_true c added [] w v before e = true≢false (sym before ∙ told e)
imports_true c added (p ∷ ps) w v before e =
    one_import c added ps v (import_match c p.0.node p.0.place p.1 w)
    (λ more x next. imports_true c (more || added) ps x v (more_true more added before) next) e

-- and where nothing was added nothing changed
import_by : (c : ℕ) (added : Bool) (ps : List Placed) (w v : World) (o : Outcome Bool) →
    ((x : World) → o ≡ Ok (false, x) → w ≡ x) →
    ((more : Bool) (x : World) → take_imports c (more || added) ps x ≡ Ok (false, v) →
    ((more || added) ≡ false) × (x ≡ v)) →
    go_on o (λ more. take_imports c (more || added) ps) ≡ Ok (false, v) → w ≡ v
import_by c added ps w v (Ok q) first next e =
    let rest = next q.0 q.1 e in
    first q.1 (ap (λ b. Ok (b, q.1)) (both_false q.0 added rest.0).0) ∙ rest.1
import_by c added ps w v (Err f) first next e = absurd (not_refused e)

not_added : (c : ℕ) (added : Bool) (ps : List Placed) (w v : World) → take_imports c added ps w ≡ Ok (false, v) →
    (b : Bool) → added ≡ b → added ≡ false
not_added c added ps w v e true is = absurd (imports_true c added ps w v is e)
not_added c added ps w v e false is = is

imports_nothing : (c : ℕ) (added : Bool) (ps : List Placed) (w v : World) →
    take_imports c added ps w ≡ Ok (false, v) → w ≡ v
unfolding take_imports
imports_nothing c added [] w v e = after e
imports_nothing c added (p ∷ ps) w v e =
    import_by c added ps w v (import_match c p.0.node p.0.place p.1 w)
    (λ x is. import_nothing c p.0.node p.0.place p.1 w x is)
    (λ more x rest. (
      not_added c (more || added) ps x v rest (more || added) refl,
      imports_nothing c (more || added)
          ps x v rest,
    )) e

kind_nothing : (c : ℕ) (added : Bool) (kind : Option (List ℕ)) (node : List ℕ) (sets : Sets) (w v : World)
    (more : Bool) →
    import_kind c added kind node sets w ≡ Ok (more, v) → (is_some kind && more) ≡ false → w ≡ v
kind_nothing c added None node sets w v more e none = after e
kind_nothing c added (Some kind) node sets w v more e none =
    imports_nothing c added (exports kind node sets) w v (e ∙ ap (λ b. Ok (b, v)) none)

-- what was told goes on to be so, or is told anew
told_by : (s : Watched) (w : World) (b : Bool) → IsGood (record s { world = w }) → Holds s → (b ≡ false → s.world ≡ w) →
    Goes s (counted_if b (record s { world = w }))
unfolding counted
told_by s w true good holds same = record {
  holds = counted_holds (record s { world = w }) good;
  few = few_on s (record s { world = w }) (counted (record s { world = w })) (same_world w) (few_not s w)
      (few_counted (record s { world = w }) good);
  turns = more_turns s.turns (length w.relations.collectors);
}
told_by s w false good holds same = record {
  holds = record {
    is_good = good;
    fresh = subst (λ x. IsFresh (record s { world = x })) (same refl) holds.fresh;
    whole = subst (λ x. length s.told ≡ length x.book) (same refl) holds.whole;
  };
  few = few_not s w;
  turns = omega arith;
}

-- the world stays
world_then : (b : Bool) (v : Watched) → v.world ≡ (counted_if b v).world
unfolding counted
world_then true v = refl
world_then false v = refl

imported_agrees : (c : ℕ) (added : Bool) (node : List ℕ) (sets : Sets) (s : Watched) (o : Outcome Bool) →
    import_all c added node sets s.world ≡ o → Holds s →
    Agrees (Goes s) s.world (imported_by (is_some (imports s.world c)) (lifted_by o s)) o
imported_agrees c added node sets s (Ok p) is holds =
    let extends : Extends s.world p.1 = subst (Reaches s.world) is
    ((import_all_grows c added node sets).reaches s.world) in
    let good : IsGood (record s { world = p.1 }) = world_on s p.1 s.looks extends holds.is_good in
    let goes = told_by s p.1 (is_some (imports s.world c) && p.0) good holds
    (λ none. kind_nothing c added (imports s.world c) node sets s.world p.1 p.0 is none) in (
      ap (λ w. Ok (p.0, w)) (world_then (is_some (imports s.world c) && p.0) (record s { world = p.1 })),
      goes,
      subst (Extends s.world) (world_then (is_some (imports s.world c) && p.0) (record s { world = p.1 })) extends,
    )
imported_agrees c added node sets s (Err f) is holds = refl

exports_agree : (c : ℕ) (added : Bool) (node : List ℕ) (sets : Sets) (s : Watched) → Holds s →
    Agrees (Goes s) s.world (with_imports c added node sets s) (import_all c added node sets s.world)
unfolding with_imports
exports_agree c added node sets s holds =
    imported_agrees c added node sets s (import_all c added node sets s.world) refl holds

-- ---- turns

-- a turn begins, and ends
going_first : (c : ℕ) (s : Watched) → Holds s → c < length s.world.relations.collectors → c < length s.turns →
    Going c (length s.world.book) s 0 s
going_first c s holds there turn_there = record {
  turning = turn_begins c s holds.is_good holds.fresh there;
  within = holds.is_good.within;
  whole = let whole = holds.whole in omega (arith, whole);
  sized = refl;
  turn_there = turn_there;
  same_turns = refl;
  rest = λ m t past at. holds.is_good.early m t at;
  paid = λ cs ns collectors_there below. let e = begin_costs s.told s.turns c s.clock cs ns in omega (arith, e);
}

set_length : {A : Type 0} (xs : List A) (n : ℕ) (x : A) → length (slice_set xs n x) ≡ length xs
set_length [] n x = refl
set_length (y ∷ ys) zero x = refl
set_length (y ∷ ys) (suc n) x = ap suc (set_length ys n x)

going_last : (c all : ℕ) (s v : Watched) → Going c all s all v →
    Holds (turned c s.clock v) × Few s (turned c s.clock v)
going_last c all s v going =
    let ended = turn_ends c s.clock all v going.within going.turning in (
      record {
        is_good = ended.0;
        fresh = ended.1;
        whole =
            let within = going.within in let whole = going.whole in let sized = going.sized in
            omega (arith, within, whole, sized);
      },
      record {
        paid = λ cs ns there below.
            let before = going.paid cs ns there below in
            let end_now = end_costs v.told v.turns c s.clock all cs ns going.within going.turn_there in
            omega (arith, before, end_now);
      },
    )

turned_goes : (c all : ℕ) (s v : Watched) → Going c all s all v → Goes s (turned c s.clock v)
turned_goes c all s v going =
    let last = going_last c all s v going in
    let count : length (slice_set v.turns c s.clock) ≡ length s.turns =
    set_length v.turns c s.clock ∙ ap length going.same_turns in
    record { holds = last.0; few = last.1; turns = omega (arith, count) }

turned_agrees : (c all : ℕ) (s : Watched) (o : Looked Bool) (plain_o : Outcome Bool) →
    Agrees (Going c all s all) s.world o plain_o → Agrees (Goes s) s.world (turned_by c s.clock o) plain_o
turned_agrees c all s (Ok p) plain_o agrees = (agrees.0, turned_goes c all s p.1 agrees.1, agrees.2)
turned_agrees c all s (Err f) plain_o agrees = agrees

turn_agrees : (c : ℕ) (node : List ℕ) (sets : Sets) (s : Watched) → Holds s → c < length s.world.relations.collectors →
    c < length s.turns → Agrees (Goes s) s.world (watched_turn c node sets s) (collector_turn c node sets s.world)
unfolding watched_turn looks_of_turn collector_turn
turn_agrees c node sets s holds there turn_there =
    agrees_then (Goes s) (Goes s) s.world (looks_of_turn c s) (take_locals c s.world)
    (λ added. with_imports c added node sets) (λ added. import_all c added node sets)
    (turned_agrees c (length s.world.book) s (look_locals c s) (take_locals c s.world)
    (looks_agree c (length s.world.book) s s (going_first c s holds there turn_there)))
    (λ added v extends goes.
    mapped (Goes v) (Goes s) v.world (with_imports c added node sets v) (import_all c added node sets v.world)
    (λ u further_on then_goes. goes_on s v u further_on goes.few goes.turns then_goes)
    (exports_agree c added node sets v goes.holds))

turns_agree : (added : Bool) (c left : ℕ) (node : List ℕ) (sets : Sets) (s : Watched) → Holds s →
    c + left ≤ length s.world.relations.collectors → c + left ≤ length s.turns →
    Agrees (Goes s) s.world (watched_turns added c left node sets s) (turns_from added c left node sets s.world)
unfolding watched_turns turns_from
turns_agree added c zero node sets s holds there turns_there =
    (refl, record { holds = holds; few = few_not s s.world; turns = omega arith }, same_world s.world)
turns_agree added c (suc left) node sets s holds there turns_there =
    agrees_then (Goes s) (Goes s) s.world (watched_turn c node sets s) (collector_turn c node sets s.world)
    (λ more. watched_turns (more || added) (c + 1) left node sets)
    (λ more. turns_from (more || added) (c + 1) left node sets)
    (turn_agrees c node sets s holds (omega (arith, there)) (omega (arith, turns_there)))
    (λ more v extends goes.
    let more_there = collectors_rise s.world v.world extends in let more_turns_there = goes.turns in
    mapped (Goes v) (Goes s) v.world (watched_turns (more || added) (c + 1) left node sets v)
    (turns_from (more || added) (c + 1) left node sets v.world)
    (λ u further_on goes_then. goes_on s v u further_on goes.few goes.turns goes_then)
    (turns_agree (more || added) (c + 1) left node sets v goes.holds (omega (arith, there, more_there))
    (omega (arith, turns_there, more_turns_there))))

-- ---- rounds

-- known goes on, and looks are paid for
record Went (s v : Watched) : Type 0 where
  is_good : IsGood v
  few : Few s v

instances_agree : (added : Bool) (s v : Watched) → Holds v → Few s v →
    Agrees (Went s) v.world (instances_watched added v) (run_instances added (pending v.world.book) v.world)
instances_agree added s v holds few =
    lifted_agrees (Went s) v (run_instances added (pending v.world.book) v.world)
    ((instances_grow added (pending v.world.book)).reaches v.world)
    (λ a w extends. record {
      is_good = world_on v w v.looks extends holds.is_good;
      few = few_on s v (record v { world = w }) extends few (few_not v w);
    })

zeros_length : (left : ℕ) → length (no_turns left) ≡ left
unfolding no_turns
zeros_length zero = refl
zeros_length (suc left) = ap suc (zeros_length left)

all_turns_there : (turns : List ℕ) (count : ℕ) → count ≤ length (opened turns count)
all_turns_there turns count =
    let e = length-append turns (no_turns (count - length turns)) in let z = zeros_length (count - length turns) in
    omega (arith, e, z)

round_agrees : (node : List ℕ) (sets : Sets) (s : Watched) → IsGood s →
    Agrees (Went s) s.world (watched_round node sets s) (round node sets s.world)
unfolding watched_round round counted
round_agrees node sets s good =
    agrees_then (Goes (counted s)) (Went s) s.world (all_watched node sets (counted s)) (all_turns node sets s.world)
    instances_watched (λ added w. run_instances added (pending w.book) w)
    (turns_agree false 0 (length s.world.relations.collectors) node sets (counted s) (counted_holds s good)
    (omega arith)
    (let there = all_turns_there s.turns (length s.world.relations.collectors) in omega (arith, there)))
    (λ added v extends goes.
    instances_agree added s v goes.holds (few_on s (counted s) v extends (few_counted s good) goes.few))

again_agrees : (b : Bool) (more : Watching (Unit {0})) (plain_more : Step (Unit {0})) (s v : Watched) → Went s v →
    Agrees (Went v) v.world (more v) (plain_more v.world) →
    Agrees (Went s) v.world (again_watched b more v) (again b plain_more v.world)
again_agrees true more plain_more s v went agrees =
    mapped (Went v) (Went s) v.world (more v) (plain_more v.world)
    (λ u extends went_then. record { is_good = went_then.is_good; few = few_on s v u extends went.few went_then.few })
    agrees
again_agrees false more plain_more s v went agrees = (refl, went, same_world v.world)

left_agrees : (left : ℕ) (node : List ℕ) (sets : Sets) (s : Watched) → IsGood s →
    Agrees (Went s) s.world (watched_left left node sets s) (rounds_left left node sets s.world)
unfolding watched_left rounds_left
left_agrees zero node sets s good = refl
left_agrees (suc left) node sets s good =
    agrees_then (Went s) (Went s) s.world (watched_round node sets s) (round node sets s.world)
    (λ added. again_watched added (watched_left left node sets)) (λ added. again added (rounds_left left node sets))
    (round_agrees node sets s good)
    (λ added v extends went.
    again_agrees added (watched_left left node sets) (rounds_left left node sets) s v went
    (left_agrees left node sets v went.is_good))

-- ---- before the first round

first_good : (s : Watched) → s.told ≡ [] → s.turns ≡ [] → IsPlaced s.world → IsGood s
first_good s told turns placed =
    subst (λ ts. IsGood (record s { told = ts })) (sym told)
    (subst (λ ks. IsGood (record s { told = []; turns = ks })) (sym turns) (none_good s placed)) where
      none_good : (v : Watched) → IsPlaced v.world → IsGood (record v { told = []; turns = [] })
      none_good v there = record {
        good = record { placed = there; known = λ c n touched e. no_note c n touched e };
        within = omega arith;
        late = λ n t at. absurd cc;
        early = λ n t at. absurd cc;
        begun = λ c k at. absurd cc;
        low = λ n t at. absurd cc;
      }

given : (s : Watched) (node : List ℕ) (sets : Sets) (w : World) (meant : Looked (Unit {0}))
    (result : Result (Unit {0}) Stop)
    (new : Watched) → Agrees (Went s) w meant (rounds node sets w) → Tells meant result new →
    Gives nothing (rounds node sets w) result new.world
given s node sets w meant (Ok u) new agrees tells =
    let same : Agrees (Went s) w (Ok (u, new)) (rounds node sets w) =
    subst (λ o. Agrees (Went s) w o (rounds node sets w)) tells agrees in same.0
given s node sets w meant (Err e) new agrees tells = refused (fault_told e) tells where
  refused : (o : Option Fault) → IsRefused o meant → IsRefused o (rounds node sets w)
  refused None is = is
  refused (Some f) is = subst (λ o. Agrees (Went s) w o (rounds node sets w)) is agrees

pub rounds_told : (node : List ℕ) (sets : Sets) (s new : Watched) (result : Result (Unit {0}) Stop) → s.told ≡ [] →
    s.turns ≡ [] → IsPlaced s.world → Tells (watched_left limit node sets s) result new →
    Gives nothing (rounds node sets s.world) result new.world
rounds_told node sets s new result told turns placed tells =
    given s node sets s.world (watched_left limit node sets s) result new
    (left_agrees limit node sets s (first_good s told turns placed)) tells

-- ---- how many looks there are

cell_most : (v : Watched) (m : ℕ) (turn : Option ℕ) (r : Row) → IsGood v → slice_get v.world.book m ≡ Some r →
    (o : Option Told) → slice_get v.told m ≡ o → cell o turn ≤ suc (touched_by v.world.overrides r)
cell_most v m turn r good at None is = omega arith
cell_most v m None r good at (Some t) is = omega arith
cell_most v m (Some k) r good at (Some t) is =
    let low = good.low m t is in
    let now : touched_at v.world m ≡ touched_by v.world.overrides r = ap (touched_row v.world.overrides) at in
    let flag = flag_le (nat_le t.risen k) in omega (arith, low, now, flag)

most_of_one : (v : Watched) (turn : Option ℕ) → IsGood v →
    upto (length v.world.book) (λ m. cell (slice_get v.told m) turn) ≤ most_looks_of_one v.world
most_of_one v turn good =
    upto_sum (λ r. suc (touched_by v.world.overrides r)) v.world.book (λ m. cell (slice_get v.told m) turn)
    (λ m r at. cell_most v m turn r good at (slice_get v.told m) refl)

most_of_all : (v : Watched) → IsGood v →
    cost (length v.world.relations.collectors) (length v.world.book) v.told (plain v.turns) ≤ most_looks v.world
unfolding cost
most_of_all v good =
    upto_sum (λ c. most_looks_of_one v.world) v.world.relations.collectors
    (λ c. upto (length v.world.book) (λ m. cell (slice_get v.told m) (plain v.turns c m)))
    (λ c x at. most_of_one v (slice_get v.turns c) good)

few_by : (s v : Watched) → s.told ≡ [] → Went s v → v.looks ≤ s.looks + most_looks v.world
few_by s v told went =
    let paid = went.few.paid (length v.world.relations.collectors) (length v.world.book) (omega arith) (omega arith) in
    let most = most_of_all v went.is_good in omega (arith, paid, most)

pub few_looks : (node : List ℕ) (sets : Sets) (s new : Watched) (u : Unit {0}) → s.told ≡ [] → s.turns ≡ [] →
    IsPlaced s.world → watched_left limit node sets s ≡ Ok (u, new) → new.looks ≤ s.looks + most_looks new.world
few_looks node sets s new u told turns placed is =
    let agrees : Agrees (Went s) s.world (Ok (u, new)) (rounds node sets s.world) =
    subst (λ o. Agrees (Went s) s.world o (rounds node sets s.world)) is
    (left_agrees limit node sets s (first_good s told turns placed)) in
    few_by s new told agrees.1

pub few_told : (node : List ℕ) (sets : Sets) (s new : Watched) (result : Result (Unit {0}) Stop) → s.told ≡ [] →
    s.turns ≡ [] → IsPlaced s.world → Tells (watched_left limit node sets s) result new →
    OnOk result (new.looks ≤ s.looks + most_looks new.world)
few_told node sets s new (Ok u) told turns placed tells = few_looks node sets s new u told turns placed tells
few_told node sets s new (Err e) told turns placed tells = tt
