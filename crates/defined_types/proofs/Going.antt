-- What a collector looks at, where needless looks are passed over, is what it looks at.
use Rattle.std.proofs.Common.{◌≡◌, ℕ, zero, suc, ◌+◌, ◌<◌, ◌≤◌, Bool, true, false, ◌||◌, List, [], ◌∷◌, length}
use Rattle.std.proofs.Common.{Option, None, Some, Ok, Err, refl, sym, ap, subst, ◌∙◌, arith}
use Rattle.std.proofs.Common.{◌-◌, ltb-false, ltb-true}
use Rattle.std.proofs.lemmas.Option.{slice_get_within}
use Rattle.std.specs.Prelude.{nat_lt, slice_get}
use Rattle.pp_values.specs.declared.reference.Reference.{Reference}
use Rattle.res_book.proofs.Rows.{number_of-below}
use Rattle.res_book.specs.Rows.{item_at, number_of}
use Rattle.class_eval.specs.Evaluators.{one_more}
use Rattle.eval_collecting.proofs.Passing.{named_by, passes_others}
use Rattle.eval_collecting.specs.Matching.{local_match, realized, realized_by}
use Rattle.eval_world.specs.Outcomes.{Outcome, Step, go_on}
use Rattle.eval_world.specs.declared.world.World.{World}
use Rattle.world_laws.proofs.Worlds.{extends_on, same_world}
use Rattle.world_laws.specs.Extends.{Extends}
use Rattle.world_laws.specs.Growing.{Reaches}
use Rattle.collecting_laws.proofs.Looking.{collectors_rise, look_extends, look_length, same_collector}
use Rattle.collecting_laws.proofs.Looking.{told, touched_rises}
use Rattle.collecting_laws.specs.Looks.{touched_at}
use Rattle.collecting_laws.specs.Notes.{IsKnown}
use Rattle.defined_types.specs.Named.{take_named}
use Rattle.defined_types.specs.Rounds.{take_from}
use Rattle.defined_types.specs.Rounds.{take_locals}
use Rattle.defined_types.specs.Watched.{Looked, Watched, Watching, counted, further, is_noted, lifted_by, locals_by}
use Rattle.defined_types.specs.Watched.{noted_by, look, look_from, look_locals, look_named, look_unless, looked_by}
use Rattle.defined_types.specs.Watched.{risen, same_by}
use Rattle.defined_types.specs.declared.watchlist.Told.{Told}
use Rattle.defined_types.proofs.Named.{only_named, others}
use Rattle.defined_types.proofs.Few.{cost_along, count_costs, look_costs, plain, turns_at}
use Rattle.defined_types.proofs.Sums.{cost}
use Rattle.defined_types.proofs.Tables.{told_cases, told_length}
use Rattle.defined_types.proofs.Turning.{IsFresh, IsGood, Turning, looked_at, noted_quiet}
use Rattle.defined_types.proofs.Turning.{passed_over}

-- ---- steps that do what other steps do

-- the same answer and the same world, and this holds then; or the same fault
abbrev pub Agrees : {A : Type 0} → (Watched → Type 0) → World → Looked A → Outcome A → Type 0
Agrees P w (Ok p) o = (o ≡ Ok (p.0, p.1.world)) × P p.1 × Extends w p.1.world
Agrees P w (Err f) o = o ≡ Err f

module _ {A : Type 0} (P : Watched → Type 0) where
  widened : (w v : World) (o : Looked A) (plain : Outcome A) → Extends w v → Agrees P v o plain → Agrees P w o plain
  widened w v (Ok p) plain extends same = (same.0, same.1, extends_on w v p.1.world extends same.2)
  widened w v (Err f) plain extends same = same

  pub mapped : (Q : Watched → Type 0) (w : World) (o : Looked A) (plain : Outcome A) →
      ((v : Watched) → Extends w v.world → P v → Q v) → Agrees P w o plain → Agrees Q w o plain
  mapped Q w (Ok p) plain more same = (same.0, more p.1 same.2 same.1, same.2)
  mapped Q w (Err f) plain more same = same

  rightly : (w : World) (o : Looked A) (plain other : Outcome A) → other ≡ plain → Agrees P w o plain →
      Agrees P w o other
  rightly w o plain other same agrees = subst (Agrees P w o) (sym same) agrees

  -- a step of the evaluator, after which this holds
  pub lifted_agrees : (s : Watched) (o : Outcome A) → Reaches s.world o →
      ((a : A) (w : World) → Extends s.world w → P (record s { world = w })) → Agrees P s.world (lifted_by o s) o
  lifted_agrees s (Ok p) grows holds = (refl, holds p.0 p.1 grows, grows)
  lifted_agrees s (Err f) grows holds = refl

module _ {A B : Type 0} (P Q : Watched → Type 0) where
  pub agrees_then : (w : World) (o : Looked A) (plain : Outcome A) (next : A → Watching B) (rest : A → Step B) →
      Agrees P w o plain →
      ((a : A) (s : Watched) → Extends w s.world → P s → Agrees Q s.world (next a s) (rest a s.world)) →
      Agrees Q w (further o next) (go_on plain rest)
  agrees_then w (Ok p) plain next rest same more =
      subst (λ x. Agrees Q w (next p.0 p.1) (go_on x rest)) (sym same.0)
      (widened Q w p.1.world (next p.0 p.1) (rest p.0 p.1.world) same.2 (more p.0 p.1 same.2 same.1))
  agrees_then w (Err f) plain next rest same more = ap (λ x. go_on x rest) same

-- ---- what looks may have cost

-- between two states: each look is paid for
pub record Few (s v : Watched) : Type 0 where
  pub paid : (cs ns : ℕ) → length v.world.relations.collectors ≤ cs → length v.world.book ≤ ns →
      v.looks + cost cs ns s.told (plain s.turns) ≤ s.looks + cost cs ns v.told (plain v.turns)

pub few_on : (s v u : Watched) → Extends v.world u.world → Few s v → Few v u → Few s u
few_on s v u extends f g = record {
  paid = λ cs ns there below.
      let more = collectors_rise v.world u.world extends in let longer = extends.declarations.longer in
      let first = f.paid cs ns (omega (arith, there, more)) (omega (arith, below, longer)) in
      let next = g.paid cs ns there below in omega (arith, first, next);
}

pub few_not : (s : Watched) (w : World) → Few s (record s { world = w })
few_not s w = record { paid = λ cs ns there below. omega arith }

pub few_counted : (s : Watched) → IsGood s → Few s (counted s)
unfolding counted
few_counted s good = record {
  paid = λ cs ns there below.
      let more = count_costs s.world s.told s.turns s.clock (length s.world.relations.collectors) cs ns good.within
      good.low in
      omega (arith, more);
}

-- ---- one look

-- a collector's turn that began in one state, over so many declarations
pub record Going (c all : ℕ) (s : Watched) (n : ℕ) (v : Watched) : Type 0 where
  pub turning : Turning c s.clock n v
  pub within : length v.told ≤ all
  pub whole : all ≤ length v.told
  pub sized : length v.world.book ≡ all
  pub turn_there : c < length v.turns
  pub same_turns : v.turns ≡ s.turns
  pub rest : (m : ℕ) (t : Told) → n ≤ m → slice_get v.told m ≡ Some t → t.risen ≤ s.clock
  pub paid : (cs ns : ℕ) → length v.world.relations.collectors ≤ cs → length v.world.book ≤ ns →
      v.looks + cost cs ns s.told (plain s.turns) ≤ s.looks + cost cs ns v.told (turns_at v.turns c s.clock n)

row_at : (told : List Told) (n : ℕ) → n < length told → (t : Told) × (slice_get told n ≡ Some t)
row_at [] n below = absurd (omega (arith, below))
row_at (t ∷ ts) zero below = (t, refl)
row_at (t ∷ ts) (suc n) below = row_at ts n (omega (arith, below))

-- further along, with nothing looked at
along_to : (c all : ℕ) (s : Watched) (n last : ℕ) (v : Watched) → n ≤ last → Going c all s n v →
    Turning c s.clock last v →
    Going c all s last v
along_to c all s n last v up going turning = record {
  turning = turning;
  within = going.within;
  whole = going.whole;
  sized = going.sized;
  turn_there = going.turn_there;
  same_turns = going.same_turns;
  rest = λ m t past. going.rest m t (omega (arith, past, up));
  paid = λ cs ns there below.
      let before = going.paid cs ns there below in
      let more = cost_along v.told v.turns c s.clock cs ns n last up going.rest in omega (arith, before, more);
}

least : (looks : ℕ) → one_more looks ≤ suc looks
least looks = omega arith

module _ (c all : ℕ) (s : Watched) (n : ℕ) (v : Watched) (going : Going c all s n v) (lower : n < all) where
  below_now : n < length v.world.book
  below_now = let sized = going.sized in omega (arith, sized, lower)

  abbrev row : (t : Told) × (slice_get v.told n ≡ Some t)
  row = row_at v.told n (let whole = going.whole in omega (arith, whole, lower))

  module _ (w : World) (a : Bool) (is : local_match c n v.world ≡ Ok (a, w)) (none : is_noted c n v ≡ false) where
    abbrev same : Bool
    same = same_by (slice_get v.told n) (touched_at w n)

    abbrev behind : Watched
    behind = risen n (touched_at w n) (record v { looks = one_more v.looks; world = w })

    extends : Extends v.world w
    extends = look_extends c n v.world w a is

    low : row.0.touched ≤ touched_at w n
    low =
        let before = going.turning.is_good.low n row.0 row.1 in
        let rises = touched_rises n v.world w extends below_now in omega (arith, before, rises)

    going_on : Going c all s (suc n) behind
    going_on = record {
      turning = looked_at c s.clock n v w a (one_more v.looks) going.turning below_now is;
      within =
          let count = told_length same n (touched_at w n) v.told v.clock in
          let within = going.within in omega (arith, count, within);
      whole =
          let count = told_length same n (touched_at w n) v.told v.clock in
          let whole = going.whole in omega (arith, count, whole);
      sized = look_length c n v.world w a is ∙ going.sized;
      turn_there = going.turn_there;
      same_turns = going.same_turns;
      rest = λ m t past at. told_cases same n (touched_at w n) v.told v.clock m t at
          (λ rose here now. absurd (omega (arith, here, past)))
          (λ here before. going.rest m t (omega (arith, past)) before);
      paid = λ cs ns there below.
          let more = collectors_rise v.world w extends in let longer = extends.declarations.longer in
          let here = going.turning.there in let sized = below_now in
          let before = going.paid cs ns (omega (arith, there, more)) (omega (arith, below, longer)) in
          let cost_more = look_costs v.told v.turns c s.clock n (touched_at w n) v.clock row.0 row.1 low
          (going.rest n row.0 (omega arith) row.1) (sym (ap (λ o. noted_by o (slice_get v.turns c)) row.1) ∙ none) cs ns
          (omega (arith, there, more, here)) (omega (arith, below, longer, sized)) in
          let one = least v.looks in omega (arith, before, cost_more, one);
    }

  looked_agrees : (o : Outcome Bool) → local_match c n v.world ≡ o → is_noted c n v ≡ false →
      Agrees (Going c all s (suc n)) v.world (looked_by n (lifted_by o (record v { looks = one_more v.looks }))) o
  looked_agrees (Ok p) is none = (refl, going_on p.1 p.0 is none, look_extends c n v.world p.1 p.0 is)
  looked_agrees (Err f) is none = refl

  unless_agrees : (b : Bool) → is_noted c n v ≡ b →
      Agrees (Going c all s (suc n)) v.world (look_unless b c n v) (local_match c n v.world)
  unless_agrees true is = (
    noted_quiet c n v going.turning.is_good going.turning.fresh is,
    along_to c all s n (suc n) v (omega arith) going (passed_over c s.clock n v going.turning is),
    same_world v.world,
  )
  unless_agrees false is = looked_agrees (local_match c n v.world) refl is

  look_agrees : Agrees (Going c all s (suc n)) v.world (look c n v) (local_match c n v.world)
  unfolding look
  look_agrees = unless_agrees (is_noted c n v) refl

-- ---- all of a collector's looks

from_agrees : (c all : ℕ) (s : Watched) (added : Bool) (n left : ℕ) (v : Watched) → Going c all s n v → n + left ≡ all →
    Agrees (Going c all s all) v.world (look_from c added n left v) (take_from c added n left v.world)
unfolding look_from take_from
from_agrees c all s added n zero v going last =
    let same : n ≡ all = omega (arith, last) in
    (refl, subst (λ k. Going c all s k v) same going, same_world v.world)
from_agrees c all s added n (suc left) v going last =
    agrees_then (Going c all s (suc n)) (Going c all s all) v.world (look c n v) (local_match c n v.world)
    (λ more. look_from c (more || added) (n + 1) left) (λ more. take_from c (more || added) (n + 1) left)
    (look_agrees c all s n v going (omega (arith, last)))
    (λ more u extends going_on.
    let next : suc n ≡ n + 1 = omega arith in
    from_agrees c all s (more || added) (n + 1) left u (subst (λ k. Going c all s k u) next going_on)
    (omega (arith, last)))

-- ---- what a collector of `realize` looks at

-- it takes no declaration that it doesn't name
other_known : (c : ℕ) (q : Reference) (s : Watched) (m : ℕ) (t : Told) → IsGood s → IsFresh s →
    c < length s.world.relations.collectors → realized s.world c ≡ Some q →
    named_by q (item_at s.world.book m) ≡ false →
    slice_get s.told m ≡ Some t → IsKnown s.world c m t.touched
other_known c q s m t good fresh there is other at = record {
  there = there;
  below = let within = slice_get_within s.told m t at in let all = good.within in omega (arith, within, all);
  risen = let same = fresh m t at in omega (arith, same);
  quiet = λ same. passes_others c m q s.world is other;
}

module _ (c begun : ℕ) (q : Reference) (s : Watched) (is : realized s.world c ≡ Some q) where
  -- of those up to a number, where only what it names needs a look
  turn_up : (n all : ℕ) → Turning c begun n s →
      ((m : ℕ) → n ≤ m → named_by q (item_at s.world.book m) ≡ false) → Turning c begun all s
  turn_up n all turning other = record {
    is_good = turning.is_good;
    fresh = turning.fresh;
    there = turning.there;
    since = turning.since;
    done = λ m t below at early. done_by m t at early (nat_lt m n) refl;
  } where
    done_by : (m : ℕ) (t : Told) → slice_get s.told m ≡ Some t → t.risen ≤ begun → (b : Bool) → nat_lt m n ≡ b →
        IsKnown s.world c m t.touched
    done_by m t at early true less = turning.done m t (ltb-true m n less) at early
    done_by m t at early false past =
        other_known c q s m t turning.is_good turning.fresh turning.there is (other m (ltb-false m n past)) at

-- where it names none
none_agrees : (c all : ℕ) (q : Reference) (s v : Watched) → realized v.world c ≡ Some q → Going c all s 0 v →
    number_of q v.world.book ≡ None →
    Agrees (Going c all s all) v.world (look_named c None v) (take_named c None v.world)
none_agrees c all q s v is going none = (
  refl,
  along_to c all s 0 all v (omega arith) going (turn_up c s.clock q v is 0 all going.turning (λ m past.
      others v.world.book q m going.turning.is_good.good.placed.apart
      (λ at. let no : None ≡ Some m = sym none ∙ at in absurd cc))),
  same_world v.world,
)

same_number : (m k : ℕ) → Prim.Path (Option ℕ) (Some m) (Some k) → m ≡ k
same_number m k e = cc

-- of others than the one that it names
other_number : (k : ℕ) (q : Reference) (s : Watched) (m : ℕ) → IsGood s → number_of q s.world.book ≡ Some k →
    ¬ (m ≡ k) → named_by q (item_at s.world.book m) ≡ false
other_number k q s m good found apart =
    others s.world.book q m good.good.placed.apart (λ at. apart (same_number m k (sym at ∙ found)))

module _ (c all k : ℕ) (q : Reference) (s v : Watched) (is : realized v.world c ≡ Some q) (going : Going c all s 0 v)
    (found : number_of q v.world.book ≡ Some k) where
  -- the ones before it
  up_to : Going c all s k v
  up_to = along_to c all s 0 k v (omega arith) going (record {
    is_good = going.turning.is_good;
    fresh = going.turning.fresh;
    there = going.turning.there;
    since = going.turning.since;
    done = λ m t below at early.
        other_known c q v m t going.turning.is_good going.turning.fresh going.turning.there is
        (other_number k q v m going.turning.is_good found (λ same. omega (arith, same, below))) at;
  })

  lower : k < all
  lower = let below = number_of-below q v.world.book k found in let sized = going.sized in omega (arith, below, sized)

  -- and those behind it
  from_there : (u : Watched) → Extends v.world u.world → Going c all s (suc k) u → Going c all s all u
  from_there u extends then_going = along_to c all s (suc k) all u (let less = lower in omega (arith, less)) then_going
      (turn_up c s.clock q u
      (ap realized_by (same_collector v.world u.world c extends going.turning.there) ∙ is) (suc k) all
      then_going.turning
      (λ m past.
      other_number k q u m then_going.turning.is_good (extends.declarations.number q k found)
      (λ same. omega (arith, same, past))))

  some_agrees : Agrees (Going c all s all) v.world (look_named c (Some k) v) (take_named c (Some k) v.world)
  some_agrees =
      mapped (Going c all s (suc k)) (Going c all s all) v.world (look c k v) (local_match c k v.world)
      (λ u extends then_going. from_there u extends then_going) (look_agrees c all s k v up_to lower)

named_agrees : (c all : ℕ) (q : Reference) (s v : Watched) (found : Option ℕ) → realized v.world c ≡ Some q →
    Going c all s 0 v → number_of q v.world.book ≡ found →
    Agrees (Going c all s all) v.world (look_named c found v) (take_named c found v.world)
named_agrees c all q s v None is going found = none_agrees c all q s v is going found
named_agrees c all q s v (Some k) is going found = some_agrees c all k q s v is going found

-- ---- a turn's looks

locals_agree : (c all : ℕ) (s v : Watched) (o : Option Reference) → realized v.world c ≡ o → Going c all s 0 v →
    Agrees (Going c all s all) v.world (locals_by o c v) (take_locals c v.world)
locals_agree c all s v None is going =
    subst (λ k. Agrees (Going c all s all) v.world (look_from c false 0 k v) (take_from c false 0 k v.world))
    (sym going.sized)
    (from_agrees c all s false 0 all v going (omega arith))
locals_agree c all s v (Some q) is going =
    rightly (Going c all s all) v.world (look_named c (number_of q v.world.book) v)
    (take_named c (number_of q v.world.book) v.world) (take_locals c v.world)
    (only_named c q v.world is going.turning.is_good.good.placed.apart)
    (named_agrees c all q s v (number_of q v.world.book) is going refl)

pub looks_agree : (c all : ℕ) (s v : Watched) → Going c all s 0 v →
    Agrees (Going c all s all) v.world (look_locals c v) (take_locals c v.world)
unfolding look_locals
looks_agree c all s v going = locals_agree c all s v (realized v.world c) refl going
