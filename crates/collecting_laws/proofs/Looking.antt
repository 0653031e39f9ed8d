-- A look at a declaration: when it finds nothing, and that it goes on to find nothing.
use Rattle.std.proofs.Common.{◌≡◌, ℕ, zero, suc, ◌<◌, ◌≤◌, Bool, true, false, not, ◌&&◌, ◌||◌, List, [], ◌∷◌, ◌++◌}
use Rattle.std.proofs.Common.{length, Option, None, Some, option_map, Result, Ok, Err, refl, sym, ap, subst, ◌∙◌}
use Rattle.std.proofs.Common.{true≢false, ◌+◌, eqb, eq-eqb, length-append, arith}
use Rattle.std.specs.Prelude.{slice_get}
use Rattle.override_rules.specs.Meaning.{State, touched_by}
use Rattle.override_rules.specs.Names.{attributes_of}
use Rattle.pp_values.specs.declared.fault.Fault.{Fault}
use Rattle.res_book.proofs.Applied.{applied-marked}
use Rattle.res_book.proofs.Growth.{row-change}
use Rattle.res_book.proofs.Rows.{length-change}
use Rattle.res_book.specs.Relations.{Related, is_applied, same_pair, with_applied}
use Rattle.res_book.specs.Rows.{is_live, is_live_at, is_virtual, marked, passes, with_mark}
use Rattle.res_book.specs.declared.collector.Collector.{Collector}
use Rattle.res_book.specs.declared.mode.Mode.{Mode}
use Rattle.res_book.specs.declared.row.Row.{Row}
use Rattle.res_core.specs.declared.declared.Declared.{Declared}
use Rattle.eval_collecting.specs.Blocks.{apply_block, apply_if, block_applied, has_lines, is_due, lines_added, said_at}
use Rattle.eval_collecting.specs.Matching.{asks, local_match, may_take, take, take_if, taken_by, takes, takes_at}
use Rattle.eval_world.specs.Outcomes.{Outcome, go_on, pure}
use Rattle.eval_world.specs.Worlds.{with_overrides}
use Rattle.eval_world.specs.declared.world.World.{World}
use Rattle.world_laws.proofs.OfCollecting.{local_match_grows}
use Rattle.world_laws.specs.Extends.{Extends, IsPlaced}
use Rattle.world_laws.specs.Growing.{Reaches}
use Rattle.collecting_laws.proofs.Attributes.{attributes_stay, row_rises}
use Rattle.collecting_laws.specs.Looks.{IsQuiet, touched_at, touched_row}

-- ---- answers

pub told : {A : Type 0} {a b : A} {w v : World} → Prim.Path (Outcome A) (Ok (a, w)) (Ok (b, v)) → a ≡ b
told {a = a} e = ap (λ o. answer_or a o) e where
  answer_or : {A : Type 0} → A → Outcome A → A
  answer_or d (Ok p) = p.0
  answer_or d (Err f) = d

pub after : {A : Type 0} {a b : A} {w v : World} → Prim.Path (Outcome A) (Ok (a, w)) (Ok (b, v)) → w ≡ v
after {w = w} e = ap (λ o. world_or w o) e where
  world_or : {A : Type 0} → World → Outcome A → World
  world_or d (Ok p) = p.1
  world_or d (Err f) = d

pub not_refused : {A : Type 0} {f : Fault} {p : A × World} → Prim.Path (Outcome A) (Err f) (Ok p) → ⊥
not_refused e = absurd cc

-- ---- marks

mark_twice : (n : ℕ) (rows : List Row) → with_mark n (with_mark n rows) ≡ with_mark n rows
mark_twice n [] = refl
mark_twice zero (r ∷ rs) = refl
mark_twice (suc n) (r ∷ rs) = ap (λ l. r ∷ l) (mark_twice n rs)

unwrap : Row → Option Row → Row
unwrap d None = d
unwrap d (Some r) = r

-- what has its mark
mark_marked : (n : ℕ) (rows : List Row) (r : Row) → slice_get rows n ≡ Some r → r.marked ≡ true →
    with_mark n rows ≡ rows
unfolding unwrap
mark_marked n [] r at is = refl
mark_marked zero (x ∷ rs) r at is =
    let same : x ≡ r = ap (unwrap x) at in
    let so : x.marked ≡ true = ap (λ (y : Row). y.marked) same ∙ is in
    ap (λ y. y ∷ rs) (ap (λ b. record x { marked = b }) (sym so))
mark_marked (suc n) (x ∷ rs) r at is = ap (λ l. x ∷ l) (mark_marked n rs r at is)

-- where a mark changes nothing, there was one
was_marked : (n : ℕ) (rows : List Row) (r : Row) → slice_get rows n ≡ Some r → with_mark n rows ≡ rows → r.marked ≡ true
unfolding unwrap
was_marked n rows r at same =
    let here : Some r ≡ Some (marked r) =
    sym at ∙ ap (λ l. slice_get l n) (sym same) ∙ row-change marked n rows ∙ ap (option_map marked) at in
    ap (λ (x : Row). x.marked) (ap (unwrap r) here)

or_true : (b : Bool) → (b || true) ≡ true
or_true true = refl
or_true false = refl

live_marked : (rows : List Row) (n : ℕ) (r : Row) → slice_get rows n ≡ Some r → r.marked ≡ true →
    is_live_at rows n ≡ true
live_marked rows n r at is =
    ap (passes is_live) at ∙ ap (λ b. not (is_virtual r.mode) || b) is ∙ or_true (not (is_virtual r.mode))

-- ---- what is taken is there

none_taken : (s : State) (c : Option Collector) → taken_by s c None ≡ false
none_taken s None = refl
none_taken s (Some c) = refl

found : (s : State) (c : Option Collector) (o : Option Row) → taken_by s c o ≡ true → (r : Row) × (o ≡ Some r)
found s c None e = absurd (true≢false (sym e ∙ none_taken s c))
found s c (Some r) e = (r, refl)

-- ---- what is done with what is taken

-- it has its mark, and no block is left to be applied to it
record IsDone (w : World) (c n : ℕ) : Type 0 where
  is_marked : with_mark n w.book ≡ w.book
  is_applied : is_due w c n ≡ false

pub not_due : (w : World) (c n : ℕ) → is_due w c n ≡ false → block_applied c n w ≡ Ok (false, w)
unfolding block_applied
not_due w c n e = ap (λ b. apply_if b c n (said_at w c n) w) e

done_take : (w : World) (c n : ℕ) → takes_at w c n ≡ true → IsDone w c n → take c n w ≡ Ok (false, w)
unfolding take
done_take w c n taken done =
    let there = found w.overrides (slice_get w.relations.collectors c) (slice_get w.book n) taken in
    let live : is_live_at w.book n ≡ true =
    live_marked w.book n there.0 there.1 (was_marked n w.book there.0 there.1 done.is_marked) in
    ap (λ rows. go_on (block_applied c n (record w { book = rows })) (λ d. pure (not (is_live_at w.book n) || d)))
    done.is_marked
    ∙ ap (λ o. go_on o (λ d. pure (not (is_live_at w.book n) || d))) (not_due w c n done.is_applied)
    ∙ ap (λ b. Ok (not b || false, w)) live

-- so nothing is found where all that is taken is done with
done_quiet : (w : World) (c n : ℕ) (b : Bool) → takes_at w c n ≡ b → (b ≡ true → IsDone w c n) → IsQuiet w c n
unfolding local_match
done_quiet w c n false is done = ap (λ b. take_if b c n w) is
done_quiet w c n true is done = ap (λ b. take_if b c n w) is ∙ done_take w c n is (done refl)

-- ---- a block

-- where it is applied, something is added, to what was said; and no more is left to be applied
lines_put : (c n : ℕ) (w v : World) (a : Bool) (r : Result (Unit {0} × State) Fault) →
    go_on (with_overrides r (record w { relations = with_applied c n w.relations })) (λ u. pure true) ≡ Ok (a, v) →
    (a ≡ true) × (s : State) × (record w { relations = with_applied c n w.relations; overrides = s } ≡ v)
lines_put c n w v a (Ok p) e = (sym (told e), p.1, after e)
lines_put c n w v a (Err f) e = absurd (not_refused e)

same_pair_itself : (c n : ℕ) → same_pair (c, n) (c, n) ≡ true
same_pair_itself c n = ap (λ b. b && eqb n n) (eq-eqb c c refl) ∙ eq-eqb n n refl

applied_now : (c n : ℕ) (r : Related) → is_applied c n (with_applied c n r) ≡ true
applied_now c n r = applied-marked c n c n r ∙ ap (λ b. b || is_applied c n r) (same_pair_itself c n)

and_false : (b : Bool) → (b && false) ≡ false
and_false true = refl
and_false false = refl

-- whatever else became of the world
pub due_no_more : (c n : ℕ) (r : Related) →
    (has_lines (slice_get (with_applied c n r).collectors c) && not (is_applied c n (with_applied c n r))) ≡ false
due_no_more c n r =
    ap (λ b. has_lines (slice_get r.collectors c) && not b) (applied_now c n r)
    ∙ and_false (has_lines (slice_get r.collectors c))

-- whatever it answers, the declarations stay, and no block is due any more
pub block_leaves : (w v : World) (c n : ℕ) (a b : Bool) → is_due w c n ≡ b → block_applied c n w ≡ Ok (a, v) →
    (v.book ≡ w.book) × (is_due v c n ≡ false)
unfolding block_applied apply_block
block_leaves w v c n a false is e =
    let same : w ≡ v = after (sym (ap (λ d. apply_if d c n (said_at w c n) w) is) ∙ e) in
    (ap (λ (x : World). x.book) (sym same), subst (λ x. is_due x c n ≡ false) same is)
block_leaves w v c n a true is e =
    let put = lines_put c n w v a (lines_added w.book (said_at w c n) w.overrides)
    (sym (ap (λ d. apply_if d c n (said_at w c n) w) is) ∙ e) in
    (ap (λ (x : World). x.book) (sym put.2), subst (λ x. is_due x c n ≡ false) put.2 (due_no_more c n w.relations))

-- and where it adds nothing, it was not due
pub block_nothing : (w v : World) (c n : ℕ) (b : Bool) → is_due w c n ≡ b → block_applied c n w ≡ Ok (false, v) →
    (is_due w c n ≡ false) × (w ≡ v)
unfolding block_applied apply_block
block_nothing w v c n false is e = (is, after (sym (ap (λ d. apply_if d c n (said_at w c n) w) is) ∙ e))
block_nothing w v c n true is e =
    absurd (true≢false (sym (lines_put c n w v false (lines_added w.book (said_at w c n) w.overrides)
    (sym (ap (λ d. apply_if d c n (said_at w c n) w) is) ∙ e)).0))

-- ---- a second look right away

-- what was done with is done with
take_by : (c n : ℕ) (w v : World) (live a : Bool) (o : Outcome Bool) →
    block_applied c n (record w { book = with_mark n w.book }) ≡ o →
    go_on o (λ d. pure (live || d)) ≡ Ok (a, v) → IsDone v c n
take_by c n w v live a (Err f) is e = absurd (not_refused e)
take_by c n w v live a (Ok p) is e =
    let left = block_leaves (record w { book = with_mark n w.book }) p.1 c n p.0
    (is_due (record w { book = with_mark n w.book }) c n) refl is in
    subst (λ x. IsDone x c n) (after e) (record {
      is_marked = ap (with_mark n) left.0 ∙ mark_twice n w.book ∙ sym left.0;
      is_applied = left.1;
    })

take_again : (c n : ℕ) (w v : World) (a : Bool) → take c n w ≡ Ok (a, v) → IsDone v c n
unfolding take
take_again c n w v a e =
    take_by c n w v (not (is_live_at w.book n)) a (block_applied c n (record w { book = with_mark n w.book })) refl e

again_by : (c n : ℕ) (w v : World) (a b : Bool) → takes_at w c n ≡ b → local_match c n w ≡ Ok (a, v) → IsQuiet v c n
unfolding local_match
again_by c n w v a false is e =
    let same : w ≡ v = after (sym (ap (λ d. take_if d c n w) is) ∙ e) in
    subst (λ x. IsQuiet x c n) same (done_quiet w c n false is (λ no. absurd (true≢false (sym no))))
again_by c n w v a true is e =
    let done : IsDone v c n = take_again c n w v a (sym (ap (λ d. take_if d c n w) is) ∙ e) in
    done_quiet v c n (takes_at v c n) refl (λ yes. done)

pub quiet_again : (c n : ℕ) (w v : World) (a : Bool) → local_match c n w ≡ Ok (a, v) → IsQuiet v c n
quiet_again c n w v a e = again_by c n w v a (takes_at w c n) refl e

-- ---- what is taken where nothing is found is done with

second_false : (a b : Bool) → (a || b) ≡ false → b ≡ false
second_false true b e = absurd (true≢false e)
second_false false b e = e

nothing_by : (c n : ℕ) (w : World) (live : Bool) (o : Outcome Bool) →
    block_applied c n (record w { book = with_mark n w.book }) ≡ o →
    go_on o (λ d. pure (live || d)) ≡ Ok (false, w) → IsDone w c n
nothing_by c n w live (Err f) is e = absurd (not_refused e)
nothing_by c n w live (Ok p) is e =
    let none : p.0 ≡ false = second_false live p.0 (told e) in
    let at = block_nothing (record w { book = with_mark n w.book }) p.1 c n
    (is_due (record w { book = with_mark n w.book }) c n) refl (is ∙ ap (λ b. Ok (b, p.1)) none) in
    record { is_marked = ap (λ (x : World). x.book) (at.1 ∙ after e); is_applied = at.0 }

quiet_done : (c n : ℕ) (w : World) → takes_at w c n ≡ true → IsQuiet w c n → IsDone w c n
unfolding local_match take
quiet_done c n w is quiet =
    nothing_by c n w (not (is_live_at w.book n)) (block_applied c n (record w { book = with_mark n w.book })) refl
    (sym (ap (λ d. take_if d c n w) is) ∙ quiet)

-- ---- what stays of a declaration

row_at : (rows : List Row) (n : ℕ) → n < length rows → (r : Row) × (slice_get rows n ≡ Some r)
row_at [] n below = absurd (omega (arith, below))
row_at (r ∷ rs) zero below = (r, refl)
row_at (r ∷ rs) (suc n) below = row_at rs n (omega (arith, below))

mapped : {A : Type 0} (part : Row → A) (o : Option Row) (a : A) → option_map part o ≡ Some a →
    (r : Row) × (o ≡ Some r) × (part r ≡ a)
mapped part None a e = absurd cc
mapped part (Some r) a e = (r, refl, ap (value_or a) e) where
  value_or : {A : Type 0} → A → Option A → A
  value_or d None = d
  value_or d (Some x) = x

record Stays (old new : Row) : Type 0 where
  item : new.declared ≡ old.declared
  mode : new.mode ≡ old.mode
  is_marked : old.marked ≡ true → new.marked ≡ true

value : {A : Type 0} → A → Option A → A
value d None = d
value d (Some x) = x

module _ (w v : World) (extends : Extends w v) (n : ℕ) (r : Row) (at : slice_get w.book n ≡ Some r) where
  row_on : (s : Row) × (slice_get v.book n ≡ Some s) × Stays r s
  unfolding mapped value
  row_on =
      let items = mapped (λ x. x.declared) (slice_get v.book n) r.declared
      (extends.declarations.item n r.declared (ap (option_map (λ (x : Row). x.declared)) at)) in
      let modes : option_map (λ (x : Row). x.mode) (Some items.0) ≡ Some r.mode =
      ap (option_map (λ (x : Row). x.mode)) (sym items.1)
      ∙ extends.declarations.mode n r.mode (ap (option_map (λ (x : Row). x.mode)) at) in (
        items.0,
        items.1,
        record {
          item = items.2;
          mode = ap (value r.mode) modes;
          is_marked = λ m. sym (ap (passes (λ x. x.marked)) items.1)
              ∙ extends.marks n (ap (passes (λ x. x.marked)) at ∙ m);
        },
      )

-- ---- whether it is taken

-- its mark and its parameters don't matter
takes_of : State → Collector → Declared → Mode → Bool
takes_of s c item mode = takes s c (record { declared = item; mode = mode; marked = false; bound = None })

takes_plain : (s : State) (c : Collector) (r : Row) → takes s c r ≡ takes_of s c r.declared r.mode
unfolding takes_of takes attributes_of
takes_plain s c r = refl

takes_same : (old new : State) (c : Collector) (r s : Row) → Stays r s →
    attributes_of new r ≡ attributes_of old r → takes new c s ≡ takes old c r
unfolding takes
takes_same old new c r s stays same =
    takes_plain new c s
    ∙ ap (λ i. takes_of new c i s.mode) stays.item
    ∙ ap (λ m. takes_of new c r.declared m) stays.mode
    ∙ sym (takes_plain new c r)
    ∙ ap (λ set. may_take c r && asks c.realized c.query r.declared.item set) same

taken_same : (old new : State) (c : Option Collector) (r s : Row) → Stays r s →
    attributes_of new r ≡ attributes_of old r → taken_by new c (Some s) ≡ taken_by old c (Some r)
taken_same old new None r s stays same = refl
taken_same old new (Some c) r s stays same = takes_same old new c r s stays same

-- ---- collectors, and blocks that were applied

kept_front : {A : Type 0} (xs ys : List A) (c : ℕ) → c < length xs → slice_get (xs ++ ys) c ≡ slice_get xs c
kept_front [] ys c below = absurd (omega (arith, below))
kept_front (x ∷ xs) ys zero below = refl
kept_front (x ∷ xs) ys (suc c) below = kept_front xs ys c (omega (arith, below))

pub same_collector : (w v : World) (c : ℕ) → Extends w v → c < length w.relations.collectors →
    slice_get v.relations.collectors c ≡ slice_get w.relations.collectors c
same_collector w v c extends there =
    ap (λ cs. slice_get cs c) extends.relations.collectors.is
    ∙ kept_front w.relations.collectors extends.relations.collectors.more c there

due_by : (h p q : Bool) → (h && not p) ≡ false → (p ≡ true → q ≡ true) → (h && not q) ≡ false
due_by false p q e f = refl
due_by true true q e f = ap not (f refl)
due_by true false q e f = absurd (true≢false e)

pub not_due_later : (w v : World) (c n : ℕ) → Extends w v → c < length w.relations.collectors → is_due w c n ≡ false →
    is_due v c n ≡ false
not_due_later w v c n extends there none =
    ap (λ o. has_lines o && not (is_applied c n v.relations)) (same_collector w v c extends there)
    ∙ due_by (has_lines (slice_get w.relations.collectors c)) (is_applied c n w.relations)
    (is_applied c n v.relations) none (λ yes. extends.relations.applied c n yes)

-- ---- a look later

module _ (w v : World) (extends : Extends w v) (n : ℕ) (below : n < length w.book) where
  abbrev old_row : (r : Row) × (slice_get w.book n ≡ Some r)
  old_row = row_at w.book n below

  abbrev new_row : (s : Row) × (slice_get v.book n ≡ Some s) × Stays old_row.0 s
  new_row = row_on w v extends n old_row.0 old_row.1

  now_touched : touched_at v n ≡ touched_by v.overrides old_row.0
  now_touched =
      ap (touched_row v.overrides) new_row.1
      ∙ ap (λ (i : Declared). touched_by v.overrides (record (old_row.0) { declared = i })) new_row.2.item

  then_touched : touched_at w n ≡ touched_by w.overrides old_row.0
  then_touched = ap (touched_row w.overrides) old_row.1

  rises : touched_at w n ≤ touched_at v n
  rises =
      let more = row_rises w.overrides v.overrides old_row.0 extends.overrides in
      let now = now_touched in let before = then_touched in omega (arith, more, now, before)

  module _ (placed : IsPlaced w) (same : touched_at v n ≡ touched_at w n) where
    same_attributes : attributes_of v.overrides old_row.0 ≡ attributes_of w.overrides old_row.0
    same_attributes =
        attributes_stay w.overrides v.overrides old_row.0 extends.overrides placed.nested
        (placed.items n old_row.0.declared (ap (option_map (λ (x : Row). x.declared)) old_row.1))
        (sym now_touched ∙ same ∙ then_touched)

    module _ (c : ℕ) (there : c < length w.relations.collectors) where
      same_taken : takes_at v c n ≡ takes_at w c n
      same_taken =
          ap (λ o. taken_by v.overrides o (slice_get v.book n)) (same_collector w v c extends there)
          ∙ ap (taken_by v.overrides (slice_get w.relations.collectors c)) new_row.1
          ∙ taken_same w.overrides v.overrides (slice_get w.relations.collectors c) old_row.0 new_row.0 new_row.2
          same_attributes
          ∙ ap (taken_by w.overrides (slice_get w.relations.collectors c)) (sym old_row.1)

      done_later : IsDone w c n → IsDone v c n
      done_later done = record {
        is_marked = mark_marked n v.book new_row.0 new_row.1
            (new_row.2.is_marked (was_marked n w.book old_row.0 old_row.1 done.is_marked));
        is_applied = not_due_later w v c n extends there done.is_applied;
      }

      quiet_on : IsQuiet w c n → IsQuiet v c n
      quiet_on quiet =
          done_quiet v c n (takes_at v c n) refl
          (λ taken. done_later (quiet_done c n w (sym same_taken ∙ taken) quiet))

pub touched_rises : (n : ℕ) (w v : World) → Extends w v → n < length w.book → touched_at w n ≤ touched_at v n
touched_rises n w v extends below = rises w v extends n below

pub quiet_later : (c n : ℕ) (w v : World) → IsPlaced w → Extends w v → c < length w.relations.collectors →
    n < length w.book → touched_at v n ≡ touched_at w n → IsQuiet w c n → IsQuiet v c n
quiet_later c n w v placed extends there below same quiet = quiet_on w v extends n below placed same c there quiet

pub collectors_rise : (w v : World) → Extends w v → length w.relations.collectors ≤ length v.relations.collectors
collectors_rise w v extends =
    let count : length v.relations.collectors
    ≡ length w.relations.collectors + length extends.relations.collectors.more =
    ap length extends.relations.collectors.is
    ∙ length-append w.relations.collectors extends.relations.collectors.more in omega (arith, count)

pub look_extends : (c n : ℕ) (w v : World) (a : Bool) → local_match c n w ≡ Ok (a, v) → Extends w v
look_extends c n w v a e = subst (Reaches w) e ((local_match_grows c n).reaches w)

pub quiet_second : (c n : ℕ) (w v u : World) (a : Bool) → IsPlaced w → c < length w.relations.collectors →
    n < length w.book → local_match c n w ≡ Ok (a, v) → Extends v u → touched_at u n ≡ touched_at w n → IsQuiet u c n
quiet_second c n w v u a placed there below e further same =
    let extends = look_extends c n w v a e in
    let more = collectors_rise w v extends in
    let longer = extends.declarations.longer in
    let there_now : c < length v.relations.collectors = omega (arith, there, more) in
    let below_now : n < length v.book = omega (arith, below, longer) in
    let first = touched_rises n w v extends below in
    let next = touched_rises n v u further below_now in
    quiet_later c n v u (extends.placed placed) further there_now below_now (omega (arith, same, first, next))
    (quiet_again c n w v a e)

-- ---- how many declarations there are

take_length : (c n : ℕ) (w v : World) (live a : Bool) (o : Outcome Bool) →
    block_applied c n (record w { book = with_mark n w.book }) ≡ o →
    go_on o (λ d. pure (live || d)) ≡ Ok (a, v) → length v.book ≡ length w.book
take_length c n w v live a (Err f) is e = absurd (not_refused e)
take_length c n w v live a (Ok p) is e =
    ap (λ (x : World). length x.book) (sym (after e))
    ∙ ap length (block_leaves (record w { book = with_mark n w.book }) p.1 c n p.0
    (is_due (record w { book = with_mark n w.book }) c n) refl is).0
    ∙ length-change marked n w.book

look_length_by : (c n : ℕ) (w v : World) (a b : Bool) → takes_at w c n ≡ b → local_match c n w ≡ Ok (a, v) →
    length v.book ≡ length w.book
unfolding local_match take
look_length_by c n w v a false is e =
    ap (λ (x : World). length x.book) (sym (after (sym (ap (λ d. take_if d c n w) is) ∙ e)))
look_length_by c n w v a true is e =
    take_length c n w v (not (is_live_at w.book n)) a (block_applied c n (record w { book = with_mark n w.book })) refl
    (sym (ap (λ d. take_if d c n w) is) ∙ e)

-- a look declares nothing
pub look_length : (c n : ℕ) (w v : World) (a : Bool) → local_match c n w ≡ Ok (a, v) → length v.book ≡ length w.book
look_length c n w v a e = look_length_by c n w v a (takes_at w c n) refl e
