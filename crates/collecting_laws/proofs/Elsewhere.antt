-- A look at one declaration concerns no other one.
use Rattle.std.proofs.Common.{◌≡◌, ℕ, Bool, true, false, not, ◌&&◌, ◌||◌, cond, List, [], ◌∷◌, ◌++◌, map, ◌+◌, ◌⊎◌, inl}
use Rattle.std.proofs.Common.{inr, Option, None, Some, option_map, Result, Ok, Err, refl, sym, ap, subst, ◌∙◌}
use Rattle.std.proofs.Common.{true≢false, append-nil}
use Rattle.std.proofs.lemmas.List.Elements.{filter-append}
use Rattle.std.proofs.lemmas.Slice.Eq.{bytes_eq-Decides}
use Rattle.std.specs.Prelude.{length, slice_get}
use Rattle.std.specs.Str.{bytes_eq}
use Rattle.override_rules.specs.Defaults.{defaults_for}
use Rattle.override_rules.specs.Lines.{is_on, lines_on}
use Rattle.override_rules.specs.Meaning.{State, row_of, test_of, tested, touched_by, with_line}
use Rattle.pp_values.specs.Answers.{and_then}
use Rattle.pp_values.specs.References.{same_reference}
use Rattle.pp_values.specs.declared.fault.Fault.{Fault}
use Rattle.pp_values.specs.declared.reference.Reference.{Reference}
use Rattle.res_book.proofs.Growth.{row-change, row-others}
use Rattle.res_book.specs.Relations.{with_applied}
use Rattle.res_book.specs.Rows.{AreApart, is_live_at, marked, number_of, reference_of, with_mark}
use Rattle.res_book.specs.declared.collector.Collector.{Collector}
use Rattle.res_book.specs.declared.row.Row.{Row}
use Rattle.res_core.specs.Lines.{Line}
use Rattle.eval_collecting.specs.Blocks.{apply_block, apply_if, block_applied, is_due, line_on, lines_added, said_at}
use Rattle.eval_collecting.specs.Blocks.{said_by}
use Rattle.eval_collecting.specs.Matching.{local_match, take, take_if, takes_at}
use Rattle.eval_world.specs.Outcomes.{Outcome, go_on, pure}
use Rattle.eval_world.specs.Worlds.{with_overrides}
use Rattle.eval_world.specs.declared.world.World.{World}
use Rattle.collecting_laws.proofs.Looking.{after, not_refused}
use Rattle.collecting_laws.specs.Looks.{touched_at, touched_row}

-- ---- references

both : (a b : Bool) → (a && b) ≡ true → (a ≡ true) × (b ≡ true)
both true true e = (refl, refl)
both true false e = absurd (true≢false (sym e))
both false b e = absurd (true≢false (sym e))

exact : (p q : Reference) → same_reference p q ≡ true → p ≡ q
exact p q e =
    let parts = both (bytes_eq p.kind q.kind) (bytes_eq p.title q.title) e in
    λ i. record {
      kind = (bytes_eq-Decides p.kind q.kind).0 parts.0 i;
      title = (bytes_eq-Decides p.title q.title).0 parts.1 i;
    }

number_in : ℕ → Option ℕ → ℕ
number_in d None = d
number_in d (Some n) = n

module _ (book : List Row) (apart : AreApart book) (m n : ℕ) (x r : Row) (at_m : slice_get book m ≡ Some x)
    (at_n : slice_get book n ≡ Some r) (other : ¬ (m ≡ n)) where
  one_number : reference_of x.declared ≡ reference_of r.declared → m ≡ n
  unfolding number_in
  one_number same =
      ap (number_in m)
      (sym (apart.found m x.declared (ap (option_map (λ (y : Row). y.declared)) at_m))
      ∙ ap (λ q. number_of q book) same
      ∙ apart.found n r.declared (ap (option_map (λ (y : Row). y.declared)) at_n))

  apart_by : (b : Bool) → same_reference (reference_of x.declared) (reference_of r.declared) ≡ b →
      same_reference (reference_of x.declared) (reference_of r.declared) ≡ false
  apart_by true is = absurd (other (one_number (exact (reference_of x.declared) (reference_of r.declared) is)))
  apart_by false is = is

  references_differ : same_reference (reference_of x.declared) (reference_of r.declared) ≡ false
  references_differ = apart_by (same_reference (reference_of x.declared) (reference_of r.declared)) refl

-- ---- lines on another reference

state_or : State → Result (Unit {0} × State) Fault → State
state_or d (Ok p) = p.1
state_or d (Err f) = d

state_of : (s t : State) → Prim.Path (Result (Unit {0} × State) Fault) (Ok (tt, s)) (Ok (tt, t)) → s ≡ t
unfolding state_or
state_of s t e = ap (state_or s) e

module _ (q target : Reference) (other : same_reference q target ≡ false) where
  record Elsewhere (old new : State) : Type 0 where
    lines : lines_on q new.lines ≡ lines_on q old.lines
    defaults : new.defaults ≡ old.defaults

  one_elsewhere : (l : Line) (s : State) → Elsewhere s (with_line s (line_on target l))
  one_elsewhere l s = record {
    lines = filter-append (is_on q) s.lines (line_on target l ∷ [])
        ∙ ap (λ b. lines_on q s.lines ++ cond b (line_on target l ∷ []) []) other
        ∙ append-nil (lines_on q s.lines);
    defaults = refl;
  }

  further_elsewhere : (a b c : State) → Elsewhere a b → Elsewhere b c → Elsewhere a c
  further_elsewhere a b c f g = record { lines = g.lines ∙ f.lines; defaults = g.defaults ∙ f.defaults }

  tested_elsewhere : (book : List Row) (ls : List Line) (l : Line) (s t : State) (o : Result (Unit {0}) Fault) →
      ((u : State) → lines_added book (map (line_on target) ls) u ≡ Ok (tt, t) → Elsewhere u t) →
      and_then {A = Unit {0} × State} (and_then o (λ u. Ok (tt, with_line s (line_on target l))))
      (λ p. lines_added book (map (line_on target) ls) p.1) ≡ Ok (tt, t) → Elsewhere s t
  tested_elsewhere book ls l s t (Ok u) more is =
      further_elsewhere s (with_line s (line_on target l)) t (one_elsewhere l s)
      (more (with_line s (line_on target l)) is)
  tested_elsewhere book ls l s t (Err f) more is = absurd cc

  all_elsewhere : (book : List Row) (ls : List Line) (s t : State) →
      lines_added book (map (line_on target) ls) s ≡ Ok (tt, t) → Elsewhere s t
  unfolding lines_added
  all_elsewhere book [] s t e = subst (Elsewhere s) (state_of s t e) (record { lines = refl; defaults = refl })
  all_elsewhere book (l ∷ ls) s t e =
      tested_elsewhere book ls l s t (tested (test_of s (line_on target l)) (row_of target book))
      (λ u. all_elsewhere book ls u t) e

-- ---- a block

-- what it leaves of overrides
record Left (w v : World) (c n : ℕ) : Type 0 where
  book : v.book ≡ w.book
  overrides : (v.overrides ≡ w.overrides) ⊎ (lines_added w.book (said_at w c n) w.overrides ≡ Ok (tt, v.overrides))

put_left : (c n : ℕ) (w v : World) (a : Bool) (r : Result (Unit {0} × State) Fault) →
    lines_added w.book (said_at w c n) w.overrides ≡ r →
    go_on (with_overrides r (record w { relations = with_applied c n w.relations })) (λ u. pure true) ≡ Ok (a, v) →
    Left w v c n
put_left c n w v a (Ok p) is e =
    subst (λ x. Left w x c n) (after e) (record { book = refl; overrides = inr is })
put_left c n w v a (Err f) is e = absurd (not_refused e)

block_left : (w v : World) (c n : ℕ) (a b : Bool) → is_due w c n ≡ b → block_applied c n w ≡ Ok (a, v) → Left w v c n
unfolding block_applied apply_block
block_left w v c n a false is e =
    subst (λ x. Left w x c n) (after (sym (ap (λ d. apply_if d c n (said_at w c n) w) is) ∙ e))
    (record { book = refl; overrides = inl refl })
block_left w v c n a true is e =
    put_left c n w v a (lines_added w.book (said_at w c n) w.overrides) refl
    (sym (ap (λ d. apply_if d c n (said_at w c n) w) is) ∙ e)

-- ---- a look

module _ (c n m : ℕ) (w : World) (apart : AreApart w.book) (other : ¬ (m ≡ n)) where
  -- nothing is said of what is not there
  said_elsewhere : (x : Row) → slice_get w.book m ≡ Some x → (o : Option Row) → slice_get w.book n ≡ o →
      (k : Option Collector) (book : List Row) (s t : State) →
      lines_added book (said_by k (option_map marked o)) s ≡ Ok (tt, t) →
      touched_by t x ≡ touched_by s x
  unfolding lines_added
  said_elsewhere x at o is None book s t e = ap (λ y. touched_by y x) (sym (state_of s t e))
  said_elsewhere x at None is (Some k) book s t e = ap (λ y. touched_by y x) (sym (state_of s t e))
  said_elsewhere x at (Some r) is (Some k) book s t e =
      let apart_now = references_differ w.book apart m n x r at is other in
      let same = all_elsewhere (reference_of x.declared) (reference_of r.declared) apart_now book k.lines s t e in
      ap (λ ls. length ls + length (defaults_for x.declared.item.kind t.defaults)) same.lines
      ∙ ap (λ ds. length (lines_on (reference_of x.declared) s.lines) + length (defaults_for x.declared.item.kind ds))
      same.defaults

  -- after the mark
  abbrev marked_world : World
  marked_world = record w { book = with_mark n w.book }

  row_same : slice_get (with_mark n w.book) m ≡ slice_get w.book m
  row_same = row-others marked m n w.book other

  left_touched : (v : World) (o : Option Row) → slice_get w.book m ≡ o → Left marked_world v c n →
      touched_row v.overrides o ≡ touched_row w.overrides o
  left_touched v None at left = refl
  left_touched v (Some x) at left = elim (left.overrides) [
    | inl same ↦ ap (λ s. touched_by s x) same
    | inr put ↦
        said_elsewhere x at (slice_get w.book n) refl (slice_get w.relations.collectors c) (with_mark n w.book)
        w.overrides v.overrides
        (ap (λ o. lines_added (with_mark n w.book) (said_by (slice_get w.relations.collectors c) o) w.overrides)
        (sym (row-change marked n w.book)) ∙ put)
  ]

  touched_left : (v : World) → Left marked_world v c n → touched_at v m ≡ touched_at w m
  touched_left v left =
      ap (λ book. touched_row v.overrides (slice_get book m)) left.book
      ∙ ap (touched_row v.overrides) row_same
      ∙ left_touched v (slice_get w.book m) refl left

  take_touched : (v : World) (live a : Bool) (o : Outcome Bool) → block_applied c n marked_world ≡ o →
      go_on o (λ d. pure (live || d)) ≡ Ok (a, v) → touched_at v m ≡ touched_at w m
  take_touched v live a (Err f) is e = absurd (not_refused e)
  take_touched v live a (Ok p) is e =
      subst (λ x. touched_at x m ≡ touched_at w m) (after e)
      (touched_left p.1 (block_left marked_world p.1 c n p.0 (is_due marked_world c n) refl is))

  look_touched : (v : World) (a b : Bool) → takes_at w c n ≡ b → local_match c n w ≡ Ok (a, v) →
      touched_at v m ≡ touched_at w m
  unfolding local_match take
  look_touched v a false is e =
      ap (λ x. touched_at x m) (sym (after (sym (ap (λ d. take_if d c n w) is) ∙ e)))
  look_touched v a true is e =
      take_touched v (not (is_live_at w.book n)) a (block_applied c n marked_world) refl
      (sym (ap (λ d. take_if d c n w) is) ∙ e)

pub others_untouched : (c n m : ℕ) (w v : World) (a : Bool) → AreApart w.book → ¬ (m ≡ n) →
    local_match c n w ≡ Ok (a, v) → touched_at v m ≡ touched_at w m
others_untouched c n m w v a apart other e = look_touched c n m w apart other v a (takes_at w c n) refl e
