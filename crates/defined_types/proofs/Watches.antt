-- What functions on watch lists need.
use Rattle.std.proofs.Common.{◌≡◌, ℕ, suc, ◌+◌, ◌-◌, ◌<◌, ◌≤◌, false, List, [], ◌∷◌, ◌++◌, length, Option, None, Some}
use Rattle.std.proofs.Common.{option_map, refl, sym, ap, ◌∙◌, arith, append-nil, append_assoc, length-append, Ok}
use Rattle.std.proofs.Common.{true≢false}
use Rattle.std.proofs.lemmas.Option.{slice_get_past, slice_get_within}
use Rattle.std.specs.Prelude.{slice_get}
use Rattle.override_rules.specs.Meaning.{State, touched_by}
use Rattle.res_book.specs.declared.row.Row.{Row}
use Rattle.eval_world.specs.Outcomes.{Outcome}
use Rattle.eval_world.specs.declared.world.World.{World}
use Rattle.collecting_laws.specs.Looks.{touched_at, touched_row}
use Rattle.defined_types.specs.Watched.{Watched, lifted_by, no_turns, opened, same_by, told_from, told_now}
use Rattle.defined_types.specs.declared.watchlist.Told.{Told}

-- ---- one declaration

known_by : (told : List Told) (n touched : ℕ) (o : Option Told) → slice_get told n ≡ o → same_by o touched ≡ false →
    n < length told
known_by told n touched None is other = absurd (true≢false other)
known_by told n touched (Some t) is other = slice_get_within told n t is

pub told_within : (told : List Told) (n touched : ℕ) → same_by (slice_get told n) touched ≡ false → n < length told
told_within told n touched other = known_by told n touched (slice_get told n) refl other

touched_then : (s : State) (o : Option Row) (t : ℕ) → option_map (touched_by s) o ≡ Some t → t ≡ touched_row s o
touched_then s None t e = absurd cc
touched_then s (Some r) t e = let same : touched_by s r ≡ t = cc in sym same

pub touched_there : (w : World) (n t : ℕ) → option_map (touched_by w.overrides) (slice_get w.book n) ≡ Some t →
    t ≡ touched_at w n
touched_there w n t e = touched_then w.overrides (slice_get w.book n) t e

pub touched_nowhere : (w : World) (n : ℕ) → ¬ (n < length w.book) → 0 ≡ touched_at w n
touched_nowhere w n past = sym (ap (touched_row w.overrides) (slice_get_past w.book n (omega (arith, past))))

-- ---- all declarations

pub one_told : (w : World) (old : List Told) (now n count : ℕ) → n < count →
    told_from w old now n (count - n)
    ≡ told_now (slice_get old n) (touched_at w n) now ∷ told_from w old now (n + 1) (count - (n + 1))
unfolding told_from
one_told w old now n count below = let e : count - n ≡ suc (count - (n + 1)) = omega arith in rw e refl

pub none_told : (w : World) (old : List Told) (now n count : ℕ) → ¬ (n < count) → told_from w old now n (count - n) ≡ []
unfolding told_from
none_told w old now n count past = let e : count - n ≡ 0 = omega (arith, past) in rw e refl

-- one more is told
pub told_more : (w : World) (old : List Told) (now n count : ℕ) (done new : List Told) (t : Told) (o : Option Told)
    (touched : ℕ) → told_from w old now 0 count ≡ done ++ told_from w old now n (count - n) → n < count →
    o ≡ slice_get old n → touched ≡ touched_at w n → t ≡ told_now o touched now → new ≡ done ++ t ∷ [] →
    told_from w old now 0 count ≡ new ++ told_from w old now (n + 1) (count - (n + 1))
told_more w old now n count done new t o touched so_far below found as_many is pushed =
    let row : told_now (slice_get old n) (touched_at w n) now ≡ t =
    ap (λ x. told_now x (touched_at w n) now) (sym found) ∙ ap (λ k. told_now o k now) (sym as_many) ∙ sym is in
    so_far ∙ ap (λ l. done ++ l) (one_told w old now n count below)
    ∙ ap (λ x. done ++ x ∷ told_from w old now (n + 1) (count - (n + 1))) row
    ∙ sym (append_assoc done (t ∷ []) (told_from w old now (n + 1) (count - (n + 1))))
    ∙ ap (λ l. l ++ told_from w old now (n + 1) (count - (n + 1))) (sym pushed)

pub told_all : (w : World) (old : List Told) (now n count all : ℕ) (done : List Told) →
    told_from w old now 0 count ≡ done ++ told_from w old now n (count - n) → count ≤ n → count ≡ all →
    done ≡ told_from w old now 0 all
told_all w old now n count all done so_far past same =
    sym (append-nil done)
    ∙ ap (λ l. done ++ l) (sym (none_told w old now n count (λ below. omega (arith, past, below))))
    ∙ sym so_far ∙ ap (λ k. told_from w old now 0 k) same

-- ---- collectors

pub one_opened : (turns : List ℕ) (count : ℕ) → length turns < count →
    opened turns count ≡ opened (turns ++ 0 ∷ []) count
unfolding no_turns
one_opened turns count below =
    let longer : length (turns ++ 0 ∷ []) ≡ length turns + 1 = length-append turns (0 ∷ []) in
    let e : count - length turns ≡ suc (count - length (turns ++ 0 ∷ [])) = omega (arith, below, longer) in
    ap (λ k. turns ++ no_turns k) e ∙ sym (append_assoc turns (0 ∷ []) (no_turns (count - length (turns ++ 0 ∷ []))))

pub none_opened : (turns : List ℕ) (count : ℕ) → ¬ (length turns < count) → opened turns count ≡ turns
unfolding no_turns
none_opened turns count past =
    let e : count - length turns ≡ 0 = omega (arith, past) in ap (λ k. turns ++ no_turns k) e ∙ append-nil turns

-- ---- a step of the evaluator

pub lifted_told : {A : Type 0} (o : Outcome A) (s : Watched) (a : A) (w : World) (looks : ℕ) → o ≡ Ok (a, w) →
    looks ≡ s.looks → lifted_by o s ≡ Ok (a, record s { world = w; looks = looks })
lifted_told o s a w looks is same =
    ap (λ x. lifted_by x s) is ∙ ap (λ k. Ok (a, record s { world = w; looks = k })) (sym same)
