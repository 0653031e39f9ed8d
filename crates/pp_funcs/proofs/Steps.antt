-- Steps from a value on.
use Rattle.std.proofs.Common.{◌≡◌, ℕ, zero, suc, ◌+◌, ◌<◌, ◌≤◌, List, [], ◌∷◌, Ok, Err, length, drop, get_or, refl, sym, ap, subst, arith, ◌∙◌, add-one}
use Rattle.pp_values.specs.declared.value.Value.{Value}
use Rattle.pp_values.specs.Answers.{and_then, in_turn}
use Rattle.pp_values.specs.Datum.{Datum, undef}
use Rattle.pp_values.specs.Views.{view, views}
use Rattle.pp_funcs.specs.declared.refusal.Refusal.{Refusal}
use Rattle.pp_funcs.specs.Digging.{further}

-- Undef stays Undef
undef_stays : (keys : List Datum) → in_turn further undef keys ≡ Ok undef
unfolding in_turn
undef_stays [] = refl
undef_stays (key ∷ keys) = undef_stays keys

-- the step of the key at an index, and then the rest
next_step : (d : Datum) (keys : List Value) (n : ℕ) (key : Value) → n < length keys → key ≡ get_or keys n key →
    in_turn further d (views (drop n keys))
    ≡ and_then (further d (view key)) (λ e. in_turn further e (views (drop (suc n) keys)))
unfolding in_turn
next_step d [] n key h is = absurd (omega (arith, h))
next_step d (x ∷ keys) zero key h is =
    let rest : Datum → _ = λ e. in_turn further e (views keys) in
    subst (λ y. and_then (further d (view x)) rest ≡ and_then (further d (view y)) rest) (sym is) refl
next_step d (x ∷ keys) (suc n) key h is = next_step d keys n key (omega (arith, h)) is

pub ends : (d : Datum) (keys : List Value) (n : ℕ) → length keys ≤ n → in_turn further d (views (drop n keys)) ≡ Ok d
unfolding in_turn
ends d [] zero h = refl
ends d [] (suc n) h = refl
ends d (x ∷ keys) zero h = absurd (omega (arith, h))
ends d (x ∷ keys) (suc n) h = ends d keys n (omega (arith, h))

-- what one step gives: a value from which the rest goes on, Undef, or a refusal of the whole
pub goes_on : (d e : Datum) (keys : List Value) (n : ℕ) (key : Value) → n < length keys → key ≡ get_or keys n key →
    further d (view key) ≡ Ok e →
    in_turn further d (views (drop n keys)) ≡ in_turn further e (views (drop (n + 1) keys))
goes_on d e keys n key h is went =
    next_step d keys n key h is
    ∙ ap (λ r. and_then r (λ e. in_turn further e (views (drop (suc n) keys)))) went
    ∙ ap (λ m. in_turn further e (views (drop m keys))) (sym (add-one n))

pub finds_none : (d : Datum) (keys : List Value) (n : ℕ) (key : Value) → n < length keys → key ≡ get_or keys n key →
    further d (view key) ≡ Ok undef → in_turn further d (views (drop n keys)) ≡ Ok undef
finds_none d keys n key h is went =
    next_step d keys n key h is
    ∙ ap (λ r. and_then r (λ e. in_turn further e (views (drop (suc n) keys)))) went
    ∙ undef_stays (views (drop (suc n) keys))

pub refuses : (d : Datum) (keys : List Value) (n : ℕ) (key : Value) (r : Refusal) → n < length keys →
    key ≡ get_or keys n key → further d (view key) ≡ Err r → in_turn further d (views (drop n keys)) ≡ Err r
refuses d keys n key r h is went =
    next_step d keys n key h is
    ∙ ap (λ r. and_then r (λ e. in_turn further e (views (drop (suc n) keys)))) went
