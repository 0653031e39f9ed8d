-- Counting up and down.
use Rattle.std.proofs.Common.{◌≡◌, ℕ, zero, suc, ap, ◌+◌, ◌-◌, ◌<◌, Bool, List, ◌||◌, Ok, refl, arith}
use Rattle.export_store.specs.Sets.{Sets}
use Rattle.defined_types.specs.Rounds.{too_many}
use Rattle.defined_types.specs.Watched.{Watched, again_watched, further, lifted, look, look_from, watched_left}
use Rattle.defined_types.specs.Watched.{watched_round, watched_turn, watched_turns}

pub one_look : (c n count : ℕ) (added : Bool) (s : Watched) → n < count →
    look_from c added n (count - n) s
    ≡ further (look c n s) (λ more. look_from c (more || added) (n + 1) (count - (n + 1)))
unfolding look_from watched_turns watched_left
one_look c n count added s below = let e : count - n ≡ suc (count - (n + 1)) = omega arith in rw e refl

pub no_look : (c n count : ℕ) (added : Bool) (s : Watched) → ¬ (n < count) →
    look_from c added n (count - n) s ≡ Ok (added, s)
unfolding look_from watched_turns watched_left
no_look c n count added s past = let e : count - n ≡ 0 = omega (arith, past) in rw e refl

pub one_turn : (c count : ℕ) (added : Bool) (node : List ℕ) (sets : Sets) (s : Watched) → c < count →
    watched_turns added c (count - c) node sets s
    ≡ further (watched_turn c node sets s) (λ more. watched_turns (more || added) (c + 1) (count - (c + 1)) node sets)
unfolding look_from watched_turns watched_left
one_turn c count added node sets s below = let e : count - c ≡ suc (count - (c + 1)) = omega arith in rw e refl

pub no_turn : (c count : ℕ) (added : Bool) (node : List ℕ) (sets : Sets) (s : Watched) → ¬ (c < count) →
    watched_turns added c (count - c) node sets s ≡ Ok (added, s)
unfolding look_from watched_turns watched_left
no_turn c count added node sets s past = let e : count - c ≡ 0 = omega (arith, past) in rw e refl

pub one_round : (left : ℕ) (node : List ℕ) (sets : Sets) (s : Watched) → 0 < left →
    watched_left left node sets s
    ≡ further (watched_round node sets s) (λ added. again_watched added (watched_left (left - 1) node sets))
unfolding look_from watched_turns watched_left
one_round zero node sets s some = absurd (omega (arith, some))
one_round (suc n) node sets s some =
    let e : n ≡ suc n - 1 = omega arith in
    ap (λ k. further (watched_round node sets s) (λ added. again_watched added (watched_left k node sets))) e

pub no_round : (left : ℕ) (node : List ℕ) (sets : Sets) (s : Watched) → ¬ (0 < left) →
    watched_left left node sets s ≡ lifted too_many s
unfolding look_from watched_turns watched_left
no_round zero node sets s none = refl
no_round (suc n) node sets s none = absurd (none (omega arith))
