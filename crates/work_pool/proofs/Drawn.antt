-- What a draw leaves of a seat's invariant.
use Rattle.std.proofs.Common.{◌≡◌, ℕ, ◌+◌, ◌<◌, ◌≤◌, All, List, [], ◌∷◌, ◌++◌, arith, ap, sym, subst, ◌∙◌}
use Rattle.std.proofs.lemmas.Grind.{common_steps}
use Rattle.atomic_table.specs.Table.{Me}
use Rattle.atomic_table.specs.declared.shared.Seat.{Seat}
use Rattle.work_pool.specs.Views.{looking, claiming}
use Rattle.work_pool.specs.Seats.{IsClaimant}
use Rattle.work_pool.specs.declared.view.View.{View}

-- numbers below one limit are below a higher one
pub all_higher : (low high : ℕ) (xs : List ℕ) → low ≤ high → All (λ m. m < low) xs → All (λ m. m < high) xs
all_higher low high xs le h k d lt = omega (arith, h k d lt)

pub all_drawn : (n : ℕ) (xs : List ℕ) → All (λ m. m < n) xs → All (λ m. m < n + 1) (xs ++ n ∷ [])
all_drawn n xs h = grind (arith, common_steps, all_higher n (n + 1) xs (omega arith) h)

-- a seat that looked and then drew a number
pub claimed_is : (s t u : Seat (Unit {0}) View) (r n : ℕ) → t.me ≡ (looking s.me.0 r, s.me.1) → s.me.0.known ≤ r → t.me.0.known ≤ n → u.me ≡ (claiming t.me.0 n, t.me.1) → IsClaimant s → IsClaimant u
claimed_is s t u r n looked before after drawn i =
    let e : u.me ≡ (claiming (looking s.me.0 r) n, s.me.1) = drawn ∙ ap (λ (m : Me (Unit {0}) View). (claiming m.0 n, m.1)) looked in
    let le : s.me.0.known ≤ n = omega (arith, ap (λ (m : Me (Unit {0}) View). m.0.known) looked) in record {
      some = subst (λ (m : Me (Unit {0}) View). 0 < m.0.held) (sym e) i.some;
      below = subst (λ (m : Me (Unit {0}) View). All (λ x. x < m.0.known) m.0.numbers) (sym e) (all_drawn n s.me.0.numbers (all_higher s.me.0.known n s.me.0.numbers le i.below));
      slots = ap (λ m. m.1) e ∙ i.slots;
    }
