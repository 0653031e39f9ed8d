-- Tickets modulo 2^64.
use Rattle.std.proofs.Common.{◌≡◌, ℕ, ◌+◌, ◌%◌, ◌<◌, ◌≤◌, Bool, true, false, cond, refl, ap, sym, ◌∙◌, arith}
use Rattle.std.proofs.Math.Nat.{mod-add-mod}
use Rattle.atomic_table.proofs.Lists.{one_turn}
use Rattle.list_sums.specs.Counts.{bit, same}
use Rattle.hist_lock.specs.Views.{waiting, holding, has_ticket}
use Rattle.hist_lock.specs.declared.view.View.{View}
use Rattle.list_sums.proofs.Marks.{same_yes}

pub mod_next : (n : ℕ) → (n % 18446744073709551616 + 1) % 18446744073709551616 ≡ (n + 1) % 18446744073709551616
mod_next n = mod-add-mod n 18446744073709551616 1

-- the ticket that is served, found by its last 64 bits, where few are out
pub served_is : (served drawn ticket : ℕ) → served ≤ ticket → ticket < drawn → drawn ≤ served + 65536 → served % 18446744073709551616 ≡ ticket % 18446744073709551616 → ticket ≡ served
served_is served drawn ticket le lt few e = sym (one_turn served ticket 18446744073709551616 le (omega arith) e)

bit_yes : (b : Bool) → 0 < bit b → b ≡ true
bit_yes true h = refl
bit_yes false h = absurd (omega arith)

bit_no : (b : Bool) → bit b ≡ 0 → b ≡ false
bit_no true h = absurd (omega arith)
bit_no false h = refl

module _ {E : Type 0} where
  pub waiting_yes : (v : View E) → v.waits ≡ true → waiting v ≡ 1
  waiting_yes v e = ap bit e

  pub waiting_no : (v : View E) → v.waits ≡ false → waiting v ≡ 0
  waiting_no v e = ap bit e

  pub holding_yes : (v : View E) → v.holds ≡ true → holding v ≡ 1
  holding_yes v e = ap bit e

  pub holding_no : (v : View E) → v.holds ≡ false → holding v ≡ 0
  holding_no v e = ap bit e

  pub holds_yes : (v : View E) → 0 < holding v → v.holds ≡ true
  holds_yes v h = bit_yes v.holds h

  pub holds_no : (v : View E) → holding v ≡ 0 → v.holds ≡ false
  holds_no v h = bit_no v.holds h

  pub ticket_yes : (t : ℕ) (v : View E) → v.waits ≡ true → has_ticket t v ≡ same t v.ticket
  ticket_yes t v e = ap (λ b. cond b (same t v.ticket) 0) e

  pub ticket_no : (t : ℕ) (v : View E) → v.waits ≡ false → has_ticket t v ≡ 0
  ticket_no t v e = ap (λ b. cond b (same t v.ticket) 0) e

  pub ticket_own : (v : View E) → v.waits ≡ true → has_ticket v.ticket v ≡ 1
  ticket_own v e = ticket_yes v.ticket v e ∙ same_yes v.ticket v.ticket refl
