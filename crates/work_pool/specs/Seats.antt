-- What a caller sees of claims and of a seat, and what each call makes of it.
use Rattle.std.specs.Prelude.{◌≡◌, ℕ, ◌+◌, ◌-◌, ◌<◌, ◌≤◌, max, All, List, [], ◌∷◌, ◌++◌, Option, Some, None}
use Rattle.atomic_table.specs.Seated.{TableId}
use Rattle.atomic_table.specs.declared.shared.Seat.{Seat}
use Rattle.list_sums.specs.Counts.{below, times}
use Rattle.work_pool.specs.declared.view.View.{View}

-- which claims they are, and how many numbers there are: 0 up to, and without, the count
pub record ClaimsId : Type 0 where
  pub table : TableId
  pub count : ℕ

pub record Claimant : Type 0 where
  pub claims : ClaimsId
  -- the numbers that it drew, or a seat that was joined into it
  pub numbers : List ℕ
  -- each number below this one was drawn by some seat
  pub known : ℕ
  -- how many seats can still be made from it, and how many it stands for
  pub room : ℕ
  pub held : ℕ

abbrev pub first_seat : ClaimsId → Claimant
first_seat claims = record { claims = claims; numbers = []; known = 0; room = 65535; held = 1 }

-- A draw. A number comes that no seat had drawn before, above all that this one has; or none does, since all were
-- drawn, and then a seat that stands for all seats has exactly the numbers below the count, each once.
abbrev pub Draws : Option ℕ → Claimant → Claimant → Type 0
Draws (Some n) p q = (n < p.claims.count) × (p.known ≤ n) × All (λ m. m < n) p.numbers
    × (q ≡ record p { numbers = p.numbers ++ n ∷ []; known = n + 1 })
Draws None p q = (p.claims.count ≤ q.known) × (p.known ≤ q.known) × (q ≡ record p { known = q.known })
    × (p.room + p.held ≡ 65536 → (a : ℕ) → times a p.numbers ≡ below p.claims.count a)

-- the seat that a new one was split from, and the new one
abbrev pub splitting : Claimant → Claimant
splitting p = record p { room = p.room - 1 }

abbrev pub split_off : Claimant → Claimant
split_off p = record { claims = p.claims; numbers = []; known = p.known; room = 0; held = 1 }

abbrev pub joining : Claimant → Claimant → Claimant
joining p q =
    record p {
      numbers = p.numbers ++ q.numbers;
      known = max p.known q.known;
      room = p.room + q.room;
      held = p.held + q.held;
    }

-- how a seat of the claims stands over a seat of the table
abbrev pub claimant : Seat (Unit {0}) View → Claimant
claimant s =
    record {
      claims = record { table = s.table_id; count = s.me.0.count };
      numbers = s.me.0.numbers;
      known = s.me.0.known;
      room = s.me.0.room;
      held = s.me.0.held;
    }

pub record IsClaimant (s : Seat (Unit {0}) View) : Type 0 where
  pub some : 0 < s.me.0.held
  pub below : All (λ m. m < s.me.0.known) s.me.0.numbers
  pub slots : s.me.1 ≡ []
