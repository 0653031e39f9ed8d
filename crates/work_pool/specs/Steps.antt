-- What each step of the claims tells the seat that makes it: the seat afterwards, from the seat before and the number
-- found.
use Rattle.std.specs.Prelude.{◌≡◌, ℕ, ◌+◌, ◌<◌, ◌≤◌}
use Rattle.atomic_table.specs.Table.{Me, Step}
use Rattle.list_sums.specs.Counts.{below, times, Once}
use Rattle.work_pool.specs.Views.{looking, claiming, passing}
use Rattle.work_pool.specs.declared.view.View.{View}

-- a seat that stands for all seats has exactly the numbers below the count, each once
abbrev pub HasAll : View → Type 0
HasAll v = v.room + v.held ≡ 65536 → (a : ℕ) → times a v.numbers ≡ below v.count a

abbrev pub Looked : Step (Unit {0}) → Me (Unit {0}) View → ℕ → Me (Unit {0}) View → Type 0
Looked st m found n = (n ≡ (looking m.0 found, m.1)) × (m.0.known ≤ found) × (found < m.0.count → m.0.past ≡ 0)
    × (m.0.count ≤ found → HasAll m.0) × Once m.0.numbers

abbrev pub Drew : Step (Unit {0}) → Me (Unit {0}) View → ℕ → Me (Unit {0}) View → Type 0
Drew st m found n = (m.0.known ≤ found) × (found < m.0.count → n ≡ (claiming m.0 found, m.1))
    × (m.0.count ≤ found → (n ≡ (passing m.0 found, m.1)) × HasAll m.0) × Once n.0.numbers

-- a look that changes nothing
abbrev pub Settled : Step (Unit {0}) → Me (Unit {0}) View → ℕ → Me (Unit {0}) View → Type 0
Settled st m found n = (n ≡ m) × Once m.0.numbers
