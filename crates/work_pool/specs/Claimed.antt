-- The rule of the claims: what is true of their one word and all views between any two steps. The word counts the
-- draws.
use Rattle.std.specs.Prelude.{◌≡◌, ℕ, ◌+◌, ◌^◌, ◌<◌, ◌≤◌, min, [], ◌∷◌}
use mathlib.Core.Option.{some}
use lib.ListN.{get_elem?}
use Rattle.atomic_table.specs.Table.{State}
use Rattle.list_sums.specs.Counts.{total, below}
use Rattle.work_pool.specs.Views.{has_number, room_of, held_of, past_of}
use Rattle.work_pool.specs.declared.view.View.{View}

-- one view beside the word
pub record Fits (count word : ℕ) (v : View) : Type 0 where
  pub same : 0 < v.held → v.count ≡ count
  pub known : v.known ≤ word
  -- who stands for no seat has no number
  pub nobody : v.held ≡ 0 → v.numbers ≡ []
  -- it drew past the end at most once for each seat that it stands for, and only once all numbers were drawn
  pub few_past : v.past ≤ v.held
  pub past_end : 0 < v.past → count ≤ word

pub record Claimed (count : ℕ) (s : State (Unit {0}) View) : Type 0 where
  pub word : ℕ
  pub words : s.words ≡ word ∷ []
  pub small : count < 2 ^ 32
  -- each number that was drawn stands in one view, once, and no other number in any
  pub once : (a : ℕ) → total (has_number a) s.views ≡ below (min word count) a
  pub bound : word ≤ count + total past_of s.views
  -- the seats so far, and those that can still be made
  pub few : total room_of s.views + total held_of s.views ≡ 65536
  pub each : (i : ℕ) (v : View) → get_elem? s.views i ≡ some v → Fits count word v
