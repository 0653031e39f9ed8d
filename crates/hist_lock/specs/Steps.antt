-- What each step of the lock tells the pass that makes it: its seat afterwards, from its seat before and the number
-- found.
use Rattle.std.specs.Prelude.{◌≡◌, ◌≢◌, ℕ, ◌+◌, ◌%◌, ◌≤◌, List, [], ◌∷◌, ◌++◌, length, Option, Some}
use mathlib.Core.List.{IsPrefix}
use Rattle.atomic_table.specs.Table.{Me, Step, rest}
use Rattle.hist_lock.specs.Calls.{AreCalls}
use Rattle.hist_lock.specs.Views.{drawing, seizing, giving}
use Rattle.hist_lock.specs.declared.view.View.{View}

module _ {V E : Type 0} where
  -- it has a ticket, of which it knows the last 64 bits
  abbrev pub Drew : Step (Option V) → Me (Option V) (View E) → ℕ → Me (Option V) (View E) → Type 0
  Drew st m found n = (t : ℕ) × (t % 18446744073709551616 ≡ found) × (n ≡ (drawing m.0 t, m.1))

  -- it has the turn and the value, whose list goes on from its front; and its calls are the entries of its authors in
  -- that list
  abbrev pub Seized : (V → List E) → (E → Option ℕ) → Me (Option V) (View E) → Me (Option V) (View E) → Type 0
  Seized entries author m n =
      (value : V) × (n ≡ (seizing m.0 (entries value), (0, Some value) ∷ m.1)) × IsPrefix m.0.front (entries value)
      × AreCalls author m.0.calls m.0.numbers (entries value)

  -- it seized the value exactly where the number served is its ticket's
  abbrev pub Looked : (V → List E) → (E → Option ℕ) → Step (Option V) → Me (Option V) (View E) → ℕ →
      Me (Option V) (View E) → Type 0
  Looked entries author st m found n =
      (found ≡ m.0.ticket % 18446744073709551616 → Seized entries author m n)
      × (found ≢ m.0.ticket % 18446744073709551616 → n ≡ m)

  -- the turn and the value are given back
  abbrev pub Gave : Step (Option V) → Me (Option V) (View E) → ℕ → Me (Option V) (View E) → Type 0
  Gave st m found n = n ≡ (giving m.0 m.0.front m.0.calls, rest m.1)

  -- the same, with a value that has one entry more
  abbrev pub Added : (V → List E) → (E → Option ℕ) → Step (Option V) → Me (Option V) (View E) → ℕ →
      Me (Option V) (View E) → Type 0
  Added entries author st m found n =
      (value : V) (more : List (ℕ × Option V)) → m.1 ≡ (0, Some value) ∷ more
      → (n ≡ (giving m.0 (entries value) (m.0.calls ++ length m.0.front ∷ []), more))
      × AreCalls author (m.0.calls ++ length m.0.front ∷ []) m.0.numbers (entries value)

  -- a look that changes nothing: of the fronts that met one begins the other, and its calls are the entries of its
  -- authors in its front
  abbrev pub Settled : (E → Option ℕ) → Step (Option V) → Me (Option V) (View E) → ℕ → Me (Option V) (View E) → Type 0
  Settled author st m found n =
      (n ≡ m) × (length m.0.met ≤ length m.0.front → IsPrefix m.0.met m.0.front)
      × AreCalls author m.0.calls m.0.numbers m.0.front × (m.0.room + length m.0.numbers ≤ 65536)
