-- The order in which a stream was read from and written to, as contracts see it.
use Rattle.std.specs.Prelude.{◌≡◌, ℕ, List, [], ◌∷◌, ◌++◌, Option, None, Some}

-- what one call moved; a call that failed is none
pub data Event : Type 0 where
  came : List ℕ → Event
  went : List ℕ → Event

-- the bytes that were read, in order
abbrev pub came_in : List Event → List ℕ
came_in [] = []
came_in (came bytes ∷ es) = bytes ++ came_in es
came_in (went bytes ∷ es) = came_in es

-- the bytes that were written, in order
abbrev pub went_in : List Event → List ℕ
went_in [] = []
went_in (came bytes ∷ es) = went_in es
went_in (went bytes ∷ es) = bytes ++ went_in es

-- Behind the events before stand others, of which P holds. Where a stream tells no events this says nothing.
abbrev pub Since : (List Event → Type 0) → Option (List Event) → Option (List Event) → Type 0
Since P None after = Unit {0}
Since P (Some es) after = (new : List Event) × (after ≡ Some (es ++ new)) × P new

-- these moved these bytes in and that text out
abbrev pub Move : List ℕ → List ℕ → List Event → Type 0
Move bytes text es = (came_in es ≡ bytes) × (went_in es ≡ text)

-- one read, of these bytes
abbrev pub OneRead : List ℕ → List Event → Type 0
OneRead bytes es = es ≡ came bytes ∷ []

abbrev pub OnlyWrites : List Event → Type 0
OnlyWrites [] = Unit {0}
OnlyWrites (came bytes ∷ es) = ⊥
OnlyWrites (went bytes ∷ es) = OnlyWrites es

-- writes alone, of this text
abbrev pub Sends : List ℕ → List Event → Type 0
Sends text es = (went_in es ≡ text) × OnlyWrites es

-- Reads alone. Each was made while the bytes at hand lacked something: those given here, and what had been read by then.
abbrev pub EachDraw : (List ℕ → Type 0) → List ℕ → List Event → Type 0
EachDraw Lacks bytes [] = Unit {0}
EachDraw Lacks bytes (came piece ∷ es) = Lacks bytes × EachDraw Lacks (bytes ++ piece) es
EachDraw Lacks bytes (went piece ∷ es) = ⊥

-- such reads, which gave these bytes
abbrev pub Draws : (List ℕ → Type 0) → List ℕ → List ℕ → List Event → Type 0
Draws Lacks unread more es = (came_in es ≡ more) × EachDraw Lacks unread es

-- Each read was made where P held of the bytes that had been read by then and of the text that had been written: those
-- given here, and what these events moved.
abbrev pub EachRead : (List ℕ → List ℕ → Type 0) → List ℕ → List ℕ → List Event → Type 0
EachRead P bytes text [] = Unit {0}
EachRead P bytes text (came piece ∷ es) = P bytes text × EachRead P (bytes ++ piece) text es
EachRead P bytes text (went piece ∷ es) = EachRead P bytes (text ++ piece) es

-- these moved so much, and each read among them was made where P held
abbrev pub Kept : (List ℕ → List ℕ → Type 0) → List ℕ → List ℕ → List Event → Type 0
Kept P bytes text es = Move bytes text es × EachRead P [] [] es
