-- Reads and writes in their order, on small values.
use Rattle.std.proofs.Common.{◌≡◌, ℕ, ◌<◌, List, [], ◌∷◌, length, Some, None, refl, arith}
use Rattle.std.proofs.Math.Dec.{lit<}
use Rattle.std.specs.Prelude.{codes}
use Rattle.site_io.specs.Events.{Event, came, went, Since, Move, Sends, EachDraw, EachRead}

-- two bytes came, and one went
abbrev some_events : List Event
some_events = came (codes "a") ∷ went (codes "x") ∷ came (codes "b") ∷ []

moves : Move (codes "ab") (codes "x") some_events
moves = (refl, refl)

-- they stand behind those before
follows : Since (Move (codes "b") []) (Some (came (codes "a") ∷ [])) (Some (came (codes "a") ∷ came (codes "b") ∷ []))
follows = (came (codes "b") ∷ [], refl, (refl, refl))

-- a stream that tells no events says nothing
says_nothing : Since (λ es. ⊥) None None
says_nothing = tt

-- a read among writes is no sending, also one that gives nothing
sends_alone : Sends (codes "x") (came [] ∷ went (codes "x") ∷ []) → ⊥
sends_alone sends = sends.1

abbrev lacks_two : List ℕ → Type 0
lacks_two bytes = length bytes < 2

-- each of two reads was made while a byte was lacking
draws : EachDraw lacks_two [] (came (codes "a") ∷ came (codes "b") ∷ [])
draws = (lit< tt, (lit< tt, tt))

-- one more read, which gave nothing, was made while none was
draws_on : EachDraw lacks_two [] (came (codes "ab") ∷ came [] ∷ []) → ⊥
draws_on draw = omega (arith, draw.1.0)

-- a byte that comes is answered by a byte before the next one is asked for
abbrev is_even : List ℕ → List ℕ → Type 0
is_even bytes text = length bytes ≡ length text

answers : EachRead is_even [] [] some_events
answers = (refl, (refl, tt))

answers_late : EachRead is_even [] [] (came (codes "a") ∷ came (codes "b") ∷ went (codes "xy") ∷ []) → ⊥
answers_late reads = omega (arith, reads.1.0)
