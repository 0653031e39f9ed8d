-- What the definitions of looks that are passed over give on worked examples.
use Rattle.std.proofs.Common.{◌≡◌, ℕ, true, false, [], ◌∷◌, None, Some, refl}
use Rattle.defined_types.specs.Watched.{no_turns, noted_by, opened, same_by, told_now, told_risen}
use Rattle.defined_types.specs.declared.watchlist.Told.{Told}

abbrev told : ℕ → ℕ → Told
told touched risen = record { touched = touched; risen = risen }

-- ---- a look is passed over where the declaration rose no later than the collector's last turn began

noted : noted_by (Some (told 1 3)) (Some 3) ≡ true
noted = refl

risen_since : noted_by (Some (told 1 3)) (Some 2) ≡ false
risen_since = refl

new_declaration : noted_by None (Some 7) ≡ false
new_declaration = refl

-- what was never counted with it had no turn: a new declaration rises at time 1 at the earliest
no_turn : noted_by (Some (told 0 1)) (Some 0) ≡ false
no_turn = refl

-- ---- what is counted anew

as_much : told_now (Some (told 2 3)) 2 9 ≡ told 2 3
as_much = refl

more : told_now (Some (told 2 3)) 4 9 ≡ told 4 9
more = refl

first : told_now None 4 9 ≡ told 4 9
first = refl

-- ---- after a look

same : told_risen (same_by (Some (told 2 3)) 2) 0 2 (told 2 3 ∷ []) 8 ≡ told 2 3 ∷ []
same = refl

rose : told_risen (same_by (Some (told 2 3)) 5) 0 5 (told 2 3 ∷ told 0 1 ∷ []) 8 ≡ told 5 9 ∷ told 0 1 ∷ []
rose = refl

-- ---- new collectors

two_more : opened (5 ∷ []) 3 ≡ 5 ∷ 0 ∷ 0 ∷ []
unfolding no_turns
two_more = refl

none_more : opened (5 ∷ 6 ∷ []) 2 ≡ 5 ∷ 6 ∷ []
unfolding no_turns
none_more = refl
