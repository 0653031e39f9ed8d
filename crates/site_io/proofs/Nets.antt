-- A listener in memory fails where it was told to, and puts back what it is handed.
use Rattle.std.proofs.Common.{◌≡◌, ℕ, zero, suc, ◌-◌, ◌<◌, ◌≤◌, Bool, true, false, List, [], ◌∷◌, map, length, slice_get, slice_set, Option, Some, None, option_map, refl, ap, arith}
use Rattle.site_io.specs.Stream.{Rose}
use Rattle.site_io.specs.Scripted.{ScriptedSink}
use Rattle.site_io.specs.Net.{IsSameNet, IsGone, HasEnded}
use Rattle.site_io.specs.ScriptedNet.{ScriptedNet, IsNextTurn, lines_of, stream_of}

pub failed_turn : (before after : ScriptedNet) (failed : Bool) → failed ≡ true → IsNextTurn failed before after →
    after.net.told ≡ before.net.told → before.net.faults ≤ after.net.faults →
    IsSameNet before.net after.net × Rose before.net.faults after.net.faults
failed_turn before after true is turn told later = (record { later = later; told = told }, omega (arith, turn.faults))
failed_turn before after false is turn told later = absurd cc

module _ {A B : Type 0} (f : A → B) where
  inside : (xs : List A) (k : ℕ) (y : B) → slice_get (map f xs) k ≡ Some y → k < length xs
  inside [] k y at = absurd cc
  inside (x ∷ xs) zero y at = omega arith
  inside (x ∷ xs) (suc k) y at = let rest = inside xs k y at in omega (arith, rest)

  map_set : (xs : List A) (k : ℕ) (x : A) → map f (slice_set xs k x) ≡ slice_set (map f xs) k (f x)
  map_set [] k x = refl
  map_set (y ∷ xs) zero x = refl
  map_set (y ∷ xs) (suc k) x = ap (λ l. f y ∷ l) (map_set xs k x)

pub place_of : (waiting : List ScriptedSink) (given : List (Option ScriptedSink)) (number : ℕ) →
    IsGone number (Some (lines_of waiting given)) → number - 1 < length given
place_of waiting given number gone = inside (option_map stream_of) given (number - 1) None gone

pub put_in : (faults : ℕ) (waiting : List ScriptedSink) (given : List (Option ScriptedSink)) (number : ℕ) (c : ScriptedSink) →
    HasEnded number (stream_of c) (record { faults = faults; told = Some (lines_of waiting given) })
    (record { faults = faults; told = Some (lines_of waiting (slice_set given (number - 1) (Some c))) })
put_in faults waiting given number c = record {
  later = omega arith;
  told = ap (λ l. Some (record { waiting = (lines_of waiting given).waiting; given = l }))
      (map_set (option_map stream_of) given (number - 1) (Some c));
}
