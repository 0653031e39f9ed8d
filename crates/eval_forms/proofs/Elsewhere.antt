-- What an operator or a test answers at one place, it answers at any other one: only a fault tells its place.
use Rattle.std.proofs.Common.{◌≡◌, ℕ, Bool, Option, None, Some, Result, Ok, Err, refl}
use Rattle.expr_eval.specs.Combining as steps
use Rattle.expr_eval.specs.Testing as testing
use Rattle.expr_eval.specs.TypeValues.{type_name, as_value, type_accessed}
use Rattle.pp_ops.specs.Operators.{at_place, computed}
use Rattle.pp_ops.specs.declared.op.Op.{Op}
use Rattle.pp_ops.specs.declared.op.Op.TheVariants as op
use Rattle.pp_ops.specs.declared.refusal.Refusal.{Refusal}
use Rattle.pp_types.specs.Arguments.{made, or_wrong}
use Rattle.pp_values.specs.Answers.{and_then}
use Rattle.pp_values.specs.Datum.{Datum, list, kind, reference, members_of}
use Rattle.pp_values.specs.Sort.{Name, Sort}
use Rattle.pp_values.specs.declared.place.Place.{Place}
use Rattle.eval_world.specs.Worlds.{answered_at, place_at}
use Rattle.eval_world.specs.declared.here.Here.{Here}
use Rattle.eval_world.specs.declared.world.World.{World}
use Rattle.eval_forms.specs.Answering.{combined}

module _ (p q : Place) where
  computed_there : (o : Op) (r : Result Datum Refusal) {d : Datum} → at_place o p r ≡ Ok d → at_place o q r ≡ Ok d
  computed_there o (Ok e) is = is
  computed_there o (Err f) is = absurd cc

  made_there : (n : Name) (m : Option Sort) {d : Datum} → and_then (or_wrong n p m) (λ t. Ok (as_value t)) ≡ Ok d
      → and_then (or_wrong n q m) (λ t. Ok (as_value t)) ≡ Ok d
  made_there n None is = absurd cc
  made_there n (Some s) is = is

  accessed_there : (s : Sort) (a : Datum) {d : Datum} → type_accessed s a p ≡ Ok d → type_accessed s a q ≡ Ok d
  accessed_there s (list arguments) is = made_there (type_name s) (made (type_name s) (members_of arguments)) is
  accessed_there s a is = absurd cc

  combined_there : (o : Op) (a b : Datum) {d : Datum} → steps.combined o a b p ≡ Ok d → steps.combined o a b q ≡ Ok d
  combined_there op.Member (kind s) b is = is
  combined_there op.Access (kind s) b is = accessed_there s b is
  combined_there o a b is = computed_there o (computed o a b) is

  tested_there : (a b : Datum) {t : Bool} → testing.is_of a b p ≡ Ok t → testing.is_of a b q ≡ Ok t
  tested_there a (kind s) is = is
  tested_there a (reference r) is = is
  tested_there a b is = absurd cc

module _ (line : ℕ) (here : Here) (w : World) (p : Place) where
  pub combined_here : (o : Op) (a b d : Datum) → steps.combined o a b p ≡ Ok d
      → combined o a b line here w ≡ Ok (d, w)
  unfolding combined
  combined_here o a b d is = let there = combined_there p (place_at w here line) o a b is in rw there refl

  pub tested_here : (a b : Datum) (t : Bool) → testing.is_of a b p ≡ Ok t
      → answered_at (testing.is_of a b) line here w ≡ Ok (t, w)
  tested_here a b t is = let there = tested_there p (place_at w here line) a b is in rw there refl

-- what is the same at each place
pub known_here : (line : ℕ) (here : Here) (w : World) (o : Op) (a b d : Datum)
    → ((q : Place) → steps.combined o a b q ≡ Ok d) → combined o a b line here w ≡ Ok (d, w)
unfolding combined
known_here line here w o a b d known = rw (known (place_at w here line)) refl
