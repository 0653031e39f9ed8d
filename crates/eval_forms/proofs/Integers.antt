-- The sum and the difference of two integers, as a checked operation tells them.
use Rattle.std.proofs.Common.{◌≡◌, Option, None, Some, ℤ, Ok, refl}
use Rattle.std.specs.Prelude.{FitsSigned, IfSome, is_ok, is_some}
use Rattle.std.specs.Int.{w64}
use Rattle.std.specs.Option.{SomeIff}
use Rattle.pp_ops.proofs.Ranges.{range_told}
use Rattle.pp_ops.specs.Numbers.{in_range}
use Rattle.pp_ops.specs.Operators.{at_place}
use Rattle.pp_ops.specs.declared.op.Op.{Op}
use Rattle.pp_values.specs.Datum.{int}
use Rattle.pp_values.specs.declared.place.Place.{Place}

pub integer_told : (q : Op) (o : Option ℤ) (z : ℤ) → SomeIff o (FitsSigned w64 z) z
    → IfSome o (λ x. (p : Place) → at_place q p (in_range z) ≡ Ok (int x))
integer_told q None z told = tt
integer_told q (Some x) z told = λ p. rw (range_told (Some x) z told) refl

-- there is one exactly where the result has 64 bits
pub integer_which : (o : Option ℤ) (z : ℤ) → SomeIff o (FitsSigned w64 z) z → is_some o ≡ is_ok (in_range z)
integer_which None z told = rw (range_told None z told) refl
integer_which (Some x) z told = rw (range_told (Some x) z told) refl
