-- Whether an integer has 64 bits, as a test and as a checked operation tells it.
use Rattle.std.proofs.Common.{◌≡◌, ◌<◌, ◌^◌, true, false, Option, None, Some, ℤ, pos, negsuc, refl, arith}
use Rattle.std.specs.Prelude.{FitsSigned}
use Rattle.std.specs.Int.{w64}
use Rattle.std.specs.Option.{SomeIff}
use Rattle.std.proofs.lemmas.Bool.Decides.{nat_tests}
use Rattle.pp_ops.specs.Numbers.{fits, in_range, ranged}

fits-true : (z : ℤ) → FitsSigned w64 z → fits z ≡ true
fits-true (pos n) h = let k : n < 2 ^ 63 = h.sfits in grind (arith, nat_tests)
fits-true (negsuc n) h = let k : n < 2 ^ 63 = h.sfits in grind (arith, nat_tests)

fits-back : (z : ℤ) → fits z ≡ true → FitsSigned w64 z
fits-back (pos n) h = let k : n < 2 ^ 63 = grind (arith, nat_tests) in record { sfits = k }
fits-back (negsuc n) h = let k : n < 2 ^ 63 = grind (arith, nat_tests) in record { sfits = k }

fits-false : (z : ℤ) → ¬ (FitsSigned w64 z) → fits z ≡ false
fits-false z h = elim (fits z) as (λ b. fits z ≡ b → fits z ≡ false)
    [ true ↦ λ e. absurd (h (fits-back z e)) | false ↦ λ e. e ] refl

pub range_told : (o : Option ℤ) (z : ℤ) → SomeIff o (FitsSigned w64 z) z → in_range z ≡ ranged o
range_told None z h = rw (fits-false z h) refl
range_told (Some x) z h = rw (fits-true z h.0, h.1) refl
