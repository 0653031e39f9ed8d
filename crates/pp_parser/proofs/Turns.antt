-- Levels and lists, as the program counts them.
use Rattle.std.proofs.Common.{◌≡◌, ℕ, zero, suc, ◌+◌, ◌-◌, ◌<◌, ◌≤◌, Bool, true, false, if◌then◌else◌, nat_eq, List, [], ◌∷◌, ◌++◌, Option, Ok, Err, refl, sym, ap, ◌∙◌, arith}
use Rattle.std.proofs.Math.Dec.{eqb-suc-zero}
use Rattle.pp_lexer.specs.declared.kind.Kind.{Kind}
use Rattle.pp_parser.specs.declared.inset.Inset.{Inset}
use Rattle.pp_parser.specs.Input.{Input, Parser, and_then, ◌>>=◌, pure, kind, eat, refusal, more_or_done, repeat_from, separated_from}
use Rattle.pp_parser.specs.Levels.{within, part_by}

-- ---- levels

pub deepest_is : (levels : ℕ) → (within levels).is_deepest ≡ nat_eq levels 0
unfolding within
deepest_is zero = refl
deepest_is (suc n) = sym (eqb-suc-zero n)

pub read_none : (levels : ℕ) (goal : Inset) (i : Input) → levels ≡ 0 → (within levels).read goal i ≡ Err (refusal i)
unfolding within
read_none zero goal i e = refl
read_none (suc n) goal i e = absurd (omega arith)

pub read_within : (levels : ℕ) (goal : Inset) (i : Input) → 0 < levels → (within levels).read goal i ≡ part_by (within (levels - 1)) goal i
unfolding within
read_within zero goal i some = absurd (omega arith)
read_within (suc n) goal i some = let e : suc n - 1 ≡ n = omega arith in rw e refl

-- ---- lists

pub one_more : {X : Type 0} (f : ℕ → X) (n at : ℕ) → at < n → f (n - at) ≡ f (suc (n - (at + 1)))
one_more f n at below = let turn : n - at ≡ suc (n - (at + 1)) = omega arith in ap f turn

pub no_more : {X : Type 0} (f : ℕ → X) (n at : ℕ) → n ≤ at → f (n - at) ≡ f 0
no_more f n at done = let none : n - at ≡ 0 = omega arith in ap f none

pub either : {A : Type 0} (b : Bool) (p q : Parser A) (i : Input) → (if b then p else q) i ≡ (if b then p i else q i)
either true p q i = refl
either false p q i = refl

module _ {A : Type 0} (step : Parser (Option A)) where
  pub repeat_turn : (n at : ℕ) (found : List A) (i : Input) → at < n
      → repeat_from step (n - at) found i ≡ and_then (step i) (more_or_done found (repeat_from step (n - (at + 1))))
  unfolding repeat_from
  repeat_turn n at found i below = one_more (λ m. repeat_from step m found i) n at below

  pub repeat_none : (n at : ℕ) (found : List A) (i : Input) → n ≤ at → repeat_from step (n - at) found i ≡ Err (refusal i)
  unfolding repeat_from
  repeat_none n at found i done = no_more (λ m. repeat_from step m found i) n at done

module _ {A : Type 0} (ends : Option Kind → Bool) (separator : Kind) (item : Parser A) where
  pub separated_turn : (n at : ℕ) (found : List A) (i : Input) → at < n
      → separated_from ends separator item (n - at) found i
      ≡ (if ends (kind i) then Ok (found, i) else and_then (item i) (λ x. eat separator >>= (λ more. if more then separated_from ends separator item (n - (at + 1)) (found ++ x ∷ []) else pure (found ++ x ∷ []))))
  unfolding separated_from
  separated_turn n at found i below =
      one_more (λ m. separated_from ends separator item m found i) n at below ∙ either (ends (kind i)) (pure found) (item >>= (λ x. eat separator >>= (λ more. if more then separated_from ends separator item (n - (at + 1)) (found ++ x ∷ []) else pure (found ++ x ∷ [])))) i

  pub separated_none : (n at : ℕ) (found : List A) (i : Input) → n ≤ at → separated_from ends separator item (n - at) found i ≡ Err (refusal i)
  unfolding separated_from
  separated_none n at found i done = no_more (λ m. separated_from ends separator item m found i) n at done
