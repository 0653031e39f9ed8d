-- Two readers of the same text, of which the second one may open more levels from some place on, or everywhere.
use Rattle.std.proofs.Common.{◌≡◌, ℕ, ◌+◌, ◌<◌, ◌≤◌, ltb, Bool, true, false, not, [], Ok, Err, refl, sym, ap, subst, ◌∙◌, arith}
use Rattle.pp_parser.specs.declared.refusal.Refusal.TheVariants as refusals
use Rattle.pp_grammar.proofs.Reader.Input.{Input, Outcome, Parser}
use Rattle.pp_grammar.proofs.Reader.Inner.{Inner}
use Rattle.pp_grammar.proofs.Reader.Levels.{within_to, within}
use Rattle.pp_grammar.proofs.Local.Steps.{Cut, AlikeAt, Deepens, Follows, IsLocal, any}
use Rattle.pp_grammar.proofs.Local.Inner.{InnerLocal}
use Rattle.pp_grammar.proofs.Local.Levels.{more_levels, more_behind}
use Rattle.pp_grammar.proofs.Local.Laws.{alike_itself, alike_same, same_place}

-- the same text twice, and where the second one may open more
abbrev pub twice : (ℕ → Bool) → Cut
twice deeper = record { rest = []; other = []; same = refl; deeper = deeper }

itself_at : (deeper : ℕ → Bool) (i : Input) → AlikeAt (twice deeper) i i
itself_at deeper i = record { left = alike_itself i.left; doubled = refl }

-- ---- what the second one answers

pub read_too : {A : Type 0} (deeper : ℕ → Bool) (o other : Outcome A) (x : A) (j : Input) → o ≡ Ok (x, j) → Follows (twice deeper) o other → other ≡ Ok (x, j)
read_too deeper o other x j e h =
    let t : (l : Input) × (other ≡ Ok (x, l)) × AlikeAt (twice deeper) j l = subst (λ (w : Outcome _). Follows (twice deeper) w other) e h (omega arith) in
    t.1 ∙ ap (λ (l : Input). Ok (x, l)) (sym (same_place j t.0 (alike_same t.2.left) t.2.doubled))

pub wrong_too : {A : Type 0} (deeper : ℕ → Bool) (o other : Outcome A) (k : ℕ) → o ≡ Err (refusals.Wrong k) → Follows (twice deeper) o other → other ≡ Err (refusals.Wrong k)
wrong_too deeper o other k e h =
    let t : (n : ℕ) × (other ≡ Err (refusals.Wrong n)) × (n + 0 ≡ k + 0) = subst (λ (w : Outcome _). Follows (twice deeper) w other) e h (omega arith) in
    let w : t.0 ≡ k = omega arith in
    t.1 ∙ ap (λ n. Err (refusals.Wrong n)) w

pub deep_too : {A : Type 0} (deeper : ℕ → Bool) (o other : Outcome A) (k : ℕ) → o ≡ Err (refusals.Deep k) → Follows (twice deeper) o other → Deepens (deeper k) k other
deep_too deeper o other k e h =
    let t : (n : ℕ) × Deepens (deeper k) n other × (n + 0 ≡ k + 0) = subst (λ (w : Outcome _). Follows (twice deeper) w other) e h (omega arith) in
    let w : t.0 ≡ k = omega arith in
    subst (λ (n : ℕ). Deepens (deeper k) n other) w t.1

pub no_memory : {A : Type 0} (deeper : ℕ → Bool) (o other : Outcome A) → o ≡ Err refusals.Memory → Follows (twice deeper) o other → ⊥
no_memory deeper o other e h = subst (λ (w : Outcome _). Follows (twice deeper) w other) e h

-- ---- whole texts

module _ {A : Type 0} (p : Inner → Parser A) (each : (deeper : ℕ → Bool) (a b : Inner) → InnerLocal (twice deeper) a b → IsLocal (twice deeper) false any (p a) (p b)) where
  follow : (deeper : ℕ → Bool) (a b : Inner) (i : Input) → InnerLocal (twice deeper) a b → Follows (twice deeper) (p a i) (p b i)
  follow deeper a b i I = (each deeper a b I).follows refl i i (itself_at deeper i)

  -- as many levels up to a place, and more from there on, or from an earlier place on
  pub sooner : (first behind levels more greater : ℕ) (i : Input) → first ≤ behind → more < greater
      → Follows (twice (λ k. not (ltb behind k))) (p (within_to first levels more) i) (p (within_to behind levels greater) i)
  sooner first behind levels more greater i h k =
      follow (λ n. not (ltb behind n)) (within_to first levels more) (within_to behind levels greater) i (more_behind first behind levels more greater h k)

  -- more than all of them everywhere
  pub wider : (behind levels more n : ℕ) (i : Input) → levels + more < n → Follows (twice (λ k. true)) (p (within_to behind levels more) i) (p (within n) i)
  wider behind levels more n i h = follow (λ k. true) (within_to behind levels more) (within n) i (more_levels (twice (λ k. true)) behind levels more n (λ k. refl) h)
