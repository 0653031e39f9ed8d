use Rattle.std.proofs.Common.{◌≡◌, ℕ, ◌*◌, ◌+◌, ◌/◌, ◌%◌, IsTrue, arith, ap, sym, ◌∙◌, inl, inr, true≢false}
use Rattle.std.specs.Prelude.{nat_eq}
use Rattle.std.proofs.lemmas.Bool.Decides.{eqb_tells}
use Rattle.std.proofs.lemmas.Nat.{div-add-mod', mod-mul-add}
use Rattle.rel_graph.proofs.arrows.is_listing.Goals as goal

equal : (a b : ℕ) → IsTrue (nat_eq a b) → a ≡ b
equal a b h = elim (eqb_tells a b) [
  | inl same ↦ same.1
  | inr other ↦ absurd (true≢false (sym h ∙ other.0))
]

equal_told : (a b : ℕ) → a ≡ b → IsTrue (nat_eq a b)
equal_told a b e = elim (eqb_tells a b) [
  | inl same ↦ same.0
  | inr other ↦ absurd (other.1 e)
]

third : (step : ℕ) → step % 3 ≡ 1 → step ≡ (step / 3) * 3 + 1
third step e = sym (div-add-mod' step 3) ∙ ap (λ n. (step / 3) * 3 + n) e

rest : (step x : ℕ) → step ≡ x * 3 + 1 → step % 3 ≡ 1
rest step x e = ap (λ n. n % 3) e ∙ mod-mul-add x 3 1 (omega arith)

pub returns : goal.returns
returns c = (
  λ h. (c.args.step / 3, third c.args.step (equal (c.args.step % 3) 1 h)),
  λ l. equal_told (c.args.step % 3) 1 (rest c.args.step l.0 l.1),
)
