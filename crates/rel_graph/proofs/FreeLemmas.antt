-- What waits for nothing at first.
use Rattle.std.proofs.Common.{◌≡◌, ℕ, ◌+◌, ◌<◌, List, [], ◌∷◌, ◌++◌, slice_index, Contains, inl, inr, arith, subst, below_more}
use Rattle.std.proofs.lemmas.List.Elements.{Contains-push, Contains-push_cases, Contains-append_left}

module _ (waits free : List ℕ) (i : ℕ) (sound : (v : ℕ) → Contains free v → (v < i) × (slice_index waits v ≡ 0))
    (all : (v : ℕ) → v < i → slice_index waits v ≡ 0 → Contains free v) where
  earlier : (v : ℕ) → Contains free v → (v < i + 1) × (slice_index waits v ≡ 0)
  earlier v c = let h = sound v c in let n = h.0 in (omega (arith, n), h.1)

  pub skip_sound : (v : ℕ) → Contains free v → (v < i + 1) × (slice_index waits v ≡ 0)
  skip_sound = earlier

  pub skip_all : 0 < slice_index waits i → (v : ℕ) → v < i + 1 → slice_index waits v ≡ 0 → Contains free v
  skip_all some = below_more (λ v. slice_index waits v ≡ 0 → Contains free v) i all
      (λ none. absurd (omega (arith, some, none)))

  pub take_sound : slice_index waits i ≡ 0 →
      (v : ℕ) → Contains (free ++ i ∷ []) v → (v < i + 1) × (slice_index waits v ≡ 0)
  take_sound none v c = elim (Contains-push_cases free i v c) [
    | inl old ↦ earlier v old
    | inr same ↦ subst (λ x. (x < i + 1) × (slice_index waits x ≡ 0)) same (omega arith, none)
  ]

  pub take_all : (v : ℕ) → v < i + 1 → slice_index waits v ≡ 0 → Contains (free ++ i ∷ []) v
  take_all = below_more (λ v. slice_index waits v ≡ 0 → Contains (free ++ i ∷ []) v) i
      (λ v h z. Contains-append_left free (i ∷ []) v (all v h z)) (λ _. Contains-push free i)
