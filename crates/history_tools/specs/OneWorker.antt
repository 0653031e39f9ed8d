-- Whose entries there are where one worker made them all.
use Rattle.std.specs.Prelude.{◌≡◌, ℕ, ◌+◌, ◌≤◌, List, [], ◌∷◌}
use Rattle.site_core.specs.Events.{Event, opens, publishes, adds}
use Rattle.site_core.specs.Legal.{Legal}
use Rattle.site_core.specs.Meaning.{Meaning}
use Rattle.site_core.specs.Resuming.{base_of}

module _ {S : Type 0} where
  -- author 0 made the entries, the first of them as its call of this number, and each other one as its next call
  abbrev pub AreCallsFrom : ℕ → List (Event S) → Type 0
  AreCallsFrom n [] = Unit {0}
  AreCallsFrom n (opens site ∷ es) = ⊥
  AreCallsFrom n (publishes p ∷ es) = (p.author ≡ 0) × (p.call ≡ n) × AreCallsFrom (n + 1) es
  AreCallsFrom n (adds author call what ∷ es) = (author ≡ 0) × (call ≡ n) × AreCallsFrom (n + 1) es

-- In a legal history that no second author wrote in, author 0 made all entries behind the opening, and its calls are
-- 0, 1, 2 and so on to the end.
abbrev pub OneAuthorCounts : {S C F : Type 0} → Meaning S C F → Type 0
OneAuthorCounts {S} meaning =
    (site : S) (more : List (Event S)) → Legal meaning (opens site ∷ more) → base_of (opens site ∷ more) ≤ 1 →
    AreCallsFrom 0 more
