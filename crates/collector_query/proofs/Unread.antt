-- What a query that asks for no attribute says is the same whatever the attributes are.
use Rattle.std.proofs.Common.{◌≡◌, ℕ, Bool, true, false, ◌&&◌, ◌||◌, not, List, refl, ap, ◌∙◌}
use Rattle.pp_values.specs.Settings.{Setting}
use Rattle.res_core.specs.Criteria.{Criterion, Criteria, all, by_title, by_tag, by_attribute, negation, conjunction, disjunction, no_criteria, one_more}
use Rattle.collector_query.specs.Matches.{matches, match_all, match_some}
use Rattle.collector_query.specs.Reading.{reads_attributes, some_read}

of_none : (a b : Bool) → (a || b) ≡ false → (a ≡ false) × (b ≡ false)
of_none true b h = absurd cc
of_none false b h = (refl, h)

module _ (title : List ℕ) (tags : List (List ℕ)) (set other : List Setting) where
  mutual
    pub matches_same : (c : Criterion) → reads_attributes c ≡ false →
        matches c title tags set ≡ matches c title tags other
    matches_same all h = refl
    matches_same (by_title d) h = refl
    matches_same (by_tag d) h = refl
    matches_same (by_attribute name d) h = absurd cc
    matches_same (negation c) h = ap not (matches_same c h)
    matches_same (conjunction cs) h = all_same cs h
    matches_same (disjunction cs) h = some_same cs h

    all_same : (cs : Criteria) → some_read cs ≡ false → match_all cs title tags set ≡ match_all cs title tags other
    all_same no_criteria h = refl
    all_same (one_more c cs) h =
        let parts = of_none (reads_attributes c) (some_read cs) h in
        ap (λ b. b && match_all cs title tags set) (matches_same c parts.0)
        ∙ ap (λ b. matches c title tags other && b) (all_same cs parts.1)

    some_same : (cs : Criteria) → some_read cs ≡ false → match_some cs title tags set ≡ match_some cs title tags other
    some_same no_criteria h = refl
    some_same (one_more c cs) h =
        let parts = of_none (reads_attributes c) (some_read cs) h in
        ap (λ b. b || match_some cs title tags set) (matches_same c parts.0)
        ∙ ap (λ b. matches c title tags other || b) (some_same cs parts.1)
