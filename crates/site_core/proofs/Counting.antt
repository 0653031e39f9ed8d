-- The counts when one more entry comes.
use Rattle.std.proofs.Common.{◌≡◌, ℕ, ◌+◌, ◌<◌, ◌≤◌, Bool, true, false, cond, List, [], ◌∷◌, ◌++◌, length, Some, refl, sym, ◌∙◌, ap, arith}
use Rattle.std.specs.Prelude.{◌==◌, ◌^◌, IsTrue}
use Rattle.std.specs.Option.{unwrap_or}
use Rattle.std.specs.BTreeMap.{BTreeMap}
use Rattle.std.proofs.lemmas.Bool.{eqb-true, eq-eqb}
use Rattle.std.proofs.lemmas.List.Sums.{sum_by-append, count_by-le-length}
use Rattle.site_core.specs.Events.{Event, opens, publishes, adds, is_by, author_of, calls_of}
use Rattle.site_core.specs.Counts.{count_in, SameCounts, AreCountsOf}
use Rattle.site_core.specs.declared.history.TheConstants.{MOST_ENTRIES}

one_more : (b : Bool) (n : ℕ) → n + (0 + cond b 1 0) ≡ cond b (n + 1) n
one_more true n = omega arith
one_more false n = omega arith

module _ {S : Type 0} where
  calls_of-push : (author : ℕ) (h : List (Event S)) (e : Event S) →
      calls_of author (h ++ e ∷ []) ≡ cond (is_by author e) (calls_of author h + 1) (calls_of author h)
  calls_of-push author h e = sum_by-append (λ x. cond (is_by author x) 1 0) h (e ∷ [])
      ∙ one_more (is_by author e) (calls_of author h)

  -- an entry of one author is of no other
  is_by_other : (author other : ℕ) (e : Event S) → IsTrue (is_by author e) → is_by other e ≡ (author == other)
  is_by_other author other (opens site) by = cc
  is_by_other author other (publishes p) by = ap (λ a. a == other) (eqb-true p.author author by)
  is_by_other author other (adds adder call what) by = ap (λ a. a == other) (eqb-true adder author by)

  pub counts_same : (old new : BTreeMap ℕ ℕ) (h : List (Event S)) → SameCounts old new → AreCountsOf old h →
      AreCountsOf new h
  counts_same old new h same counted author = same author ∙ counted author

  -- the author's count rises by one, and the others' stay
  pub counts_raised : (old new : BTreeMap ℕ ℕ) (author : ℕ) (h : List (Event S)) (e : Event S) →
      IsTrue (is_by author e) → AreCountsOf old h →
      ((other : ℕ) → count_in new other ≡ cond (author == other) (count_in old other + 1) (count_in old other)) →
      AreCountsOf new (h ++ e ∷ [])
  counts_raised old new author h e by counted raised other =
      raised other ∙ ap (λ n. cond (author == other) (n + 1) n) (counted other)
      ∙ ap (λ b. cond b (calls_of other h + 1) (calls_of other h)) (sym (is_by_other author other e by))
      ∙ sym (calls_of-push other h e)

  -- with the entries that are left, the counts are those of all
  pub record CountOn (counts : BTreeMap ℕ ℕ) (left all : List (Event S)) : Type 0 where
    pub sum : (author : ℕ) → count_in counts author + calls_of author left ≡ calls_of author all

  -- an entry with an author is theirs alone
  its_own : (author other : ℕ) (e : Event S) → author_of e ≡ Some author → is_by other e ≡ (author == other)
  its_own author other (opens site) is = absurd cc
  its_own author other (publishes p) is = ap (λ o. unwrap_or o 0 == other) is
  its_own author other (adds adder call what) is = ap (λ o. unwrap_or o 0 == other) is

  pub count_nothing : (counts : BTreeMap ℕ ℕ) (all : List (Event S)) → ((author : ℕ) → count_in counts author ≡ 0) →
      CountOn counts all all
  count_nothing counts all none = record { sum = λ author. let zero = none author in omega (arith, zero) }

  -- there is room for one more in the count
  pub count_fits : (old room : BTreeMap ℕ ℕ) (author : ℕ) (e : Event S) (left all : List (Event S)) →
      author_of e ≡ Some author → SameCounts old room → length all ≤ MOST_ENTRIES → CountOn old (e ∷ left) all →
      count_in room author + 1 < 2 ^ 32
  count_fits old room author e left all is same few on =
      let sum = on.sum author in let by = ap {B = ℕ} (λ b. cond b 1 0) (its_own author author e is ∙ eq-eqb author author refl) in
      let before = same author in let most = count_by-le-length (is_by author) all in omega (arith, sum, by, before, most, few)

  pub counted_all : (counts : BTreeMap ℕ ℕ) (left all : List (Event S)) → length left < 1 → CountOn counts left all →
      AreCountsOf counts all
  counted_all counts [] all none on author = let sum = on.sum author in omega (arith, sum)
  counted_all counts (e ∷ left) all none on author = absurd (omega (arith, none))
