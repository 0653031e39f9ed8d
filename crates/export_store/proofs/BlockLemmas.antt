-- Blocks of entries, one after another: leaves with their rows, and runs with their leaves.
use Rattle.std.proofs.Common.{append_assoc, append-nil, ◌≡◌, ℕ, suc, ◌+◌, ◌<◌, ◌≤◌, T, IsTrue, List, [], ◌∷◌, ◌++◌, length, take, drop, get_or, sym, ap, subst, ◌∙◌, arith, add-one, drop-cons}
use Rattle.std.proofs.lemmas.List.{take-append-drop, take_more, drop_all, drop-drop}
use Rattle.std.proofs.lemmas.Grind.{flat_map-append}
use Rattle.std.specs.List.{flat_map}
use Rattle.std.specs.FinMap.{is_sorted, find, put}
use Rattle.pp_values.specs.Rising.{text_cmp}
use Rattle.export_store.specs.Rows.{EntryOf, others}
use Rattle.export_store.specs.Levels.{is_above, Around}
use Rattle.export_store.proofs.MapLemmas.{true_of, test_of}
use Rattle.export_store.proofs.EntryLemmas.{sorted_front, sorted_back, sorted_middle, put-block, find-block, others-block, above_block}

-- a list from a place on
pub drop_one : {X : Type 0} (xs : List X) (i : ℕ) (x : X) → i < length xs → x ≡ get_or xs i x → drop i xs ≡ x ∷ drop (i + 1) xs
drop_one xs i x h at = rw (add-one, drop-cons xs i x) (ap (λ y. y ∷ drop (suc i) xs) (sym at))

-- a list, cut behind one of its members
pub around_one : {X : Type 0} (xs : List X) (i : ℕ) (x : X) → i < length xs → x ≡ get_or xs i x → xs ≡ take i xs ++ x ∷ drop (i + 1) xs
around_one xs i x h at = sym (take-append-drop i xs) ∙ ap (λ l. take i xs ++ l) (drop_one xs i x h at)

module _ {B V : Type 0} (f : B → List (EntryOf V)) where
  -- the entries of blocks, cut at one of these
  blocks_around : (blocks : List B) (i : ℕ) (x : B) → i < length blocks → x ≡ get_or blocks i x →
      flat_map f blocks ≡ flat_map f (take i blocks) ++ (f x ++ flat_map f (drop (i + 1) blocks))
  blocks_around blocks i x h at =
      ap (flat_map f) (around_one blocks i x h at) ∙ flat_map-append f (take i blocks) (x ∷ drop (i + 1) blocks)

  -- each block is sorted
  pub block_sorted : (blocks : List B) (i : ℕ) (x : B) → i < length blocks → x ≡ get_or blocks i x →
      IsTrue (is_sorted text_cmp (flat_map f blocks)) → IsTrue (is_sorted text_cmp (f x))
  block_sorted blocks i x h at order =
      true_of _ (sorted_middle (flat_map f (take i blocks)) (f x) (flat_map f (drop (i + 1) blocks))
      (subst (λ es. T (is_sorted text_cmp es)) (blocks_around blocks i x h at) (test_of _ order)))

  -- and so is it with all that stands behind it
  pub block_sorted_on : (blocks : List B) (i : ℕ) (x : B) → i < length blocks → x ≡ get_or blocks i x →
      IsTrue (is_sorted text_cmp (flat_map f blocks)) → IsTrue (is_sorted text_cmp (f x ++ flat_map f (drop (i + 1) blocks)))
  block_sorted_on blocks i x h at order =
      true_of _ (sorted_back (flat_map f (take i blocks)) (f x ++ flat_map f (drop (i + 1) blocks))
      (subst (λ es. T (is_sorted text_cmp es)) (blocks_around blocks i x h at) (test_of _ order)))

  up_to : (blocks : List B) (i : ℕ) (x : B) → i < length blocks → x ≡ get_or blocks i x →
      flat_map f (take (i + 1) blocks) ≡ flat_map f (take i blocks) ++ f x
  up_to blocks i x h at =
      let more : take (i + 1) blocks ≡ take i blocks ++ x ∷ [] = take_more blocks i x h ∙ ap (λ y. take i blocks ++ y ∷ []) (sym at) in
      ap (flat_map f) more ∙ flat_map-append f (take i blocks) (x ∷ []) ∙ ap (λ es. flat_map f (take i blocks) ++ es) (append-nil (f x))

  -- a key above a block that isn't empty is above those before it too
  pub passed : (k : List ℕ) (blocks : List B) (i : ℕ) (x : B) → i < length blocks → x ≡ get_or blocks i x → 1 ≤ length (f x) →
      IsTrue (is_sorted text_cmp (flat_map f blocks)) → IsTrue (is_above k (f x)) → IsTrue (is_above k (flat_map f (take (i + 1) blocks)))
  passed k blocks i x h at some order p =
      let parts = up_to blocks i x h at in
      let whole : flat_map f blocks ≡ flat_map f (take (i + 1) blocks) ++ flat_map f (drop (i + 1) blocks) =
      ap (flat_map f) (sym (take-append-drop (i + 1) blocks)) ∙ flat_map-append f (take (i + 1) blocks) (drop (i + 1) blocks) in
      let front : T (is_sorted text_cmp (flat_map f (take (i + 1) blocks))) =
      sorted_front (flat_map f (take (i + 1) blocks)) (flat_map f (drop (i + 1) blocks)) (subst (λ es. T (is_sorted text_cmp es)) whole (test_of _ order)) in
      true_of _ (subst (λ es. T (is_above k es)) (sym parts)
      (above_block k (flat_map f (take i blocks)) (f x) some (subst (λ es. T (is_sorted text_cmp es)) parts front) (test_of _ p)))

  -- blocks up to the last one, and that one
  last_block : (blocks : List B) (i : ℕ) (x : B) → i + 1 ≡ length blocks → x ≡ get_or blocks i x → flat_map f blocks ≡ flat_map f (take i blocks) ++ f x
  last_block blocks i x h at =
      ap (flat_map f) (around_one blocks i x (omega (arith, h)) at ∙ ap (λ l. take i blocks ++ x ∷ l) (drop_all (i + 1) blocks (omega (arith, h))))
      ∙ flat_map-append f (take i blocks) (x ∷ []) ∙ ap (λ es. flat_map f (take i blocks) ++ es) (append-nil (f x))

  -- a key above the last one, which isn't empty, is above all
  pub above_all : (k : List ℕ) (blocks : List B) (i : ℕ) (x : B) → i + 1 ≡ length blocks → x ≡ get_or blocks i x → 1 ≤ length (f x) →
      IsTrue (is_sorted text_cmp (flat_map f blocks)) → IsTrue (is_above k (f x)) → IsTrue (is_above k (flat_map f blocks))
  above_all k blocks i x h at some order p =
      let split = last_block blocks i x h at in
      true_of _ (subst (λ es. T (is_above k es)) (sym split)
      (above_block k (flat_map f (take i blocks)) (f x) some (subst (λ es. T (is_sorted text_cmp es)) split (test_of _ order)) (test_of _ p)))

  -- what is sorted behind all is sorted behind the last one
  pub sorted_last : (blocks : List B) (i : ℕ) (x : B) (more : List (EntryOf V)) → i + 1 ≡ length blocks → x ≡ get_or blocks i x →
      IsTrue (is_sorted text_cmp (flat_map f blocks ++ more)) → IsTrue (is_sorted text_cmp (f x ++ more))
  sorted_last blocks i x more h at order =
      let joined : flat_map f blocks ++ more ≡ flat_map f (take i blocks) ++ (f x ++ more) =
      ap (λ es. es ++ more) (last_block blocks i x h at) ∙ append_assoc (flat_map f (take i blocks)) (f x) more in
      true_of _ (sorted_back (flat_map f (take i blocks)) (f x ++ more) (subst (λ es. T (is_sorted text_cmp es)) joined (test_of _ order)))

  -- ---- a change within one block

  pub two_halves : (n : ℕ) (blocks : List B) → flat_map f (take n blocks) ++ flat_map f (drop n blocks) ≡ flat_map f blocks
  two_halves n blocks = sym (flat_map-append f (take n blocks) (drop n blocks)) ∙ ap (flat_map f) (take-append-drop n blocks)

  -- blocks, cut in what stands in front of a place, what stands there, if anything, and what stands behind
  three_parts : (blocks : List B) (i : ℕ) →
      flat_map f blocks ≡ flat_map f (take i blocks) ++ (flat_map f (take 1 (drop i blocks)) ++ flat_map f (drop (i + 1) blocks))
  three_parts blocks i =
      ap (flat_map f) (sym (take-append-drop i blocks)) ∙ flat_map-append f (take i blocks) (drop i blocks)
      ∙ ap (λ es. flat_map f (take i blocks) ++ es)
      (ap (flat_map f) (sym (take-append-drop 1 (drop i blocks))) ∙ flat_map-append f (take 1 (drop i blocks)) (drop 1 (drop i blocks))
      ∙ ap (λ ls. flat_map f (take 1 (drop i blocks)) ++ flat_map f ls) (drop-drop 1 i blocks))

  -- what stands at a place
  pub at_place : (blocks : List B) (i : ℕ) (x : B) → i < length blocks → x ≡ get_or blocks i x → flat_map f (take 1 (drop i blocks)) ≡ f x
  at_place blocks i x h at = ap (λ ls. flat_map f (take 1 ls)) (drop_one blocks i x h at) ∙ append-nil (f x)

  pub past_end : (blocks : List B) (i : ℕ) → length blocks ≤ i → flat_map f (take 1 (drop i blocks)) ≡ []
  past_end blocks i h = ap (λ ls. flat_map f (take 1 ls)) (drop_all i blocks h)

  pub put_within : (k : List ℕ) (v : V) (blocks : List B) (i : ℕ) (a b rows all : List (EntryOf V)) →
      Around k (flat_map f (take i blocks)) (flat_map f (drop (i + 1) blocks)) → a ≡ flat_map f (take i blocks) →
      rows ≡ put text_cmp k v (flat_map f (take 1 (drop i blocks))) → b ≡ a ++ rows → all ≡ b ++ flat_map f (drop (i + 1) blocks) →
      all ≡ put text_cmp k v (flat_map f blocks)
  put_within k v blocks i a b rows all around front changed joined whole =
      let back : List (EntryOf V) = flat_map f (drop (i + 1) blocks) in
      whole ∙ ap (λ es. es ++ back) (joined ∙ ap (λ es. es ++ rows) front) ∙ append_assoc (flat_map f (take i blocks)) rows back
      ∙ ap (λ es. flat_map f (take i blocks) ++ (es ++ back)) changed
      ∙ sym (put-block k v (flat_map f (take i blocks)) (flat_map f (take 1 (drop i blocks))) back (test_of _ around.lower) (test_of _ around.higher))
      ∙ sym (ap (put text_cmp k v) (three_parts blocks i))

  pub others_within : (k : List ℕ) (blocks : List B) (i : ℕ) (a b rows all : List (EntryOf V)) →
      Around k (flat_map f (take i blocks)) (flat_map f (drop (i + 1) blocks)) → a ≡ flat_map f (take i blocks) →
      rows ≡ others k (flat_map f (take 1 (drop i blocks))) → b ≡ a ++ rows → all ≡ b ++ flat_map f (drop (i + 1) blocks) →
      all ≡ others k (flat_map f blocks)
  others_within k blocks i a b rows all around front changed joined whole =
      let back : List (EntryOf V) = flat_map f (drop (i + 1) blocks) in
      whole ∙ ap (λ es. es ++ back) (joined ∙ ap (λ es. es ++ rows) front) ∙ append_assoc (flat_map f (take i blocks)) rows back
      ∙ ap (λ es. flat_map f (take i blocks) ++ (es ++ back)) changed
      ∙ sym (others-block k (flat_map f (take i blocks)) (flat_map f (take 1 (drop i blocks))) back (test_of _ around.lower) (test_of _ around.higher))
      ∙ sym (ap (others k) (three_parts blocks i))

  pub find_within : (k : List ℕ) (blocks : List B) (i : ℕ) → Around k (flat_map f (take i blocks)) (flat_map f (drop (i + 1) blocks)) →
      find text_cmp k (flat_map f blocks) ≡ find text_cmp k (flat_map f (take 1 (drop i blocks)))
  find_within k blocks i around =
      ap (find text_cmp k) (three_parts blocks i)
      ∙ find-block k (flat_map f (take i blocks)) (flat_map f (take 1 (drop i blocks))) (flat_map f (drop (i + 1) blocks)) (test_of _ around.lower) (test_of _ around.higher)

  pub joined_halves : (old middle all : List (EntryOf V)) (blocks front back : List B) (n : ℕ) → front ≡ take n blocks → back ≡ drop n blocks →
      middle ≡ old ++ flat_map f front → all ≡ middle ++ flat_map f back → all ≡ old ++ flat_map f blocks
  joined_halves old middle all blocks front back n is_front is_back first_put then_put =
      then_put ∙ ap (λ es. es ++ flat_map f back) first_put ∙ append_assoc old (flat_map f front) (flat_map f back)
      ∙ ap (λ es. old ++ es)
      (ap (λ rs. flat_map f rs ++ flat_map f back) is_front ∙ ap (λ rs. flat_map f (take n blocks) ++ flat_map f rs) is_back ∙ two_halves n blocks)
