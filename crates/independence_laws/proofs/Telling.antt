-- Owners that are found by a file, or by the code that renders a text: each is the one that was made for it.
use Rattle.std.proofs.Common.{◌≡◌, ◌≤◌, ◌+◌, ℕ, suc, Bool, true, false, cond, List, [], ◌∷◌, ◌++◌, length, Ordering}
use Rattle.std.proofs.Common.{Option, None, Some, refl, ap, sym, subst, ◌∙◌, ◌⊎◌, inl, inr, arith}
use Rattle.std.proofs.lemmas.Map.Text.{is_eq-slice_cmp}
use Rattle.std.proofs.lemmas.Slice.Eq.{bytes_eq-Decides}
use Rattle.std.specs.BTreeMap.{insert_entry, is_at}
use Rattle.std.specs.FinMap.{nat_cmp-IsAntisymmetric}
use Rattle.std.specs.Map.{lookup}
use Rattle.std.specs.Ordering.{is_eq, match_ordering, nat_cmp}
use Rattle.std.specs.declared.cmp.Ordering.TheVariants.{Less, Equal, Greater}
use Rattle.pp_values.specs.Rising.{text_cmp}
use Rattle.eval_world.specs.Owners.{Owners, inline_by, inline_file, inline_in, inline_owner, numbered, owner_at, owner_in}
use Rattle.eval_world.specs.Owners.{owner_of_file, with_file, with_inline}
use Rattle.eval_world.specs.declared.owner.Owner.{Owner}
use Rattle.independence_laws.specs.Alike.{AreTold, OwnersGoOn}
use Rattle.independence_laws.proofs.Owning.{last_there, number_stays, one_goes_on, owner_last, owner_stays, owners_stay}

pub tie : (o : Ordering) → is_eq o ≡ true → o ≡ Equal
tie Less e = absurd cc
tie Equal e = refl
tie Greater e = absurd cc

-- ---- what is found behind a new entry

module _ {K : Type 0} (cmp : K → K → Ordering) (exact : (a b : K) → cmp a b ≡ Equal → a ≡ b) (k : K) (v : ℕ) where
  -- it is the new one, or was found before
  Found : K → ℕ → List (K × ℕ) → Type 0
  Found q n es = ((q ≡ k) × (v ≡ n)) ⊎ (lookup (is_at (cmp q)) es ≡ Some n)

  here_by : (b : Bool) (q x : K) (n : ℕ) (es old : List (K × ℕ)) → is_eq (cmp q x) ≡ b → x ≡ k
      → cond b (Some v) (lookup (is_at (cmp q)) es) ≡ Some n
      → (b ≡ false → lookup (is_at (cmp q)) es ≡ Some n → lookup (is_at (cmp q)) old ≡ Some n) → Found q n old
  unfolding Found
  here_by true q x n es old e same is rest = inl (exact q x (tie (cmp q x) e) ∙ same, cc)
  here_by false q x n es old e same is rest = inr (rest refl is)

  there_by : (b : Bool) (q : K) (n : ℕ) (x : K × ℕ) (es : List (K × ℕ)) → is_eq (cmp q x.0) ≡ b
      → cond b (Some x.1) (lookup (is_at (cmp q)) (insert_entry cmp es k v)) ≡ Some n
      → (lookup (is_at (cmp q)) (insert_entry cmp es k v) ≡ Some n → Found q n es) → Found q n (x ∷ es)
  unfolding Found
  there_by true q n x es e is rest = inr (rw e is)
  there_by false q n x es e is rest = elim (rest is) [ inl found ↦ inl found | inr found ↦ inr (rw e found) ]

  step_by : (o : Ordering) (q : K) (n : ℕ) (x : K × ℕ) (es : List (K × ℕ)) → cmp k x.0 ≡ o
      → lookup (is_at (cmp q)) (match_ordering o ((k, v) ∷ x ∷ es) ((x.0, v) ∷ es) (x ∷ insert_entry cmp es k v)) ≡ Some n
      → (lookup (is_at (cmp q)) (insert_entry cmp es k v) ≡ Some n → Found q n es) → Found q n (x ∷ es)
  step_by Less q n x es e is rest = here_by (is_eq (cmp q k)) q k n (x ∷ es) (x ∷ es) refl refl is (λ f g. g)
  step_by Equal q n x es e is rest =
      here_by (is_eq (cmp q x.0)) q x.0 n es (x ∷ es) refl (sym (exact k x.0 e)) is (λ f g. rw f g)
  step_by Greater q n x es e is rest = there_by (is_eq (cmp q x.0)) q n x es refl is rest

  pub found_with : (q : K) (n : ℕ) (es : List (K × ℕ)) → lookup (is_at (cmp q)) (insert_entry cmp es k v) ≡ Some n
      → ((q ≡ k) × (v ≡ n)) ⊎ (lookup (is_at (cmp q)) es ≡ Some n)
  unfolding Found
  found_with q n [] is = here_by (is_eq (cmp q k)) q k n [] [] refl refl is (λ f g. g)
  found_with q n (x ∷ es) is = step_by (cmp k x.0) q n x es refl is (found_with q n es)

-- ---- a file more, and a text more

pub same_texts : (a b : List ℕ) → text_cmp a b ≡ Equal → a ≡ b
same_texts a b e = (bytes_eq-Decides a b).0 (sym (is_eq-slice_cmp a b) ∙ ap is_eq e)

-- what was told stays, where one owner more stands behind the others
module _ (o p : Owners) (goes : OwnersGoOn o p) where
  pub files_stay : (file : List ℕ) (n : ℕ) → (n ≤ length o.others) × (owner_at n o ≡ owner_of_file file o)
      → (n ≤ length p.others) × (owner_at n p ≡ owner_of_file file p)
  files_stay file n is = (
    number_stays o p n goes is.0,
    owner_stays o p n goes is.0 ∙ is.1 ∙ ap (λ (m : Owner). record m { file = file }) (sym goes.main),
  )

  pub inlines_stay : (k n : ℕ) → (k ≤ length o.others) × (n ≤ length o.others) × (owner_at n o ≡ inline_owner k o)
      → (k ≤ length p.others) × (n ≤ length p.others) × (owner_at n p ≡ inline_owner k p)
  inlines_stay k n is = (
    number_stays o p k goes is.0,
    number_stays o p n goes is.1,
    owner_stays o p n goes is.1 ∙ is.2
        ∙ ap (λ (m : Owner). record m { file = inline_file }) (sym (owner_stays o p k goes is.0)),
  )

-- what one finds by the file, or by the code that renders a text
pub record IsFound (o p : Owners) (n : ℕ) (says : Owner) : Type 0 where
  pub goes : OwnersGoOn o p
  pub told : AreTold p
  pub below : n ≤ length p.others
  pub owner : owner_at n p ≡ says

module _ (o : Owners) (told : AreTold o) where
  -- ---- by the file

  module _ (file : List ℕ) where
    abbrev new_file : Owner
    new_file = owner_of_file file o

    file_goes : OwnersGoOn o (with_file file o)
    file_goes = one_goes_on new_file o (with_file file o) refl refl

    file_last : owner_at (length o.others + 1) (with_file file o) ≡ new_file
    file_last = owner_last new_file o (with_file file o) refl refl

    file_there : length o.others + 1 ≤ length (with_file file o).others
    file_there = last_there new_file o (with_file file o) refl refl

    file_found : (f : List ℕ) (n : ℕ)
        → ((f ≡ file) × (length o.others + 1 ≡ n)) ⊎ (lookup (is_at (text_cmp f)) o.files ≡ Some n)
        → (n ≤ length (with_file file o).others) × (owner_at n (with_file file o) ≡ owner_of_file f (with_file file o))
    file_found f n (inl is) = subst (λ k. (k ≤ length (with_file file o).others)
        × (owner_at k (with_file file o) ≡ owner_of_file f (with_file file o))) is.1
        (file_there, file_last ∙ ap (λ g. owner_of_file g o) (sym is.0))
    file_found f n (inr is) = files_stay o (with_file file o) file_goes f n (told.files f n is)

    file_told : AreTold (with_file file o)
    file_told = record {
      files = λ f n is.
          file_found f n (found_with text_cmp same_texts file (length o.others + 1) f n o.files is);
      inlines = λ k n is. inlines_stay o (with_file file o) file_goes k n (told.inlines k n is);
    }

    by_number : (found : Option ℕ) → lookup (is_at (text_cmp file)) o.files ≡ found
        → IsFound o (numbered found file o).1 (numbered found file o).0 (owner_of_file file o)
    by_number (Some n) is = let r = told.files file n is in
        record { goes = owners_stay o; told = told; below = r.0; owner = r.1 }
    by_number None is = record { goes = file_goes; told = file_told; below = file_there; owner = file_last }

    pub in_file : IsFound o (owner_in file o).1 (owner_in file o).0 (owner_of_file file o)
    unfolding owner_in
    in_file = by_number (lookup (is_at (text_cmp file)) o.files) refl

  -- ---- by the code that renders a text

  module _ (number : ℕ) (below : number ≤ length o.others) where
    abbrev new_text : Owner
    new_text = inline_owner number o

    text_goes : OwnersGoOn o (with_inline number o)
    text_goes = one_goes_on new_text o (with_inline number o) refl refl

    text_last : owner_at (length o.others + 1) (with_inline number o) ≡ new_text
    text_last = owner_last new_text o (with_inline number o) refl refl

    text_there : length o.others + 1 ≤ length (with_inline number o).others
    text_there = last_there new_text o (with_inline number o) refl refl

    text_found : (k n : ℕ)
        → ((k ≡ number) × (length o.others + 1 ≡ n)) ⊎ (lookup (is_at (nat_cmp k)) o.inlines ≡ Some n)
        → (k ≤ length (with_inline number o).others) × (n ≤ length (with_inline number o).others)
        × (owner_at n (with_inline number o) ≡ inline_owner k (with_inline number o))
    text_found k n (inl is) = subst (λ j. (k ≤ length (with_inline number o).others)
        × (j ≤ length (with_inline number o).others)
        × (owner_at j (with_inline number o) ≡ inline_owner k (with_inline number o))) is.1 (
          subst (λ j. j ≤ length (with_inline number o).others) (sym is.0)
              (number_stays o (with_inline number o) number text_goes below),
          text_there,
          text_last ∙ ap (λ (m : Owner). record m { file = inline_file })
              (sym (owner_stays o (with_inline number o) number text_goes below)
              ∙ ap (λ j. owner_at j (with_inline number o)) (sym is.0)),
        )
    text_found k n (inr is) = inlines_stay o (with_inline number o) text_goes k n (told.inlines k n is)

    text_told : AreTold (with_inline number o)
    text_told = record {
      files = λ f n is. files_stay o (with_inline number o) text_goes f n (told.files f n is);
      inlines = λ k n is.
          text_found k n (found_with nat_cmp nat_cmp-IsAntisymmetric number (length o.others + 1) k n o.inlines is);
    }

    by_text : (found : Option ℕ) → lookup (is_at (nat_cmp number)) o.inlines ≡ found
        → IsFound o (inline_by found number o).1 (inline_by found number o).0 (inline_owner number o)
    by_text (Some n) is = let r = told.inlines number n is in
        record { goes = owners_stay o; told = told; below = r.1; owner = r.2 }
    by_text None is = record { goes = text_goes; told = text_told; below = text_there; owner = text_last }

    pub in_text : IsFound o (inline_in number o).1 (inline_in number o).0 (inline_owner number o)
    unfolding inline_in
    in_text = by_text (lookup (is_at (nat_cmp number)) o.inlines) refl
