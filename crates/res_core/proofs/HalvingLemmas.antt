-- Attributes whose names rise, cut in two before one of them.
use Rattle.std.proofs.Common.{◌≡◌, ℕ, true, cond, IsTrue, List, [], ◌∷◌, ◌++◌, None, Some, Ordering, find, refl, ap, sym, subst, ◌∙◌}
use Rattle.std.specs.declared.cmp.Ordering.TheVariants.{Less, Equal, Greater}
use Rattle.std.specs.Ordering.{is_lt, is_eq, ordering_reverse}
use Rattle.std.specs.Cmp.{first_so, second_so}
use Rattle.std.specs.Cmp.Derive.{both_true}
use Rattle.std.specs.FinMap.{slice_cmp-IsAntisymmetric, nat_cmp-IsAntisymmetric}
use Rattle.std.specs.Str.{bytes_eq}
use Rattle.std.proofs.lemmas.Cmp.{nat_list_cmp_total}
use Rattle.std.proofs.lemmas.Map.Text.{is_eq-slice_cmp}
use Rattle.pp_values.specs.Rising.{text_cmp, is_rising}
use Rattle.pp_values.specs.Settings.{setting_names}
use Rattle.res_core.specs.AttributeViews.{settings}
use Rattle.res_core.specs.declared.attribute.Attribute.{Attribute}

abbrev pub names_of : List Attribute → List (List ℕ)
names_of xs = setting_names (settings xs)

less : (o : Ordering) → is_lt o ≡ true → o ≡ Less
less Less e = refl
less Equal e = cc
less Greater e = cc

turned : (a b : List ℕ) (o : Ordering) → text_cmp a b ≡ o → text_cmp b a ≡ ordering_reverse o
turned a b o e = nat_list_cmp_total.antisymm b a ∙ ap ordering_reverse e

decided : (a b : List ℕ) (o : Ordering) → text_cmp a b ≡ o → bytes_eq a b ≡ is_eq o
decided a b o e = sym (is_eq-slice_cmp a b) ∙ ap is_eq e

below_middle : (t : List ℕ) (front after : List Attribute) (x : Attribute) →
    is_rising (t ∷ names_of (front ++ x ∷ after)) ≡ true → text_cmp t x.name ≡ Less
below_middle t [] after x r = less _ (first_so _ _ r)
below_middle t (f ∷ fs) after x r =
    nat_list_cmp_total.trans t f.name x.name (less _ (first_so _ _ r))
    (below_middle f.name fs after x (second_so (is_lt (text_cmp t f.name)) _ r))

rising_front : (front after : List Attribute) (x : Attribute) → is_rising (names_of (front ++ x ∷ after)) ≡ true →
    is_rising (names_of front) ≡ true
rising_front [] after x r = refl
rising_front (f ∷ []) after x r = refl
rising_front (f ∷ g ∷ gs) after x r =
    both_true (first_so _ _ r) (rising_front (g ∷ gs) after x (second_so (is_lt (text_cmp f.name g.name)) _ r))

rising_back : (front back : List Attribute) → is_rising (names_of (front ++ back)) ≡ true →
    is_rising (names_of back) ≡ true
rising_back [] back r = r
rising_back (f ∷ fs) back r = rising_back fs back (second_so _ _ r)

module _ (name : List ℕ) where
  none_from : (x : Attribute) (after : List Attribute) → text_cmp name x.name ≡ Less →
      is_rising (names_of (x ∷ after)) ≡ true → find (λ a. bytes_eq a.name name) (x ∷ after) ≡ None
  none_from x [] h r = ap (λ b. cond b (Some x) None) (decided x.name name Greater (turned name x.name Less h))
  none_from x (y ∷ ys) h r =
      ap (λ b. cond b (Some x) (find (λ a. bytes_eq a.name name) (y ∷ ys)))
      (decided x.name name Greater (turned name x.name Less h))
      ∙ none_from y ys (nat_list_cmp_total.trans name x.name y.name h (less _ (first_so _ _ r)))
      (second_so (is_lt (text_cmp x.name y.name)) _ r)

  in_front : (front after : List Attribute) (x : Attribute) → is_rising (names_of (front ++ x ∷ after)) ≡ true →
      text_cmp name x.name ≡ Less →
      find (λ a. bytes_eq a.name name) front ≡ find (λ a. bytes_eq a.name name) (front ++ x ∷ after)
  in_front [] after x r h = sym (none_from x after h r)
  in_front (f ∷ fs) after x r h =
      ap (λ o. cond (bytes_eq f.name name) (Some f) o) (in_front fs after x (second_so _ _ r) h)

  in_back : (front after : List Attribute) (x : Attribute) → is_rising (names_of (front ++ x ∷ after)) ≡ true →
      ((t : List ℕ) → text_cmp t x.name ≡ Less → text_cmp t name ≡ Less) →
      find (λ a. bytes_eq a.name name) (x ∷ after) ≡ find (λ a. bytes_eq a.name name) (front ++ x ∷ after)
  in_back [] after x r up = refl
  in_back (f ∷ fs) after x r up =
      in_back fs after x (second_so _ _ r) up
      ∙ sym (ap (λ b. cond b (Some f) (find (λ a. bytes_eq a.name name) (fs ++ x ∷ after)))
      (decided f.name name Less (up f.name (below_middle f.name fs after x r))))

  module _ (left front back after : List Attribute) (x : Attribute) where
    cut : left ≡ front ++ back → back ≡ x ∷ after → left ≡ front ++ x ∷ after
    cut halves first = halves ∙ ap (λ b. front ++ b) first

    rising : left ≡ front ++ x ∷ after → IsTrue (is_rising (names_of left)) →
        is_rising (names_of (front ++ x ∷ after)) ≡ true
    rising halves r = sym (ap (λ xs. is_rising (names_of xs)) halves) ∙ r

    -- what is searched stands in the front
    pub goes_before : left ≡ front ++ back → back ≡ x ∷ after → IsTrue (is_rising (names_of left)) →
        text_cmp name x.name ≡ Less →
        IsTrue (is_rising (names_of front))
        × (find (λ a. bytes_eq a.name name) front ≡ find (λ a. bytes_eq a.name name) left)
    goes_before halves first r h =
        let whole = cut halves first in (
          rising_front front after x (rising whole r),
          in_front front after x (rising whole r) h ∙ sym (ap (find (λ a. bytes_eq a.name name)) whole),
        )

    -- it is the one in the middle
    pub stands_there : left ≡ front ++ back → back ≡ x ∷ after → IsTrue (is_rising (names_of left)) →
        text_cmp name x.name ≡ Equal → Some x ≡ find (λ a. bytes_eq a.name name) left
    stands_there halves first r h =
        let whole = cut halves first in
        sym (ap (λ b. cond b (Some x) (find (λ a. bytes_eq a.name name) after))
        (decided x.name name Equal (turned name x.name Equal h)))
        ∙ in_back front after x (rising whole r)
        (λ t below. subst (λ n. text_cmp t n ≡ Less)
        (sym (slice_cmp-IsAntisymmetric nat_cmp-IsAntisymmetric name x.name h)) below)
        ∙ sym (ap (find (λ a. bytes_eq a.name name)) whole)

    -- it stands behind that one
    pub goes_behind : left ≡ front ++ back → back ≡ x ∷ after → IsTrue (is_rising (names_of left)) →
        text_cmp name x.name ≡ Greater →
        IsTrue (is_rising (names_of after))
        × (find (λ a. bytes_eq a.name name) after ≡ find (λ a. bytes_eq a.name name) left)
    goes_behind halves first r h =
        let whole = cut halves first in
        let under : text_cmp x.name name ≡ Less = turned name x.name Greater h in (
          rising_back (x ∷ []) after (rising_back front (x ∷ after) (rising whole r)),
          sym (ap (λ b. cond b (Some x) (find (λ a. bytes_eq a.name name) after)) (decided x.name name Less under))
              ∙ in_back front after x (rising whole r)
              (λ t below. nat_list_cmp_total.trans t x.name name below under)
              ∙ sym (ap (find (λ a. bytes_eq a.name name)) whole),
        )
