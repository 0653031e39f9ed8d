-- Rising texts: a text put at its place keeps them rising, and they are told apart by what they hold.
use Rattle.std.proofs.Common.{◌≡◌, ℕ, Bool, true, false, ◌||◌, List, [], ◌∷◌, ◌++◌, Ordering, refl, sym, ap, subst, ◌∙◌}
use Rattle.std.specs.declared.cmp.Ordering.TheVariants.{Less, Equal, Greater}
use Rattle.std.specs.Ordering.{is_lt, is_eq, match_ordering, ordering_reverse}
use Rattle.std.specs.Cmp.{first_so, second_so, tied_itself}
use Rattle.std.specs.Cmp.Derive.{both_true}
use Rattle.std.specs.FinMap.{slice_cmp-IsAntisymmetric, nat_cmp-IsAntisymmetric}
use Rattle.std.proofs.lemmas.Cmp.{nat_list_cmp_total}
use Rattle.std.proofs.lemmas.Map.Text.{is_eq-slice_cmp}
use Rattle.std.specs.BTreeSet.{insert_key}
use Rattle.std.specs.Str.{bytes_eq}
use Rattle.pp_values.specs.Rising.{text_cmp, precedes, is_rising, has_text, with_texts}

less : (o : Ordering) → is_lt o ≡ true → o ≡ Less
less Less e = refl
less Equal e = cc
less Greater e = cc

-- texts that compare as equal are the same
same_texts : (a b : List ℕ) → text_cmp a b ≡ Equal → a ≡ b
same_texts = slice_cmp-IsAntisymmetric nat_cmp-IsAntisymmetric

not_less_itself : (a : List ℕ) → text_cmp a a ≡ Equal
not_less_itself a = tied_itself nat_list_cmp_total a

above : (a b : List ℕ) → text_cmp a b ≡ Greater → is_lt (text_cmp b a) ≡ true
above a b e = ap is_lt (nat_list_cmp_total.antisymm b a ∙ ap ordering_reverse e)

precedes-insert_key : (u t : List ℕ) (us : List (List ℕ)) → is_lt (text_cmp u t) ≡ true → precedes u us ≡ true → precedes u (insert_key text_cmp us t) ≡ true
precedes-insert_key u t [] below first = below
precedes-insert_key u t (v ∷ vs) below first =
    elim (text_cmp t v) as (λ o. precedes u (match_ordering o (t ∷ v ∷ vs) (v ∷ vs) (v ∷ insert_key text_cmp vs t)) ≡ true) [
      | Less ↦ below
      | Equal ↦ first
      | Greater ↦ first
    ]

pub is_rising-insert_key : (ts : List (List ℕ)) (t : List ℕ) → is_rising ts ≡ true → is_rising (insert_key text_cmp ts t) ≡ true
is_rising-insert_key [] t h = refl
is_rising-insert_key (u ∷ us) t h =
    elim (text_cmp t u) as (λ o. text_cmp t u ≡ o → is_rising (match_ordering o (t ∷ u ∷ us) (u ∷ us) (u ∷ insert_key text_cmp us t)) ≡ true) [
      | Less ↦ λ e. both_true (ap is_lt e) h
      | Equal ↦ λ e. h
      | Greater ↦ λ e. both_true (precedes-insert_key u t us (above t u e) (first_so _ _ h)) (is_rising-insert_key us t (second_so _ _ h))
    ] refl

again : (a b : Bool) → (a || (a || b)) ≡ (a || b)
again true b = refl
again false b = refl

swapped : (a b c : Bool) → (a || (b || c)) ≡ (b || (a || c))
swapped true true c = refl
swapped true false c = refl
swapped false b c = refl

pub has_text-insert_key : (ts : List (List ℕ)) (t q : List ℕ) → has_text (insert_key text_cmp ts t) q ≡ (bytes_eq q t || has_text ts q)
has_text-insert_key [] t q = refl
has_text-insert_key (u ∷ us) t q =
    elim (text_cmp t u) as (λ o. text_cmp t u ≡ o → has_text (match_ordering o (t ∷ u ∷ us) (u ∷ us) (u ∷ insert_key text_cmp us t)) q ≡ (bytes_eq q t || has_text (u ∷ us) q)) [
      | Less ↦ λ e. refl
      | Equal ↦ λ e. subst (λ v. has_text (u ∷ us) q ≡ (bytes_eq q v || has_text (u ∷ us) q)) (sym (same_texts t u e)) (sym (again (bytes_eq q u) (has_text us q)))
      | Greater ↦ λ e. ap (λ b. bytes_eq q u || b) (has_text-insert_key us t q) ∙ swapped (bytes_eq q u) (bytes_eq q t) (has_text us q)
    ] refl

pub is_rising-with_texts : (ts held : List (List ℕ)) → is_rising held ≡ true → is_rising (with_texts held ts) ≡ true
is_rising-with_texts [] held h = h
is_rising-with_texts (t ∷ ts) held h = is_rising-with_texts ts _ (is_rising-insert_key held t h)

moved : (a b c : Bool) → (c || (a || b)) ≡ ((a || c) || b)
moved true true true = refl
moved true true false = refl
moved true false true = refl
moved true false false = refl
moved false b true = refl
moved false b false = refl

pub has_text-with_texts : (ts held : List (List ℕ)) (q : List ℕ) → has_text (with_texts held ts) q ≡ (has_text ts q || has_text held q)
has_text-with_texts [] held q = refl
has_text-with_texts (t ∷ ts) held q = has_text-with_texts ts _ q ∙ ap (λ b. has_text ts q || b) (has_text-insert_key held t q) ∙ moved (bytes_eq q t) (has_text held q) (has_text ts q)

unequal : (a b : List ℕ) → is_lt (text_cmp a b) ≡ true → bytes_eq a b ≡ false
unequal a b h = sym (is_eq-slice_cmp a b) ∙ ap is_eq (less _ h)

equal_itself : (a : List ℕ) → bytes_eq a a ≡ true
equal_itself a = sym (is_eq-slice_cmp a a) ∙ ap is_eq (not_less_itself a)

-- what is below the first of rising texts is none of them
absent : (t : List ℕ) (us : List (List ℕ)) → precedes t us ≡ true → is_rising us ≡ true → has_text us t ≡ false
absent t [] first h = refl
absent t (u ∷ us) first h =
    ap (λ b. b || has_text us t) (unequal t u first)
    ∙ absent t us (below_next us h) (second_so _ _ h) where
      below_next : (vs : List (List ℕ)) → is_rising (u ∷ vs) ≡ true → precedes t vs ≡ true
      below_next [] r = refl
      below_next (v ∷ vs) r = ap is_lt (nat_list_cmp_total.trans t u v (less _ first) (less _ (first_so _ _ r)))

has_first : (t : List ℕ) (ts : List (List ℕ)) → has_text (t ∷ ts) t ≡ true
has_first t ts = ap (λ b. b || has_text ts t) (equal_itself t)

contradiction : {A : Type 0} (b : Bool) → b ≡ true → b ≡ false → A
contradiction b is is_not = cc

-- the rest holds what the whole holds, but the first
in_rest : (t : List ℕ) (ts us : List (List ℕ)) → is_rising (t ∷ ts) ≡ true → is_rising (t ∷ us) ≡ true → ((q : List ℕ) → has_text (t ∷ ts) q ≡ has_text (t ∷ us) q) → (q : List ℕ) → has_text ts q ≡ has_text us q
in_rest t ts us h k alike q =
    elim (text_cmp q t) as (λ o. text_cmp q t ≡ o → has_text ts q ≡ has_text us q) [
      | Less ↦ λ e. skip (unequal q t (ap is_lt e))
      | Equal ↦ λ e. subst (λ v. has_text ts v ≡ has_text us v) (sym (same_texts q t e)) (absent t ts (first_so _ _ h) (second_so _ _ h) ∙ sym (absent t us (first_so _ _ k) (second_so _ _ k)))
      | Greater ↦ λ e. skip (sym (is_eq-slice_cmp q t) ∙ ap is_eq e)
    ] refl where
      skip : bytes_eq q t ≡ false → has_text ts q ≡ has_text us q
      skip differs = sym (ap (λ b. b || has_text ts q) differs) ∙ alike q ∙ ap (λ b. b || has_text us q) differs

-- rising texts that hold the same are the same
pub same_rising : (ts us : List (List ℕ)) → is_rising ts ≡ true → is_rising us ≡ true → ((q : List ℕ) → has_text ts q ≡ has_text us q) → ts ≡ us
same_rising [] [] h k alike = refl
same_rising [] (u ∷ us) h k alike = contradiction _ (has_first u us) (sym (alike u))
same_rising (t ∷ ts) [] h k alike = contradiction _ (has_first t ts) (alike t)
same_rising (t ∷ ts) (u ∷ us) h k alike =
    elim (text_cmp t u) as (λ o. text_cmp t u ≡ o → (t ∷ ts) ≡ (u ∷ us)) [
      | Less ↦ λ e. contradiction _ (has_first t ts) (alike t ∙ absent t (u ∷ us) (ap is_lt e) k)
      | Equal ↦ λ e. ap (λ v. v ∷ ts) (same_texts t u e)
          ∙ ap (λ vs. u ∷ vs) (same_rising ts us (second_so _ _ h) (second_so _ _ k) (in_rest u ts us (subst (λ v. is_rising (v ∷ ts) ≡ true) (same_texts t u e) h) k (subst (λ v. (q : List ℕ) → has_text (v ∷ ts) q ≡ has_text (u ∷ us) q) (same_texts t u e) alike)))
      | Greater ↦ λ e. contradiction _ (has_first u us) (sym (alike u) ∙ absent u (t ∷ ts) (above t u e) h)
    ] refl

first_below : (t u : List ℕ) (ts us : List (List ℕ)) → is_rising (t ∷ (ts ++ u ∷ us)) ≡ true → is_lt (text_cmp t u) ≡ true
first_below t u [] us r = first_so _ _ r
first_below t u (v ∷ vs) us r = ap is_lt (nat_list_cmp_total.trans t v u (less _ (first_so _ _ r)) (less _ (first_below v u vs us (second_so (is_lt (text_cmp t v)) _ r))))

-- of rising texts, each later one is above the first
pub above_first : (t u : List ℕ) (ts us : List (List ℕ)) → is_rising (t ∷ (ts ++ u ∷ us)) ≡ true → text_cmp u t ≡ Greater
above_first t u ts us h = nat_list_cmp_total.antisymm u t ∙ ap ordering_reverse (less _ (first_below t u ts us h))
