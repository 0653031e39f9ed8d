-- The codes by which a proof tells queries apart.
use Rattle.std.specs.Prelude.{◌≡◌, List, refl}
use Rattle.std.proofs.Common.{ap, subst}
use Rattle.std.specs.Coded.{Coded, coded_list}
use base.Stored.{Gv, gnil, gnum, gcons}
use Rattle.pp_values.specs.SortCodes.{head, tail, tag, Tagged}
use Rattle.pp_values.specs.Codes.{coded_text, coded_datum}
use Rattle.res_core.specs.Criteria.{Criterion, Criteria, all, by_title, by_tag, by_attribute, negation, conjunction}
use Rattle.res_core.specs.Criteria.{disjunction, no_criteria, one_more}

abbrev mutual
  pub criterion_code : Criterion → Gv
  criterion_code all = gcons (gnum 0) gnil
  criterion_code (by_title d) = gcons (gnum 1) (coded_datum.code d)
  criterion_code (by_tag d) = gcons (gnum 2) (coded_datum.code d)
  criterion_code (by_attribute name d) = gcons (gnum 3) (gcons (coded_text.code name) (coded_datum.code d))
  criterion_code (negation c) = gcons (gnum 4) (criterion_code c)
  criterion_code (conjunction cs) = gcons (gnum 5) (criteria_code cs)
  criterion_code (disjunction cs) = gcons (gnum 6) (criteria_code cs)

  pub criteria_code : Criteria → Gv
  criteria_code no_criteria = gcons (gnum 0) gnil
  criteria_code (one_more c cs) = gcons (gnum 1) (gcons (criterion_code c) (criteria_code cs))

mutual
  pub criterion_inj : (x y : Criterion) → criterion_code x ≡ criterion_code y → x ≡ y
  criterion_inj all all p = refl
  criterion_inj (by_title a) (by_title b) p = λ i. by_title (coded_datum.inj a b (ap tail p) i)
  criterion_inj (by_tag a) (by_tag b) p = λ i. by_tag (coded_datum.inj a b (ap tail p) i)
  criterion_inj (by_attribute m a) (by_attribute n b) p =
      λ i. by_attribute (coded_text.inj m n (ap (λ g. head (tail g)) p) i)
      (coded_datum.inj a b (ap (λ g. tail (tail g)) p) i)
  criterion_inj (negation a) (negation b) p = λ i. negation (criterion_inj a b (ap tail p) i)
  criterion_inj (conjunction a) (conjunction b) p = λ i. conjunction (criteria_inj a b (ap tail p) i)
  criterion_inj (disjunction a) (disjunction b) p = λ i. disjunction (criteria_inj a b (ap tail p) i)
  criterion_inj x y p = absurd (subst (Tagged (tag (criterion_code x))) p tt)

  pub criteria_inj : (x y : Criteria) → criteria_code x ≡ criteria_code y → x ≡ y
  criteria_inj no_criteria no_criteria p = refl
  criteria_inj (one_more a xs) (one_more b ys) p =
      λ i. one_more (criterion_inj a b (ap (λ g. head (tail g)) p) i) (criteria_inj xs ys (ap (λ g. tail (tail g)) p) i)
  criteria_inj x y p = absurd (subst (Tagged (tag (criteria_code x))) p tt)

abbrev pub coded_criterion : Coded Criterion
coded_criterion = record { code = criterion_code; inj = criterion_inj }

abbrev pub coded_criteria : Coded (List Criterion)
coded_criteria = coded_list coded_criterion
