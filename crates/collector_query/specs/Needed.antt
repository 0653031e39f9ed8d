-- Which tag all that a query matches has.
use Rattle.std.specs.Prelude.{ℕ, List, Option, None, Some}
use Rattle.pp_values.specs.Datum.{Datum, text}
use Rattle.res_core.specs.Criteria.{Criterion, Criteria, all, by_title, by_tag, by_attribute, negation, conjunction}
use Rattle.res_core.specs.Criteria.{disjunction, no_criteria, one_more}

abbrev pub text_in : Datum → Option (List ℕ)
text_in (text t) = Some t
text_in d = None

abbrev pub or_else : Option (List ℕ) → Option (List ℕ) → Option (List ℕ)
or_else None next = next
or_else (Some t) next = Some t

-- That of `tag == 'a'`, alone or the first with `and` between it and other queries.
abbrev mutual
  pub needed_tag : Criterion → Option (List ℕ)
  needed_tag all = None
  needed_tag (by_title d) = None
  needed_tag (by_tag d) = text_in d
  needed_tag (by_attribute name d) = None
  needed_tag (negation c) = None
  needed_tag (conjunction cs) = first_needed cs
  needed_tag (disjunction cs) = None

  pub first_needed : Criteria → Option (List ℕ)
  first_needed no_criteria = None
  first_needed (one_more c cs) = or_else (needed_tag c) (first_needed cs)
