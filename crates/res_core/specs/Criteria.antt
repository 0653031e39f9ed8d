-- What a query asks for, with what its values say.
use Rattle.std.specs.Prelude.{ℕ, ◌+◌, List, [], ◌∷◌}
use Rattle.pp_values.specs.Datum.{Datum}

mutual
  pub data Criterion : Type 0 where
    all : Criterion
    by_title : Datum → Criterion
    by_tag : Datum → Criterion
    by_attribute : List ℕ → Datum → Criterion
    negation : Criterion → Criterion
    conjunction : Criteria → Criterion
    disjunction : Criteria → Criterion

  pub data Criteria : Type 0 where
    no_criteria : Criteria
    one_more : Criterion → Criteria → Criteria

abbrev pub criteria_of : List Criterion → Criteria
criteria_of [] = no_criteria
criteria_of (c ∷ cs) = one_more c (criteria_of cs)

-- a size by which a recursion over a query ends: each query within it is smaller than the whole
abbrev mutual
  pub criterion_size : Criterion → ℕ
  criterion_size all = 0
  criterion_size (by_title d) = 0
  criterion_size (by_tag d) = 0
  criterion_size (by_attribute name d) = 0
  criterion_size (negation c) = criterion_size c + 1
  criterion_size (conjunction cs) = criteria_size cs + 1
  criterion_size (disjunction cs) = criteria_size cs + 1

  pub criteria_size : Criteria → ℕ
  criteria_size no_criteria = 0
  criteria_size (one_more c cs) = criterion_size c + criteria_size cs + 1

abbrev pub criterion_list_size : List Criterion → ℕ
criterion_list_size [] = 0
criterion_list_size (c ∷ cs) = criterion_size c + criterion_list_size cs + 1
