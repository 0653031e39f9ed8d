-- Whether a query asks for an attribute.
use Rattle.std.specs.Prelude.{Bool, true, false, ◌||◌}
use Rattle.res_core.specs.Criteria.{Criterion, Criteria, all, by_title, by_tag, by_attribute, negation, conjunction}
use Rattle.res_core.specs.Criteria.{disjunction, no_criteria, one_more}

-- Where it doesn't, a resource matches or not whatever its attributes are.
abbrev mutual
  pub reads_attributes : Criterion → Bool
  reads_attributes all = false
  reads_attributes (by_title d) = false
  reads_attributes (by_tag d) = false
  reads_attributes (by_attribute name d) = true
  reads_attributes (negation c) = reads_attributes c
  reads_attributes (conjunction cs) = some_read cs
  reads_attributes (disjunction cs) = some_read cs

  pub some_read : Criteria → Bool
  some_read no_criteria = false
  some_read (one_more c cs) = reads_attributes c || some_read cs
