-- What the code's reading of a type's name stands for.
use Rattle.pp_values.specs.Sort as n
use Rattle.pp_values.specs.Sort.{Name}
use Rattle.pp_types.specs.Names.{name_of}
use Rattle.expr_eval.specs.declared.type_values.Head.{Head}
use Rattle.expr_eval.specs.declared.type_values.Head.TheVariants as head

abbrev pub head_name : Head → Name
head_name (head.Data t) = name_of t
head_name (head.Resource k) = n.kind_of_resource k.now
