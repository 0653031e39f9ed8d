-- Lists that are kept as stacks: what comes first is what was put on last.
use denote.Ref.{Bor}
use Rattle.std.specs.Prelude.{ℕ, List, Option, map, reverse}
use Rattle.pp_tree.specs.declared.definition.Class.{Class}
use Rattle.eval_classes.specs.declared.chain.Chain as code
use Rattle.eval_classes.specs.declared.entered.Entered as code_entered

abbrev pub stack_of : {A B : Type 0} → (A → B) → List A → List B
stack_of told xs = reverse (map told xs)

-- a class, and the number of its scope
abbrev pub Entered : Type 0
Entered = Class × ℕ

abbrev pub entered_seen : code_entered.Entered → Entered
entered_seen e = (e.class.now, e.scope.number)

-- the last of its parents, those before it, and at the end the class; and the name of the last one's own parent
pub record Chain : Type 0 where
  pub last : Class
  pub before : List Class
  pub parent : Option (List ℕ)

abbrev pub chain_of : Class → List Class → Option (List ℕ) → Chain
chain_of last before parent = record { last = last; before = before; parent = parent }

abbrev pub class_seen : Bor Class → Class
class_seen c = c.now

abbrev pub chain_seen : code.Chain → Chain
chain_seen c = chain_of c.last.now (stack_of class_seen c.before.items) c.parent
