-- The function `realize`: `realize(File['/a'], [User['b'], User['c']])`.
use Rattle.std.specs.Prelude.{ℕ, List, [], ◌∷◌, ◌++◌, Option, None, Some, option_and_then}
use Rattle.pp_funcs.specs.Lists.{flat}
use Rattle.pp_values.specs.Datum as d
use Rattle.pp_values.specs.Datum.{Datum}
use Rattle.pp_values.specs.declared.reference.Reference.{Reference}
use Rattle.eval_collectors.specs.Collectors.{realize_rule}
use Rattle.eval_world.specs.Outcomes.{Step, ◌>>=◌, ◌>>◌, pure}
use Rattle.eval_world.specs.Worlds.{wrong}
use Rattle.eval_world.specs.declared.here.Here.{Here}

-- ---- the arguments

abbrev pub reference_in : Datum → Option Reference
reference_in (d.reference r) = Some r
reference_in _ = None

-- these references, behind those that are there; none where one is no reference
unfoldable pub references_from : List Reference → List Datum → Option (List Reference)
references_from done [] = Some done
references_from done (x ∷ xs) = option_and_then (λ r. references_from (done ++ r ∷ []) xs) (reference_in x)

-- those of arguments, of which lists are flattened
unfoldable pub arguments_from : List Reference → List Datum → Option (List Reference)
arguments_from done [] = Some done
arguments_from done (x ∷ xs) = option_and_then (λ more. arguments_from more xs) (references_from done (flat x))

-- one argument or more
abbrev pub references_asked : List Datum → Option (List Reference)
references_asked [] = None
references_asked (x ∷ xs) = arguments_from [] (x ∷ xs)

-- ---- what it does

-- a collector for each reference, in order
unfoldable pub realize_from : List Reference → ℕ → Here → Step (Unit {0})
realize_from [] line here = pure tt
realize_from (r ∷ rs) line here = do
  realize_rule r line here
  realize_from rs line here

-- its value is Undef
unfoldable pub realize_all : List Reference → ℕ → Here → Step Datum
realize_all rs line here = do
  realize_from rs line here
  pure d.undef

abbrev pub realized_by : Option (List Reference) → List ℕ → ℕ → Here → Step Datum
realized_by None f line here = wrong f line here
realized_by (Some rs) f line here = realize_all rs line here

-- All arguments are looked at before the first collector is registered: F7.
unfoldable pub realized : List ℕ → List Datum → ℕ → Here → Step Datum
realized f arguments line here = realized_by (references_asked arguments) f line here
