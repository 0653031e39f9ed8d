-- The names that a list of names of attributes holds: those of a native type's table, or its own.
use Rattle.std.specs.Prelude.{ℕ, List}
use Rattle.res_core.specs.NativeTypes.{attributes_of}
use Rattle.res_core.specs.declared.known_names.NamesForm.{NamesForm}
use Rattle.res_core.specs.declared.known_names.NamesForm.TheVariants as names

abbrev pub form_names : NamesForm → List (List ℕ)
form_names (names.Native n) = attributes_of n
form_names (names.Listed ts) = ts
