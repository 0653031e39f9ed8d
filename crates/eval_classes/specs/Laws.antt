-- That no more turns are needed on a way over parents than are made.
use Rattle.std.specs.Prelude.{◌≡◌, ◌≤◌, ℕ, List, Option}
use Rattle.pp_tree.specs.declared.definition.Class.{Class}
use Rattle.res_book.specs.declared.row.Row.{Row}
use Rattle.eval_world.specs.Environment.{Environment}
use Rattle.eval_classes.specs.Above.{sources_from}
use Rattle.eval_classes.specs.Definitions.{comes_to, longest_way}
use Rattle.eval_classes.specs.Listing.{chain_from}

-- More turns than a longest way has come to what as many come to, whatever the site is.
abbrev pub ComesAlike : Type 0
ComesAlike = (m : Environment) (name : List ℕ) (at : Option (List ℕ)) (turns : ℕ) → longest_way m ≤ turns →
    comes_to turns m name at ≡ comes_to (longest_way m) m name at

-- .. list the same sources
abbrev pub SourcesAlike : Type 0
SourcesAlike = (m : Environment) (at : Option (List ℕ)) (turns : ℕ) → longest_way m ≤ turns →
    sources_from turns m at ≡ sources_from (longest_way m) m at

-- .. and find the same classes
abbrev pub ChainsAlike : Type 0
ChainsAlike = (m : Environment) (book : List Row) (before : List Class) (name : List ℕ) (c : Class) (turns : ℕ) →
    longest_way m ≤ turns → chain_from turns before name c m book ≡ chain_from (longest_way m) before name c m book
