-- What holds of a book at each moment.
use Rattle.std.specs.Prelude.{◌≡◌, ◌≤◌, List, length}
use Rattle.pp_values.specs.declared.reference.Reference.{Reference}
use Rattle.res_book.specs.Rows.{number_of, limit, AreApart, AreContained}
use Rattle.res_book.specs.declared.row.Row.{Row}
use Rattle.res_book.specs.Numbers.{Kinds, number_at}

-- the table has each reference that is declared, and its number
abbrev pub Finds : Kinds → List Row → Type 0
Finds kinds rows = (q : Reference) → number_at kinds q.kind q.title ≡ number_of q rows

pub record IsKept (kinds : Kinds) (rows : List Row) : Type 0 where
  pub finds : Finds kinds rows
  pub apart : AreApart rows
  pub contained : AreContained rows
  pub few : length rows ≤ limit
