-- Texts of reports.
use Rattle.std.specs.Prelude.{◌≡◌, ℕ, IsTrue, List, ◌++◌, codes}
use Rattle.pp_values.specs.Datum.{Datum}
use Rattle.pp_values.specs.Plain.{is_plain_value}

-- which call failed: `holds mode`, `write mode`, `refresh`
abbrev pub holds_fault : List ℕ → List ℕ
holds_fault name = codes "holds " ++ name

abbrev pub write_fault : List ℕ → List ℕ
write_fault name = codes "write " ++ name

abbrev pub refresh_fault : List ℕ
refresh_fault = codes "refresh"

-- the change of what was run
abbrev pub run_change : List ℕ
run_change = codes "run"

-- what is kept of a property: documents have a form of its value, and the texts are those of its failing calls
pub record IsWant (name : List ℕ) (value : Datum) (asking writing : List ℕ) : Type 0 where
  pub plain : IsTrue (is_plain_value value)
  pub asks : asking ≡ holds_fault name
  pub writes : writing ≡ write_fault name
