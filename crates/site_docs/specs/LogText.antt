-- The text of a log: what the log functions of the language wrote, each with the name of its function.
use Rattle.std.specs.Prelude.{ℕ, List, [], ◌∷◌, ◌++◌, codes}
use Rattle.res_core.specs.declared.log_line.LogLine.{LogLine}

-- `notice: TEXT` and a line feed; the text stands as it is, so a line feed within it stays
abbrev pub log_line : LogLine → List ℕ
log_line l = l.level ++ (codes ": " ++ (l.text ++ 10 ∷ []))

-- nothing where nothing was written
unfoldable pub log_text : List LogLine → List ℕ
log_text [] = []
log_text (l ∷ ls) = log_line l ++ log_text ls
