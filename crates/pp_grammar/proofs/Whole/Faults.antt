-- What is refused of a file, and where.
use Rattle.std.proofs.Common.{◌≡◌, ◌≢◌, ℕ, Bool, true, false, cond, List, [], ◌∷◌, ◌++◌, Option, Some, None, is_some, Result, Ok, Err, refl, sym, ap, subst, ◌∙◌}
use Rattle.std.specs.Map.{lookup}
use Rattle.pp_values.specs.declared.fault.Fault.{Fault}
use Rattle.pp_values.specs.declared.fault.What.TheVariants.{Syntax, DepthLimit}
use Rattle.pp_lexer.specs.Seen.{Token}
use Rattle.pp_lexer.specs.Bytes.{end_line}
use Rattle.pp_lexer.specs.Tokens.{tokens}
use Rattle.pp_tree.specs.declared.definition.Definition.{Definition}
use Rattle.pp_tree.specs.declared.file.File.{File}
use Rattle.pp_tree.specs.declared.rows.Row.{Row}
use Rattle.pp_tree.specs.declared.table.TableStop.{TableStop}
use Rattle.pp_tree.specs.declared.table.TableStop.TheVariants.{Doubled, Memory}
use Rattle.pp_tree.specs.Names.{same_name}
use Rattle.pp_tree.specs.Tables.{Entries, table_from, table_of, all_rows}
use Rattle.pp_parser.specs.declared.refusal.Refusal.TheVariants as refusals
use Rattle.pp_grammar.proofs.Reader.Input.{Outcome}
use Rattle.pp_grammar.specs.Keys.{earlier_line}
use Rattle.pp_parser.specs.declared.found.Found.{Found}
use Rattle.pp_grammar.proofs.Reader.Manifest.{start, line_from, line_of, fault_at, doubled_name, without_doubles, file_with, file_from}
use Rattle.pp_parser.specs.Manifest.{file_of}
use Rattle.pp_grammar.specs.Laws.{max_levels, everywhere, IsFile, IsTree, IsFault}
use Rattle.pp_grammar.proofs.Whole.Places.{one_place, one_depth, never_both, refused_stands, deep_stands}
use Rattle.pp_grammar.proofs.Whole.Reading.{reading}
use Rattle.pp_grammar.proofs.Whole.Reads.{file_reader, file_reads}
use Rattle.pp_grammar.proofs.Whole.Stops.{refused_fault, deep_fault}
use Rattle.pp_grammar.proofs.Whole.Trees.{one_tree}
use Rattle.pp_grammar.proofs.Whole.Parser.{file_of_by}

-- ---- the table of definitions has memory

row_stops : (done : Entries) (r : Row) (rs : List Row) (b : Bool) → ((more : Entries) → table_from more rs ≢ Err Memory)
    → cond b (Err (Doubled r.at)) (table_from (done ++ (r.name, r.definition) ∷ []) rs) ≢ Err Memory
row_stops done r rs true more e = absurd cc
row_stops done r rs false more e = more (done ++ (r.name, r.definition) ∷ []) e

table_has_memory : (rs : List Row) (done : Entries) → table_from done rs ≢ Err Memory
unfolding table_from
table_has_memory [] done e = absurd cc
table_has_memory (r ∷ rs) done e = row_stops done r rs (is_some (lookup (same_name r.name) done)) (table_has_memory rs) e

has_memory : (ds : List Definition) → table_of ds ≢ Err Memory
unfolding table_of
has_memory ds = table_has_memory (all_rows ds) []

no_doubled : (key : Option ℕ) (line : ℕ) → earlier_line key (Some line) ≡ None → ⊥
unfolding earlier_line
no_doubled None line e = cc
no_doubled (Some a) line e = cc

nothing_doubled : (ds : List Definition) (key : Option ℕ) (line : ℕ) (entries : Entries) → key ≡ None → table_of ds ≡ Ok entries → earlier_line key (doubled_name (table_of ds)) ≡ Some line → ⊥
unfolding earlier_line
nothing_doubled ds key line entries k t e =
    let w : earlier_line None (doubled_name (Ok entries)) ≡ Some line = subst (λ (x : Result Entries TableStop). earlier_line None (doubled_name x) ≡ Some line) t (subst (λ (x : Option ℕ). earlier_line x (doubled_name (table_of ds)) ≡ Some line) k e) in
    cc

module _ (path text : List ℕ) where
  no_other_stop : (found : Found) (key : Option ℕ) (stop : TableStop) → table_of found.definitions ≡ Err stop → earlier_line key (doubled_name (Err stop)) ≡ None → ⊥
  no_other_stop found key (Doubled line) table none = (no_doubled key line none)
  no_other_stop found key Memory table none = has_memory found.definitions table

  doubled_by : (found : Found) (key : Option ℕ) (table : Result Entries TableStop) (line : Option ℕ) (fault : Fault) → IsFile (everywhere max_levels) path (tokens text) found key
      → table_of found.definitions ≡ table → earlier_line key (doubled_name table) ≡ line → without_doubles path found table line ≡ Err fault → IsFault path text fault
  doubled_by found key table (Some line) fault file t e h =
      let same : fault_at path Syntax line ≡ fault = cc in
      subst (λ (f : Fault). IsFault path text f) same (IsFault.doubled found key line file (ap (λ (x : Result Entries TableStop). earlier_line key (doubled_name x)) t ∙ e))
  doubled_by found key (Ok entries) None fault file t e h = absurd cc
  doubled_by found key (Err stop) None fault file t e h = absurd (no_other_stop found key stop t e)

  found_by : (found : Found) (key : Option ℕ) (fault : Fault) → IsFile (everywhere max_levels) path (tokens text) found key → file_with path found key ≡ Err fault → IsFault path text fault
  unfolding file_with
  found_by found key fault file h = doubled_by found key (table_of found.definitions) (earlier_line key (doubled_name (table_of found.definitions))) fault file refl refl h

  fault_by : (o : Outcome Found) (fault : Fault) → reading (file_reader path) (everywhere max_levels) (start (tokens text)) ≡ o → file_from path (end_line text) (tokens text) o ≡ Err fault → IsFault path text fault
  fault_by (Ok r) fault is h = found_by r.0 r.1.doubled fault ((file_reads path).stands (everywhere max_levels) (tokens text) r.0 r.1 is) h
  fault_by (Err (refusals.Wrong k)) fault is h =
      let same : fault_at path Syntax (line_of (end_line text) (tokens text) k) ≡ fault = cc in
      subst (λ (f : Fault). IsFault path text f) same (refused_fault (file_reads path) path (end_line text) (tokens text) (IsFault path text) IsFault.refused IsFault.too_deep k is)
  fault_by (Err (refusals.Deep k)) fault is h =
      let same : fault_at path DepthLimit (line_of (end_line text) (tokens text) k) ≡ fault = cc in
      subst (λ (f : Fault). IsFault path text f) same (deep_fault (file_reads path) path (end_line text) (tokens text) (IsFault path text) IsFault.refused IsFault.too_deep k is)
  fault_by (Err refusals.Memory) fault is h = absurd ((file_reads path).looks.memory max_levels (tokens text) is)

  -- the fault that is answered is one
  pub is_fault : (fault : Fault) → file_of path text ≡ Err fault → IsFault path text fault
  is_fault fault h = fault_by (reading (file_reader path) (everywhere max_levels) (start (tokens text))) fault refl (sym (file_of_by path text) ∙ h)

  -- a text with a fault has no tree
  pub no_tree : (fault : Fault) (file : File) → IsFault path text fault → IsTree path text file → ⊥
  no_tree fault file (IsFault.refused front rest is r) tree =
      refused_stands (file_reads path) front rest (record { statements = file.statements; definitions = tree.definitions }) None r
      (subst (λ (ts : List Token). IsFile (everywhere max_levels) path ts (record { statements = file.statements; definitions = tree.definitions }) None) is tree.stands)
  no_tree fault file (IsFault.too_deep front rest t is d) tree =
      deep_stands (file_reads path) front rest t (record { statements = file.statements; definitions = tree.definitions }) None d
      (subst (λ (ts : List Token). IsFile (everywhere max_levels) path ts (record { statements = file.statements; definitions = tree.definitions }) None) is tree.stands)
  no_tree fault file (IsFault.doubled found key line stands e) tree =
      let same = one_tree (everywhere max_levels) path (tokens text) found (record { statements = file.statements; definitions = tree.definitions }) key None stands tree.stands in
      nothing_doubled found.definitions key line file.definitions same.1 (ap (λ (f : Found). table_of f.definitions) same.0 ∙ tree.table) e

  -- ---- one fault

  same_doubled : (found other : Found) (key mark : Option ℕ) (line at : ℕ) → (found ≡ other) × (key ≡ mark) → earlier_line key (doubled_name (table_of found.definitions)) ≡ Some line
      → earlier_line mark (doubled_name (table_of other.definitions)) ≡ Some at → line ≡ at
  same_doubled found other key mark line at same e f =
      let one : earlier_line mark (doubled_name (table_of other.definitions)) ≡ Some line = subst (λ (k : Option ℕ). earlier_line k (doubled_name (table_of other.definitions)) ≡ Some line) same.1 (subst (λ (g : Found). earlier_line key (doubled_name (table_of g.definitions)) ≡ Some line) same.0 e) in
      cc

  -- of a text at most one fault holds
  pub one_fault : (fault other : Fault) → IsFault path text fault → IsFault path text other → fault ≡ other
  one_fault fault other (IsFault.refused front rest is r) (IsFault.refused ahead behind at s) =
      ap (λ (ts : List Token). fault_at path Syntax (line_from (end_line text) ts)) (one_place (file_reads path) front rest ahead behind (sym is ∙ at) r s).1
  one_fault fault other (IsFault.refused front rest is r) (IsFault.too_deep ahead behind u at s) = absurd (never_both (file_reads path) front rest ahead behind u (sym is ∙ at) r s)
  one_fault fault other (IsFault.refused front rest is r) (IsFault.doubled found key line stands e) =
      absurd (refused_stands (file_reads path) front rest found key r (subst (λ (ts : List Token). IsFile (everywhere max_levels) path ts found key) is stands))
  one_fault fault other (IsFault.too_deep front rest t is d) (IsFault.refused ahead behind at s) = absurd (never_both (file_reads path) ahead behind front rest t (sym at ∙ is) s d)
  one_fault fault other (IsFault.too_deep front rest t is d) (IsFault.too_deep ahead behind u at s) =
      ap (λ (x : Token). fault_at path DepthLimit x.line) (one_depth (file_reads path) front rest ahead behind t u (sym is ∙ at) d s)
  one_fault fault other (IsFault.too_deep front rest t is d) (IsFault.doubled found key line stands e) =
      absurd (deep_stands (file_reads path) front rest t found key d (subst (λ (ts : List Token). IsFile (everywhere max_levels) path ts found key) is stands))
  one_fault fault other (IsFault.doubled found key line stands e) (IsFault.refused ahead behind at s) =
      absurd (refused_stands (file_reads path) ahead behind found key s (subst (λ (ts : List Token). IsFile (everywhere max_levels) path ts found key) at stands))
  one_fault fault other (IsFault.doubled found key line stands e) (IsFault.too_deep ahead behind u at s) =
      absurd (deep_stands (file_reads path) ahead behind u found key s (subst (λ (ts : List Token). IsFile (everywhere max_levels) path ts found key) at stands))
  one_fault fault other (IsFault.doubled found key line stands e) (IsFault.doubled twin mark at there f) =
      ap (λ (l : ℕ). fault_at path Syntax l) (same_doubled found twin key mark line at (one_tree (everywhere max_levels) path (tokens text) found twin key mark stands there) e f)
