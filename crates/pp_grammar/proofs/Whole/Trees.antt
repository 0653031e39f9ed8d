-- A text has a tree exactly where what stands there is one, and tokens have one at most.
use Rattle.std.proofs.Common.{◌≡◌, ℕ, List, Option, Some, None, Result, Ok, Err, refl, sym, ap, subst, ◌∙◌}
use Rattle.pp_lexer.specs.Seen.{Token}
use Rattle.pp_lexer.specs.Bytes.{end_line}
use Rattle.pp_lexer.specs.Tokens.{tokens}
use Rattle.pp_tree.specs.declared.statement.Statement.{Statement}
use Rattle.pp_tree.specs.declared.definition.Definition.{Definition}
use Rattle.pp_tree.specs.declared.file.File.{File}
use Rattle.pp_tree.specs.declared.table.TableStop.{TableStop}
use Rattle.pp_tree.specs.Tables.{Entries, table_of}
use Rattle.pp_parser.specs.declared.refusal.Refusal.TheVariants as refusals
use Rattle.pp_grammar.proofs.Reader.Input.{Input, Outcome}
use Rattle.pp_grammar.specs.Keys.{earlier_line}
use Rattle.pp_parser.specs.declared.found.Found.{Found}
use Rattle.pp_grammar.proofs.Reader.Manifest.{start, doubled_name, without_doubles, file_with, file_from}
use Rattle.pp_parser.specs.Manifest.{file_of}
use Rattle.pp_grammar.specs.Laws.{the_end, max_levels, Limit, everywhere, IsFile, IsTree}
use Rattle.pp_grammar.proofs.Whole.Reading.{reading}
use Rattle.pp_grammar.proofs.Whole.Reads.{file_reader, file_reads}
use Rattle.pp_grammar.proofs.Whole.Parser.{file_of_by}

pub same_found : {A : Type 0} (a b : A) (i j : Input) (o : Outcome A) → o ≡ Ok (a, i) → o ≡ Ok (b, j) → (a ≡ b) × (i ≡ j)
same_found a b i j o e f =
    let both : (a, i) ≡ (b, j) = cc in
    (ap (λ (p : _ × Input). p.0) both, ap (λ (p : _ × Input). p.1) both)

-- tokens have one tree at most
pub one_tree : (limit : Limit) (path : List ℕ) (ts : List Token) (one other : Found) (d e : Option ℕ) → IsFile limit path ts one d → IsFile limit path ts other e → (one ≡ other) × (d ≡ e)
one_tree limit path ts one other d e a b =
    let same = same_found one other (the_end d) (the_end e) (reading (file_reader path) limit (start ts)) ((file_reads path).read limit ts one d a) ((file_reads path).read limit ts other e b) in
    (same.0, ap (λ (i : Input). i.doubled) same.1)

-- ---- where nothing stands twice

no_line : (a b : Option ℕ) → earlier_line a b ≡ None → (a ≡ None) × (b ≡ None)
unfolding earlier_line
no_line None b e = (refl, e)
no_line (Some a) None e = absurd cc
no_line (Some a) (Some b) e = absurd cc

module _ (path : List ℕ) (found : Found) where
  file_by : (key : Option ℕ) (table : Result Entries TableStop) (line : Option ℕ) (file : File) → earlier_line key (doubled_name table) ≡ line → without_doubles path found table line ≡ Ok file
      → (key ≡ None) × (found.statements ≡ file.statements) × (table ≡ Ok file.definitions)
  file_by key table (Some line) file e h = absurd cc
  file_by key (Ok entries) None file e h =
      let same : record { statements = found.statements; definitions = entries } ≡ file = cc in
      ((no_line key None e).0, ap (λ (f : File). f.statements) same, ap (λ (f : File). Ok f.definitions) same)
  file_by key (Err stop) None file e h = absurd cc

  tree_by : (key : Option ℕ) (file : File) → file_with path found key ≡ Ok file → (key ≡ None) × (found.statements ≡ file.statements) × (table_of found.definitions ≡ Ok file.definitions)
  unfolding file_with
  tree_by key file h = file_by key (table_of found.definitions) (earlier_line key (doubled_name (table_of found.definitions))) file refl h

module _ (path text : List ℕ) where
  is_tree_by : (o : Outcome Found) (file : File) → reading (file_reader path) (everywhere max_levels) (start (tokens text)) ≡ o → file_from path (end_line text) (tokens text) o ≡ Ok file → IsTree path text file
  is_tree_by (Ok p) file is h =
      let t = tree_by path p.0 p.1.doubled file h in
      let f = (file_reads path).stands (everywhere max_levels) (tokens text) p.0 p.1 is in
      let same : p.0 ≡ record { statements = file.statements; definitions = p.0.definitions } = λ x. record { statements = t.1 x; definitions = p.0.definitions } in
      record {
        definitions = p.0.definitions;
        stands = subst (λ (k : Option ℕ). IsFile (everywhere max_levels) path (tokens text) (record { statements = file.statements; definitions = p.0.definitions }) k) t.0 (subst (λ (g : Found). IsFile (everywhere max_levels) path (tokens text) g p.1.doubled) same f);
        table = t.2;
      }
  is_tree_by (Err (refusals.Wrong k)) file is h = absurd cc
  is_tree_by (Err (refusals.Deep k)) file is h = absurd cc
  is_tree_by (Err refusals.Memory) file is h = absurd cc

  -- the tree that is read is one
  pub is_tree : (file : File) → file_of path text ≡ Ok file → IsTree path text file
  is_tree file h = is_tree_by (reading (file_reader path) (everywhere max_levels) (start (tokens text))) file refl (sym (file_of_by path text) ∙ h)

  by_table : (statements : List Statement) (definitions : List Definition) (entries : Entries) → table_of definitions ≡ Ok entries → file_with path (record { statements = statements; definitions = definitions }) None ≡ Ok (record { statements = statements; definitions = entries })
  unfolding file_with earlier_line
  by_table statements definitions entries e = ap (λ (t : Result Entries TableStop). without_doubles path (record { statements = statements; definitions = definitions }) t (earlier_line None (doubled_name t))) e

  -- a tree is read
  pub tree_read : (file : File) → IsTree path text file → file_of path text ≡ Ok file
  tree_read file t =
      file_of_by path text ∙ ap (λ (o : Outcome Found). file_from path (end_line text) (tokens text) o) ((file_reads path).read (everywhere max_levels) (tokens text) (record { statements = file.statements; definitions = t.definitions }) None t.stands) ∙ by_table file.statements t.definitions file.definitions t.table
