-- The knot: what is read on one level stands there, if what is read further in does.
use Rattle.std.proofs.Common.{◌≡◌, ℕ, zero, suc, [], Ok, Err, refl, sym, ap, ◌∙◌}
use Rattle.pp_parser.specs.declared.inset.Inset.{Inset}
use Rattle.pp_parser.specs.declared.inset.Inset.TheVariants as goal
use Rattle.pp_parser.specs.declared.inset.InsetTree.{InsetTree}
use Rattle.pp_grammar.proofs.Reader.Input.{Input, Outcome, Parser}
use Rattle.pp_grammar.proofs.Reader.Inner.{Inner}
use Rattle.pp_parser.specs.declared.found.Found.{Found}
use Rattle.pp_tree.specs.declared.template.Template.{Template}
use Rattle.pp_grammar.proofs.Reader.Definitions.{main_manifest, module_file}
use Rattle.pp_grammar.proofs.Reader.Templates.{template}
use Rattle.pp_grammar.proofs.Reader.Levels.{part_by, within_to, deepest_to, read_to}
use Rattle.pp_grammar.specs.Places.{Within}
use Rattle.pp_grammar.specs.Files.{IsMain, IsModule, IsPart, LevelsTo}
use Rattle.pp_grammar.specs.Templates.{IsTemplate}
use Rattle.pp_grammar.proofs.Sound.Steps.{Sound, bind, done, reads}
use Rattle.pp_grammar.proofs.Sound.Inner.{IsSound}
use Rattle.pp_grammar.proofs.Sound.Expressions.{whole_sound, operand_sound, interpolated_sound, param_sound, case_option_sound}
use Rattle.pp_grammar.proofs.Sound.Ends.{EndsOnce}
use Rattle.pp_grammar.proofs.Sound.Resources.{query_sound}
use Rattle.pp_grammar.proofs.Sound.Statements.{statements_sound}
use Rattle.pp_grammar.proofs.Sound.FunctionBodies.{function_statements_sound}
use Rattle.pp_grammar.proofs.Sound.Files.{main_manifest_sound, module_file_sound}
use Rattle.pp_grammar.proofs.Sound.Templates.{template_sound}

pub part_sound : (inner : Inner) (N : Within) → IsSound inner N → EndsOnce N → (g : Inset) → Sound (part_by inner g) (IsPart N g)
unfolding part_by
part_sound inner N s once (goal.Whole bars) i = bind (whole_sound inner N s bars bars i) λ x j h. done h
part_sound inner N s once (goal.Operand bars) i = bind (operand_sound inner N s bars i) λ x j h. done h
part_sound inner N s once goal.Interpolated i = bind (interpolated_sound inner N s i) λ x j h. done h
part_sound inner N s once (goal.Param bars) i = bind (param_sound inner N s bars i) λ x j h. done h
part_sound inner N s once goal.Statements i = bind (statements_sound inner N s once i) λ x j h. done h
part_sound inner N s once goal.FunctionStatements i = bind (function_statements_sound inner N s i) λ x j h. done h
part_sound inner N s once goal.CaseOption i = bind (case_option_sound inner N s i) λ x j h. done h
part_sound inner N s once goal.Query i = bind (query_sound inner N s i) λ x j h. done h

-- where no level may be opened, nothing is read and nothing stands
deepest_sound : (behind : ℕ) → IsSound (within_to behind zero zero) (LevelsTo behind zero zero)
unfolding deepest_to read_to LevelsTo
deepest_sound behind = record { deepest = refl; keys = refl; reads = λ g i j p e. absurd cc }

place_of : Input → Outcome InsetTree → Input
place_of d (Ok x) = x.1
place_of d (Err r) = d

-- What stands further in ends once, where a reader reads whatever stands there.
pub ends_once : (read : Inset → Parser InsetTree) (N : Within) → ((g : Inset) (i j : Input) (p : InsetTree) → N.reads g i p j → read g i ≡ Ok (p, j)) → EndsOnce N
unfolding place_of
ends_once read N gives = record { ends = λ g i j l p q a b. ap (place_of j) (sym (gives g i j p a) ∙ gives g i l q b) }

pub within_sound : (behind : ℕ) → ((levels more : ℕ) → EndsOnce (LevelsTo behind levels more)) → (levels more : ℕ) → IsSound (within_to behind levels more) (LevelsTo behind levels more)
unfolding deepest_to read_to LevelsTo
within_sound behind once zero zero = deepest_sound behind
within_sound behind once zero (suc more) =
    record { deepest = refl; keys = refl; reads = λ g i j p e. reads (part_sound (within_to behind zero more) (LevelsTo behind zero more) (within_sound behind once zero more) (once zero more) g) i j p e }
within_sound behind once (suc levels) more =
    record { deepest = refl; keys = refl; reads = λ g i j p e. reads (part_sound (within_to behind levels more) (LevelsTo behind levels more) (within_sound behind once levels more) (once levels more) g) i j p e }

-- What is read of a main manifest, of a module file and of a template, stands there.
pub main_sound : (inner : Inner) (N : Within) → IsSound inner N → EndsOnce N
    → (i j : Input) (found : Found) → main_manifest inner i ≡ Ok (found, j) → IsMain N i found.statements found.definitions j
main_sound inner N s once i j found e = (main_manifest_sound inner N s once i).holds found j e

pub module_sound : (inner : Inner) (N : Within) → IsSound inner N
    → (i j : Input) (found : Found) → module_file inner i ≡ Ok (found, j) → (found.statements ≡ []) × IsModule N i found.definitions j
module_sound inner N s i j found e = (module_file_sound inner N s i).holds found j e

pub template_read_sound : (inner : Inner) (N : Within) → IsSound inner N → EndsOnce N
    → (i j : Input) (found : Template) → template inner i ≡ Ok (found, j) → IsTemplate N i found j
template_read_sound inner N s once i j found e = (template_sound inner N s once i).holds found j e
