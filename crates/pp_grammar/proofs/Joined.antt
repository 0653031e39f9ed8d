-- The reader reads exactly what stands there.
use Rattle.std.proofs.Common.{◌≡◌, ◌↔◌, ℕ, List, [], Ok}
use Rattle.pp_tree.specs.declared.definition.Definition.{Definition}
use Rattle.pp_tree.specs.declared.template.Template.{Template}
use Rattle.pp_grammar.proofs.Reader.Input.{Input}
use Rattle.pp_parser.specs.declared.found.Found.{Found}
use Rattle.pp_grammar.proofs.Reader.Definitions.{main_manifest, module_file}
use Rattle.pp_grammar.proofs.Reader.Templates.{template}
use Rattle.pp_grammar.proofs.Reader.Levels.{within_to}
use Rattle.pp_grammar.specs.Files.{IsMain, IsModule, LevelsTo}
use Rattle.pp_grammar.specs.Templates.{IsTemplate}
use Rattle.pp_grammar.specs.Laws.{only_definitions}
use Rattle.pp_grammar.proofs.Sound.Inner.{IsSound}
use Rattle.pp_grammar.proofs.Sound.Ends.{EndsOnce}
use Rattle.pp_grammar.proofs.Sound.Levels as sound
use Rattle.pp_grammar.proofs.Complete.Files.{within_complete, main_complete, module_complete}
use Rattle.pp_grammar.proofs.Complete.Templates.{template_complete}

module _ (behind levels more : ℕ) where
  once : (l m : ℕ) → EndsOnce (LevelsTo behind l m)
  once l m = sound.ends_once (within_to behind l m).read (LevelsTo behind l m) (within_complete behind l m).reads

  all_sound : IsSound (within_to behind levels more) (LevelsTo behind levels more)
  all_sound = sound.within_sound behind once levels more

  pub main_exactly : (i j : Input) (found : Found)
      → main_manifest (within_to behind levels more) i ≡ Ok (found, j) ↔ IsMain (LevelsTo behind levels more) i found.statements found.definitions j
  main_exactly i j found = (
    sound.main_sound (within_to behind levels more) (LevelsTo behind levels more) all_sound (once levels more) i j found,
    main_complete (within_to behind levels more) (LevelsTo behind levels more) (within_complete behind levels more) i j found.statements found.definitions,
  )

  pub module_stands : (i j : Input) (found : Found)
      → module_file (within_to behind levels more) i ≡ Ok (found, j) → (found.statements ≡ []) × IsModule (LevelsTo behind levels more) i found.definitions j
  module_stands = sound.module_sound (within_to behind levels more) (LevelsTo behind levels more) all_sound

  pub module_read : (i j : Input) (ds : List Definition)
      → IsModule (LevelsTo behind levels more) i ds j → module_file (within_to behind levels more) i ≡ Ok (only_definitions ds, j)
  module_read = module_complete (within_to behind levels more) (LevelsTo behind levels more) (within_complete behind levels more)

  pub template_stands : (i j : Input) (found : Template) → template (within_to behind levels more) i ≡ Ok (found, j) → IsTemplate (LevelsTo behind levels more) i found j
  template_stands = sound.template_read_sound (within_to behind levels more) (LevelsTo behind levels more) all_sound (once levels more)

  pub template_read : (i j : Input) (found : Template) → IsTemplate (LevelsTo behind levels more) i found j → template (within_to behind levels more) i ≡ Ok (found, j)
  template_read = template_complete (within_to behind levels more) (LevelsTo behind levels more) (within_complete behind levels more)
