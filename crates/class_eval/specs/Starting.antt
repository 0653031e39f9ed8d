-- The world before any statement is evaluated.
use Rattle.std.specs.Prelude.{[], ◌∷◌, Some, None, codes}
use Rattle.pp_values.specs.Datum.{Datum}
use Rattle.pp_values.specs.declared.place.TheConstants.{MAIN_MANIFEST}
use Rattle.override_rules.specs.Meaning.{scope_opened}
use Rattle.res_book.specs.Rows.{new_row}
use Rattle.res_book.specs.declared.mode.Mode.TheVariants as mode
use Rattle.res_book.specs.declared.row.Row.{Row}
use Rattle.res_core.specs.TagNames.{tags}
use Rattle.res_core.specs.declared.declared.Declared.{Declared}
use Rattle.scope_core.specs.Names.{Name}
use Rattle.class_eval.specs.TopNames.{with_top_names}
use Rattle.eval_world.specs.Worlds.{empty}
use Rattle.eval_world.specs.Environment.{Environment}
use Rattle.eval_world.specs.declared.owners.TheConstants.{MAIN_SOURCE}
use Rattle.eval_world.specs.declared.world.World.{World}

-- `Class[main]`
abbrev pub main_class : Declared
main_class = record {
  item = record {
    kind = codes "class";
    title = codes "main";
    attributes = [];
    tags = tags (codes "class") (codes "main") [] [];
  };
  at = record { file = MAIN_MANIFEST.now; line = 1 };
  scope = 0;
  container = None;
  class = MAIN_SOURCE.now;
  known = [];
}

-- its parameters are bound: there are none
abbrev pub main_row : Row
main_row = record (new_row main_class mode.Plain) { bound = Some [] }

-- `Class[main]` is declaration 0; top scope has its names, and no dynamic parent
abbrev pub begun : Name → Datum → World → World
begun node facts w = record w {
  scopes = with_top_names node facts w.scopes;
  book = main_row ∷ [];
  overrides = scope_opened 0 None w.overrides;
}

abbrev pub started : Environment → Name → Datum → World
started environment node facts = begun node facts (empty environment)
