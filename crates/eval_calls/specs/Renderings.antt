-- A template that a call renders.
use Rattle.std.specs.Prelude.{ℕ, List, Option, option_map}
use Rattle.pp_values.specs.Datum.{Datum}
use Rattle.pp_values.specs.Views.{view}
use Rattle.pp_values.specs.declared.place.Place.{Place}
use Rattle.eval_calls.specs.declared.rendering.Rendering as held

-- the path of its file, its text, the hash that is given, the name and the place of the call
pub record Rendering : Type 0 where
  pub file : List ℕ
  pub text : List ℕ
  pub given : Option Datum
  pub function : List ℕ
  pub at : Place

abbrev pub rendering_seen : held.Rendering → Rendering
rendering_seen r = record {
  file = r.file.now;
  text = r.text.now;
  given = option_map (λ v. view v.now) r.given;
  function = r.function.now;
  at = r.at.now;
}
