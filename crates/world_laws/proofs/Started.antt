-- The world before any statement is evaluated.
use Rattle.std.proofs.Common.{refl, sym, subst, ◌≡◌, ℕ, zero, suc, List, [], ◌∷◌, None, Some, Ok}
use Rattle.pp_tree.specs.declared.file.File.{File}
use Rattle.pp_values.specs.Datum.{Datum}
use Rattle.override_rules.proofs.Opening.{none_nested, opened_nested}
use Rattle.res_book.proofs.Rows.{apart-append}
use Rattle.override_rules.specs.Meaning.{State, scope_opened}
use Rattle.res_book.specs.Rows.{item_at}
use Rattle.res_core.specs.declared.declared.Declared.{Declared}
use Rattle.scope_core.specs.Names.{Name}
use Rattle.class_eval.specs.Evaluating.{main_rule}
use Rattle.class_eval.specs.Starting.{main_row, started}
use Rattle.eval_world.specs.Environment.{Environment}
use Rattle.eval_world.specs.declared.world.World.{World}
use Rattle.world_laws.specs.Extends.{Extends, IsOpened, IsPlaced}
use Rattle.world_laws.specs.Growing.{Reaches}
use Rattle.world_laws.proofs.OfEvaluator.{main_grows}
use Rattle.world_laws.proofs.Placing.{opened_here}

abbrev nothing_said : State
nothing_said = record { lines = []; scopes = []; defaults = [] }

abbrev top_opened : State
top_opened = scope_opened 0 None nothing_said

main_opened : (n : ℕ) (d : Declared) → item_at (main_row ∷ []) n ≡ Some d → IsOpened top_opened d.scope
main_opened zero d is = scope_of d is where
  scope_of : (x : Declared) → Some main_row.declared ≡ Some x → IsOpened top_opened x.scope
  scope_of x e = let same : main_row.declared ≡ x = cc in rw (← same) (opened_here 0 None nothing_said)
main_opened (suc n) d is = absurd cc

pub placed_first : (m : Environment) (node : Name) (facts : Datum) → IsPlaced (started m node facts)
placed_first m node facts = record {
  nested = opened_nested [] 0 None none_nested tt;
  top = opened_here 0 None nothing_said;
  main = opened_here 0 None nothing_said;
  others = λ n o is. absurd cc;
  items = main_opened;
  apart = apart-append [] main_row refl (record { found = λ n d is. absurd cc });
}

pub start_placed : (w : World) (m : Environment) (node : Name) (facts : Datum) → w ≡ started m node facts → IsPlaced w
start_placed w m node facts is = subst IsPlaced (sym is) (placed_first m node facts)

-- after the main manifest
pub main_placed : (w v : World) (u : Unit {0}) (main : File) (node : List ℕ) → IsPlaced w →
    main_rule main node w ≡ Ok (u, v) →
    IsPlaced v
main_placed w v u main node placed is =
    let extends : Extends w v = subst (Reaches w) is ((main_grows main node).reaches w) in extends.placed placed
