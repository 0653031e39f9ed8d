-- The steps over one table of the world, and arguments.
use Rattle.std.proofs.Common.{◌≡◌, ℕ, Bool, true, false, cond, List, [], ◌∷◌, Option, None, Some, Result, Ok, Err}
use Rattle.std.proofs.Common.{refl, ◌||◌, ◌&&◌, is_some, ◌++◌}
use Rattle.hiera_merge.specs.declared.merge.Merge.{Merge}
use Rattle.pp_tree.specs.declared.expr.Expr.{Expr}
use Rattle.pp_values.specs.Datum.{Datum}
use Rattle.pp_values.specs.Faults as faults
use Rattle.pp_values.specs.declared.fault.Fault.{Fault}
use Rattle.pp_values.specs.declared.fault.What.TheVariants as what
use Rattle.pp_values.specs.declared.place.Place.{Place}
use Rattle.res_book.proofs.Growth.{grows-declared}
use Rattle.res_book.specs.Rows as rows
use Rattle.res_book.specs.declared.mode.Mode.{Mode}
use Rattle.res_book.specs.declared.row.Row.{Row}
use Rattle.res_core.specs.declared.declared.Declared.{Declared}
use Rattle.scope_core.specs.Names.{Name}
use Rattle.scope_core.specs.Scopes as scopes
use Rattle.scope_core.specs.Scopes.{own, is_set, is_kept, with_name}
use Rattle.eval_world.specs.Arguments.{argument_rule, values_from}
use Rattle.eval_world.specs.Data.{look_up}
use Rattle.eval_world.specs.Inner.{Inner}
use Rattle.eval_world.specs.Owners.{owner_at}
use Rattle.eval_world.specs.Worlds.{read, with_scopes, assign, assign_at, emit, write_log, place_at, with_book, put}
use Rattle.eval_world.specs.declared.here.Here.{Here}
use Rattle.eval_world.specs.declared.world.World.{World}
use Rattle.world_laws.specs.Extends.{IsOpened, IsPlaced}
use Rattle.world_laws.specs.Growing.{Reaches, Grows, GrowsInner}
use Rattle.world_laws.proofs.Lists.{name_set}
use Rattle.world_laws.proofs.Marks.{marks-declared}
use Rattle.world_laws.proofs.Placing.{declared_placed, owner_opened}
use Rattle.world_laws.proofs.Steps.{and_then, pure_grows, answer_grows}
use Rattle.world_laws.proofs.Worlds.{scopes_kept, book_grows, log_goes_on, rendered_changes}

-- ---- variables

pub read_grows : (here : Here) (x : List ℕ) (line : ℕ) → Grows (read here x line)
unfolding read
read_grows here x line = answer_grows _

none_by : (o : Option Datum) (b : Bool) → (is_some o || b) ≡ false → o ≡ None
none_by None b e = refl
none_by (Some d) b e = absurd cc

assigned : (w : World) (n : ℕ) (x : Name) (d : Datum) (f : Fault) (b : Bool) → is_set n x w.scopes ≡ b →
    Reaches w (with_scopes (cond b (Err f) (Ok (with_name n x d w.scopes))) w)
assigned w n x d f true is = tt
assigned w n x d f false is =
    scopes_kept w (with_name n x d w.scopes)
    (name_set n x d w.scopes.scopes (none_by (own n x w.scopes) (is_kept x && is_some (own 0 x w.scopes)) is))

-- a name may be set once in a scope
pub assign_grows : (here : Here) (x : List ℕ) (d : Datum) (line : ℕ) → Grows (assign here x d line)
unfolding assign scopes.assign
assign_grows here x d line = record {
  reaches = λ w. assigned w here.scope.number x d (faults.fault (place_at w here line) (what.Reassigned x))
      (is_set here.scope.number x w.scopes) refl;
}

pub assign_at_grows : (here : Here) (x : List ℕ) (d : Datum) (at : Place) → Grows (assign_at here x d at)
unfolding assign_at scopes.assign
assign_at_grows here x d at = record {
  reaches = λ w. assigned w here.scope.number x d (faults.fault at (what.Reassigned x))
      (is_set here.scope.number x w.scopes) refl;
}

-- ---- what a template emits

pub emit_grows : (t : List ℕ) → Grows (emit t)
unfolding emit
emit_grows t = record { reaches = λ w. rendered_changes w (w.rendered ++ t) }

-- ---- the log, and the data

pub log_grows : (level text : List ℕ) → Grows (write_log level text)
unfolding write_log
log_grows level text = record { reaches = λ w. log_goes_on w _ }

pub look_up_grows : (scope : ℕ) (key : List ℕ) (merge : Option Merge) (at : Place) → Grows (look_up scope key merge at)
unfolding look_up
look_up_grows scope key merge at = answer_grows _

-- ---- the book

-- a declaration that is not refused stands behind the others
declares : (d : Declared) (m : Mode) (w : World) (r : Result (ℕ × List Row) Fault) → rows.declared d m w.book ≡ r →
    (IsPlaced w → IsOpened w.overrides d.scope) → Reaches w (with_book r w)
declares d m w (Ok p) is there =
    book_grows w p.1 (grows-declared d m w.book p.1 p.0 is) (marks-declared d m w.book p.1 p.0 is)
    (λ placed. declared_placed w.overrides w.owners w.book placed d m p.0 p.1 is (there placed))
declares d m w (Err f) is there = tt

-- what stands in a scope that was opened
pub put_grows : (d : World → Declared) (m : Mode) → ((w : World) → IsPlaced w → IsOpened w.overrides (d w).scope) →
    Grows (λ w. put (d w) m w)
put_grows d m there = record { reaches = λ w. declares (d w) m w (rows.declared (d w) m w.book) refl (there w) }

-- the scope of whose code is evaluated
pub here_opened : (owner : ℕ) (w : World) → IsPlaced w → IsOpened w.overrides (owner_at owner w.owners).scope
here_opened owner w placed = owner_opened w.overrides w.owners w.book placed owner

-- ---- arguments

module _ (inner : Inner) (g : GrowsInner inner) where
  pub argument_grows : (done : List Datum) (e : Expr) (here : Here) → Grows (argument_rule inner done e here)
  unfolding argument_rule
  argument_grows done e here = and_then (g.value e here) (λ d. pure_grows)

  pub values_grow : (done : List Datum) (es : List Expr) (here : Here) → Grows (values_from inner done es here)
  unfolding values_from
  values_grow done [] here = pure_grows
  values_grow done (e ∷ es) here = and_then (argument_grows done e here) (λ more. values_grow more es here)
