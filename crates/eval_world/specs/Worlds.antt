-- The steps that read and change one table of the world.
use Rattle.std.specs.Prelude.{ℕ, false, List, [], ◌∷◌, ◌++◌, length, Result, Ok, Err}
use Rattle.pp_values.specs.Datum.{Datum}
use Rattle.pp_values.specs.Faults as faults
use Rattle.pp_values.specs.declared.fault.Fault.{Fault}
use Rattle.pp_values.specs.declared.fault.What.{What}
use Rattle.pp_values.specs.declared.fault.What.TheVariants as what
use Rattle.pp_values.specs.declared.place.Place.{Place}
use Rattle.override_rules.specs.Meaning.{State}
use Rattle.res_book.specs.Relations.{no_relations}
use Rattle.res_book.specs.Rows as rows
use Rattle.res_book.specs.declared.mode.Mode.{Mode}
use Rattle.res_book.specs.declared.row.Row.{Row}
use Rattle.res_core.specs.declared.declared.Declared.{Declared}
use Rattle.scope_core.specs.Scopes as scopes
use Rattle.scope_core.specs.Scopes.{Scopes}
use Rattle.scope_core.specs.declared.scope_kind.ScopeKind.TheVariants as kind
use Rattle.eval_world.specs.Outcomes.{Step, answered}
use Rattle.eval_world.specs.Owners.{inline_in, owner_at, owner_in, main_alone}
use Rattle.eval_world.specs.declared.here.Here.{Here}
use Rattle.eval_world.specs.Environment.{Environment}
use Rattle.eval_world.specs.declared.world.World.{World}

-- before anything was evaluated
abbrev pub empty : Environment → World
empty environment = record {
  heap = tt;
  environment = environment;
  scopes = scopes.top_alone;
  owners = main_alone;
  book = [];
  overrides = record { lines = []; scopes = []; defaults = [] };
  relations = no_relations;
  log = [];
  rendered = [];
}

-- where the statements of the main manifest are evaluated
abbrev pub top : Here
top = record { scope = record { number = 0 }; owner = 0; typed = false }

-- ---- places and faults

-- a line of the file whose code is evaluated
abbrev pub place_at : World → Here → ℕ → Place
place_at w here line = record { file = (owner_at here.owner w.owners).file; line = line }

-- this fault, at a line of that file
abbrev pub fault : {A : Type 0} → Here → ℕ → What → Step A
fault here line details = λ w. Err (faults.fault (place_at w here line) details)

-- the function of this name does not take what it is given
abbrev pub wrong : {A : Type 0} → List ℕ → ℕ → Here → Step A
wrong f line here = fault here line (what.WrongArguments f)

-- an answer that changes nothing in the world, whose fault is placed at this line
abbrev pub answered_at : {A : Type 0} → (Place → Result A Fault) → ℕ → Here → Step A
answered_at answer line here = λ w. answered (answer (place_at w here line)) w

-- ---- variables

unfoldable pub read : Here → List ℕ → ℕ → Step Datum
read here x line = λ w. answered (scopes.read here.scope.number x (place_at w here line) w.scopes) w

abbrev pub with_scopes : Result Scopes Fault → Step (Unit {0})
with_scopes (Ok s) = λ w. Ok (tt, record w { scopes = s })
with_scopes (Err f) = λ w. Err f

unfoldable pub assign : Here → List ℕ → Datum → ℕ → Step (Unit {0})
assign here x d line = λ w. with_scopes (scopes.assign here.scope.number x d (place_at w here line) w.scopes) w

-- the same where F3 stands at this place
unfoldable pub assign_at : Here → List ℕ → Datum → Place → Step (Unit {0})
assign_at here x d at = λ w. with_scopes (scopes.assign here.scope.number x d at w.scopes) w

-- ---- calls of lambdas and of functions, and templates

-- where the body of a lambda that stands here is evaluated: what is evaluated in it is not within a parameter's type
unfoldable pub enter_lambda : Here → Step Here
enter_lambda here = λ w. Ok (
  record { scope = record { number = length w.scopes.scopes }; owner = here.owner; typed = false },
  record w { scopes = scopes.entered kind.Lambda here.scope.number w.scopes },
)

-- Where the body of a function, or a template, is evaluated that stands in this file: in a scope of its own within top
-- scope.
-- Its code belongs to what top scope belongs to.
unfoldable pub enter_function : List ℕ → Step Here
enter_function file = λ w. Ok (
  record { scope = record { number = length w.scopes.scopes }; owner = (owner_in file w.owners).0; typed = false },
  record w { scopes = scopes.entered kind.Lambda 0 w.scopes; owners = (owner_in file w.owners).1 },
)

-- Where a text is evaluated that a call hands over as a template: in a scope of its own within that of the call. Its
-- code belongs to what the call belongs to, and its file has a name of its own.
unfoldable pub enter_inline : Here → Step Here
enter_inline here = λ w. Ok (
  record {
    scope = record { number = length w.scopes.scopes };
    owner = (inline_in here.owner w.owners).0;
    typed = false;
  },
  record w {
    scopes = scopes.entered kind.Lambda here.scope.number w.scopes;
    owners = (inline_in here.owner w.owners).1;
  },
)

abbrev pub left : Here → World → World
left here w = record w { scopes = scopes.left here.scope.number w.scopes }

abbrev pub leave : Here → Step (Unit {0})
leave here = λ w. Ok (tt, left here w)

-- ---- the log

unfoldable pub write_log : List ℕ → List ℕ → Step (Unit {0})
write_log level text = λ w. Ok (tt, record w { log = w.log ++ record { level = level; text = text } ∷ [] })

-- ---- templates

-- a text behind what the template emitted so far
unfoldable pub emit : List ℕ → Step (Unit {0})
emit t = λ w. Ok (tt, record w { rendered = w.rendered ++ t })

-- what was emitted so far is put apart, or back
abbrev pub with_rendered : List ℕ → World → World
with_rendered t w = record w { rendered = t }

-- ---- the book

abbrev pub with_book : Result (ℕ × List Row) Fault → Step ℕ
with_book (Ok p) = λ w. Ok (p.0, record w { book = p.1 })
with_book (Err f) = λ w. Err f

-- a declaration is put into it: F14, F28; its number
abbrev pub put : Declared → Mode → Step ℕ
put item m = λ w. with_book (rows.declared item m w.book) w

-- ---- overrides and defaults

-- what the table of override lines and defaults answers, as a step
abbrev pub with_overrides : Result (Unit {0} × State) Fault → Step (Unit {0})
with_overrides (Ok p) = λ w. Ok (tt, record w { overrides = p.1 })
with_overrides (Err f) = λ w. Err f
