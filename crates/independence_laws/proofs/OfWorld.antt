-- The steps over one table of the world, and arguments.
use Rattle.std.proofs.Common.{◌≡◌, ℕ, Bool, true, false, cond, List, [], ◌∷◌, ◌++◌, Option, None, Some, Result, Ok, Err}
use Rattle.std.proofs.Common.{refl, ap, sym, subst, ◌∙◌}
use Rattle.std.proofs.lemmas.List.{append_assoc}
use Rattle.hiera_merge.specs.declared.merge.Merge.{Merge}
use Rattle.pp_tree.specs.declared.expr.Expr.{Expr}
use Rattle.pp_values.specs.Datum.{Datum}
use Rattle.pp_values.specs.Faults as faults
use Rattle.pp_values.specs.declared.fault.Fault.{Fault}
use Rattle.pp_values.specs.declared.fault.What.{What}
use Rattle.pp_values.specs.declared.place.Place.{Place}
use Rattle.res_book.specs.Rows as rows
use Rattle.res_book.specs.declared.mode.Mode.{Mode}
use Rattle.res_book.specs.declared.row.Row.{Row}
use Rattle.res_core.specs.declared.declared.Declared.{Declared}
use Rattle.res_core.specs.declared.log_line.LogLine.{LogLine}
use Rattle.scope_core.specs.Scopes as scopes
use Rattle.scope_core.specs.Scopes.{Scopes}
use Rattle.override_rules.specs.Meaning.{State}
use Rattle.eval_world.specs.Arguments.{argument_rule, values_from, given}
use Rattle.eval_world.specs.Shapes.{is_splat}
use Rattle.eval_world.specs.Data.{look_up, looked_up_in}
use Rattle.eval_world.specs.Environment.{Environment}
use Rattle.eval_world.specs.Inner.{Inner}
use Rattle.eval_world.specs.Outcomes.{Outcome, Step, answered}
use Rattle.eval_world.specs.Worlds.{read, with_scopes, assign, assign_at, emit, write_log, place_at, with_book, put, fault, answered_at}
use Rattle.eval_world.specs.Worlds.{with_overrides}
use Rattle.eval_world.specs.declared.here.Here.{Here}
use Rattle.eval_world.specs.declared.world.World.{World}
use Rattle.independence_laws.specs.Alike.{AreAlike, HaveSameLines, OwnersGoOn}
use Rattle.independence_laws.specs.Steps.{Come, Comes, Equal, IsAlike, Same, SameInner, Two}
use Rattle.independence_laws.proofs.Going.{and_then, answer_same, fault_same, place_same, pure_same, told}
use Rattle.independence_laws.proofs.Owning.{owners_stay}

-- ---- worlds that stay alike where one table changes

module _ {first second : List LogLine} {v w : World} (alike : AreAlike first second v w) where
  pub with_same_scopes : (s t : Scopes) → s ≡ t → AreAlike first second (record v { scopes = s }) (record w { scopes = t })
  with_same_scopes s t same = record {
    environment = alike.environment;
    scopes = same;
    book = alike.book;
    overrides = alike.overrides;
    relations = alike.relations;
    rendered = alike.rendered;
    main = alike.main;
    told = alike.told;
    log = alike.log;
  }

  pub with_same_book : (s t : List Row) → s ≡ t → AreAlike first second (record v { book = s }) (record w { book = t })
  with_same_book s t same = record {
    environment = alike.environment;
    scopes = alike.scopes;
    book = same;
    overrides = alike.overrides;
    relations = alike.relations;
    rendered = alike.rendered;
    main = alike.main;
    told = alike.told;
    log = alike.log;
  }

  pub with_same_overrides : (s t : State) → s ≡ t
      → AreAlike first second (record v { overrides = s }) (record w { overrides = t })
  with_same_overrides s t same = record {
    environment = alike.environment;
    scopes = alike.scopes;
    book = alike.book;
    overrides = same;
    relations = alike.relations;
    rendered = alike.rendered;
    main = alike.main;
    told = alike.told;
    log = alike.log;
  }

  pub with_same_text : (s t : List ℕ) → s ≡ t
      → AreAlike first second (record v { rendered = s }) (record w { rendered = t })
  with_same_text s t same = record {
    environment = alike.environment;
    scopes = alike.scopes;
    book = alike.book;
    overrides = alike.overrides;
    relations = alike.relations;
    rendered = same;
    main = alike.main;
    told = alike.told;
    log = alike.log;
  }

  more_lines : (x : LogLine) → HaveSameLines first second (v.log ++ x ∷ []) (w.log ++ x ∷ [])
  more_lines x = record {
    more = alike.log.more ++ x ∷ [];
    left = ap (λ l. l ++ x ∷ []) alike.log.left ∙ append_assoc first alike.log.more (x ∷ []);
    right = ap (λ l. l ++ x ∷ []) alike.log.right ∙ append_assoc second alike.log.more (x ∷ []);
  }

  pub with_line_more : (x : LogLine) → AreAlike first second (record v { log = v.log ++ x ∷ [] }) (record w { log = w.log ++ x ∷ [] })
  with_line_more x = record {
    environment = alike.environment;
    scopes = alike.scopes;
    book = alike.book;
    overrides = alike.overrides;
    relations = alike.relations;
    rendered = alike.rendered;
    main = alike.main;
    told = alike.told;
    log = more_lines x;
  }

-- a step that gives this, and changes no owners
pub gives : {A : Type 0} (a : A) (first second : List LogLine) (v w x y : World) → x.owners ≡ v.owners → y.owners ≡ w.owners
    → AreAlike first second x y → Comes Equal first second v w (Ok (a, x)) (Ok (a, y))
gives a first second v w x y e f alike = record {
  value = refl;
  worlds = alike;
  left = subst (λ o. OwnersGoOn v.owners o) (sym e) (owners_stay v.owners);
  right = subst (λ o. OwnersGoOn w.owners o) (sym f) (owners_stay w.owners);
}

-- ---- variables

module _ (two : Two) where
  pub read_same : (x : List ℕ) (line : ℕ) → Same two (λ here. read here x line)
  unfolding read
  read_same x line = told two (λ here w. scopes.read here.scope.number x (place_at w here line) w.scopes)
      (λ here r. answered r)
      (λ first second v w alike f g.
      ap (λ s. scopes.read s.number x (place_at v two.left line) v.scopes) two.same.scope
      ∙ ap (λ p. scopes.read two.right.scope.number x p v.scopes) (place_same two first second v w alike f g line)
      ∙ ap (λ s. scopes.read two.right.scope.number x (place_at w two.right line) s) alike.scopes)
      (λ r. answer_same two r)

  scopes_set : (r : Result Scopes Fault) → Same two (λ here. with_scopes r)
  scopes_set (Ok s) = record {
    comes = λ first second v w alike f g. gives tt first second v w (record v { scopes = s }) (record w { scopes = s })
        refl refl (with_same_scopes alike s s refl);
  }
  scopes_set (Err e) = record { comes = λ first second v w alike f g. refl }

  -- a name may be set once in a scope
  pub assign_same : (x : List ℕ) (d : Datum) (line : ℕ) → Same two (λ here. assign here x d line)
  unfolding assign
  assign_same x d line = told two (λ here w. scopes.assign here.scope.number x d (place_at w here line) w.scopes)
      (λ here r. with_scopes r)
      (λ first second v w alike f g.
      ap (λ s. scopes.assign s.number x d (place_at v two.left line) v.scopes) two.same.scope
      ∙ ap (λ p. scopes.assign two.right.scope.number x d p v.scopes) (place_same two first second v w alike f g line)
      ∙ ap (λ s. scopes.assign two.right.scope.number x d (place_at w two.right line) s) alike.scopes)
      scopes_set

  pub assign_at_same : (x : List ℕ) (d : Datum) (at : Place) → Same two (λ here. assign_at here x d at)
  unfolding assign_at
  assign_at_same x d at = told two (λ here w. scopes.assign here.scope.number x d at w.scopes) (λ here r. with_scopes r)
      (λ first second v w alike f g.
      ap (λ s. scopes.assign s.number x d at v.scopes) two.same.scope
      ∙ ap (λ s. scopes.assign two.right.scope.number x d at s) alike.scopes)
      scopes_set

  -- ---- what a template emits

  pub emit_same : (t : List ℕ) → Same two (λ here. emit t)
  unfolding emit
  emit_same t = record {
    comes = λ first second v w alike f g. gives tt first second v w (record v { rendered = v.rendered ++ t })
        (record w { rendered = w.rendered ++ t }) refl refl
        (with_same_text alike (v.rendered ++ t) (w.rendered ++ t) (ap (λ r. r ++ t) alike.rendered));
  }

  -- ---- the log, and the data

  pub log_same : (level text : List ℕ) → Same two (λ here. write_log level text)
  unfolding write_log
  log_same level text = record {
    comes = λ first second v w alike f g.
        let x : LogLine = record { level = level; text = text } in
        gives tt first second v w (record v { log = v.log ++ x ∷ [] }) (record w { log = w.log ++ x ∷ [] }) refl refl
        (with_line_more alike x);
  }

  looked : (scope : ℕ) (key : List ℕ) (merge : Option Merge) (at : Place) (first second : List LogLine) (v w : World)
      → AreAlike first second v w → looked_up_in scope key merge at v ≡ looked_up_in scope key merge at w
  looked scope key merge at first second v w alike =
      ap (λ m. looked_up_in scope key merge at (record v { environment = m })) alike.environment
      ∙ ap (λ s. looked_up_in scope key merge at (record v { environment = w.environment; scopes = s })) alike.scopes

  pub look_up_same : (scope : ℕ) (key : List ℕ) (merge : Option Merge) (at : Place)
      → Same two (λ here. look_up scope key merge at)
  unfolding look_up
  look_up_same scope key merge at = told two (λ here w. looked_up_in scope key merge at w) (λ here r. answered r)
      (λ first second v w alike f g. looked scope key merge at first second v w alike) (λ r. answer_same two r)

  -- ---- faults

  -- at a line of the file whose code is evaluated
  pub fault_here : {A : Type 0} (line : ℕ) (details : What) → Same {A = A} two (λ here. fault here line details)
  fault_here line details = fault_same two (λ here w. faults.fault (place_at w here line) details)
      (λ first second v w alike f g.
      ap (λ p. faults.fault p details) (place_same two first second v w alike f g line))

  -- an answer whose fault is placed at a line
  pub answered_at_same : {A : Type 0} (answer : Place → Result A Fault) (line : ℕ)
      → Same two (λ here. answered_at answer line here)
  answered_at_same answer line = told two (λ here w. place_at w here line) (λ here at. answered (answer at))
      (λ first second v w alike f g. place_same two first second v w alike f g line)
      (λ at. answer_same two (answer at))

  -- an answer by what is read alone
  pub by_environment : {A : Type 0} (answer : Environment → Result A Fault) → Same two (λ here w. answered (answer w.environment) w)
  by_environment answer = told two (λ here w. answer w.environment) (λ here r. answered r)
      (λ first second v w alike f g. ap answer alike.environment) (λ r. answer_same two r)

  -- the same, and by the place of a line
  pub by_environment_at : {A : Type 0} (answer : Environment → Place → Result A Fault) (line : ℕ)
      → Same two (λ here w. answered (answer w.environment (place_at w here line)) w)
  by_environment_at answer line = told two (λ here w. answer w.environment (place_at w here line)) (λ here r. answered r)
      (λ first second v w alike f g. ap (λ m. answer m (place_at v two.left line)) alike.environment
      ∙ ap (λ p. answer w.environment p) (place_same two first second v w alike f g line)) (λ r. answer_same two r)

  -- ---- the book

  book_set : (r : Result (ℕ × List Row) Fault) → Same two (λ here. with_book r)
  book_set (Ok p) = record {
    comes = λ first second v w alike f g. gives p.0 first second v w (record v { book = p.1 }) (record w { book = p.1 })
        refl refl (with_same_book alike p.1 p.1 refl);
  }
  book_set (Err e) = record { comes = λ first second v w alike f g. refl }

  -- the same declaration is put into it
  pub put_same : (d : Here → World → Declared) (m : Mode)
      → ((first second : List LogLine) (v w : World) → AreAlike first second v w → OwnersGoOn two.first v.owners
      → OwnersGoOn two.second w.owners → d two.left v ≡ d two.right w)
      → Same two (λ here w. put (d here w) m w)
  put_same d m same = told two (λ here w. rows.declared (d here w) m w.book) (λ here r. with_book r)
      (λ first second v w alike f g.
      ap (λ x. rows.declared x m v.book) (same first second v w alike f g)
      ∙ ap (λ b. rows.declared (d two.right w) m b) alike.book)
      book_set

  -- ---- overrides and defaults

  pub overrides_set : (r : Result (Unit {0} × State) Fault) → Same two (λ here. with_overrides r)
  overrides_set (Ok p) = record {
    comes = λ first second v w alike f g. gives tt first second v w (record v { overrides = p.1 })
        (record w { overrides = p.1 }) refl refl (with_same_overrides alike p.1 p.1 refl);
  }
  overrides_set (Err e) = record { comes = λ first second v w alike f g. refl }

-- ---- arguments

module _ (inner : Inner) (same : SameInner inner) (two : Two) where
  argument_same : (done : List Datum) (e : Expr) → Same two (λ here. argument_rule inner done e here)
  unfolding argument_rule
  argument_same done e = and_then two (same.value e two) (λ d. pure_same two)

  pub values_same : (done : List Datum) (es : List Expr) → Same two (λ here. values_from inner done es here)
  unfolding values_from
  values_same done [] = pure_same two
  values_same done (e ∷ es) = and_then two (argument_same done e) (λ more. values_same more es)
