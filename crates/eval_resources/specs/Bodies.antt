-- The bodies of a resource expression: those whose title is `default` first, and then each other one.
use Rattle.std.specs.Prelude.{ℕ, ◌+◌, Bool, true, false, not, List, [], ◌∷◌, ◌++◌, drop, filter, map, take}
use Rattle.pp_tree.specs.declared.expr.Expr.{Expr}
use Rattle.pp_tree.specs.declared.resource.Body as tree
use Rattle.pp_funcs.specs.Lists.{flat}
use Rattle.pp_values.specs.Rising.{has_text}
use Rattle.eval_world.specs.Inner.{Inner}
use Rattle.eval_world.specs.Outcomes.{Step, ◌>>=◌, ◌>>◌, pure}
use Rattle.eval_world.specs.Shapes as shapes
use Rattle.eval_world.specs.Worlds.{place_at}
use Rattle.eval_world.specs.declared.here.Here.{Here}
use Rattle.res_core.specs.Lines.{Line}
use Rattle.res_core.specs.declared.body.Body.{Body}
use Rattle.attribute_lines.specs.Reading.{lines_from}

-- its title is the literal `default`
abbrev pub is_default : tree.Body Expr → Bool
is_default b = shapes.is_default b.title

-- ---- the default bodies

-- the lines of one more of them, behind those of the others
unfoldable pub default_rule : Inner → List (List Line) → tree.Body Expr → Here → Step (List (List Line))
default_rule inner done b here = do
  inner.value b.title here
  lines ← lines_from inner [] b.attributes here
  pure (done ++ lines ∷ [])

abbrev pub default_more : Inner → Bool → List (List Line) → tree.Body Expr → Here → Step (List (List Line))
default_more inner true done b here = default_rule inner done b here
default_more inner false done b here = pure done

unfoldable pub defaults_from : Inner → List (List Line) → List (tree.Body Expr) → Here → Step (List (List Line))
defaults_from inner done [] here = pure done
defaults_from inner done (b ∷ bs) here = do
  more ← default_more inner (is_default b) done b here
  defaults_from inner more bs here

-- ---- each other body

abbrev pub line_names : List Line → List (List ℕ)
line_names = map (λ l. l.name)

-- the lines with other names than these
abbrev pub not_among : List (List ℕ) → List Line → List Line
not_among names ls = filter (λ l. not (has_text names l.name)) ls

-- those of several bodies, one behind another
unfoldable pub all_not_among : List (List ℕ) → List (List Line) → List Line
all_not_among names [] = []
all_not_among names (ls ∷ more) = not_among names ls ++ all_not_among names more

-- the default lines whose names are not written in the body, with whatever value
abbrev pub unwritten : List Line → List (List Line) → List Line
unwritten own defaults = all_not_among (line_names own) defaults

-- The lines stand as they do in the expression: what the default bodies before a body fill in, what it writes itself,
-- and what the default bodies behind it fill in. So many of them stand before it.
abbrev pub filled : List Line → ℕ → List (List Line) → List Line
filled own before defaults = (unwritten own (take before defaults) ++ own) ++ unwritten own (drop before defaults)

-- The titles come first, then the lines. Lists of titles are flattened.
unfoldable pub body_rule : Inner → List (List Line) → ℕ → tree.Body Expr → Here → Step Body
body_rule inner defaults before b here = do
  title ← inner.value b.title here
  own ← lines_from inner [] b.attributes here
  (λ w. pure (record { titles = flat title; lines = filled own before defaults; at = place_at w here b.at }) w)

abbrev pub body_more : Inner → Bool → List (List Line) → ℕ → List Body → tree.Body Expr → Here → Step (List Body)
body_more inner true defaults before done b here = pure done
body_more inner false defaults before done b here = do
  body ← body_rule inner defaults before b here
  pure (done ++ body ∷ [])

-- how many default bodies stand before the next body
abbrev pub before_next : Bool → ℕ → ℕ
before_next true before = before + 1
before_next false before = before

unfoldable pub bodies_from : Inner → List (List Line) → ℕ → List Body → List (tree.Body Expr) → Here → Step (List Body)
bodies_from inner defaults before done [] here = pure done
bodies_from inner defaults before done (b ∷ bs) here = do
  more ← body_more inner (is_default b) defaults before done b here
  bodies_from inner defaults (before_next (is_default b) before) more bs here

-- all bodies but the default ones, whose lines are filled in
unfoldable pub bodies_rule : Inner → List (tree.Body Expr) → Here → Step (List Body)
bodies_rule inner bs here = do
  defaults ← defaults_from inner [] bs here
  bodies_from inner defaults 0 [] bs here
