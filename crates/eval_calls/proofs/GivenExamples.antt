-- What templates are given, and their texts, at worked examples. Each line holds by computing.
use Rattle.std.specs.Fmt.{digits}
use Rattle.std.proofs.Common.{◌≡◌, ℕ, true, false, pos, List, [], ◌∷◌, None, Some, Ok, Err, refl, codes, decimal}
use Rattle.pp_tree.specs.Building.{expr_at, param}
use Rattle.pp_tree.specs.declared.expr.Expr.{Expr}
use Rattle.pp_tree.specs.declared.expr.Form.TheVariants as f
use Rattle.pp_tree.specs.declared.param.Param.{Param}
use Rattle.pp_values.specs.Datum as d
use Rattle.pp_values.specs.Datum.{Datum, Pair}
use Rattle.pp_values.specs.Faults as faults
use Rattle.pp_values.specs.declared.fault.What.TheVariants as what
use Rattle.pp_values.specs.declared.place.Place.{Place}
use Rattle.eval_calls.specs.Templates.{are_given, are_params, are_taken, given_by, has_param, names_from}
use Rattle.eval_calls.specs.Templates.{param_rule, params_from, rendered_rule}
use Rattle.eval_calls.specs.Functions.{bind_rule}
use Rattle.eval_world.specs.Inner.{Inner}
use Rattle.eval_world.specs.Outcomes.{Step, ◌>>◌, pure}
use Rattle.eval_calls.specs.Renderings.{Rendering}
use Rattle.eval_world.specs.Worlds.{assign, assign_at, emit, fault, top}
use Rattle.eval_world.specs.declared.world.World.{World}

-- a block emits `1` where it is refused at line 1 if it stands too deep
abbrev emits_line : ℕ → Step Datum
emits_line line = do
  emit (decimal line)
  pure d.undef

-- each expression has the value `v`
abbrev inner : Inner
inner = record {
  value = λ e here. pure (d.text (codes "v"));
  block = λ b line here. emits_line line;
  words = λ x here. pure d.undef;
  target = λ r here. pure d.undef;
  class = λ n line here. pure d.undef;
  instance = λ n line here. pure d.undef;
}

abbrev one : Expr
one = expr_at 2 f.Undef

-- ---- the text

-- what was emitted before stays as it was
text_of_block : (w : World) → rendered_rule inner [] top w ≡ Ok (d.text (codes "1"), w)
unfolding rendered_rule emit digits
text_of_block w = refl

-- ---- what is given

-- `$x`, and `$y = undef`
abbrev x : Param Expr
x = param None (codes "x") None 1

abbrev y : Param Expr
y = param None (codes "y") (Some one) 1

abbrev both : List (Param Expr)
both = x ∷ y ∷ []

abbrev given : List ℕ → Pair
given name = (d.text name, d.flag true)

taken : (are_taken both (given (codes "x") ∷ []) ≡ true)
    × (are_taken both (given (codes "y") ∷ given (codes "x") ∷ []) ≡ true)
    × (are_taken [] [] ≡ true)
unfolding are_params are_given has_param
taken = (refl, refl, refl)

-- one without value and default, and a key that is none of them
not_taken : (are_taken both (given (codes "y") ∷ []) ≡ false)
    × (are_taken both (given (codes "x") ∷ given (codes "z") ∷ []) ≡ false)
    × (are_taken both ((d.undef, d.undef) ∷ given (codes "x") ∷ []) ≡ false)
    × (are_taken [] (given (codes "x") ∷ []) ≡ false)
unfolding are_params are_given has_param
not_taken = (refl, refl, refl, refl)

abbrev at : Place
at = record { file = codes "manifests/site.pp"; line = 3 }

abbrev call : Rendering
call = record { file = codes "t"; text = []; given = None; function = codes "epp"; at = at }

refused : (w : World) → given_by inner (Some both) [] call top w
    ≡ Err (faults.fault at (what.WrongArguments (codes "epp")))
unfolding are_params are_given
refused w = refl

-- the given value, and the default of the other one
bound : (w : World) → given_by inner (Some both) (given (codes "x") ∷ []) call top w
    ≡ (assign top (codes "x") (d.flag true) 1 >> (assign top (codes "y") (d.text (codes "v")) 1 >> pure tt)) w
unfolding are_params are_given has_param params_from param_rule bind_rule
bound w = refl

-- of Undef that is given the default counts, and where there is none it is the value
undef_given : (w : World) →
    given_by inner (Some both) ((d.text (codes "x"), d.undef) ∷ (d.text (codes "y"), d.undef) ∷ []) call top w
    ≡ (assign top (codes "x") d.undef 1 >> (assign top (codes "y") (d.text (codes "v")) 1 >> pure tt)) w
unfolding are_params are_given has_param params_from param_rule bind_rule
undef_given w = refl

abbrev nothing_set : Step (Unit {0})
nothing_set = pure tt

-- without parameters: what is no variable's name is left out
names : (w : World) →
    given_by inner None (given (codes "x") ∷ given (codes "X") ∷ (d.int (pos 1), d.undef) ∷ []) call top w
    ≡ (assign_at top (codes "x") (d.flag true) at >> (nothing_set >> (nothing_set >> nothing_set))) w
unfolding names_from
names w = refl
