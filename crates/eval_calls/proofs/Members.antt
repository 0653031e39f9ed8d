-- A list that a function goes through whose lambda takes its members one by one.
use Rattle.std.proofs.Common.{◌≡◌, ℕ, Option, Some, option_map, List, [], ◌∷◌, map, Result, ap, sym, ◌∙◌, refl}
use Rattle.expr_eval.specs.Turns.{only}
use Rattle.expr_eval.specs.declared.functions.Iteration.{Iteration}
use Rattle.pp_values.proofs.Lists.{data_of-members_of, members_of-data_of}
use Rattle.pp_values.specs.Datum.{Datum, list, data_of, members_of}
use Rattle.pp_values.specs.Views.{view}
use Rattle.pp_values.specs.declared.fault.Stop.{Stop}
use Rattle.pp_values.specs.declared.value.Value.{Value}
use Rattle.pp_values.specs.declared.value.Value.TheVariants as v
use Rattle.eval_world.specs.Inner.{Inner}
use Rattle.eval_world.specs.Outcomes.{Gives, same}
use Rattle.eval_world.specs.declared.here.Here.{Here}
use Rattle.eval_world.specs.declared.world.World.{World}
use Rattle.eval_calls.specs.Iterating.{gathered_rule, list_alone, list_and_start, list_members, over_rule, reduce_from}
use Rattle.eval_calls.specs.Iterating.{reduce_rule, reduced}
use Rattle.eval_calls.specs.Lambdas.{Opened, param_count}

-- ---- lists among arguments

-- the members of a list are those that it is made of
pub members_back : (x : Value) (ds : List Datum) → x ≡ v.List ds → Some ds ≡ list_members (view x)
members_back x ds is = rw is (rw (members_of-data_of ds) refl)

list_is : (d : Datum) (ds : List Datum) → Some ds ≡ list_members d → d ≡ list (data_of ds)
list_is (list es) ds is =
    let same : ds ≡ members_of es = cc in
    sym (ap (λ x. list (data_of x)) same ∙ ap list (data_of-members_of es))
list_is d ds is = cc

alone_is : (ds arguments : List Datum) → Some ds ≡ list_alone arguments → arguments ≡ list (data_of ds) ∷ []
alone_is ds [] is = cc
alone_is ds (x ∷ []) is = ap (λ y. y ∷ []) (list_is x ds is)
alone_is ds (x ∷ y ∷ zs) is = cc

both_are : (d e : Datum) (ds : List Datum) (start : Datum)
    → ◌≡◌ {A = Option (List Datum × Datum)} (Some (ds, start)) (option_map (λ es. (es, e)) (list_members d))
    → (Some ds ≡ list_members d) × (e ≡ start)
both_are (list es) e ds start is =
    let there : List Datum × Datum = (ds, start) in
    let given : List Datum × Datum = (members_of es, e) in
    let same : there ≡ given = cc in (ap (λ p. Some p.0) same, sym (ap (λ p. p.1) same))
both_are d e ds start is = cc

with_start_is : (ds : List Datum) (start : Datum) (arguments : List Datum)
    → ◌≡◌ {A = Option (List Datum × Datum)} (Some (ds, start)) (list_and_start arguments) → arguments ≡ list (data_of ds) ∷ start ∷ []
with_start_is ds start [] is = cc
with_start_is ds start (x ∷ []) is = cc
with_start_is ds start (x ∷ y ∷ []) is =
    let both = both_are x y ds start is in rw (list_is x ds both.0, both.1) refl
with_start_is ds start (x ∷ y ∷ z ∷ zs) is = cc

-- ---- what is gone through

module _ (inner : Inner) (l : Opened) (line : ℕ) (here : Here) (w : World) where
  -- its turns are its members, each alone
  turns_are : (f : Iteration) (ds : List Datum) → param_count l ≡ 1
      → over_rule inner f l (list (data_of ds)) line here w
      ≡ gathered_rule inner f l (list (data_of ds)) (map only ds) line here w
  unfolding over_rule gathered_rule
  turns_are f ds is = rw is (rw (members_of-data_of ds) refl)

  pub over_members : (f : Iteration) (x : Value) (ds es : List Datum) (n : ℕ) (r : Result Datum Stop) (new : World)
      → n ≡ param_count l → n ≡ 1 → x ≡ v.List ds → es ≡ ds
      → Gives same (gathered_rule inner f l (view x) (map only es) line here w) r new
      → Gives same (over_rule inner f l (view x) line here w) r new
  over_members f x ds es n r new count one is alike gives =
      let at_last : over_rule inner f l (view x) line here w
      ≡ gathered_rule inner f l (view x) (map only es) line here w
      = rw (is, alike) (turns_are f ds (sym count ∙ one))
      in rw at_last gives

  -- `reduce` goes through its members
  members_alone : (ds : List Datum) → param_count l ≡ 2
      → reduce_rule inner l (list (data_of ds) ∷ []) line here w ≡ reduced inner l ds line here w
  unfolding reduce_rule
  members_alone ds is = rw is (rw (members_of-data_of ds) refl)

  members_after : (start : Datum) (ds : List Datum) → param_count l ≡ 2
      → reduce_rule inner l (list (data_of ds) ∷ start ∷ []) line here w ≡ reduce_from inner l start ds line here w
  unfolding reduce_rule reduced
  members_after start ds is = rw is (rw (members_of-data_of ds) refl)

  pub reduced_members : (arguments ds es : List Datum) (n : ℕ) (r : Result Datum Stop) (new : World)
      → n ≡ param_count l → n ≡ 2 → Some ds ≡ list_alone arguments → es ≡ ds
      → Gives same (reduced inner l es line here w) r new
      → Gives same (reduce_rule inner l arguments line here w) r new
  reduced_members arguments ds es n r new count two is alike gives =
      let at_last : reduce_rule inner l arguments line here w ≡ reduced inner l es line here w
      = rw (alone_is ds arguments is, alike) (members_alone ds (sym count ∙ two))
      in rw at_last gives

  pub reduced_from : (arguments ds es : List Datum) (start : Datum) (n : ℕ) (r : Result Datum Stop) (new : World)
      → n ≡ param_count l → n ≡ 2
      → ◌≡◌ {A = Option (List Datum × Datum)} (Some (ds, start)) (list_and_start arguments) → es ≡ ds
      → Gives same (reduce_from inner l start es line here w) r new
      → Gives same (reduce_rule inner l arguments line here w) r new
  reduced_from arguments ds es start n r new count two is alike gives =
      let at_last : reduce_rule inner l arguments line here w ≡ reduce_from inner l start es line here w
      = rw (with_start_is ds start arguments is, alike) (members_after start ds (sym count ∙ two))
      in rw at_last gives
