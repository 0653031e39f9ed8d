-- Where no scope has a default for a kind, there is nothing to be found on the way out from any scope.
use Rattle.std.proofs.Common.{◌≡◌, ℕ, zero, suc, Bool, true, false, ◌&&◌, cond, List, [], ◌∷◌, ◌++◌, length, map, Option, None, Some, refl, ap, ◌∙◌, arith}
use Rattle.std.specs.List.{filter}
use Rattle.std.specs.Map.{lookup}
use Rattle.std.specs.Prelude.{◌==◌}
use Rattle.std.specs.Str.{bytes_eq}
use Rattle.pp_values.specs.Datum.{Datum}
use Rattle.override_rules.specs.Defaults.{Default, Scope, parent_of, default_in, defaults_for, is_default, or_else, from_scope, nearest_within}
use Rattle.override_rules.specs.Names.{is_for, names_in, names_from, names_within}

empty_of_none : {A : Type 0} (xs : List A) → length xs ≡ 0 → xs ≡ []
empty_of_none [] e = refl
empty_of_none (x ∷ xs) e = absurd (omega (arith, e))

-- what passes no wider test passes no narrower one
narrower : {A : Type 0} (d : A) (wide narrow : List A) (also b : Bool) → (wide ≡ [] → narrow ≡ []) →
    cond b (d ∷ wide) wide ≡ [] → cond (b && also) (d ∷ narrow) narrow ≡ []
narrower d wide narrow also true rest e = absurd cc
narrower d wide narrow also false rest e = rest e

none_in : (kind : List ℕ) (scope : ℕ) (ds : List Default) → defaults_for kind ds ≡ [] →
    filter (λ d. is_for kind scope d.0) ds ≡ []
none_in kind scope [] e = refl
none_in kind scope (d ∷ ds) e =
    narrower d (defaults_for kind ds) (filter (λ x. is_for kind scope x.0) ds) (scope == d.0.scope)
    (bytes_eq kind d.0.kind) (none_in kind scope ds) e

not_found : (d : Default) (wide : List Default) (narrow : Option Datum) (also b : Bool) →
    (wide ≡ [] → narrow ≡ None) → cond b (d ∷ wide) wide ≡ [] → cond (b && also) (Some d.1) narrow ≡ None
not_found d wide narrow also true rest e = absurd cc
not_found d wide narrow also false rest e = rest e

none_for : (kind : List ℕ) (scope : ℕ) (name : List ℕ) (ds : List Default) → defaults_for kind ds ≡ [] →
    default_in ds kind scope name ≡ None
none_for kind scope name [] e = refl
none_for kind scope name (d ∷ ds) e =
    not_found d (defaults_for kind ds) (lookup (is_default kind scope name) ds)
    ((scope == d.0.scope) && bytes_eq name d.0.name) (bytes_eq kind d.0.kind) (none_for kind scope name ds) e

names_step : (parent : Option (Option ℕ)) (own : List (List ℕ)) (outer : Option ℕ → List (List ℕ)) → own ≡ [] →
    ((p : Option ℕ) → outer p ≡ []) → names_from parent own outer ≡ []
names_step None own outer e rest = refl
names_step (Some p) own outer e rest = ap (λ names. names ++ outer p) e ∙ rest p

names_none : (left : ℕ) (scopes : List Scope) (ds : List Default) (kind : List ℕ) (from : Option ℕ) →
    defaults_for kind ds ≡ [] → names_within left scopes ds kind from ≡ []
unfolding names_within
names_none zero scopes ds kind from e = refl
names_none (suc left) scopes ds kind None e = refl
names_none (suc left) scopes ds kind (Some s) e =
    names_step (parent_of scopes s) (names_in ds kind s) (names_within left scopes ds kind)
    (ap (map (λ d. d.0.name)) (none_in kind s ds e)) (λ p. names_none left scopes ds kind p e)

near_step : (parent : Option (Option ℕ)) (own : Option Datum) (outer : Option ℕ → Option Datum) → own ≡ None →
    ((p : Option ℕ) → outer p ≡ None) → from_scope parent own outer ≡ None
near_step None own outer e rest = refl
near_step (Some p) own outer e rest = ap (λ o. or_else o (outer p)) e ∙ rest p

near_nothing : (left : ℕ) (scopes : List Scope) (ds : List Default) (kind name : List ℕ) (from : Option ℕ) →
    defaults_for kind ds ≡ [] → nearest_within left scopes ds kind name from ≡ None
unfolding nearest_within
near_nothing zero scopes ds kind name from e = refl
near_nothing (suc left) scopes ds kind name None e = refl
near_nothing (suc left) scopes ds kind name (Some s) e =
    near_step (parent_of scopes s) (default_in ds kind s name) (nearest_within left scopes ds kind name)
    (none_for kind s name ds e) (λ p. near_nothing left scopes ds kind name p e)

-- ---- as the calls say it

pub no_names : (left : ℕ) (scopes : List Scope) (ds : List Default) (kind : List ℕ) (from : Option ℕ) →
    length (defaults_for kind ds) ≡ 0 → names_within left scopes ds kind from ≡ []
no_names left scopes ds kind from e = names_none left scopes ds kind from (empty_of_none (defaults_for kind ds) e)

pub no_nearest : (left : ℕ) (scopes : List Scope) (ds : List Default) (kind name : List ℕ) (from : Option ℕ) →
    length (defaults_for kind ds) ≡ 0 → nearest_within left scopes ds kind name from ≡ None
no_nearest left scopes ds kind name from e =
    near_nothing left scopes ds kind name from (empty_of_none (defaults_for kind ds) e)
