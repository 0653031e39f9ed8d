-- What the scopes on a way out say: the nearest default, and the names of all.
use Rattle.std.proofs.Common.{◌≡◌, ◌≤◌, ℕ, zero, suc, List, [], ◌∷◌, ◌++◌, length, Option, None, Some, refl, sym, ap, ◌∙◌}
use Rattle.pp_values.specs.Datum.{Datum}
use Rattle.override_rules.specs.Bounds.{DefaultsSuffice, NamesSuffice}
use Rattle.override_rules.specs.Defaults.{Default, Scope, parent_of, default_in, from_scope, or_else, nearest_within}
use Rattle.override_rules.specs.Names.{names_in, names_from, names_within}
use Rattle.override_rules.specs.Ways.{AreNested, way_from, way_within}

unfoldable pub nearest_on : List ℕ → List Default → List ℕ → List ℕ → Option Datum
nearest_on [] ds kind name = None
nearest_on (s ∷ ss) ds kind name = or_else (default_in ds kind s name) (nearest_on ss ds kind name)

unfoldable pub names_on : List ℕ → List Default → List ℕ → List (List ℕ)
names_on [] ds kind = []
names_on (s ∷ ss) ds kind = names_in ds kind s ++ names_on ss ds kind

near_step : (parent : Option (Option ℕ)) (s : ℕ) (ds : List Default) (kind name : List ℕ)
    (outer : Option ℕ → Option Datum) (way : Option ℕ → List ℕ) →
    ((p : Option ℕ) → outer p ≡ nearest_on (way p) ds kind name) →
    from_scope parent (default_in ds kind s name) outer ≡ nearest_on (way_from parent s way) ds kind name
unfolding nearest_on
near_step None s ds kind name outer way h = refl
near_step (Some p) s ds kind name outer way h = ap (or_else (default_in ds kind s name)) (h p)

pub near_way : (left : ℕ) (scopes : List Scope) (ds : List Default) (kind name : List ℕ) (from : Option ℕ) →
    nearest_within left scopes ds kind name from ≡ nearest_on (way_within left scopes from) ds kind name
unfolding nearest_within way_within nearest_on
near_way zero scopes ds kind name from = refl
near_way (suc left) scopes ds kind name None = refl
near_way (suc left) scopes ds kind name (Some s) =
    near_step (parent_of scopes s) s ds kind name (nearest_within left scopes ds kind name) (way_within left scopes)
    (λ p. near_way left scopes ds kind name p)

names_step : (parent : Option (Option ℕ)) (s : ℕ) (ds : List Default) (kind : List ℕ)
    (outer : Option ℕ → List (List ℕ)) (way : Option ℕ → List ℕ) →
    ((p : Option ℕ) → outer p ≡ names_on (way p) ds kind) →
    names_from parent (names_in ds kind s) outer ≡ names_on (way_from parent s way) ds kind
unfolding names_on
names_step None s ds kind outer way h = refl
names_step (Some p) s ds kind outer way h = ap (λ l. names_in ds kind s ++ l) (h p)

pub names_way : (left : ℕ) (scopes : List Scope) (ds : List Default) (kind : List ℕ) (from : Option ℕ) →
    names_within left scopes ds kind from ≡ names_on (way_within left scopes from) ds kind
unfolding names_within way_within names_on
names_way zero scopes ds kind from = refl
names_way (suc left) scopes ds kind None = refl
names_way (suc left) scopes ds kind (Some s) =
    names_step (parent_of scopes s) s ds kind (names_within left scopes ds kind) (way_within left scopes)
    (λ p. names_way left scopes ds kind p)

-- ---- as many scopes as there are

pub defaults_suffice : DefaultsSuffice
defaults_suffice left scopes ds kind name s nested more =
    near_way left scopes ds kind name (Some s)
    ∙ (ap (λ way. nearest_on way ds kind name) (nested.enough left s more)
    ∙ sym (near_way (length scopes) scopes ds kind name (Some s)))

pub names_suffice : NamesSuffice
names_suffice left scopes ds kind s nested more =
    names_way left scopes ds kind (Some s)
    ∙ (ap (λ way. names_on way ds kind) (nested.enough left s more)
    ∙ sym (names_way (length scopes) scopes ds kind (Some s)))
