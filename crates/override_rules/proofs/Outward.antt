-- From scope to scope outwards.
use Rattle.std.proofs.Common.{◌≡◌, ℕ, zero, suc, List, [], ◌++◌, Option, None, Some, refl, ap, ◌∙◌}
use Rattle.override_rules.specs.Defaults.{Default, Scope, parent_of, default_in, or_else, from_scope, nearest_within}
use Rattle.override_rules.specs.Names.{names_in, names_from, names_within}

pub near_end : (left : ℕ) (scopes : List Scope) (ds : List Default) (kind name : List ℕ) (from : Option ℕ) →
    left ≡ 0 →
    nearest_within left scopes ds kind name from ≡ None
unfolding nearest_within
near_end left scopes ds kind name from e = rw e refl

pub near_none : (left : ℕ) (scopes : List Scope) (ds : List Default) (kind name : List ℕ) (from : Option ℕ) →
    from ≡ None →
    nearest_within left scopes ds kind name from ≡ None
unfolding nearest_within
near_none zero scopes ds kind name from e = refl
near_none (suc left) scopes ds kind name from e = rw e refl

pub near_closed : (left : ℕ) (scopes : List Scope) (ds : List Default) (kind name : List ℕ) (s : ℕ) →
    parent_of scopes s ≡ None → nearest_within left scopes ds kind name (Some s) ≡ None
unfolding nearest_within
near_closed zero scopes ds kind name s e = refl
near_closed (suc left) scopes ds kind name s e =
    ap (λ p. from_scope p (default_in ds kind s name) (nearest_within left scopes ds kind name)) e

pub near_open : (left rest : ℕ) (scopes : List Scope) (ds : List Default) (kind name : List ℕ) (s : ℕ)
    (parent : Option ℕ) →
    left ≡ suc rest → parent_of scopes s ≡ Some parent →
    nearest_within left scopes ds kind name (Some s)
    ≡ or_else (default_in ds kind s name) (nearest_within rest scopes ds kind name parent)
unfolding nearest_within
near_open left rest scopes ds kind name s parent more e =
    ap (λ n. nearest_within n scopes ds kind name (Some s)) more
    ∙ ap (λ p. from_scope p (default_in ds kind s name) (nearest_within rest scopes ds kind name)) e

pub names_end : (left : ℕ) (scopes : List Scope) (ds : List Default) (kind : List ℕ) (from : Option ℕ) → left ≡ 0 →
    names_within left scopes ds kind from ≡ []
unfolding names_within
names_end left scopes ds kind from e = rw e refl

pub names_none : (left : ℕ) (scopes : List Scope) (ds : List Default) (kind : List ℕ) (from : Option ℕ) →
    from ≡ None →
    names_within left scopes ds kind from ≡ []
unfolding names_within
names_none zero scopes ds kind from e = refl
names_none (suc left) scopes ds kind from e = rw e refl

pub names_closed : (left : ℕ) (scopes : List Scope) (ds : List Default) (kind : List ℕ) (s : ℕ) →
    parent_of scopes s ≡ None → names_within left scopes ds kind (Some s) ≡ []
unfolding names_within
names_closed zero scopes ds kind s e = refl
names_closed (suc left) scopes ds kind s e =
    ap (λ p. names_from p (names_in ds kind s) (names_within left scopes ds kind)) e

pub names_open : (left rest : ℕ) (scopes : List Scope) (ds : List Default) (kind : List ℕ) (s : ℕ)
    (parent : Option ℕ) →
    left ≡ suc rest → parent_of scopes s ≡ Some parent →
    names_within left scopes ds kind (Some s) ≡ names_in ds kind s ++ names_within rest scopes ds kind parent
unfolding names_within
names_open left rest scopes ds kind s parent more e =
    ap (λ n. names_within n scopes ds kind (Some s)) more
    ∙ ap (λ p. names_from p (names_in ds kind s) (names_within rest scopes ds kind)) e
