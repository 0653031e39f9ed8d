-- Default statements, and the chain of scopes in which they are looked for.
use Rattle.std.specs.Prelude.{ℕ, zero, suc, ◌==◌, ◌&&◌, Bool, List, filter, length, Option, None, Some}
use Rattle.std.specs.BTreeMap.{insert_entry, is_at}
use Rattle.std.specs.Map.{lookup}
use Rattle.std.specs.Ordering.{nat_cmp}
use Rattle.std.specs.Str.{bytes_eq}
use Rattle.pp_values.specs.Datum.{Datum}
use Rattle.override_rules.specs.Keys.{key_cmp}
use Rattle.override_rules.specs.declared.default_key.DefaultKey.{DefaultKey}

-- a default of a scope: for this kind the attribute of this name has this value
abbrev pub Default : Type 0
Default = DefaultKey × Datum

-- a scope that was opened, and its dynamic parent
abbrev pub Scope : Type 0
Scope = ℕ × Option ℕ

abbrev pub default_key : List ℕ → ℕ → List ℕ → DefaultKey
default_key kind scope name = record { kind = kind; scope = scope; name = name }

abbrev pub is_default : List ℕ → ℕ → List ℕ → DefaultKey → Bool
is_default kind scope name k = bytes_eq kind k.kind && ((scope == k.scope) && bytes_eq name k.name)

-- what this scope has itself
abbrev pub default_in : List Default → List ℕ → ℕ → List ℕ → Option Datum
default_in ds kind scope name = lookup (is_default kind scope name) ds

-- one more, at its place in the order
abbrev pub with_default : List Default → DefaultKey → Datum → List Default
with_default = insert_entry key_cmp

-- those for a kind
abbrev pub defaults_for : List ℕ → List Default → List Default
defaults_for kind = filter (λ d. bytes_eq kind d.0.kind)

-- the dynamic parent of a scope; nothing where it was never opened
abbrev pub parent_of : List Scope → ℕ → Option (Option ℕ)
parent_of scopes scope = lookup (is_at (nat_cmp scope)) scopes

abbrev pub opened_by : Option (Option ℕ) → List Scope → ℕ → Option ℕ → List Scope
opened_by (Some held) scopes scope parent = scopes
opened_by None scopes scope parent = insert_entry nat_cmp scopes scope parent

-- One scope more. A dynamic parent is set once: a scope that was opened keeps the one that it has.
abbrev pub with_scope : List Scope → ℕ → Option ℕ → List Scope
with_scope scopes scope parent = opened_by (parent_of scopes scope) scopes scope parent

abbrev pub or_else : Option Datum → Option Datum → Option Datum
or_else None next = next
or_else (Some d) next = Some d

-- A scope that was opened has what it says itself, or else what comes further out. One that wasn't has nothing.
abbrev pub from_scope : Option (Option ℕ) → Option Datum → (Option ℕ → Option Datum) → Option Datum
from_scope None own outer = None
from_scope (Some parent) own outer = or_else own (outer parent)

-- the nearest default on the way out from a scope, over this many scopes at most
unfoldable pub nearest_within : ℕ → List Scope → List Default → List ℕ → List ℕ → Option ℕ → Option Datum
nearest_within zero scopes ds kind name from = None
nearest_within (suc left) scopes ds kind name None = None
nearest_within (suc left) scopes ds kind name (Some s) =
    from_scope (parent_of scopes s) (default_in ds kind s name) (nearest_within left scopes ds kind name)

-- A scope's parent was opened before it, so the way out has no more scopes than there are.
abbrev pub nearest : List Scope → List Default → List ℕ → List ℕ → ℕ → Option Datum
nearest scopes ds kind name s = nearest_within (length scopes) scopes ds kind name (Some s)
