-- That the number of scopes over which a default is looked for decides nothing.
use Rattle.std.specs.Prelude.{◌≡◌, ◌≤◌, ℕ, List, length, Some}
use Rattle.override_rules.specs.Defaults.{Default, Scope, nearest, nearest_within}
use Rattle.override_rules.specs.Names.{names_within}
use Rattle.override_rules.specs.Ways.{AreNested}

-- Where each scope is opened after its parent, the way out over more scopes than there are has no other default
abbrev pub DefaultsSuffice : Type 0
DefaultsSuffice = (left : ℕ) (scopes : List Scope) (ds : List Default) (kind name : List ℕ) (s : ℕ) →
    AreNested scopes → length scopes ≤ left →
    nearest_within left scopes ds kind name (Some s) ≡ nearest scopes ds kind name s

-- and no other names.
abbrev pub NamesSuffice : Type 0
NamesSuffice = (left : ℕ) (scopes : List Scope) (ds : List Default) (kind : List ℕ) (s : ℕ) →
    AreNested scopes → length scopes ≤ left →
    names_within left scopes ds kind (Some s) ≡ names_within (length scopes) scopes ds kind (Some s)
