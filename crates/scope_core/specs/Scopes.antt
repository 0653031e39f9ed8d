-- Scopes: their names, and which are read after which.
use Rattle.std.specs.Prelude.{ℕ, zero, suc, ◌-◌, ◌==◌, Bool, true, false, ◌&&◌, ◌||◌, if◌then◌else◌}
use Rattle.std.specs.Prelude.{List, [], ◌∷◌, ◌++◌, length, take, map, Option, None, Some, Result, Ok, Err}
use Rattle.std.specs.Prelude.{slice_get, slice_set, is_some, codes, option_and_then, refl}
use Rattle.std.specs.Char.{to_ascii_lowercase}
use Rattle.std.specs.Coded.{Coded, code_by, coded×, coded_ℕ, coded_list}
use Rattle.std.specs.Option.{option_or}
use Rattle.std.specs.Str.{bytes_eq}
use Rattle.pp_values.specs.Codes.{coded_text, coded_datum}
use Rattle.pp_values.specs.Datum.{Datum}
use Rattle.pp_values.specs.Faults.{fault}
use Rattle.pp_values.specs.declared.fault.Fault.{Fault}
use Rattle.pp_values.specs.declared.fault.What.TheVariants as what
use Rattle.pp_values.specs.declared.place.Place.{Place}
use Rattle.scope_core.specs.contracts.owner.Owner as owner_contract
use Rattle.scope_core.specs.declared.owner.Owner.{Owner}
use Rattle.scope_core.specs.declared.owner.Owner.TheVariants as o
use Rattle.scope_core.specs.declared.scope_kind.ScopeKind.{ScopeKind}
use Rattle.scope_core.specs.declared.scope_kind.ScopeKind.TheVariants as k
use Rattle.scope_core.specs.Names.{Name, value_of, with_value, cut, value_of_class}

-- a scope: what it belongs to, the scope it was entered from, and its names with their values
pub record Scope : Type 0 where
  pub owner : Owner
  pub parent : ℕ
  pub names : List (Name × Datum)

abbrev pub coded_scope : Coded Scope
coded_scope =
    code_by (Owner × (ℕ × List (Name × Datum)))
    (coded× owner_contract.the_row.coded (coded× coded_ℕ (coded_list (coded× coded_text coded_datum))))
    (λ s. (s.owner, (s.parent, s.names))) (λ p. record { owner = p.0; parent = p.1.0; names = p.1.1 }) (λ _. refl)

-- All scopes by number; the number of the node's scope, or that of top scope before it is entered; the scopes of the
-- classes by name.
pub record Scopes : Type 0 where
  pub scopes : List Scope
  pub node : ℕ
  pub classes : List (Name × ℕ)

abbrev pub coded_scopes : Coded Scopes
coded_scopes =
    code_by (List Scope × (ℕ × List (Name × ℕ)))
    (coded× (coded_list coded_scope) (coded× coded_ℕ (coded_list (coded× coded_text coded_ℕ))))
    (λ s. (s.scopes, (s.node, s.classes))) (λ p. record { scopes = p.0; node = p.1.0; classes = p.1.1 }) (λ _. refl)

abbrev pub scope_of : Owner → ℕ → Scope
scope_of owner parent = record { owner = owner; parent = parent; names = [] }

-- the empty top scope alone
abbrev pub top_alone : Scopes
top_alone = record { scopes = scope_of o.Top 0 ∷ []; node = 0; classes = [] }

-- ---- entering and leaving

abbrev pub owner_of : ScopeKind → Owner
owner_of k.Node = o.Node
owner_of (k.Class c) = o.Class
owner_of k.Instance = o.Instance
owner_of k.Lambda = o.Lambda

-- the node's scope is the new one where the node's body is entered
abbrev pub node_after : ScopeKind → ℕ → ℕ → ℕ
node_after k.Node new node = new
node_after kind new node = node

-- a class's name stands in lower case
abbrev pub classes_after : ScopeKind → ℕ → List (Name × ℕ) → List (Name × ℕ)
classes_after (k.Class c) new classes = with_value (map to_ascii_lowercase c) new classes
classes_after kind new classes = classes

-- a scope more, without names
abbrev pub added : Owner → ℕ → Scopes → Scopes
added owner parent s = record s { scopes = s.scopes ++ scope_of owner parent ∷ [] }

-- a new scope has the next number
abbrev pub entered : ScopeKind → ℕ → Scopes → Scopes
entered kind parent s = record {
  scopes = s.scopes ++ scope_of (owner_of kind) parent ∷ [];
  node = node_after kind (length s.scopes) s.node;
  classes = classes_after kind (length s.scopes) s.classes;
}

-- a lambda's scope ends: it has no names, and nothing is read after it
abbrev pub ended : Owner → Scope → Scope
ended o.Lambda s = scope_of o.Ended 0
ended owner s = s

abbrev pub scopes_after : ℕ → Option Scope → List Scope → List Scope
scopes_after n None scopes = scopes
scopes_after n (Some s) scopes = slice_set scopes n (ended s.owner s)

abbrev pub is_ended : Owner → Bool
is_ended o.Ended = true
is_ended owner = false

abbrev pub has_ended : Option Scope → Bool
has_ended None = false
has_ended (Some s) = is_ended s.owner

-- the scope of this number has ended, and none stands behind it
abbrev pub is_last_ended : ℕ → List Scope → Bool
is_last_ended n scopes = has_ended (slice_get scopes n) && (n == length scopes - 1)

-- Then it goes, and the next one has its number: no scope that stands was entered while it stood.
abbrev pub without_ended : ℕ → List Scope → List Scope
without_ended n scopes = if is_last_ended n scopes then take n scopes else scopes

-- other scopes stay
abbrev pub left : ℕ → Scopes → Scopes
left n s = record s { scopes = without_ended n (scopes_after n (slice_get s.scopes n) s.scopes) }

-- ---- reading

abbrev pub own_of : Name → Option Scope → Option Datum
own_of x = option_and_then (λ scope. value_of x scope.names)

-- the value of a name in this one scope
abbrev pub own : ℕ → Name → Scopes → Option Datum
own n x s = own_of x (slice_get s.scopes n)

abbrev pub is_class : Owner → Bool
is_class o.Class = true
is_class owner = false

-- the scope of this number is a class's
abbrev pub is_of_class : Option Scope → Bool
is_of_class None = false
is_of_class (Some s) = is_class s.owner

-- What is read after a scope: after the node's, top scope; after a class's, its parent class's, where it was entered
-- from one, or else the node's, or top scope before there is one; after an instance's, the node's, or top scope before
-- there is one; after a lambda's, the one it is within.
abbrev pub after : Owner → ℕ → Scopes → Option ℕ
after o.Top parent s = None
after o.Node parent s = Some 0
after o.Class parent s = Some (if is_of_class (slice_get s.scopes parent) then parent else s.node)
after o.Instance parent s = Some s.node
after o.Lambda parent s = Some parent
after o.Ended parent s = None

abbrev pub next : ℕ → Scopes → Option ℕ
next n s = option_and_then (λ scope. after scope.owner scope.parent s) (slice_get s.scopes n)

-- the value in a scope or in those after it, of which there are as many as turns
unfoldable pub seen_from : ℕ → Option ℕ → Name → Scopes → Option Datum
seen_from zero at x s = None
seen_from (suc turns) None x s = None
seen_from (suc turns) (Some n) x s = option_or (own n x s) (seen_from turns (next n s) x s)

-- no scope is met twice, so there are as many turns as scopes
abbrev pub seen : Option ℕ → Name → Scopes → Option Datum
seen at x s = seen_from (length s.scopes) at x s

-- where `q::x` is looked for: top scope for `::x`, else the scope of the class q
abbrev pub start : Name → Scopes → Option ℕ
start [] s = Some 0
start (b ∷ bs) s = value_of_class (b ∷ bs) s.classes

abbrev pub found_at : ℕ → Name → Option (Name × Name) → Scopes → Option Datum
found_at n x None s = seen (Some n) x s
found_at n x (Some p) s = seen (start p.0 s) p.1 s

-- the value of a name as it is written after `$`
unfoldable pub found : ℕ → Name → Scopes → Option Datum
found n x s = found_at n x (cut x) s

abbrev pub or_unknown : Option Datum → Name → Place → Result Datum Fault
or_unknown (Some d) x at = Ok d
or_unknown None x at = Err (fault at (what.UnknownVariable x))

unfoldable pub read : ℕ → Name → Place → Scopes → Result Datum Fault
read n x at s = or_unknown (found n x s) x at

-- ---- setting

abbrev pub is_kept : Name → Bool
is_kept x = bytes_eq x (codes "facts") || bytes_eq x (codes "trusted")

-- a name may be set once in a scope, and not at all where top scope keeps it for itself
abbrev pub is_set : ℕ → Name → Scopes → Bool
is_set n x s = is_some (own n x s) || (is_kept x && is_some (own 0 x s))

abbrev pub set_in : ℕ → Name → Datum → Option Scope → List Scope → List Scope
set_in n x d None scopes = scopes
set_in n x d (Some scope) scopes = slice_set scopes n (record scope { names = with_value x d scope.names })

abbrev pub with_name : ℕ → Name → Datum → Scopes → Scopes
with_name n x d s = record s { scopes = set_in n x d (slice_get s.scopes n) s.scopes }

unfoldable pub assign : ℕ → Name → Datum → Place → Scopes → Result Scopes Fault
assign n x d at s = if is_set n x s then Err (fault at (what.Reassigned x)) else Ok (with_name n x d s)
