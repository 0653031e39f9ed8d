-- What top scope holds before evaluation.
use Rattle.std.specs.Prelude.{ℕ, nat_lt, ◌==◌, Bool, if◌then◌else◌, List, [], ◌∷◌, length, codes}
use Rattle.std.specs.List.{before_first, after_first, position_or_len}
use Rattle.pp_values.specs.Datum as d
use Rattle.pp_values.specs.Datum.{Datum, Pair, entries_of}
use Rattle.scope_core.specs.Names.{Name}
use Rattle.scope_core.specs.Scopes.{Scopes, is_set, with_name}
use Rattle.eval_calls.specs.Templates.{pairs_within}
use Rattle.eval_calls.specs.VariableNames.{is_variable}

-- ---- the name of a node, cut at its first dot

abbrev pub is_dot : ℕ → Bool
is_dot b = b == 46

abbrev pub has_dot : Name → Bool
has_dot node = nat_lt (position_or_len is_dot node) (length node)

abbrev pub host_of : Name → Datum
host_of node = d.text (before_first is_dot node)

-- what stands behind the dot, and Undef where there is none
abbrev pub domain_of : Name → Datum
domain_of node = if has_dot node then d.text (after_first is_dot node) else d.undef

-- ---- `trusted`

abbrev pub no_pairs : Datum
no_pairs = d.hash (entries_of [])

abbrev pub trusted_pairs : Name → List Pair
trusted_pairs node =
    (d.text (codes "certname"), d.text node)
    ∷ (d.text (codes "hostname"), host_of node)
    ∷ (d.text (codes "domain"), domain_of node)
    ∷ (d.text (codes "authenticated"), d.text (codes "remote"))
    ∷ (d.text (codes "extensions"), no_pairs)
    ∷ (d.text (codes "external"), no_pairs)
    ∷ []

abbrev pub trusted : Name → Datum
trusted node = d.hash (entries_of (trusted_pairs node))

-- ---- the names of top scope

-- a name that is there already stays
abbrev pub with_new : Name → Datum → Scopes → Scopes
with_new x v s = if is_set 0 x s then s else with_name 0 x v s

-- a fact whose name is that of a variable
abbrev pub with_fact : Datum → Datum → Scopes → Scopes
with_fact (d.text t) v s = if is_variable t then with_new t v s else s
with_fact _ v s = s

unfoldable pub with_facts : List Pair → Scopes → Scopes
with_facts [] s = s
with_facts (p ∷ ps) s = with_facts ps (with_fact p.0 p.1 s)

abbrev pub with_given : Name → Datum → Scopes → Scopes
with_given node facts s =
    with_new (codes "environment") (d.text (codes "production"))
    (with_new (codes "trusted") (trusted node)
    (with_new (codes "facts") facts s))

-- `facts`, `trusted` and `environment`, and then the facts themselves
abbrev pub with_top_names : Name → Datum → Scopes → Scopes
with_top_names node facts s = with_facts (pairs_within facts) (with_given node facts s)
