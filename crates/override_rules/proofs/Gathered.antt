-- Names, put into a set one after another.
use Rattle.std.proofs.Common.{◌≡◌, ℕ, suc, ◌+◌, ◌<◌, ◌≤◌, List, [], ◌++◌, length, drop, get_or, Option, Some, sym, ap, ◌∙◌}
use Rattle.std.proofs.lemmas.List.{map-append}
use Rattle.std.specs.Prelude.{option_to_list, slice_get}
use Rattle.pp_values.specs.Rising.{with_texts, sorted}
use Rattle.res_core.proofs.NameLemmas.{with_texts-append}
use Rattle.override_rules.proofs.Outward.{names_open}
use Rattle.override_rules.proofs.Walks.{from_place, past_end}
use Rattle.override_rules.specs.Defaults.{Default, Scope, parent_of}
use Rattle.override_rules.specs.Lines.{Line}
use Rattle.override_rules.specs.Names.{line_names, names_in, names_within}
use Rattle.override_rules.specs.Numbers.{lines_at}

pub put_place : (ls : List Line) (ns : List ℕ) (i : ℕ) (held new : List (List ℕ)) → i < length ns →
    new ≡ with_texts held (line_names (option_to_list (slice_get ls (get_or ns i 0)))) →
    with_texts held (line_names (lines_at ls (drop i ns)))
    ≡ with_texts new (line_names (lines_at ls (drop (i + 1) ns)))
put_place ls ns i held new fits is =
    let one : List Line = option_to_list (slice_get ls (get_or ns i 0)) in
    let rest : List Line = lines_at ls (drop (i + 1) ns) in
    ap (λ t. with_texts held (line_names t)) (from_place ls ns i fits)
    ∙ ap (with_texts held) (map-append (λ l. l.name) one rest)
    ∙ with_texts-append (line_names one) (line_names rest) held
    ∙ ap (λ t. with_texts t (line_names rest)) (sym is)

pub put_end : (ls : List Line) (ns : List ℕ) (i : ℕ) (held : List (List ℕ)) → length ns ≤ i →
    with_texts held (line_names (lines_at ls (drop i ns))) ≡ held
put_end ls ns i held past = ap (λ t. with_texts held (line_names t)) (past_end ls ns i past)

-- one scope further out
pub put_scope : (left rest : ℕ) (scopes : List Scope) (ds : List Default) (kind : List ℕ) (s : ℕ) (parent : Option ℕ)
    (held new : List (List ℕ)) → left ≡ suc rest → parent_of scopes s ≡ Some parent →
    new ≡ with_texts held (names_in ds kind s) →
    with_texts held (names_within left scopes ds kind (Some s))
    ≡ with_texts new (names_within rest scopes ds kind parent)
put_scope left rest scopes ds kind s parent held new more opened is =
    ap (with_texts held) (names_open left rest scopes ds kind s parent more opened)
    ∙ with_texts-append (names_in ds kind s) (names_within rest scopes ds kind parent) held
    ∙ ap (λ t. with_texts t (names_within rest scopes ds kind parent)) (sym is)

pub three_parts : (own lines defaults : List (List ℕ)) →
    with_texts (with_texts (with_texts [] own) lines) defaults ≡ sorted (own ++ (lines ++ defaults))
three_parts own lines defaults =
    sym (with_texts-append own (lines ++ defaults) [] ∙ with_texts-append lines defaults (with_texts [] own))
