-- Words that are not refused name a command: so the answer for words without one is never asked for.
use Rattle.std.proofs.Common.{◌≡◌, Bool, true, false, List, [], ◌∷◌, refl, is_some, not, ◌&&◌}
use Rattle.std.specs.List.{list_any}
use Rattle.clap.specs.Facts.{explicit_source}
use Rattle.clap.specs.Kinds.{Kinds, or_else, check_kinds}
use Rattle.clap.specs.Walk.{Held, Names, Row, Text, finished, nothing_held, settled, stop_after, walk, walk_from}
use Rattle.clap.specs.Takes.{is_given}
use Rattle.clap.specs.Simple.{Shape, argument_words, built, names_of, subcommand_of}
use Rattle.clap.specs.Faults.{check_fault, defaults_fault, entered_fault, fault_of, level_fault, settle_fault, walk_fault}
use Rattle.site_words.specs.CommandLine.{reading_line, bundle_line, served_line, journal_line, command_line}

later : (first rest : Kinds) → or_else first rest ≡ [] → rest ≡ []
later [] rest none = none
later (k ∷ ks) rest none = cc

wanted : (help required missing : Bool) → required ≡ true → check_kinds help required missing ≡ [] → ⊥
wanted true required missing is none = cc
wanted false true missing is none = cc
wanted false false missing is none = cc

unnamed : (s : Shape) (rows : List Row) → s.subcommand_required ≡ true → check_fault s rows false ≡ [] → ⊥
unnamed s rows required none =
    wanted (s.arg_required_else_help && not (list_any (λ r. explicit_source r.source) rows)) s.subcommand_required
    (not (s.subcommand_negates_reqs && false) && list_any (λ a. a.required && not (is_given a.id rows)) s.rules)
    required none

level_named : (s : Shape) (names : Names) (h : Held) (words : List Text) (has : Bool) (below : Kinds)
    → s.subcommand_required ≡ true → level_fault s names h words has below ≡ [] → has ≡ true
level_named s names h words true below required none = refl
level_named s names h words false below required none =
    let end = (walk s.rules names h words).held in
    let last = check_fault s (finished s.rules end) false in
    let defaults = or_else (defaults_fault (settled s.rules end).rows s.rules) last in
    let settles = or_else (settle_fault s.rules s.args_override_self end) defaults in
    absurd (unnamed s (finished s.rules end) required
    (later (defaults_fault (settled s.rules end).rows s.rules) last
    (later (settle_fault s.rules s.args_override_self end) defaults
    (later below settles (later (walk_fault s names (walk_from h) words) (or_else below settles) none)))))

pub a_command_is_named : (words : List Text) → fault_of command_line words ≡ [] →
    is_some (subcommand_of command_line words) ≡ true
unfolding reading_line bundle_line served_line journal_line command_line
a_command_is_named words none =
    let line = built command_line in
    let behind = argument_words command_line words in
    level_named line.top (names_of line) nothing_held behind (is_some (subcommand_of command_line words))
    (entered_fault line (stop_after line.top.rules (names_of line) behind)) refl none
