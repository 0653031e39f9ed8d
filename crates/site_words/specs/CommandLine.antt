-- The command line as `clap` is told of it: each command with its positional words in order, and its options, which
-- may stand once and, but for a flag, have one value each.
use Rattle.std.specs.Prelude.{Some, true, codes}
use Rattle.clap.specs.Words.{App, Rule, Text, new_app, new_rule, with_rule, with_subcommand}
use Rattle.clap.specs.declared.builder.action.ArgAction.TheVariants.{Set, SetTrue}
use Rattle.site_words.specs.declared.ids.TheConstants.{NODE, KEY, NODES, ROUNDS, PORT, COUNT, MERGE, DIR, RESUME}
use Rattle.site_words.specs.declared.ids.TheConstants.{WORKERS}

-- a positional word; it has to be there
abbrev pub positional : Text → Rule
positional id = record (new_rule id) { required = true; action = Some Set }

-- an option with a value, which the usage names; it may be left out
abbrev pub optional : Text → Rule
optional id = record (new_rule id) { long = Some id; action = Some Set; value_names = 1 }

-- an option with no value; it may be left out
abbrev pub flag : Text → Rule
flag id = record (new_rule id) { long = Some id; action = Some SetTrue }

abbrev pub manifest_line : App
manifest_line = with_rule (new_app (codes "manifest")) (positional NODE.now)

abbrev pub check_line : App
check_line = with_rule (new_app (codes "check")) (optional DIR.now)

abbrev pub compile_line : App
compile_line = with_rule (with_rule (new_app (codes "compile")) (positional NODE.now)) (optional DIR.now)

abbrev pub sequence_line : App
sequence_line = new_app (codes "sequence")

abbrev pub lookup_line : App
lookup_line =
    with_rule (with_rule (with_rule (with_rule (new_app (codes "lookup")) (positional NODE.now)) (positional KEY.now))
    (optional MERGE.now)) (optional DIR.now)

abbrev pub apply_line : App
apply_line = with_rule (with_rule (with_rule (new_app (codes "apply")) (positional NODE.now)) (optional DIR.now))
    (optional WORKERS.now)

abbrev pub demo_line : App
demo_line = with_rule (new_app (codes "demo")) (positional NODES.now)

abbrev pub batch_line : App
batch_line = with_rule (new_app (codes "batch")) (optional WORKERS.now)

abbrev pub serve_line : App
serve_line =
    with_rule (with_rule (with_rule (with_rule (new_app (codes "serve")) (positional PORT.now)) (positional COUNT.now))
    (optional DIR.now)) (flag RESUME.now)

abbrev pub audit_line : App
audit_line = new_app (codes "audit")

abbrev pub migrate_line : App
migrate_line = new_app (codes "migrate")

abbrev pub resume_line : App
resume_line = with_rule (new_app (codes "resume")) (optional WORKERS.now)

abbrev pub settle_line : App
settle_line = with_rule (with_rule (new_app (codes "settle")) (positional ROUNDS.now)) (optional WORKERS.now)

-- the words come without the program's name, and the first of them names a command
abbrev pub bare_line : App
bare_line = record (new_app (codes "site")) {
  top = record (new_app (codes "site")).top
      { no_binary_name = true; disable_help_subcommand = true; subcommand_required = true };
}

abbrev pub with_three : App → App → App → App → App
with_three line a b c = with_subcommand (with_subcommand (with_subcommand line a.top) b.top) c.top

-- in groups of three commands, as the code builds them
unfoldable pub reading_line : App
reading_line = with_three bare_line manifest_line check_line compile_line

unfoldable pub bundle_line : App
bundle_line = with_three reading_line sequence_line lookup_line apply_line

unfoldable pub served_line : App
served_line = with_three bundle_line demo_line batch_line serve_line

unfoldable pub journal_line : App
journal_line = with_three served_line audit_line migrate_line resume_line

unfoldable pub command_line : App
command_line = with_subcommand journal_line settle_line.top
