use Rattle.std.proofs.Common.{Ok, sym, ap, ◌∙◌, ◌++◌, string_bytes}
use Rattle.hiera_config.specs.Seen.{names_seen}
use Rattle.hiera_config.proofs.Meets.{gives}
use Rattle.hiera_config.proofs.PathTexts.{text_whole}
use Rattle.hiera_config.proofs.paths.add_template.Goals as goal

pub returns-in_ok-push_str-in-Some : goal.returns-in_ok-push_str-in-Some
returns-in_ok-push_str-in-Some c =
    gives
    (text_whole (names_seen c.args.names.now) _ _ c.in-Some.ensures.plain
    ∙ ap Ok (sym (c.in_ok-push_str-in-Some.ensures.bytes
    ∙ ap (λ t. string_bytes c.args.out.now ++ t) c.in-Some.ensures.text)))
