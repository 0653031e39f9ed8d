use Rattle.std.proofs.Common.{sym, ap, ◌∙◌}
use Rattle.pp_values.specs.Datum.{text}
use Rattle.hiera_lookup.specs.Filled.{answer_to}
use Rattle.hiera_lookup.specs.World.{seen}
use Rattle.hiera_lookup.proofs.PlainTexts.{plain_filled}
use Rattle.hiera_lookup.proofs.filling.fill_text.Goals as goal

pub returns-in_ok-from_str : goal.returns-in_ok-from_str
returns-in_ok-from_str c =
    ap text c.in_ok-from_str.ensures
    ∙ sym (plain_filled ((seen c.args.world.now).reads) (answer_to c.args.answers.now) c.args.text.now
    (sym c.interpolates.ensures ∙ c.if-interpolates.false))
