use Rattle.std.proofs.Common.{◌++◌, List, sym, ap, ◌∙◌}
use Rattle.std.proofs.lemmas.List.{append-nil}
use Rattle.hiera_lookup.specs.declared.asking.Ask.{Ask}
use Rattle.hiera_lookup.proofs.PlainTexts.{plain_asks}
use Rattle.hiera_lookup.proofs.asking.add_text.Goals as goal

pub returns-else-interpolates : goal.returns-else-interpolates
returns-else-interpolates c =
    sym (ap (λ (asks : List Ask). c.args.asked.now.items ++ asks)
    (plain_asks c.args.text.now (sym c.interpolates.ensures ∙ c.if-interpolates.false))
    ∙ append-nil c.args.asked.now.items)
