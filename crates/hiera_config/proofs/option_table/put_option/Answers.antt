use Rattle.std.proofs.Common.{[], ◌∷◌, sym, ap, subst, ◌∙◌}
use Rattle.pp_values.specs.Datum.{text}
use Rattle.pp_values.specs.Views.{view}
use Rattle.hiera_config.specs.OptionTables.{PutsOver}
use Rattle.hiera_config.proofs.OptionLemmas.{put_one}
use Rattle.hiera_config.proofs.option_table.put_option.Goals as goal

pub returns-in_ok-insert-in-Text : goal.returns-in_ok-insert-in-Text
returns-in_ok-insert-in-Text c =
    subst (λ k. PutsOver ((k, view c.args.value) ∷ []) c.args.by_key.now.entries c.insert.new.self.entries)
    (ap text c.in_ok-copy-in-Text.ensures ∙ sym (ap view c.in-Text.is))
    (put_one c.args.by_key.now.entries c.insert.new.self.entries c.in_ok-copy-in-Text.field-0 c.args.value
    c.in_ok-insert-in-Text.ensures.updates.0)
