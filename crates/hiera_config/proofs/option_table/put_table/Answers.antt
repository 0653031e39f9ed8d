use Rattle.std.proofs.Common.{sym, ap, subst, ◌∙◌}
use Rattle.std.specs.Prelude.{OnOk}
use Rattle.pp_values.specs.Views.{view}
use Rattle.pp_values.proofs.Lists.{pairs_of-entries_of}
use Rattle.hiera_merge.specs.Merges.{pairs_in}
use Rattle.hiera_config.specs.OptionTables.{PutsOver}
use Rattle.hiera_config.proofs.option_table.put_table.Goals as goal

pub returns-in-Hash : goal.returns-in-Hash
returns-in-Hash c =
    subst (λ ps. OnOk c.put_pairs.result (PutsOver ps c.args.by_key.now.entries c.put_pairs.new.by_key.entries))
    (c.replace.ensures.value ∙ sym (ap (λ v. pairs_in (view v)) c.in-Hash.is ∙ pairs_of-entries_of c.in-Hash.pairs))
    c.put_pairs.ensures
