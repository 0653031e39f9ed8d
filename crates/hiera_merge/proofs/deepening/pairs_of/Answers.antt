use Rattle.std.proofs.Common.{sym, ap, ◌∙◌}
use Rattle.pp_values.specs.Views.{view}
use Rattle.pp_values.proofs.Lists.{pairs_of-entries_of}
use Rattle.hiera_merge.specs.Merges.{pairs_in}
use Rattle.hiera_merge.proofs.deepening.pairs_of.Goals as goal

pub returns-in-Hash : goal.returns-in-Hash
returns-in-Hash c =
    c.replace.ensures.value
    ∙ sym (ap (λ v. pairs_in (view v)) c.in-Hash.is ∙ pairs_of-entries_of c.in-Hash.pairs)
