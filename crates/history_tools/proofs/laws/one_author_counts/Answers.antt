use Rattle.history_tools.proofs.OneAuthor.{one_author}
use Rattle.history_tools.proofs.laws.one_author_counts.Goals as goal

pub returns : goal.returns
returns g c = one_author g.L.Language.meaning
