use Rattle.history_tools.proofs.CutEntries.{cut_counted, cut_few, cut_shape, cut_is}
use Rattle.history_tools.proofs.same_workers.by_workers.Goals as goal

pub counted_on-requires-clause-counted : goal.counted_on-requires-clause-counted
counted_on-requires-clause-counted g c =
    cut_counted c.into_vec-before.result.items c.split_off.new.self.items c.in_ok-more.more.items
    c.args.history.entries c.args.start c.into_vec-before.ensures.entries c.in_ok-more.ensures.items
    c.in_ok-more.ensures.tail c.args.counts c.requires.counted

pub counted_on-requires-clause-few : goal.counted_on-requires-clause-few
counted_on-requires-clause-few g c =
    cut_few c.into_vec-before.result.items c.split_off.new.self.items c.in_ok-more.more.items
    c.args.history.entries c.args.start c.into_vec-before.ensures.entries c.in_ok-more.ensures.items
    c.in_ok-more.ensures.tail _ c.requires.few

pub from_vec-requires : goal.from_vec-requires
from_vec-requires g c =
    cut_shape c.into_vec-before.result.items c.split_off.new.self.items c.in_ok-more.more.items
    c.args.history.entries c.args.start c.into_vec-before.ensures.entries c.in_ok-more.ensures.items
    c.in_ok-more.ensures.tail c.args.base c.in_ok-counts.entries.items c.in_ok-counts.ensures.entries c.requires.some
    c.into_vec-before.ensures.shape

pub returns : goal.returns
returns g c =
    cut_is c.into_vec-before.result.items c.split_off.new.self.items c.in_ok-more.more.items
    c.args.history.entries c.args.start c.into_vec-before.ensures.entries c.in_ok-more.ensures.items
    c.in_ok-more.ensures.tail c.args.base c.in_ok-counts.entries.items c.in_ok-counts.ensures.entries
    c.from_vec.result c.from_vec.ensures
