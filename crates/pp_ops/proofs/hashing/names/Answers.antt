-- What a value names, as its list of keys.
use Rattle.std.proofs.Common.{◌∙◌, ap, sym}
use Rattle.std.specs.Prelude.{is_some}
use Rattle.pp_values.specs.Views.{view}
use Rattle.pp_values.proofs.Lists.{members_of-data_of, pairs_of-entries_of}
use Rattle.pp_ops.proofs.Merges.{named_keys, some_kept}
use Rattle.pp_ops.proofs.hashing.names.Goals as goal

pub returns-in-Hash : goal.returns-in-Hash
returns-in-Hash c =
    rw (c.in-Hash.is, pairs_of-entries_of c.in-Hash.pairs)
    (c.is_some.ensures ∙ some_kept c.get.result ∙ ap is_some c.get.ensures ∙
    sym (named_keys (view c.args.key.now) c.in-Hash.pairs))

pub returns-in-List : goal.returns-in-List
returns-in-List c = rw (c.in-List.is, members_of-data_of c.in-List.items, ← c.as_slice.ensures) c.is_listed.ensures
