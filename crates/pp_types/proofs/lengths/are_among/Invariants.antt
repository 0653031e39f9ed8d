-- What holds is told by the texts from the index on.
use Rattle.std.proofs.Common.{◌≡◌, drop}
use Rattle.std.specs.List.{list_all, list_any}
use Rattle.std.specs.Str.{bytes_eq}
use Rattle.pp_types.proofs.lengths.are_among.Given as goal

abbrev pub invariant-loop-text : goal.invariant-loop-text
invariant-loop-text l =
    list_all (λ u. list_any (bytes_eq u) l.texts) l.others ≡ list_all
    (λ u. list_any (bytes_eq u) l.texts) (drop l.text-index l.others)
