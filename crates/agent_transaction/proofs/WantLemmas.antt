-- A list that lies the other way round.
use Rattle.std.proofs.Common.{◌≡◌, List, length, reverse, sym}
use Rattle.std.proofs.lemmas.List.{length-reverse, reverse-reverse}
use Rattle.pp_values.specs.Settings.{Setting}

pub twice : (l : List Setting) → reverse (reverse l) ≡ l
twice l = reverse-reverse l

pub same_length : (l : List Setting) → length l ≡ length (reverse l)
same_length l = sym (length-reverse l)
