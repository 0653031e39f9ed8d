-- Turns dealt out to workers, and their results put together again.
use Rattle.std.specs.Prelude.{List, [], ◌++◌, ◌∷◌, Vec, Result, Ok, Err}
use Rattle.std.specs.declared.alloc.Global.{Global}
use Rattle.wide_apply.specs.declared.apart_turn.ApartTurn.{ApartTurn}
use Rattle.wide_apply.specs.declared.share.Share.{Share}

abbrev pub dealt : {P : Type 0} → List (Share P) → List (ApartTurn P)
dealt [] = []
dealt (share ∷ shares) = share.turns.items ++ dealt shares

abbrev pub gathered : {A X : Type 0} → List (Result (Vec A Global) X) → List A
gathered [] = []
gathered (Ok part ∷ parts) = part.items ++ gathered parts
gathered (Err refused ∷ parts) = gathered parts

abbrev pub AreOk : {A X : Type 0} → List (Result (Vec A Global) X) → Type 0
AreOk [] = Unit {0}
AreOk (Ok part ∷ parts) = AreOk parts
AreOk (Err refused ∷ parts) = ⊥
