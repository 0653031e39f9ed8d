-- What is put on a stack and taken off it.
use Rattle.std.proofs.Common.{◌≡◌, List, [], ◌∷◌, ◌++◌, map, reverse, ap, ◌∙◌}
use Rattle.std.proofs.lemmas.List.{reverse-append, map-append}
use Rattle.eval_classes.specs.Stacks.{stack_of}

module _ {A B : Type 0} (told : A → B) where
  -- what was put on last comes first
  pub put_on : (xs : List A) (x : A) → stack_of told (xs ++ x ∷ []) ≡ told x ∷ stack_of told xs
  put_on xs x = ap reverse (map-append told xs (x ∷ [])) ∙ reverse-append (map told xs) (told x ∷ [])
