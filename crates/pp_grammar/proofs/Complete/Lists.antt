-- Lists: what stands as a list is read as that list, where each item is, and takes a token.
use Rattle.std.proofs.Common.{◌≡◌, ℕ, zero, suc, ◌<◌, ◌≤◌, Bool, true, false, List, [], ◌∷◌, ◌++◌, length, Option, Some, None, Ok, refl, ap, ◌∙◌, append_assoc, append-nil, arith}
use Rattle.pp_lexer.specs.declared.kind.Kind.{Kind}
use Rattle.pp_grammar.proofs.Reader.Input.{Input, Parser, kind, repeat_from, repeat, separated_from, separated, separated_some, turns}
use Rattle.pp_grammar.specs.Places.{Phrase, Many, Separated, SeparatedSome, Maybe}
use Rattle.pp_grammar.proofs.Complete.Steps.{eat_gives, eat_leaves, stands_falls}

-- each phrase of this sort takes a token
abbrev pub Falls : {A : Type 0} → Phrase A → Type 0
Falls {A} Item = (i j : Input) (x : A) → Item i x j → length j.left < length i.left

-- it is what the rule reads
abbrev pub Given : {A : Type 0} → Parser A → Phrase A → Type 0
Given {A} rule Item = (i j : Input) (x : A) → Item i x j → rule i ≡ Ok (x, j)

-- it is what the step reads, where a token begins it
abbrev pub GivenSome : {A : Type 0} → Parser (Option A) → (Option Kind → Bool) → Phrase A → Type 0
GivenSome {A} step begins Item = (i j : Input) (x : A) → begins (kind i) ≡ true → Item i x j → step i ≡ Ok (Some x, j)

-- and where none does, nothing is read
abbrev pub Stops : {A : Type 0} → Parser (Option A) → (Option Kind → Bool) → Type 0
Stops step begins = (i : Input) → begins (kind i) ≡ false → step i ≡ Ok (None, i)

-- one item and then the others
pub one_more : {A : Type 0} (found : List A) (x : A) (xs : List A) → (found ++ x ∷ []) ++ xs ≡ found ++ x ∷ xs
one_more found x xs = append_assoc found (x ∷ []) xs

-- a turn of a loop
pub repeat_more : {A : Type 0} (step : Parser (Option A)) (n : ℕ) (found : List A) (i j : Input) (x : A) → step i ≡ Ok (Some x, j) → repeat_from step (suc n) found i ≡ repeat_from step n (found ++ x ∷ []) j
unfolding repeat_from
repeat_more step n found i j x e = rw e refl

pub repeat_end : {A : Type 0} (step : Parser (Option A)) (n : ℕ) (found : List A) (i : Input) → step i ≡ Ok (None, i) → repeat_from step (suc n) found i ≡ Ok (found, i)
unfolding repeat_from
repeat_end step n found i e = rw e refl

module _ {A : Type 0} (Item : Phrase A) (falls : Falls Item) where
  module _ (goes_on : Option Kind → Bool) where
    pub many_falls : {i j : Input} {xs : List A} → Many Item goes_on i xs j → length j.left ≤ length i.left
    many_falls (Many.none i e) = omega arith
    many_falls (Many.more i j l x xs e d ds) = omega (arith, falls i j x d, many_falls ds)

    module _ (step : Parser (Option A)) (stops : Stops step goes_on) (given : GivenSome step goes_on Item) where
      -- recursion is on the turns
      repeats : (n : ℕ) {i j : Input} {xs : List A} → Many Item goes_on i xs j → length i.left < n → (found : List A) → repeat_from step n found i ≡ Ok (found ++ xs, j)
      unfolding repeat_from
      repeats zero d below found = absurd (omega arith)
      repeats (suc n) (Many.none i e) below found = rw (stops i e, append-nil) refl
      repeats (suc n) (Many.more i j l x xs e d ds) below found =
          let less : length j.left < n = omega (arith, falls i j x d) in
          rw (given i j x e d) (repeats n ds less (found ++ x ∷ []) ∙ ap (λ ys. Ok (ys, l)) (one_more found x xs))

      pub repeat_gives : {i j : Input} {xs : List A} → Many Item goes_on i xs j → repeat step i ≡ Ok (xs, j)
      unfolding repeat
      repeat_gives {i = i} d = repeats (turns i) d (omega arith) []

  module _ (ends : Option Kind → Bool) (separator : Kind) where
    mutual
      pub separated_falls : {i j : Input} {xs : List A} → Separated ends separator Item i xs j → length j.left ≤ length i.left
      separated_falls (Separated.none i e) = omega arith
      separated_falls (Separated.some i j xs e d) = omega (arith, some_falls d)

      pub some_falls : {i j : Input} {xs : List A} → SeparatedSome ends separator Item i xs j → length j.left < length i.left
      some_falls (SeparatedSome.last i j x d e) = falls i j x d
      some_falls (SeparatedSome.more i j l m x xs t d s ds) = omega (arith, falls i j x d, stands_falls s, separated_falls ds)

    module _ (item : Parser A) (given : Given item Item) where
      -- recursion is on the turns
      separates : (n : ℕ) {i j : Input} {xs : List A} → Separated ends separator Item i xs j → length i.left < n → (found : List A) → separated_from ends separator item n found i ≡ Ok (found ++ xs, j)
      unfolding separated_from
      separates zero d below found = absurd (omega arith)
      separates (suc n) (Separated.none i e) below found = rw (e, append-nil) refl
      separates (suc n) (Separated.some i j xs e (SeparatedSome.last _ _ x d stop)) below found = rw (e, given i j x d, eat_leaves separator j stop) refl
      separates (suc n) (Separated.some i m ys e (SeparatedSome.more _ j l _ x xs t d s ds)) below found =
          let less : length l.left < n = omega (arith, falls i j x d, stands_falls s) in
          rw (e, given i j x d, eat_gives separator s) (separates n ds less (found ++ x ∷ []) ∙ ap (λ zs. Ok (zs, m)) (one_more found x xs))

      pub separated_gives : {i j : Input} {xs : List A} → Separated ends separator Item i xs j → separated ends separator item i ≡ Ok (xs, j)
      unfolding separated
      separated_gives {i = i} d = separates (turns i) d (omega arith) []

      pub some_gives : {i j : Input} {xs : List A} → SeparatedSome ends separator Item i xs j → separated_some ends separator item i ≡ Ok (xs, j)
      unfolding separated_some
      some_gives (SeparatedSome.last i j x d stop) = rw (given i j x d, eat_leaves separator j stop) refl
      some_gives (SeparatedSome.more i j l m x xs t d s ds) = rw (given i j x d, eat_gives separator s) (separates (turns l) ds (omega arith) (x ∷ []))

module _ {A : Type 0} (Item : Phrase A) (falls : Falls Item) (begins : Option Kind → Bool) where
  pub maybe_falls : {i j : Input} {x : Option A} → Maybe Item begins i x j → length j.left ≤ length i.left
  maybe_falls (Maybe.left_out i e) = omega arith
  maybe_falls (Maybe.given i j x e d) = omega (arith, falls i j x d)

-- a phrase or nothing
pub maybe_gives : {A : Type 0} (Item : Phrase A) (begins : Option Kind → Bool) (step : Parser (Option A)) → Stops step begins → GivenSome step begins Item
    → {i j : Input} {x : Option A} → Maybe Item begins i x j → step i ≡ Ok (x, j)
maybe_gives Item begins step stops given (Maybe.left_out i e) = stops i e
maybe_gives Item begins step stops given (Maybe.given i j x e d) = given i j x e d
