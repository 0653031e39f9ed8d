-- Lists, by induction on their turns: what was found so far is a front part, and what is found from here on stands here.
use Rattle.std.proofs.Common.{◌≡◌, ℕ, zero, suc, Bool, true, false, if◌then◌else◌, List, [], ◌∷◌, ◌++◌, Option, Some, None, sym, subst, append_assoc, append-nil}
use Rattle.pp_lexer.specs.declared.kind.Kind.{Kind}
use Rattle.pp_lexer.specs.Seen.{Token}
use Rattle.pp_grammar.proofs.Reader.Input.{Input, Parser, kind, pure, more_or_done, turns, repeat, repeat_from, separated, separated_from, separated_some}
use Rattle.pp_grammar.specs.Kinds.{is_kind}
use Rattle.pp_grammar.specs.Places.{Phrase, Stands, Many, Separated, SeparatedSome, Maybe}
use Rattle.pp_grammar.proofs.Sound.Steps.{Meets, Sound, bind, done, refused, either_at, weaker, Eaten, eat_sound}

-- what was found, and what stands from here on
pub data From {A : Type 0} (found : List A) (P : List A → Input → Type 0) : List A → Input → Type 0 where
  from : (xs : List A) (j : Input) → P xs j → From found P (found ++ xs) j

-- nothing was found before
pub from_nothing : {A : Type 0} {P : List A → Input → Type 0} (xs : List A) (j : Input) → From [] P xs j → P xs j
from_nothing xs j (from ys _ h) = h

-- the list ends here
pub at_end : {A : Type 0} {P : List A → Input → Type 0} (found : List A) (j : Input) → P [] j → From found P found j
at_end {A} {P} found j h = subst (λ (l : List A). From found P l j) (append-nil found) (from [] j h)

-- one more was found, and the rest stands behind it
pub one_more : {A : Type 0} {P R : List A → Input → Type 0} (found : List A) (x : A) → ((xs : List A) (j : Input) → R xs j → P (x ∷ xs) j)
    → (xs : List A) (j : Input) → From (found ++ x ∷ []) R xs j → From found P xs j
one_more {A} {P} {R} found x f xs j (from ys _ h) = subst (λ (l : List A). From found P l j) (sym (append_assoc found (x ∷ []) ys)) (from (x ∷ ys) j (f ys j h))

-- ---- a step again and again, until it gives nothing

repeat_from_sound : {A : Type 0} (Item : Phrase A) (goes_on : Option Kind → Bool) (step : Parser (Option A)) → Sound step (Maybe Item goes_on)
    → (n : ℕ) (found : List A) (i : Input) → Meets (repeat_from step n found i) (From found (Many Item goes_on i))
unfolding repeat_from
repeat_from_sound Item goes_on step s zero found i = refused
repeat_from_sound {A} Item goes_on step s (suc n) found i = bind (s i) (λ o j m. go o j m (λ x. repeat_from_sound Item goes_on step s n (found ++ x ∷ []) j))
  where
    go : (o : Option A) (j : Input) → Maybe Item goes_on i o j
        → ((x : A) → Meets (repeat_from step n (found ++ x ∷ []) j) (From (found ++ x ∷ []) (Many Item goes_on j)))
        → Meets (more_or_done found (repeat_from step n) o j) (From found (Many Item goes_on i))
    go None j (Maybe.left_out _ h) ih = done (at_end found i (Many.none i h))
    go (Some x) j (Maybe.given _ _ _ h p) ih = weaker (ih x) (one_more found x (λ xs l m. Many.more i j l x xs h p m))

pub repeat_sound : {A : Type 0} (Item : Phrase A) (goes_on : Option Kind → Bool) (step : Parser (Option A)) → Sound step (Maybe Item goes_on)
    → Sound (repeat step) (Many Item goes_on)
unfolding repeat
repeat_sound Item goes_on step s i = weaker (repeat_from_sound Item goes_on step s (turns i) [] i) from_nothing

-- ---- items with a separator between them

separated_from_sound : {A : Type 0} (ends : Option Kind → Bool) (separator : Kind) (Item : Phrase A) (item : Parser A) → Sound item Item
    → (n : ℕ) (found : List A) (i : Input) → Meets (separated_from ends separator item n found i) (From found (Separated ends separator Item i))
unfolding separated_from
separated_from_sound ends separator Item item s zero found i = refused
separated_from_sound {A} ends separator Item item s (suc n) found i =
    either_at _ _ (λ e. done (at_end found i (Separated.none i e)))
    (λ e. bind (s i) λ x j p. bind (eat_sound separator j) λ b l m. go e x j p b l m (separated_from_sound ends separator Item item s n (found ++ x ∷ []) l))
  where
    go : ends (kind i) ≡ false → (x : A) (j : Input) → Item i x j → (b : Bool) (l : Input) → Eaten separator j b l
        → Meets (separated_from ends separator item n (found ++ x ∷ []) l) (From (found ++ x ∷ []) (Separated ends separator Item l))
        → Meets ((if b then separated_from ends separator item n (found ++ x ∷ []) else pure (found ++ x ∷ [])) l) (From found (Separated ends separator Item i))
    go e x j p true l (Eaten.eaten _ _ t st) ih = weaker ih (one_more found x (λ xs m q. Separated.some i m (x ∷ xs) e (SeparatedSome.more i j l m x xs t p st q)))
    go e x j p false l (Eaten.other _ h) ih = done (from (x ∷ []) j (Separated.some i j (x ∷ []) e (SeparatedSome.last i j x p h)))

pub separated_sound : {A : Type 0} (ends : Option Kind → Bool) (separator : Kind) (Item : Phrase A) (item : Parser A) → Sound item Item
    → Sound (separated ends separator item) (Separated ends separator Item)
unfolding separated
separated_sound ends separator Item item s i = weaker (separated_from_sound ends separator Item item s (turns i) [] i) from_nothing

pub separated_some_sound : {A : Type 0} (ends : Option Kind → Bool) (separator : Kind) (Item : Phrase A) (item : Parser A) → Sound item Item
    → Sound (separated_some ends separator item) (SeparatedSome ends separator Item)
unfolding separated_some
separated_some_sound {A} ends separator Item item s i = bind (s i) λ x j p. bind (eat_sound separator j) λ b l m. go x j p b l m
  where
    some : (x : A) (j l : Input) (t : Token) → Item i x j → Stands (is_kind separator) j t l → (xs : List A) (m : Input)
        → From (x ∷ []) (Separated ends separator Item l) xs m → SeparatedSome ends separator Item i xs m
    some x j l t p st xs m (from ys _ q) = SeparatedSome.more i j l m x ys t p st q

    go : (x : A) (j : Input) → Item i x j → (b : Bool) (l : Input) → Eaten separator j b l
        → Meets ((if b then (λ h. separated_from ends separator item (turns h) (x ∷ []) h) else pure (x ∷ [])) l) (SeparatedSome ends separator Item i)
    go x j p true l (Eaten.eaten _ _ t st) = weaker (separated_from_sound ends separator Item item s (turns l) (x ∷ []) l) (some x j l t p st)
    go x j p false l (Eaten.other _ h) = done (SeparatedSome.last i j x p h)
