-- One step after another: for calls that hand an error on by `?`, and for loops over a list.
use Rattle.std.proofs.Common.{◌≡◌, List, [], ◌∷◌, ◌++◌, Option, None, Some, Result, Ok, Err, refl, sym, ap, subst, ◌∙◌}
use Rattle.pp_values.specs.Answers.{IsRefused, AnswersBy, and_then, in_turn}

-- what is meant here is a fault where it is one there
refused_again : {T U F : Type 0} (o : Option F) (m : Result T F) (n : Result U F) →
    IsRefused {T = T} o m → ((f : F) → m ≡ Err f → n ≡ Err f) → IsRefused {T = U} o n
refused_again None m n held again = tt
refused_again (Some f) m n held again = again f held

pub answers_again : {T U E F : Type 0} (told : E → Option F) (e : E) (m : Result T F) (n : Result U F) →
    AnswersBy {T = T} told (Err e) m → ((f : F) → m ≡ Err f → n ≡ Err f) → AnswersBy {T = U} told (Err e) n
answers_again told e m n held again = refused_again (told e) m n held again

-- an error of the first step is that of the whole
pub first_stops : {A B E F : Type 0} (told : E → Option F) (e : E) (m : Result A F) (next : A → Result B F) →
    AnswersBy {T = A} told (Err e) m → AnswersBy {T = B} told (Err e) (and_then m next)
first_stops told e m next held = answers_again told e m (and_then m next) held (λ f is. ap (λ r. and_then r next) is)

-- else the rest tells the whole
pub first_goes_on : {A B E F : Type 0} (told : E → Option F) (x : A) (m : Result A F) (next : A → Result B F)
    (r : Result B E) →
    m ≡ Ok x → AnswersBy told r (next x) → AnswersBy told r (and_then m next)
first_goes_on told x m next r is held = subst (λ n. AnswersBy told r (and_then n next)) (sym is) held

and_then-assoc : {A T F : Type 0} (step : A → T → Result A F) (r : Result A F) (xs ys : List T) →
    ((a : A) → in_turn step a (xs ++ ys) ≡ and_then (in_turn step a xs) (λ b. in_turn step b ys)) →
    and_then r (λ a. in_turn step a (xs ++ ys)) ≡ and_then (and_then r (λ a. in_turn step a xs)) (λ b. in_turn step b ys)
and_then-assoc step (Ok a) xs ys each = each a
and_then-assoc step (Err f) xs ys each = refl

pub in_turn-append : {A T F : Type 0} (step : A → T → Result A F) (a : A) (xs ys : List T) →
    in_turn step a (xs ++ ys) ≡ and_then (in_turn step a xs) (λ b. in_turn step b ys)
unfolding in_turn
in_turn-append step a [] ys = refl
in_turn-append step a (x ∷ xs) ys = and_then-assoc step (step a x) xs ys (λ b. in_turn-append step b xs ys)

-- a turn of no step, and of one
pub in_turn-none : {A T F : Type 0} (step : A → T → Result A F) (a : A) → in_turn step a [] ≡ Ok a
unfolding in_turn
in_turn-none step a = refl

pub in_turn-once : {A T F : Type 0} (step : A → T → Result A F) (a : A) (x : T) → in_turn step a (x ∷ []) ≡ step a x
unfolding in_turn
in_turn-once step a x = elim (step a x) as (λ r. and_then r (λ b. Ok b) ≡ r) [ Ok b ↦ refl | Err f ↦ refl ]

-- a loop over the items `all`, of which `xs` have had their turn: where they went well, the rest tells the whole
pub goes_on : {A T F : Type 0} (step : A → T → Result A F) (a b : A) (xs ys all : List T) (meant : Result A F) →
    all ≡ xs ++ ys → in_turn step a xs ≡ Ok b → in_turn step a all ≡ meant → in_turn step b ys ≡ meant
goes_on step a b xs ys all meant parts went held =
    sym (ap (in_turn step a) parts ∙ in_turn-append step a xs ys ∙ ap (λ r. and_then r (λ now. in_turn step now ys)) went)
    ∙ held

-- and an error in them is that of the whole
pub stops : {A T E F : Type 0} (told : E → Option F) (step : A → T → Result A F) (a : A) (xs ys all : List T)
    (meant : Result A F) (e : E) →
    all ≡ xs ++ ys → AnswersBy {T = A} told (Err e) (in_turn step a xs) → in_turn step a all ≡ meant →
    AnswersBy {T = A} told (Err e) meant
stops told step a xs ys all meant e parts went held =
    answers_again told e (in_turn step a xs) meant went
    (λ f is. sym held ∙ ap (in_turn step a) parts ∙ in_turn-append step a xs ys
    ∙ ap (λ r. and_then r (λ now. in_turn step now ys)) is)

-- what a call of one step answered
pub once : {A T E F : Type 0} (told : E → Option F) (step : A → T → Result A F) (a : A) (x : T) (r : Result A E) →
    AnswersBy told r (step a x) → AnswersBy told r (in_turn step a (x ∷ []))
once told step a x r held = subst (AnswersBy told r) (sym (in_turn-once step a x)) held
