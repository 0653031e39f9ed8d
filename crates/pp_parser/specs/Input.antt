-- What a rule of the grammar reads from, and the steps that every rule is made of. A rule looks at the next token and
-- at no other, and takes tokens from the front, or says where it stops.
use Rattle.std.specs.Prelude.{◌≡◌, ◌≢◌, ℕ, zero, suc, ◌+◌, Bool, true, false, if◌then◌else◌, List, [], ◌∷◌, ◌++◌}
use Rattle.std.specs.Prelude.{length, Option, Some, None, Result, Ok, Err, refl}
use Rattle.pp_lexer.specs.declared.kind.Kind.{Kind}
use Rattle.std.specs.Coded.{Coded, code_by, coded×, coded_ℕ, coded_list, coded_option}
use Rattle.pp_lexer.specs.contracts.kind.Kind as kinds
use Rattle.pp_lexer.specs.Seen.{Token, token_code}
use Rattle.pp_parser.specs.declared.refusal.Refusal.{Refusal}
use Rattle.pp_parser.specs.declared.refusal.Refusal.TheVariants as refusals
use Rattle.pp_parser.specs.Kinds.{is_kind}

pub record Input : Type 0 where
  -- the tokens that are left
  pub left : List Token
  -- the line of the first key that stands a second time in its hash literal, among the literals that were read
  pub doubled : Option ℕ

-- how a proof tells inputs apart
abbrev pub input_code : Coded Input
input_code =
    code_by (List Token × Option ℕ) (coded× (coded_list (token_code kinds.the_row.coded)) (coded_option coded_ℕ))
    (λ i. (i.left, i.doubled)) (λ p. record { left = p.0; doubled = p.1 }) (λ _. refl)

abbrev pub Outcome : Type 0 → Type 0
Outcome A = Result (A × Input) Refusal

abbrev pub Parser : Type 0 → Type 0
Parser A = Input → Outcome A

abbrev pub and_then : {A B : Type 0} → Outcome A → (A → Parser B) → Outcome B
and_then (Ok p) f = f p.0 p.1
and_then (Err e) f = Err e

infixl 10 ◌>>=◌
abbrev pub ◌>>=◌ : {A B : Type 0} → Parser A → (A → Parser B) → Parser B
p >>= f = λ i. and_then (p i) f

infixl 10 ◌>>◌
abbrev pub ◌>>◌ : {A B : Type 0} → Parser A → Parser B → Parser B
p >> q = p >>= (λ _. q)

abbrev pub pure : {A : Type 0} → A → Parser A
pure a = λ i. Ok (a, i)

infixr 11 ◌<$>◌
abbrev pub ◌<$>◌ : {A B : Type 0} → (A → B) → Parser A → Parser B
f <$> p = p >>= (λ x. pure (f x))

-- ---- the next token

unfoldable pub kind_at : List Token → Option Kind
kind_at [] = None
kind_at (t ∷ ts) = Some t.kind

unfoldable pub kind : Input → Option Kind
kind i = kind_at i.left

-- its line, or 0 at the end of the file
unfoldable pub line_at : List Token → ℕ
line_at [] = 0
line_at (t ∷ ts) = t.line

abbrev pub peek : Parser (Option Kind)
peek = λ i. Ok (kind i, i)

abbrev pub here : Parser ℕ
here = λ i. Ok (line_at i.left, i)

-- the next token fits no rule, or there is none: where a text stops is told by how many tokens are left
abbrev pub refusal : Input → Refusal
refusal i = refusals.Wrong (length i.left)

abbrev pub refuse : {A : Type 0} → Parser A
refuse = λ i. Err (refusal i)

abbrev pub taken : List Token → Option ℕ → Outcome Token
taken [] doubled = Err (refusals.Wrong 0)
taken (t ∷ ts) doubled = Ok (t, record { left = ts; doubled = doubled })

-- the next token, whatever its kind
unfoldable pub take : Parser Token
take = λ i. taken i.left i.doubled

unfoldable pub sees : Kind → Input → Bool
sees k i = is_kind k (kind i)

-- a token of this kind
unfoldable pub expect : Kind → Parser Token
expect k = λ i. if sees k i then take i else refuse i

-- a token of one of several kinds
unfoldable pub expect_any : (Option Kind → Bool) → Parser Token
expect_any fits = λ i. if fits (kind i) then take i else refuse i

-- whether a token of this kind came next, which is taken then
unfoldable pub eat : Kind → Parser Bool
eat k = λ i. if sees k i then and_then (take i) (λ _. pure true) else Ok (false, i)

-- ---- levels

-- A token that opens a level, one further in than all that are open.
unfoldable pub open_level : Bool → Kind → Parser Token
open_level is_deepest k = λ i. if sees k i then (if is_deepest then Err (refusals.Deep (length i.left)) else take i)
    else refuse i

-- ---- lists. Each turn takes a token, so that as many turns as there are tokens are enough, and one to see the end.

abbrev pub turns : Input → ℕ
turns i = length i.left + 1

abbrev pub more_or_done : {A : Type 0} → List A → (List A → Parser (List A)) → Option A → Parser (List A)
more_or_done found go (Some x) = go (found ++ x ∷ [])
more_or_done found go None = pure found

unfoldable pub repeat_from : {A : Type 0} → Parser (Option A) → ℕ → List A → Parser (List A)
repeat_from step zero found = refuse
repeat_from step (suc n) found = step >>= more_or_done found (repeat_from step n)

-- what a step gives, again and again, until it gives nothing
unfoldable pub repeat : {A : Type 0} → Parser (Option A) → Parser (List A)
repeat step = λ i. repeat_from step (turns i) [] i

-- items with a separator between them and at most one at the end; the list ends where `ends` says so of the next token
unfoldable pub separated_from : {A : Type 0} → (Option Kind → Bool) → Kind → Parser A → ℕ → List A → Parser (List A)
separated_from ends separator item zero found = refuse
separated_from ends separator item (suc n) found = do
  next ← peek
  if ends next then pure found else (do
    x ← item
    more ← eat separator
    if more then separated_from ends separator item n (found ++ x ∷ []) else pure (found ++ x ∷ []))

-- none or more
unfoldable pub separated : {A : Type 0} → (Option Kind → Bool) → Kind → Parser A → Parser (List A)
separated ends separator item = λ i. separated_from ends separator item (turns i) [] i

-- one or more
unfoldable pub separated_some : {A : Type 0} → (Option Kind → Bool) → Kind → Parser A → Parser (List A)
separated_some ends separator item = do
  x ← item
  more ← eat separator
  if more then (λ i. separated_from ends separator item (turns i) (x ∷ []) i) else pure (x ∷ [])

-- ---- what a call of the program answers

-- The outcome exactly, unless memory ran out.
abbrev pub Reads : {A : Type 0} → Outcome A → Result A Refusal → Input → Type 0
Reads outcome (Ok a) new = outcome ≡ Ok (a, new)
Reads outcome (Err e) new = e ≢ refusals.Memory → outcome ≡ Err e

-- the same of a call that answers a token of the file
abbrev pub Takes : Outcome Token → Result Token Refusal → Input → Type 0
Takes outcome (Ok t) new = outcome ≡ Ok (t, new)
Takes outcome (Err e) new = outcome ≡ Err e
