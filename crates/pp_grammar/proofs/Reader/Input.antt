-- What the rules of this grammar are made of, as readers. A reader looks at the next token and at no other, and takes tokens from
-- the front, or says where it stops.
use Rattle.std.specs.Prelude.{ℕ, zero, suc, Bool, true, false, if◌then◌else◌, List, [], ◌∷◌, ◌++◌, length, Option, Ok, Err}
use Rattle.pp_lexer.specs.declared.kind.Kind.{Kind}
use Rattle.pp_lexer.specs.Seen.{Token}
use Rattle.pp_parser.specs.declared.refusal.Refusal.TheVariants as refusals
pub use Rattle.pp_parser.specs.Input.{Input, Outcome, Parser, and_then, ◌>>=◌, ◌>>◌, pure, ◌<$>◌, refusal, refuse, taken, turns, more_or_done}
unfoldable pub use Rattle.pp_parser.specs.Input.{take, repeat_from, repeat}
unfoldable pub use Rattle.pp_grammar.specs.Places.{kind_at, kind, line_at}
use Rattle.pp_grammar.specs.Kinds.{is_kind}

abbrev pub peek : Parser (Option Kind)
peek = λ i. Ok (kind i, i)

abbrev pub here : Parser ℕ
here = λ i. Ok (line_at i.left, i)

unfoldable pub sees : Kind → Input → Bool
sees k i = is_kind k (kind i)

-- a token of this kind
unfoldable pub expect : Kind → Parser Token
expect k = λ i. if sees k i then take i else refuse i

-- a token of one of several kinds
unfoldable pub expect_any : (Option Kind → Bool) → Parser Token
expect_any fits = λ i. if fits (kind i) then take i else refuse i

-- whether a token of this kind came next, which is taken then
unfoldable pub eat : Kind → Parser Bool
eat k = λ i. if sees k i then and_then (take i) (λ _. pure true) else Ok (false, i)

-- ---- levels

-- A token that opens a level, one further in than all that are open.
unfoldable pub open_level : Bool → Kind → Parser Token
open_level is_deepest k = λ i. if sees k i then (if is_deepest then Err (refusals.Deep (length i.left)) else take i) else refuse i

-- ---- lists

-- items with a separator between them and at most one at the end; the list ends where `ends` says so of the next token
unfoldable pub separated_from : {A : Type 0} → (Option Kind → Bool) → Kind → Parser A → ℕ → List A → Parser (List A)
separated_from ends separator item zero found = refuse
separated_from ends separator item (suc n) found = do
  next ← peek
  if ends next then pure found else (do
    x ← item
    more ← eat separator
    if more then separated_from ends separator item n (found ++ x ∷ []) else pure (found ++ x ∷ []))

-- none or more
unfoldable pub separated : {A : Type 0} → (Option Kind → Bool) → Kind → Parser A → Parser (List A)
separated ends separator item = λ i. separated_from ends separator item (turns i) [] i

-- one or more
unfoldable pub separated_some : {A : Type 0} → (Option Kind → Bool) → Kind → Parser A → Parser (List A)
separated_some ends separator item = do
  x ← item
  more ← eat separator
  if more then (λ i. separated_from ends separator item (turns i) (x ∷ []) i) else pure (x ∷ [])
