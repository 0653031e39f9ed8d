-- What reads whole texts exactly as they stand, and what is known of it.
use Rattle.std.proofs.Common.{◌≡◌, ℕ, Bool, false, List, Option, Ok, Err}
use Rattle.pp_lexer.specs.Seen.{Token}
use Rattle.pp_parser.specs.declared.refusal.Refusal.TheVariants as refusals
use Rattle.pp_grammar.proofs.Reader.Input.{Input, Parser}
use Rattle.pp_grammar.proofs.Reader.Inner.{Inner}
use Rattle.pp_grammar.proofs.Reader.Levels.{within_to, within}
use Rattle.pp_grammar.proofs.Reader.Manifest.{start}
use Rattle.pp_grammar.specs.Laws.{the_end, Limit, Whole}
use Rattle.pp_grammar.proofs.Local.Ahead.{LooksAtNext}
use Rattle.pp_grammar.proofs.Local.Steps.{IsLocal, any}
use Rattle.pp_grammar.proofs.Local.Inner.{InnerLocal}
use Rattle.pp_grammar.proofs.Local.Limits.{twice}
use Rattle.pp_grammar.proofs.Ways.Ahead as ahead

-- the readers one level further in
abbrev pub inner_of : Limit → Inner
inner_of l = within_to l.behind l.levels l.further

-- the reader within a limit
abbrev pub reading : {A : Type 0} → (Inner → Parser A) → Limit → Parser A
reading p l = p (inner_of l)

pub record IsReader {A : Type 0} (W : Whole A) (p : Inner → Parser A) : Type 0 where
  -- what is read, stands there, and the other way round
  pub stands : (l : Limit) (ts : List Token) (found : A) (j : Input) → reading p l (start ts) ≡ Ok (found, j) → W l ts found j.doubled
  pub read : (l : Limit) (ts : List Token) (found : A) (key : Option ℕ) → W l ts found key → reading p l (start ts) ≡ Ok (found, the_end key)
  -- it looks at the next token alone, also where more levels may be opened
  pub looks : LooksAtNext (λ n. p (within n))
  pub follows : (deeper : ℕ → Bool) (a b : Inner) → InnerLocal (twice deeper) a b → IsLocal (twice deeper) false any (p a) (p b)
  -- before a refused token some text goes on
  pub ways : (n : ℕ) (ts : List Token) (k : ℕ) → p (within n) (start ts) ≡ Err (refusals.Wrong k) → ahead.GoesOn (λ m. p (within m)) n ts k
