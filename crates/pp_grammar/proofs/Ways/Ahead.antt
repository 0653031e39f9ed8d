-- What it is that some text goes on where a text is refused. A reader of files is one for each number of levels.
use Rattle.std.specs.Prelude.{◌≡◌, ℕ, ◌≤◌, List, [], ◌++◌, length, Ok}
use Rattle.pp_lexer.specs.Seen.{Token}
use Rattle.pp_grammar.proofs.Reader.Input.{Input, Parser}
use Rattle.pp_grammar.proofs.Reader.Manifest.{start}

-- A text is refused at the token from which so many are left, or at its end. The tokens before that begin a text that is read
-- to its end, with so many levels or more.
pub record GoesOn {A : Type 0} (p : ℕ → Parser A) (levels : ℕ) (ts : List Token) (k : ℕ) : Type 0 where
  pub before : List Token
  pub behind : List Token
  pub is : ts ≡ before ++ behind
  pub count : length behind ≡ k
  pub way : List Token
  pub enough : ℕ
  pub found : A
  pub end : Input
  pub reads : (more : ℕ) → enough ≤ more → p more (start (before ++ way)) ≡ Ok (found, end)
  pub to_its_end : end.left ≡ []
