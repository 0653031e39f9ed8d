-- What it is that a reader of files looks at the next token alone. It is a reader for each number of levels.
use Rattle.std.specs.Prelude.{◌≡◌, ◌≢◌, ℕ, ◌≤◌, ◌<◌, List, ◌++◌, length, Ok, Err}
use Rattle.pp_lexer.specs.Seen.{Token}
use Rattle.pp_parser.specs.declared.refusal.Refusal.TheVariants as refusals
use Rattle.pp_grammar.proofs.Reader.Input.{Input, Outcome, Parser}
use Rattle.pp_grammar.proofs.Reader.Manifest.{start}
use Rattle.pp_grammar.specs.Laws.{SameHead}

-- it goes on past a place
abbrev pub Past : {A : Type 0} → ℕ → Outcome A → Type 0
Past k (Ok p) = length p.1.left < k
Past k (Err (refusals.Wrong n)) = n < k
Past k (Err (refusals.Deep n)) = n < k
Past k (Err refusals.Memory) = ⊥

-- A text is refused at the token from which so many are left, or at its end: so is each text that goes on with that token, or
-- ends there, whatever follows and however many levels there may be.
pub record RefusedAt {A : Type 0} (p : ℕ → Parser A) (levels : ℕ) (ts : List Token) (k : ℕ) : Type 0 where
  pub before : List Token
  pub behind : List Token
  pub is : ts ≡ before ++ behind
  pub count : length behind ≡ k
  pub stays : (other : List Token) (more : ℕ) → SameHead behind other → levels ≤ more → p more (start (before ++ other)) ≡ Err (refusals.Wrong (length other))
  pub never_read : (other : List Token) (any : ℕ) (x : A) (j : Input) → SameHead behind other → p any (start (before ++ other)) ≢ Ok (x, j)

-- At that token the last level is used up: so it is in each text that goes on with it, and with more levels each is read on past it.
pub record DeepAt {A : Type 0} (p : ℕ → Parser A) (levels : ℕ) (ts : List Token) (k : ℕ) : Type 0 where
  pub before : List Token
  pub behind : List Token
  pub is : ts ≡ before ++ behind
  pub count : length behind ≡ k
  pub stays : (other : List Token) → SameHead behind other → p levels (start (before ++ other)) ≡ Err (refusals.Deep (length other))
  pub goes_on : (other : List Token) (more : ℕ) → SameHead behind other → levels < more → Past (length other) (p more (start (before ++ other)))

pub record LooksAtNext {A : Type 0} (p : ℕ → Parser A) : Type 0 where
  pub refused : (levels : ℕ) (ts : List Token) (k : ℕ) → p levels (start ts) ≡ Err (refusals.Wrong k) → RefusedAt p levels ts k
  pub deep : (levels : ℕ) (ts : List Token) (k : ℕ) → p levels (start ts) ≡ Err (refusals.Deep k) → DeepAt p levels ts k
  -- more levels change nothing of what is read
  pub read : (levels more : ℕ) (ts : List Token) (x : A) (j : Input) → levels ≤ more → p levels (start ts) ≡ Ok (x, j) → p more (start ts) ≡ Ok (x, j)
  pub memory : (levels : ℕ) (ts : List Token) → p levels (start ts) ≢ Err refusals.Memory
