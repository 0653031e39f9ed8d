-- What the reader of a template relies on, of what stands at a place.
use Rattle.std.specs.Prelude.{◌<◌, ◌≤◌, ℕ, List}
use Rattle.std.specs.Str.{IsCharBoundary}
use Rattle.epp_text.specs.declared.front.Front.{Front}

-- it is not empty, its text stands within it, and the template may be cut at each of its ends
pub record IsPart (z : List ℕ) (f : Front) : Type 0 where
  pub moves : 0 < f.len
  pub ordered : f.from ≤ f.to
  pub begin : IsCharBoundary z f.from
  pub end : IsCharBoundary z f.to
  pub boundary : IsCharBoundary z f.len
