-- The steps of an order that is listed: each resource begins, is listed and ends. What stands in a container begins
-- after it and ends before it, and what an edge leads to begins once the earlier resource has ended. So an edge between
-- two containers is one pair of steps, however much they contain.
use Rattle.std.specs.Prelude.{◌≡◌, ◌⊎◌, ℕ, ◌+◌, ◌*◌, ◌<◌, Bool, false, List, length, get_or, slice_index}
use Rattle.std.specs.Prelude.{slice_index_or}
use Rattle.std.specs.List.{Contains}
use Rattle.std.specs.declared.alloc.Global.{Global}
use Rattle.std.specs.declared.vec.Vec.{Vec}
use Rattle.rel_graph.specs.Chains.{Paired}
use Rattle.rel_graph.specs.Marks.{Marked}
use Rattle.rel_graph.specs.Releases.{targets, waiting}

abbrev pub begin_of : ℕ → ℕ
begin_of x = x * 3

abbrev pub listing_of : ℕ → ℕ
listing_of x = x * 3 + 1

abbrev pub end_of : ℕ → ℕ
end_of x = x * 3 + 2

-- some resource is listed by this step
abbrev pub IsListing : ℕ → Type 0
IsListing step = (x : ℕ) × (step ≡ listing_of x)

-- The arrows from a step to one that has to wait for it: these, and no others.
pub record AreArrows (containers edges : List (ℕ × ℕ)) (count : ℕ) (arrows : List (ℕ × ℕ)) : Type 0 where
  pub begun : (x : ℕ) → x < count → Paired arrows (begin_of x) (listing_of x)
  pub listed : (x : ℕ) → x < count → Paired arrows (listing_of x) (end_of x)
  pub down : (c m : ℕ) → Paired containers c m → Paired arrows (begin_of c) (begin_of m)
  pub up : (c m : ℕ) → Paired containers c m → Paired arrows (end_of m) (end_of c)
  pub across : (a b : ℕ) → Paired edges a b → Paired arrows (end_of a) (begin_of b)
  pub to_begin : (u x : ℕ) → Paired arrows u (begin_of x) →
      ((c : ℕ) × (u ≡ begin_of c) × Paired containers c x) ⊎ ((a : ℕ) × (u ≡ end_of a) × Paired edges a x)
  pub to_listing : (u x : ℕ) → Paired arrows u (listing_of x) → (u ≡ begin_of x) × (x < count)
  pub to_end : (u x : ℕ) → Paired arrows u (end_of x) →
      ((u ≡ listing_of x) × (x < count)) ⊎ ((m : ℕ) × (u ≡ end_of m) × Paired containers x m)

-- where the arrows from each step lead
abbrev pub AreTargets : List (ℕ × ℕ) → List (Vec ℕ Global) → Type 0
AreTargets arrows out = (u : ℕ) (d : Vec ℕ Global) → u < length out → (get_or out u d).items ≡ targets arrows u

-- a step waits for nothing and is not taken yet
abbrev pub Pending : List ℕ → List ℕ → ℕ → Type 0
Pending free ready v = Contains free v ⊎ Contains ready v

-- Each step that is not done counts the arrows to it from steps that are not done; what counts none is done or pending.
pub record AreCounted (arrows : List (ℕ × ℕ)) (steps : ℕ) (done : List Bool) (waits : List ℕ) (pending : ℕ → Type 0)
    : Type 0 where
  pub marks : length done ≡ steps
  pub counts : length waits ≡ steps
  pub counted : (v : ℕ) → v < steps → slice_index waits v ≡ waiting done arrows v
  pub none : (v : ℕ) → Marked done v → slice_index waits v ≡ 0
  pub sound : (v : ℕ) → pending v → (v < steps) × (slice_index waits v ≡ 0)
  pub all : (v : ℕ) → v < steps → slice_index waits v ≡ 0 → Marked done v ⊎ pending v

-- what is ready are resources to be listed, and none of them is
pub record AreReady (done : List Bool) (ready : List ℕ) : Type 0 where
  pub listings : (v : ℕ) → Contains ready v → IsListing v
  pub undone : (v : ℕ) → Contains ready v → slice_index_or done v false ≡ false

-- what is left is what was not listed
pub record AreLeft (count : ℕ) (done left : List Bool) : Type 0 where
  pub within : (x : ℕ) → Marked left x → x < count
  pub unlisted : (x : ℕ) → Marked left x → slice_index_or done (listing_of x) false ≡ false
  pub others : (x : ℕ) → x < count → Marked left x ⊎ Marked done (listing_of x)
