-- Worlds that differ only in which numbers the owners of code have, and in the lines of the log before a moment.
use Rattle.std.specs.Prelude.{◌≡◌, ◌≤◌, ◌+◌, ℕ, List, [], ◌∷◌, ◌++◌, length, Some}
use Rattle.std.specs.BTreeMap.{is_at}
use Rattle.std.specs.Map.{lookup}
use Rattle.std.specs.Ordering.{nat_cmp}
use Rattle.pp_values.specs.Rising.{text_cmp}
use Rattle.res_book.specs.Relations.{Related}
use Rattle.res_book.specs.declared.collector.Collector.{Collector}
use Rattle.res_core.specs.declared.log_line.LogLine.{LogLine}
use Rattle.eval_world.specs.Owners.{Owners, inline_owner, owner_at, owner_of_file}
use Rattle.eval_world.specs.declared.here.Here.{Here}
use Rattle.eval_world.specs.declared.owner.Owner.{Owner}
use Rattle.eval_world.specs.declared.world.World.{World}

-- ---- owners

-- all owners keep their numbers, and what is new stands behind them
pub record OwnersGoOn (old new : Owners) : Type 0 where
  pub main : new.main ≡ old.main
  pub more : List Owner
  pub others : new.others ≡ old.others ++ more

-- What is found by a file, or by the code that renders a text, is the owner that was made for it.
pub record AreTold (o : Owners) : Type 0 where
  pub files : (file : List ℕ) (n : ℕ) → lookup (is_at (text_cmp file)) o.files ≡ Some n →
      (n ≤ length o.others) × (owner_at n o ≡ owner_of_file file o)
  pub inlines : (k n : ℕ) → lookup (is_at (nat_cmp k)) o.inlines ≡ Some n →
      (k ≤ length o.others) × (n ≤ length o.others) × (owner_at n o ≡ inline_owner k o)

-- two numbers of owners that say the same
pub record IsSameOwner (o p : Owners) (n k : ℕ) : Type 0 where
  pub left : n ≤ length o.others
  pub right : k ≤ length p.others
  pub owner : owner_at n o ≡ owner_at k p

-- two places of evaluation: the same scope, and owners that say the same
pub record IsSameHere (o p : Owners) (here there : Here) : Type 0 where
  pub scope : here.scope ≡ there.scope
  pub typed : here.typed ≡ there.typed
  pub owner : IsSameOwner o p here.owner there.owner

-- ---- collectors

-- what two collectors say is the same
pub record IsSameCollector (o p : Owners) (c d : Collector) : Type 0 where
  pub parts : d ≡ record c { owner = d.owner }
  pub owner : IsSameOwner o p c.owner d.owner

unfoldable pub AreSameCollectors : Owners → Owners → List Collector → List Collector → Type 0
AreSameCollectors o p [] [] = Unit {0}
AreSameCollectors o p [] (d ∷ ds) = ⊥
AreSameCollectors o p (c ∷ cs) [] = ⊥
AreSameCollectors o p (c ∷ cs) (d ∷ ds) = IsSameCollector o p c d × AreSameCollectors o p cs ds

pub record AreSameRelations (o p : Owners) (r s : Related) : Type 0 where
  pub lines : r.lines ≡ s.lines
  pub containments : r.containments ≡ s.containments
  pub applied : r.applied ≡ s.applied
  pub collectors : AreSameCollectors o p r.collectors s.collectors

-- ---- worlds

-- the same lines stand behind these two logs
pub record HaveSameLines (first second l k : List LogLine) : Type 0 where
  pub more : List LogLine
  pub left : l ≡ first ++ more
  pub right : k ≡ second ++ more

-- All is the same but for the numbers of owners, and for what stood in the log before.
pub record AreAlike (first second : List LogLine) (v w : World) : Type 0 where
  pub environment : v.environment ≡ w.environment
  pub scopes : v.scopes ≡ w.scopes
  pub book : v.book ≡ w.book
  pub overrides : v.overrides ≡ w.overrides
  pub relations : AreSameRelations v.owners w.owners v.relations w.relations
  pub rendered : v.rendered ≡ w.rendered
  pub main : v.owners.main ≡ w.owners.main
  pub told : AreTold v.owners × AreTold w.owners
  pub log : HaveSameLines first second v.log w.log
