-- Resources of the tests.
use Rattle.std.specs.Prelude.{ℕ, List, [], codes}
use Rattle.res_core.specs.declared.held.Held.{Held}

-- a `notify`, which nothing contains
abbrev pub held_notify : List ℕ → Held
held_notify title = record {
  item = record { kind = codes "notify"; title = title; attributes = []; tags = [] };
  inside = [];
}
