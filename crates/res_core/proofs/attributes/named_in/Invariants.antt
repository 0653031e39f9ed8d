-- The name is found in what is left, if anywhere.
use Rattle.std.proofs.Common.{◌≡◌, IsTrue, length, find}
use Rattle.std.specs.Str.{bytes_eq}
use Rattle.pp_values.specs.Rising.{is_rising}
use Rattle.pp_values.specs.Settings.{setting_names}
use Rattle.res_core.specs.AttributeViews.{settings}
use Rattle.res_core.proofs.attributes.named_in.Given as goal

abbrev pub invariant-loop-attribute : goal.invariant-loop-attribute
invariant-loop-attribute l = record {
  rising : IsTrue (is_rising (setting_names (settings l.left)));
  found : find (λ a. bytes_eq a.name l.name) l.left ≡ find (λ a. bytes_eq a.name l.name) l.attributes;
}

abbrev pub decreases-loop-attribute : goal.decreases-loop-attribute
decreases-loop-attribute l = length l.left
