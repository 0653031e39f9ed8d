-- The worlds that a compile comes to are sound.
use Rattle.std.proofs.Common.{◌≡◌, ◌≤◌, ℕ, zero, Bool, true, false, cond, List, [], ◌∷◌, ◌++◌, length, Option, None, Some, Ordering}
use Rattle.std.proofs.Common.{Ok, Err, refl, ap, sym, subst, ◌∙◌, arith}
use Rattle.std.specs.Ordering.{is_eq}
use Rattle.pp_values.specs.Datum.{Datum}
use Rattle.pp_values.specs.Rising.{text_cmp}
use Rattle.pp_values.specs.declared.place.TheConstants.{MAIN_MANIFEST}
use Rattle.scope_core.specs.Names.{Name}
use Rattle.class_eval.specs.Starting.{started}
use Rattle.eval_world.specs.Environment.{Environment}
use Rattle.eval_world.specs.Owners.{main_alone, main_owner, owner_at, owner_of_file}
use Rattle.eval_world.specs.declared.owner.Owner.{Owner}
use Rattle.eval_world.specs.declared.world.World.{World}
use Rattle.independence_laws.specs.Alike.{AreSameCollectors, AreTold}
use Rattle.independence_laws.specs.Computing.{IsSound}
use Rattle.independence_laws.proofs.Telling.{same_texts, tie}

main_found : (b : Bool) (file : List ℕ) (n : ℕ) → is_eq (text_cmp file MAIN_MANIFEST.now) ≡ b
    → cond b (Some 0) None ≡ Some n → (n ≤ 0) × (owner_at n main_alone ≡ owner_of_file file main_alone)
unfolding owner_at
main_found false file n e is = absurd cc
main_found true file n e is =
    subst (λ k. (k ≤ 0) × (owner_at k main_alone ≡ owner_of_file file main_alone)) (the_number is) (
      omega arith,
      ap (λ f. record main_owner { file = f }) (sym (same_texts file MAIN_MANIFEST.now (tie (text_cmp file MAIN_MANIFEST.now) e))),
    ) where
      the_number : Some 0 ≡ Some n → zero ≡ n
      the_number same = cc

told_alone : AreTold main_alone
told_alone = record {
  files = λ file n is. main_found (is_eq (text_cmp file MAIN_MANIFEST.now)) file n refl is;
  inlines = λ k n is. absurd cc;
}

pub started_sound : (m : Environment) (node : Name) (facts : Datum) → IsSound (started m node facts)
unfolding AreSameCollectors
started_sound m node facts = record {
  environment = refl;
  scopes = refl;
  book = refl;
  overrides = refl;
  relations = record { lines = refl; containments = refl; applied = refl; collectors = tt };
  rendered = refl;
  main = refl;
  told = (told_alone, told_alone);
  log = record { more = []; left = refl; right = refl };
}
