-- How steps that come to the same are made of others.
use Rattle.std.proofs.Common.{◌≡◌, ℕ, Bool, true, false, List, Result, Ok, Err, refl, ap, sym, subst, ◌∙◌}
use Rattle.std.specs.Prelude.{if◌then◌else◌}
use Rattle.pp_values.specs.declared.fault.Fault.{Fault}
use Rattle.pp_values.specs.declared.place.Place.{Place}
use Rattle.res_core.specs.declared.log_line.LogLine.{LogLine}
use Rattle.eval_world.specs.Outcomes.{Outcome, Step, go_on, ◌>>=◌, ◌>>◌, pure, answered}
use Rattle.eval_world.specs.Owners.{Owners, owner_at}
use Rattle.eval_world.specs.Worlds.{place_at}
use Rattle.eval_world.specs.declared.here.Here.{Here}
use Rattle.eval_world.specs.declared.owner.Owner.{Owner}
use Rattle.eval_world.specs.declared.world.World.{World}
use Rattle.independence_laws.specs.Alike.{AreAlike, IsSameOwner, OwnersGoOn}
use Rattle.independence_laws.specs.Steps.{Come, Comes, Equal, IsAlike, Likeness, Same, Two}
use Rattle.independence_laws.proofs.Owning.{owners_on, owners_stay, same_owner_on}

-- ---- outcomes

-- what comes to the same from later worlds, whose owners have kept their numbers
pub comes_from : {A : Type 0} (like : Likeness A) (first second : List LogLine) (v w x y : World) (p q : Outcome A)
    → OwnersGoOn v.owners x.owners → OwnersGoOn w.owners y.owners → Comes like first second x y p q
    → Comes like first second v w p q
comes_from like first second v w x y (Ok p) (Ok q) f g come = record {
  value = come.value;
  worlds = come.worlds;
  left = owners_on f come.left;
  right = owners_on g come.right;
}
comes_from like first second v w x y (Ok p) (Err h) f g come = come
comes_from like first second v w x y (Err h) (Ok q) f g come = come
comes_from like first second v w x y (Err h) (Err i) f g come = come

module _ {A : Type 0} (two : Two) where
  -- ---- steps that change nothing

  pub pure_like : (like : Likeness A) (a b : A) (first second : List LogLine) (v w : World) → AreAlike first second v w
      → like v.owners w.owners a b → Comes like first second v w (Ok (a, v)) (Ok (b, w))
  pure_like like a b first second v w alike same = record {
    value = same;
    worlds = alike;
    left = owners_stay v.owners;
    right = owners_stay w.owners;
  }

  pub pure_same : {a : A} → Same two (λ here. pure a)
  pure_same {a = a} = record {
    comes = λ first second v w alike f g. pure_like Equal a a first second v w alike refl;
  }

  answers : (r : Result A Fault) (first second : List LogLine) (v w : World) → AreAlike first second v w
      → Comes Equal first second v w (answered r v) (answered r w)
  answers (Ok a) first second v w alike = pure_like Equal a a first second v w alike refl
  answers (Err e) first second v w alike = refl

  pub answer_same : (r : Result A Fault) → Same two (λ here. answered r)
  answer_same r = record { comes = λ first second v w alike f g. answers r first second v w alike }

  -- ---- what is told by the world

  pub told : {X : Type 0} (say : Here → World → X) (next : Here → X → Step A)
      → ((first second : List LogLine) (v w : World) → AreAlike first second v w → OwnersGoOn two.first v.owners
      → OwnersGoOn two.second w.owners → say two.left v ≡ say two.right w)
      → ((x : X) → Same two (λ here. next here x)) → Same two (λ here w. next here (say here w) w)
  told say next same rest = record {
    comes = λ first second v w alike f g.
        subst (λ x. Comes Equal first second v w (next two.left (say two.left v) v) (next two.right x w))
        (same first second v w alike f g) ((rest (say two.left v)).comes first second v w alike f g);
  }

  pub fault_same : (say : Here → World → Fault)
      → ((first second : List LogLine) (v w : World) → AreAlike first second v w → OwnersGoOn two.first v.owners
      → OwnersGoOn two.second w.owners → say two.left v ≡ say two.right w)
      → Same {A = A} two (λ here w. Err (say here w))
  fault_same say same = record { comes = λ first second v w alike f g. same first second v w alike f g }

  -- ---- a choice

  pub either : (b : Bool) {p q : Here → Step A} → Same two p → Same two q
      → Same two (λ here. if b then p here else q here)
  either true f g = f
  either false f g = g

-- one outcome after another, whatever the steps are
pub bind_like : {A B : Type 0} (like : Likeness A) (like_next : Likeness B) (next other : A → Step B)
    (first second : List LogLine) (v w : World) (o q : Outcome A) → Comes like first second v w o q
    → ((a b : A) (x y : World) → AreAlike first second x y → OwnersGoOn v.owners x.owners → OwnersGoOn w.owners y.owners
    → like x.owners y.owners a b → Comes like_next first second x y (next a x) (other b y))
    → Comes like_next first second v w (go_on o next) (go_on q other)
bind_like like like_next next other first second v w (Ok p) (Ok q) come rest =
    comes_from like_next first second v w p.1 q.1 (next p.0 p.1) (other q.0 q.1) come.left come.right
    (rest p.0 q.0 p.1 q.1 come.worlds come.left come.right come.value)
bind_like like like_next next other first second v w (Ok p) (Err h) come rest = absurd come
bind_like like like_next next other first second v w (Err h) (Ok q) come rest = absurd come
bind_like like like_next next other first second v w (Err h) (Err i) come rest = come

module _ {A B : Type 0} (two : Two) where
  -- one step, and then the next one with what it gave
  pub and_then_like : (like : Likeness A) (like_next : Likeness B) {p : Here → Step A} (next : Here → A → Step B)
      → IsAlike like two p
      → ((first second : List LogLine) (a b : A) (x y : World) → AreAlike first second x y
      → OwnersGoOn two.first x.owners → OwnersGoOn two.second y.owners → like x.owners y.owners a b
      → Comes like_next first second x y (next two.left a x) (next two.right b y))
      → IsAlike like_next two (λ here. p here >>= next here)
  and_then_like like like_next {p = p} next f rest = record {
    comes = λ first second v w alike o q.
        bind_like like like_next (next two.left) (next two.right) first second v w (p two.left v) (p two.right w)
        (f.comes first second v w alike o q)
        (λ a b x y there r s same. rest first second a b x y there (owners_on o r) (owners_on q s) same);
  }

  -- the same where the first one gives what is equal
  pub and_then_to : (like_next : Likeness B) {p : Here → Step A} {next : Here → A → Step B} → Same two p
      → ((a : A) → IsAlike like_next two (λ here. next here a)) → IsAlike like_next two (λ here. p here >>= next here)
  and_then_to like_next {p = p} {next = next} f rest = and_then_like Equal like_next {p = p} next f
      (λ first second a b x y alike r s same.
      subst (λ c. Comes like_next first second x y (next two.left a x) (next two.right c y)) same
      ((rest a).comes first second x y alike r s))

  pub and_then : {p : Here → Step A} {next : Here → A → Step B} → Same two p
      → ((a : A) → Same two (λ here. next here a)) → Same two (λ here. p here >>= next here)
  and_then {p = p} {next = next} f rest = and_then_to Equal {p = p} {next = next} f rest

-- ---- what is known of the world and of the place

abbrev said : ℕ → Owner → Place
said line o = record { file = o.file; line = line }

module _ (two : Two) (first second : List LogLine) (v w : World) (alike : AreAlike first second v w)
    (f : OwnersGoOn two.first v.owners) (g : OwnersGoOn two.second w.owners) where
  pub owner_same : owner_at two.left.owner v.owners ≡ owner_at two.right.owner w.owners
  owner_same =
      (same_owner_on two.first two.second v.owners w.owners two.left.owner two.right.owner f g two.same.owner).owner

  pub place_same : (line : ℕ) → place_at v two.left line ≡ place_at w two.right line
  place_same line = ap (λ (o : Owner). said line o) owner_same
