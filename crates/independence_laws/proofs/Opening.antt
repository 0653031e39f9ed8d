-- The scopes of calls: where the body of a function, a template or a lambda is evaluated, in both worlds.
use Rattle.std.proofs.Common.{◌≡◌, ◌+◌, ℕ, false, List, [], ◌∷◌, length, Ok, refl, ap, sym, ◌∙◌}
use Rattle.res_core.specs.declared.log_line.LogLine.{LogLine}
use Rattle.scope_core.specs.Scopes as scopes
use Rattle.scope_core.specs.Scopes.{Scopes}
use Rattle.scope_core.specs.declared.scope_kind.ScopeKind.TheVariants as kind
use Rattle.eval_world.specs.Outcomes.{Step, ◌>>=◌}
use Rattle.eval_world.specs.Owners.{Owners, inline_file, inline_in, owner_at, owner_in, owner_of_file}
use Rattle.eval_world.specs.Worlds.{enter_function, enter_inline, enter_lambda, leave, left}
use Rattle.eval_world.specs.declared.here.Here.{Here}
use Rattle.eval_world.specs.declared.owner.Owner.{Owner}
use Rattle.eval_world.specs.declared.world.World.{World}
use Rattle.independence_laws.specs.Alike.{AreAlike, IsSameHere, IsSameOwner, OwnersGoOn}
use Rattle.independence_laws.specs.Steps.{Equal, IsAlike, Same, Two}
use Rattle.independence_laws.proofs.Going.{and_then_like}
use Rattle.independence_laws.proofs.OfWorld.{gives, with_same_scopes}
use Rattle.independence_laws.proofs.Owning.{owners_stay, same_owner_on, same_relations_on}
use Rattle.independence_laws.proofs.Telling.{IsFound, in_file, in_text}

-- what is evaluated where a step has led
pub in_scope : {B : Type 0} (two : Two) (enter : Here → Step Here) (body : Here → Step B) → IsAlike IsSameHere two enter
    → ((t : Two) → Same t body) → Same two (λ here. enter here >>= body)
in_scope two enter body entered same = and_then_like two IsSameHere Equal {p = enter} (λ here own. body own) entered
    (λ first second a b x y alike r s there.
    (same (record { left = a; right = b; first = x.owners; second = y.owners; same = there })).comes first second x y alike
    (owners_stay x.owners) (owners_stay y.owners))

-- two worlds in which a scope was entered, and an owner was found
module _ {first second : List LogLine} {v w : World} (alike : AreAlike first second v w) where
  entered_worlds : (parent other : ℕ) (o p : Owners) (n k : ℕ) (x y : Owner) → parent ≡ other
      → IsFound v.owners o n x → IsFound w.owners p k y → AreAlike first second
      (record v { scopes = scopes.entered kind.Lambda parent v.scopes; owners = o })
      (record w { scopes = scopes.entered kind.Lambda other w.scopes; owners = p })
  entered_worlds parent other o p n k x y same f g = record {
    environment = alike.environment;
    scopes = ap (λ m. scopes.entered kind.Lambda m v.scopes) same ∙ ap (λ s. scopes.entered kind.Lambda other s) alike.scopes;
    book = alike.book;
    overrides = alike.overrides;
    relations = same_relations_on v.owners w.owners o p v.relations w.relations f.goes g.goes alike.relations;
    rendered = alike.rendered;
    main = f.goes.main ∙ alike.main ∙ sym g.goes.main;
    told = (f.told, g.told);
    log = alike.log;
  }

  entered_here : (o p : Owners) (n k : ℕ) (x y : Owner) → x ≡ y → IsFound v.owners o n x → IsFound w.owners p k y
      → IsSameHere o p (record { scope = record { number = length v.scopes.scopes }; owner = n; typed = false })
      (record { scope = record { number = length w.scopes.scopes }; owner = k; typed = false })
  entered_here o p n k x y same f g = record {
    scope = ap (λ (s : Scopes). record { number = length s.scopes }) alike.scopes;
    typed = refl;
    owner = record { left = f.below; right = g.below; owner = f.owner ∙ same ∙ sym g.owner };
  }

module _ (two : Two) where
  pub function_entered : (file : List ℕ) → IsAlike IsSameHere two (λ here. enter_function file)
  unfolding enter_function
  function_entered file = record {
    comes = λ first second v w alike o p.
        let f = in_file v.owners alike.told.0 file in
        let g = in_file w.owners alike.told.1 file in
        record {
          value = entered_here alike (owner_in file v.owners).1 (owner_in file w.owners).1 (owner_in file v.owners).0
              (owner_in file w.owners).0 (owner_of_file file v.owners) (owner_of_file file w.owners)
              (ap (λ (m : Owner). record m { file = file }) alike.main) f g;
          worlds = entered_worlds alike 0 0 (owner_in file v.owners).1 (owner_in file w.owners).1
              (owner_in file v.owners).0 (owner_in file w.owners).0 (owner_of_file file v.owners)
              (owner_of_file file w.owners) refl f g;
          left = f.goes;
          right = g.goes;
        };
  }

  pub text_entered : IsAlike IsSameHere two (λ here. enter_inline here)
  unfolding enter_inline
  text_entered = record {
    comes = λ first second v w alike o p.
        let n = two.left.owner in
        let k = two.right.owner in
        let same = same_owner_on two.first two.second v.owners w.owners n k o p two.same.owner in
        let f = in_text v.owners alike.told.0 n same.left in
        let g = in_text w.owners alike.told.1 k same.right in
        let x = record (owner_at n v.owners) { file = inline_file } in
        let y = record (owner_at k w.owners) { file = inline_file } in
        record {
          value = entered_here alike (inline_in n v.owners).1 (inline_in k w.owners).1 (inline_in n v.owners).0
              (inline_in k w.owners).0 x y (ap (λ (m : Owner). record m { file = inline_file }) same.owner) f g;
          worlds = entered_worlds alike two.left.scope.number two.right.scope.number (inline_in n v.owners).1
              (inline_in k w.owners).1 (inline_in n v.owners).0 (inline_in k w.owners).0 x y
              (ap (λ s. s.number) two.same.scope) f g;
          left = f.goes;
          right = g.goes;
        };
  }

  pub lambda_entered : IsAlike IsSameHere two (λ here. enter_lambda here)
  unfolding enter_lambda
  lambda_entered = record {
    comes = λ first second v w alike o p.
        let n = two.left.owner in
        let k = two.right.owner in
        let same = same_owner_on two.first two.second v.owners w.owners n k o p two.same.owner in
        record {
          value = record {
            scope = ap (λ (s : Scopes). record { number = length s.scopes }) alike.scopes;
            typed = refl;
            owner = same;
          };
          worlds = with_same_scopes alike (scopes.entered kind.Lambda two.left.scope.number v.scopes)
              (scopes.entered kind.Lambda two.right.scope.number w.scopes)
              (ap (λ s. scopes.entered kind.Lambda s.number v.scopes) two.same.scope
              ∙ ap (λ s. scopes.entered kind.Lambda two.right.scope.number s) alike.scopes);
          left = owners_stay v.owners;
          right = owners_stay w.owners;
        };
  }

  pub left_same : Same two (λ own. leave own)
  left_same = record {
    comes = λ first second v w alike o p. gives tt first second v w (left two.left v) (left two.right w) refl refl
        (with_same_scopes alike (scopes.left two.left.scope.number v.scopes) (scopes.left two.right.scope.number w.scopes)
        (ap (λ s. scopes.left s.number v.scopes) two.same.scope
        ∙ ap (λ s. scopes.left two.right.scope.number s) alike.scopes));
  }
