-- A call that only computes leaves a world that is alike.
use Rattle.std.proofs.Common.{◌≡◌, ◌-◌, ◌+◌, ℕ, zero, suc, Bool, true, false, cond, ◌&&◌, ◌==◌, List, [], ◌∷◌, ◌++◌, length, take}
use Rattle.std.proofs.Common.{Option, None, Some, refl, ap, sym, subst, ◌∙◌, slice_get, slice_set, arith}
use Rattle.std.proofs.Math.Bool.{and-true}
use Rattle.std.proofs.lemmas.List.{append-nil}
use Rattle.std.specs.Cmp.Lexicographic.{bytes_decides}
use Rattle.res_book.specs.Relations.{Related}
use Rattle.scope_core.specs.Scopes as scopes
use Rattle.scope_core.specs.Scopes.{Scope, Scopes, ended, is_last_ended, scope_of, scopes_after, without_ended}
use Rattle.scope_core.specs.declared.owner.Owner.{Owner}
use Rattle.scope_core.specs.declared.owner.Owner.TheVariants as owner
use Rattle.eval_world.specs.declared.world.World.{World}
use Rattle.independence_laws.specs.Alike.{AreAlike, AreSameRelations, OwnersGoOn}
use Rattle.independence_laws.specs.Computing.{Computes, IsSound, behind}
use Rattle.independence_laws.proofs.Owning.{owners_stay, same_relations_on}

-- ---- the last scope goes

at_end : (ss : List Scope) (x : Scope) → slice_get (ss ++ x ∷ []) (length ss) ≡ Some x
at_end [] x = refl
at_end (s ∷ ss) x = at_end ss x

set_at_end : (ss : List Scope) (x y : Scope) → slice_set (ss ++ x ∷ []) (length ss) y ≡ ss ++ y ∷ []
set_at_end [] x y = refl
set_at_end (s ∷ ss) x y = ap (λ r. s ∷ r) (set_at_end ss x y)

one_longer : (ss : List Scope) (x : Scope) → length (ss ++ x ∷ []) ≡ suc (length ss)
one_longer [] x = refl
one_longer (s ∷ ss) x = ap suc (one_longer ss x)

front : (ss : List Scope) (x : Scope) → take (length ss) (ss ++ x ∷ []) ≡ ss
front [] x = refl
front (s ∷ ss) x = ap (λ r. s ∷ r) (front ss x)

abbrev over : Scope
over = scope_of owner.Ended 0

ended_lambda : (o : Owner) (x : Scope) → o ≡ owner.Lambda → ended o x ≡ over
ended_lambda o x is = subst (λ q. ended q x ≡ over) (sym is) refl

same_number : (n : ℕ) → (n == n) ≡ true
same_number n = sym (and-true (n == n)) ∙ (bytes_decides (n ∷ []) (n ∷ [])).1 refl

is_last : (ss : List Scope) → is_last_ended (length ss) (ss ++ over ∷ []) ≡ true
is_last ss =
    let long = one_longer ss over in
    let n : length (ss ++ over ∷ []) - 1 ≡ length ss = omega (arith, long) in
    rw (at_end ss over, n) (same_number (length ss))

goes : (ss : List Scope) → without_ended (length ss) (ss ++ over ∷ []) ≡ ss
goes ss = ap (λ b. cond b (take (length ss) (ss ++ over ∷ [])) (ss ++ over ∷ [])) (is_last ss) ∙ front ss over

left_list : (ss : List Scope) (x : Scope) → x.owner ≡ owner.Lambda
    → without_ended (length ss) (scopes_after (length ss) (slice_get (ss ++ x ∷ []) (length ss)) (ss ++ x ∷ [])) ≡ ss
left_list ss x is =
    ap (λ o. without_ended (length ss) (scopes_after (length ss) o (ss ++ x ∷ []))) (at_end ss x)
    ∙ ap (λ y. without_ended (length ss) (slice_set (ss ++ x ∷ []) (length ss) y)) (ended_lambda x.owner x is)
    ∙ ap (λ l. without_ended (length ss) l) (set_at_end ss x over) ∙ goes ss

abbrev said : List Scope → ℕ → List (List ℕ × ℕ) → Scopes
said l n c = record { scopes = l; node = n; classes = c }

-- all scopes are those that were there
scopes_again : (s t : Scopes) (x : Scope) → x.owner ≡ owner.Lambda → t.scopes ≡ s.scopes ++ x ∷ [] → t.node ≡ s.node
    → t.classes ≡ s.classes → s ≡ scopes.left (length s.scopes) t
scopes_again s t x is all node classes = sym (
    ap (λ l. said l t.node t.classes) (ap (λ l. without_ended (length s.scopes)
    (scopes_after (length s.scopes) (slice_get l (length s.scopes)) l)) all ∙ left_list s.scopes x is)
    ∙ ap (λ n. said s.scopes n t.classes) node ∙ ap (λ c. said s.scopes s.node c) classes)

-- ---- the world

pub leaves_alike : (w u : World) → IsSound w → Computes w u → AreAlike w.log u.log w (behind w u)
leaves_alike w u sound is = record {
  environment = sym is.environment;
  scopes = scopes_again w.scopes u.scopes is.own is.lambda is.scopes is.node is.classes;
  book = sym is.book;
  overrides = sym is.overrides;
  relations = subst (λ (r : Related). AreSameRelations w.owners u.owners w.relations r) (sym is.relations)
      (same_relations_on w.owners w.owners w.owners u.owners w.relations w.relations (owners_stay w.owners) is.goes
      sound.relations);
  rendered = sym is.rendered;
  main = sym is.goes.main;
  told = (sound.told.0, is.told);
  log = record { more = []; left = sym (append-nil w.log); right = sym (append-nil u.log) };
}
