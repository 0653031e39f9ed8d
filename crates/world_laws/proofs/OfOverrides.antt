-- Overrides and default statements.
use Rattle.std.proofs.Common.{◌≡◌, ℕ, suc, ◌≤◌, Bool, true, false, cond, if◌then◌else◌, List, [], ◌∷◌, length}
use Rattle.std.proofs.Common.{Option, None, Some, Result, Ok, Err, refl, sym, ap, ◌∙◌, arith}
use Rattle.std.specs.BTreeMap.{is_at}
use Rattle.std.specs.Map.{lookup}
use Rattle.std.specs.Ordering.{is_eq, match_ordering}
use Rattle.std.specs.Str.{bytes_eq}
use Rattle.std.specs.declared.cmp.Ordering.TheVariants.{Less, Equal, Greater}
use Rattle.pp_tree.specs.Names.{normal}
use Rattle.pp_tree.specs.declared.expr.Expr.{Expr}
use Rattle.pp_tree.specs.declared.resource.Attribute.{Attribute}
use Rattle.pp_tree.specs.declared.resource.Defaults.{Defaults}
use Rattle.pp_tree.specs.declared.resource.Override.{Override}
use Rattle.pp_tree.specs.declared.resource.Reference as tree
use Rattle.pp_values.specs.Answers as answers
use Rattle.pp_values.specs.Datum as datum
use Rattle.pp_values.specs.Datum.{Datum}
use Rattle.pp_values.specs.Kinds.{kind_of}
use Rattle.pp_values.specs.declared.fault.Fault.{Fault}
use Rattle.pp_values.specs.declared.place.Place.{Place}
use Rattle.pp_values.specs.declared.reference.Reference.{Reference}
use Rattle.override_rules.proofs.Kept.{default_at, one_more}
use Rattle.override_rules.proofs.Opening.{same_scopes}
use Rattle.override_rules.specs.Defaults.{Default, default_in, default_key, defaults_for, with_default}
use Rattle.override_rules.specs.Keys.{key_cmp, key_total}
use Rattle.override_rules.specs.Lines as overriding
use Rattle.override_rules.specs.Meaning.{State, default_put, with_line}
use Rattle.override_rules.specs.declared.default_key.DefaultKey.{DefaultKey}
use Rattle.res_core.specs.Lines.{Line}
use Rattle.eval_world.specs.Inner.{Inner}
use Rattle.eval_world.specs.Owners.{owner_at}
use Rattle.eval_world.specs.declared.here.Here.{Here}
use Rattle.eval_world.specs.declared.world.World.{World}
use Rattle.eval_overrides.specs.DefaultStatements as defaults
use Rattle.eval_overrides.specs.DefaultStatements.{defaults_put, defaults_rule, kind_put}
use Rattle.eval_overrides.specs.OverrideStatements as overrides
use Rattle.eval_overrides.specs.OverrideStatements.{line_put, override_rule, put_on, target_rule}
use Rattle.eval_world.specs.Worlds.{with_overrides}
use Rattle.world_laws.specs.Extends.{OverridesStay}
use Rattle.world_laws.specs.Growing.{Reaches, Grows, GrowsInner}
use Rattle.world_laws.proofs.Entries.{found_still}
use Rattle.world_laws.proofs.Lists.{goes_on, stays}
use Rattle.world_laws.proofs.OfForms.{accessed_grows, type_grows}
use Rattle.world_laws.proofs.OfLines.{lines_grow}
use Rattle.world_laws.proofs.Steps.{and_then, pure_grows, fault_grows}
use Rattle.world_laws.proofs.Worlds.{overrides_grow}

-- ---- one line

pub one_line : (l : overriding.Line) (s : State) → OverridesStay s (with_line s l)
one_line l s = record {
  lines = goes_on s.lines (l ∷ []);
  defaults = λ kind scope name d e. e;
  more = λ kind. omega arith;
  as_many = λ kind e. refl;
  parents = same_scopes s.scopes;
}

-- whatever the test says
pub line_reaches : (w : World) (l : overriding.Line) (tested : Result (Unit {0}) Fault) →
    Reaches w (with_overrides (answers.and_then tested (λ _. Ok (tt, with_line w.overrides l))) w)
line_reaches w l (Ok u) = overrides_grow w (with_line w.overrides l) (one_line l w.overrides) refl
line_reaches w l (Err f) = tt

line_grows : (target : Reference) (l : Line) (here : Here) → Grows (line_put target l here)
line_grows target l here = record { reaches = λ w. line_reaches w _ _ }

puts_grow : (target : Reference) (ls : List Line) (here : Here) → Grows (overrides.lines_put target ls here)
unfolding overrides.lines_put
puts_grow target [] here = pure_grows
puts_grow target (l ∷ ls) here = and_then (line_grows target l here) (λ u. puts_grow target ls here)

put_on_grows : (target : Datum) (ls : List Line) (at : ℕ) (here : Here) → Grows (put_on target ls at here)
put_on_grows (datum.reference r) ls at here = puts_grow r ls here
put_on_grows _ ls at here = record { reaches = λ w. tt }

-- ---- one default

none_there : {X : Type 0} (b : Bool) (x : X) (o : Option X) → cond b (Some x) o ≡ None → (b ≡ false) × (o ≡ None)
none_there true x o e = absurd cc
none_there false x o e = (refl, e)

-- those for another kind stay
other_kind : (ds : List Default) (k : DefaultKey) (d : Datum) (kind : List ℕ) → lookup (is_at (key_cmp k)) ds ≡ None →
    bytes_eq kind k.kind ≡ false → defaults_for kind (with_default ds k d) ≡ defaults_for kind ds
other_kind [] k d kind none other = ap (λ b. cond b ((k, d) ∷ []) []) other
other_kind (x ∷ xs) k d kind none other =
    let parts = none_there (is_eq (key_cmp k x.0)) x.1 (lookup (is_at (key_cmp k)) xs) none in
    elim (key_cmp k x.0) as (λ o. is_eq o ≡ false →
    defaults_for kind (match_ordering o ((k, d) ∷ x ∷ xs) ((x.0, d) ∷ xs) (x ∷ with_default xs k d))
    ≡ defaults_for kind (x ∷ xs)) [
      | Less ↦ λ e. ap (λ b. cond b ((k, d) ∷ defaults_for kind (x ∷ xs)) (defaults_for kind (x ∷ xs))) other
      | Equal ↦ λ e. absurd cc
      | Greater ↦ λ e. ap (λ l. cond (bytes_eq kind x.0.kind) (x ∷ l) l) (other_kind xs k d kind parts.1 other)
    ] parts.0

no_fewer : (ds : List Default) (k : DefaultKey) (d : Datum) (kind : List ℕ) → lookup (is_at (key_cmp k)) ds ≡ None →
    (b : Bool) → bytes_eq kind k.kind ≡ b →
    length (defaults_for kind ds) ≤ length (defaults_for kind (with_default ds k d))
no_fewer ds k d kind none true is =
    let n : length (defaults_for kind (with_default ds k d)) ≡ suc (length (defaults_for kind ds)) =
    one_more ds k d kind none
    ∙ ap (λ b. if b then suc (length (defaults_for kind ds)) else length (defaults_for kind ds)) is in
    omega (arith, n)
no_fewer ds k d kind none false is = let n = ap length (other_kind ds k d kind none is) in omega (arith, n)

same_ones : (ds : List Default) (k : DefaultKey) (d : Datum) (kind : List ℕ) → lookup (is_at (key_cmp k)) ds ≡ None →
    (b : Bool) → bytes_eq kind k.kind ≡ b →
    length (defaults_for kind (with_default ds k d)) ≡ length (defaults_for kind ds) →
    defaults_for kind (with_default ds k d) ≡ defaults_for kind ds
same_ones ds k d kind none true is same =
    let n : length (defaults_for kind (with_default ds k d)) ≡ suc (length (defaults_for kind ds)) =
    one_more ds k d kind none
    ∙ ap (λ b. if b then suc (length (defaults_for kind ds)) else length (defaults_for kind ds)) is in
    absurd (omega (arith, n, same))
same_ones ds k d kind none false is same = other_kind ds k d kind none is

one_default : (kind : List ℕ) (scope : ℕ) (name : List ℕ) (d : Datum) (s : State) →
    default_in s.defaults kind scope name ≡ None →
    OverridesStay s (record s { defaults = with_default s.defaults (default_key kind scope name) d })
one_default kind scope name d s none = record {
  lines = stays s.lines;
  defaults = λ k n x e is.
      default_at (with_default s.defaults (default_key kind scope name) d) k n x
      ∙ found_still key_cmp key_total (default_key kind scope name) d s.defaults
      (sym (default_at s.defaults kind scope name) ∙ none) (default_key k n x) e
      (sym (default_at s.defaults k n x) ∙ is);
  more = λ k. no_fewer s.defaults (default_key kind scope name) d k (sym (default_at s.defaults kind scope name) ∙ none)
      (bytes_eq k kind) refl;
  as_many = λ k.
      same_ones s.defaults (default_key kind scope name) d k (sym (default_at s.defaults kind scope name) ∙ none)
      (bytes_eq k kind) refl;
  parents = same_scopes s.scopes;
}

default_reaches : (w : World) (kind : List ℕ) (scope : ℕ) (name : List ℕ) (d : Datum) (at : Place) (o : Option Datum) →
    default_in w.overrides.defaults kind scope name ≡ o →
    Reaches w (with_overrides (default_put kind scope name d at w.overrides o) w)
default_reaches w kind scope name d at None is = overrides_grow w _ (one_default kind scope name d w.overrides is) refl
default_reaches w kind scope name d at (Some held) is = tt

default_grows : (kind : List ℕ) (l : Line) (here : Here) → Grows (defaults.default_put kind l here)
default_grows kind l here = record {
  reaches = λ w. default_reaches w kind (owner_at here.owner w.owners).scope l.name l.value l.at
      (default_in w.overrides.defaults kind (owner_at here.owner w.owners).scope l.name) refl;
}

defaults_put_grow : (kind : List ℕ) (ls : List Line) (here : Here) → Grows (defaults_put kind ls here)
unfolding defaults_put
defaults_put_grow kind [] here = pure_grows
defaults_put_grow kind (l ∷ ls) here = and_then (default_grows kind l here) (λ u. defaults_put_grow kind ls here)

-- ---- the statements

module _ (inner : Inner) (g : GrowsInner inner) where
  pub target_grows : (r : tree.Reference Expr) (here : Here) → Grows (target_rule inner r here)
  unfolding target_rule
  target_grows r here =
      and_then (type_grows r.kind r.at here) (λ kind. accessed_grows inner g kind r.args r.at here)

  pub override_grows : (o : Override Expr) (here : Here) → Grows (override_rule inner o here)
  unfolding override_rule
  override_grows o here = and_then (g.target o.target here) (λ target.
      and_then (lines_grow inner g [] o.attributes here) (λ lines. put_on_grows target lines o.at here))

  lines_put_grow : (kind : List ℕ) (attributes : List (Attribute Expr)) (here : Here) →
      Grows (defaults.lines_put inner kind attributes here)
  unfolding defaults.lines_put
  lines_put_grow kind attributes here =
      and_then (lines_grow inner g [] attributes here) (λ lines. defaults_put_grow kind lines here)

  kind_grows : (kind : Option (List ℕ)) (d : Defaults Expr) (here : Here) → Grows (kind_put inner kind d here)
  kind_grows None d here = fault_grows _
  kind_grows (Some kind) d here = lines_put_grow kind d.attributes here

  pub defaults_grow : (d : Defaults Expr) (here : Here) → Grows (defaults_rule inner d here)
  unfolding defaults_rule
  defaults_grow d here = kind_grows (kind_of (normal d.kind)) d here
