-- Where nothing more concerns a declaration, its attributes are what they were.
use Rattle.std.proofs.Common.{◌≡◌, ℕ, zero, suc, ◌+◌, ◌≤◌, Bool, true, false, ◌&&◌, cond, if◌then◌else◌, List, [], ◌∷◌}
use Rattle.std.proofs.Common.{◌++◌, length, map, filter, Option, None, Some, refl, sym, ap, ◌∙◌, arith, append-nil}
use Rattle.std.proofs.Common.{length-append}
use Rattle.std.proofs.lemmas.List.Elements.{filter-append}
use Rattle.std.specs.Prelude.{◌==◌}
use Rattle.std.specs.Str.{bytes_eq}
use Rattle.override_rules.proofs.Opening.{way_stays}
use Rattle.override_rules.specs.Changes.{set_by}
use Rattle.override_rules.specs.Defaults.{Default, Scope, default_in, defaults_for, from_scope, nearest, nearest_within}
use Rattle.override_rules.specs.Defaults.{or_else, parent_of}
use Rattle.override_rules.specs.Fold.{after_lines, declared}
use Rattle.override_rules.specs.Lines.{Line, is_on, lines_on}
use Rattle.override_rules.specs.Meaning.{State, attribute_of, defaulted, touched_by}
use Rattle.override_rules.specs.Names.{attributes_of, default_names, is_for, line_names, names_from, names_in, names_of}
use Rattle.override_rules.specs.Names.{names_within, setting_for, settings_among}
use Rattle.override_rules.specs.Ways.{AreNested, way_from, way_out, way_within}
use Rattle.pp_values.specs.Datum.{Datum}
use Rattle.pp_values.specs.Rising.{sorted}
use Rattle.pp_values.specs.Settings.{setting_names}
use Rattle.res_book.specs.Rows.{is_imported, reference_of}
use Rattle.res_book.specs.declared.row.Row.{Row}
use Rattle.world_laws.specs.Extends.{IsOpened, OverridesStay}

-- ---- the defaults for a kind alone are looked at

cond_false : {A : Type 0} (a b : Bool) (x y : A) → a ≡ false → cond (a && b) x y ≡ y
cond_false true b x y e = absurd cc
cond_false false b x y e = refl

default_in_kind : (kind : List ℕ) (s : ℕ) (name : List ℕ) (ds : List Default) →
    default_in ds kind s name ≡ default_in (defaults_for kind ds) kind s name
default_in_kind kind s name [] = refl
default_in_kind kind s name (d ∷ ds) =
    let rest = default_in_kind kind s name ds in
    elim (bytes_eq kind d.0.kind) as (λ b. bytes_eq kind d.0.kind ≡ b →
    cond (bytes_eq kind d.0.kind && ((s == d.0.scope) && bytes_eq name d.0.name)) (Some d.1) (default_in ds kind s name)
    ≡ default_in (cond b (d ∷ defaults_for kind ds) (defaults_for kind ds)) kind s name) [
      | true ↦ λ e.
          ap (cond (bytes_eq kind d.0.kind && ((s == d.0.scope) && bytes_eq name d.0.name)) (Some d.1)) rest
      | false ↦ λ e.
          cond_false (bytes_eq kind d.0.kind) ((s == d.0.scope) && bytes_eq name d.0.name) (Some d.1)
          (default_in ds kind s name) e ∙ rest
    ] refl

names_in_kind : (kind : List ℕ) (s : ℕ) (ds : List Default) →
    names_in ds kind s ≡ names_in (defaults_for kind ds) kind s
names_in_kind kind s [] = refl
names_in_kind kind s (d ∷ ds) =
    let F : List Default → List Default = λ xs. filter (λ x. is_for kind s x.0) xs in
    let names : List Default → List (List ℕ) = λ xs. map (λ x. x.0.name) xs in
    let rest = names_in_kind kind s ds in
    elim (bytes_eq kind d.0.kind) as (λ b. bytes_eq kind d.0.kind ≡ b →
    names (cond (bytes_eq kind d.0.kind && (s == d.0.scope)) (d ∷ F ds) (F ds))
    ≡ names (F (cond b (d ∷ defaults_for kind ds) (defaults_for kind ds)))) [
      | true ↦ λ e. both_ways (bytes_eq kind d.0.kind && (s == d.0.scope)) d (F ds) (F (defaults_for kind ds)) rest
      | false ↦ λ e. ap names (cond_false (bytes_eq kind d.0.kind) (s == d.0.scope) (d ∷ F ds) (F ds) e) ∙ rest
    ] refl where
      both_ways : (b : Bool) (x : Default) (xs ys : List Default) →
          map (λ y. y.0.name) xs ≡ map (λ y. y.0.name) ys →
          map (λ y. y.0.name) (cond b (x ∷ xs) xs) ≡ map (λ y. y.0.name) (cond b (x ∷ ys) ys)
      both_ways true x xs ys e = ap (λ l. x.0.name ∷ l) e
      both_ways false x xs ys e = e

-- ---- on the way out

nearest_on : List ℕ → List Default → List ℕ → List ℕ → Option Datum
nearest_on [] ds kind name = None
nearest_on (s ∷ ss) ds kind name = or_else (default_in ds kind s name) (nearest_on ss ds kind name)

names_on : List ℕ → List Default → List ℕ → List (List ℕ)
names_on [] ds kind = []
names_on (s ∷ ss) ds kind = names_in ds kind s ++ names_on ss ds kind

near_step : (parent : Option (Option ℕ)) (s : ℕ) (ds : List Default) (kind name : List ℕ)
    (outer : Option ℕ → Option Datum) (way : Option ℕ → List ℕ) →
    ((p : Option ℕ) → outer p ≡ nearest_on (way p) ds kind name) →
    from_scope parent (default_in ds kind s name) outer ≡ nearest_on (way_from parent s way) ds kind name
unfolding nearest_on
near_step None s ds kind name outer way h = refl
near_step (Some p) s ds kind name outer way h = ap (or_else (default_in ds kind s name)) (h p)

near_way : (left : ℕ) (scopes : List Scope) (ds : List Default) (kind name : List ℕ) (from : Option ℕ) →
    nearest_within left scopes ds kind name from ≡ nearest_on (way_within left scopes from) ds kind name
unfolding nearest_within way_within nearest_on
near_way zero scopes ds kind name from = refl
near_way (suc left) scopes ds kind name None = refl
near_way (suc left) scopes ds kind name (Some s) =
    near_step (parent_of scopes s) s ds kind name (nearest_within left scopes ds kind name) (way_within left scopes)
    (λ p. near_way left scopes ds kind name p)

names_step : (parent : Option (Option ℕ)) (s : ℕ) (ds : List Default) (kind : List ℕ)
    (outer : Option ℕ → List (List ℕ)) (way : Option ℕ → List ℕ) →
    ((p : Option ℕ) → outer p ≡ names_on (way p) ds kind) →
    names_from parent (names_in ds kind s) outer ≡ names_on (way_from parent s way) ds kind
unfolding names_on
names_step None s ds kind outer way h = refl
names_step (Some p) s ds kind outer way h = ap (λ l. names_in ds kind s ++ l) (h p)

names_way : (left : ℕ) (scopes : List Scope) (ds : List Default) (kind : List ℕ) (from : Option ℕ) →
    names_within left scopes ds kind from ≡ names_on (way_within left scopes from) ds kind
unfolding names_within way_within names_on
names_way zero scopes ds kind from = refl
names_way (suc left) scopes ds kind None = refl
names_way (suc left) scopes ds kind (Some s) =
    names_step (parent_of scopes s) s ds kind (names_within left scopes ds kind) (way_within left scopes)
    (λ p. names_way left scopes ds kind p)

nearest_on_kind : (ss : List ℕ) (ds : List Default) (kind name : List ℕ) →
    nearest_on ss ds kind name ≡ nearest_on ss (defaults_for kind ds) kind name
unfolding nearest_on
nearest_on_kind [] ds kind name = refl
nearest_on_kind (s ∷ ss) ds kind name =
    ap (λ o. or_else o (nearest_on ss ds kind name)) (default_in_kind kind s name ds)
    ∙ ap (or_else (default_in (defaults_for kind ds) kind s name)) (nearest_on_kind ss ds kind name)

names_on_kind : (ss : List ℕ) (ds : List Default) (kind : List ℕ) →
    names_on ss ds kind ≡ names_on ss (defaults_for kind ds) kind
unfolding names_on
names_on_kind [] ds kind = refl
names_on_kind (s ∷ ss) ds kind =
    ap (λ l. l ++ names_on ss ds kind) (names_in_kind kind s ds)
    ∙ ap (λ l. names_in (defaults_for kind ds) kind s ++ l) (names_on_kind ss ds kind)

-- ---- what concerns a declaration is as it was

record Unchanged (old new : State) (r : Row) : Type 0 where
  lines : lines_on (reference_of r.declared) new.lines ≡ lines_on (reference_of r.declared) old.lines
  defaults : defaults_for r.declared.item.kind new.defaults ≡ defaults_for r.declared.item.kind old.defaults
  way : way_out new.scopes r.declared.scope ≡ way_out old.scopes r.declared.scope

nearest_same : (old new : State) (r : Row) (name : List ℕ) → Unchanged old new r →
    nearest new.scopes new.defaults r.declared.item.kind name r.declared.scope
    ≡ nearest old.scopes old.defaults r.declared.item.kind name r.declared.scope
nearest_same old new r name u =
    let kind = r.declared.item.kind in
    let there : (s : State) → nearest s.scopes s.defaults kind name r.declared.scope
    ≡ nearest_on (way_out s.scopes r.declared.scope) (defaults_for kind s.defaults) kind name =
    λ s. near_way (length s.scopes) s.scopes s.defaults kind name (Some r.declared.scope)
    ∙ nearest_on_kind (way_out s.scopes r.declared.scope) s.defaults kind name in
    there new ∙ ap (λ w. nearest_on w (defaults_for kind new.defaults) kind name) u.way
    ∙ ap (λ ds. nearest_on (way_out old.scopes r.declared.scope) ds kind name) u.defaults ∙ sym (there old)

names_same : (old new : State) (r : Row) → Unchanged old new r →
    names_within (length new.scopes) new.scopes new.defaults r.declared.item.kind (Some r.declared.scope)
    ≡ names_within (length old.scopes) old.scopes old.defaults r.declared.item.kind (Some r.declared.scope)
names_same old new r u =
    let kind = r.declared.item.kind in
    let there : (s : State) → names_within (length s.scopes) s.scopes s.defaults kind (Some r.declared.scope)
    ≡ names_on (way_out s.scopes r.declared.scope) (defaults_for kind s.defaults) kind =
    λ s. names_way (length s.scopes) s.scopes s.defaults kind (Some r.declared.scope)
    ∙ names_on_kind (way_out s.scopes r.declared.scope) s.defaults kind in
    there new ∙ ap (λ w. names_on w (defaults_for kind new.defaults) kind) u.way
    ∙ ap (λ ds. names_on (way_out old.scopes r.declared.scope) ds kind) u.defaults ∙ sym (there old)

attribute_same : (old new : State) (r : Row) (name : List ℕ) → Unchanged old new r →
    attribute_of new r name ≡ attribute_of old r name
attribute_same old new r name u =
    ap (λ ls. or_else (after_lines name ls (declared r.declared name)) (defaulted new r name)) u.lines
    ∙ ap (λ o. or_else (after_lines name (lines_on (reference_of r.declared) old.lines) (declared r.declared name))
    (if is_imported r.mode then None else set_by o)) (nearest_same old new r name u)

settings_same : (f g : List ℕ → Option Datum) (ts : List (List ℕ)) → ((name : List ℕ) → f name ≡ g name) →
    settings_among f ts ≡ settings_among g ts
settings_same f g [] h = refl
settings_same f g (t ∷ ts) h =
    ap (λ o. setting_for (λ _. o) t ++ settings_among f ts) (h t)
    ∙ ap (λ l. setting_for g t ++ l) (settings_same f g ts h)

same_attributes : (old new : State) (r : Row) → Unchanged old new r → attributes_of new r ≡ attributes_of old r
unfolding attributes_of
same_attributes old new r u =
    settings_same (attribute_of new r) (attribute_of old r) (sorted (names_of new r))
    (λ name. attribute_same old new r name u)
    ∙ ap (λ ts. settings_among (attribute_of old r) (sorted ts))
    (ap (λ ls. setting_names r.declared.item.attributes ++ (line_names ls ++ default_names new r)) u.lines
    ∙ ap (λ ts. setting_names r.declared.item.attributes ++ (line_names (lines_on (reference_of r.declared) old.lines)
    ++ (if is_imported r.mode then [] else ts))) (names_same old new r u))

-- ---- and so it is where as much concerns it as did

none_of : {A : Type 0} (xs : List A) → length xs ≡ 0 → xs ≡ []
none_of [] e = refl
none_of (x ∷ xs) e = absurd cc

module _ (old new : State) (r : Row) (stay : OverridesStay old new) where
  abbrev more : List Line
  more = lines_on (reference_of r.declared) stay.lines.more

  lines_more : lines_on (reference_of r.declared) new.lines ≡ lines_on (reference_of r.declared) old.lines ++ more
  lines_more =
      ap (lines_on (reference_of r.declared)) stay.lines.is
      ∙ filter-append (is_on (reference_of r.declared)) old.lines stay.lines.more

  counted : length (lines_on (reference_of r.declared) new.lines)
      ≡ length (lines_on (reference_of r.declared) old.lines) + length more
  counted = ap length lines_more ∙ length-append (lines_on (reference_of r.declared) old.lines) more

  pub row_rises : touched_by old r ≤ touched_by new r
  row_rises = let fewer = stay.more r.declared.item.kind in let count = counted in omega (arith, count, fewer)

  unchanged : AreNested old.scopes → IsOpened old r.declared.scope → touched_by new r ≡ touched_by old r →
      Unchanged old new r
  unchanged nested opened same =
      let count = counted in let fewer = stay.more r.declared.item.kind in
      let none : length more ≡ 0 = omega (arith, count, fewer, same) in
      let as_many : length (defaults_for r.declared.item.kind new.defaults)
      ≡ length (defaults_for r.declared.item.kind old.defaults) = omega (arith, count, fewer, same) in
      record {
        lines = lines_more ∙ ap (λ l. lines_on (reference_of r.declared) old.lines ++ l) (none_of more none)
            ∙ append-nil (lines_on (reference_of r.declared) old.lines);
        defaults = stay.as_many r.declared.item.kind as_many;
        way = way_stays old.scopes new.scopes nested stay.parents r.declared.scope opened;
      }

  pub attributes_stay : AreNested old.scopes → IsOpened old r.declared.scope → touched_by new r ≡ touched_by old r →
      attributes_of new r ≡ attributes_of old r
  attributes_stay nested opened same = same_attributes old new r (unchanged nested opened same)
