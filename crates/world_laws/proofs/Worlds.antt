-- Worlds that extend each other: one table changes, and the others stay.
use Rattle.std.proofs.Common.{◌≡◌, ℕ, ◌≤◌, List, [], ◌∷◌, ◌++◌, length, Option, refl, ◌∙◌, arith}
use Rattle.std.specs.Prelude.{None, Some, slice_get}
use Rattle.std.specs.BTreeMap.{is_at}
use Rattle.std.specs.Map.{lookup}
use Rattle.std.specs.Ordering.{nat_cmp}
use Rattle.override_rules.proofs.Opening.{opened_stays, same_scopes, scopes_on}
use Rattle.override_rules.specs.Meaning.{State, scope_opened}
use Rattle.override_rules.specs.Ways.{IsWithin}
use Rattle.res_book.proofs.Growth.{grows-not, grows-on}
use Rattle.res_book.specs.Growth as rows
use Rattle.res_book.specs.Relations.{Related}
use Rattle.res_book.specs.declared.row.Row.{Row}
use Rattle.res_core.specs.declared.log_line.LogLine.{LogLine}
use Rattle.pp_values.specs.Rising.{text_cmp}
use Rattle.scope_core.specs.Scopes.{Scopes, entered, left}
use Rattle.scope_core.specs.declared.scope_kind.ScopeKind.{ScopeKind}
use Rattle.eval_world.specs.Owners.{Owners, inline_by, inline_in, inline_owner, numbered, owner_in, owner_of_file}
use Rattle.eval_world.specs.Owners.{with_file, with_inline, with_owner}
use Rattle.eval_world.specs.declared.owner.Owner.{Owner}
use Rattle.eval_world.specs.declared.world.World.{World}
use Rattle.world_laws.specs.Extends.{AreKept, ArePlaced, Extends, IsPlaced, MarksStay, OverridesStay, OwnersStay}
use Rattle.world_laws.specs.Extends.{RelationsGoOn}
use Rattle.world_laws.proofs.Lists.{goes_on, stays, further, all_kept, all_kept_on, kept_before, kept_beside}
use Rattle.world_laws.proofs.Placing.{body_placed, file_placed, inline_placed, opened_here, owner_placed, same_placed}

-- ---- tables that stay

pub same_owners : (o : Owners) → OwnersStay o o
same_owners o = record { main = refl; others = stays o.others }

pub one_owner : (x : Owner) (o : Owners) → OwnersStay o (with_owner x o)
one_owner x o = record { main = refl; others = goes_on o.others (x ∷ []) }

one_file : (file : List ℕ) (o : Owners) → OwnersStay o (with_file file o)
one_file file o = record { main = refl; others = goes_on o.others (owner_of_file file o ∷ []) }

one_inline : (number : ℕ) (o : Owners) → OwnersStay o (with_inline number o)
one_inline number o = record { main = refl; others = goes_on o.others (inline_owner number o ∷ []) }

pub same_overrides : (s : State) → OverridesStay s s
same_overrides s = record {
  lines = stays s.lines;
  defaults = λ kind scope name d e. e;
  more = λ kind. omega arith;
  as_many = λ kind e. refl;
  parents = same_scopes s.scopes;
}

pub opened : (scope : ℕ) (parent : Option ℕ) (s : State) → OverridesStay s (scope_opened scope parent s)
opened scope parent s = record {
  lines = stays s.lines;
  defaults = λ kind scope name d e. e;
  more = λ kind. omega arith;
  as_many = λ kind e. refl;
  parents = opened_stays s.scopes scope parent;
}

pub same_relations : (r : Related) → RelationsGoOn r r
same_relations r = record {
  lines = stays r.lines;
  containments = stays r.containments;
  collectors = stays r.collectors;
  applied = λ c n is. is;
}

pub overrides_on : {r s t : State} → OverridesStay r s → OverridesStay s t → OverridesStay r t
overrides_on f g = record {
  lines = further f.lines g.lines;
  defaults = λ kind scope name d e. g.defaults kind scope name d (f.defaults kind scope name d e);
  more = λ kind. let x = f.more kind in let y = g.more kind in omega (arith, x, y);
  as_many = λ kind e.
      let x = f.more kind in let y = g.more kind in
      g.as_many kind (omega (arith, x, y, e)) ∙ f.as_many kind (omega (arith, x, y, e));
  parents = scopes_on f.parents g.parents;
}

relations_on : {r s t : Related} → RelationsGoOn r s → RelationsGoOn s t → RelationsGoOn r t
relations_on f g = record {
  lines = further f.lines g.lines;
  containments = further f.containments g.containments;
  collectors = further f.collectors g.collectors;
  applied = λ c n is. g.applied c n (f.applied c n is);
}

-- ---- all of them

pub same_world : (w : World) → Extends w w
same_world w = record {
  environment = refl;
  declarations = grows-not w.book;
  marks = λ n is. is;
  scopes = all_kept w.scopes.scopes;
  owners = same_owners w.owners;
  overrides = same_overrides w.overrides;
  relations = same_relations w.relations;
  log = stays w.log;
  placed = λ p. p;
}

pub extends_on : (a b c : World) → Extends a b → Extends b c → Extends a c
extends_on a b c f g = record {
  environment = g.environment ∙ f.environment;
  declarations = grows-on f.declarations g.declarations;
  marks = λ n is. g.marks n (f.marks n is);
  scopes = all_kept_on a.scopes.scopes b.scopes.scopes c.scopes.scopes f.scopes g.scopes;
  owners = record { main = g.owners.main ∙ f.owners.main; others = further f.owners.others g.owners.others };
  overrides = overrides_on f.overrides g.overrides;
  relations = relations_on f.relations g.relations;
  log = further f.log g.log;
  placed = λ p. g.placed (f.placed p);
}

-- ---- one table changes

pub scopes_kept : (w : World) (s : Scopes) → AreKept w.scopes.scopes s.scopes → Extends w (record w { scopes = s })
scopes_kept w s kept = record {
  environment = refl;
  declarations = grows-not w.book;
  marks = λ n is. is;
  scopes = kept;
  owners = same_owners w.owners;
  overrides = same_overrides w.overrides;
  relations = same_relations w.relations;
  log = stays w.log;
  placed = λ p. p;
}

pub book_grows : (w : World) (book : List Row) → rows.Grows w.book book → MarksStay w.book book →
    (IsPlaced w → ArePlaced w.overrides w.owners book) → Extends w (record w { book = book })
book_grows w book grows marks placed = record {
  environment = refl;
  declarations = grows;
  marks = marks;
  scopes = all_kept w.scopes.scopes;
  owners = same_owners w.owners;
  overrides = same_overrides w.overrides;
  relations = same_relations w.relations;
  log = stays w.log;
  placed = placed;
}

-- the scopes among them are the same
pub overrides_grow : (w : World) (s : State) → OverridesStay w.overrides s → s.scopes ≡ w.overrides.scopes →
    Extends w (record w { overrides = s })
overrides_grow w s stay same = record {
  environment = refl;
  declarations = grows-not w.book;
  marks = λ n is. is;
  scopes = all_kept w.scopes.scopes;
  owners = same_owners w.owners;
  overrides = stay;
  relations = same_relations w.relations;
  log = stays w.log;
  placed = λ p. same_placed w.overrides w.owners w.book p s same;
}

pub relations_grow : (w : World) (r : Related) → RelationsGoOn w.relations r → Extends w (record w { relations = r })
relations_grow w r grow = record {
  environment = refl;
  declarations = grows-not w.book;
  marks = λ n is. is;
  scopes = all_kept w.scopes.scopes;
  owners = same_owners w.owners;
  overrides = same_overrides w.overrides;
  relations = grow;
  log = stays w.log;
  placed = λ p. p;
}

pub log_goes_on : (w : World) (x : LogLine) → Extends w (record w { log = w.log ++ x ∷ [] })
log_goes_on w x = record {
  environment = refl;
  declarations = grows-not w.book;
  marks = λ n is. is;
  scopes = all_kept w.scopes.scopes;
  owners = same_owners w.owners;
  overrides = same_overrides w.overrides;
  relations = same_relations w.relations;
  log = goes_on w.log (x ∷ []);
  placed = λ p. p;
}

-- what a template emits
pub rendered_changes : (w : World) (t : List ℕ) → Extends w (record w { rendered = t })
rendered_changes w t = record {
  environment = refl;
  declarations = grows-not w.book;
  marks = λ n is. is;
  scopes = all_kept w.scopes.scopes;
  owners = same_owners w.owners;
  overrides = same_overrides w.overrides;
  relations = same_relations w.relations;
  log = stays w.log;
  placed = λ p. p;
}

owners_go_on : (w : World) (o : Owners) → OwnersStay w.owners o → (IsPlaced w → ArePlaced w.overrides o w.book) →
    Extends w (record w { owners = o })
owners_go_on w o stay placed = record {
  environment = refl;
  declarations = grows-not w.book;
  marks = λ n is. is;
  scopes = all_kept w.scopes.scopes;
  owners = stay;
  overrides = same_overrides w.overrides;
  relations = same_relations w.relations;
  log = stays w.log;
  placed = placed;
}

-- ---- bodies

owner_numbered : (w : World) (o : Option ℕ) (file : List ℕ) →
    Extends w (record w { owners = (numbered o file w.owners).1 })
owner_numbered w (Some n) file = owners_go_on w w.owners (same_owners w.owners) (λ p. p)
owner_numbered w None file =
    owners_go_on w (with_file file w.owners) (one_file file w.owners)
    (λ p. file_placed w.overrides w.owners w.book p file)

-- the owner of what stands in top scope in a file, which is there or is added
pub owner_in_stays : (w : World) (file : List ℕ) → Extends w (record w { owners = (owner_in file w.owners).1 })
unfolding owner_in
owner_in_stays w file = owner_numbered w (lookup (is_at (text_cmp file)) w.owners.files) file

inline_numbered : (w : World) (o : Option ℕ) (number : ℕ) →
    Extends w (record w { owners = (inline_by o number w.owners).1 })
inline_numbered w (Some n) number = owners_go_on w w.owners (same_owners w.owners) (λ p. p)
inline_numbered w None number =
    owners_go_on w (with_inline number w.owners) (one_inline number w.owners)
    (λ p. inline_placed w.overrides w.owners w.book p number)

-- the owner of the texts that the code of an owner renders, which is there or is added
pub inline_in_stays : (w : World) (number : ℕ) → Extends w (record w { owners = (inline_in number w.owners).1 })
unfolding inline_in
inline_in_stays w number = inline_numbered w (lookup (is_at (nat_cmp number)) w.owners.inlines) number

-- the next owner, in a scope that is opened from one that was
pub owner_added : (w : World) (x : Owner) (parent : Option ℕ) → (IsPlaced w → IsWithin w.overrides.scopes parent) →
    Extends w (record w {
      overrides = scope_opened x.scope parent w.overrides;
      owners = with_owner x w.owners;
    })
owner_added w x parent within = record {
  environment = refl;
  declarations = grows-not w.book;
  marks = λ n is. is;
  scopes = all_kept w.scopes.scopes;
  owners = one_owner x w.owners;
  overrides = opened x.scope parent w.overrides;
  relations = same_relations w.relations;
  log = stays w.log;
  placed = λ p. owner_placed (scope_opened x.scope parent w.overrides) w.owners w.book
      (body_placed w.overrides w.owners w.book p x parent (within p)) x (opened_here x.scope parent w.overrides);
}

pub scope_entered : (w : World) (kind : ScopeKind) (parent : ℕ) →
    Extends w (record w { scopes = entered kind parent w.scopes })
scope_entered w kind parent = scopes_kept w (entered kind parent w.scopes) (kept_before w.scopes.scopes _)

-- a scope ends that was not there before
pub left_again : (w v : World) (n : ℕ) → length w.scopes.scopes ≤ n → Extends w v →
    Extends w (record v { scopes = left n v.scopes })
left_again w v n past f = record {
  environment = f.environment;
  declarations = f.declarations;
  marks = f.marks;
  scopes = kept_beside n (slice_get v.scopes.scopes n) w.scopes.scopes v.scopes.scopes past f.scopes;
  owners = f.owners;
  overrides = f.overrides;
  relations = f.relations;
  log = f.log;
  placed = f.placed;
}
