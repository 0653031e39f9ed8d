-- What a collector passes over: local declarations that `realize` does not name, and exports without the tag that is
-- asked for.
use Rattle.std.proofs.Common.{◌≡◌, ℕ, Bool, true, false, ◌&&◌, List, Option, None, Some, option_map, Ok, refl, sym, ap, ◌∙◌}
use Rattle.std.proofs.Math.Bool.{and-false}
use Rattle.std.specs.Prelude.{slice_get}
use Rattle.std.specs.Str.{bytes_eq}
use Rattle.collector_query.proofs.Needed.{tag_is_needed}
use Rattle.override_rules.specs.Meaning.{State}
use Rattle.override_rules.specs.Names.{attributes_of}
use Rattle.pp_values.specs.References.{same_reference}
use Rattle.pp_values.specs.declared.reference.Reference.{Reference}
use Rattle.res_book.specs.Rows.{item_at, reference_of}
use Rattle.res_book.specs.declared.collector.Collector.{Collector}
use Rattle.res_book.specs.declared.row.Row.{Row}
use Rattle.res_core.specs.Criteria.{Criterion}
use Rattle.res_core.specs.TagNames.{is_tagged}
use Rattle.res_core.specs.declared.declared.Declared.{Declared}
use Rattle.res_core.specs.declared.exported.Exported.{Exported}
use Rattle.eval_collecting.specs.Importing.{finds, tag_by, tag_of, needed_tag, owner_by, where_true, import_for, import_match}
use Rattle.eval_collecting.specs.Matching.{asks, may_take, takes, taken_by, realized_by, realized, take_if, local_match}
use Rattle.eval_world.specs.declared.world.World.{World}

-- ---- local declarations

-- it was declared with this reference
abbrev pub named_by : Reference → Option Declared → Bool
named_by q None = false
named_by q (Some d) = same_reference q (reference_of d)

not_taken : (s : State) (c : Option Collector) (r : Option Row) (q : Reference) → realized_by c ≡ Some q →
    named_by q (option_map (λ r. r.declared) r) ≡ false → taken_by s c r ≡ false
unfolding takes
not_taken s None r q is other = absurd cc
not_taken s (Some c) None q is other = refl
not_taken s (Some c) (Some r) q is other =
    ap (λ o. may_take c r && asks o c.query r.declared.item (attributes_of s r)) is
    ∙ ap (λ b. may_take c r && b) other ∙ and-false (may_take c r)

pub passes_others : (c n : ℕ) (q : Reference) (w : World) → realized w c ≡ Some q →
    named_by q (item_at w.book n) ≡ false → local_match c n w ≡ Ok (false, w)
unfolding local_match
passes_others c n q w is other = ap (λ b. take_if b c n w)
    (not_taken w.overrides (slice_get w.relations.collectors c) (slice_get w.book n) q is other)

-- ---- exports

not_tagged : (b : Bool) → (b ≡ true → true ≡ false) → b ≡ false
not_tagged true lacks = lacks refl
not_tagged false lacks = refl

asks_not : (realized : Option Reference) (query : Criterion) (e : Exported) (t : List ℕ) →
    tag_by realized query ≡ Some t → is_tagged e.item.tags t ≡ false →
    asks realized query e.item e.item.attributes ≡ false
asks_not (Some wanted) query e t tag lacks = absurd cc
asks_not None query e t tag lacks = not_tagged (asks None query e.item e.item.attributes)
    (λ holds. sym (tag_is_needed e.item.title e.item.tags e.item.attributes t query holds tag) ∙ lacks)

found_not : (c : Option Collector) (e : Exported) (t : List ℕ) → tag_of c ≡ Some t → is_tagged e.item.tags t ≡ false →
    owner_by c e ≡ None
unfolding finds
found_not None e t tag lacks = refl
found_not (Some c) e t tag lacks =
    ap (λ b. where_true (c.exported && (bytes_eq e.item.kind c.kind && b)) c.owner)
    (asks_not c.realized c.query e t tag lacks)
    ∙ ap (λ b. where_true (c.exported && b) c.owner) (and-false (bytes_eq e.item.kind c.kind))
    ∙ ap (λ b. where_true b c.owner) (and-false c.exported)

pub passes_untagged : (c : ℕ) (node : List ℕ) (place : ℕ) (e : Exported) (t : List ℕ) (w : World) →
    needed_tag w c ≡ Some t → is_tagged e.item.tags t ≡ false → import_match c node place e w ≡ Ok (false, w)
unfolding import_match
passes_untagged c node place e t w tag lacks = ap (λ o. import_for o c node place e w)
    (found_not (slice_get w.relations.collectors c) e t tag lacks)
