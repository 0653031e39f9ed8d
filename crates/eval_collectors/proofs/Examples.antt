-- The definitions at worked examples. Each line holds by computing.
use Rattle.std.proofs.Common.{◌≡◌, ℕ, true, false, List, [], ◌∷◌, None, Some, Result, Ok, Err, refl, codes}
use Rattle.std.specs.Fmt.{digits}
use Rattle.pp_tree.specs.Building.{collector, query, conjunction as tests_of, comparison, setting}
use Rattle.pp_tree.specs.Names.{normal, without_front_colons}
use Rattle.pp_tree.specs.declared.collector.Collector.{out-roll-Collector}
use Rattle.pp_tree.specs.declared.collector.Conjunction.{Conjunction}
use Rattle.pp_tree.specs.declared.collector.Query.{Query, out-roll-Query}
use Rattle.pp_tree.specs.declared.collector.Test.{Test, out-Test}
use Rattle.pp_tree.specs.declared.collector.Test.TheBlock.{shown-the_row-Form-0}
use Rattle.pp_tree.specs.declared.collector.Test.TheVariants as test
use Rattle.pp_tree.specs.declared.expr.Expr.{Expr}
use Rattle.pp_tree.specs.declared.expr.Form.{out-Form}
use Rattle.pp_tree.specs.declared.resource.Attribute.{Attribute}
use Rattle.pp_tree.specs.declared.resource.Attribute.TheVariants as attribute
use Rattle.pp_values.specs.Datum as d
use Rattle.pp_values.specs.Faults.{fault}
use Rattle.pp_values.specs.declared.fault.Fault.{Fault}
use Rattle.pp_values.specs.declared.fault.Subject.TheVariants as subject
use Rattle.pp_values.specs.declared.fault.What.{What}
use Rattle.pp_values.specs.declared.fault.What.TheVariants as what
use Rattle.pp_values.specs.declared.reference.Reference.{Reference}
use Rattle.res_book.specs.declared.collector.Collector.{Collector}
use Rattle.res_core.specs.Criteria.{Criterion, all, by_title, by_tag, by_attribute, negation, conjunction, disjunction, criteria_of}
use Rattle.res_core.specs.Lines.{Line}
use Rattle.attribute_lines.specs.Reading.{line, lines_from, attribute_rule, setting_rule, splat_rule, splatted}
use Rattle.attribute_lines.proofs.Samples.{text, nested, told, undef, a_hash, a_list, fails, sample, sets, adds}
use Rattle.attribute_lines.proofs.Samples.{here, place, said, texts, Tells, Refuses}
use Rattle.eval_world.specs.Environment.{Environment}
use Rattle.eval_world.specs.Outcomes.{Outcome, Step, ◌>>◌}
use Rattle.eval_world.specs.Owners.{owner_at}
use Rattle.eval_world.specs.Worlds.{empty, write_log}
use Rattle.eval_collectors.specs.Collectors.{register, kind_rule, register_kind, collector_rule, register_reference}
use Rattle.eval_collectors.specs.Collectors.{realize_rule}
use Rattle.eval_collectors.specs.Queries.{compare_rule, test_rule, tests_from, conjunctions_from, query_within}

abbrev a : List ℕ
a = codes "a"

abbrev b : List ℕ
b = codes "b"

abbrev c : List ℕ
c = codes "c"

-- ---- queries

-- `word == value` and `word != value`
abbrev is : List ℕ → Expr → Test
is w value = test.Compare (comparison w true value 4)

abbrev is_not : List ℕ → Expr → Test
is_not w value = test.Compare (comparison w false value 4)

-- `tag == 'a'`
abbrev tagged : List ℕ → Test
tagged t = is (codes "tag") (told t)

-- tests with `and` between them
abbrev both : List Test → Query
both ts = query (tests_of ts ∷ [])

abbrev alone : Test → Conjunction
alone t = tests_of (t ∷ [])

abbrev asked_for : Query → Step Criterion
asked_for q = query_within 200 sample 7 q here

by_title_alone : Tells (asked_for (both (is (codes "title") (told a) ∷ []))) (by_title (text a)) (a ∷ [])
unfolding query_within test_rule compare_rule write_log out-Test out-Form shown-the_row-Form-0 denote.Hole.Carrier.out denote.Hole.Carrier.shown denote.Hole.Carrier.hidden
by_title_alone environment = simp out-roll-Query refl

by_tag_alone : Tells (asked_for (both (tagged a ∷ []))) (by_tag (text a)) (a ∷ [])
unfolding query_within test_rule compare_rule write_log out-Test out-Form shown-the_row-Form-0 denote.Hole.Carrier.out denote.Hole.Carrier.shown denote.Hole.Carrier.hidden
by_tag_alone environment = simp out-roll-Query refl

-- any other word names an attribute, and its value may be of any kind
by_word : Tells (asked_for (both (is (codes "mode") a_list ∷ []))) (by_attribute (codes "mode") nested) []
unfolding query_within test_rule compare_rule out-Test out-Form shown-the_row-Form-0 denote.Hole.Carrier.out denote.Hole.Carrier.shown denote.Hole.Carrier.hidden
by_word environment = simp out-roll-Query refl

-- `!=` is the negation
unlike_tag : Tells (asked_for (both (is_not (codes "tag") (told a) ∷ []))) (negation (by_tag (text a))) (a ∷ [])
unfolding query_within test_rule compare_rule write_log out-Test out-Form shown-the_row-Form-0 denote.Hole.Carrier.out denote.Hole.Carrier.shown denote.Hole.Carrier.hidden
unlike_tag environment = simp out-roll-Query refl

is_set : Tells (asked_for (both (is_not (codes "owner") undef ∷ []))) (negation (by_attribute (codes "owner") d.undef)) []
unfolding query_within test_rule compare_rule out-Test out-Form shown-the_row-Form-0 denote.Hole.Carrier.out denote.Hole.Carrier.shown denote.Hole.Carrier.hidden
is_set environment = simp out-roll-Query refl

-- values are evaluated in the order in which they are written
in_order : Tells
    (asked_for (both (tagged a ∷ is_not (codes "title") (told b) ∷ is (codes "mode") (told c) ∷ [])))
    (conjunction (criteria_of
    (by_tag (text a) ∷ negation (by_title (text b)) ∷ by_attribute (codes "mode") (text c) ∷ [])))
    (a ∷ b ∷ c ∷ [])
unfolding query_within tests_from test_rule compare_rule write_log out-Test out-Form shown-the_row-Form-0 denote.Hole.Carrier.out denote.Hole.Carrier.shown denote.Hole.Carrier.hidden
in_order environment = simp out-roll-Query refl

-- `tag == 'a' or tag == 'b' and tag == 'c'`: `and` binds tighter
or_of_and : Tells (asked_for (query (alone (tagged a) ∷ tests_of (tagged b ∷ tagged c ∷ []) ∷ [])))
    (disjunction (criteria_of
    (by_tag (text a) ∷ conjunction (criteria_of (by_tag (text b) ∷ by_tag (text c) ∷ [])) ∷ [])))
    (a ∷ b ∷ c ∷ [])
unfolding query_within conjunctions_from tests_from test_rule compare_rule write_log out-Test out-Form shown-the_row-Form-0 denote.Hole.Carrier.out denote.Hole.Carrier.shown denote.Hole.Carrier.hidden
or_of_and environment = simp out-roll-Query refl

-- `(tag == 'a' or tag == 'b') and tag == 'c'`
and_of_or : Tells
    (asked_for (both (test.Query (query (alone (tagged a) ∷ alone (tagged b) ∷ [])) ∷ tagged c ∷ [])))
    (conjunction (criteria_of
    (disjunction (criteria_of (by_tag (text a) ∷ by_tag (text b) ∷ [])) ∷ by_tag (text c) ∷ [])))
    (a ∷ b ∷ c ∷ [])
unfolding query_within conjunctions_from tests_from test_rule compare_rule write_log out-Test out-Form shown-the_row-Form-0 denote.Hole.Carrier.out denote.Hole.Carrier.shown denote.Hole.Carrier.hidden
and_of_or environment = simp out-roll-Query refl

-- `((tag == 'a'))` is `tag == 'a'`
in_parentheses : Tells
    (asked_for (both (test.Query (both (test.Query (both (tagged a ∷ [])) ∷ [])) ∷ [])))
    (by_tag (text a)) (a ∷ [])
unfolding query_within test_rule compare_rule write_log out-Test out-Form shown-the_row-Form-0 denote.Hole.Carrier.out denote.Hole.Carrier.shown denote.Hole.Carrier.hidden
in_parentheses environment = simp out-roll-Query refl

-- the first value that fails is told, at its place
first_fault : Refuses (asked_for (both (tagged a ∷ is (codes "tag") (fails 3) ∷ is (codes "tag") (fails 4) ∷ [])))
    3 (what.UnknownVariable (codes "x"))
unfolding query_within tests_from test_rule compare_rule write_log out-Test out-Form shown-the_row-Form-0 denote.Hole.Carrier.out denote.Hole.Carrier.shown denote.Hole.Carrier.hidden owner_at
first_fault environment = simp out-roll-Query refl

-- no level is left for the query in parentheses: F29 at the line of the collector
no_level : Refuses (query_within 1 sample 7 (both (test.Query (both (tagged a ∷ [])) ∷ [])) here) 7 what.DepthLimit
unfolding query_within test_rule out-Test denote.Hole.Carrier.out owner_at
no_level environment = simp out-roll-Query refl

-- ---- what is registered

-- the collectors that a step leaves in the empty world, and the texts that it evaluates
abbrev left_by : Outcome (Unit {0}) → Result (List Collector × List (List ℕ)) Fault
left_by (Ok p) = Ok (p.1.relations.collectors, texts p.1)
left_by (Err f) = Err f

abbrev Registers : Step (Unit {0}) → List Collector → List (List ℕ) → Type 0
Registers step cs ts = (environment : Environment) → left_by (step (empty environment)) ≡ Ok (cs, ts)

abbrev Fails : Step (Unit {0}) → ℕ → What → Type 0
Fails step at details = (environment : Environment) → left_by (step (empty environment)) ≡ Err (fault (place at) details)

-- one of a statement at line 7
abbrev of_notify : Criterion → List Line → Collector
of_notify q ls = record {
  kind = codes "notify";
  query = q;
  at = place 7;
  owner = 0;
  exported = false;
  lines = ls;
  realized = None;
}

-- `Notify <| |>`, which asks for all
notify_all : Registers (collector_rule sample (collector (codes "Notify") false None [] 7) here) (of_notify all [] ∷ []) []
unfolding collector_rule lines_from kind_rule normal without_front_colons register_kind register owner_at
notify_all environment = simp out-roll-Collector refl

-- `::Web::Vhost <<| |>>`: a kind by its normal name, whether there is one or not; where its code stands
other_kind : Registers
    (collector_rule sample (collector (codes "::Web::Vhost") true None [] 7) (record here { owner = 3 }))
    (record (of_notify all []) { kind = codes "web::vhost"; exported = true; owner = 3 } ∷ []) []
unfolding collector_rule lines_from kind_rule normal without_front_colons register_kind register owner_at
other_kind environment = simp out-roll-Collector refl

-- `Notify <| tag == 'a' |> { b => 'b', c +> 'c', * => .. }`: the query is evaluated first, and what `+>` appends stays so
with_block : Registers
    (collector_rule sample
    (collector (codes "Notify") false (Some (both (tagged a ∷ [])))
    (sets b (told b) 8 ∷ attribute.Set (setting c true (told c) 9) ∷ adds a_hash 9 ∷ []) 7) here)
    (of_notify (by_tag (text a))
    (said b b 8 ∷ line c true (text c) (place 9) ∷ said (codes "owner") (codes "root") 9 ∷ said (codes "3") c 9 ∷ [])
    ∷ [])
    (a ∷ b ∷ c ∷ [])
unfolding collector_rule query_within test_rule compare_rule lines_from attribute_rule setting_rule splat_rule splatted kind_rule normal without_front_colons register_kind register write_log out-Test out-Form shown-the_row-Form-0 denote.Hole.Carrier.out denote.Hole.Carrier.shown denote.Hole.Carrier.hidden owner_at digits
with_block environment = simp (out-roll-Collector, out-roll-Query) refl

-- one behind the other
two : Registers
    (collector_rule sample (collector (codes "Notify") false None [] 7) here
    >> realize_rule (record { kind = codes "notify"; title = a }) 7 here)
    (of_notify all [] ∷ record (of_notify all []) { realized = Some (record { kind = codes "notify"; title = a }) } ∷ []) []
unfolding collector_rule lines_from kind_rule normal without_front_colons register_kind register realize_rule register_reference owner_at
two environment = simp out-roll-Collector refl

-- classes are not collected: F26, once the query and the block were evaluated
abbrev of_class : List (Attribute Expr) → Step (Unit {0})
of_class attributes = collector_rule sample (collector (codes "Class") false None attributes 7) here

class_collected : Fails (of_class (sets a (told b) 8 ∷ [])) 7 (what.ClassVirtual (subject.Kind (codes "class")))
unfolding collector_rule lines_from attribute_rule setting_rule kind_rule normal without_front_colons write_log out-Form denote.Hole.Carrier.out owner_at
class_collected environment = simp out-roll-Collector refl

block_before_class : Fails (of_class (sets a (fails 8) 8 ∷ [])) 8 (what.UnknownVariable (codes "x"))
unfolding collector_rule lines_from attribute_rule setting_rule out-Form denote.Hole.Carrier.out owner_at
block_before_class environment = simp out-roll-Collector refl

-- no text of the grammar has such a kind
no_kind : Fails (collector_rule sample (collector (codes "Notify[") false None [] 7) here) 7 what.Syntax
unfolding collector_rule lines_from kind_rule normal without_front_colons owner_at
no_kind environment = simp out-roll-Collector refl

-- ---- `realize`

abbrev class_a : Reference
class_a = record { kind = codes "class"; title = a }

realized_class : Fails (realize_rule class_a 7 here) 7 (what.ClassVirtual (subject.Reference class_a))
unfolding realize_rule owner_at
realized_class environment = refl
