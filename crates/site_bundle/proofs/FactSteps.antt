-- The value of an object is facts.
use Rattle.std.proofs.Common.{◌≡◌, ℕ, List, Bool, true, false, IsTrue, Option, Some, None, refl, ap, sym, subst}
use Rattle.std.specs.Prelude.{if◌then◌else◌, option_map, option_and_then}
use Rattle.json_values.specs.FromData.{data_value, member_values}
use Rattle.json_values.specs.declared.stops.Numbers.TheVariants.{Lenient}
use Rattle.pp_values.specs.Datum.{Datum, hash, Entries}
use Rattle.pp_values.specs.Facts.{are_facts, is_fact}
use Rattle.serde_json.specs.Data.{Data, Members, null, boolean, number, string, array, object}
use Rattle.site_bundle.specs.GivenFacts.{if_facts, given_facts}
use Rattle.site_bundle.specs.Nodes.{listed_facts}

of_pairs : (o : Option Entries) (d : Datum) → option_map hash o ≡ Some d → IsTrue (is_fact d) →
    option_and_then if_facts (option_map hash o) ≡ Some d
of_pairs None d made fact = absurd cc
of_pairs (Some es) d made fact =
    let e : hash es ≡ d = cc in
    subst (λ x. IsTrue (is_fact x) → option_and_then if_facts (Some (hash es)) ≡ Some x) e
    (λ f. ap (λ b. if b then Some (hash es) else None) f) fact

pub object_gives : (ms : Members) (d : Datum) → data_value Lenient (object ms) ≡ Some d → IsTrue (is_fact d) →
    given_facts (object ms) ≡ Some d
object_gives ms d made fact = of_pairs (member_values Lenient ms) d made fact

of_none : (o : Option Entries) → option_map hash o ≡ None → option_and_then if_facts (option_map hash o) ≡ None
of_none None made = refl
of_none (Some es) made = absurd cc

pub object_has_value : (ms : Members) → data_value Lenient (object ms) ≡ None → given_facts (object ms) ≡ None
object_has_value ms made = of_none (member_values Lenient ms) made

-- what is given as facts is facts

if_true : (b : Bool) (x d : Datum) → b ≡ are_facts x → (if b then Some x else None) ≡ Some d → IsTrue (are_facts d)
if_true true x d is made = let e : x ≡ d = cc in subst (λ y. IsTrue (are_facts y)) e (sym is)
if_true false x d is made = absurd cc

some_facts : (o : Option Datum) (d : Datum) → option_and_then if_facts o ≡ Some d → IsTrue (are_facts d)
some_facts None d made = absurd cc
some_facts (Some x) d made = if_true (are_facts x) x d refl made

pub given_are_facts : (j : Data) (d : Datum) → given_facts j ≡ Some d → IsTrue (are_facts d)
given_are_facts null d made = absurd cc
given_are_facts (boolean b) d made = absurd cc
given_are_facts (number n) d made = absurd cc
given_are_facts (string s) d made = absurd cc
given_are_facts (array ds) d made = absurd cc
given_are_facts (object ms) d made = some_facts (data_value Lenient (object ms)) d made

if_named : (b : Bool) (j : Data) (d : Datum) → (if b then given_facts j else None) ≡ Some d → IsTrue (are_facts d)
if_named true j d made = given_are_facts j d made
if_named false j d made = absurd cc

pub listed_are_facts : (key : List ℕ) (j : Data) (d : Datum) → listed_facts key j ≡ Some d → IsTrue (are_facts d)
listed_are_facts key j d made = if_named _ j d made

pub read_are_facts : (node : List ℕ) (o : Option Data) (d : Datum) → option_and_then (listed_facts node) o ≡ Some d →
    IsTrue (are_facts d)
read_are_facts node None d made = absurd cc
read_are_facts node (Some j) d made = listed_are_facts node j d made
