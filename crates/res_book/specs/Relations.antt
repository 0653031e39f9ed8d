-- What declarations have to do with each other: relation lines, pairs of `contain`, collectors, and which of them the
-- blocks of collectors were applied to.
use Rattle.std.specs.Prelude.{ℕ, ◌<◌, ◌^◌, ◌==◌, ◌&&◌, Bool, List, [], ◌∷◌, ◌++◌, length, refl}
use Rattle.std.specs.BTreeSet.{insert_key}
use Rattle.std.specs.Coded.{Coded, code_by, coded×, coded_list, coded_ℕ}
use Rattle.std.specs.List.{list_any}
use Rattle.std.specs.Ordering.{nat_cmp, ordering_then}
use Rattle.std.specs.declared.cmp.Ordering.{Ordering}
use Rattle.res_book.specs.contracts.collector.Collector as collector
use Rattle.res_book.specs.contracts.containment.Containment as containment
use Rattle.res_book.specs.contracts.relation_line.RelationLine as line
use Rattle.res_book.specs.declared.collector.Collector.{Collector}
use Rattle.res_book.specs.declared.containment.Containment.{Containment}
use Rattle.res_book.specs.declared.relation_line.RelationLine.{RelationLine}

-- The first three lists are in the order of the evaluation. The last one has the numbers of each collector whose block
-- was applied and of the declaration that it was applied to: each pair once, rising.
pub record Related : Type 0 where
  pub lines : List RelationLine
  pub containments : List Containment
  pub collectors : List Collector
  pub applied : List (ℕ × ℕ)

abbrev pub related : List RelationLine → List Containment → List Collector → List (ℕ × ℕ) → Related
related ls ps cs ns = record { lines = ls; containments = ps; collectors = cs; applied = ns }

abbrev pub coded_related : Coded Related
coded_related =
    code_by ((List RelationLine × List Containment) × (List Collector × List (ℕ × ℕ)))
    (coded× (coded× (coded_list line.the_row.coded) (coded_list containment.the_row.coded))
    (coded× (coded_list collector.the_row.coded) (coded_list (coded× coded_ℕ coded_ℕ))))
    (λ r. ((r.lines, r.containments), (r.collectors, r.applied)))
    (λ p. record { lines = p.0.0; containments = p.0.1; collectors = p.1.0; applied = p.1.1 }) (λ _. refl)

abbrev pub no_relations : Related
no_relations = record { lines = []; containments = []; collectors = []; applied = [] }

abbrev pub with_line : RelationLine → Related → Related
with_line x r = record r { lines = r.lines ++ x ∷ [] }

abbrev pub with_containment : Containment → Related → Related
with_containment x r = record r { containments = r.containments ++ x ∷ [] }

abbrev pub with_collector : Collector → Related → Related
with_collector x r = record r { collectors = r.collectors ++ x ∷ [] }

-- pairs go by their first numbers, and where these are equal by their second ones
abbrev pub pair_cmp : ℕ × ℕ → ℕ × ℕ → Ordering
pair_cmp p q = ordering_then (nat_cmp p.0 q.0) (nat_cmp p.1 q.1)

abbrev pub same_pair : ℕ × ℕ → ℕ × ℕ → Bool
same_pair p q = (p.0 == q.0) && (p.1 == q.1)

-- whether the block of this collector was applied to this declaration
abbrev pub is_applied : ℕ → ℕ → Related → Bool
is_applied c n r = list_any (same_pair (c, n)) r.applied

-- it is from now on
abbrev pub with_applied : ℕ → ℕ → Related → Related
with_applied c n r = record r { applied = insert_key pair_cmp r.applied (c, n) }

-- no list has more than a number of 32 bits can count
pub record AreCounted (r : Related) : Type 0 where
  pub lines : length r.lines < 2 ^ 32
  pub containments : length r.containments < 2 ^ 32
  pub collectors : length r.collectors < 2 ^ 32
  pub applied : length r.applied < 2 ^ 32
