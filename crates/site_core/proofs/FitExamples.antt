-- Replies that fit a history, and some that don't; requests that are whole under one.
use Rattle.std.proofs.Common.{◌≡◌, ℕ, ◌+◌, true, false, [], ◌∷◌, ◌≤◌, ◌<◌, List, Option, None, Some, Result, Ok, Err, refl, ap, arith}
use Rattle.std.specs.Prelude.{codes, slice_get, if◌then◌else◌}
use Rattle.std.specs.Str.{bytes_eq}
use Rattle.std.proofs.Math.Dec.{lit≤}
use Rattle.list_sums.specs.Counts.{total, times, below}
use Rattle.list_sums.proofs.Marks.{below_next, below_no}
use Rattle.pp_values.specs.Datum.{Datum, hash, no_entries}
use Rattle.res_core.specs.Asked.{Wanted}
use Rattle.site_core.specs.Asked.{Asked, compile, plain}
use Rattle.res_core.specs.declared.export_set.ExportSet.{ExportSet}
use Rattle.site_core.specs.Meaning.{Meaning}
use Rattle.site_core.specs.Events.{Event, opens, publishes, adds}
use Rattle.site_core.specs.Fits.{Fits}
use Rattle.site_core.specs.Runs.{Hand, is_hand_of, times_in, Whole, picked}
use Rattle.site_core.specs.declared.plain.Plain.TheVariants as ask
use Rattle.site_core.specs.declared.reply.ReplyOf.{ReplyOf}
use Rattle.site_core.specs.declared.reply.ReplyOf.TheVariants as r

-- A site is a number, which is each catalog. Node `x` has a fault, and each other one exports nothing. The site lists
-- node `a`.

abbrev nothing : ExportSet
nothing = record { items = [] }

abbrev toy : Meaning ℕ ℕ (List ℕ)
toy site node facts sets = if bytes_eq node (codes "x") then Err node else Ok (site, nothing)

abbrev none : Datum
none = hash no_entries

abbrev listed : ℕ → List ℕ → Option Datum
listed site node = if bytes_eq node (codes "a") then Some none else None

abbrev published : ℕ → ℕ → ℕ → List ℕ → Event ℕ
published author call k node = publishes (record {
  author = author;
  call = call;
  node = node;
  facts = none;
  k = k;
  set = nothing;
})

abbrev asks : List ℕ → ℕ → Wanted
asks node seen = record { node = node; facts = None; seen = seen }

abbrev asks_with_facts : List ℕ → ℕ → Wanted
asks_with_facts node seen = record { node = node; facts = Some none; seen = seen }

-- authors 0 and 1 compile side by side, and author 0 takes its node away
abbrev four : List (Event ℕ)
four =
    opens 5 ∷ published 0 0 1 (codes "a") ∷ published 1 0 1 (codes "b")
    ∷ adds 0 1 (ask.Deactivate (codes "a")) ∷ []

abbrev behind_the_opening : List (Event ℕ)
behind_the_opening = published 0 0 1 (codes "a") ∷ published 1 0 1 (codes "b") ∷ adds 0 1 (ask.Deactivate (codes "a")) ∷ []

-- the reply fits under `four` and a limit of 4, for an author who had seen s entries
abbrev FitsFour : ℕ → ℕ → Asked ℕ → ReplyOf ℕ (List ℕ) → Type 0
FitsFour = Fits toy listed four 4

-- what fits

served : FitsFour 0 1 (compile (asks (codes "a") 1)) (r.Served 1 1 5)
served = (
  record { had = lit≤ tt; told = lit≤ tt; low = lit≤ tt; high = lit≤ tt },
  record {
    later = lit≤ tt;
    inside = lit≤ tt;
    facts = none;
    set = nothing;
    call = 0;
    means = record { site = 5; site_is = refl; facts_are = refl; meant = refl };
    at = refl;
  },
)

-- with facts of its own, and an entry that is not the one right behind the k
served_behind_another : FitsFour 1 1 (compile (asks_with_facts (codes "b") 0)) (r.Served 2 1 5)
served_behind_another = (
  record { had = lit≤ tt; told = lit≤ tt; low = lit≤ tt; high = lit≤ tt },
  record {
    later = lit≤ tt;
    inside = lit≤ tt;
    facts = none;
    set = nothing;
    call = 0;
    means = record { site = 5; site_is = refl; facts_are = refl; meant = refl };
    at = refl;
  },
)

refused : FitsFour 0 2 (compile (asks_with_facts (codes "x") 3)) (r.Refused 3 (codes "x"))
refused = (
  record { had = lit≤ tt; told = lit≤ tt; low = lit≤ tt; high = lit≤ tt },
  (none, record { site = 5; site_is = refl; facts_are = refl; meant = refl }),
)

unknown : FitsFour 0 2 (compile (asks (codes "b") 0)) (r.UnknownNode 2)
unknown = (
  record { had = lit≤ tt; told = lit≤ tt; low = lit≤ tt; high = lit≤ tt },
  record { site = 5; site_is = refl; none = refl },
)

ahead : FitsFour 0 2 (compile (asks (codes "a") 5)) (r.SeenAhead 4)
ahead = (lit≤ tt, lit≤ tt, lit≤ tt)

full : FitsFour 0 2 (compile (asks (codes "a") 3)) (r.HistoryFull 4)
full = (
  refl,
  refl,
  (
    3,
    none,
    (5, nothing),
    record { had = lit≤ tt; told = lit≤ tt; low = lit≤ tt; high = lit≤ tt },
    record { site = 5; site_is = refl; facts_are = refl; meant = refl },
  ),
)

removed : FitsFour 0 2 (plain (ask.Deactivate (codes "a"))) (r.Deactivated 3)
removed = (refl, lit≤ tt, record { inside = lit≤ tt; call = 1; at = refl })

full_for_a_removal : FitsFour 1 3 (plain (ask.Deactivate (codes "b"))) (r.HistoryFull 4)
full_for_a_removal = (refl, refl)

memory : FitsFour 0 9 (compile (asks (codes "a") 9)) r.Memory
memory = tt

-- what doesn't

-- what an entry says; 9 where it doesn't say that
abbrev site_in : Option (Event ℕ) → ℕ
site_in None = 9
site_in (Some (opens site)) = site
site_in (Some (publishes p)) = 9
site_in (Some (adds author call what)) = 9

abbrev author_in : Option (Event ℕ) → ℕ
author_in None = 9
author_in (Some (opens site)) = 9
author_in (Some (publishes p)) = p.author
author_in (Some (adds author call what)) = author

abbrev node_in : Option (Event ℕ) → List ℕ
node_in None = []
node_in (Some (opens site)) = []
node_in (Some (publishes p)) = p.node
node_in (Some (adds author call what)) = []

abbrev k_in : Option (Event ℕ) → ℕ
k_in None = 9
k_in (Some (opens site)) = 9
k_in (Some (publishes p)) = p.k
k_in (Some (adds author call what)) = 9

abbrev or_nine : Option ℕ → ℕ
or_nine None = 9
or_nine (Some n) = n

abbrev catalog_in : Result (ℕ × ExportSet) (List ℕ) → ℕ
catalog_in (Ok made) = made.0
catalog_in (Err fault) = 9

-- k is less than what the author had seen, or knew of
stale : FitsFour 1 2 (compile (asks_with_facts (codes "b") 0)) (r.Served 2 1 5) → ⊥
stale (fresh, is) = let wrong : 2 ≤ 1 = fresh.had in omega (arith, wrong)

told_of_more : FitsFour 1 1 (compile (asks_with_facts (codes "b") 2)) (r.Served 2 1 5) → ⊥
told_of_more (fresh, is) = let wrong : 2 ≤ 1 = fresh.told in omega (arith, wrong)

another_authors : FitsFour 0 1 (compile (asks_with_facts (codes "b") 0)) (r.Served 2 1 5) → ⊥
another_authors (fresh, is) = omega (arith, ap author_in is.at)

another_nodes : FitsFour 0 1 (compile (asks_with_facts (codes "b") 0)) (r.Served 1 1 5) → ⊥
another_nodes (fresh, is) =
    let wrong : false ≡ true = ap (λ e. bytes_eq (node_in e) (codes "b")) is.at in absurd (cc wrong)

-- the entry was made from the first entry, and the reply says two
another_k : FitsFour 1 1 (compile (asks_with_facts (codes "b") 0)) (r.Served 2 2 5) → ⊥
another_k (fresh, is) = omega (arith, ap k_in is.at)

a_removal_is_none : FitsFour 0 1 (compile (asks (codes "a") 0)) (r.Served 3 1 5) → ⊥
a_removal_is_none (fresh, is) = absurd (cc (is.at))

another_catalog : FitsFour 0 1 (compile (asks (codes "a") 0)) (r.Served 1 1 6) → ⊥
another_catalog (fresh, is) = omega (arith, ap or_nine is.means.site_is, ap catalog_in is.means.meant)

no_fault : FitsFour 0 1 (compile (asks (codes "a") 0)) (r.Refused 4 (codes "a")) → ⊥
no_fault (fresh, (facts, means)) = absurd (cc (means.meant))

known_after_all : FitsFour 0 1 (compile (asks (codes "a") 0)) (r.UnknownNode 4) → ⊥
known_after_all (fresh, known) = absurd (cc (known.none))

not_ahead : FitsFour 0 1 (compile (asks (codes "a") 4)) (r.SeenAhead 4) → ⊥
not_ahead (had, high, wrong) = let less : 4 < 4 = wrong in omega (arith, less)

longer_than_it_is : FitsFour 0 1 (compile (asks (codes "a") 6)) (r.SeenAhead 5) → ⊥
longer_than_it_is (had, wrong, more) = let high : 5 ≤ 4 = wrong in omega (arith, high)

not_full : Fits toy listed four 5 0 1 (compile (asks (codes "a") 0)) (r.HistoryFull 5) → ⊥
not_full (is, wrong, rest) = let full : 4 ≡ 5 = wrong in omega (arith, full)

full_at_another_length : FitsFour 0 1 (plain (ask.Deactivate (codes "a"))) (r.HistoryFull 3) → ⊥
full_at_another_length (wrong, full) = let is : 3 ≡ 4 = wrong in omega (arith, is)

not_removed : FitsFour 0 1 (plain (ask.Deactivate (codes "a"))) (r.Deactivated 1) → ⊥
not_removed (kind, had, is) = absurd (cc (is.at))

removed_before : FitsFour 0 4 (plain (ask.Deactivate (codes "a"))) (r.Deactivated 3) → ⊥
removed_before (kind, wrong, is) = let had : 4 ≤ 3 = wrong in omega (arith, had)

-- two authors

abbrev three_requests : List (Asked ℕ)
three_requests = compile (asks (codes "a") 0) ∷ compile (asks_with_facts (codes "b") 0) ∷ plain (ask.Deactivate (codes "a")) ∷ []

abbrev three_replies : List (ReplyOf ℕ (List ℕ))
three_replies = r.Served 1 1 5 ∷ r.Served 2 1 5 ∷ r.Deactivated 3 ∷ []

first_and_third : picked three_requests (0 ∷ 2 ∷ []) ≡ compile (asks (codes "a") 0) ∷ plain (ask.Deactivate (codes "a")) ∷ []
first_and_third = refl

served_at_first : FitsFour 0 1 (compile (asks (codes "a") 0)) (r.Served 1 1 5)
served_at_first = (
  record { had = lit≤ tt; told = lit≤ tt; low = lit≤ tt; high = lit≤ tt },
  record {
    later = lit≤ tt;
    inside = lit≤ tt;
    facts = none;
    set = nothing;
    call = 0;
    means = record { site = 5; site_is = refl; facts_are = refl; meant = refl };
    at = refl;
  },
)

abbrev two_hands : List Hand
two_hands = record { author = 1; places = 1 ∷ [] } ∷ record { author = 0; places = 0 ∷ 2 ∷ [] } ∷ []

each_author : (author : ℕ) → total (is_hand_of author) two_hands + below 0 author ≡ below 2 author
each_author author =
    omega (arith, below_next 1 author, below_next 0 author, below_no 0 author (omega arith))

each_place : (place : ℕ) → total (times_in place) two_hands ≡ below 3 place
each_place place =
    omega (arith, below_next 2 place, below_next 1 place, below_next 0 place, below_no 0 place (omega arith))

each_entry : (entry : ℕ) → times entry (1 ∷ 2 ∷ 3 ∷ []) + below 1 entry ≡ below 4 entry
each_entry entry = omega (arith, below_next 3 entry, below_next 2 entry, below_next 1 entry)

-- two workers, of which the one that was split off ends first
two_authors : Whole toy listed 4 2 5 three_requests three_replies four
two_authors = record {
  legal = (
    record { numbered = refl; some = lit≤ tt; earlier = lit≤ tt; exported = refl },
    (record { numbered = refl; some = lit≤ tt; earlier = lit≤ tt; exported = refl }, (refl, tt)),
  );
  begins = (behind_the_opening, refl);
  few = lit≤ tt;
  answered = refl;
  hands = two_hands;
  authors = each_author;
  shares = each_place;
  run = (
    (lit≤ tt, tt),
    (served_behind_another, tt),
    ((lit≤ tt, (lit≤ tt, tt)), (served_at_first, (removed, tt)), tt),
  );
  once = each_entry;
}

-- an entry that no reply names, and one that two name
unnamed : Whole toy listed 4 1 5 (plain (ask.Deactivate (codes "a")) ∷ []) (r.Memory ∷ [])
    (opens 5 ∷ adds 0 0 (ask.Deactivate (codes "a")) ∷ []) → ⊥
unnamed w = let wrong : 0 ≡ 1 = w.once 1 in omega (arith, wrong)

named_twice : Whole toy listed 4 1 5 (plain (ask.Deactivate (codes "a")) ∷ plain (ask.Deactivate (codes "a")) ∷ [])
    (r.Deactivated 1 ∷ r.Deactivated 1 ∷ [])
    (opens 5 ∷ adds 0 0 (ask.Deactivate (codes "a")) ∷ []) → ⊥
named_twice w = let wrong : 2 ≡ 1 = w.once 1 in omega (arith, wrong)

another_site : Whole toy listed 4 1 6 [] [] (opens 5 ∷ []) → ⊥
another_site w = omega (arith, ap (λ l. site_in (slice_get l 0)) w.begins.1)
