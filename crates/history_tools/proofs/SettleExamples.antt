-- The definitions on a site that lists one node, in a language whose every catalog is 0 and exports nothing.
use Rattle.std.proofs.Common.{◌≡◌, inl, inr, ⊎_elim, ℕ, ◌+◌, Bool, true, false, List, [], ◌∷◌, ◌++◌, drop, Option, None, Some, refl, sym, ap, ◌∙◌, subst, arith}
use Rattle.std.specs.Prelude.{Ok, Err, cond, ◌||◌, is_some, option_map}
use Rattle.std.specs.FinMap as fin
use Rattle.std.specs.Str.{bytes_eq}
use Rattle.list_sums.specs.Counts.{bit}
use Rattle.pp_values.specs.Datum.{Datum, hash, no_entries}
use Rattle.res_core.specs.declared.export_set.ExportSet.{ExportSet}
use Rattle.export_store.specs.Sets.{Sets}
use Rattle.export_store.proofs.SetLemmas.{get-with, get-none}
use Rattle.site_core.specs.Each.{Each}
use Rattle.site_core.specs.Events.{Event, opens, publishes}
use Rattle.site_core.specs.Fits.{Listed}
use Rattle.site_core.specs.Meaning.{Meaning}
use Rattle.site_core.specs.Sets.{sets_at, site_at}
use Rattle.history_tools.specs.Settles.{AreListed, Changes, published, start, IsFirstChanged, HasMetFull, IsRefused, IsFull, Settles}
use Rattle.history_tools.proofs.Settled.{put_again}
use Rattle.history_tools.specs.declared.settle_end.SettleEnd.TheVariants as e

abbrev meaning : Meaning ℕ ℕ ℕ
meaning site node facts sets = Ok (0, record { items = [] })

abbrev listed : Listed ℕ
listed site node = cond (bytes_eq node (97 ∷ [])) (Some (hash no_entries)) None

-- the node's publication from the first k entries
abbrev entry : ℕ → ℕ → Event ℕ
entry call k =
    publishes (record {
      author = 0;
      call = call;
      node = 97 ∷ [];
      facts = hash no_entries;
      k = k;
      set = record { items = [] };
    })

abbrev once : List (Event ℕ)
once = opens 7 ∷ entry 0 1 ∷ []

abbrev twice : List (Event ℕ)
twice = opens 7 ∷ entry 0 1 ∷ entry 1 2 ∷ []

-- before the third round of two nodes stand the opening and four publications
third_start : start ((97 ∷ []) ∷ (98 ∷ []) ∷ []) 2 ≡ 5
third_start = refl

two_published : (published (97 ∷ []) twice ≡ 2) × (published (98 ∷ []) twice ≡ 0)
two_published = (refl, refl)

same_bit : (o : Bool) → bit o + 0 ≡ bit (o || false)
same_bit true = refl
same_bit false = refl

lists : AreListed listed 7 ((97 ∷ []) ∷ [])
lists = record { by_name = refl; all = λ node. same_some (bytes_eq node (97 ∷ [])) } where
  same_some : (o : Bool) → (o || false) ≡ is_some (cond o (Some (hash no_entries)) None)
  same_some true = refl
  same_some false = refl

had_one : fin.get (sets_at once 2) (97 ∷ []) ≡ Some (record { items = [] })
had_one = get-with fin.empty (97 ∷ []) (97 ∷ []) (record { items = [] })

first_apart : sets_at once 1 ≡ sets_at once 2 → ⊥
first_apart is =
    let had = get-none (97 ∷ []) in let has = had_one in
    let got : fin.get (sets_at once 1) (97 ∷ []) ≡ fin.get (sets_at once 2) (97 ∷ []) =
    ap (λ s. fin.get s (97 ∷ [])) is in absurd (cc (had, has, got))

-- the first round gives the node a set, and the second one changes none
settles_in_two : Settles meaning listed 10 7 ((97 ∷ []) ∷ []) 2 2 e.Settled twice
settles_in_two = record {
  legal = (
    record { numbered = refl; some = omega arith; earlier = omega arith; exported = refl },
    (record { numbered = refl; some = omega arith; earlier = omega arith; exported = refl }, tt),
  );
  begins = (entry 0 1 ∷ entry 1 2 ∷ [], refl);
  within = omega arith;
  last = 1;
  run_is = refl;
  changed = λ r lt. let is : 0 ≡ r = omega (arith, lt) in
      subst (Changes listed 7 ((97 ∷ []) ∷ []) twice) is (record {
        all = record { compiled = ((refl, omega arith), tt); once = λ node. same_bit (bytes_eq node (97 ∷ [])) };
        apart = first_apart;
      });
  ends = (
    refl,
    record { compiled = ((refl, omega arith), tt); once = λ node. same_bit (bytes_eq node (97 ∷ [])) },
    sym (put_again (sets_at once 2) (record {
      author = 0;
      call = 1;
      node = 97 ∷ [];
      facts = hash no_entries;
      k = 2;
      set = record { items = [] };
    }) had_one),
  );
}

-- after the first round alone the search may not be told as settled
not_after_one : Settles meaning listed 10 7 ((97 ∷ []) ∷ []) 2 1 e.Settled once → ⊥
not_after_one s =
    let is : s.last ≡ 0 = let run = s.run_is in omega (arith, run) in
    first_apart (subst (λ n. sets_at once (start ((97 ∷ []) ∷ []) n) ≡ sets_at once 2) is s.ends.2)

-- the nodes `a` and `b`
abbrev two : List (List ℕ)
two = (97 ∷ []) ∷ (98 ∷ []) ∷ []

abbrev lists_two : Listed ℕ
lists_two site node = cond (bytes_eq node (97 ∷ []) || bytes_eq node (98 ∷ [])) (Some (hash no_entries)) None

-- a language in which `b` is refused by the fault 5
abbrev refuses : Meaning ℕ ℕ ℕ
refuses site node facts sets = cond (bytes_eq node (98 ∷ [])) (Err 5) (Ok (0, record { items = [] }))

-- `a` was published, and then `b` refused
second_is_refused : IsRefused refuses lists_two 10 7 once 1 two (98 ∷ []) 1 5
second_is_refused = record {
  without = refl;
  meant =
      record {
        fresh = omega arith;
        inside = omega arith;
        facts = hash no_entries;
        facts_are = refl;
        meant = refl;
      };
  front = (97 ∷ []) ∷ [];
  back = [];
  split = refl;
  earlier = (inl refl, tt);
}

-- a node that was published may not be told as refused
not_refused_where_published : (k fault : ℕ) → IsRefused refuses lists_two 10 7 once 1 two (97 ∷ []) k fault → ⊥
not_refused_where_published k fault told = let none : 1 ≡ 0 = told.without in omega (arith, none)

-- `a` was published, and for `b` there was no room
second_met_full : HasMetFull meaning lists_two 2 7 once 1 (98 ∷ [])
second_met_full = record {
  full = refl;
  without = refl;
  k = 1;
  made = (0, record { items = [] });
  meant =
      record {
        fresh = omega arith;
        inside = omega arith;
        facts = hash no_entries;
        facts_are = refl;
        meant = refl;
      };
}

full_for_the_second : IsFull meaning lists_two 2 7 once 1 two
full_for_the_second = record {
  each = (inl refl, (inr second_met_full, tt));
  node = 98 ∷ [];
  has = refl;
  met = second_met_full;
}

-- where each node was published, the history may not be told as full
not_full_where_all_published : IsFull meaning listed 2 7 once 1 ((97 ∷ []) ∷ []) → ⊥
not_full_where_all_published told =
    let one : published told.node (drop 1 once) ≡ 1 = same_bit (bytes_eq told.node (97 ∷ [])) ∙ ap bit told.has in
    let none = told.met.without in omega (arith, one, none)

has_no_catalog : (site : Option ℕ) (facts : Datum) (sets : Sets) (made : ℕ × ExportSet) →
    option_map (λ s. refuses s (98 ∷ []) facts sets) site ≡ Some (Ok made) → ⊥
has_no_catalog None facts sets made is = absurd (cc is)
has_no_catalog (Some site) facts sets made is = absurd (cc is)

-- where a node is refused whatever it was made from, the history may not be told as full
not_full_for_a_refusal : IsFull refuses lists_two 2 7 once 1 two → ⊥
not_full_for_a_refusal told =
    ⊎_elim
    (λ one. let is : 0 ≡ 1 = one in omega (arith, is))
    (λ met. has_no_catalog (site_at once met.k) met.meant.facts (sets_at once met.k) met.made met.meant.meant)
    told.each.1.0

cons_first : (x y : List ℕ) (xs ys : List (List ℕ)) → x ∷ xs ≡ y ∷ ys → x ≡ y
cons_first x y xs ys is = cc is

-- of two nodes whose sets differ the second one is not the first
not_the_second : (m n : List ℕ) (back front behind : List (List ℕ)) (old new : Sets) → (m ≡ n → ⊥) →
    (fin.get old m ≡ fin.get new m → ⊥) → m ∷ n ∷ back ≡ front ++ n ∷ behind →
    Each (λ other. fin.get old other ≡ fin.get new other) front → ⊥
not_the_second m n back [] behind old new apart changed split same =
    apart (cons_first m n (n ∷ back) behind split)
not_the_second m n back (x ∷ front) behind old new apart changed split same =
    let is = cons_first m x (n ∷ back) (front ++ n ∷ behind) split in
    changed (subst (λ q. fin.get old q ≡ fin.get new q) (sym is) same.0)

the_first_alone : (m n : List ℕ) (back : List (List ℕ)) (old new : Sets) (before : Option ExportSet)
    (after : ExportSet) → (m ≡ n → ⊥) → (fin.get old m ≡ fin.get new m → ⊥) →
    IsFirstChanged (m ∷ n ∷ back) old new n before after → ⊥
the_first_alone m n back old new before after apart changed first =
    not_the_second m n back first.front first.back old new apart changed first.split first.same
