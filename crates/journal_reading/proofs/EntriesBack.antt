-- The entry that its own line says is the entry, and what is said to be one is one.
use Rattle.std.proofs.Common.{◌≡◌, inl, ℕ, ◌^◌, ◌<◌, ◌≤◌, Bool, true, false, ◌&&◌, if◌then◌else◌, nat_lt, List, ◌++◌, length, codes, decimal, Option, Some, None, option_map, option_and_then, refl, sym, ap, ap₂, ◌∙◌, arith, append_assoc, length-append}
use Rattle.std.proofs.lemmas.Bool.{lt-ltb, ltb-true}
use Rattle.std.proofs.lemmas.List.Sums.{count_by-le-length}
use Rattle.std.specs.Cmp.{first_so, second_so}
use Rattle.std.specs.Cmp.Derive.{both_true}
use Rattle.std.specs.List.{list_all, count_by}
use Rattle.std.specs.Str.{bytes_eq}
use Rattle.json.specs.Print.{quoted}
use Rattle.serde_json.proofs.OnLiterals.{serde_json_on_literals}
use Rattle.serde_json.specs.Data.{Data, null, Items, no_items, item, string, array}
use Rattle.serde_json.specs.Data as j
use Rattle.serde_json.specs.Find.{get, as_array, as_number, as_u64}
use Rattle.serde_json.specs.Written.{compact_text}
use Rattle.pp_values.specs.Datum.{Datum}
use Rattle.pp_values.specs.Facts.{are_facts}
use Rattle.res_core.specs.declared.exported.Exported.{Exported}
use Rattle.agent_machine.specs.declared.report.Report.{Report}
use Rattle.agent_machine.specs.declared.report_line.ReportLine.{ReportLine}
use Rattle.site_core.specs.Events.{Publication, Event, opens, publishes, adds, is_later}
use Rattle.site_core.specs.declared.plain.Plain.TheVariants as ask
use Rattle.json_values.specs.FromData.{both}
use Rattle.json_documents.specs.ExactData.{has_rising, is_read, are_items_read}
use Rattle.json_documents.specs.ProperValues.{is_proper}
use Rattle.json_documents.specs.SmallNumbers.{has_small}
use Rattle.json_documents.proofs.Lengths.{as_long, long_list}
use Rattle.json_documents.proofs.ReadData.{Each, any, all, each_then, each_if, each_both}
use Rattle.json_documents.proofs.SmallForms.{form_small, form_rises, all_small, all_rise}
use Rattle.agent_docs.specs.ReportText.{has_changed, has_failed, was_noop, fault_data, line_object, line_data, report_object, report_data, report_text, IsReport}
use Rattle.agent_docs.specs.ReportReading.{text_at, items_at, report_in}
use Rattle.agent_docs.proofs.ReportsRead.{Holds, holds_then, holds_if, is_same, same_bytes, report_complete, report_sound}
use Rattle.site_bundle.specs.SiteView.{SiteView}
use Rattle.site_docs.specs.JournalText.{publication_object, deactivation_object, deployment_object, filing_object, plain_data, entry_data}
use Rattle.journal_reading.specs.Journals.{IsSite, is_count, is_export, is_publication, IsEntry}
use Rattle.journal_reading.specs.EntryReading.{if_count, number_at, maker_said, exports_said, work_said, publication_of, named_said, publication_said, removal_of, removal_said, deployment_of, deployment_said, within, filing_of, filing_in, filing_said, said_as, entry_said}
use Rattle.journal_reading.specs.SiteReading.{facts_said, site_said}
use Rattle.journal_reading.proofs.ExportsBack.{exports_back, exports_small, exports_rise, exports_good}
use Rattle.journal_reading.proofs.SitesBack.{site_back, site_small, site_rises, site_holds, read_at, facts_back, proper_facts, facts_proper, holds_both}
use Rattle.journal_reading.proofs.TextCuts.{found_within, within_short, holds_step}

count_back : (n : ℕ) → is_count n ≡ true → if_count n ≡ Some n
count_back n h = ap (λ b. if b then Some n else None) h

count_small : (n : ℕ) → is_count n ≡ true → nat_lt n (2 ^ 64) ≡ true
count_small n h = let below : n < 2 ^ 32 = ltb-true _ _ h in lt-ltb n (2 ^ 64) (omega arith)

-- ---- publications

abbrev after_author : Publication → Bool
after_author p = is_count p.call && (is_count p.k && (are_facts p.facts && (is_proper p.facts && list_all is_export p.set.items)))

abbrev after_call : Publication → Bool
after_call p = is_count p.k && (are_facts p.facts && (is_proper p.facts && list_all is_export p.set.items))

abbrev after_k : Publication → Bool
after_k p = are_facts p.facts && (is_proper p.facts && list_all is_export p.set.items)

record Parts (p : Publication) : Type 0 where
  author : is_count p.author ≡ true
  call : is_count p.call ≡ true
  k : is_count p.k ≡ true
  facts : are_facts p.facts ≡ true
  proper : is_proper p.facts ≡ true
  set : list_all is_export p.set.items ≡ true

parts_of : (p : Publication) → is_publication p ≡ true → Parts p
parts_of p h =
    let a = second_so (is_count p.author) (after_author p) h in
    let b = second_so (is_count p.call) (after_call p) a in
    let c = second_so (is_count p.k) (after_k p) b in
    let d = second_so (are_facts p.facts) (is_proper p.facts && list_all is_export p.set.items) c in record {
      author = first_so (is_count p.author) (after_author p) h;
      call = first_so (is_count p.call) (after_call p) a;
      k = first_so (is_count p.k) (after_k p) b;
      facts = first_so (are_facts p.facts) (is_proper p.facts && list_all is_export p.set.items) c;
      proper = first_so (is_proper p.facts) (list_all is_export p.set.items) d;
      set = second_so (is_proper p.facts) (list_all is_export p.set.items) d;
    }

publication_back : (n : ℕ) (p : Publication) → is_publication p ≡ true →
    publication_said (entry_data n (publishes p)) ≡ Some (publishes p)
unfolding publication_said entry_data publication_object serde_json_on_literals
publication_back n p h =
    let q = parts_of p h in λ i. both publication_of
    (both (λ maker node. (maker, node)) (both (λ author call. (author, call)) (count_back p.author q.author i) (count_back p.call q.call i)) (Some p.node))
    (both (λ facts rest. (facts, rest)) (facts_back p.facts q.facts q.proper i)
    (both (λ k items. (k, items)) (count_back p.k q.k i) (exports_back p.set.items q.set i)))

publication_small : (n : ℕ) (p : Publication) → n < 2 ^ 64 → is_publication p ≡ true →
    has_small (entry_data n (publishes p)) ≡ true
unfolding entry_data publication_object
publication_small n p fits h =
    let q = parts_of p h in
    both_true (count_small p.author q.author) (both_true (count_small p.call q.call)
    (both_true (lt-ltb n (2 ^ 64) fits) (both_true (form_small p.facts q.proper)
    (both_true (count_small p.k q.k) (both_true (exports_small p.set.items q.set) refl)))))

publication_rises : (n : ℕ) (p : Publication) → is_publication p ≡ true → has_rising (entry_data n (publishes p)) ≡ true
unfolding entry_data publication_object
publication_rises n p h = both_true (form_rises p.facts) (both_true (exports_rise p.set.items (parts_of p h).set) refl)

-- ---- deactivations and deployments

maker_of : (a c : ℕ) → (is_count a && is_count c) ≡ true →
    both {C = ℕ × ℕ} (λ author call. (author, call)) (if_count a) (if_count c) ≡ Some (a, c)
maker_of a c h =
    ap₂ (both {C = ℕ × ℕ} (λ author call. (author, call))) (count_back a (first_so (is_count a) _ h)) (count_back c (second_so (is_count a) _ h))

removal_back : (n a c : ℕ) (node : List ℕ) → (is_count a && is_count c) ≡ true →
    removal_said (entry_data n (adds a c (ask.Deactivate node))) ≡ Some (adds a c (ask.Deactivate node))
unfolding removal_said entry_data plain_data deactivation_object serde_json_on_literals
removal_back n a c node h = ap (λ o. option_map removal_of (both (λ maker text. (maker, text)) o (Some node))) (maker_of a c h)

deployment_back : (n a c : ℕ) (s : SiteView) → (is_count a && is_count c) ≡ true → IsSite s →
    deployment_said (entry_data n (adds a c (ask.Deploy s))) ≡ Some (adds a c (ask.Deploy s))
unfolding deployment_said entry_data plain_data deployment_object serde_json_on_literals
deployment_back n a c s h site = λ i. both deployment_of (maker_of a c h i) (site_back s site i)

-- ---- reports

abbrev filing_front : (a c n : ℕ) → List ℕ → List ℕ
filing_front a c n node =
    codes "{\"author\":" ++ (decimal a ++ (codes ",\"call\":" ++ (decimal c ++ (codes ",\"entry\":" ++ (decimal n ++
    (codes ",\"kind\":\"report\",\"node\":" ++ (quoted node ++ codes ",\"report\":")))))))

filing_text : (a c n : ℕ) (node : List ℕ) (d : Data) →
    compact_text (filing_object a c n node d) ≡ filing_front a c n node ++ (compact_text d ++ codes "}")
unfolding filing_object serde_json_on_literals
filing_text a c n node d = simp append_assoc

report_within : (a c n : ℕ) (node : List ℕ) (r : Report) →
    within (compact_text (filing_object a c n node null)) (compact_text (filing_object a c n node (report_data r)))
    ≡ Some (report_text r)
report_within a c n node r =
    ap₂ within (filing_text a c n node null) (filing_text a c n node (report_data r))
    ∙ found_within (filing_front a c n node) (report_text r)

report_shorter : (a c n : ℕ) (node : List ℕ) (r : Report) →
    length (report_text r) ≤ length (compact_text (filing_object a c n node (report_data r)))
report_shorter a c n node r =
    omega (
      arith,
      ap length (filing_text a c n node (report_data r)),
      length-append (filing_front a c n node) (report_text r ++ codes "}"),
      length-append (report_text r) (codes "}"),
    )

own_filing : (a c : ℕ) (node : List ℕ) (r : Report) → r.node ≡ node →
    filing_of ((a, c), node) r ≡ Some (adds a c (ask.Report node r))
own_filing a c node r e =
    ap (λ own. if own then Some (adds a c (ask.Report node r)) else None) (is_same r.node node (sym e))

filing_back : (n a c : ℕ) (node : List ℕ) (r : Report) → (is_count a && is_count c) ≡ true → IsReport r → r.node ≡ node →
    length (compact_text (filing_object a c n node (report_data r))) < 2 ^ 64 →
    filing_said n (compact_text (filing_object a c n node (report_data r))) (entry_data n (adds a c (ask.Report node r)))
    ≡ Some (adds a c (ask.Report node r))
unfolding filing_said entry_data plain_data filing_object serde_json_on_literals
filing_back n a c node r h report own short =
    ap (λ o. option_and_then (filing_in n (compact_text (filing_object a c n node (report_data r))))
    (both (λ maker text. (maker, text)) o (Some node))) (maker_of a c h)
    ∙ ap (λ o. option_and_then (filing_of ((a, c), node)) (option_and_then report_in o)) (report_within a c n node r)
    ∙ ap (option_and_then (filing_of ((a, c), node)))
    (report_complete r (report_text r) (omega (arith, report_shorter a c n node r, short)) (report, inl refl))
    ∙ own_filing a c node r own

small_count : {X : Type 0} (p : X → Bool) (xs : List X) → length xs < 2 ^ 64 → nat_lt (count_by p xs) (2 ^ 64) ≡ true
small_count p xs h = lt-ltb (count_by p xs) (2 ^ 64) (omega (arith, count_by-le-length p xs, h))

fault_small : (f : Option (List ℕ)) → has_small (fault_data f) ≡ true
fault_small None = refl
fault_small (Some t) = refl

line_small : (l : ReportLine) → has_small (line_data l) ≡ true
unfolding line_data line_object
line_small l = both_true (all_small string (λ t. refl) l.changes) (both_true (fault_small l.fault) refl)

report_small : (r : Report) → length r.lines < 2 ^ 64 → has_small (report_data r) ≡ true
unfolding report_data report_object
report_small r h =
    both_true (small_count has_changed r.lines h) (both_true (small_count has_failed r.lines h)
    (both_true (small_count was_noop r.lines h) (both_true (all_small line_data line_small r.lines) refl)))

fault_rises : (f : Option (List ℕ)) → has_rising (fault_data f) ≡ true
fault_rises None = refl
fault_rises (Some t) = refl

line_rises : (l : ReportLine) → has_rising (line_data l) ≡ true
unfolding line_data line_object
line_rises l = both_true (all_rise string (λ t. refl) l.changes) (both_true (fault_rises l.fault) refl)

report_rises : (r : Report) → has_rising (report_data r) ≡ true
unfolding report_data report_object
report_rises r = both_true (all_rise line_data line_rises r.lines) refl

lines_fit : (r : Report) → length r.lines ≤ length (report_text r)
unfolding report_data report_object
lines_fit r = omega (arith, long_list line_data r.lines, as_long (report_data r))

-- ---- any entry but the one that opens a site

-- its line is not too long
abbrev IsShort : ℕ → Event SiteView → Type 0
IsShort n e = length (compact_text (entry_data n e)) < 2 ^ 64

short_filing : (n a c : ℕ) (node : List ℕ) (r : Report) → IsShort n (adds a c (ask.Report node r)) →
    length (compact_text (filing_object a c n node (report_data r))) < 2 ^ 64
unfolding entry_data plain_data
short_filing n a c node r h = h

filing_line : (n a c : ℕ) (node : List ℕ) (r : Report) →
    entry_said n (compact_text (filing_object a c n node (report_data r))) (entry_data n (adds a c (ask.Report node r)))
    ≡ filing_said n (compact_text (filing_object a c n node (report_data r))) (entry_data n (adds a c (ask.Report node r))) →
    entry_said n (compact_text (entry_data n (adds a c (ask.Report node r)))) (entry_data n (adds a c (ask.Report node r)))
    ≡ filing_said n (compact_text (filing_object a c n node (report_data r))) (entry_data n (adds a c (ask.Report node r)))
unfolding entry_data plain_data
filing_line n a c node r h = h

says_filing : (n a c : ℕ) (line node : List ℕ) (r : Report) →
    entry_said n line (entry_data n (adds a c (ask.Report node r)))
    ≡ filing_said n line (entry_data n (adds a c (ask.Report node r)))
unfolding entry_data plain_data filing_object serde_json_on_literals
says_filing n a c line node r = refl

says_deployment : (n a c : ℕ) (line : List ℕ) (s : SiteView) →
    entry_said n line (entry_data n (adds a c (ask.Deploy s))) ≡ deployment_said (entry_data n (adds a c (ask.Deploy s)))
unfolding entry_data plain_data deployment_object serde_json_on_literals
says_deployment n a c line s = refl

says_removal : (n a c : ℕ) (line node : List ℕ) →
    entry_said n line (entry_data n (adds a c (ask.Deactivate node))) ≡ removal_said (entry_data n (adds a c (ask.Deactivate node)))
unfolding entry_data plain_data deactivation_object serde_json_on_literals
says_removal n a c line node = refl

says_publication : (n : ℕ) (line : List ℕ) (p : Publication) →
    entry_said n line (entry_data n (publishes p)) ≡ publication_said (entry_data n (publishes p))
unfolding entry_data publication_object serde_json_on_literals
says_publication n line p = refl

pub entry_back : (n : ℕ) (e : Event SiteView) → is_later e ≡ true → IsEntry e → IsShort n e →
    entry_said n (compact_text (entry_data n e)) (entry_data n e) ≡ Some e
entry_back n (opens s) later h short = absurd cc
entry_back n (publishes p) later h short =
    says_publication n (compact_text (entry_data n (publishes p))) p ∙ publication_back n p h
entry_back n (adds a c (ask.Deactivate node)) later h short =
    says_removal n a c (compact_text (entry_data n (adds a c (ask.Deactivate node)))) node ∙ removal_back n a c node h.0
entry_back n (adds a c (ask.Deploy s)) later h short =
    says_deployment n a c (compact_text (entry_data n (adds a c (ask.Deploy s)))) s ∙ deployment_back n a c s h.0 h.1
entry_back n (adds a c (ask.Report node r)) later h short =
    filing_line n a c node r (says_filing n a c (compact_text (filing_object a c n node (report_data r))) node r)
    ∙ filing_back n a c node r h.0 h.1.0 h.1.1 (short_filing n a c node r short)

-- ---- small numbers and rising names

removal_small : (n a c : ℕ) (node : List ℕ) → n < 2 ^ 64 → (is_count a && is_count c) ≡ true →
    has_small (entry_data n (adds a c (ask.Deactivate node))) ≡ true
unfolding entry_data plain_data deactivation_object
removal_small n a c node fits h =
    both_true (count_small a (first_so (is_count a) _ h)) (both_true (count_small c (second_so (is_count a) _ h))
    (both_true (lt-ltb n (2 ^ 64) fits) refl))

deployment_small : (n a c : ℕ) (s : SiteView) → n < 2 ^ 64 → (is_count a && is_count c) ≡ true → IsSite s →
    has_small (entry_data n (adds a c (ask.Deploy s))) ≡ true
unfolding entry_data plain_data deployment_object
deployment_small n a c s fits h site =
    both_true (count_small a (first_so (is_count a) _ h)) (both_true (count_small c (second_so (is_count a) _ h))
    (both_true (lt-ltb n (2 ^ 64) fits) (both_true (site_small s site) refl)))

filing_parts_small : (n a c : ℕ) (node : List ℕ) (r : Report) → n < 2 ^ 64 → (is_count a && is_count c) ≡ true →
    has_small (report_data r) ≡ true → has_small (filing_object a c n node (report_data r)) ≡ true
unfolding filing_object
filing_parts_small n a c node r fits h one =
    both_true (count_small a (first_so (is_count a) _ h)) (both_true (count_small c (second_so (is_count a) _ h))
    (both_true (lt-ltb n (2 ^ 64) fits) (both_true one refl)))

filing_small : (n a c : ℕ) (node : List ℕ) (r : Report) → n < 2 ^ 64 → (is_count a && is_count c) ≡ true →
    IsShort n (adds a c (ask.Report node r)) → has_small (entry_data n (adds a c (ask.Report node r))) ≡ true
unfolding entry_data plain_data
filing_small n a c node r fits h short =
    let few : length r.lines < 2 ^ 64 = omega (arith, lines_fit r, report_shorter a c n node r, short) in
    filing_parts_small n a c node r fits h (report_small r few)

pub entry_small : (n : ℕ) (e : Event SiteView) → is_later e ≡ true → n < 2 ^ 64 → IsEntry e → IsShort n e →
    has_small (entry_data n e) ≡ true
entry_small n (opens s) later fits h short = absurd cc
entry_small n (publishes p) later fits h short = publication_small n p fits h
entry_small n (adds a c (ask.Deactivate node)) later fits h short = removal_small n a c node fits h.0
entry_small n (adds a c (ask.Deploy s)) later fits h short = deployment_small n a c s fits h.0 h.1
entry_small n (adds a c (ask.Report node r)) later fits h short = filing_small n a c node r fits h.0 short

removal_rises : (n a c : ℕ) (node : List ℕ) → has_rising (entry_data n (adds a c (ask.Deactivate node))) ≡ true
unfolding entry_data plain_data deactivation_object
removal_rises n a c node = refl

deployment_rises : (n a c : ℕ) (s : SiteView) → IsSite s → has_rising (entry_data n (adds a c (ask.Deploy s))) ≡ true
unfolding entry_data plain_data deployment_object
deployment_rises n a c s site = both_true (site_rises s site) refl

filing_rises : (n a c : ℕ) (node : List ℕ) (r : Report) → has_rising (entry_data n (adds a c (ask.Report node r))) ≡ true
unfolding entry_data plain_data filing_object
filing_rises n a c node r = both_true (report_rises r) refl

pub entry_rises : (n : ℕ) (e : Event SiteView) → is_later e ≡ true → IsEntry e → has_rising (entry_data n e) ≡ true
entry_rises n (opens s) later h = absurd cc
entry_rises n (publishes p) later h = publication_rises n p h
entry_rises n (adds a c (ask.Deactivate node)) later h = removal_rises n a c node
entry_rises n (adds a c (ask.Deploy s)) later h = deployment_rises n a c s h.1
entry_rises n (adds a c (ask.Report node r)) later h = filing_rises n a c node r

-- ---- what is said is an entry

number_good : (k : List ℕ) (d : Data) → Each is_count (number_at k d)
number_good k d =
    each_then any is_count if_count (λ n h. each_if is_count (is_count n) (Some n) None (λ e. e) (λ e. tt))
    (option_and_then as_u64 (option_and_then as_number (get k d))) (all _)

abbrev good_maker : ℕ × ℕ → Bool
good_maker m = is_count m.0 && is_count m.1

maker_good : (d : Data) → Each good_maker (maker_said d)
maker_good d =
    each_both is_count is_count good_maker (λ author call. (author, call)) (λ a c x y. both_true x y)
    (number_at (codes "author") d) (number_at (codes "call") d) (number_good (codes "author") d) (number_good (codes "call") d)

abbrev good_named : (ℕ × ℕ) × List ℕ → Bool
good_named n = good_maker n.0

named_good : (d : Data) → Each good_named (named_said d)
named_good d =
    each_both good_maker any good_named (λ maker node. (maker, node)) (λ m t x y. x) (maker_said d) (text_at (codes "node") d)
    (maker_good d) (all _)

its_items : (d : Data) → is_read d ≡ true → Each are_items_read (as_array d)
its_items j.null h = tt
its_items (j.boolean b) h = tt
its_items (j.number n) h = tt
its_items (j.string s) h = tt
its_items (j.array ds) h = h
its_items (j.object ms) h = tt

abbrev good_work : Datum × (ℕ × List Exported) → Bool
good_work w = proper_facts w.0 && (is_count w.1.0 && list_all is_export w.1.1)

abbrev good_rest : ℕ × List Exported → Bool
good_rest r = is_count r.0 && list_all is_export r.1

work_good : (d : Data) → is_read d ≡ true → Each good_work (work_said d)
work_good d h =
    each_both proper_facts good_rest good_work (λ facts rest. (facts, rest)) (λ f r x y. both_true x y)
    (option_and_then facts_said (get (codes "facts") d))
    (both (λ k items. (k, items)) (number_at (codes "k") d) (option_and_then exports_said (items_at (codes "set") d)))
    (each_then is_read proper_facts facts_said facts_proper (get (codes "facts") d) (read_at (codes "facts") d h))
    (each_both is_count (list_all is_export) good_rest (λ k items. (k, items)) (λ k es x y. both_true x y)
    (number_at (codes "k") d) (option_and_then exports_said (items_at (codes "set") d)) (number_good (codes "k") d)
    (each_then are_items_read (list_all is_export) exports_said exports_good (items_at (codes "set") d)
    (each_then is_read are_items_read as_array its_items (get (codes "set") d) (read_at (codes "set") d h))))

publication_step : (named : (ℕ × ℕ) × List ℕ) (w : Datum × (ℕ × List Exported)) → good_named named ≡ true →
    good_work w ≡ true → IsEntry (publication_of named w)
publication_step named w h g =
    let facts = first_so (proper_facts w.0) (good_rest w.1) g in
    let rest = second_so (proper_facts w.0) (good_rest w.1) g in
    both_true (first_so (is_count named.0.0) (is_count named.0.1) h)
    (both_true (second_so (is_count named.0.0) (is_count named.0.1) h)
    (both_true (first_so (is_count w.1.0) (list_all is_export w.1.1) rest)
    (both_true (first_so (are_facts w.0) (is_proper w.0) facts)
    (both_true (second_so (are_facts w.0) (is_proper w.0) facts)
    (second_so (is_count w.1.0) (list_all is_export w.1.1) rest)))))

publication_holds : (d : Data) → is_read d ≡ true → Holds IsEntry (publication_said d)
unfolding publication_said
publication_holds d h =
    holds_both good_named good_work IsEntry publication_of publication_step (named_said d) (work_said d) (named_good d) (work_good d h)

pub holds_map : {A B : Type 0} (f : A → Bool) (P : B → Type 0) (make : A → B) → ((a : A) → f a ≡ true → P (make a)) →
    (o : Option A) → Each f o → Holds P (option_map make o)
holds_map f P make step None h = tt
holds_map f P make step (Some a) h = step a h

removal_holds : (d : Data) → Holds IsEntry (removal_said d)
unfolding removal_said
removal_holds d = holds_map good_named IsEntry removal_of (λ n h. (h, tt)) (named_said d) (named_good d)

holds_with : {A B C : Type 0} (f : A → Bool) (Q : B → Type 0) (P : C → Type 0) (make : A → B → C) →
    ((a : A) (b : B) → f a ≡ true → Q b → P (make a b)) → (o : Option A) (p : Option B) →
    Each f o → Holds Q p → Holds P (both make o p)
holds_with f Q P make step None p x y = tt
holds_with f Q P make step (Some a) None x y = tt
holds_with f Q P make step (Some a) (Some b) x y = step a b x y

deployment_holds : (d : Data) → is_read d ≡ true → Holds IsEntry (deployment_said d)
unfolding deployment_said
deployment_holds d h =
    holds_with good_maker IsSite IsEntry deployment_of (λ m s x y. (x, y)) (maker_said d)
    (option_and_then site_said (get (codes "site") d)) (maker_good d)
    (holds_then is_read IsSite site_said site_holds (get (codes "site") d) (read_at (codes "site") d h))

report_holds : (t : List ℕ) → length t < 2 ^ 64 → Holds IsReport (report_in t)
report_holds t short =
    elim (report_in t) as (λ o. report_in t ≡ o → Holds IsReport o) [
      | None ↦ λ e. tt
      | Some r ↦ λ e. (report_sound r t short e).0
    ] refl

filing_holds_in : (n : ℕ) (line : List ℕ) → length line < 2 ^ 64 → (named : (ℕ × ℕ) × List ℕ) → good_named named ≡ true →
    Holds IsEntry (filing_in n line named)
filing_holds_in n line short named h =
    let without = compact_text (filing_object named.0.0 named.0.1 n named.1 null) in
    holds_step IsReport IsEntry (filing_of named)
    (λ r g. holds_if IsEntry (bytes_eq r.node named.1) (adds named.0.0 named.0.1 (ask.Report named.1 r))
    (λ own. (h, (g, sym (same_bytes r.node named.1 own)))))
    (option_and_then report_in (within without line))
    (holds_step (λ t. length t ≤ length line) IsReport report_in (λ t le. report_holds t (omega (arith, le, short)))
    (within without line) (within_short without line))

filing_holds : (n : ℕ) (line : List ℕ) (d : Data) → length line < 2 ^ 64 → Holds IsEntry (filing_said n line d)
unfolding filing_said
filing_holds n line d short =
    holds_then good_named IsEntry (filing_in n line) (filing_holds_in n line short) (named_said d) (named_good d)

holds_either : {A : Type 0} (P : A → Type 0) (b : Bool) (o p : Option A) → Holds P o → Holds P p →
    Holds P (if b then o else p)
holds_either P true o p x y = x
holds_either P false o p x y = y

said_holds : (n : ℕ) (line : List ℕ) (d : Data) (kind : List ℕ) → length line < 2 ^ 64 → is_read d ≡ true →
    Holds IsEntry (said_as n line d kind)
said_holds n line d kind short h =
    holds_either IsEntry (bytes_eq kind (codes "publish")) _ _ (publication_holds d h)
    (holds_either IsEntry (bytes_eq kind (codes "deactivate")) _ _ (removal_holds d)
    (holds_either IsEntry (bytes_eq kind (codes "deploy")) _ _ (deployment_holds d h)
    (holds_either IsEntry (bytes_eq kind (codes "report")) _ _ (filing_holds n line d short) tt)))

pub entry_holds : (n : ℕ) (line : List ℕ) (d : Data) → length line < 2 ^ 64 → is_read d ≡ true →
    Holds IsEntry (entry_said n line d)
entry_holds n line d short h =
    holds_then any IsEntry (said_as n line d) (λ kind k. said_holds n line d kind short h) (text_at (codes "kind") d) (all _)
