-- Journals of one text are of one history.
use Rattle.std.proofs.Common.{◌≡◌, ℕ, suc, ◌+◌, ◌^◌, ◌<◌, Bool, true, false, List, [], ◌∷◌, ◌++◌, length, codes, Option, Some, None, option_and_then, refl, sym, ap, ap₂, subst, ◌∙◌, arith, length-append}
use Rattle.std.specs.Cmp.{first_so, second_so}
use Rattle.std.specs.List.{list_all}
use Rattle.serde_json.specs.Data.{Data}
use Rattle.serde_json.specs.Find.{get}
use Rattle.serde_json.specs.Written.{compact_text}
use Rattle.site_core.specs.Events.{Event, opens, publishes, adds, is_later}
use Rattle.json_documents.specs.LinesOfText.{cut_at}
use Rattle.json_documents.specs.Tokens.{line}
use Rattle.json_documents.proofs.Cutting.{split_here}
use Rattle.json_documents.proofs.Feeds.{no_feed}
use Rattle.json_documents.proofs.ReadBack.{one_value}
use Rattle.agent_docs.proofs.ReportsRead.{is_same}
use Rattle.site_bundle.specs.SiteView.{SiteView}
use Rattle.site_docs.specs.JournalText.{count_object, entry_data, entry_lines, journal_text}
use Rattle.journal_reading.specs.Journals.{IsSite, IsEntry, AreAll, IsHistory, first_text}
use Rattle.journal_reading.specs.EntryReading.{entry_said}
use Rattle.journal_reading.specs.JournalLaws.{JournalsAreToldApart, FirstJournalsAreToldApart}
use Rattle.journal_reading.specs.JournalLines.{opening_data}
use Rattle.journal_reading.specs.SiteReading.{site_said}
use Rattle.journal_reading.proofs.EntriesBack.{entry_back, entry_small}
use Rattle.journal_reading.proofs.JournalsRead.{one_more_line, one_line_more}
use Rattle.journal_reading.proofs.LinesRead.{not_last, opening_small, opening_site}
use Rattle.journal_reading.proofs.SitesBack.{site_back}

abbrev Events : Type 0
Events = List (Event SiteView)

true_false : {P : Type 0} → true ≡ false → P
true_false e = absurd cc

false_true : {P : Type 0} → false ≡ true → P
false_true e = absurd cc

abbrev some_or : {A : Type 0} → A → Option A → A
some_or d None = d
some_or d (Some a) = a

abbrev front_or : List ℕ → Option (List ℕ × List ℕ) → List ℕ
front_or d None = d
front_or d (Some p) = p.0

abbrev back_or : List ℕ → Option (List ℕ × List ℕ) → List ℕ
back_or d None = d
back_or d (Some p) = p.1

-- of two texts that are one the first lines are one, and what stands behind them
alike : (d e : Data) (a b : List ℕ) → compact_text d ++ 10 ∷ a ≡ compact_text e ++ 10 ∷ b →
    (compact_text d ≡ compact_text e) × (a ≡ b)
alike d e a b same =
    let cut : Some (compact_text d, a) ≡ Some (compact_text e, b) =
    sym (split_here 10 (compact_text d) a (no_feed d)) ∙ ap (cut_at 10) same ∙ split_here 10 (compact_text e) b (no_feed e) in
    (ap (front_or (compact_text d)) cut, ap (back_or a) cut)

one_entry : (n : ℕ) (e f : Event SiteView) → n < 2 ^ 64 → is_later e ≡ true → is_later f ≡ true → IsEntry e → IsEntry f →
    length (compact_text (entry_data n e)) < 2 ^ 64 → compact_text (entry_data n e) ≡ compact_text (entry_data n f) → e ≡ f
one_entry n e f fits le lf he hf short same =
    let other : length (compact_text (entry_data n f)) < 2 ^ 64 = subst (λ t. length t < 2 ^ 64) same short in
    let data_same = one_value (entry_data n e) (entry_data n f) (entry_small n e le fits he short) (entry_small n f lf fits hf other) same in
    ap (some_or e) (sym (entry_back n e le he short) ∙ ap₂ (entry_said n) same data_same ∙ entry_back n f lf hf other)

last_apart : {P : Type 0} (n m : ℕ) (e : Event SiteView) → is_later e ≡ true →
    compact_text (count_object m) ≡ compact_text (entry_data n e) → P
last_apart n m e h same =
    true_false (sym (is_same (compact_text (count_object m)) (compact_text (entry_data n e)) (sym same)) ∙ not_last n m e h)

same_behind : (n : ℕ) (es fs : Events) → list_all is_later es ≡ true → list_all is_later fs ≡ true → AreAll IsEntry es →
    AreAll IsEntry fs → n + length es < 2 ^ 64 → (a b : ℕ) → length (entry_lines n es ++ line (count_object a)) < 2 ^ 64 →
    entry_lines n es ++ line (count_object a) ≡ entry_lines n fs ++ line (count_object b) → es ≡ fs
unfolding entry_lines
same_behind n [] [] le lf he hf few a b short same = refl
same_behind n [] (f ∷ fs) le lf he hf few a b short same =
    last_apart n a f (first_so (is_later f) _ lf)
    (alike (count_object a) (entry_data n f) [] (entry_lines (n + 1) fs ++ line (count_object b))
    (same ∙ sym (one_more_line (compact_text (entry_data n f)) (entry_lines (n + 1) fs) (line (count_object b))))).0
same_behind n (e ∷ es) [] le lf he hf few a b short same =
    last_apart n b e (first_so (is_later e) _ le)
    (sym (alike (entry_data n e) (count_object b) (entry_lines (n + 1) es ++ line (count_object a)) []
    (one_more_line (compact_text (entry_data n e)) (entry_lines (n + 1) es) (line (count_object a)) ∙ same)).0)
same_behind n (e ∷ es) (f ∷ fs) le lf he hf few a b short same =
    let more = one_more_line (compact_text (entry_data n e)) (entry_lines (n + 1) es) (line (count_object a)) in
    let parts = alike (entry_data n e) (entry_data n f) (entry_lines (n + 1) es ++ line (count_object a))
    (entry_lines (n + 1) fs ++ line (count_object b))
    (more ∙ same ∙ sym (one_more_line (compact_text (entry_data n f)) (entry_lines (n + 1) fs) (line (count_object b)))) in
    let whole : length (compact_text (entry_data n e) ++ 10 ∷ (entry_lines (n + 1) es ++ line (count_object a))) < 2 ^ 64 =
    subst (λ t. length t < 2 ^ 64) (sym more) short in
    let sizes = length-append (compact_text (entry_data n e)) (10 ∷ (entry_lines (n + 1) es ++ line (count_object a))) in
    ap₂ (λ x xs. x ∷ xs)
    (one_entry n e f (omega (arith, few)) (first_so (is_later e) _ le) (first_so (is_later f) _ lf) he.0 hf.0
    (omega (arith, whole, sizes)) parts.0)
    (same_behind (n + 1) es fs (second_so (is_later e) _ le) (second_so (is_later f) _ lf) he.1 hf.1 (omega (arith, few)) a b
    (omega (arith, whole, sizes)) parts.1)

same_site : (first : Bool) (s t : SiteView) → IsSite s → IsSite t →
    compact_text (opening_data first s) ≡ compact_text (opening_data first t) → s ≡ t
same_site first s t h g same =
    let data_same = one_value (opening_data first s) (opening_data first t) (opening_small first s h) (opening_small first t g) same in
    ap (some_or s) (sym (site_back s h) ∙ ap (option_and_then site_said)
    (sym (opening_site first s) ∙ ap (get (codes "site")) data_same ∙ opening_site first t) ∙ site_back t g)

same_history : (first : Bool) (s t : SiteView) (es fs : Events) → IsHistory (opens s ∷ es) → IsHistory (opens t ∷ fs) →
    (a b : ℕ) → length (compact_text (opening_data first s) ++ 10 ∷ (entry_lines 1 es ++ line (count_object a))) < 2 ^ 64 →
    compact_text (opening_data first s) ++ 10 ∷ (entry_lines 1 es ++ line (count_object a))
    ≡ compact_text (opening_data first t) ++ 10 ∷ (entry_lines 1 fs ++ line (count_object b)) → opens s ∷ es ≡ opens t ∷ fs
same_history first s t es fs h g a b short same =
    let parts = alike (opening_data first s) (opening_data first t) (entry_lines 1 es ++ line (count_object a))
    (entry_lines 1 fs ++ line (count_object b)) same in
    let sizes = length-append (compact_text (opening_data first s)) (10 ∷ (entry_lines 1 es ++ line (count_object a))) in
    let few : 1 + length es < 2 ^ 64 = omega (arith, h.few) in
    ap₂ (λ x xs. opens x ∷ xs) (same_site first s t h.entries.0 g.entries.0 parts.0)
    (same_behind 1 es fs h.shape g.shape h.entries.1 g.entries.1 few a b (omega (arith, short, sizes)) parts.1)

second_so_apart : (s t : SiteView) (es fs : Events) → IsHistory (opens s ∷ es) → IsHistory (opens t ∷ fs) →
    length (journal_text (opens s ∷ es)) < 2 ^ 64 → journal_text (opens s ∷ es) ≡ journal_text (opens t ∷ fs) →
    opens s ∷ es ≡ opens t ∷ fs
unfolding entry_lines entry_data
second_so_apart s t es fs h g short same =
    let a = suc (length es) in let b = suc (length fs) in
    let left = one_more_line (compact_text (opening_data false s)) (entry_lines 1 es) (line (count_object a)) in
    let right = one_more_line (compact_text (opening_data false t)) (entry_lines 1 fs) (line (count_object b)) in
    same_history false s t es fs h g a b (subst (λ x. length x < 2 ^ 64) (sym left) short) (left ∙ same ∙ sym right)

first_so_apart : (s t : SiteView) (es fs : Events) → IsHistory (opens s ∷ es) → IsHistory (opens t ∷ fs) →
    length (first_text (opens s ∷ es)) < 2 ^ 64 → first_text (opens s ∷ es) ≡ first_text (opens t ∷ fs) →
    opens s ∷ es ≡ opens t ∷ fs
first_so_apart s t es fs h g short same =
    let a = suc (length es) in let b = suc (length fs) in
    let left = one_line_more (compact_text (opening_data true s)) (entry_lines 1 es ++ line (count_object a)) in
    let right = one_line_more (compact_text (opening_data true t)) (entry_lines 1 fs ++ line (count_object b)) in
    same_history true s t es fs h g a b (subst (λ x. length x < 2 ^ 64) (sym left) short) (left ∙ same ∙ sym right)

pub journals_apart : JournalsAreToldApart
journals_apart [] g h k short same = false_true h.shape
journals_apart (publishes p ∷ es) g h k short same = false_true h.shape
journals_apart (adds a c what ∷ es) g h k short same = false_true h.shape
journals_apart (opens s ∷ es) [] h k short same = false_true k.shape
journals_apart (opens s ∷ es) (publishes p ∷ fs) h k short same = false_true k.shape
journals_apart (opens s ∷ es) (adds a c what ∷ fs) h k short same = false_true k.shape
journals_apart (opens s ∷ es) (opens t ∷ fs) h k short same = second_so_apart s t es fs h k short same

pub first_journals_apart : FirstJournalsAreToldApart
first_journals_apart [] g h k f q short same = false_true h.shape
first_journals_apart (publishes p ∷ es) g h k f q short same = false_true h.shape
first_journals_apart (adds a c what ∷ es) g h k f q short same = false_true h.shape
first_journals_apart (opens s ∷ es) [] h k f q short same = false_true k.shape
first_journals_apart (opens s ∷ es) (publishes p ∷ fs) h k f q short same = false_true k.shape
first_journals_apart (opens s ∷ es) (adds a c what ∷ fs) h k f q short same = false_true k.shape
first_journals_apart (opens s ∷ es) (opens t ∷ fs) h k f q short same = first_so_apart s t es fs h k short same
