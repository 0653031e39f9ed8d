-- What is read of a text line by line is the history whose journal it is, or the first bad line.
use Rattle.std.proofs.Common.{◌≡◌, inl, inr, ℕ, suc, ◌+◌, ◌^◌, ◌<◌, Bool, true, false, not, List, [], ◌∷◌, ◌++◌, length, Option, Some, None, Result, Ok, Err, refl, sym, ap, subst, ◌∙◌, arith, append_assoc}
use Rattle.std.specs.Cmp.{first_so, second_so}
use Rattle.std.specs.Cmp.Derive.{both_true}
use Rattle.std.specs.List.{list_all}
use Rattle.serde_json.specs.Written.{compact_text}
use Rattle.site_core.specs.Events.{Event, opens, publishes, adds, is_opening, is_later}
use Rattle.json_documents.specs.declared.doc_stop.DocStop.{DocStop}
use Rattle.json_documents.specs.declared.doc_stop.DocStop.TheVariants as stop
use Rattle.json_documents.specs.LineDocuments.{result_map, IsDocument, read_lines}
use Rattle.json_documents.specs.LinesOfText.{Begins, ReadsDocument}
use Rattle.json_documents.specs.Tokens.{line}
use Rattle.json_documents.proofs.LineDocumentLemmas.{BeginsAt, IsAnswer, read_lines_answers}
use Rattle.site_bundle.specs.SiteView.{SiteView}
use Rattle.site_docs.specs.JournalText.{count_object, entry_data, entry_lines}
use Rattle.journal_reading.specs.Journals.{IsSite, IsEntry, AreAll, IsHistory, IsShallow, is_filing, IsTextOf, IsJournalText}
use Rattle.journal_reading.specs.JournalLines.{Progress, nothing, entries, all as finished, JournalLine, opening, later, last, opening_data, may_stand, FitsAt, journal_table, line_in, events_in, entries_from, journal_read, Gives}
use Rattle.journal_reading.proofs.LinesRead.{is_behind, line_one, line_sound, line_complete, Stands, line_keeps, line_way}

abbrev Events : Type 0
Events = List (Event SiteView)

-- ---- lines behind the first one, and the entries in them

record Behind (first : Bool) (n : ℕ) (es : Events) (w : List ℕ) : Type 0 where
  stand : list_all (may_stand first) es ≡ true
  hold : AreAll IsEntry es
  shallow : AreAll IsShallow es
  few : n + length es < 2 ^ 64
  written : w ≡ entry_lines n es ++ line (count_object (n + length es))

abbrev progress_or : Progress → Option Progress → Progress
progress_or p None = p
progress_or p (Some q) = q

same_progress : (p q : Progress) → Some p ≡ Some q → p ≡ q
same_progress p q e = ap (progress_or p) e

true_false : {P : Type 0} → false ≡ true → P
true_false e = absurd cc

none_some : {P : Type 0} {q : Progress} → None ≡ Some q → P
none_some e = absurd cc

nothing_behind : (ls : List JournalLine) (w : List ℕ) → IsDocument journal_table finished ls w → (ls ≡ []) × (w ≡ [])
nothing_behind [] w d = (refl, d.1)
nothing_behind (l ∷ ls) w d = absurd d.2

last_line : (first : Bool) (n : ℕ) (w rest : List ℕ) → n < 2 ^ 64 → rest ≡ [] → w ≡ compact_text (count_object n) ++ 10 ∷ rest →
    Behind first n [] w
unfolding entry_lines
last_line first n w rest fits none e =
    let same : n + 0 ≡ n = omega arith in record {
      stand = refl;
      hold = tt;
      shallow = tt;
      few = omega (arith, fits);
      written = e ∙ ap (λ xs. compact_text (count_object n) ++ 10 ∷ xs) none ∙ ap (λ k. line (count_object k)) (sym same);
    }

pub one_more_line : (one more counted : List ℕ) → one ++ 10 ∷ (more ++ counted) ≡ ((one ++ 10 ∷ []) ++ more) ++ counted
one_more_line one more counted = simp append_assoc

pub one_line_more : (one more : List ℕ) → one ++ 10 ∷ more ≡ (one ++ 10 ∷ []) ++ more
one_line_more one more = simp append_assoc

more_lines : (first : Bool) (n : ℕ) (e : Event SiteView) (es : Events) (w rest : List ℕ) →
    FitsAt (entries first n) (later e) → Behind first (n + 1) es rest → w ≡ compact_text (entry_data n e) ++ 10 ∷ rest →
    Behind first n (e ∷ es) w
unfolding entry_lines
more_lines first n e es w rest fits b same =
    let count : n + 1 + length es ≡ n + suc (length es) = omega arith in record {
      stand = both_true fits.2 b.stand;
      hold = (fits.0, b.hold);
      shallow = (fits.1, b.shallow);
      few = omega (arith, b.few);
      written = same ∙ ap (λ xs. compact_text (entry_data n e) ++ 10 ∷ xs)
          (b.written ∙ ap (λ k. entry_lines (n + 1) es ++ line (count_object k)) count)
          ∙ one_more_line (compact_text (entry_data n e)) (entry_lines (n + 1) es) (line (count_object (n + suc (length es))));
    }

behind_of : (first : Bool) (n : ℕ) (ls : List JournalLine) (w : List ℕ) → IsDocument journal_table (entries first n) ls w →
    Behind first n (events_in ls) w
behind_of first n [] w d = true_false d.0
behind_of first n (opening again s ∷ ls) w d = absurd d.2
behind_of first n (later e ∷ ls) w (q, rest, fits, goes, more, same) =
    more_lines first n e (events_in ls) w rest fits
    (behind_of first (n + 1) ls rest (subst (λ p. IsDocument journal_table p ls rest) (sym (same_progress (entries first (n + 1)) q goes)) more))
    same
behind_of first n (last ∷ ls) w (q, rest, fits, goes, more, same) =
    let none = nothing_behind ls rest (subst (λ p. IsDocument journal_table p ls rest) (sym (same_progress finished q goes)) more) in
    subst (λ ks. Behind first n (events_in ks) w) (sym none.0) (last_line first n w rest fits none.1 same)

-- the other way round
abbrev lines_behind : Events → List JournalLine
lines_behind [] = last ∷ []
lines_behind (e ∷ es) = later e ∷ lines_behind es

to_lines : (first : Bool) (n : ℕ) (es : Events) → list_all (may_stand first) es ≡ true → AreAll IsEntry es →
    AreAll IsShallow es → n + length es < 2 ^ 64 →
    IsDocument journal_table (entries first n) (lines_behind es) (entry_lines n es ++ line (count_object (n + length es)))
unfolding entry_lines
to_lines first n [] stand hold shallow few =
    let same : n + 0 ≡ n = omega arith in
    (finished, [], omega (arith, few), refl, (refl, refl), ap (λ k. line (count_object k)) same)
to_lines first n (e ∷ es) stand hold shallow few =
    let count : n + 1 + length es ≡ n + suc (length es) = omega arith in (
      entries first (n + 1),
      entry_lines (n + 1) es ++ line (count_object (n + suc (length es))),
      (hold.0, shallow.0, first_so (may_stand first e) _ stand, omega (arith, few)),
      refl,
      subst (λ k. IsDocument journal_table (entries first (n + 1)) (lines_behind es)
          (entry_lines (n + 1) es ++ line (count_object k))) count
          (to_lines first (n + 1) es (second_so (may_stand first e) _ stand) hold.1 shallow.1 (omega (arith, few))),
      sym (one_more_line (compact_text (entry_data n e)) (entry_lines (n + 1) es) (line (count_object (n + suc (length es))))),
    )

-- ---- whole journals

stand_later : (first : Bool) (es : Events) → list_all (may_stand first) es ≡ true → AreAll IsEntry es →
    list_all is_later es ≡ true
stand_later first [] h all = refl
stand_later first (e ∷ es) h all =
    both_true (is_behind e (first_so (not (is_opening e)) _ (first_so (may_stand first e) _ h)) all.0)
    (stand_later first es (second_so (may_stand first e) _ h) all.1)

stand_first : (es : Events) → list_all (may_stand true) es ≡ true → list_all (λ e. not (is_filing e)) es ≡ true
stand_first [] h = refl
stand_first (e ∷ es) h =
    both_true (second_so (not (is_opening e)) _ (first_so (may_stand true e) _ h)) (stand_first es (second_so (may_stand true e) _ h))

opens_nothing : (e : Event SiteView) → is_later e ≡ true → not (is_opening e) ≡ true
opens_nothing (opens s) h = h
opens_nothing (publishes p) h = refl
opens_nothing (adds a c what) h = refl

later_stand : (es : Events) → list_all is_later es ≡ true → list_all (may_stand false) es ≡ true
later_stand [] h = refl
later_stand (e ∷ es) h =
    both_true (both_true (opens_nothing e (first_so (is_later e) _ h)) refl) (later_stand es (second_so (is_later e) _ h))

first_stand : (es : Events) → list_all is_later es ≡ true → list_all (λ e. not (is_filing e)) es ≡ true →
    list_all (may_stand true) es ≡ true
first_stand [] h f = refl
first_stand (e ∷ es) h f =
    both_true (both_true (opens_nothing e (first_so (is_later e) _ h)) (first_so (not (is_filing e)) _ f))
    (first_stand es (second_so (is_later e) _ h) (second_so (not (is_filing e)) _ f))

text_of : (first : Bool) (s : SiteView) (es : Events) (w rest : List ℕ) → Behind first 1 es rest →
    w ≡ compact_text (opening_data first s) ++ 10 ∷ rest → IsTextOf (opens s ∷ es) w
unfolding entry_lines entry_data
text_of true s es w rest b same =
    let count : 1 + length es ≡ suc (length es) = omega arith in
    inr (
      stand_first es b.stand,
      same ∙ ap (λ xs. compact_text (opening_data true s) ++ 10 ∷ xs)
          (b.written ∙ ap (λ k. entry_lines 1 es ++ line (count_object k)) count)
          ∙ one_line_more (compact_text (opening_data true s)) (entry_lines 1 es ++ line (count_object (suc (length es)))),
    )
text_of false s es w rest b same =
    let count : 1 + length es ≡ suc (length es) = omega arith in
    inl (same ∙ ap (λ xs. compact_text (opening_data false s) ++ 10 ∷ xs)
    (b.written ∙ ap (λ k. entry_lines 1 es ++ line (count_object k)) count)
    ∙ one_more_line (compact_text (opening_data false s)) (entry_lines 1 es) (line (count_object (suc (length es)))))

journal_of : (first : Bool) (s : SiteView) (es : Events) (w rest : List ℕ) → IsSite s → IsShallow (opens s) →
    Behind first 1 es rest → w ≡ compact_text (opening_data first s) ++ 10 ∷ rest → IsJournalText (opens s ∷ es) w
journal_of first s es w rest h shallow b same = (
  record { shape = stand_later first es b.stand b.hold; entries = (h, b.hold); few = omega (arith, b.few) },
  (shallow, b.shallow),
  text_of first s es w rest b same,
)

pub to_journal : (ls : List JournalLine) (w : List ℕ) → IsDocument journal_table nothing ls w → IsJournalText (events_in ls) w
to_journal [] w d = true_false d.0
to_journal (opening first s ∷ ls) w (q, rest, fits, goes, more, same) =
    journal_of first s (events_in ls) w rest fits.0 fits.1
    (behind_of first 1 ls rest (subst (λ p. IsDocument journal_table p ls rest) (sym (same_progress (entries first 1) q goes)) more))
    same
to_journal (later e ∷ ls) w d = absurd d.2
to_journal (last ∷ ls) w d = absurd d.2

from_parts : (first : Bool) (s : SiteView) (es : Events) (w : List ℕ) → IsSite s → IsShallow (opens s) →
    list_all (may_stand first) es ≡ true → AreAll IsEntry es → AreAll IsShallow es → suc (length es) < 2 ^ 64 →
    w ≡ compact_text (opening_data first s) ++ 10 ∷ (entry_lines 1 es ++ line (count_object (suc (length es)))) →
    (ls : List JournalLine) × IsDocument journal_table nothing ls w
from_parts first s es w h shallow stand hold low few same =
    let count : 1 + length es ≡ suc (length es) = omega arith in (
      opening first s ∷ lines_behind es,
      (
        entries first 1,
        entry_lines 1 es ++ line (count_object (suc (length es))),
        (h, shallow),
        refl,
        subst (λ k. IsDocument journal_table (entries first 1) (lines_behind es) (entry_lines 1 es ++ line (count_object k))) count
            (to_lines first 1 es stand hold low (omega (arith, few))),
        same,
      ),
    )

from_text : (s : SiteView) (es : Events) (w : List ℕ) → IsHistory (opens s ∷ es) → AreAll IsShallow (opens s ∷ es) →
    IsTextOf (opens s ∷ es) w → (ls : List JournalLine) × IsDocument journal_table nothing ls w
unfolding entry_lines entry_data
from_text s es w h shallow (inl e) =
    from_parts false s es w h.entries.0 shallow.0 (later_stand es h.shape) h.entries.1 shallow.1 h.few
    (e ∙ sym (one_more_line (compact_text (opening_data false s)) (entry_lines 1 es) (line (count_object (suc (length es))))))
from_text s es w h shallow (inr e) =
    from_parts true s es w h.entries.0 shallow.0 (first_stand es h.shape e.0) h.entries.1 shallow.1 h.few
    (e.1 ∙ sym (one_line_more (compact_text (opening_data true s)) (entry_lines 1 es ++ line (count_object (suc (length es))))))

pub from_journal : (h : Events) (w : List ℕ) → IsJournalText h w → (ls : List JournalLine) × IsDocument journal_table nothing ls w
from_journal [] w (h, shallow, e) = true_false h.shape
from_journal (opens s ∷ es) w (h, shallow, e) = from_text s es w h shallow e
from_journal (publishes p ∷ es) w (h, shallow, e) = true_false h.shape
from_journal (adds a c what ∷ es) w (h, shallow, e) = true_false h.shape

-- ---- what is answered

abbrev value_or : {A : Type 0} → A → Result A ℕ → A
value_or d (Ok a) = a
value_or d (Err n) = d

abbrev number_or : {A : Type 0} → ℕ → Result A ℕ → ℕ
number_or d (Ok a) = d
number_or d (Err n) = n

-- over values that show entries, of which there is one for any entries
module _ {A : Type 0} (shown : A → Events) (make : Events → A) (made : (es : Events) → shown (make es) ≡ es) where
  abbrev IsText : A → List ℕ → Type 0
  IsText a text = IsJournalText (shown a) text

  begins : (k : ℕ) (text : List ℕ) → BeginsAt journal_table line_in Stands line_one line_sound line_complete line_keeps line_way nothing k text →
      Begins IsText k text
  begins k text (ls, w, d, same) =
      (make (events_in ls), w, subst (λ es. IsJournalText es w) (sym (made (events_in ls))) (to_journal ls w d), same)

  begun : (k : ℕ) (text : List ℕ) → Begins IsText k text →
      BeginsAt journal_table line_in Stands line_one line_sound line_complete line_keeps line_way nothing k text
  begun k text (a, w, h, same) = let d = from_journal (shown a) w h in (d.0, w, d.1, same)

  reads_by : (text : List ℕ) (result : Result A DocStop) (r : Result (List JournalLine) ℕ) →
      IsAnswer journal_table line_in Stands line_one line_sound line_complete line_keeps line_way nothing 0 text r →
      Gives shown result (result_map events_in r) → ReadsDocument IsText text result
  reads_by text (Ok a) (Ok ls) h g =
      subst (λ es. IsJournalText es text) (ap (value_or (shown a)) g) (to_journal ls text h)
  reads_by text (Ok a) (Err m) h g = absurd cc
  reads_by text (Err (stop.Bad n)) (Ok ls) h g = absurd cc
  reads_by text (Err (stop.Bad n)) (Err m) (k, e, b, none) g =
      let same : m ≡ n = ap (number_or m) g in
      let one : 0 + suc k ≡ suc k = omega arith in
      let next : n ≡ suc k = sym same ∙ e ∙ one in
      (k, next, begins k text b, λ c. none (begun (suc k) text (subst (λ j. Begins IsText j text) next c)))
  reads_by text (Err stop.Memory) r h g = tt

  pub journal_reads : (text : List ℕ) → length text < 2 ^ 64 → (result : Result A DocStop) → Gives shown result (journal_read text) →
      ReadsDocument IsText text result
  unfolding entries_from
  journal_reads text short result g =
      reads_by text result (read_lines journal_table line_in nothing 0 text)
      (read_lines_answers journal_table line_in Stands line_one line_sound line_complete line_keeps line_way text nothing tt short) g
