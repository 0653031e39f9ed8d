-- The lines of journals are read as what they are, and no other lines are read.
use Rattle.std.proofs.Common.{◌≡◌, ℕ, ◌+◌, ◌^◌, ◌<◌, ◌≤◌, Bool, true, false, ◌&&◌, not, if◌then◌else◌, nat_lt, List, [], ◌∷◌, ◌++◌, length, codes, Option, Some, None, option_map, option_and_then, refl, sym, ap, subst, ◌∙◌, arith}
use Rattle.std.proofs.lemmas.Bool.{lt-ltb, ltb-true}
use Rattle.std.specs.Cmp.{first_so, second_so}
use Rattle.std.specs.Cmp.Derive.{both_true}
use Rattle.std.specs.Prelude.{⊤}
use Rattle.std.specs.Str.{bytes_eq}
use Rattle.serde_json.proofs.OnLiterals.{serde_json_on_literals}
use Rattle.serde_json.specs.Data.{Data, depth}
use Rattle.serde_json.specs.Find.{get}
use Rattle.serde_json.specs.Read.{max_depth, read}
use Rattle.serde_json.specs.Written.{compact_text}
use Rattle.pp_values.specs.Facts.{are_facts}
use Rattle.pp_values.specs.declared.place.TheConstants.{MAIN_MANIFEST}
use Rattle.site_core.specs.Events.{Event, opens, publishes, adds, is_opening, is_later}
use Rattle.site_core.specs.declared.plain.Plain.TheVariants as ask
use Rattle.json_documents.specs.ExactData.{has_rising, is_read}
use Rattle.json_documents.specs.LineDocuments.{IsDocument}
use Rattle.json_documents.specs.LinesOfText.{has_byte}
use Rattle.json_documents.specs.SmallNumbers.{has_small}
use Rattle.json_documents.proofs.Feeds.{no_feed}
use Rattle.json_documents.proofs.ReadBack.{read_written, shallow_if_read}
use Rattle.json_documents.proofs.ReadData.{read_is_read}
use Rattle.agent_docs.proofs.ReportsRead.{Holds, holds_then, holds_if, is_same, same_bytes}
use Rattle.site_bundle.specs.SiteView.{SiteView, put_in, site_of}
use Rattle.site_docs.specs.SiteText.{site_object, site_data}
use Rattle.site_docs.specs.JournalText.{opening_object, publication_object, deactivation_object, deployment_object, filing_object, count_object, plain_data, entry_data}
use Rattle.journal_reading.specs.Journals.{IsSite, is_count, IsEntry, IsShallow, first_object}
use Rattle.journal_reading.specs.EntryReading.{entry_said}
use Rattle.journal_reading.specs.JournalLines.{Progress, nothing, entries, all as finished, JournalLine, opening, later, last, opening_data, may_stand, next_of, text_at, FitsAt, journal_table, says_first, if_opening, opening_said, opening_in, is_written, if_written, entry_written, entry_in, is_last, line_in}
use Rattle.journal_reading.specs.SiteReading.{site_said}
use Rattle.journal_reading.proofs.EntriesBack.{entry_back, entry_small, entry_rises, entry_holds}
use Rattle.journal_reading.proofs.SitesBack.{site_back, site_small, site_rises, site_holds, read_at}
use Rattle.journal_reading.proofs.TextCuts.{holds_step}

-- ---- the line that opens a site

pub opening_small : (first : Bool) (s : SiteView) → IsSite s → has_small (opening_data first s) ≡ true
unfolding first_object opening_object
opening_small true s h = both_true (site_small s h) refl
opening_small false s h = both_true (site_small s h) refl

opening_rises : (first : Bool) (s : SiteView) → IsSite s → has_rising (opening_data first s) ≡ true
unfolding first_object opening_object
opening_rises true s h = both_true (site_rises s h) refl
opening_rises false s h = both_true (site_rises s h) refl

opening_depth : (first : Bool) (s : SiteView) → depth (entry_data 0 (opens s)) ≡ depth (opening_data first s)
unfolding first_object opening_object entry_data
opening_depth true s = refl
opening_depth false s = refl

opening_version : (first : Bool) (s : SiteView) → says_first (opening_data first s) ≡ first
unfolding says_first first_object opening_object serde_json_on_literals
opening_version true s = refl
opening_version false s = refl

pub opening_site : (first : Bool) (s : SiteView) → get (codes "site") (opening_data first s) ≡ Some (site_data s)
unfolding first_object opening_object serde_json_on_literals
opening_site true s = refl
opening_site false s = refl

opening_complete : (first : Bool) (s : SiteView) → IsSite s → IsShallow (opens s) →
    opening_in (compact_text (opening_data first s)) ≡ Some (first, s)
opening_complete first s h shallow =
    let line = compact_text (opening_data first s) in
    ap (option_and_then (opening_said line)) (read_written (opening_data first s) (opening_small first s h)
    (opening_rises first s h) (subst (λ n. n ≤ max_depth) (opening_depth first s) shallow))
    ∙ ap (λ o. option_and_then (if_opening line (says_first (opening_data first s))) (option_and_then site_said o)) (opening_site first s)
    ∙ ap (option_and_then (if_opening line (says_first (opening_data first s)))) (site_back s h)
    ∙ ap (λ b. if_opening line b s) (opening_version first s)
    ∙ ap (λ b. if b then Some (first, s) else None) (is_same (compact_text (opening_data first s)) line refl)

-- a line that opens this site, in this version
abbrev Opens : List ℕ → Bool × SiteView → Type 0
Opens x p = IsSite p.1 × IsShallow (opens p.1) × (compact_text (opening_data p.0 p.1) ≡ x)

opened : (x : List ℕ) (d : Data) (first : Bool) (s : SiteView) → read x ≡ Some d → IsSite s →
    bytes_eq (compact_text (opening_data first s)) x ≡ true → Opens x (first, s)
opened x d first s e h same =
    let text : x ≡ compact_text (opening_data first s) = same_bytes _ x same in (
      h,
      subst (λ n. n ≤ max_depth) (sym (opening_depth first s))
          (shallow_if_read (opening_data first s) d (opening_small first s h) (ap read (sym text) ∙ e)),
      sym text,
    )

opening_said_holds : (x : List ℕ) (d : Data) → read x ≡ Some d → Holds (Opens x) (opening_said x d)
opening_said_holds x d e =
    holds_step IsSite (Opens x) (if_opening x (says_first d))
    (λ s h. holds_if (Opens x) (bytes_eq (compact_text (opening_data (says_first d) s)) x) (says_first d, s)
    (opened x d (says_first d) s e h))
    (option_and_then site_said (get (codes "site") d))
    (holds_then is_read IsSite site_said site_holds (get (codes "site") d) (read_at (codes "site") d (read_is_read x d e)))

opening_holds : (x : List ℕ) → Holds (Opens x) (opening_in x)
opening_holds x =
    elim (read x) as (λ o. read x ≡ o → Holds (Opens x) (option_and_then (opening_said x) o)) [
      | None ↦ λ e. tt
      | Some d ↦ λ e. opening_said_holds x d e
    ] refl

-- ---- the lines behind it

-- an entry that opens no site has facts where it has any
pub is_behind : (e : Event SiteView) → not (is_opening e) ≡ true → IsEntry e → is_later e ≡ true
is_behind (opens s) stands h = absurd cc
is_behind (publishes p) stands h =
    first_so (are_facts p.facts) _ (second_so (is_count p.k) _ (second_so (is_count p.call) _ (second_so (is_count p.author) _ h)))
is_behind (adds a c what) stands h = refl

and_false : (a b : Bool) → b ≡ false → (a && b) ≡ false
and_false true b h = h
and_false false b h = refl

pub not_last : (n m : ℕ) (e : Event SiteView) → is_later e ≡ true →
    bytes_eq (compact_text (count_object m)) (compact_text (entry_data n e)) ≡ false
unfolding count_object entry_data plain_data publication_object deactivation_object deployment_object filing_object serde_json_on_literals
not_last n m (opens s) h = absurd cc
not_last n m (publishes p) h = refl
not_last n m (adds a c (ask.Deactivate node)) h = refl
not_last n m (adds a c (ask.Deploy s)) h = refl
not_last n m (adds a c (ask.Report node r)) h = refl

entry_depth : (n : ℕ) (e : Event SiteView) → depth (entry_data 0 e) ≡ depth (entry_data n e)
unfolding entry_data plain_data opening_object publication_object deactivation_object deployment_object filing_object
entry_depth n (opens s) = refl
entry_depth n (publishes p) = refl
entry_depth n (adds a c (ask.Deactivate node)) = refl
entry_depth n (adds a c (ask.Deploy s)) = refl
entry_depth n (adds a c (ask.Report node r)) = refl

entry_complete : (first : Bool) (n : ℕ) (e : Event SiteView) → length (compact_text (entry_data n e)) < 2 ^ 64 →
    FitsAt (entries first n) (later e) → entry_in first n (compact_text (entry_data n e)) ≡ Some e
entry_complete first n e short (h, shallow, stands, fits) =
    let line = compact_text (entry_data n e) in
    let behind = is_behind e (first_so (not (is_opening e)) _ stands) h in
    ap (option_and_then (entry_written first n line)) (read_written (entry_data n e)
    (entry_small n e behind (omega arith) h short) (entry_rises n e behind h)
    (subst (λ k. k ≤ max_depth) (entry_depth n e) shallow))
    ∙ ap (option_and_then (if_written first n line)) (entry_back n e behind h short)
    ∙ ap (λ b. if b then Some e else None)
    (both_true (lt-ltb (n + 1) (2 ^ 64) fits) (both_true stands (is_same (compact_text (entry_data n e)) line refl)))

later_complete : (first : Bool) (n : ℕ) (e : Event SiteView) → length (compact_text (entry_data n e)) < 2 ^ 64 →
    FitsAt (entries first n) (later e) → line_in (entries first n) (compact_text (entry_data n e)) ≡ Some (later e)
later_complete first n e short fits =
    let line = compact_text (entry_data n e) in
    ap (λ b. if b then Some last else option_map later (entry_in first n line))
    (and_false (nat_lt n (2 ^ 64)) (bytes_eq (compact_text (count_object n)) line)
    (not_last n n e (is_behind e (first_so (not (is_opening e)) _ fits.2) fits.0)))
    ∙ ap (option_map later) (entry_complete first n e short fits)

last_complete : (first : Bool) (n : ℕ) → n < 2 ^ 64 → line_in (entries first n) (compact_text (count_object n)) ≡ Some last
last_complete first n fits =
    ap (λ b. if b then Some last else option_map later (entry_in first n (compact_text (count_object n))))
    (both_true (lt-ltb n (2 ^ 64) fits) (is_same (compact_text (count_object n)) (compact_text (count_object n)) refl))

-- the line of this entry
abbrev Tells : Bool → ℕ → List ℕ → Event SiteView → Type 0
Tells first n x e = FitsAt (entries first n) (later e) × (compact_text (entry_data n e) ≡ x)

told : (first : Bool) (n : ℕ) (x : List ℕ) (d : Data) (e : Event SiteView) → length x < 2 ^ 64 → read x ≡ Some d → IsEntry e →
    is_written first n x e ≡ true → Tells first n x e
told first n x d e short same h w =
    let rest = second_so (nat_lt (n + 1) (2 ^ 64)) _ w in
    let stands = first_so (may_stand first e) _ rest in
    let fits : n + 1 < 2 ^ 64 = ltb-true _ _ (first_so (nat_lt (n + 1) (2 ^ 64)) _ w) in
    let text : x ≡ compact_text (entry_data n e) = same_bytes _ x (second_so (may_stand first e) _ rest) in
    let small = entry_small n e (is_behind e (first_so (not (is_opening e)) _ stands) h) (omega (arith, fits)) h (subst (λ y. length y < 2 ^ 64) text short) in (
      (
        h,
        subst (λ k. k ≤ max_depth) (sym (entry_depth n e)) (shallow_if_read (entry_data n e) d small (ap read (sym text) ∙ same)),
        stands,
        fits,
      ),
      sym text,
    )

entry_written_holds : (first : Bool) (n : ℕ) (x : List ℕ) (d : Data) → length x < 2 ^ 64 → read x ≡ Some d →
    Holds (Tells first n x) (entry_written first n x d)
entry_written_holds first n x d short e =
    holds_step IsEntry (Tells first n x) (if_written first n x)
    (λ a h. holds_if (Tells first n x) (is_written first n x a) a (told first n x d a short e h))
    (entry_said n x d) (entry_holds n x d short (read_is_read x d e))

entry_in_holds : (first : Bool) (n : ℕ) (x : List ℕ) → length x < 2 ^ 64 → Holds (Tells first n x) (entry_in first n x)
entry_in_holds first n x short =
    elim (read x) as (λ o. read x ≡ o → Holds (Tells first n x) (option_and_then (entry_written first n x) o)) [
      | None ↦ λ e. tt
      | Some d ↦ λ e. entry_written_holds first n x d short e
    ] refl

-- an entry that is read stands behind others
pub entry_later : (first : Bool) (n : ℕ) (x : List ℕ) → length x < 2 ^ 64 → Holds (λ e. is_later e ≡ true) (entry_in first n x)
entry_later first n x short = weaker (entry_in first n x) (entry_in_holds first n x short) where
  weaker : (o : Option (Event SiteView)) → Holds (Tells first n x) o → Holds (λ e. is_later e ≡ true) o
  weaker None h = tt
  weaker (Some e) h = is_behind e (first_so (not (is_opening e)) _ h.0.2) h.0.0

pub pushed_later : (first : Bool) (n : ℕ) (x : List ℕ) (e : Event SiteView) → length x < 2 ^ 64 → Some e ≡ entry_in first n x →
    is_later e ≡ true
pushed_later first n x e short is = subst (Holds (λ a. is_later a ≡ true)) (sym is) (entry_later first n x short)

-- ---- the table

pub line_one : (p : Progress) (l : JournalLine) → FitsAt p l → has_byte 10 (text_at p l) ≡ false
line_one nothing (opening first s) h = no_feed (opening_data first s)
line_one nothing (later e) h = absurd h
line_one nothing last h = absurd h
line_one (entries first n) (opening again s) h = absurd h
line_one (entries first n) (later e) h = no_feed (entry_data n e)
line_one (entries first n) last h = no_feed (count_object n)
line_one finished l h = absurd h

abbrev Is : Progress → List ℕ → JournalLine → Type 0
Is p x l = FitsAt p l × (text_at p l ≡ x)

made_opening : (x : List ℕ) (o : Option (Bool × SiteView)) → Holds (Opens x) o →
    Holds (Is nothing x) (option_map (λ p. opening p.0 p.1) o)
made_opening x None h = tt
made_opening x (Some p) h = ((h.0, h.1), h.2)

made_later : (first : Bool) (n : ℕ) (x : List ℕ) (o : Option (Event SiteView)) → Holds (Tells first n x) o →
    Holds (Is (entries first n) x) (option_map later o)
made_later first n x None h = tt
made_later first n x (Some e) h = h

made_last : (first : Bool) (n : ℕ) (x : List ℕ) → is_last n x ≡ true → Is (entries first n) x last
made_last first n x e = (
  ltb-true _ _ (first_so (nat_lt n (2 ^ 64)) _ e),
  sym (same_bytes (compact_text (count_object n)) x (second_so (nat_lt n (2 ^ 64)) _ e)),
)

line_holds : (p : Progress) (x : List ℕ) → length x < 2 ^ 64 → Holds (Is p x) (line_in p x)
line_holds nothing x short = made_opening x (opening_in x) (opening_holds x)
line_holds (entries first n) x short =
    elim (is_last n x) as (λ b. is_last n x ≡ b →
    Holds (Is (entries first n) x) (if b then Some last else option_map later (entry_in first n x))) [
      | true ↦ λ e. made_last first n x e
      | false ↦ λ e. made_later first n x (entry_in first n x) (entry_in_holds first n x short)
    ] refl
line_holds finished x short = tt

pub line_sound : (p : Progress) (x : List ℕ) (l : JournalLine) → length x < 2 ^ 64 → line_in p x ≡ Some l →
    FitsAt p l × (text_at p l ≡ x)
line_sound p x l short e = subst (Holds (Is p x)) e (line_holds p x short)

pub line_complete : (p : Progress) (l : JournalLine) → length (text_at p l) < 2 ^ 64 → FitsAt p l →
    line_in p (text_at p l) ≡ Some l
line_complete nothing (opening first s) short h =
    ap (option_map (λ p. opening p.0 p.1)) (opening_complete first s h.0 h.1)
line_complete nothing (later e) short h = absurd h
line_complete nothing last short h = absurd h
line_complete (entries first n) (opening again s) short h = absurd h
line_complete (entries first n) (later e) short h = later_complete first n e short h
line_complete (entries first n) last short h = last_complete first n h
line_complete finished l short h = absurd h

abbrev pub Stands : Progress → Type 0
Stands nothing = ⊤
Stands (entries first n) = n < 2 ^ 64
Stands finished = ⊤

kept : (p : Progress) (l : JournalLine) → Stands p → FitsAt p l → Holds Stands (next_of p l)
kept nothing (opening first s) st h = omega arith
kept nothing (later e) st h = tt
kept nothing last st h = tt
kept (entries first n) (opening again s) st h = tt
kept (entries first n) (later e) st h = h.3
kept (entries first n) last st h = tt
kept finished l st h = tt

pub line_keeps : (p q : Progress) (l : JournalLine) → Stands p → FitsAt p l → next_of p l ≡ Some q → Stands q
line_keeps p q l st h e = subst (Holds Stands) e (kept p l st h)

-- ---- from each place there is a way to an end

abbrev empty_site : SiteView
empty_site = site_of ((MAIN_MANIFEST.now, []) ∷ []) []

is_site : IsSite empty_site
is_site = record {
  files = (MAIN_MANIFEST.now, []) ∷ [];
  nodes = [];
  made = refl;
  paths = refl;
  main = refl;
  short = refl;
  names = refl;
  facts = refl;
  proper = refl;
}

empty_depth : depth (entry_data 0 (opens empty_site)) ≤ max_depth
unfolding entry_data opening_object site_data site_object put_in serde_json_on_literals
empty_depth = omega arith

behind_entries : (first : Bool) (n : ℕ) → n < 2 ^ 64 →
    IsDocument journal_table (entries first n) (last ∷ []) (compact_text (count_object n) ++ 10 ∷ [])
behind_entries first n h = (finished, [], h, refl, (refl, refl), refl)

pub line_way : (p : Progress) → Stands p → (ls : List JournalLine) × (w : List ℕ) × IsDocument journal_table p ls w
line_way nothing st = (
  opening false empty_site ∷ last ∷ [],
  compact_text (opening_data false empty_site) ++ 10 ∷ (compact_text (count_object 1) ++ 10 ∷ []),
  (
    entries false 1,
    compact_text (count_object 1) ++ 10 ∷ [],
    (is_site, empty_depth),
    refl,
    behind_entries false 1 (omega arith),
    refl,
  ),
)
line_way (entries first n) st = (last ∷ [], compact_text (count_object n) ++ 10 ∷ [], behind_entries first n st)
line_way finished st = ([], [], (refl, refl))
