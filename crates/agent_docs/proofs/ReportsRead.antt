-- The line of a report is read as that report, in either version, and no other line is read as one.
use Rattle.std.proofs.Common.{◌≡◌, inl, inr, ℕ, ◌<◌, ◌≤◌, ◌^◌, ◌==◌, Bool, true, false, ◌||◌, if◌then◌else◌, nat_lt, List, [], ◌∷◌, ◌++◌, length, map, codes, Option, Some, None, option_map, option_and_then, refl, sym, ap, ap₂, subst, ◌∙◌, arith}
use Rattle.std.proofs.lemmas.Bool.{lt-ltb}
use Rattle.std.proofs.lemmas.List.Sums.{count_by-le-length}
use Rattle.std.proofs.lemmas.Slice.Eq.{bytes_eq-Decides}
use Rattle.std.specs.Char.{to_ascii_lowercase, to_ascii_uppercase}
use Rattle.std.specs.Cmp.{first_so, second_so}
use Rattle.std.specs.Cmp.Derive.{both_true}
use Rattle.std.specs.List.{list_all, count_by}
use Rattle.std.specs.Prelude.{⊤}
use Rattle.std.specs.Str.{bytes_eq, str_to_ascii_lowercase}
use Rattle.serde_json.proofs.OnLiterals.{serde_json_on_literals}
use Rattle.serde_json.specs.Data.{Data, Items, no_items, item, string, depth, items_depth}
use Rattle.serde_json.specs.Find.{get, as_bool, as_str}
use Rattle.serde_json.specs.Read.{max_depth, read}
use Rattle.serde_json.specs.View.{items_of}
use Rattle.serde_json.specs.Written.{compact_text}
use Rattle.pp_values.specs.Kinds.{is_kind, is_kind_byte, kind_of}
use Rattle.pp_values.specs.Words.{capitalised_after, kind_text, reference_text}
use Rattle.pp_values.specs.declared.reference.Reference.{Reference}
use Rattle.agent_machine.specs.declared.status.Status.{Status}
use Rattle.agent_machine.specs.declared.status.Status.TheVariants as status
use Rattle.agent_machine.specs.declared.report_line.ReportLine.{ReportLine}
use Rattle.agent_machine.specs.declared.report.Report.{Report}
use Rattle.json_values.specs.FromData.{both}
use Rattle.json_documents.specs.ExactData.{has_rising}
use Rattle.json_documents.specs.LinesOfText.{cut_at, has_byte}
use Rattle.json_documents.specs.SmallNumbers.{has_small}
use Rattle.json_documents.proofs.Cutting.{split_here}
use Rattle.json_documents.proofs.Feeds.{no_feed}
use Rattle.json_documents.proofs.Lengths.{as_long, long_list}
use Rattle.json_documents.proofs.ReadBack.{read_written}
use Rattle.json_documents.proofs.ReadData.{Each, any, all, each_then, each_if, each_both}
use Rattle.json_documents.proofs.SmallForms.{all_small, all_rise}
use Rattle.agent_docs.specs.ReportText.{status_text, has_changed, has_failed, was_noop, fault_data, line_object, line_data, report_object, report_data, report_text, first_object, first_data, is_first, names_kind, IsReport, IsReportLine}
use Rattle.agent_docs.specs.ReportReading.{unclosed, reference_of, reference_said, status_said, texts_said, text_at, items_at, item_said, changes_said, line_of, line_said, lines_said, report_said, says_first, is_written, if_written, report_written, report_in}

-- ---- a reference as it is printed

-- a byte as it stands after a colon, or after another byte
abbrev shown : Bool → ℕ → ℕ
shown after b = if after then to_ascii_uppercase b else b

lower_again : (after : Bool) (b : ℕ) → is_kind_byte b ≡ true → to_ascii_lowercase (shown after b) ≡ b
lower_again true b h = grind arith
lower_again false b h = grind arith

no_bracket : (after : Bool) (b : ℕ) → is_kind_byte b ≡ true → (shown after b == 91) ≡ false
no_bracket true b h = grind arith
no_bracket false b h = grind arith

lower_kind : (last : ℕ) (bs : List ℕ) → list_all is_kind_byte bs ≡ true →
    str_to_ascii_lowercase (capitalised_after last bs) ≡ bs
lower_kind last [] h = refl
lower_kind last (b ∷ bs) h =
    ap₂ (λ x xs. x ∷ xs) (lower_again (last == 58) b (first_so (is_kind_byte b) _ h))
    (lower_kind b bs (second_so (is_kind_byte b) _ h))

kind_lacks : (last : ℕ) (bs : List ℕ) → list_all is_kind_byte bs ≡ true → has_byte 91 (capitalised_after last bs) ≡ false
kind_lacks last [] h = refl
kind_lacks last (b ∷ bs) h =
    ap₂ (λ x y. x || y) (no_bracket (last == 58) b (first_so (is_kind_byte b) _ h))
    (kind_lacks b bs (second_so (is_kind_byte b) _ h))

kind_bytes : (k : List ℕ) → is_kind k ≡ true → list_all is_kind_byte k ≡ true
kind_bytes [] h = refl
kind_bytes (b ∷ bs) h = h

pub unclosed_back : (t : List ℕ) → unclosed (t ++ 93 ∷ []) ≡ Some t
unclosed_back [] = refl
unclosed_back (b ∷ []) = refl
unclosed_back (b ∷ c ∷ cs) = ap (option_map (λ t. b ∷ t)) (unclosed_back (c ∷ cs))

rejoined : (k t : List ℕ) → k ++ codes "[" ++ t ++ codes "]" ≡ k ++ 91 ∷ (t ++ codes "]")
rejoined [] t = refl
rejoined (b ∷ bs) t = ap (λ xs. b ∷ xs) (rejoined bs t)

reference_back : (r : Reference) → is_kind r.kind ≡ true → reference_said (reference_text r) ≡ Some r
reference_back r h =
    let bytes = kind_bytes r.kind h in
    ap reference_said (rejoined (kind_text r.kind) r.title)
    ∙ ap (option_and_then reference_of) (split_here 91 (kind_text r.kind) (r.title ++ codes "]") (kind_lacks 58 r.kind bytes))
    ∙ ap₂ (both (λ kind title. record { kind = kind; title = title }))
    (ap kind_of (lower_kind 58 r.kind bytes) ∙ ap (λ b. if b then Some r.kind else None) h) (unclosed_back r.title)

-- ---- a line

status_back : (s : Status) → status_said (status_text s) ≡ Some s
status_back status.Unchanged = refl
status_back status.Changed = refl
status_back status.Failed = refl
status_back status.Skipped = refl
status_back status.Noop = refl

texts_back : (ts : List (List ℕ)) → texts_said (items_of (map string ts)) ≡ Some ts
texts_back [] = refl
texts_back (t ∷ ts) = ap (λ o. both (λ x xs. x ∷ xs) (Some t) o) (texts_back ts)

fault_back : (f : Option (List ℕ)) → as_str (fault_data f) ≡ f
fault_back None = refl
fault_back (Some t) = refl

line_back : (l : ReportLine) → names_kind l ≡ true → line_said (line_data l) ≡ Some l
unfolding line_said line_data line_object serde_json_on_literals
line_back l h = λ i. both (line_of (fault_back l.fault i))
    (both (λ item rest. (item, rest)) (reference_back l.item h i)
    (both (λ status refreshed. (status, refreshed)) (status_back l.status i) (Some l.refreshed)))
    (texts_back l.changes i)

lines_back : (ls : List ReportLine) → list_all names_kind ls ≡ true → lines_said (items_of (map line_data ls)) ≡ Some ls
lines_back [] h = refl
lines_back (l ∷ ls) h =
    ap₂ (both (λ x xs. x ∷ xs)) (line_back l (first_so (names_kind l) _ h)) (lines_back ls (second_so (names_kind l) _ h))

-- ---- a report

report_back : (r : Report) → IsReport r → report_said (report_data r) ≡ Some r
unfolding report_said report_data report_object serde_json_on_literals
report_back r h = ap (both (λ node lines. record { node = node; lines = lines }) (Some r.node)) (lines_back r.lines h)

first_back : (r : Report) → IsReport r → report_said (first_data r) ≡ Some r
unfolding report_said first_data first_object serde_json_on_literals
first_back r h = ap (both (λ node lines. record { node = node; lines = lines }) (Some r.node)) (lines_back r.lines h)

says_second : (r : Report) → says_first (report_data r) ≡ false
unfolding says_first report_data report_object serde_json_on_literals
says_second r = refl

says_it_is_first : (r : Report) → says_first (first_data r) ≡ true
unfolding says_first first_data first_object serde_json_on_literals
says_it_is_first r = refl

-- ---- its text is read back

small_count : {X : Type 0} (p : X → Bool) (xs : List X) → length xs < 2 ^ 64 → nat_lt (count_by p xs) (2 ^ 64) ≡ true
small_count p xs h = lt-ltb (count_by p xs) (2 ^ 64) (omega (arith, count_by-le-length p xs, h))

fault_small : (f : Option (List ℕ)) → has_small (fault_data f) ≡ true
fault_small None = refl
fault_small (Some t) = refl

line_small : (l : ReportLine) → has_small (line_data l) ≡ true
unfolding line_data line_object
line_small l = both_true (all_small string (λ t. refl) l.changes) (both_true (fault_small l.fault) refl)

report_small : (r : Report) → length r.lines < 2 ^ 64 → has_small (report_data r) ≡ true
unfolding report_data report_object
report_small r h =
    both_true (small_count has_changed r.lines h) (both_true (small_count has_failed r.lines h)
    (both_true (small_count was_noop r.lines h) (both_true (all_small line_data line_small r.lines) refl)))

first_small : (r : Report) → length r.lines < 2 ^ 64 → has_small (first_data r) ≡ true
unfolding first_data first_object
first_small r h =
    both_true (small_count has_changed r.lines h) (both_true (small_count has_failed r.lines h)
    (both_true (all_small line_data line_small r.lines) refl))

fault_rises : (f : Option (List ℕ)) → has_rising (fault_data f) ≡ true
fault_rises None = refl
fault_rises (Some t) = refl

line_rises : (l : ReportLine) → has_rising (line_data l) ≡ true
unfolding line_data line_object
line_rises l = both_true (all_rise string (λ t. refl) l.changes) (both_true (fault_rises l.fault) refl)

report_rises : (r : Report) → has_rising (report_data r) ≡ true
unfolding report_data report_object
report_rises r = both_true (all_rise line_data line_rises r.lines) refl

first_rises : (r : Report) → has_rising (first_data r) ≡ true
unfolding first_data first_object
first_rises r = both_true (all_rise line_data line_rises r.lines) refl

all_shallow : {X : Type 0} (n : ℕ) (f : X → Data) → ((x : X) → depth (f x) ≤ n) → (xs : List X) →
    items_depth (items_of (map f xs)) ≤ n
all_shallow n f one [] = omega arith
all_shallow n f one (x ∷ xs) = omega (arith, one x, all_shallow n f one xs)

fault_shallow : (f : Option (List ℕ)) → depth (fault_data f) ≤ 0
fault_shallow None = omega arith
fault_shallow (Some t) = omega arith

line_shallow : (l : ReportLine) → depth (line_data l) ≤ 2
unfolding line_data line_object
line_shallow l = omega (arith, all_shallow 0 string (λ t. omega arith) l.changes, fault_shallow l.fault)

report_shallow : (r : Report) → depth (report_data r) ≤ max_depth
unfolding report_data report_object
report_shallow r = omega (arith, all_shallow 2 line_data line_shallow r.lines)

first_shallow : (r : Report) → depth (first_data r) ≤ max_depth
unfolding first_data first_object
first_shallow r = omega (arith, all_shallow 2 line_data line_shallow r.lines)

lines_fit : (r : Report) → length r.lines ≤ length (report_text r)
unfolding report_data report_object
lines_fit r = omega (arith, long_list line_data r.lines, as_long (report_data r))

first_lines_fit : (r : Report) → length r.lines ≤ length (compact_text (first_data r))
unfolding first_data first_object
first_lines_fit r = omega (arith, long_list line_data r.lines, as_long (first_data r))

pub is_same : (a b : List ℕ) → b ≡ a → bytes_eq a b ≡ true
is_same a b e = (bytes_eq-Decides a b).1 (sym e)

taken : (first : Bool) (line : List ℕ) (r : Report) → is_written first line r ≡ true → if_written first line r ≡ Some r
taken first line r h = ap (λ b. if b then Some r else None) h

second_read : (r : Report) (l : List ℕ) → IsReport r → length l < 2 ^ 64 → l ≡ report_text r → report_in l ≡ Some r
second_read r l h short e =
    let few : length r.lines < 2 ^ 64 = omega (arith, lines_fit r, ap length e, short) in
    let again : read l ≡ Some (report_data r) =
    ap read e ∙ read_written (report_data r) (report_small r few) (report_rises r) (report_shallow r) in
    ap (option_and_then (report_written l)) again
    ∙ ap₂ (λ b o. option_and_then (if_written b l) o) (says_second r) (report_back r h)
    ∙ taken false l r (is_same (report_text r) l e)

first_read : (r : Report) (l : List ℕ) → IsReport r → length l < 2 ^ 64 → is_first r ≡ true →
    l ≡ compact_text (first_data r) → report_in l ≡ Some r
first_read r l h short none e =
    let few : length r.lines < 2 ^ 64 = omega (arith, first_lines_fit r, ap length e, short) in
    let again : read l ≡ Some (first_data r) =
    ap read e ∙ read_written (first_data r) (first_small r few) (first_rises r) (first_shallow r) in
    ap (option_and_then (report_written l)) again
    ∙ ap₂ (λ b o. option_and_then (if_written b l) o) (says_it_is_first r) (first_back r h)
    ∙ taken true l r (both_true none (is_same (compact_text (first_data r)) l e))

pub report_complete : (r : Report) (l : List ℕ) → length l < 2 ^ 64 → IsReportLine r l → report_in l ≡ Some r
report_complete r l short (h, inl e) = second_read r l h short e
report_complete r l short (h, inr p) = first_read r l h short p.0 p.1

-- ---- nothing else is read

kind_kept : (t : List ℕ) → Each is_kind (kind_of t)
kind_kept t = each_if is_kind (is_kind t) (Some t) None (λ e. e) (λ e. tt)

abbrev has_kind : Reference → Bool
has_kind r = is_kind r.kind

reference_kept : (text : List ℕ) → Each has_kind (reference_said text)
reference_kept text =
    each_then any has_kind reference_of (λ p h. each_both is_kind any has_kind (λ kind title. record { kind = kind; title = title })
    (λ k t x y. x) (kind_of (str_to_ascii_lowercase p.0)) (unclosed p.1) (kind_kept (str_to_ascii_lowercase p.0))
    (all (unclosed p.1))) (cut_at 91 text) (all (cut_at 91 text))

item_kept : (d : Data) → Each (λ s. has_kind s.0) (item_said d)
item_kept d =
    each_both has_kind any (λ (s : Reference × (Status × Bool)). has_kind s.0) (λ item rest. (item, rest)) (λ a b x y. x)
    (option_and_then reference_said (text_at (codes "ref") d))
    (both (λ status refreshed. (status, refreshed)) (option_and_then status_said (text_at (codes "status") d))
    (option_and_then as_bool (get (codes "refreshed") d)))
    (each_then any has_kind reference_said (λ t h. reference_kept t) (text_at (codes "ref") d) (all _)) (all _)

line_kept : (d : Data) → Each names_kind (line_said d)
unfolding line_said
line_kept d =
    each_both (λ (s : Reference × (Status × Bool)). has_kind s.0) any names_kind (line_of (text_at (codes "fault") d))
    (λ a b x y. x) (item_said d) (changes_said d) (item_kept d) (all _)

lines_kept : (ds : Items) → Each (list_all names_kind) (lines_said ds)
lines_kept no_items = refl
lines_kept (item d ds) =
    each_both names_kind (list_all names_kind) (list_all names_kind) (λ l ls. l ∷ ls) (λ l ls x y. both_true x y)
    (line_said d) (lines_said ds) (line_kept d) (lines_kept ds)

abbrev are_named : Report → Bool
are_named r = list_all names_kind r.lines

report_kept : (d : Data) → Each are_named (report_said d)
unfolding report_said
report_kept d =
    each_both any (list_all names_kind) are_named (λ node lines. record { node = node; lines = lines }) (λ a b x y. y)
    (text_at (codes "node") d) (option_and_then lines_said (items_at (codes "resources") d)) (all _)
    (each_then any (list_all names_kind) lines_said (λ ds h. lines_kept ds) (items_at (codes "resources") d) (all _))

-- what holds of all that there may be
abbrev pub Holds : {A : Type 0} → (A → Type 0) → Option A → Type 0
Holds P None = ⊤
Holds P (Some a) = P a

pub holds_then : {A B : Type 0} (f : A → Bool) (P : B → Type 0) (h : A → Option B) →
    ((a : A) → f a ≡ true → Holds P (h a)) → (o : Option A) → Each f o → Holds P (option_and_then h o)
holds_then f P h k None x = tt
holds_then f P h k (Some a) x = k a x

pub holds_if : {A : Type 0} (P : A → Type 0) (b : Bool) (a : A) → (b ≡ true → P a) → Holds P (if b then Some a else None)
holds_if P true a h = h refl
holds_if P false a h = tt

pub same_bytes : (a b : List ℕ) → bytes_eq a b ≡ true → b ≡ a
same_bytes a b h = sym ((bytes_eq-Decides a b).0 h)

written_line : (first : Bool) (l : List ℕ) (r : Report) → are_named r ≡ true → is_written first l r ≡ true → IsReportLine r l
written_line true l r h w = (h, inr (first_so (is_first r) _ w, same_bytes _ l (second_so (is_first r) _ w)))
written_line false l r h w = (h, inl (same_bytes _ l w))

written_lines : (l : List ℕ) (d : Data) → Holds (λ r. IsReportLine r l) (report_written l d)
written_lines l d =
    holds_then are_named (λ r. IsReportLine r l) (if_written (says_first d) l)
    (λ r h. holds_if (λ r. IsReportLine r l) (is_written (says_first d) l r) r (written_line (says_first d) l r h))
    (report_said d) (report_kept d)

pub report_sound : (r : Report) (l : List ℕ) → length l < 2 ^ 64 → report_in l ≡ Some r → IsReportLine r l
report_sound r l short e =
    subst (Holds (λ r. IsReportLine r l)) e
    (holds_then any (λ r. IsReportLine r l) (report_written l) (λ d h. written_lines l d) (read l) (all _))

pub report_one : (r : Report) (l : List ℕ) → IsReportLine r l → has_byte 10 l ≡ false
report_one r l (h, inl e) = ap (has_byte 10) e ∙ no_feed (report_data r)
report_one r l (h, inr p) = ap (has_byte 10) p.1 ∙ no_feed (first_data r)

abbrev no_report : Report
no_report = record { node = []; lines = [] }

pub some_report : (r : Report) × (l : List ℕ) × IsReportLine r l
some_report = (no_report, report_text no_report, (refl, inl refl))
