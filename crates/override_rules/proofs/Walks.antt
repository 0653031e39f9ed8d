-- Lines one after another.
use Rattle.std.proofs.Common.{◌≡◌, ℕ, ◌+◌, ◌<◌, ◌≤◌, Bool, true, false, ◌&&◌, if◌then◌else◌, List, [], ◌∷◌, ◌++◌, length, take, drop, get_or, add-one, Option, None, Some, Result, Ok, Err, refl, sym, ap, subst, ◌∙◌, append_assoc}
use Rattle.std.proofs.Math.Seq.{drop-cons}
use Rattle.std.proofs.Math.ListN.{drop_of_length-le}
use Rattle.std.proofs.lemmas.List.{append-nil, take_more}
use Rattle.std.specs.Prelude.{option_to_list, slice_get}
use Rattle.pp_values.proofs.Turns.{first_stops}
use Rattle.pp_values.specs.Answers.{AnswersBy, fault_told, and_then}
use Rattle.pp_values.specs.Datum.{Datum, undef, flag, int, text, list, hash, reference, kind, default}
use Rattle.pp_values.specs.declared.fault.Fault.{Fault}
use Rattle.pp_values.specs.declared.fault.Stop.{Stop}
use Rattle.res_core.specs.declared.declared.Declared.{Declared}
use Rattle.std.specs.Str.{bytes_eq}
use Rattle.override_rules.proofs.Places.{lines_at-append, lines_at-once, lines_at-none}
use Rattle.override_rules.specs.Changes.{set_to, appended, changed}
use Rattle.override_rules.specs.Fold.{after_line, after_lines}
use Rattle.override_rules.specs.Lines.{Line}
use Rattle.override_rules.specs.Numbers.{lines_at}
use Rattle.override_rules.specs.Rights.{is_set, is_set_by, line_test, line_tests}
use Rattle.override_rules.specs.SetLines.{is_value, set_after, set_after_lines}

-- ---- values

after-append : (name : List ℕ) (a b : List Line) (v : Option Datum) →
    after_lines name (a ++ b) v ≡ after_lines name b (after_lines name a v)
unfolding after_lines
after-append name [] b v = refl
after-append name (l ∷ ls) b v = after-append name ls b (after_line name l v)

at_first : (ls : List Line) (n : ℕ) (ns left : List ℕ) → left ≡ n ∷ ns →
    lines_at ls left ≡ option_to_list (slice_get ls n) ++ lines_at ls ns
unfolding lines_at
at_first ls n ns left e = ap (lines_at ls) e

-- the numbers from a place on: the first of them, and the others
pub from_place : (ls : List Line) (ns : List ℕ) (i : ℕ) → i < length ns →
    lines_at ls (drop i ns) ≡ option_to_list (slice_get ls (get_or ns i 0)) ++ lines_at ls (drop (i + 1) ns)
from_place ls ns i fits =
    at_first ls (get_or ns i 0) (drop (i + 1) ns) (drop i ns) (rw add-one (drop-cons ns i 0 fits))

pub past_end : (ls : List Line) (ns : List ℕ) (i : ℕ) → length ns ≤ i → lines_at ls (drop i ns) ≡ []
past_end ls ns i past = ap (lines_at ls) (drop_of_length-le ns past) ∙ lines_at-none ls

pub after_place : (name : List ℕ) (ls : List Line) (ns : List ℕ) (i : ℕ) (v w : Option Datum) → i < length ns →
    w ≡ after_lines name (option_to_list (slice_get ls (get_or ns i 0))) v →
    after_lines name (lines_at ls (drop i ns)) v ≡ after_lines name (lines_at ls (drop (i + 1) ns)) w
after_place name ls ns i v w fits is =
    ap (λ t. after_lines name t v) (from_place ls ns i fits)
    ∙ after-append name (option_to_list (slice_get ls (get_or ns i 0))) (lines_at ls (drop (i + 1) ns)) v
    ∙ ap (after_lines name (lines_at ls (drop (i + 1) ns))) (sym is)

pub after_end : (name : List ℕ) (ls : List Line) (ns : List ℕ) (i : ℕ) (v : Option Datum) → length ns ≤ i →
    after_lines name (lines_at ls (drop i ns)) v ≡ v
unfolding after_lines
after_end name ls ns i v past = ap (λ t. after_lines name t v) (past_end ls ns i past)

pub after_one : (name : List ℕ) (l : Line) (v : Option Datum) → after_lines name (l ∷ []) v ≡ after_line name l v
unfolding after_lines
after_one name l v = refl

pub after_no : (name : List ℕ) (v : Option Datum) → after_lines name [] v ≡ v
unfolding after_lines
after_no name v = refl

-- ---- whether it is set

pub is_set-to : (d : Datum) → is_set (set_to d) ≡ is_value d
is_set-to undef = refl
is_set-to (flag b) = refl
is_set-to (int z) = refl
is_set-to (text t) = refl
is_set-to (list ds) = refl
is_set-to (hash es) = refl
is_set-to (reference r) = refl
is_set-to (kind s) = refl
is_set-to default = refl

is_set-appended : (v : Option Datum) (d : Datum) → is_set (appended d v) ≡ (if is_set v then true else is_value d)
is_set-appended None d = is_set-to d
is_set-appended (Some old) d = refl

is_set-changed : (append : Bool) (v : Option Datum) (d : Datum) →
    is_set (changed append d v) ≡ (if append && is_set v then true else is_value d)
is_set-changed true v d = is_set-appended v d
is_set-changed false v d = is_set-to d

is_set-line : (b append : Bool) (v : Option Datum) (d : Datum) →
    is_set (if b then changed append d v else v) ≡ (if b then (if append && is_set v then true else is_value d)
    else is_set v)
is_set-line true append v d = is_set-changed append v d
is_set-line false append v d = refl

pub is_set-after : (name : List ℕ) (ls : List Line) (v : Option Datum) →
    is_set (after_lines name ls v) ≡ set_after_lines name ls (is_set v)
unfolding after_lines set_after_lines
is_set-after name [] v = refl
is_set-after name (l ∷ ls) v =
    is_set-after name ls (after_line name l v)
    ∙ ap (set_after_lines name ls) (is_set-line (bytes_eq l.name name) l.append v l.value)

set-append : (name : List ℕ) (a b : List Line) (s : Bool) →
    set_after_lines name (a ++ b) s ≡ set_after_lines name b (set_after_lines name a s)
unfolding set_after_lines
set-append name [] b s = refl
set-append name (l ∷ ls) b s = set-append name ls b (set_after name l s)

pub set_place : (name : List ℕ) (ls : List Line) (ns : List ℕ) (i : ℕ) (v w : Bool) → i < length ns →
    w ≡ set_after_lines name (option_to_list (slice_get ls (get_or ns i 0))) v →
    set_after_lines name (lines_at ls (drop i ns)) v ≡ set_after_lines name (lines_at ls (drop (i + 1) ns)) w
set_place name ls ns i v w fits is =
    ap (λ t. set_after_lines name t v) (from_place ls ns i fits)
    ∙ set-append name (option_to_list (slice_get ls (get_or ns i 0))) (lines_at ls (drop (i + 1) ns)) v
    ∙ ap (set_after_lines name (lines_at ls (drop (i + 1) ns))) (sym is)

pub set_end : (name : List ℕ) (ls : List Line) (ns : List ℕ) (i : ℕ) (v : Bool) → length ns ≤ i →
    set_after_lines name (lines_at ls (drop i ns)) v ≡ v
unfolding set_after_lines
set_end name ls ns i v past = ap (λ t. set_after_lines name t v) (past_end ls ns i past)

pub set_one : (name : List ℕ) (l : Line) (v : Bool) → set_after_lines name (l ∷ []) v ≡ set_after name l v
unfolding set_after_lines
set_one name l v = refl

pub set_no : (name : List ℕ) (v : Bool) → set_after_lines name [] v ≡ v
unfolding set_after_lines
set_no name v = refl

-- ---- tests

tests-then : (d : Declared) (e : Bool) (done a b : List Line) (l : Line) (r : Result (Unit {0}) Fault) →
    line_tests d e (done ++ l ∷ []) (a ++ b)
    ≡ and_then (line_tests d e (done ++ l ∷ []) a) (λ _. line_tests d e ((done ++ l ∷ []) ++ a) b) →
    and_then r (λ _. line_tests d e (done ++ l ∷ []) (a ++ b))
    ≡ and_then (and_then r (λ _. line_tests d e (done ++ l ∷ []) a)) (λ _. line_tests d e (done ++ l ∷ a) b)
tests-then d e done a b l (Ok u) h =
    h ∙ ap (λ t. and_then (line_tests d e (done ++ l ∷ []) a) (λ _. line_tests d e t b))
    (append_assoc done (l ∷ []) a)
tests-then d e done a b l (Err f) h = refl

pub tests-append : (d : Declared) (e : Bool) (done a b : List Line) →
    line_tests d e done (a ++ b) ≡ and_then (line_tests d e done a) (λ _. line_tests d e (done ++ a) b)
unfolding line_tests
tests-append d e done [] b = ap (λ t. line_tests d e t b) (sym (append-nil done))
tests-append d e done (l ∷ a) b =
    tests-then d e done a b l (line_test d e (is_set_by d done l.name) l) (tests-append d e (done ++ l ∷ []) a b)

pub tests_none : (d : Declared) (e : Bool) (done : List Line) → line_tests d e done [] ≡ Ok tt
unfolding line_tests
tests_none d e done = refl

alone : (r : Result (Unit {0}) Fault) → and_then r (λ _. Ok tt) ≡ r
alone (Ok tt) = refl
alone (Err f) = refl

pub tests_once : (d : Declared) (e : Bool) (done : List Line) (l : Line) →
    line_tests d e done (l ∷ []) ≡ line_test d e (is_set_by d done l.name) l
unfolding line_tests
tests_once d e done l = alone (line_test d e (is_set_by d done l.name) l)

-- the numbers at a place of the list and behind it
tests_step : (d : Declared) (e : Bool) (ls : List Line) (ns : List ℕ) (at : ℕ) → at < length ns →
    line_tests d e (lines_at ls (take at ns)) (lines_at ls (drop at ns))
    ≡ and_then (line_tests d e (lines_at ls (take at ns)) (option_to_list (slice_get ls (get_or ns at 0))))
    (λ _. line_tests d e (lines_at ls (take (at + 1) ns)) (lines_at ls (drop (at + 1) ns)))
tests_step d e ls ns at fits =
    let n = get_or ns at 0 in
    let one : List Line = option_to_list (slice_get ls n) in
    let front : lines_at ls (take at ns) ++ one ≡ lines_at ls (take (at + 1) ns) =
    sym (ap (lines_at ls) (take_more ns at 0 fits)
    ∙ lines_at-append ls (take at ns) (n ∷ []) ∙ ap (λ t. lines_at ls (take at ns) ++ t) (lines_at-once ls n)) in
    ap (line_tests d e (lines_at ls (take at ns))) (from_place ls ns at fits)
    ∙ tests-append d e (lines_at ls (take at ns)) one (lines_at ls (drop (at + 1) ns))
    ∙ ap (λ t. and_then (line_tests d e (lines_at ls (take at ns)) one)
    (λ _. line_tests d e t (lines_at ls (drop (at + 1) ns)))) front

pub tests_go_on : (d : Declared) (e : Bool) (ls : List Line) (ns : List ℕ) (at : ℕ) (whole : Result (Unit {0})
    Fault) →
    at < length ns →
    line_tests d e (lines_at ls (take at ns)) (option_to_list (slice_get ls (get_or ns at 0))) ≡ Ok tt →
    whole ≡ line_tests d e (lines_at ls (take at ns)) (lines_at ls (drop at ns)) →
    whole ≡ line_tests d e (lines_at ls (take (at + 1) ns)) (lines_at ls (drop (at + 1) ns))
tests_go_on d e ls ns at whole fits went held =
    held ∙ tests_step d e ls ns at fits
    ∙ ap (λ r. and_then r (λ _. line_tests d e (lines_at ls (take (at + 1) ns)) (lines_at ls (drop (at + 1) ns))))
    went

pub tests_stop : (d : Declared) (e : Bool) (ls : List Line) (ns : List ℕ) (at : ℕ) (whole : Result (Unit {0}) Fault)
    (s : Stop) → at < length ns →
    AnswersBy {T = Unit {0}} fault_told (Err s) (line_tests d e (lines_at ls (take at ns))
    (option_to_list (slice_get ls (get_or ns at 0)))) →
    whole ≡ line_tests d e (lines_at ls (take at ns)) (lines_at ls (drop at ns)) →
    AnswersBy {T = Unit {0}} fault_told (Err s) whole
tests_stop d e ls ns at whole s fits went held =
    subst (λ m. AnswersBy {T = Unit {0}} fault_told (Err s) m) (sym (held ∙ tests_step d e ls ns at fits))
    (first_stops fault_told s (line_tests d e (lines_at ls (take at ns))
    (option_to_list (slice_get ls (get_or ns at 0))))
    (λ _. line_tests d e (lines_at ls (take (at + 1) ns)) (lines_at ls (drop (at + 1) ns))) went)

pub tests_end : (d : Declared) (e : Bool) (ls : List Line) (ns : List ℕ) (at : ℕ) → length ns ≤ at →
    line_tests d e (lines_at ls (take at ns)) (lines_at ls (drop at ns)) ≡ Ok tt
tests_end d e ls ns at past =
    ap (line_tests d e (lines_at ls (take at ns))) (past_end ls ns at past)
    ∙ tests_none d e (lines_at ls (take at ns))

pub tests_start : (d : Declared) (e : Bool) (ls : List Line) (ns : List ℕ) →
    line_tests d e [] (lines_at ls ns) ≡ line_tests d e (lines_at ls (take 0 ns)) (lines_at ls (drop 0 ns))
tests_start d e ls ns = ap (λ t. line_tests d e t (lines_at ls ns)) (sym (lines_at-none ls))
