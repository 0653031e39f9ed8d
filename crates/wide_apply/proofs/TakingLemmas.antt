-- The turns of a wave, all together.
use Rattle.std.proofs.Common.{◌≡◌, ℕ, ◌<◌, List, [], ◌∷◌, ◌++◌, All, Result, Ok, Err, IfOk, map, length, refl, sym}
use Rattle.std.proofs.Common.{subst, ap, ap₂, ◌∙◌, append-nil, append_assoc}
use Rattle.std.proofs.lemmas.List.{map-append}
use Rattle.std.proofs.lemmas.List.Elements.{All-from_recursion, recursion_from_All}
use Rattle.std.specs.List.{AllZip, AllByRecursion}
use Rattle.std.specs.declared.alloc.Global.{Global}
use Rattle.std.specs.declared.vec.Vec.{Vec}
use Rattle.pp_values.specs.declared.memory.Memory.{Memory}
use Rattle.agent_machine.specs.Machines.{Told}
use Rattle.agent_machine.specs.declared.report_line.ReportLine.{ReportLine}
use Rattle.agent_marks.specs.Spreads.{Marking, IsNew}
use Rattle.agent_transaction.proofs.RunLemmas.{marks_new}
use Rattle.agent_transaction.specs.Marking.{planned_pair}
use Rattle.agent_transaction.specs.Runs.{Turned, has_failed, signals}
use Rattle.agent_transaction.specs.declared.planned.Planned.{Planned}
use Rattle.agent_transaction.specs.declared.task.Task.{Task}
use Rattle.wide_apply.specs.Apart.{Begins, TakesAll, TakesBackIf, TakesAllBack, BackGives, back_of}
use Rattle.wide_apply.specs.Going.{Related, comes, leads, AreFiled, AreKnown, AreWithin, SameSizes, IsWave, IsCutWave}
use Rattle.wide_apply.specs.Going.{WaveGives, Going, IsCutRun, IsWholeRun, WavesGive}
use Rattle.wide_apply.specs.WideRuns.{turn_of, together, turns_of, rising_lines, IsTurnedApart}
use Rattle.wide_apply.specs.declared.apart_turn.ApartTurn.{ApartTurn}
use Rattle.wide_apply.specs.declared.back.Back.{Back}
use Rattle.wide_apply.specs.declared.taken_turn.TakenTurn.{TakenTurn}
use Rattle.wide_apply.proofs.ApartLemmas.{wave_of, apart_all, turns_same, ats_same, lines_same, give_some, give_all}
use Rattle.wide_apply.proofs.WaveLemmas.{together_push, waves_more}

pub back_push : {P : Type 0} (state : P → Told) (bs : List (Back P)) (b : Back P) (before middle after : Told) →
    TakesAllBack state bs before middle → TakesBackIf state b.what b.part middle after →
    TakesAllBack state (bs ++ b ∷ []) before after
back_push state [] b before middle after e back =
    (after, subst (λ m. TakesBackIf state b.what b.part m after) e back, refl)
back_push state (x ∷ bs) b before middle after t back = (t.0, t.1, back_push state bs b t.0 middle after t.2 back)

-- ---- what is filed

pub record Last {P : Type 0} (ks : List (TakenTurn P)) (k : TakenTurn P) (wave : List Turned) : Type 0 where
  pub front : List Turned
  pub last : Turned
  pub is : wave ≡ front ++ last ∷ []
  pub ats : map (λ (t : Turned). t.at) front ≡ map (λ (t : TakenTurn P). t.at) ks
  pub lines : map (λ (t : Turned). t.line) front ≡ map (λ (t : TakenTurn P). t.line) ks
  pub at : last.at ≡ k.at
  pub line : last.line ≡ k.line

uncons : {X : Type 0} (a b : X) (xs ys : List X) → a ∷ xs ≡ b ∷ ys → (a ≡ b) × (xs ≡ ys)
uncons a b xs ys e = (cc e, cc e)

pub last_of : {P : Type 0} (ks : List (TakenTurn P)) (k : TakenTurn P) (wave : List Turned) →
    map (λ (t : Turned). t.at) wave ≡ map (λ (t : TakenTurn P). t.at) (ks ++ k ∷ []) →
    map (λ (t : Turned). t.line) wave ≡ map (λ (t : TakenTurn P). t.line) (ks ++ k ∷ []) → Last ks k wave
last_of [] k [] e f = absurd (cc e)
last_of [] k (t ∷ []) e f = record {
  front = [];
  last = t;
  is = refl;
  ats = refl;
  lines = refl;
  at = (uncons t.at k.at [] [] e).0;
  line = (uncons t.line k.line [] [] f).0;
}
last_of {P} [] k (t ∷ u ∷ w) e f = absurd (cc (uncons t.at k.at (u.at ∷ map (λ (t : Turned). t.at) w) [] e).1)
last_of {P} (j ∷ ks) k [] e f = absurd (cc e)
last_of {P} (j ∷ ks) k (t ∷ w) e f =
    let p = uncons t.at j.at (map (λ (t : Turned). t.at) w) (map (λ (t : TakenTurn P). t.at) (ks ++ k ∷ [])) e in
    let q = uncons t.line j.line (map (λ (t : Turned). t.line) w)
    (map (λ (t : TakenTurn P). t.line) (ks ++ k ∷ [])) f in
    let r = last_of ks k w p.1 q.1 in
    record {
      front = t ∷ r.front;
      last = r.last;
      is = ap (λ l. t ∷ l) r.is;
      ats = ap₂ (λ x l. x ∷ l) p.0 r.ats;
      lines = ap₂ (λ x l. x ∷ l) q.0 r.lines;
      at = r.at;
      line = r.line;
    }

pub sizes_same : (slots : List (Vec ReportLine Global)) (blocked signalled : Marking) →
    SameSizes slots slots blocked blocked signalled signalled
sizes_same slots blocked signalled = record { same_slots = refl; same_blocked = refl; same_signalled = refl }

pub sizes_then : (s t u : List (Vec ReportLine Global)) (b c d x y z : Marking) → SameSizes s t b c x y →
    SameSizes t u c d y z → SameSizes s u b d x z
sizes_then s t u b c d x y z p q = record {
  same_slots = q.same_slots ∙ p.same_slots;
  same_blocked = q.same_blocked ∙ p.same_blocked;
  same_signalled = q.same_signalled ∙ p.same_signalled;
}

-- ---- a wave

front_all : {X : Type 0} (P : X → Type 0) (xs ys : List X) → AllByRecursion P (xs ++ ys) → AllByRecursion P xs
front_all P [] ys h = tt
front_all P (x ∷ xs) ys h = (h.0, front_all P xs ys h.1)

pub cut_none : (r : Related) (earlier : List Turned) (tasks : List (ℕ × Task)) (found after : Told) → after ≡ found →
    IsCutWave r earlier tasks found after
cut_none r earlier tasks found after same = record {
  begun = [];
  left = tasks;
  first = refl;
  apart = All-from_recursion (IsTurnedApart (comes r) (leads r) earlier found) [] tt;
  back = same;
}

module _ {P : Type 0} (state : P → Told) (found : Told) (r : Related) (earlier : List Turned)
    (slots : List (Vec ReportLine Global))
    (blocked signalled : Marking) (known : AreKnown r earlier slots blocked signalled)
    (plan : List Planned) (turns : List (ApartTurn P)) (taken : List (TakenTurn P))
    (begins : AllZip (Begins state blocked signalled found) plan turns) (takes : TakesAll state turns taken) where
  wave : List Turned
  wave = wave_of state found plan taken

  apart : AllByRecursion (IsTurnedApart (comes r) (leads r) earlier found) (wave_of state found plan taken)
  apart = apart_all state found r earlier slots blocked signalled known plan turns taken begins takes

  whose : map turn_of (wave_of state found plan taken) ≡ map planned_pair plan
  whose = turns_same state found blocked signalled plan turns taken begins takes

  pub wave_whole : (slots_after : List (Vec ReportLine Global)) (blocked_after signalled_after : Marking)
      (after : Told) →
      ((wave : List Turned) → map (λ (t : Turned). t.at) wave ≡ map (λ (t : TakenTurn P). t.at) taken →
      map (λ (t : Turned). t.line) wave ≡ map (λ (t : TakenTurn P). t.line) taken →
      AreKnown r (earlier ++ wave) slots_after blocked_after signalled_after) →
      (backs : List (Back P)) → backs ≡ map back_of taken → TakesAllBack state backs found after →
      IsWave r earlier (map planned_pair plan) slots_after blocked_after signalled_after found after
  wave_whole slots_after blocked_after signalled_after after filed backs same back = record {
    wave = wave_of state found plan taken;
    whose = whose;
    apart = All-from_recursion (IsTurnedApart (comes r) (leads r) earlier found) (wave_of state found plan taken) apart;
    back = give_all state found blocked signalled plan turns taken backs found after begins takes same back;
    known = filed (wave_of state found plan taken)
        (ats_same state found blocked signalled plan turns taken begins takes)
        (lines_same state found blocked signalled plan turns taken begins takes);
  }

  pub wave_cut : (after : Told) (backs some left : List (Back P)) → backs ≡ map back_of taken → some ++ left ≡ backs →
      TakesAllBack state some found after → IsCutWave r earlier (map planned_pair plan) found after
  wave_cut after backs some left same parts back =
      let g = give_some state found blocked signalled plan turns taken some left found after begins takes
      (parts ∙ same) back in
      record {
        begun = g.begun;
        left = map turn_of g.left;
        first = sym (map-append turn_of g.begun g.left) ∙ ap (map turn_of) g.is ∙ whose;
        apart = All-from_recursion (IsTurnedApart (comes r) (leads r) earlier found) g.begun
            (front_all (IsTurnedApart (comes r) (leads r) earlier found) g.begun g.left
            (subst (AllByRecursion (IsTurnedApart (comes r) (leads r) earlier found)) (sym g.is) apart));
        back = g.back;
      }

  pub wave_by : (result : Result Unit Memory) (slots_after : List (Vec ReportLine Global))
      (blocked_after signalled_after : Marking) (after : Told) →
      ((wave : List Turned) → map (λ (t : Turned). t.at) wave ≡ map (λ (t : TakenTurn P). t.at) taken →
      map (λ (t : Turned). t.line) wave ≡ map (λ (t : TakenTurn P). t.line) taken →
      AreKnown r (earlier ++ wave) slots_after blocked_after signalled_after) →
      (backs : List (Back P)) → backs ≡ map back_of taken → BackGives state backs result found after →
      WaveGives r earlier (map planned_pair plan) result slots_after blocked_after signalled_after found after
  wave_by (Ok done) slots_after blocked_after signalled_after after filed backs same gives =
      wave_whole slots_after blocked_after signalled_after after filed backs same gives
  wave_by (Err refused) slots_after blocked_after signalled_after after filed backs same gives =
      wave_cut after backs gives.0 gives.1 same gives.2 gives.3

-- ---- one wave after another

pub going_start : (r : Related) (waves : List (List (ℕ × Task))) (count : ℕ) (slots : List (Vec ReportLine Global))
    (blocked signalled : Marking) (start : Told) →
    AreFiled [] slots → IsNew count (comes r) blocked → IsNew count (leads r) signalled →
    Going r waves waves slots blocked signalled start start
going_start r waves count slots blocked signalled start filed new new_too = record {
  done = [];
  whose = refl;
  each = refl;
  known = record {
    filed = filed;
    blocks = marks_new has_failed (comes r) count blocked new;
    sources = marks_new signals (leads r) count signalled new_too;
  };
}

module _ (r : Related) (waves left : List (List (ℕ × Task))) (tasks : List (ℕ × Task))
    (slots : List (Vec ReportLine Global))
    (blocked signalled : Marking) (start now : Told)
    (g : Going r waves (tasks ∷ left) slots blocked signalled start now) where
  pub going_more : (slots_after : List (Vec ReportLine Global)) (blocked_after signalled_after : Marking)
      (after : Told) →
      IsWave r (together g.done) tasks slots_after blocked_after signalled_after now after →
      Going r waves left slots_after blocked_after signalled_after start after
  going_more slots_after blocked_after signalled_after after w = record {
    done = g.done ++ w.wave ∷ [];
    whose =
        ap (λ l. l ++ left) (map-append (map turn_of) g.done (w.wave ∷ [])
        ∙ ap (λ t. turns_of g.done ++ t ∷ []) w.whose)
        ∙ append_assoc (turns_of g.done) (tasks ∷ []) left ∙ g.whose;
    each = waves_more (comes r) (leads r) [] g.done w.wave start now after g.each w.apart w.back;
    known = subst (λ l. AreKnown r l slots_after blocked_after signalled_after)
        (sym (together_push g.done w.wave)) w.known;
  }

  pub going_cut : (after : Told) → IsCutWave r (together g.done) tasks now after → IsCutRun r waves start after
  going_cut after w = record {
    done = g.done;
    begun = w.begun;
    left = tasks ∷ left;
    middle = now;
    whose = g.whose;
    each = g.each;
    first = (w.left, w.first);
    apart = w.apart;
    back = w.back;
  }

pub going_cut_late : (r : Related) (waves left : List (List (ℕ × Task))) (slots : List (Vec ReportLine Global))
    (blocked signalled : Marking)
    (start now after : Told) → Going r waves left slots blocked signalled start now → left ≡ [] → after ≡ now →
    IsCutRun r waves start after
going_cut_late r waves left slots blocked signalled start now after g none same = record {
  done = g.done;
  begun = [];
  left = [];
  middle = now;
  whose = ap (λ l. turns_of g.done ++ l) (sym none) ∙ g.whose;
  each = g.each;
  first = refl;
  apart = All-from_recursion (IsTurnedApart (comes r) (leads r) (together g.done) now) [] tt;
  back = same;
}

pub cut_first : (r : Related) (waves : List (List (ℕ × Task))) (start after : Told) → after ≡ start →
    IsCutRun r waves start after
cut_first r [] start after same = record {
  done = [];
  begun = [];
  left = [];
  middle = start;
  whose = refl;
  each = refl;
  first = refl;
  apart = All-from_recursion (IsTurnedApart (comes r) (leads r) [] start) [] tt;
  back = same;
}
cut_first r (w ∷ ws) start after same = record {
  done = [];
  begun = [];
  left = w ∷ ws;
  middle = start;
  whose = refl;
  each = refl;
  first = (w, refl);
  apart = All-from_recursion (IsTurnedApart (comes r) (leads r) [] start) [] tt;
  back = same;
}

pub going_end : (r : Related) (waves left : List (List (ℕ × Task))) (count : ℕ) (lines : List ReportLine)
    (slots : List (Vec ReportLine Global))
    (blocked signalled : Marking) (start now after : Told) → Going r waves left slots blocked signalled start now →
    left ≡ [] → after ≡ now →
    length slots ≡ count → ((turned : List Turned) → AreFiled turned slots →
    lines ≡ rising_lines 0 (length slots) turned) →
    IsWholeRun r waves count lines start after
going_end r waves left count lines slots blocked signalled start now after g none same long rising =
    subst (IsWholeRun r waves count lines start) (sym same) (record {
      done = g.done;
      whose = sym (append-nil (turns_of g.done)) ∙ ap (λ l. turns_of g.done ++ l) (sym none) ∙ g.whose;
      each = g.each;
      rising = rising (together g.done) g.known.filed ∙ ap (λ n. rising_lines 0 n (together g.done)) long;
    })

pub going_by : (result : Result (List ReportLine) Memory) (r : Related) (waves left : List (List (ℕ × Task)))
    (count : ℕ) (slots : List (Vec ReportLine Global))
    (blocked signalled : Marking) (start now : Told) →
    Going r waves left slots blocked signalled start now → left ≡ [] →
    length slots ≡ count → IfOk result (λ lines. (turned : List Turned) → AreFiled turned slots →
    lines ≡ rising_lines 0 (length slots) turned) →
    WavesGive r waves count result start now
going_by (Ok lines) r waves left count slots blocked signalled start now g none long rising =
    going_end r waves left count lines slots blocked signalled start now now g none refl long rising
going_by (Err refused) r waves left count slots blocked signalled start now g none long rising =
    going_cut_late r waves left slots blocked signalled start now now g none refl

-- ---- loops

within_rec : {P : Type 0} (front rest : List (TakenTurn P)) (k : TakenTurn P) (Q : ℕ → Type 0) →
    AllByRecursion Q (map (λ (t : TakenTurn P). t.at) (front ++ k ∷ rest)) → Q k.at
within_rec [] rest k Q h = h.0
within_rec (x ∷ front) rest k Q h = within_rec front rest k Q h.1

pub within_one : {P : Type 0} (ks front rest : List (TakenTurn P)) (k : TakenTurn P) (Q : ℕ → Type 0) →
    front ++ k ∷ rest ≡ ks →
    All Q (map (λ (t : TakenTurn P). t.at) ks) → Q k.at
within_one {P} ks front rest k Q is h =
    within_rec front rest k Q (recursion_from_All Q (map (λ (t : TakenTurn P). t.at) (front ++ k ∷ rest))
    (subst (λ l. All Q (map (λ (t : TakenTurn P). t.at) l)) (sym is) h))

pub known_start : (r : Related) (turned wave : List Turned) (slots : List (Vec ReportLine Global))
    (blocked signalled : Marking) →
    map (λ (t : Turned). t.at) wave ≡ [] → AreKnown r turned slots blocked signalled →
    AreKnown r (turned ++ wave) slots blocked signalled
known_start r turned [] slots blocked signalled e k =
    subst (λ l. AreKnown r l slots blocked signalled) (sym (append-nil turned)) k
known_start r turned (t ∷ wave) slots blocked signalled e k = absurd (cc e)

wave_rec : (lists : List (Vec Planned Global)) (count : ℕ) →
    All (λ (wave : Vec Planned Global). All (λ (p : Planned). p.at < count) wave.items) lists →
    AllByRecursion (λ (wave : Vec Planned Global). All (λ (p : Planned). p.at < count) wave.items) lists
wave_rec lists count h = recursion_from_All
    (λ (wave : Vec Planned Global). All (λ (p : Planned). p.at < count) wave.items) lists h

middle : {X : Type 0} (Q : X → Type 0) (front rest : List X) (x : X) → AllByRecursion Q (front ++ x ∷ rest) → Q x
middle Q [] rest x h = h.0
middle Q (y ∷ front) rest x h = middle Q front rest x h.1

ats_under : (n : ℕ) (ps : List Planned) → AllByRecursion (λ (p : Planned). p.at < n) ps →
    AllByRecursion (λ x. x < n) (map (λ (p : Planned). p.at) ps)
ats_under n [] h = tt
ats_under n (p ∷ ps) h = (h.0, ats_under n ps h.1)

-- the indexes of the next wave
pub wave_within : (lists front rest : List (Vec Planned Global)) (wave : Vec Planned Global) (count : ℕ)
    (slots : List (Vec ReportLine Global))
    (blocked signalled : Marking) → front ++ wave ∷ rest ≡ lists →
    All (λ (wave : Vec Planned Global). All (λ (p : Planned). p.at < count) wave.items) lists →
    length slots ≡ count → blocked.count ≡ count → signalled.count ≡ count →
    AreWithin (map (λ (p : Planned). p.at) wave.items) slots blocked signalled
wave_within lists front rest wave count slots blocked signalled is below long b s =
    let here = middle (λ (wave : Vec Planned Global). All (λ (p : Planned). p.at < count) wave.items) front rest wave
    (wave_rec (front ++ wave ∷ rest) count
    (subst (λ l. All (λ (wave : Vec Planned Global). All (λ (p : Planned). p.at < count) wave.items) l)
    (sym is) below)) in
    let ats = All-from_recursion (λ x. x < count) (map (λ (p : Planned). p.at) wave.items)
    (ats_under count wave.items (recursion_from_All (λ (p : Planned). p.at < count) wave.items here)) in
    record {
      in_slots = subst (λ n. All (λ x. x < n) (map (λ (p : Planned). p.at) wave.items)) (sym long) ats;
      in_blocked = subst (λ n. All (λ x. x < n) (map (λ (p : Planned). p.at) wave.items)) (sym b) ats;
      in_signalled = subst (λ n. All (λ x. x < n) (map (λ (p : Planned). p.at) wave.items)) (sym s) ats;
    }
