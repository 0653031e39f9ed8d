-- Turns that are begun, taken and given back, as the definition of a run has them.
use Rattle.std.proofs.Common.{◌≡◌, ℕ, Bool, true, false, List, [], ◌∷◌, ◌++◌, map, Option, None, Some, Result, Ok, Err}
use Rattle.std.proofs.Common.{inl, inr, refl, sym, subst, ap, ap₂, ◌∙◌}
use Rattle.std.specs.List.{AllZip, AllByRecursion}
use Rattle.std.specs.declared.alloc.Global.{Global}
use Rattle.std.specs.declared.vec.Vec.{Vec}
use Rattle.pp_values.specs.declared.reference.Reference.{Reference}
use Rattle.agent_machine.specs.Machines.{Told}
use Rattle.agent_machine.specs.Parts.{TakesBack}
use Rattle.agent_machine.specs.declared.report_line.ReportLine.{ReportLine}
use Rattle.agent_marks.specs.Spreads.{Marking}
use Rattle.agent_transaction.specs.Marking.{planned_pair}
use Rattle.agent_transaction.specs.Runs.{Turned, IsTurned}
use Rattle.agent_transaction.specs.Turns.{IsTurn, line_of, calm_status, skipped_line}
use Rattle.agent_transaction.specs.declared.planned.Planned.{Planned}
use Rattle.agent_transaction.specs.declared.task.Task.{Task}
use Rattle.wide_apply.specs.Apart.{own_part, HasPart, Begins, TakesPart, Takes, TakesAll, TakesBackIf, TakesAllBack}
use Rattle.wide_apply.specs.Apart.{left_by, turned_by, back_of}
use Rattle.wide_apply.specs.Going.{Related, comes, leads, AreKnown}
use Rattle.wide_apply.specs.WideRuns.{turn_of, is_skipped, BackIf, GivesBack, GiveBack, IsTurnedApart}
use Rattle.wide_apply.specs.declared.apart_turn.ApartTurn.{ApartTurn}
use Rattle.wide_apply.specs.declared.back.Back.{Back}
use Rattle.wide_apply.specs.declared.taken_turn.TakenTurn.{TakenTurn}

-- a resource that had its turn is not skipped
calm_one : (noop : Bool) (changes : List (List ℕ)) → is_skipped (calm_status noop changes) ≡ false
calm_one noop [] = refl
calm_one true (change ∷ changes) = refl
calm_one false (change ∷ changes) = refl

had_turn : (what : Reference) (noop : Bool) (changes : List (List ℕ)) (result : Result Bool (List ℕ)) →
    is_skipped (line_of what noop changes result).status ≡ false
had_turn what noop changes (Ok refreshed) = calm_one noop changes
had_turn what noop changes (Err fault) = refl

pub turn_not_skipped : (task : Task) (due : Bool) (line : ReportLine) (before after : Told) →
    IsTurn task due line before after →
    is_skipped line.status ≡ false
turn_not_skipped task due line before after t =
    ap (λ (l : ReportLine). is_skipped l.status) t.told ∙ had_turn task.what task.noop t.changes t.result

module _ {P : Type 0} (state : P → Told) (found : Told) where
  abbrev pub wave_of : List Planned → List (TakenTurn P) → List Turned
  wave_of [] taken = []
  wave_of (p ∷ ps) [] = []
  wave_of (p ∷ ps) (t ∷ ts) = turned_by state found p t.line t.part ∷ wave_of ps ts

  module _ (r : Related) (earlier : List Turned) (slots : List (Vec ReportLine Global)) (blocked signalled : Marking)
      (known : AreKnown r earlier slots blocked signalled) where
    pub apart_one : (planned : Planned) (turn : ApartTurn P) (taken : TakenTurn P) →
        Begins state blocked signalled found planned turn → Takes state turn taken →
        IsTurnedApart (comes r) (leads r) earlier found (turned_by state found planned taken.line taken.part)
    apart_one planned turn taken b t = record {
      part = refl;
      turned = turned_on turn.part refl;
    } where
      own : Told
      own = own_part planned.ready found

      turned_on : (o : Option P) → turn.part ≡ o →
          IsTurned (comes r) (leads r) earlier (turned_by state found planned taken.line taken.part)
      turned_on None is =
          let took = subst (λ o. TakesPart state turn taken.line o taken.part) is t.part in
          let marked = subst (HasPart state blocked planned.at planned.ready found) is b.part in
          inl (
            (known.blocks.marked planned.at).0 marked,
            took.0 ∙ ap (λ (k : Task). skipped_line k.what) b.task,
            ap (left_by state own) took.1,
          )
      turned_on (Some part) is =
          let took = subst (λ o. TakesPart state turn taken.line o taken.part) is t.part in
          let has = subst (HasPart state blocked planned.at planned.ready found) is b.part in
          inr (
            λ reach. has.0 ((known.blocks.marked planned.at).1 reach),
            (
              turn.is_signalled,
              (
                λ e. (known.sources.marked planned.at).0 (b.due.0 e),
                λ reach. b.due.1 ((known.sources.marked planned.at).1 reach),
              ),
              subst (λ m. IsTurn planned.ready turn.is_signalled taken.line own m) (sym (ap (left_by state own) took.1))
                  (subst (λ m. IsTurn planned.ready turn.is_signalled taken.line m (state took.0)) has.1
                  (subst (λ k. IsTurn k turn.is_signalled taken.line (state part) (state took.0)) b.task took.2)),
            ),
          )

    pub apart_all : (plan : List Planned) (turns : List (ApartTurn P)) (taken : List (TakenTurn P)) →
        AllZip (Begins state blocked signalled found) plan turns → TakesAll state turns taken →
        AllByRecursion (IsTurnedApart (comes r) (leads r) earlier found) (wave_of plan taken)
    apart_all [] turns taken b t = tt
    apart_all (p ∷ ps) [] taken b t = absurd b
    apart_all (p ∷ ps) (u ∷ us) [] b t = absurd t
    apart_all (p ∷ ps) (u ∷ us) (k ∷ ks) b t = (apart_one p u k b.0 t.0, apart_all ps us ks b.1 t.1)

  module _ (blocked signalled : Marking) where
    pub turns_same : (plan : List Planned) (turns : List (ApartTurn P)) (taken : List (TakenTurn P)) →
        AllZip (Begins state blocked signalled found) plan turns → TakesAll state turns taken →
        map turn_of (wave_of plan taken) ≡ map planned_pair plan
    turns_same [] turns taken b t = refl
    turns_same (p ∷ ps) [] taken b t = absurd b
    turns_same (p ∷ ps) (u ∷ us) [] b t = absurd t
    turns_same (p ∷ ps) (u ∷ us) (k ∷ ks) b t = ap (λ l. planned_pair p ∷ l) (turns_same ps us ks b.1 t.1)

    pub ats_same : (plan : List Planned) (turns : List (ApartTurn P)) (taken : List (TakenTurn P)) →
        AllZip (Begins state blocked signalled found) plan turns → TakesAll state turns taken →
        map (λ (t : Turned). t.at) (wave_of plan taken) ≡ map (λ (t : TakenTurn P). t.at) taken
    ats_same [] [] [] b t = refl
    ats_same [] [] (k ∷ ks) b t = absurd t
    ats_same [] (u ∷ us) taken b t = absurd b
    ats_same (p ∷ ps) [] taken b t = absurd b
    ats_same (p ∷ ps) (u ∷ us) [] b t = absurd t
    ats_same (p ∷ ps) (u ∷ us) (k ∷ ks) b t = ap₂ (λ x l. x ∷ l) (sym (t.0.at ∙ b.0.at)) (ats_same ps us ks b.1 t.1)

    pub plan_ats : (plan : List Planned) (turns : List (ApartTurn P)) (taken : List (TakenTurn P)) →
        AllZip (Begins state blocked signalled found) plan turns → TakesAll state turns taken →
        map (λ (t : TakenTurn P). t.at) taken ≡ map (λ (p : Planned). p.at) plan
    plan_ats [] [] [] b t = refl
    plan_ats [] [] (k ∷ ks) b t = absurd t
    plan_ats [] (u ∷ us) taken b t = absurd b
    plan_ats (p ∷ ps) [] taken b t = absurd b
    plan_ats (p ∷ ps) (u ∷ us) [] b t = absurd t
    plan_ats (p ∷ ps) (u ∷ us) (k ∷ ks) b t = ap₂ (λ x l. x ∷ l) (t.0.at ∙ b.0.at) (plan_ats ps us ks b.1 t.1)

    pub lines_same : (plan : List Planned) (turns : List (ApartTurn P)) (taken : List (TakenTurn P)) →
        AllZip (Begins state blocked signalled found) plan turns → TakesAll state turns taken →
        map (λ (t : Turned). t.line) (wave_of plan taken) ≡ map (λ (t : TakenTurn P). t.line) taken
    lines_same [] [] [] b t = refl
    lines_same [] [] (k ∷ ks) b t = absurd t
    lines_same [] (u ∷ us) taken b t = absurd b
    lines_same (p ∷ ps) [] taken b t = absurd b
    lines_same (p ∷ ps) (u ∷ us) [] b t = absurd t
    lines_same (p ∷ ps) (u ∷ us) (k ∷ ks) b t = ap (λ l. k.line ∷ l) (lines_same ps us ks b.1 t.1)

    -- what is left by one part
    gives_one : (planned : Planned) (turn : ApartTurn P) (taken : TakenTurn P) (before after : Told) →
        Begins state blocked signalled found planned turn → Takes state turn taken →
        TakesBackIf state taken.what taken.part before after →
        GivesBack (turned_by state found planned taken.line taken.part) before after
    gives_one planned turn taken before after b t back = on turn.part refl where
      own : Told
      own = own_part planned.ready found

      on : (o : Option P) → turn.part ≡ o → GivesBack (turned_by state found planned taken.line taken.part) before after
      on None is =
          let took = subst (λ o. TakesPart state turn taken.line o taken.part) is t.part in
          subst (λ s. BackIf s planned.ready.what (left_by state own taken.part) before after)
          (sym (ap (λ (l : ReportLine). is_skipped l.status) took.0))
          (subst (λ o. TakesBackIf state taken.what o before after) took.1 back)
      on (Some part) is =
          let took = subst (λ o. TakesPart state turn taken.line o taken.part) is t.part in
          subst (λ s. BackIf s planned.ready.what (left_by state own taken.part) before after)
          (sym (turn_not_skipped turn.ready turn.is_signalled taken.line (state part) (state took.0) took.2))
          (subst (λ m. TakesBack planned.ready.what m before after) (sym (ap (left_by state own) took.1))
          (subst (λ w. TakesBack w (state took.0) before after) (t.what ∙ ap (λ (k : Task). k.what) b.task)
          (subst (λ o. TakesBackIf state taken.what o before after) took.1 back)))

    pub record Given (plan : List Planned) (taken : List (TakenTurn P)) (before after : Told) : Type 0 where
      pub begun : List Turned
      pub left : List Turned
      pub is : begun ++ left ≡ wave_of plan taken
      pub back : GiveBack begun before after

    one_back : {X : Type 0} (b c : X) (bs cs : List X) → b ∷ bs ≡ c ∷ cs → (b ≡ c) × (bs ≡ cs)
    one_back b c bs cs e = (cc e, cc e)

    -- the first of the parts came back
    pub give_some : (plan : List Planned) (turns : List (ApartTurn P)) (taken : List (TakenTurn P))
        (some rest : List (Back P)) (before after : Told) →
        AllZip (Begins state blocked signalled found) plan turns → TakesAll state turns taken →
        some ++ rest ≡ map back_of taken → TakesAllBack state some before after → Given plan taken before after
    give_some plan turns taken [] rest before after b t e back =
        record { begun = []; left = wave_of plan taken; is = refl; back = back }
    give_some [] [] [] (x ∷ some) rest before after b t e back = absurd (cc e)
    give_some [] [] (k ∷ ks) (x ∷ some) rest before after b t e back = absurd t
    give_some [] (u ∷ us) taken (x ∷ some) rest before after b t e back = absurd b
    give_some (p ∷ ps) [] taken (x ∷ some) rest before after b t e back = absurd b
    give_some (p ∷ ps) (u ∷ us) [] (x ∷ some) rest before after b t e back = absurd t
    give_some (p ∷ ps) (u ∷ us) (k ∷ ks) (x ∷ some) rest before after b t e back =
        let same = one_back x (back_of k) (some ++ rest) (map back_of ks) e in
        let g = give_some ps us ks some rest back.0 after b.1 t.1 same.1 back.2 in
        record {
          begun = turned_by state found p k.line k.part ∷ g.begun;
          left = g.left;
          is = ap (λ l. turned_by state found p k.line k.part ∷ l) g.is;
          back = (
            back.0,
            gives_one p u k before back.0 b.0 t.0
                (subst (λ (y : Back P). TakesBackIf state y.what y.part before back.0) same.0 back.1),
            g.back,
          );
        }

    pub give_all : (plan : List Planned) (turns : List (ApartTurn P)) (taken : List (TakenTurn P))
        (backs : List (Back P)) (before after : Told) →
        AllZip (Begins state blocked signalled found) plan turns → TakesAll state turns taken →
        backs ≡ map back_of taken → TakesAllBack state backs before after → GiveBack (wave_of plan taken) before after
    give_all [] [] [] [] before after b t e back = back
    give_all [] [] [] (x ∷ xs) before after b t e back = absurd (cc e)
    give_all [] [] (k ∷ ks) backs before after b t e back = absurd t
    give_all [] (u ∷ us) taken backs before after b t e back = absurd b
    give_all (p ∷ ps) [] taken backs before after b t e back = absurd b
    give_all (p ∷ ps) (u ∷ us) [] backs before after b t e back = absurd t
    give_all (p ∷ ps) (u ∷ us) (k ∷ ks) [] before after b t e back = absurd (cc e)
    give_all (p ∷ ps) (u ∷ us) (k ∷ ks) (x ∷ xs) before after b t e back =
        let same = one_back x (back_of k) xs (map back_of ks) e in (
          back.0,
          gives_one p u k before back.0 b.0 t.0
              (subst (λ (y : Back P). TakesBackIf state y.what y.part before back.0) same.0 back.1),
          give_all ps us ks xs back.0 after b.1 t.1 same.1 back.2,
        )
