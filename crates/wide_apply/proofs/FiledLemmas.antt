-- Lines by the indexes of their resources.
use Rattle.std.proofs.Common.{◌≡◌, ℕ, suc, ◌+◌, ◌<◌, true, false, if◌then◌else◌, List, [], ◌∷◌, ◌++◌, length, get_or}
use Rattle.std.proofs.Common.{set, inl, inr, refl, sym, subst, ap, ap₂, ◌∙◌, arith, append-nil, append_assoc}
use Rattle.std.proofs.Common.{length-set, get_or-set_same, get_or-set_other}
use Rattle.std.specs.Prelude.{nat_eq}
use Rattle.std.specs.declared.alloc.Global.{Global}
use Rattle.std.specs.declared.vec.Vec.{Vec}
use Rattle.std.proofs.lemmas.Bool.Decides.{eqb_tells}
use Rattle.agent_machine.specs.declared.report_line.ReportLine.{ReportLine}
use Rattle.agent_marks.specs.Spreads.{Marking}
use Rattle.agent_transaction.proofs.RunLemmas.{marks_more}
use Rattle.agent_transaction.specs.Marking.{SpreadsIf}
use Rattle.agent_transaction.specs.Runs.{Turned, has_failed, signals}
use Rattle.wide_apply.specs.Going.{Related, comes, leads, AreFiled, AreKnown}
use Rattle.wide_apply.specs.WideRuns.{lines_at, rising_lines}

-- what one more turn adds
abbrev pub line_if : ℕ → Turned → List ReportLine
line_if at t = if nat_eq t.at at then t.line ∷ [] else []

pub lines_push : (at : ℕ) (ts : List Turned) (t : Turned) → lines_at at (ts ++ t ∷ []) ≡ lines_at at ts ++ line_if at t
lines_push at [] t = refl
lines_push at (u ∷ us) t =
    elim (nat_eq u.at at) as (λ b. (if b then u.line ∷ lines_at at (us ++ t ∷ []) else lines_at at (us ++ t ∷ []))
    ≡ (if b then u.line ∷ lines_at at us else lines_at at us) ++ line_if at t) [
      | true ↦ ap (λ l. u.line ∷ l) (lines_push at us t)
      | false ↦ lines_push at us t
    ]

module _ (slots : List (Vec ReportLine Global)) (turned : List Turned) (t : Turned) (filed : AreFiled turned slots)
    (x y old held : Vec ReportLine Global) (at : ℕ) (line : ReportLine) (within : at < length slots)
    (was : old ≡ get_or slots at old) (kept : held ≡ old) (put_it : y.items ≡ held.items ++ line ∷ [])
    (same : t.at ≡ at) (told : t.line ≡ line) where
  pub still_long : length (set (set slots at x) at y) ≡ length slots
  still_long = length-set (set slots at x) at y ∙ length-set slots at x

  at_it : (d : Vec ReportLine Global) → (get_or (set (set slots at x) at y) at d).items ≡ lines_at at (turned ++ t ∷ [])
  at_it d =
      let inside : at < length (set slots at x) = (let e = length-set slots at x in omega (arith, e, within)) in
      ap (λ (v : Vec ReportLine Global). v.items) (get_or-set_same (set slots at x) at y d inside)
      ∙ put_it ∙ ap (λ (v : Vec ReportLine Global). v.items ++ line ∷ []) (kept ∙ was)
      ∙ ap (λ l. l ++ line ∷ []) (filed.lines at old within)
      ∙ sym (lines_push at turned t ∙ elim (eqb_tells t.at at) [
        | inl is ↦ ap (λ b. lines_at at turned ++ (if b then t.line ∷ [] else [])) is.0
            ∙ ap (λ l. lines_at at turned ++ l ∷ []) told
        | inr other ↦ absurd (other.1 same)
      ])

  pub filed_more : AreFiled (turned ++ t ∷ []) (set (set slots at x) at y)
  filed_more = record {
    lines = λ u d h. elim (eqb_tells u at) [
      | inl is ↦ subst (λ w. (get_or (set (set slots at x) at y) w d).items ≡ lines_at w (turned ++ t ∷ []))
          (sym is.1) (at_it d)
      | inr other ↦
          ap (λ (v : Vec ReportLine Global). v.items)
          (get_or-set_other (set slots at x) at u y d other.1 ∙ get_or-set_other slots at u x d other.1)
          ∙ filed.lines u d (let e = still_long in omega (arith, e, h))
          ∙ sym (lines_push u turned t ∙ elim (eqb_tells t.at u) [
            | inl is ↦ absurd (other.1 (sym is.1 ∙ same))
            | inr apart ↦ ap (λ b. lines_at u turned ++ (if b then t.line ∷ [] else [])) apart.0
                ∙ append-nil (lines_at u turned)
          ])
    ];
  }

pub known_more : (r : Related) (turned : List Turned) (t : Turned) (slots after : List (Vec ReportLine Global))
    (blocked blocked_after signalled signalled_after : Marking) → AreKnown r turned slots blocked signalled →
    AreFiled (turned ++ t ∷ []) after → SpreadsIf (has_failed t.line) t.at blocked blocked_after →
    SpreadsIf (signals t.line) t.at signalled signalled_after →
    AreKnown r (turned ++ t ∷ []) after blocked_after signalled_after
known_more r turned t slots after blocked blocked_after signalled signalled_after k filed spread spread_too = record {
  filed = filed;
  blocks = marks_more has_failed (comes r) turned blocked blocked_after t k.blocks spread;
  sources = marks_more signals (leads r) turned signalled signalled_after t k.sources spread_too;
}

-- ---- all lines

abbrev pub slot_lines : List (Vec ReportLine Global) → List ReportLine
slot_lines [] = []
slot_lines (s ∷ ss) = s.items ++ slot_lines ss

pub slots_push : (ss : List (Vec ReportLine Global)) (s : Vec ReportLine Global) →
    slot_lines (ss ++ s ∷ []) ≡ slot_lines ss ++ s.items
slots_push [] s = append-nil s.items
slots_push (x ∷ ss) s = ap (λ l. x.items ++ l) (slots_push ss s) ∙ sym (append_assoc x.items (slot_lines ss) s.items)

rises_on : (ss : List (Vec ReportLine Global)) (at : ℕ) (turned : List Turned) →
    ((k : ℕ) (d : Vec ReportLine Global) → k < length ss → (get_or ss k d).items ≡ lines_at (at + k) turned) →
    slot_lines ss ≡ rising_lines at (length ss) turned
rises_on [] at turned h = refl
rises_on (s ∷ ss) at turned h =
    ap₂ (λ a b. a ++ b) (h 0 s (omega arith) ∙ ap (λ n. lines_at n turned) (omega arith))
    (rises_on ss (suc at) turned
    (λ k d lt. h (suc k) d (omega (arith, lt)) ∙ ap (λ n. lines_at n turned) (omega arith)))

pub slots_rise : (ss : List (Vec ReportLine Global)) (turned : List Turned) → AreFiled turned ss →
    slot_lines ss ≡ rising_lines 0 (length ss) turned
slots_rise ss turned filed =
    rises_on ss 0 turned (λ k d lt. filed.lines k d lt ∙ ap (λ n. lines_at n turned) (omega arith))

pub none_filed : (ss : List (Vec ReportLine Global)) →
    ((k : ℕ) (d : Vec ReportLine Global) → k < length ss → (get_or ss k d).items ≡ []) → AreFiled [] ss
none_filed ss none = record { lines = none }
