use Rattle.std.proofs.Common.{option_map, sym, ap, ◌∙◌, arith, rules}
use Rattle.site_core.specs.EntryViews.{event_of}
use Rattle.journal_reading.proofs.LinesRead.{pushed_later}
use Rattle.journal_reading.proofs.Steps.{behind, gives_same, no_line, bad_entry, last_behind, one_more_behind, shorter, line_shorter}
use Rattle.journal_reading.proofs.reading.read_behind.Goals as goal

pub returns-then-branch : goal.returns-then-branch
returns-then-branch c =
    gives_same (λ h. h.entries) c.whole.result _ _
    (sym c.loop-line.invariant.1
    ∙ last_behind c.loop-line.entries c.args.first c.loop-line.count c.loop-line.left.now _ _ c.in-Some.ensures
    (sym c.in_ok-is_last.ensures ∙ c.if-branch.true)) c.whole.ensures

pub returns-in_default-2 : goal.returns-in_default-2
returns-in_default-2 c =
    sym c.loop-line.invariant.1
    ∙ ap (behind c.loop-line.entries) (bad_entry c.args.first c.loop-line.count c.loop-line.left.now _ _ c.in-Some.ensures
    (sym c.in_ok-is_last.ensures ∙ c.if-branch.false)
    (sym (ap (option_map event_of) c.in_default-2.is) ∙ c.in_ok-entry.ensures))

pub push-requires : goal.push-requires
push-requires c =
    pushed_later c.args.first c.loop-line.count c.in-Some.line.now (event_of c.in-Some-2.entry)
    (omega (arith, line_shorter c.loop-line.left.now c.in-Some.line.now c.in-Some.after.now c.in-Some.ensures, c.loop-line.invariant.3))
    (sym (ap (option_map event_of) c.in-Some-2.is) ∙ c.in_ok-entry.ensures)

pub loop-line-smaller : goal.loop-line-smaller
loop-line-smaller c = shorter _ _ _ c.in-Some.ensures

pub loop-line-preserved : goal.loop-line-preserved
loop-line-preserved c = (
  search rules,
  one_more_behind c.loop-line.entries _ c.args.first c.loop-line.count _ c.loop-line.left.now _ _ (event_of c.in-Some-2.entry)
      c.in_ok-count.ensures.next c.in-Some.ensures (sym c.in_ok-is_last.ensures ∙ c.if-branch.false)
      (sym (ap (option_map event_of) c.in-Some-2.is) ∙ c.in_ok-entry.ensures) c.in_ok-push.ensures
      ∙ c.loop-line.invariant.1,
  c.in_ok-count.ensures.small,
  omega (arith, shorter c.loop-line.left.now c.in-Some.line.now c.in-Some.after.now c.in-Some.ensures, c.loop-line.invariant.3),
)

pub returns : goal.returns
returns c =
    sym c.loop-line.invariant.1
    ∙ ap (behind c.loop-line.entries) (no_line c.args.first c.loop-line.count c.loop-line.count c.loop-line.left.now c.in_default.ensures)
