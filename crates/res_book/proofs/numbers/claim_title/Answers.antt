use Rattle.std.proofs.Common.{◌≡◌, refl, sym, ap, ◌∙◌, Some}
use Rattle.std.specs.BTreeMap.{get}
use Rattle.std.specs.Cmp.Lexicographic.{slice_cmp}
use Rattle.std.specs.Ordering.{nat_cmp}
use Rattle.res_book.proofs.Tables.{one_more, restored}
use Rattle.res_book.proofs.numbers.claim_title.Goals as goal

pub returns-in-Some : goal.returns-in-Some
returns-in-Some c =
    let there : get (slice_cmp nat_cmp) c.args.titles.now c.args.title.now ≡ Some c.in-Some.earlier =
    ap (get (slice_cmp nat_cmp) c.args.titles.now) (sym c.in_ok-key.ensures) ∙ sym c.in_ok-earlier.ensures.old ∙ c.in-Some.is in (
      there,
      restored c.args.titles.now c.insert.new.self c.put_back.new.titles c.args.title.now c.args.number c.in-Some.earlier there
          (one_more c.args.titles.now c.insert.new.self c.in_ok-key.key c.args.title.now c.args.number c.in_ok-key.ensures
          c.in_ok-earlier.ensures.updates (Some c.args.titles.now) refl)
          c.put_back.ensures,
    )

pub returns-in-None : goal.returns-in-None
returns-in-None c = (
  ap (get (slice_cmp nat_cmp) c.args.titles.now) (sym c.in_ok-key.ensures) ∙ sym c.in_ok-earlier.ensures.old ∙ c.in-None.is,
  one_more c.args.titles.now c.insert.new.self c.in_ok-key.key c.args.title.now c.args.number c.in_ok-key.ensures
      c.in_ok-earlier.ensures.updates (Some c.args.titles.now) refl,
)
