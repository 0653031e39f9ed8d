use Rattle.std.proofs.Common.{◌≡◌, None, sym, ap, ◌∙◌, cond, Some, rules, subst}
use Rattle.std.specs.BTreeMap.{get, UpdatesBy}
use Rattle.std.specs.Cmp.Lexicographic.{slice_cmp}
use Rattle.std.specs.Ordering.{nat_cmp}
use Rattle.std.specs.Str.{bytes_eq}
use Rattle.res_book.specs.Numbers.{number_in}
use Rattle.res_book.proofs.Tables.{adds, claimed}
use Rattle.res_book.proofs.numbers.Numbers.claim.Goals as goal

pub returns-in-Some : goal.returns-in-Some
returns-in-Some c =
    claimed c.args.self.now.by_kind (c.get_mut.follows.lender c.claim_title.new.titles) c.args.kind.now c.args.title.now
    c.args.number c.in-Some.titles.now c.claim_title.new.titles c.claim_title.result
    ((c.get_mut.follows.holds c.claim_title.new.titles).3 (search rules)) (sym c.in-Some.ensures.value)
    c.claim_title.ensures

pub returns : goal.returns
returns c =
    let same : c.get_mut.follows.lender-at-none ≡ c.args.self.now.by_kind =
    c.get_mut.follows.holds-at-none in
    let absent : get (slice_cmp nat_cmp) c.args.self.now.by_kind c.args.kind.now ≡ None =
    sym c.in_default.ensures.value in (
      ap (λ o. number_in o c.args.title.now) absent,
      adds c.args.self.now.by_kind c.insert.new.self c.in_ok-kind.kind c.args.kind.now c.args.title.now c.args.number
          c.in_ok-titles.titles c.in_ok-kind.ensures
          (subst (λ m. UpdatesBy (slice_cmp nat_cmp) (slice_cmp nat_cmp c.in_ok-kind.kind) m c.insert.new.self
          (Some c.in_ok-titles.titles)) same c.in_ok-insert.ensures.updates)
          (λ t. c.in_ok-titles.ensures t
          ∙ ap (λ o. cond (bytes_eq c.args.title.now t) (Some c.args.number) (number_in o t)) (sym absent)),
    )
