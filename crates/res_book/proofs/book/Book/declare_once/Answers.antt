use Rattle.std.proofs.Common.{◌≡◌, ◌<◌, IsTrue, ◌++◌, ◌∷◌, [], length, Err, Ok, ap, sym, subst, ◌∙◌}
use Rattle.std.specs.Prelude.{slice_get}
use Rattle.res_book.specs.Kept.{IsKept}
use Rattle.res_book.specs.Rows.{declared_as, declared_once, is_contained, reference_of, limit, new_row}
use Rattle.res_book.proofs.Claimed.{refused, kept-keeps, kept_same, earlier_below, twice, once, kept_more}
use Rattle.res_book.proofs.book.Book.declare_once.Goals as goal

pub invariant_of-self-in_err-earlier : goal.invariant_of-self-in_err-earlier
invariant_of-self-in_err-earlier c =
    subst (IsKept c.claim.new.self.by_kind) (sym c.in_ok-reserve.ensures.items)
    (kept-keeps c.self.inside.numbers.by_kind c.claim.new.self.by_kind c.self.inside.rows.items
    (refused c.as_text-kind.result.now c.args.item.item.title c.count-number.result c.self.inside.numbers.by_kind
    c.claim.new.self.by_kind c.claim.result c.in_err-earlier.field-0.0 c.in_err-earlier.was c.claim.ensures) c.self.invariant)

pub invariant_of-self-in-Some : goal.invariant_of-self-in-Some
invariant_of-self-in-Some c =
    subst (IsKept c.claim.new.self.by_kind) (sym c.in_ok-reserve.ensures.items)
    (kept_same c.self.inside.numbers.by_kind c.claim.new.self.by_kind c.self.inside.rows.items c.args.item c.args.mode
    c.as_text-kind.result.now c.count-number.result c.claim.result c.in_ok-earlier.field-0 c.self.invariant
    c.as_text-kind.ensures.text c.in_ok-earlier.was c.claim.ensures c.in-Some.earlier c.in-Some.is)

pub row-earlier-requires : goal.row-earlier-requires
row-earlier-requires c =
    subst (λ rows. c.in-Some.earlier < length rows) (sym c.in_ok-reserve.ensures.items)
    (earlier_below c.self.inside.numbers.by_kind c.claim.new.self.by_kind c.self.inside.rows.items c.args.item c.args.mode
    c.as_text-kind.result.now c.count-number.result c.claim.result c.in_ok-earlier.field-0 c.self.invariant
    c.as_text-kind.ensures.text c.in_ok-earlier.was c.claim.ensures c.in-Some.earlier c.in-Some.is)

pub returns-in_ok-duplicate-in-Some : goal.returns-in_ok-duplicate-in-Some
returns-in_ok-duplicate-in-Some c = (
  c.in_ok-reserve.ensures.items ∙ c.self.view_is,
  subst (λ rows. declared_once c.args.item c.args.mode (declared_as (reference_of c.args.item) rows) rows
      ≡ Err c.in_ok-duplicate-in-Some.field-0) c.self.view_is
      (twice c.self.inside.numbers.by_kind c.claim.new.self.by_kind c.self.inside.rows.items c.args.item c.args.mode
      c.as_text-kind.result.now c.count-number.result c.claim.result c.in_ok-earlier.field-0 c.self.invariant
      c.as_text-kind.ensures.text c.in_ok-earlier.was c.claim.ensures c.in-Some.earlier c.row-earlier.result.now c.in-Some.is
      (ap (λ rows. slice_get rows c.in-Some.earlier) (sym c.in_ok-reserve.ensures.items) ∙ c.row-earlier.ensures)
      ∙ ap Err (sym c.in_ok-duplicate-in-Some.ensures)),
)

pub invariant_of-self-in-None : goal.invariant_of-self-in-None
invariant_of-self-in-None c =
    let items = c.self.inside.rows.items in
    let number : c.count-number.result ≡ length items = c.count-number.ensures ∙ ap length (sym c.self.view_is) in
    subst (IsKept c.claim.new.self.by_kind)
    (sym (c.in_ok-push-in-None.ensures.items
    ∙ ap (λ rows. rows ++ new_row c.args.item c.args.mode ∷ []) c.in_ok-reserve.ensures.items))
    (kept_more c.self.inside.numbers.by_kind c.claim.new.self.by_kind items c.args.item c.args.mode
    c.as_text-kind.result.now c.count-number.result c.claim.result c.in_ok-earlier.field-0 c.self.invariant
    c.as_text-kind.ensures.text c.in_ok-earlier.was c.claim.ensures c.in-None.is number
    (subst (λ rows. length rows < limit) (sym c.self.view_is) c.requires.room)
    (subst (λ rows. IsTrue (is_contained c.args.item.container rows)) (sym c.self.view_is) c.requires.contained))

pub returns-in_ok-push-in-None : goal.returns-in_ok-push-in-None
returns-in_ok-push-in-None c =
    let row = new_row c.args.item c.args.mode in
    subst (λ rows. declared_once c.args.item c.args.mode (declared_as (reference_of c.args.item) rows) rows
    ≡ Ok (length rows, rows ++ row ∷ [])) c.self.view_is
    (once c.self.inside.numbers.by_kind c.claim.new.self.by_kind c.self.inside.rows.items c.args.item c.args.mode
    c.as_text-kind.result.now c.count-number.result c.claim.result c.in_ok-earlier.field-0 c.self.invariant
    c.as_text-kind.ensures.text c.in_ok-earlier.was c.claim.ensures c.in-None.is
    (subst (λ rows. length rows < limit) (sym c.self.view_is) c.requires.room))
    ∙ ap (λ n. Ok (n, c.args.self.now ++ row ∷ [])) (sym c.count-number.ensures)
    ∙ ap (λ rows. Ok (c.count-number.result, rows))
    (sym (c.in_ok-push-in-None.ensures.items
    ∙ ap (λ rows. rows ++ row ∷ []) (c.in_ok-reserve.ensures.items ∙ c.self.view_is)))
