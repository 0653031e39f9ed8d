use Rattle.std.proofs.Common.{◌≡◌, ◌<◌, length, Some, refl, sym, ap, subst, ◌∙◌}
use Rattle.std.proofs.lemmas.Option.{slice_get_read}
use Rattle.std.specs.Prelude.{slice_get}
use Rattle.res_book.specs.Kept.{IsKept}
use Rattle.res_book.specs.Rows.{marked, with_mark}
use Rattle.res_book.proofs.Kept.{kept-change}
use Rattle.res_book.proofs.Live.{marked_live}
use Rattle.res_book.proofs.Rows.{set_changed}
use Rattle.res_book.proofs.book.Book.realize.Goals as goal

pub invariant_of-self : goal.invariant_of-self
invariant_of-self c =
    let items = c.self.inside.rows.items in
    let row = c.index_mut-row.result.now in
    let below : c.args.number < length items =
    subst (λ rows. c.args.number < length rows) (sym c.self.view_is) c.requires in
    let at : slice_get items c.args.number ≡ Some row =
    slice_get_read items _ c.args.number row refl below c.index_mut-row.ensures.value in
    subst (IsKept c.self.inside.numbers.by_kind) (sym (set_changed marked items c.args.number row at))
    (kept-change marked (λ r. refl) marked_live c.self.inside.numbers.by_kind c.args.number items c.self.invariant)

pub returns-clause-rows : goal.returns-clause-rows
returns-clause-rows c =
    let items = c.self.inside.rows.items in
    let row = c.index_mut-row.result.now in
    let below : c.args.number < length items =
    subst (λ rows. c.args.number < length rows) (sym c.self.view_is) c.requires in
    let at : slice_get items c.args.number ≡ Some row =
    slice_get_read items _ c.args.number row refl below c.index_mut-row.ensures.value in
    set_changed marked items c.args.number row at ∙ ap (with_mark c.args.number) c.self.view_is
