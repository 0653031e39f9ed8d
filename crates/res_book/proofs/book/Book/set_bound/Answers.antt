use Rattle.std.proofs.Common.{◌≡◌, ◌<◌, length, Some, refl, sym, ap, subst, ◌∙◌}
use Rattle.std.proofs.lemmas.Option.{slice_get_read}
use Rattle.std.specs.Prelude.{slice_get}
use Rattle.res_book.specs.Kept.{IsKept}
use Rattle.res_book.specs.Rows.{bound_to, with_bound}
use Rattle.res_book.proofs.Kept.{kept-change}
use Rattle.res_book.proofs.Rows.{set_changed}
use Rattle.res_book.proofs.book.Book.set_bound.Goals as goal

pub invariant_of-self : goal.invariant_of-self
invariant_of-self c =
    let items = c.self.inside.rows.items in
    let row = c.index_mut-row.result.now in
    let below : c.args.number < length items =
    subst (λ rows. c.args.number < length rows) (sym c.self.view_is) c.requires in
    let at : slice_get items c.args.number ≡ Some row =
    slice_get_read items _ c.args.number row refl below c.index_mut-row.ensures.value in
    subst (IsKept c.self.inside.numbers.by_kind)
    (sym (set_changed (bound_to c.args.bound) items c.args.number row at))
    (kept-change (bound_to c.args.bound) (λ r. refl) (λ r e. e) c.self.inside.numbers.by_kind c.args.number items
    c.self.invariant)

pub returns : goal.returns
returns c =
    let items = c.self.inside.rows.items in
    let row = c.index_mut-row.result.now in
    let below : c.args.number < length items =
    subst (λ rows. c.args.number < length rows) (sym c.self.view_is) c.requires in
    let at : slice_get items c.args.number ≡ Some row =
    slice_get_read items _ c.args.number row refl below c.index_mut-row.ensures.value in
    set_changed (bound_to c.args.bound) items c.args.number row at
    ∙ ap (with_bound c.args.number c.args.bound) c.self.view_is
