use Rattle.std.proofs.Common.{◌≡◌, ◌<◌, length, Some, option_map, refl, sym, ap, subst, ◌∙◌}
use Rattle.std.proofs.lemmas.Option.{slice_get_read}
use Rattle.std.specs.Prelude.{slice_get}
use Rattle.res_book.specs.Rows.{number_of, reference_of}
use Rattle.res_book.proofs.book.Book.item.Goals as goal

pub returns-clause-found : goal.returns-clause-found
returns-clause-found c =
    let items = c.self.inside.rows.items in
    let row = c.index.result.now in
    let below : c.args.number < length items =
    subst (λ rows. c.args.number < length rows) (sym c.self.view_is) c.requires in
    let at : slice_get items c.args.number ≡ Some row =
    slice_get_read items _ c.args.number row refl below c.index.ensures in
    ap (number_of (reference_of row.declared)) (sym c.self.view_is)
    ∙ c.self.invariant.apart.found c.args.number row.declared (ap (option_map (λ r. r.declared)) at)
