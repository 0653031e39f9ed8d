-- What holds of a book holds after each change.
use Rattle.std.proofs.Common.{◌≡◌, ℕ, ◌<◌, cond, IsTrue, List, [], ◌∷◌, ◌++◌, length, None, Some, sym, ap, ◌∙◌, arith, length-append}
use Rattle.pp_values.specs.References.{same_reference}
use Rattle.res_book.specs.Kept.{IsKept}
use Rattle.res_book.specs.Numbers.{Kinds, Adds}
use Rattle.res_book.specs.Rows.{reference_of, declared_as, is_contained, limit, with_change}
use Rattle.res_book.specs.declared.row.Row.{Row}
use Rattle.res_book.proofs.Live.{KeepsLife, contained-append, contained-change}
use Rattle.res_book.proofs.Rows.{KeepsItem, numberless, number_of-append, number_of-change, apart-append, apart-change, length-change}

pub kept-append : (kinds new : Kinds) (rows : List Row) (r : Row) → declared_as (reference_of r.declared) rows ≡ None →
    length rows < limit → IsTrue (is_contained r.declared.container rows) →
    Adds r.declared.item.kind r.declared.item.title (length rows) kinds new → IsKept kinds rows →
    IsKept new (rows ++ r ∷ [])
kept-append kinds new rows r undeclared room contained adds kept =
    let fresh = numberless (reference_of r.declared) rows undeclared in record {
      finds = λ q.
          adds q.kind q.title
          ∙ ap (cond (same_reference (reference_of r.declared) q) (Some (length rows))) (kept.finds q)
          ∙ sym (number_of-append q rows r fresh);
      apart = apart-append rows r fresh kept.apart;
      contained = contained-append rows r contained kept.contained;
      few = let l = length-append rows (r ∷ []) in omega arith;
    }

pub kept-change : (change : Row → Row) → KeepsItem change → KeepsLife change → (kinds : Kinds) (n : ℕ)
    (rows : List Row) → IsKept kinds rows → IsKept kinds (with_change change n rows)
kept-change change item life kinds n rows kept = record {
  finds = λ q. kept.finds q ∙ sym (number_of-change change item q n rows);
  apart = apart-change change item n rows kept.apart;
  contained = contained-change change item life n rows kept.contained;
  few = let l = length-change change n rows in let f = kept.few in omega arith;
}
