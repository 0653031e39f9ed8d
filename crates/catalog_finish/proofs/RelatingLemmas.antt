-- Relations one after another.
use Rattle.std.proofs.Common.{◌≡◌, ◌⊎◌, inl, inr, ℕ, zero, suc, ◌+◌, ◌<◌, ◌≤◌, Bool, true, false, ◌&&◌, if◌then◌else◌, cond, List, [], ◌∷◌, ◌++◌, length, map, filter, drop, get_or, Option, Some, Result, Ok, Err, refl, sym, ap, ap₂, subst, ◌∙◌, arith, add-one, append_assoc}
use Rattle.std.proofs.Math.ListN.{drop_of_length-le}
use Rattle.std.proofs.Math.Seq.{drop-cons}
use Rattle.std.proofs.lemmas.List.Elements.{filter-append}
use Rattle.std.proofs.lemmas.Bool.{ltb-true}
use Rattle.std.specs.Prelude.{slice_get, nat_lt}
use Rattle.pp_values.proofs.Turns.{first_stops}
use Rattle.pp_values.specs.Answers.{AnswersBy, and_then, in_turn}
use Rattle.rel_graph.specs.Graphs.{edge_pair}
use Rattle.rel_graph.specs.Pairs.{AllBelow}
use Rattle.res_book.specs.Rows.{is_live}
use Rattle.res_book.specs.declared.row.Row.{Row}
use Rattle.res_core.specs.Catalogs.{is_between}
use Rattle.res_core.specs.declared.edge.Edge.{Edge}
use Rattle.catalog_finish.proofs.LayoutLemmas.{row_there, rows_from}
use Rattle.catalog_finish.specs.EdgeTables.{Entry, with_edge, edges_from, joined, edge_of, edges_of}
use Rattle.catalog_finish.specs.Layouts.{of_live}
use Rattle.catalog_finish.specs.Relating.{numbered}
use Rattle.catalog_finish.specs.Tables.{at_live, at_live_row}

both : (a b : Bool) → (a && b) ≡ true → (a ≡ true) × (b ≡ true)
both true true e = (refl, refl)
both true false e = absurd cc
both false b e = absurd cc

bool_cases : (b : Bool) → (b ≡ true) ⊎ (b ≡ false)
bool_cases true = inl refl
bool_cases false = inr refl

first_below : (count : ℕ) (e : Edge) (es : List Edge) → (e.from < count) × (e.to < count) →
    AllBelow (map edge_pair es) count → AllBelow (map edge_pair (e ∷ es)) count
first_below count e es here all zero d h = here
first_below count e es here all (suc k) d h = all k d (omega (arith, h))

-- ---- steps

pub next_of : {A : Type 0} (xs : List A) (i : ℕ) (d : A) → i < length xs → drop i xs ≡ get_or xs i d ∷ drop (i + 1) xs
next_of xs i d h = drop-cons xs i d h ∙ ap (λ j. get_or xs i d ∷ drop j xs) (sym (add-one i))

module _ {A T F : Type 0} (step : A → T → Result A F) where
  opened : (a : A) (x : T) (left rest : List T) (whole : Result A F) → left ≡ x ∷ rest → in_turn step a left ≡ whole →
      and_then (step a x) (λ b. in_turn step b rest) ≡ whole
  unfolding in_turn
  opened a x left rest whole is all = sym (ap (in_turn step a) is) ∙ all

  pub turn_on : (a b : A) (x : T) (left rest : List T) (whole : Result A F) → left ≡ x ∷ rest → step a x ≡ Ok b →
      in_turn step a left ≡ whole → in_turn step b rest ≡ whole
  turn_on a b x left rest whole is went all =
      sym (ap (λ m. and_then m (λ c. in_turn step c rest)) went) ∙ opened a x left rest whole is all

  pub turn_stops : {E : Type 0} (told : E → Option F) (e : E) (a : A) (x : T) (left rest : List T) (whole : Result A F) →
      left ≡ x ∷ rest → AnswersBy {T = A} told (Err e) (step a x) → in_turn step a left ≡ whole →
      AnswersBy {T = A} told (Err e) whole
  turn_stops told e a x left rest whole is stops all =
      subst (λ m. AnswersBy {T = A} told (Err e) m) (opened a x left rest whole is all)
      (first_stops told e (step a x) (λ b. in_turn step b rest) stops)

  pub turns_end : (a : A) (left : List T) (whole : Result A F) → left ≡ [] → in_turn step a left ≡ whole → whole ≡ Ok a
  unfolding in_turn
  turns_end a left whole is all = sym all ∙ ap (in_turn step a) is

-- ---- declarations with their numbers

pub rows_next : (rows : List Row) (n : ℕ) (r : Row) → n < length rows → slice_get rows n ≡ Some r →
    drop n rows ≡ r ∷ drop (n + 1) rows
rows_next rows n r h is = rows_from rows n r h is ∙ ap (λ j. r ∷ drop j rows) (sym (add-one n))

pub numbered_next : (rows : List Row) (n : ℕ) (r : Row) → n < length rows → slice_get rows n ≡ Some r →
    numbered n (drop n rows) ≡ (n, r) ∷ numbered (n + 1) (drop (n + 1) rows)
numbered_next rows n r h is =
    ap (numbered n) (rows_from rows n r h is)
    ∙ ap (λ j. (n, r) ∷ numbered j (drop j rows)) (sym (add-one n))

pub numbered_end : (rows : List Row) (n : ℕ) → length rows ≤ n → numbered n (drop n rows) ≡ []
numbered_end rows n h = ap (numbered n) (drop_of_length-le rows h)

-- ---- what is live

module _ {A : Type 0} (each : ℕ → Row → List A) (rows : List Row) (n : ℕ) where
  at_row : (r : Row) → slice_get rows n ≡ Some r → (if is_live r then each n r else []) ≡ at_live each rows n
  at_row r is = sym (ap (λ o. at_live_row each n o) is)

  pub live_next : n < length rows →
      of_live each n (drop n rows) ≡ at_live each rows n ++ of_live each (n + 1) (drop (n + 1) rows)
  live_next h =
      let row = row_there rows n h in
      ap (of_live each n) (rows_from rows n row.0 h row.1)
      ∙ ap₂ (λ xs j. xs ++ of_live each j (drop j rows)) (at_row row.0 row.1) (sym (add-one n))

  pub live_over : length rows ≤ n → of_live each n (drop n rows) ≡ []
  live_over h = ap (of_live each n) (drop_of_length-le rows h)

-- ---- edges

pub from_turn : (es new : List Entry) (from i d : ℕ) (right : List ℕ) (signal : Bool) (whole : List Entry) →
    i < length right → new ≡ with_edge es from (get_or right i d) signal →
    edges_from es from (drop i right) signal ≡ whole → edges_from new from (drop (i + 1) right) signal ≡ whole
unfolding edges_from
from_turn es new from i d right signal whole h put all =
    ap (λ xs. edges_from xs from (drop (i + 1) right) signal) put
    ∙ sym (ap (λ xs. edges_from es from xs signal) (next_of right i d h))
    ∙ all

pub from_end : (es : List Entry) (from i : ℕ) (right : List ℕ) (signal : Bool) (whole : List Entry) →
    length right ≤ i → edges_from es from (drop i right) signal ≡ whole → es ≡ whole
unfolding edges_from
from_end es from i right signal whole h all =
    sym (ap (λ xs. edges_from es from xs signal) (drop_of_length-le right h)) ∙ all

pub joined_turn : (es new : List Entry) (i d : ℕ) (left right : List ℕ) (signal : Bool) (whole : List Entry) →
    i < length left → new ≡ edges_from es (get_or left i d) right signal →
    joined es (drop i left) right signal ≡ whole → joined new (drop (i + 1) left) right signal ≡ whole
unfolding joined
joined_turn es new i d left right signal whole h put all =
    ap (λ xs. joined xs (drop (i + 1) left) right signal) put
    ∙ sym (ap (λ xs. joined es xs right signal) (next_of left i d h))
    ∙ all

pub joined_end : (es : List Entry) (i : ℕ) (left right : List ℕ) (signal : Bool) (whole : List Entry) →
    length left ≤ i → joined es (drop i left) right signal ≡ whole → es ≡ whole
unfolding joined
joined_end es i left right signal whole h all =
    sym (ap (λ xs. joined es xs right signal) (drop_of_length-le left h)) ∙ all

pub edges_next : (count : ℕ) (e : Entry) (es : List Entry) →
    edges_of count (e ∷ es) ≡ filter (is_between count) (edge_of e ∷ []) ++ edges_of count es
edges_next count e es = filter-append (is_between count) (edge_of e ∷ []) (map edge_of es)

between : (count : ℕ) (e : Edge) → is_between count e ≡ true → (e.from < count) × (e.to < count)
between count e is =
    let parts = both (nat_lt e.from count) (nat_lt e.to count) is in
    (ltb-true e.from count parts.0, ltb-true e.to count parts.1)

filtered_below : (count : ℕ) (es : List Edge) → AllBelow (map edge_pair (filter (is_between count) es)) count
filtered_below count [] = λ k d h. absurd (omega arith)
filtered_below count (e ∷ es) =
    elim (bool_cases (is_between count e)) [
      | inl inside ↦
          subst (λ b. AllBelow (map edge_pair (cond b (e ∷ filter (is_between count) es) (filter (is_between count) es)))
          count) (sym inside) (first_below count e (filter (is_between count) es) (between count e inside)
          (filtered_below count es))
      | inr outside ↦
          subst (λ b. AllBelow (map edge_pair (cond b (e ∷ filter (is_between count) es) (filter (is_between count) es)))
          count) (sym outside) (filtered_below count es)
    ]

pub edges_below : (count : ℕ) (es : List Entry) → AllBelow (map edge_pair (edges_of count es)) count
edges_below count es = filtered_below count (map edge_of es)

pub taken_turn : (each : ℕ → Row → List ℕ) (rows : List Row) (n : ℕ) (old new more whole : List ℕ) → n < length rows →
    more ≡ at_live each rows n → new ≡ old ++ more → old ++ of_live each n (drop n rows) ≡ whole →
    new ++ of_live each (n + 1) (drop (n + 1) rows) ≡ whole
taken_turn each rows n old new more whole h here put all =
    ap (λ xs. xs ++ of_live each (n + 1) (drop (n + 1) rows)) put
    ∙ append_assoc old more (of_live each (n + 1) (drop (n + 1) rows))
    ∙ ap (λ xs. old ++ (xs ++ of_live each (n + 1) (drop (n + 1) rows))) here
    ∙ sym (ap (λ xs. old ++ xs) (live_next each rows n h))
    ∙ all

pub next_is : {A : Type 0} (xs : List A) (i : ℕ) (x : A) → i < length xs → x ≡ get_or xs i x →
    drop i xs ≡ x ∷ drop (i + 1) xs
next_is xs i x h is = next_of xs i x h ∙ ap (λ y. y ∷ drop (i + 1) xs) (sym is)
