-- What is read of a text by a table of lines is a document, or the number of the first bad line.
use Rattle.std.proofs.Common.{◌≡◌, ℕ, suc, ◌+◌, ◌<◌, ◌^◌, ◌==◌, Bool, true, false, if◌then◌else◌, List, [], ◌∷◌, ◌++◌, length, Option, Some, None, option_map, option_and_then, Result, Ok, Err, refl, sym, ap, subst, ◌∙◌, arith, length-append}
use Rattle.std.proofs.lemmas.Bool.{eqb-true}
use Rattle.json_documents.specs.LinesOfText.{first_lines, cut_at, has_byte}
use Rattle.json_documents.specs.LineDocuments.{LineTable, with_byte, split_lines, result_map, IsDocument, at_end, if_line, lines_read, read_lines}
use Rattle.json_documents.proofs.Cutting.{split_here, has_later}
use Rattle.json_documents.proofs.OneLines.{line_first, unfinished}

-- ---- a text as its lines

-- the text of finished lines and of what stands behind them
abbrev pub joined : List (List ℕ) → List ℕ → List ℕ
joined [] rest = rest
joined (x ∷ xs) rest = x ++ 10 ∷ joined xs rest

-- no line feed is in them
abbrev pub are_lines : List (List ℕ) → List ℕ → Type 0
are_lines [] rest = has_byte 10 rest ≡ false
are_lines (x ∷ xs) rest = (has_byte 10 x ≡ false) × are_lines xs rest

abbrev IsSplit : List ℕ → List (List ℕ) × List ℕ → Type 0
IsSplit text p = (text ≡ joined p.0 p.1) × are_lines p.0 p.1

same_first : (b : ℕ) (bs : List ℕ) → (b == 10) ≡ false → has_byte 10 bs ≡ false → has_byte 10 (b ∷ bs) ≡ false
same_first b bs e h = rw e h

byte_added : (b : ℕ) (bs : List ℕ) (p : List (List ℕ) × List ℕ) → (b == 10) ≡ false → IsSplit bs p →
    IsSplit (b ∷ bs) (with_byte b p)
byte_added b bs ([], rest) e h = (ap (λ xs. b ∷ xs) h.0, same_first b rest e h.1)
byte_added b bs (l ∷ ls, rest) e h = (ap (λ xs. b ∷ xs) h.0, (same_first b l e h.1.0, h.1.1))

pub is_split : (text : List ℕ) → IsSplit text (split_lines text)
unfolding split_lines
is_split [] = (refl, refl)
is_split (b ∷ bs) =
    elim (b == 10) as (λ t. (b == 10) ≡ t →
    IsSplit (b ∷ bs) (if t then ([] ∷ (split_lines bs).0, (split_lines bs).1) else with_byte b (split_lines bs))) [
      | true ↦ λ e.
          (ap (λ z. z ∷ bs) (eqb-true b 10 e) ∙ ap (λ xs. 10 ∷ xs) (is_split bs).0, (refl, (is_split bs).1))
      | false ↦ λ e. byte_added b bs (split_lines bs) e (is_split bs)
    ] refl

-- ---- what two lines that begin alike have in common

abbrev first_part : List ℕ → Option (List ℕ × List ℕ) → List ℕ
first_part d None = d
first_part d (Some p) = p.0

abbrev last_part : List ℕ → Option (List ℕ × List ℕ) → List ℕ
last_part d None = d
last_part d (Some p) = p.1

alike : (x y a b : List ℕ) → has_byte 10 x ≡ false → has_byte 10 y ≡ false → x ++ 10 ∷ a ≡ y ++ 10 ∷ b → (x ≡ y) × (a ≡ b)
alike x y a b h k e =
    let cut : Some (x, a) ≡ Some (y, b) = sym (split_here 10 x a h) ∙ ap (cut_at 10) e ∙ split_here 10 y b k in
    (ap (first_part x) cut, ap (last_part a) cut)

not_nothing : (xs ys : List ℕ) → xs ++ 10 ∷ ys ≡ [] → ⊥
not_nothing [] ys e = absurd cc
not_nothing (x ∷ xs) ys e = absurd cc

one_some : {A P : Type 0} {a : A} → None ≡ Some a → P
one_some e = absurd cc

abbrev some_or : {A : Type 0} → A → Option A → A
some_or d None = d
some_or d (Some a) = a

same_some : {A : Type 0} (a b : A) → Some a ≡ Some b → a ≡ b
same_some a b e = ap (some_or a) e

-- ---- the reader

module _ {S L : Type 0} (table : LineTable S L) (line_in : S → List ℕ → Option L) (Stands : S → Type 0)
    (one : (s : S) (l : L) → table.Fits s l → has_byte 10 (table.text s l) ≡ false)
    (sound : (s : S) (x : List ℕ) (l : L) → length x < 2 ^ 64 → line_in s x ≡ Some l →
    table.Fits s l × (table.text s l ≡ x))
    (complete : (s : S) (l : L) → length (table.text s l) < 2 ^ 64 → table.Fits s l →
    line_in s (table.text s l) ≡ Some l)
    (keeps : (s t : S) (l : L) → Stands s → table.Fits s l → table.next s l ≡ Some t → Stands t)
    (way : (s : S) → Stands s → (ls : List L) × (w : List ℕ) × IsDocument table s ls w) where
  -- some document from this state on begins with the first k lines of the text
  abbrev pub BeginsAt : S → ℕ → List ℕ → Type 0
  BeginsAt s k text = (ls : List L) × (w : List ℕ) × IsDocument table s ls w × (first_lines k text ≡ first_lines k w)

  abbrev pub IsAnswer : S → ℕ → List ℕ → Result (List L) ℕ → Type 0
  IsAnswer s n text (Ok ls) = IsDocument table s ls text
  IsAnswer s n text (Err m) = (k : ℕ) × (m ≡ n + suc k) × BeginsAt s k text × (BeginsAt s (suc k) text → ⊥)

  begins_nothing : (s : S) (text : List ℕ) → Stands s → BeginsAt s 0 text
  begins_nothing s text st = let w = way s st in (w.0, w.1, w.2, refl)

  -- a document is empty, or it has a first line
  no_document : (s : S) (text : List ℕ) (k : ℕ) → (table.ends s ≡ true → first_lines (suc k) text ≡ [] → ⊥) →
      ((l : L) (ls : List L) (t : S) (r : List ℕ) → table.Fits s l → table.next s l ≡ Some t → IsDocument table t ls r →
      first_lines (suc k) text ≡ table.text s l ++ 10 ∷ first_lines k r → ⊥) → BeginsAt s (suc k) text → ⊥
  no_document s text k none some ([], w, d, same) = none d.0 (same ∙ ap (first_lines (suc k)) d.1)
  no_document s text k none some (l ∷ ls, w, d, same) =
      some l ls d.0 d.1 d.2 d.3 d.4 (same ∙ ap (first_lines (suc k)) d.5 ∙ line_first k (table.text s l) d.1 (one s l d.2))

  -- the first bad line is the next one
  here : (s : S) (n : ℕ) (text : List ℕ) → Stands s → (BeginsAt s 1 text → ⊥) → IsAnswer s n text (Err (n + 1))
  here s n text st none = (0, omega arith, begins_nothing s text st, none)

  nothing_left : (s : S) (n : ℕ) → Stands s → (b : Bool) → table.ends s ≡ b →
      IsAnswer s n [] (if b then Ok [] else Err (n + 1))
  nothing_left s n st true e = (e, refl)
  nothing_left s n st false e =
      here s n [] st (no_document s [] 0 (λ ends nil. true_false (sym ends ∙ e))
      (λ l ls t r fits next more same. not_nothing (table.text s l) [] (sym same)))
    where
      true_false : true ≡ false → ⊥
      true_false z = cc

  some_left : (s : S) (n b : ℕ) (bs : List ℕ) → Stands s → has_byte 10 (b ∷ bs) ≡ false →
      IsAnswer s n (b ∷ bs) (Err (n + 1))
  some_left s n b bs st h =
      here s n (b ∷ bs) st (no_document s (b ∷ bs) 0 (λ ends nil. cons_nil (sym (unfinished 0 (b ∷ bs) h) ∙ nil))
      (λ l ls t r fits next more same.
      true_false (sym (has_later 10 (table.text s l) []) ∙ ap (has_byte 10) (sym (sym (unfinished 0 (b ∷ bs) h) ∙ same)) ∙ h)))
    where
      true_false : true ≡ false → ⊥
      true_false z = cc

      cons_nil : b ∷ bs ≡ [] → ⊥
      cons_nil z = cc

  at_the_end : (s : S) (n : ℕ) (rest : List ℕ) → Stands s → has_byte 10 rest ≡ false →
      IsAnswer s n rest (at_end table line_in s n rest)
  at_the_end s n [] st h = nothing_left s n st (table.ends s) refl
  at_the_end s n (b ∷ bs) st h = some_left s n b bs st h

  -- the first line of a document that begins as the text does is this one
  first_is : (s : S) (x j : List ℕ) (k : ℕ) → has_byte 10 x ≡ false → (l : L) (r : List ℕ) → table.Fits s l →
      first_lines (suc k) (x ++ 10 ∷ j) ≡ table.text s l ++ 10 ∷ first_lines k r →
      (x ≡ table.text s l) × (first_lines k j ≡ first_lines k r)
  first_is s x j k h l r fits same =
      alike x (table.text s l) (first_lines k j) (first_lines k r) h (one s l fits) (sym (line_first k x j h) ∙ same)

  read_so : (s : S) (x : List ℕ) (l : L) → length x < 2 ^ 64 → table.Fits s l → x ≡ table.text s l → line_in s x ≡ Some l
  read_so s x l short fits e =
      ap (line_in s) e ∙ complete s l (subst (λ y. length y < 2 ^ 64) e short) fits

  never_empty : (s : S) (x j : List ℕ) (k : ℕ) → has_byte 10 x ≡ false → table.ends s ≡ true →
      first_lines (suc k) (x ++ 10 ∷ j) ≡ [] → ⊥
  never_empty s x j k h ends nil = not_nothing x (first_lines k j) (sym (line_first k x j h) ∙ nil)

  bad_line : (s : S) (n : ℕ) (x j : List ℕ) → Stands s → has_byte 10 x ≡ false → length x < 2 ^ 64 → line_in s x ≡ None →
      IsAnswer s n (x ++ 10 ∷ j) (Err (n + 1))
  bad_line s n x j st h short bad =
      here s n (x ++ 10 ∷ j) st (no_document s (x ++ 10 ∷ j) 0 (never_empty s x j 0 h)
      (λ l ls t r fits next more same.
      one_some (sym bad ∙ read_so s x l short fits (first_is s x j 0 h l r fits same).0)))

  no_line_here : (s : S) (n : ℕ) (x j : List ℕ) (l : L) → Stands s → has_byte 10 x ≡ false → length x < 2 ^ 64 →
      line_in s x ≡ Some l → table.next s l ≡ None → IsAnswer s n (x ++ 10 ∷ j) (Err (n + 1))
  no_line_here s n x j l st h short read stops =
      here s n (x ++ 10 ∷ j) st (no_document s (x ++ 10 ∷ j) 0 (never_empty s x j 0 h)
      (λ m ls t r fits next more same.
      let same_line : l ≡ m = same_some l m (sym read ∙ read_so s x m short fits (first_is s x j 0 h m r fits same).0) in
      one_some (sym stops ∙ ap (table.next s) same_line ∙ next)))

  one_line_more : (s t : S) (n : ℕ) (x j : List ℕ) (l : L) → has_byte 10 x ≡ false → length x < 2 ^ 64 →
      line_in s x ≡ Some l → table.next s l ≡ Some t → (r : Result (List L) ℕ) → IsAnswer t (n + 1) j r →
      IsAnswer s n (x ++ 10 ∷ j) (result_map (λ ls. l ∷ ls) r)
  one_line_more s t n x j l h short read goes (Ok ls) ih =
      let it = sound s x l short read in (t, j, it.0, goes, ih, ap (λ y. y ++ 10 ∷ j) (sym it.1))
  one_line_more s t n x j l h short read goes (Err m) (k, e, b, none) =
      let it = sound s x l short read in (
        suc k,
        omega (arith, e),
        (
          l ∷ b.0,
          table.text s l ++ 10 ∷ b.1,
          (t, b.1, it.0, goes, b.2, refl),
          line_first k x j h ∙ ap (λ y. x ++ 10 ∷ y) b.3 ∙ ap (λ y. y ++ 10 ∷ first_lines k b.1) (sym it.1)
              ∙ sym (line_first k (table.text s l) b.1 (one s l it.0)),
        ),
        no_document s (x ++ 10 ∷ j) (suc k) (never_empty s x j (suc k) h)
            (λ m ls u r fits next more same.
            let parts = first_is s x j (suc k) h m r fits same in
            let same_line : l ≡ m = same_some l m (sym read ∙ read_so s x m short fits parts.0) in
            let same_state : u ≡ t = same_some u t (sym next ∙ ap (table.next s) (sym same_line) ∙ goes) in
            none (ls, r, subst (λ z. IsDocument table z ls r) same_state more, parts.1)),
      )

  by_next : (rest : List ℕ) (xs : List (List ℕ)) (s : S) (n : ℕ) (x : List ℕ) (l : L) → Stands s → has_byte 10 x ≡ false →
      length x < 2 ^ 64 → line_in s x ≡ Some l →
      ((t : S) → Stands t → IsAnswer t (n + 1) (joined xs rest) (lines_read table line_in rest xs t (n + 1))) →
      (o : Option S) → table.next s l ≡ o → IsAnswer s n (x ++ 10 ∷ joined xs rest)
      (if_line table line_in (λ t. lines_read table line_in rest xs t (n + 1)) n (option_map (λ t. (l, t)) o))
  by_next rest xs s n x l st h short read more None e = no_line_here s n x (joined xs rest) l st h short read e
  by_next rest xs s n x l st h short read more (Some t) e =
      one_line_more s t n x (joined xs rest) l h short read e (lines_read table line_in rest xs t (n + 1))
      (more t (keeps s t l st (sound s x l short read).0 e))

  by_line : (rest : List ℕ) (xs : List (List ℕ)) (s : S) (n : ℕ) (x : List ℕ) → Stands s → has_byte 10 x ≡ false →
      length x < 2 ^ 64 →
      ((t : S) → Stands t → IsAnswer t (n + 1) (joined xs rest) (lines_read table line_in rest xs t (n + 1))) →
      (o : Option L) → line_in s x ≡ o → IsAnswer s n (x ++ 10 ∷ joined xs rest)
      (if_line table line_in (λ t. lines_read table line_in rest xs t (n + 1)) n
      (option_and_then (λ l. option_map (λ t. (l, t)) (table.next s l)) o))
  by_line rest xs s n x st h short more None e = bad_line s n x (joined xs rest) st h short e
  by_line rest xs s n x st h short more (Some l) e = by_next rest xs s n x l st h short e more (table.next s l) refl

  pub lines_answer : (rest : List ℕ) (xs : List (List ℕ)) (s : S) (n : ℕ) → Stands s → are_lines xs rest →
      length (joined xs rest) < 2 ^ 64 → IsAnswer s n (joined xs rest) (lines_read table line_in rest xs s n)
  unfolding lines_read
  lines_answer rest [] s n st h short = at_the_end s n rest st h
  lines_answer rest (x ∷ xs) s n st h short =
      by_line rest xs s n x st h.0 (omega (arith, length-append x (10 ∷ joined xs rest), short))
      (λ t stands. lines_answer rest xs t (n + 1) stands h.1
      (omega (arith, length-append x (10 ∷ joined xs rest), short)))
      (line_in s x) refl

  -- a reader that answers so answers the lines of a document from the first state on, or the first bad line
  pub read_lines_answers : (text : List ℕ) (s : S) → Stands s → length text < 2 ^ 64 →
      IsAnswer s 0 text (read_lines table line_in s 0 text)
  read_lines_answers text s st short =
      let p = is_split text in
      subst (λ t. IsAnswer s 0 t (read_lines table line_in s 0 text)) (sym p.0)
      (lines_answer (split_lines text).1 (split_lines text).0 s 0 st p.1 (subst (λ t. length t < 2 ^ 64) p.0 short))
