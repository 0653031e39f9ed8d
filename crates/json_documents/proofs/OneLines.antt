-- What is read of a text of one line is its value, or the first bad line.
use Rattle.std.proofs.Common.{◌≡◌, ℕ, suc, ◌<◌, ◌^◌, ◌==◌, true, false, List, [], ◌∷◌, ◌++◌, length, Option, Some, None, Result, Ok, Err, refl, sym, ap, subst, ◌∙◌, arith}
use Rattle.std.proofs.lemmas.Bool.{or_parts}
use Rattle.std.proofs.lemmas.List.{append_cancel_right, length-append}
use Rattle.json_documents.specs.declared.doc_stop.DocStop.{DocStop}
use Rattle.json_documents.specs.declared.doc_stop.DocStop.TheVariants as stop
use Rattle.json_documents.specs.LinesOfText.{first_lines, cut_at, cut_line, has_byte, IsOneLine, if_at_end, read_parts, read_one_line, Answers, Begins, IsFirstBad, ReadsDocument}
use Rattle.json_documents.proofs.Cutting.{IsCut, is_cut, split_here, has_later}

-- ---- lines of a text

pub line_first : (n : ℕ) (l rest : List ℕ) → has_byte 10 l ≡ false →
    first_lines (suc n) (l ++ 10 ∷ rest) ≡ l ++ 10 ∷ first_lines n rest
line_first n [] rest h = refl
line_first n (b ∷ bs) rest h =
    let parts = or_parts (b == 10) _ h in rw parts.0 (ap (λ xs. b ∷ xs) (line_first n bs rest parts.1))

pub unfinished : (n : ℕ) (bs : List ℕ) → has_byte 10 bs ≡ false → first_lines (suc n) bs ≡ bs
unfinished n [] h = refl
unfinished n (b ∷ bs) h =
    let parts = or_parts (b == 10) _ h in rw parts.0 (ap (λ xs. b ∷ xs) (unfinished n bs parts.1))

contradiction : {P : Type 0} (bs xs ys : List ℕ) → has_byte 10 bs ≡ false → bs ≡ xs ++ 10 ∷ ys → P
contradiction bs xs ys none same =
    absurd (true_false (sym (has_later 10 xs ys) ∙ ap (has_byte 10) (sym same) ∙ none)) where
      true_false : true ≡ false → ⊥
      true_false e = cc

-- a text whose first line is this one
starts_so : (text l : List ℕ) → has_byte 10 l ≡ false → first_lines 1 text ≡ l ++ 10 ∷ [] → (o : Option (List ℕ × List ℕ)) →
    IsCut 10 text o → (rest : List ℕ) × (o ≡ Some (l, rest))
starts_so text l h same None cut = contradiction text l [] cut (sym (unfinished 0 text cut) ∙ same)
starts_so text l h same (Some p) cut =
    let e : p.0 ++ 10 ∷ [] ≡ l ++ 10 ∷ [] = sym (ap (first_lines 1) cut.0 ∙ line_first 0 p.0 p.1 cut.1) ∙ same in
    (p.1, ap (λ xs. Some (xs, p.1)) (append_cancel_right p.0 l (10 ∷ []) e))

none_some : {B P : Type 0} {y : B} → None ≡ Some y → P
none_some e = absurd cc

cons_none : {b : ℕ} {bs : List ℕ} → b ∷ bs ≡ [] → ⊥
cons_none e = cc

abbrev first_of : List ℕ → Option (List ℕ × List ℕ) → List ℕ
first_of d None = d
first_of d (Some p) = p.0

abbrev behind : Option (List ℕ × List ℕ) → List ℕ
behind None = []
behind (Some p) = p.1

abbrev number : {A : Type 0} → Result A ℕ → ℕ
number (Ok a) = 0
number (Err n) = n

abbrev value_or : {A : Type 0} → A → Result A ℕ → A
value_or d (Ok a) = a
value_or d (Err n) = d

-- ---- documents of one line

module _ {A : Type 0} (IsLine : A → List ℕ → Type 0) (line_in : List ℕ → Option A)
    (one : (a : A) (l : List ℕ) → IsLine a l → has_byte 10 l ≡ false)
    (sound : (a : A) (l : List ℕ) → length l < 2 ^ 64 → line_in l ≡ Some a → IsLine a l)
    (complete : (a : A) (l : List ℕ) → length l < 2 ^ 64 → IsLine a l → line_in l ≡ Some a)
    (some : (a : A) × (l : List ℕ) × IsLine a l) where
  abbrev IsDocument : A → List ℕ → Type 0
  IsDocument = IsOneLine IsLine

  begins_nothing : (text : List ℕ) → Begins IsDocument 0 text
  begins_nothing text = (some.0, some.1 ++ 10 ∷ [], (some.1, some.2, refl), refl)

  -- a document with this first line
  line_of : (text : List ℕ) → Begins IsDocument 1 text →
      (a : A) × (l : List ℕ) × (rest : List ℕ) × IsLine a l × (cut_line text ≡ Some (l, rest))
  line_of text b =
      let a = b.0 in
      let l = b.2.0 in
      let none = one a l b.2.1 in
      let found = starts_so text l none (b.3 ∙ ap (first_lines 1) b.2.2 ∙ line_first 0 l [] none) (cut_line text) (is_cut 10 text) in
      (a, l, found.0, b.2.1, found.1)

  none_in : (text : List ℕ) → cut_line text ≡ None → Begins IsDocument 1 text → ⊥
  none_in text e b = none_some (sym e ∙ (line_of text b).4)

  parts_of : (text l rest : List ℕ) → cut_line text ≡ Some (l, rest) → (text ≡ l ++ 10 ∷ rest) × (has_byte 10 l ≡ false)
  parts_of text l rest cut = subst (IsCut 10 text) cut (is_cut 10 text)

  shorter : (text l rest : List ℕ) → length text < 2 ^ 64 → cut_line text ≡ Some (l, rest) → length l < 2 ^ 64
  shorter text l rest small cut =
      omega (arith, ap length (parts_of text l rest cut).0, length-append l (10 ∷ rest), small)

  bad_line : (text l rest : List ℕ) → length text < 2 ^ 64 → cut_line text ≡ Some (l, rest) → line_in l ≡ None →
      Begins IsDocument 1 text → ⊥
  bad_line text l rest small cut bad b =
      let x = line_of text b in
      let same : x.1 ≡ l = ap (first_of l) (sym x.4 ∙ cut) in
      none_some (sym bad ∙ complete x.0 l (shorter text l rest small cut) (subst (IsLine x.0) same x.3))

  later : (text l rest : List ℕ) (a : A) → cut_line text ≡ Some (l, rest) → IsLine a l → Begins IsDocument 1 text
  later text l rest a cut is =
      let parts = parts_of text l rest cut in (
        a,
        l ++ 10 ∷ [],
        (l, is, refl),
        ap (first_lines 1) parts.0 ∙ line_first 0 l rest parts.1 ∙ sym (line_first 0 l [] parts.1),
      )

  too_long : (text l : List ℕ) (b : ℕ) (bs : List ℕ) → cut_line text ≡ Some (l, b ∷ bs) → Begins IsDocument 2 text → ⊥
  too_long text l b bs cut y =
      let parts = parts_of text l (b ∷ bs) cut in
      let k = y.2.0 in
      let none = one y.0 k y.2.1 in
      let same : l ++ 10 ∷ first_lines 1 (b ∷ bs) ≡ k ++ 10 ∷ [] =
      sym (ap (first_lines 2) parts.0 ∙ line_first 1 l (b ∷ bs) parts.1) ∙ y.3 ∙ ap (first_lines 2) y.2.2
      ∙ line_first 1 k [] none in
      cons_none (ap behind (sym (split_here 10 l (first_lines 1 (b ∷ bs)) parts.1) ∙ ap (cut_at 10) same
      ∙ split_here 10 k [] none))

  -- ---- by cases on how far the text was read

  by_line : (text l rest : List ℕ) → length text < 2 ^ 64 → cut_line text ≡ Some (l, rest) → (o : Option A) →
      line_in l ≡ o → (result : Result A DocStop) → Answers result (if_at_end o rest) → ReadsDocument IsDocument text result
  by_line text l rest small cut o e (Err stop.Memory) h = tt
  by_line text l rest small cut None e (Ok a) h = absurd cc
  by_line text l rest small cut None e (Err (stop.Bad n)) h =
      subst (λ k. IsFirstBad IsDocument k text) (ap number h)
      (0, refl, begins_nothing text, bad_line text l rest small cut e)
  by_line text l [] small cut (Some a) e (Ok b) h = (
    l,
    subst (λ x. IsLine x l) (ap (value_or a) h) (sound a l (shorter text l [] small cut) e),
    (parts_of text l [] cut).0,
  )
  by_line text l [] small cut (Some a) e (Err (stop.Bad n)) h = absurd cc
  by_line text l (b ∷ bs) small cut (Some a) e (Ok c) h = absurd cc
  by_line text l (b ∷ bs) small cut (Some a) e (Err (stop.Bad n)) h =
      subst (λ k. IsFirstBad IsDocument k text) (ap number h)
      (1, refl, later text l (b ∷ bs) a cut (sound a l (shorter text l (b ∷ bs) small cut) e), too_long text l b bs cut)

  by_cut : (text : List ℕ) → length text < 2 ^ 64 → (o : Option (List ℕ × List ℕ)) → cut_line text ≡ o →
      (result : Result A DocStop) → Answers result (read_parts line_in o) → ReadsDocument IsDocument text result
  by_cut text small o e (Err stop.Memory) h = tt
  by_cut text small None e (Ok a) h = absurd cc
  by_cut text small None e (Err (stop.Bad n)) h =
      subst (λ k. IsFirstBad IsDocument k text) (ap number h) (0, refl, begins_nothing text, none_in text e)
  by_cut text small (Some p) e (Ok a) h = by_line text p.0 p.1 small e (line_in p.0) refl (Ok a) h
  by_cut text small (Some p) e (Err (stop.Bad n)) h = by_line text p.0 p.1 small e (line_in p.0) refl (Err (stop.Bad n)) h

  -- a reader that answers so reads the documents whose lines `line_in` takes
  pub one_line_reads : (text : List ℕ) → length text < 2 ^ 64 → (result : Result A DocStop) →
      Answers result (read_one_line line_in text) → ReadsDocument IsDocument text result
  one_line_reads text small result h = by_cut text small (cut_line text) refl result h
