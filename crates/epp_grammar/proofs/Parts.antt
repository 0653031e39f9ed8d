-- What stands at a place: what `front_at` tells of it, and that something does.
use Rattle.std.proofs.Common.{◌≡◌, ◌⊎◌, ℕ, ◌-◌, ◌<◌, ◌==◌, Bool, true, false, ◌&&◌, if◌then◌else◌, List, []}
use Rattle.std.proofs.Common.{◌∷◌, ◌++◌, append_assoc, length, take, drop, Option, None, Some, inl, inr, refl, sym, ap}
use Rattle.std.proofs.Common.{subst, ◌∙◌, arith}
use Rattle.std.proofs.lemmas.Bool.{cases_Bool, eqb-true}
use Rattle.std.proofs.lemmas.List.{append-nil}
use Rattle.std.proofs.Math.Seq.{drop-append_seam, take-append_seam}
use Rattle.std.specs.Prelude.{slice_index, codes}
use Rattle.epp_text.specs.Pieces.{front, front_at, run, run_len, run_to, opens, writes_opener, writes_closer}
use Rattle.epp_text.specs.Pieces.{drops_indent, indent_from, close_from}
use Rattle.epp_text.specs.declared.piece.PieceKind.{PieceKind}
use Rattle.epp_text.specs.declared.piece.PieceKind.TheVariants as kinds
use Rattle.epp_grammar.specs.Texts.{Begins, BeginsMark, Closes, HoldsCloser, IsKept}
use Rattle.epp_grammar.specs.Texts.{IsPart, IsRun, Opens}
use Rattle.epp_grammar.proofs.Bytes.{both, clash, if_false, if_true, last_of, last_same}
use Rattle.epp_grammar.proofs.Bytes.{not_nothing, not_true, opens_shape, same_byte}
use Rattle.epp_grammar.proofs.Bytes.{writes_closer_shape, writes_opener_shape}
use Rattle.epp_grammar.proofs.Closers.{close_some, holds-append, holds_none}
use Rattle.epp_grammar.proofs.Drops.{drops_of}
use Rattle.epp_grammar.proofs.Runs.{Run, indent_cases, indent_dropped_at, indent_stays, run_is, run_of}
use Rattle.epp_grammar.proofs.Tags.{IsAt, tag_at, unclosed_at}

-- ---- runs

-- whether blanks before a tag go
drops_told : (z : List ℕ) → drops_indent z ≡ true → Begins (codes "<%-") z
drops_told [] e = absurd cc
drops_told (a ∷ []) e = let q : false ≡ true = (both (opens (a ∷ [])) false e).1 in absurd cc
drops_told (a ∷ b ∷ []) e = let q : false ≡ true = (both (opens (a ∷ b ∷ [])) false e).1 in absurd cc
drops_told (a ∷ b ∷ c ∷ z) e =
    let p = both (opens (a ∷ b ∷ c ∷ z)) (c == 45) e in
    let q = both (a == 60) (b == 37) p.0 in
    (z, λ i. eqb-true a 60 q.0 i ∷ eqb-true b 37 q.1 i ∷ eqb-true c 45 p.1 i ∷ z)

drops_tells : (z : List ℕ) → Begins (codes "<%-") z → drops_indent z ≡ true
drops_tells z h = ap drops_indent h.1

kept_at : (begins : Bool) (text rest : List ℕ) {kept : List ℕ} → IsKept begins text rest kept
    → (if drops_indent rest then indent_from begins text else length text) ≡ length kept
kept_at begins text rest (IsKept.whole none) =
    if_false (drops_indent rest) (indent_from begins text) (length text)
    (not_true (drops_indent rest) (λ t. none (drops_told rest t)))
kept_at begins text rest (IsKept.indent_dropped kept here is) =
    if_true (drops_indent rest) (indent_from begins text) (length text) (drops_tells rest here)
    ∙ indent_dropped_at begins text kept is
kept_at begins text rest (IsKept.beside_others here none) =
    if_true (drops_indent rest) (indent_from begins text) (length text) (drops_tells rest here)
    ∙ indent_stays begins text none

-- what is kept stands at the front of the run
record Front (text kept : List ℕ) : Type 0 where
  pub more : List ℕ
  pub is : text ≡ kept ++ more

kept_front : (begins : Bool) (text rest : List ℕ) {kept : List ℕ} → IsKept begins text rest kept → Front text kept
kept_front begins text rest (IsKept.whole none) =
    record { more = []; is = sym (append-nil text) }
kept_front begins text rest (IsKept.indent_dropped kept here i) = record { more = i.blanks; is = i.is }
kept_front begins text rest (IsKept.beside_others here none) =
    record { more = []; is = sym (append-nil text) }

-- where no mark stands, `front_at` takes a run
run_front : (begins : Bool) (z : List ℕ) → writes_opener z ≡ false → writes_closer z ≡ false → opens z ≡ false
    → front_at begins z ≡ run begins z
unfolding front_at
run_front begins z a b c = rw (a, b, c) refl

opener_off : (z : List ℕ) → opens z ≡ false → writes_opener z ≡ false
opener_off z e = ap (λ b. b && slice_index z 2 == 37) e

no_marks : (z : List ℕ) → (BeginsMark z → ⊥) → (opens z ≡ false) × (writes_closer z ≡ false)
no_marks z none = (
  not_true (opens z) (λ t. none (inl (drop 2 z, opens_shape z t))),
  not_true (writes_closer z) (λ t. none (inr (drop 3 z, writes_closer_shape z t))),
)

run_len_at : (text rest : List ℕ) → IsRun text rest → run_len (text ++ rest) ≡ length text
run_len_at [] rest r = absurd (r.some refl)
run_len_at (b ∷ tail) rest r = run_is b tail rest r

run_moves : (text : List ℕ) → (text ≡ [] → ⊥) → 0 < length text
run_moves [] some = absurd (some refl)
run_moves (b ∷ z) some = omega arith

run_at : (begins : Bool) (z text rest kept : List ℕ) → z ≡ text ++ rest → IsRun text rest
    → IsKept begins text rest kept → IsAt begins z (Some kinds.Text) kept false rest
unfolding run
run_at begins z text rest kept is r k =
    let no_mark : BeginsMark z → ⊥ =
    λ m. r.no_mark [] text refl r.some (subst BeginsMark is m) in
    let off = no_marks z no_mark in
    let len : run_len z ≡ length text = ap run_len is ∙ run_len_at text rest r in
    let behind : drop (length text) z ≡ rest = ap (drop (length text)) is ∙ drop-append_seam text rest in
    let before : take (length text) z ≡ text = ap (take (length text)) is ∙ take-append_seam text rest in
    let to : run_to begins z (length text) ≡ length kept =
    (λ i. if drops_indent (behind i) then indent_from begins (before i) else length text)
    ∙ kept_at begins text rest k in
    let f = kept_front begins text rest k in
    record {
      taken = text;
      whole = is;
      from = 0;
      to = length kept;
      is = run_front begins z (opener_off z off.0) off.1 off.0
          ∙ (ap (λ n. front (Some kinds.Text) 0 (run_to begins z n) n false) len
          ∙ ap (λ n. front (Some kinds.Text) 0 n (length text) false) to);
      says = (let e : length kept - 0 ≡ length kept = omega arith in ap (λ n. take n z) e)
          ∙ ap (λ t. take (length kept) t) (is ∙ (ap (λ t. t ++ rest) f.is ∙ append_assoc kept f.more rest))
          ∙ take-append_seam kept (f.more ++ rest);
      moves = run_moves text r.some;
    }

-- ---- each part

pub part_at : (begins : Bool) (z : List ℕ) {kind : Option PieceKind} {text : List ℕ} {behind : Bool} {rest : List ℕ}
    → IsPart begins z kind text behind rest → IsAt begins z kind text behind rest
unfolding front_at
part_at begins z (IsPart.opener rest is) =
    subst (λ y. IsAt begins y (Some kinds.Text) (60 ∷ 37 ∷ []) false rest) (sym is) (record {
      taken = 60 ∷ 37 ∷ 37 ∷ [];
      whole = refl;
      from = 0;
      to = 2;
      is = refl;
      says = refl;
      moves = omega arith;
    })
part_at begins z (IsPart.closer rest is) =
    subst (λ y. IsAt begins y (Some kinds.Text) (37 ∷ 62 ∷ []) false rest) (sym is) (record {
      taken = 37 ∷ 37 ∷ 62 ∷ [];
      whole = refl;
      from = 1;
      to = 3;
      is = refl;
      says = refl;
      moves = omega arith;
    })
part_at begins z (IsPart.run text rest kept is r k) =
    run_at begins z text rest kept is r k
part_at begins z (IsPart.tag kind inner text rest behind o c) = tag_at begins z kind inner o c
part_at begins z (IsPart.unclosed kind inner o none) =
    unclosed_at begins z kind inner o none

-- ---- something stands at each place

pub record Part (begins : Bool) (z : List ℕ) : Type 0 where
  pub kind : Option PieceKind
  pub text : List ℕ
  pub behind : Bool
  pub rest : List ℕ
  pub is : IsPart begins z kind text behind rest

run_part : (begins : Bool) (b : ℕ) (z : List ℕ) → (BeginsMark (b ∷ z) → ⊥) → Part begins (b ∷ z)
run_part begins b z none =
    let r = run_of b z none in
    let kept_by : (drops : Bool) → drops_indent r.rest ≡ drops → Part begins (b ∷ z) = λ drops e. by r drops e in
    kept_by (drops_indent r.rest) refl
  where
    by : (r : Run (b ∷ z)) (drops : Bool) → drops_indent r.rest ≡ drops
        → Part begins (b ∷ z)
    by r false e = record {
      kind = Some kinds.Text;
      text = r.run;
      behind = false;
      rest = r.rest;
      is = IsPart.run r.run r.rest r.run r.is r.are (IsKept.whole (λ h. clash (drops_indent r.rest) (drops_tells r.rest h) e));
    }
    by r true e = elim (indent_cases begins r.run) [
      | inl i ↦ record {
        kind = Some kinds.Text;
        text = i.kept;
        behind = false;
        rest = r.rest;
        is = IsPart.run r.run r.rest i.kept r.is r.are (IsKept.indent_dropped i.kept (drops_told r.rest e) i.is);
      }
      | inr none ↦ record {
        kind = Some kinds.Text;
        text = r.run;
        behind = false;
        rest = r.rest;
        is = IsPart.run r.run r.rest r.run r.is r.are (IsKept.beside_others (drops_told r.rest e) none);
      }
    ]

record Opening (z : List ℕ) : Type 0 where
  pub kind : Option PieceKind
  pub inner : List ℕ
  pub opens : Opens z kind inner

opening_of : (z : List ℕ) → opens z ≡ true → writes_opener z ≡ false → Opening z
opening_of z e isnt = by (drop 2 z) (opens_shape z e) where
  not_percent : (c : ℕ) (w : List ℕ) → z ≡ 60 ∷ 37 ∷ c ∷ w → c ≡ 37 → ⊥
  not_percent c w is same = clash (writes_opener z)
      (ap writes_opener is ∙ (let f : (c == 37) ≡ true = same_byte c 37 same in f)) isnt

  first : (c : ℕ) (w : List ℕ) (x : ℕ) → (c == x) ≡ false → Begins (x ∷ []) (c ∷ w) → ⊥
  first c w x off h = let q = h.1 in let same : c ≡ x = cc in clash (c == x) (same_byte c x same) off

  by : (inner : List ℕ) → z ≡ 60 ∷ 37 ∷ inner → Opening z
  by [] is = record {
    kind = Some kinds.Code;
    inner = [];
    opens = Opens.code [] is (λ h. let q = h.1 in cc) (λ h. let q = h.1 in cc) (λ h. let q = h.1 in cc) (λ h. let q = h.1 in cc);
  }
  by (c ∷ w) is = elim (cases_Bool (c == 61)) [
    | inl so ↦
        record { kind = Some kinds.Value; inner = w; opens = Opens.value w (is ∙ ap (λ x. 60 ∷ 37 ∷ x ∷ w) (eqb-true c 61 so)) }
    | inr a ↦ elim (cases_Bool (c == 35)) [
      | inl so ↦
          record { kind = None; inner = w; opens = Opens.comment w (is ∙ ap (λ x. 60 ∷ 37 ∷ x ∷ w) (eqb-true c 35 so)) }
      | inr b ↦ elim (cases_Bool (c == 45)) [
        | inl so ↦ record {
          kind = Some kinds.Code;
          inner = w;
          opens = Opens.dropping_code w (is ∙ ap (λ x. 60 ∷ 37 ∷ x ∷ w) (eqb-true c 45 so));
        }
        | inr d ↦ record {
          kind = Some kinds.Code;
          inner = c ∷ w;
          opens = Opens.code (c ∷ w) is (first c w 61 a) (first c w 35 b) (first c w 45 d)
              (λ h. not_percent c w is (let q = h.1 in cc));
        }
      ]
    ]
  ]

tag_part : (begins : Bool) (z : List ℕ) → Opening z → Part begins z
tag_part begins z o = by (close_from 0 o.inner) refl where
  closed : (text rest : List ℕ) → o.inner ≡ text ++ 37 ∷ 62 ∷ rest → (HoldsCloser text → ⊥)
      → (text ≡ []) ⊎ ((front : List ℕ) × (b : ℕ) × (text ≡ front ++ b ∷ [])) → Part begins z
  closed text rest is none (inl nothing) = record {
    kind = o.kind;
    text = text;
    behind = false;
    rest = rest;
    is = IsPart.tag o.kind o.inner text rest false o.opens
        (Closes.plain text rest is none (λ h. not_nothing h.0 45 [] (sym nothing ∙ h.1)));
  }
  closed text rest is none (inr some) = elim (cases_Bool (some.1 == 45)) [
    | inl so ↦
        let d = drops_of rest in
        let text_is : text ≡ some.0 ++ 45 ∷ [] = some.2 ∙ ap (λ b. some.0 ++ b ∷ []) (eqb-true some.1 45 so) in
        record {
          kind = o.kind;
          text = some.0;
          behind = d.broken;
          rest = d.rest;
          is = IsPart.tag o.kind o.inner some.0 d.rest d.broken o.opens
              (Closes.dropping some.0 rest d.rest d.broken
              (is ∙ (ap (λ t. t ++ 37 ∷ 62 ∷ rest) text_is ∙ append_assoc some.0 (45 ∷ []) (37 ∷ 62 ∷ rest)))
              (λ h. none (subst HoldsCloser (sym text_is) (holds-append some.0 (45 ∷ []) h))) d.are);
        }
    | inr isnt ↦ record {
      kind = o.kind;
      text = text;
      behind = false;
      rest = rest;
      is = IsPart.tag o.kind o.inner text rest false o.opens
          (Closes.plain text rest is none (λ h. clash (some.1 == 45)
          (same_byte some.1 45 (last_same some.0 h.0 some.1 45 (sym some.2 ∙ h.1))) isnt));
    }
  ]

  by : (c : Option ℕ) → close_from 0 o.inner ≡ c → Part begins z
  by None e = record {
    kind = Some kinds.Unclosed;
    text = [];
    behind = false;
    rest = [];
    is = IsPart.unclosed o.kind o.inner o.opens (holds_none 0 o.inner e);
  }
  by (Some end) e =
      let r = close_some 0 end o.inner e in
      closed r.text r.rest r.is r.none (last_of r.text)

pub part_of : (begins : Bool) (b : ℕ) (z : List ℕ) → Part begins (b ∷ z)
part_of begins b z = elim (cases_Bool (writes_opener (b ∷ z))) [
  | inl so ↦ record {
    kind = Some kinds.Text;
    text = 60 ∷ 37 ∷ [];
    behind = false;
    rest = drop 3 (b ∷ z);
    is = IsPart.opener (drop 3 (b ∷ z)) (writes_opener_shape (b ∷ z) so);
  }
  | inr isnt ↦ elim (cases_Bool (writes_closer (b ∷ z))) [
    | inl so ↦ record {
      kind = Some kinds.Text;
      text = 37 ∷ 62 ∷ [];
      behind = false;
      rest = drop 3 (b ∷ z);
      is = IsPart.closer (drop 3 (b ∷ z)) (writes_closer_shape (b ∷ z) so);
    }
    | inr no_closer ↦ elim (cases_Bool (opens (b ∷ z))) [
      | inl so ↦ tag_part begins (b ∷ z) (opening_of (b ∷ z) so isnt)
      | inr no_tag ↦ run_part begins b z (λ m. elim m [
        | inl h ↦ clash (opens (b ∷ z)) (ap opens h.1) no_tag
        | inr h ↦ clash (writes_closer (b ∷ z)) (ap writes_closer h.1) no_closer
      ])
    ]
  ]
]
