-- Turns that are dealt out, and results that are put together.
use Rattle.std.proofs.Common.{◌≡◌, List, [], ◌∷◌, ◌++◌, length, Result, Ok, Err, IfOk, refl, sym, ap, ◌∙◌, append-nil}
use Rattle.std.proofs.Common.{append_assoc, arith}
use Rattle.std.specs.List.{AllZip}
use Rattle.std.specs.declared.alloc.Global.{Global}
use Rattle.std.specs.declared.vec.Vec.{Vec}
use Rattle.wide_apply.specs.Shares.{dealt, gathered, AreOk}
use Rattle.wide_apply.specs.declared.apart_turn.ApartTurn.{ApartTurn}
use Rattle.wide_apply.specs.declared.share.Share.{Share}

module _ {A B : Type 0} (R : A → B → Type 0) where
  pub zip_append : (xs more : List A) (ys others : List B) → AllZip R xs ys → AllZip R more others →
      AllZip R (xs ++ more) (ys ++ others)
  zip_append [] more [] others h g = g
  zip_append [] more (y ∷ ys) others h g = absurd h
  zip_append (x ∷ xs) more [] others h g = absurd h
  zip_append (x ∷ xs) more (y ∷ ys) others h g = (h.0, zip_append xs more ys others h.1 g)

  pub zip_push : (xs : List A) (ys : List B) (x : A) (y : B) → AllZip R xs ys → R x y →
      AllZip R (xs ++ x ∷ []) (ys ++ y ∷ [])
  zip_push xs ys x y h r = zip_append xs (x ∷ []) ys (y ∷ []) h (r, tt)

pub dealt_push : {P : Type 0} (shares : List (Share P)) (share : Share P) →
    dealt (shares ++ share ∷ []) ≡ dealt shares ++ share.turns.items
dealt_push [] share = append-nil share.turns.items
dealt_push (s ∷ ss) share =
    ap (λ l. s.turns.items ++ l) (dealt_push ss share) ∙ sym (append_assoc s.turns.items (dealt ss) share.turns.items)

module _ {A X : Type 0} where
  pub gathered_push : (parts : List (Result (Vec A Global) X)) (part : Vec A Global) →
      gathered (parts ++ Ok part ∷ []) ≡ gathered parts ++ part.items
  gathered_push [] part = append-nil part.items
  gathered_push (Ok p ∷ ps) part = ap (λ l. p.items ++ l) (gathered_push ps part)
      ∙ sym (append_assoc p.items (gathered ps) part.items)
  gathered_push (Err x ∷ ps) part = gathered_push ps part

  pub ok_push : (parts : List (Result (Vec A Global) X)) (part : Vec A Global) → AreOk parts →
      AreOk (parts ++ Ok part ∷ [])
  ok_push [] part h = tt
  ok_push (Ok p ∷ ps) part h = ok_push ps part h
  ok_push (Err x ∷ ps) part h = absurd h

-- the results of all shares, in the order of the turns
pub shares_zip : {P B X : Type 0} (R : ApartTurn P → B → Type 0) (shares : List (Share P))
    (parts : List (Result (Vec B Global) X)) →
    AllZip (λ s out. IfOk out (λ v. AllZip R s.turns.items v.items)) shares parts → AreOk parts →
    AllZip R (dealt shares) (gathered parts)
shares_zip R [] [] h ok = tt
shares_zip R [] (p ∷ ps) h ok = absurd h
shares_zip R (s ∷ ss) [] h ok = absurd h
shares_zip R (s ∷ ss) (Ok p ∷ ps) h ok =
    zip_append R s.turns.items (dealt ss) p.items (gathered ps) h.0 (shares_zip R ss ps h.1 ok)
shares_zip R (s ∷ ss) (Err x ∷ ps) h ok = absurd ok

-- a loop has come to its end
pub nothing_left : {X : Type 0} (l : List X) → length l ≡ 0 → l ≡ []
nothing_left [] e = refl
nothing_left (x ∷ l) e = absurd (omega (arith, e))

pub all_yielded : {X : Type 0} (seen rest all : List X) → seen ++ rest ≡ all → length rest ≡ 0 → seen ≡ all
all_yielded seen rest all is e = sym (append-nil seen) ∙ ap (λ l. seen ++ l) (sym (nothing_left rest e)) ∙ is
