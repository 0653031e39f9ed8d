-- A shared history seen as the list behind the lock, and back.
use Rattle.std.proofs.Common.{◌≡◌, ◌≤◌, List, [], ◌∷◌, ◌++◌, map, length, refl, sym, ap, ◌∙◌, arith, append_assoc, length-append}
use Rattle.std.proofs.lemmas.List.{map-append, length-map}
use mathlib.Core.List.{IsPrefix}
use Rattle.site_core.specs.Events.{Event}
use Rattle.shared_site.specs.Shows.{Terms, Shared, Shown, with_entry, mark, shown, event_in, events_in, terms_in, told}

module _ {S : Type 0} where
  events_marked : (terms : Terms) (h : List (Event S)) → events_in (map (mark terms) h) ≡ h
  events_marked terms [] = refl
  events_marked terms (e ∷ h) = ap (λ es. e ∷ es) (events_marked terms h)

  terms_marked : (terms : Terms) (h : List (Event S)) → 1 ≤ length h → terms_in (map (mark terms) h) ≡ terms
  terms_marked terms [] some = absurd (omega (arith, some))
  terms_marked terms (e ∷ h) some = refl

  pub told_shown : (s : Shared S) → 1 ≤ length s.history → told (shown s) ≡ s
  told_shown s some i =
      record { history = events_marked s.terms s.history i; terms = terms_marked s.terms s.history some i }

  pub length_shown : (s : Shared S) → length (shown s) ≡ length s.history
  length_shown s = length-map s.history (mark s.terms)

  pub length_events : (front : List (Shown S)) → length (events_in front) ≡ length front
  length_events front = length-map front event_in

  pub shown_with : (s : Shared S) (e : Event S) → shown (with_entry s e) ≡ shown s ++ mark s.terms e ∷ []
  shown_with s e = map-append (mark s.terms) s.history (e ∷ [])

  pub events_prefix : (xs ys : List (Shown S)) → IsPrefix xs ys → IsPrefix (events_in xs) (events_in ys)
  events_prefix xs ys (rest, is) = (events_in rest, sym (map-append event_in xs rest) ∙ ap events_in is)

  pub same_terms : (front all : List (Shown S)) → 1 ≤ length (events_in front) → IsPrefix front all →
      terms_in front ≡ terms_in all
  same_terms [] all some p = absurd (omega (arith, some))
  same_terms (x ∷ front) [] some p = absurd (cc (p.1))
  same_terms (x ∷ front) (y ∷ all) some p = let e : x ≡ y = cc (p.1) in ap (λ z. z.terms) e

  -- what a pass has seen begins the history, and tells its terms
  pub record Begins (front : List (Shown S)) (s : Shared S) : Type 0 where
    pub events : IsPrefix (events_in front) s.history
    pub terms : terms_in front ≡ s.terms

  pub begins : (front : List (Shown S)) (s : Shared S) → 1 ≤ length (events_in front) → IsPrefix front (shown s) →
      Begins front s
  begins front s some (rest, is) =
      let all : events_in front ++ events_in rest ≡ s.history =
      sym (map-append event_in front rest) ∙ ap events_in is ∙ events_marked s.terms s.history in
      let grown : 1 ≤ length s.history =
      omega (arith, some, length-append (events_in front) (events_in rest), ap length all) in
      record {
        events = (events_in rest, all);
        terms = same_terms front (shown s) some (rest, is) ∙ terms_marked s.terms s.history grown;
      }

pub prefix_more : {A : Type 0} (xs ys more : List A) → IsPrefix xs ys → IsPrefix xs (ys ++ more)
prefix_more xs ys more (rest, is) = (rest ++ more, sym (append_assoc xs rest more) ∙ ap (λ l. l ++ more) is)
