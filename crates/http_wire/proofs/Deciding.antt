-- What the steps of reading come to.
use Rattle.std.proofs.Common.{◌≡◌, ◌≢◌, ◌⊎◌, inl, inr, ℕ, ◌+◌, ◌<◌, ◌≤◌, List, [], ◌∷◌, ◌++◌, length, take, Option, Some, None, Result, Ok, Err, refl, sym, ◌∙◌, subst, arith}
use Rattle.std.proofs.lemmas.List.{take_all}
use Rattle.site_io.specs.Stream.{Stream, Rose}
use Rattle.site_io.proofs.Streams.{Rose-after}
use Rattle.http_wire.specs.declared.heads.Head.{Head}
use Rattle.http_wire.specs.declared.request.HttpRequest.{HttpRequest}
use Rattle.http_wire.specs.declared.request.H.TheVariants as h
use Rattle.http_wire.specs.declared.request.WireStop.{WireStop}
use Rattle.http_wire.specs.declared.request.WireStop.TheVariants as stop
use Rattle.http_wire.specs.Messages.{most_head, most_body, HasNext, HasNone, IsOpen, IsOpenBody, IsOpenHead, IsNoHead, IsCrowded}
use Rattle.http_wire.specs.Reading.{HasGathered, HasLost, IsShorter, StopsBy, ReadsNext, IsHeadOf, IsTaken, ReadsHead, ReadsBody, ComesTo}
use Rattle.http_wire.specs.declared.reading.NextHead.{NextHead}
use Rattle.http_wire.specs.declared.reading.NextHead.TheVariants as next
use Rattle.httparse.specs.Grammar.{ReadsRequest}
use Rattle.http_wire.specs.declared.places.Place.TheVariants.{Blank, Ended}
use Rattle.http_wire.specs.Places.{after}
use Rattle.http_wire.proofs.Watching.{head_ends}
use Rattle.http_wire.proofs.Gathering.{nothing_gathered, gathered_then, gathered_as, lost_now, lost_then, lost_as}
use Rattle.http_wire.proofs.Fronts.{kept_of_front, crowded_of_front, none_without_body, open_body, announces, request_taken}

-- ---- a head

pub no_head_within : (rest : List ℕ) → length rest ≤ most_head → IsNoHead rest ⊎ IsCrowded rest → IsNoHead (take most_head rest) ⊎ IsCrowded rest
no_head_within rest short (inl never) = inl (subst IsNoHead (sym (take_all most_head rest short)) never)
no_head_within rest short (inr crowded) = inr crowded

cut_or_crowded : (rest : List ℕ) → IsNoHead (take most_head rest) ⊎ IsCrowded (take most_head rest) → IsNoHead (take most_head rest) ⊎ IsCrowded rest
cut_or_crowded rest (inl never) = inl never
cut_or_crowded rest (inr crowded) = inr (crowded_of_front most_head rest crowded)

pub found_at_last : {bytes rest : List ℕ} {kept : Head} → bytes ≡ take most_head rest → IsHeadOf bytes kept → IsHeadOf rest kept
found_at_last {bytes} {rest} {kept} front is = kept_of_front most_head rest (subst (λ l. IsHeadOf l kept) front is)

pub never_at_last : (bytes rest : List ℕ) → bytes ≡ take most_head rest → IsNoHead bytes ⊎ IsCrowded bytes
    → IsNoHead (take most_head rest) ⊎ IsCrowded rest
never_at_last bytes rest front is = cut_or_crowded rest (subst (λ l. IsNoHead l ⊎ IsCrowded l) front is)

open_within : (rest : List ℕ) → length rest < most_head → IsOpenHead (take most_head rest) → IsOpen rest
open_within rest short unended = inl (short, subst IsOpenHead (take_all most_head rest (omega arith)) unended)

at_last : {unread rest : List ℕ} {s t : Stream} → HasGathered HasNone unread rest s t → (cause : WireStop) (r : NextHead)
    → (IsOpenHead (take most_head rest) → StopsBy unread rest cause s t) → ComesTo rest cause r → ReadsHead unread rest r s t
at_last gathered cause (next.Found kept) tell is = (gathered, is)
at_last gathered cause next.Nothing tell is = absurd is
at_last {unread} {rest} {s} {t} gathered cause (next.Stopped why) tell (inl (same, unended)) =
    subst (λ w. StopsBy unread rest w s t) (sym same) (tell unended)
at_last {unread} {rest} {s} {t} gathered cause (next.Stopped why) tell (inr (inl (same, never))) =
    subst (λ w. StopsBy unread rest w s t) (sym same) (gathered, never, refl)
at_last {unread} {rest} {s} {t} gathered cause (next.Stopped why) tell (inr (inr same)) =
    subst (λ w. StopsBy unread rest w s t) (sym same) (lost_now gathered)

pub at_full : {unread rest : List ℕ} {s t : Stream} → HasGathered HasNone unread rest s t → (r : NextHead) → most_head ≤ length rest
    → ComesTo rest (stop.Bad h.TooLarge 0) r → ReadsHead unread rest r s t
at_full gathered r long is = at_last gathered (stop.Bad h.TooLarge 0) r (λ unended. (gathered, inl (long, unended), refl)) is

pub at_end : {unread rest : List ℕ} {s t : Stream} → HasGathered HasNone unread rest s t → (r : NextHead) → length rest < most_head
    → t.left ≡ Some [] → rest ≢ [] → ComesTo rest (stop.Bad h.Truncated 0) r → ReadsHead unread rest r s t
at_end {rest = rest} gathered r short ended some is =
    at_last gathered (stop.Bad h.Truncated 0) r (λ unended. (gathered, (ended, some, open_within rest short unended), refl)) is

pub at_fault : {unread rest : List ℕ} {s t : Stream} → HasGathered HasNone unread rest s t → (r : NextHead) → length rest < most_head
    → Rose s.faults t.faults → ComesTo rest stop.ReadFault r → ReadsHead unread rest r s t
at_fault {rest = rest} gathered r short rose is =
    at_last gathered stop.ReadFault r (λ unended. (gathered, open_within rest short unended, rose)) is

-- ---- a request

none_of : (xs ys : List ℕ) → xs ++ ys ≡ [] → xs ≡ []
none_of [] ys is = refl
none_of (x ∷ xs) ys is = absurd (cc)

no_end : (xs : List ℕ) → after Blank xs ≡ Ended → xs ≡ [] → ⊥
no_end [] end is = cc
no_end (x ∷ xs) end is = cc

some_bytes : (bytes more : List ℕ) (kept : Head) → IsHeadOf bytes kept → bytes ++ more ≡ [] → ⊥
some_bytes bytes more kept is none =
    let reads : ReadsRequest bytes is.head is.back = (is.has.0, is.has.2) in
    no_end bytes (head_ends bytes is.head is.back reads) (none_of bytes more none)

pub bad_length : (bytes : List ℕ) (s : Stream) (kept : Head) → IsHeadOf bytes kept → kept.body ≡ None
    → StopsBy bytes bytes (stop.Bad h.BadLength 0) s s
bad_length bytes s kept is says = (nothing_gathered bytes s, (is.back, announces None is says), refl)

pub too_large : (bytes : List ℕ) (s : Stream) (kept : Head) (n : ℕ) → IsHeadOf bytes kept → kept.body ≡ Some n → most_body < n
    → StopsBy bytes bytes (stop.Bad h.TooLarge 0) s s
too_large bytes s kept n is says large = (nothing_gathered bytes s, inr (n, is.back, announces (Some n) is says, large), refl)

-- behind a head that is whole
module _ {bytes rest : List ℕ} {s t : Stream} {kept : Head} (n : ℕ) (is : IsHeadOf bytes kept) (says : kept.body ≡ Some n) (fits : n ≤ most_body)
    (gathered : HasGathered (IsShorter (kept.size + n)) bytes rest s t) where
  gathered_body : HasGathered HasNone bytes rest s t
  gathered_body = gathered_as (IsShorter (kept.size + n)) HasNone bytes rest (λ more short. none_without_body bytes kept n is says more short) gathered

  -- memory was wanting to take the request
  pub lost_within : HasLost HasNone bytes s t
  lost_within = lost_now gathered_body

  open_still : length rest < kept.size + n → IsOpen rest
  open_still short =
      inr (subst IsOpenBody (sym gathered.grown)
      (open_body bytes kept n is says fits gathered.more (subst (λ l. length l < kept.size + n) gathered.grown short)))

  pub ends_within : length rest < kept.size + n → t.left ≡ Some [] → StopsBy bytes rest (stop.Bad h.Truncated 0) s t
  ends_within short ended =
      (gathered_body, (ended, λ none. some_bytes bytes gathered.more kept is (sym gathered.grown ∙ none), open_still short), refl)

  pub fails_within : length rest < kept.size + n → Rose s.faults t.faults → StopsBy bytes rest stop.ReadFault s t
  fails_within short rose = (gathered_body, open_still short, rose)

  pub answered : (r : HttpRequest) (behind : List ℕ) → kept.size + n ≤ length rest → IsTaken kept n rest r behind
      → (all : List ℕ) × HasGathered HasNone bytes all s t × HasNext all r behind
  answered r behind whole taken = (
    rest,
    gathered_body,
    subst (λ l. HasNext l r behind) (sym gathered.grown)
        (request_taken bytes gathered.more kept n r behind is says fits (subst (λ l. kept.size + n ≤ length l) gathered.grown whole)
        (subst (λ l. IsTaken kept n l r behind) gathered.grown taken)),
  )

-- or to read it
pub lost_body : {bytes : List ℕ} {s t : Stream} {kept : Head} (n : ℕ) → IsHeadOf bytes kept → kept.body ≡ Some n
    → HasLost (IsShorter (kept.size + n)) bytes s t → HasLost HasNone bytes s t
lost_body {bytes} {s} {t} {kept} n is says lost =
    lost_as (IsShorter (kept.size + n)) HasNone bytes (λ more short. none_without_body bytes kept n is says more short) lost

-- the head's bytes, and then those of the body
stops_then : (unread bytes rest : List ℕ) (s t u : Stream) → HasGathered HasNone unread bytes s t → (why : WireStop) → StopsBy bytes rest why t u
    → StopsBy unread rest why s u
stops_then unread bytes rest s t u first (stop.Bad why offset) (second, is, at) = (gathered_then first second, is, at)
stops_then unread bytes rest s t u first stop.ReadFault (second, unended, rose) =
    (gathered_then first second, unended, Rose-after s.faults t.faults u.faults first.read.later rose)
stops_then unread bytes rest s t u first stop.Memory lost = lost_then first lost

pub body_then : (unread bytes rest : List ℕ) (s t u : Stream) → HasGathered HasNone unread bytes s t
    → (r : Result (Option HttpRequest) WireStop) → ReadsBody bytes rest r t u → ReadsNext unread rest r s u
body_then unread bytes rest s t u first (Ok (Some r)) (all, second, is) = (all, gathered_then first second, is)
body_then unread bytes rest s t u first (Ok None) is = absurd is
body_then unread bytes rest s t u first (Err why) is = stops_then unread bytes rest s t u first why is
