-- Bytes at hand, and reads that add to them.
use Rattle.std.proofs.Common.{◌≡◌, ◌≢◌, inl, inr, ℕ, ◌<◌, List, [], ◌++◌, length, take, refl, sym, ap, ◌∙◌, subst, arith, append_assoc, append-nil}
use Rattle.std.proofs.lemmas.List.{length-take-le}
use Rattle.site_io.specs.Stream.{Stream, HasRead, HasFailed}
use Rattle.site_io.specs.Got.{GivesBytes}
use Rattle.site_io.specs.Events.{Draws}
use Rattle.site_io.proofs.Events.{nothing_drawn, drawn_once, drawn_then, drawn_as, since_kept}
use Rattle.site_io.proofs.Streams.{nothing_read, read_then_read, read_then_failed}
use Rattle.http_wire.specs.Reading.{HasGathered, HasDrawn, HasLost, HasReadOnce, IsWanted}

wanted_then : (Lacks : List ℕ → Type 0) (unread m n : List ℕ) → IsWanted Lacks unread m → IsWanted Lacks (unread ++ m) n
    → IsWanted Lacks unread (m ++ n)
wanted_then Lacks unread m n first (inl none) =
    subst (IsWanted Lacks unread) (sym (append-nil m) ∙ ap (λ l. m ++ l) (sym none)) first
wanted_then Lacks unread m n first (inr (front, last, is, some, lacks)) =
    inr (m ++ front, last, ap (λ l. m ++ l) is ∙ sym (append_assoc m front last), some, subst Lacks (append_assoc unread m front) lacks)

module _ {Lacks : List ℕ → Type 0} where
  pub nothing_gathered : (bytes : List ℕ) (s : Stream) → HasGathered Lacks bytes bytes s s
  nothing_gathered bytes s = record {
    more = [];
    grown = sym (append-nil bytes);
    read = nothing_read s;
    wanted = inl refl;
    drawn = nothing_drawn Lacks bytes s.events;
  }

  -- one more read, made while the bytes at hand lacked something
  drawn_on : {unread bytes last : List ℕ} {s t u : Stream} (before : HasGathered Lacks unread bytes s t) → Lacks bytes
      → HasReadOnce last t u → HasDrawn Lacks unread (before.more ++ last) s u
  drawn_on {unread} {bytes} {last} {s} {t} {u} before lacks read =
      drawn_then Lacks unread before.more last s.events t.events u.events before.drawn
      (drawn_once Lacks (unread ++ before.more) last t.events u.events (subst Lacks before.grown lacks) read.once)

  -- a read that gave bytes
  pub then_more : {unread bytes bytes' last : List ℕ} {s t u : Stream} → HasGathered Lacks unread bytes s t → Lacks bytes
      → bytes' ≡ bytes ++ last → last ≢ [] → HasReadOnce last t u → HasGathered Lacks unread bytes' s u
  then_more {unread} {bytes} {bytes'} {last} before lacks grown some read = record {
    more = before.more ++ last;
    grown = grown ∙ ap (λ l. l ++ last) before.grown ∙ append_assoc unread before.more last;
    read = read_then_read before.read read.read;
    wanted = inr (before.more, last, refl, some, subst Lacks before.grown lacks);
    drawn = drawn_on before lacks read;
  }

  -- a read that met the end
  pub then_nothing : {unread bytes bytes' : List ℕ} {s t u : Stream} → HasGathered Lacks unread bytes s t → Lacks bytes
      → bytes' ≡ bytes → HasReadOnce [] t u → HasGathered Lacks unread bytes' s u
  then_nothing {unread = unread} {s = s} {u = u} before lacks same read = record {
    more = before.more;
    grown = same ∙ before.grown;
    read = subst (λ m. HasRead m s u) (append-nil before.more) (read_then_read before.read read.read);
    wanted = before.wanted;
    drawn = subst (λ m. HasDrawn Lacks unread m s u) (append-nil before.more) (drawn_on before lacks read);
  }

  -- a read that failed
  pub then_failed : {unread bytes bytes' : List ℕ} {s t u : Stream} → HasGathered Lacks unread bytes s t
      → bytes' ≡ bytes → HasFailed t u → HasGathered Lacks unread bytes' s u
  then_failed {unread = unread} {s = s} {t = t} {u = u} before same failed = record {
    more = before.more;
    grown = same ∙ before.grown;
    read = read_then_failed before.read failed;
    wanted = before.wanted;
    drawn = since_kept (Draws Lacks unread before.more) s.events t.events u.events failed.events before.drawn;
  }

  pub gathered_then : {unread bytes bytes' : List ℕ} {s t u : Stream} → HasGathered Lacks unread bytes s t → HasGathered Lacks bytes bytes' t u
      → HasGathered Lacks unread bytes' s u
  gathered_then {unread} {bytes} {bytes'} {s} {t} {u} first second = record {
    more = first.more ++ second.more;
    grown = second.grown ∙ ap (λ l. l ++ second.more) first.grown ∙ append_assoc unread first.more second.more;
    read = read_then_read first.read second.read;
    wanted = wanted_then Lacks unread first.more second.more first.wanted (subst (λ l. IsWanted Lacks l second.more) first.grown second.wanted);
    drawn = drawn_then Lacks unread first.more second.more s.events t.events u.events first.drawn
        (subst (λ l. HasDrawn Lacks l second.more t u) first.grown second.drawn);
  }

  -- what is lost for want of memory
  pub lost_now : {unread bytes : List ℕ} {s t : Stream} → HasGathered Lacks unread bytes s t → HasLost Lacks unread s t
  lost_now before = (before.more, before.read, before.drawn)

  pub lost_read : {unread bytes last : List ℕ} {s t u : Stream} → HasGathered Lacks unread bytes s t → Lacks bytes
      → HasReadOnce last t u → HasLost Lacks unread s u
  lost_read {last = last} before lacks read =
      (before.more ++ last, read_then_read before.read read.read, drawn_on before lacks read)

  pub lost_then : {unread bytes : List ℕ} {s t u : Stream} → HasGathered Lacks unread bytes s t → HasLost Lacks bytes t u
      → HasLost Lacks unread s u
  lost_then {unread} {bytes} {s} {t} {u} first (more, read, drawn) = (
    first.more ++ more,
    read_then_read first.read read,
    drawn_then Lacks unread first.more more s.events t.events u.events first.drawn
        (subst (λ l. HasDrawn Lacks l more t u) first.grown drawn),
  )

wanted_as : (Lacks Wants : List ℕ → Type 0) (unread m : List ℕ) → ((more : List ℕ) → Lacks (unread ++ more) → Wants (unread ++ more))
    → IsWanted Lacks unread m → IsWanted Wants unread m
wanted_as Lacks Wants unread m tell (inl none) = inl none
wanted_as Lacks Wants unread m tell (inr (front, last, is, some, lacks)) = inr (front, last, is, some, tell front lacks)

-- what the bytes lacked may be told otherwise
pub gathered_as : (Lacks Wants : List ℕ → Type 0) (unread bytes : List ℕ) {s t : Stream}
    → ((more : List ℕ) → Lacks (unread ++ more) → Wants (unread ++ more)) → HasGathered Lacks unread bytes s t → HasGathered Wants unread bytes s t
gathered_as Lacks Wants unread bytes {s} {t} tell g = record {
  more = g.more;
  grown = g.grown;
  read = g.read;
  wanted = wanted_as Lacks Wants unread g.more tell g.wanted;
  drawn = drawn_as Lacks Wants unread g.more s.events t.events tell g.drawn;
}

pub lost_as : (Lacks Wants : List ℕ → Type 0) (unread : List ℕ) {s t : Stream}
    → ((more : List ℕ) → Lacks (unread ++ more) → Wants (unread ++ more)) → HasLost Lacks unread s t → HasLost Wants unread s t
lost_as Lacks Wants unread {s} {t} tell (more, read, drawn) =
    (more, read, drawn_as Lacks Wants unread more s.events t.events tell drawn)

-- a read gave bytes, which were added
pub filled : (unread rest buffer : List ℕ) (count : ℕ) {s t : Stream} → GivesBytes count buffer s t → rest ≡ unread ++ take count buffer
    → 0 < count → (last : List ℕ) × (rest ≡ unread ++ last) × (last ≢ []) × HasReadOnce last s t
filled unread rest buffer count given grown some =
    let size = length-take-le count buffer given.fits in
    (take count buffer, grown, λ none. absurd (let e = ap length none in omega (arith, e, size, some)), record { read = given.given; once = given.once })
