-- Events one after another.
use Rattle.std.proofs.Common.{◌≡◌, ℕ, List, [], ◌∷◌, ◌++◌, Option, Some, None, refl, sym, ◌∙◌, ap, subst, append_assoc, append-nil}
use Rattle.site_io.specs.Events.{Event, came, went, came_in, went_in, Since, Move, OneRead, OnlyWrites, Sends, EachDraw, Draws, EachRead, Kept}

came_append : (xs ys : List Event) → came_in (xs ++ ys) ≡ came_in xs ++ came_in ys
came_append [] ys = refl
came_append (came bytes ∷ xs) ys =
    ap (λ l. bytes ++ l) (came_append xs ys) ∙ sym (append_assoc bytes (came_in xs) (came_in ys))
came_append (went bytes ∷ xs) ys = came_append xs ys

went_append : (xs ys : List Event) → went_in (xs ++ ys) ≡ went_in xs ++ went_in ys
went_append [] ys = refl
went_append (came bytes ∷ xs) ys = went_append xs ys
went_append (went bytes ∷ xs) ys =
    ap (λ l. bytes ++ l) (went_append xs ys) ∙ sym (append_assoc bytes (went_in xs) (went_in ys))

-- ---- events since

-- Behind each other they stand behind those before.
pub since_then : (P Q R : List Event → Type 0) (x y z : Option (List Event)) →
    ((first second : List Event) → P first → Q second → R (first ++ second)) → Since P x y → Since Q y z → Since R x z
since_then P Q R None y z join first second = tt
since_then P Q R (Some es) y z join (new, is, holds) second =
    let next : Since Q (Some (es ++ new)) z = subst (λ o. Since Q o z) is second in
    (new ++ next.0, next.1 ∙ ap Some (append_assoc es new next.0), join new next.0 holds next.2)

pub since_as : (P Q : List Event → Type 0) (x y : Option (List Event)) → ((new : List Event) → P new → Q new) →
    Since P x y → Since Q x y
since_as P Q None y tell since = tt
since_as P Q (Some es) y tell (new, is, holds) = (new, is, tell new holds)

pub none_since : (P : List Event → Type 0) (x : Option (List Event)) → P [] → Since P x x
none_since P None holds = tt
none_since P (Some es) holds = ([], ap Some (sym (append-nil es)), holds)

pub since_kept : (P : List Event → Type 0) (x y z : Option (List Event)) → z ≡ y → Since P x y → Since P x z
since_kept P x y z is since = subst (λ o. Since P x o) (sym is) since

-- ---- what they moved

move_then : (bytes more text last : List ℕ) (xs ys : List Event) → Move bytes text xs → Move more last ys →
    Move (bytes ++ more) (text ++ last) (xs ++ ys)
move_then bytes more text last xs ys first second = (
  came_append xs ys ∙ ap (λ l. l ++ came_in ys) first.0 ∙ ap (λ l. bytes ++ l) second.0,
  went_append xs ys ∙ ap (λ l. l ++ went_in ys) first.1 ∙ ap (λ l. text ++ l) second.1,
)

pub nothing_moved : (x : Option (List Event)) → Since (Move [] []) x x
nothing_moved x = none_since (Move [] []) x (refl, refl)

pub moved_then : (bytes more text last : List ℕ) (x y z : Option (List Event)) → Since (Move bytes text) x y →
    Since (Move more last) y z → Since (Move (bytes ++ more) (text ++ last)) x z
moved_then bytes more text last x y z first second =
    since_then (Move bytes text) (Move more last) (Move (bytes ++ more) (text ++ last)) x y z
    (move_then bytes more text last) first second

-- what is read moves nothing out
pub moved_in : (bytes more text : List ℕ) (x y z : Option (List Event)) → Since (Move bytes text) x y →
    Since (Move more []) y z → Since (Move (bytes ++ more) text) x z
moved_in bytes more text x y z first second =
    subst (λ l. Since (Move (bytes ++ more) l) x z) (append-nil text) (moved_then bytes more text [] x y z first second)

-- and what is written moves nothing in
none_came : (es : List Event) → OnlyWrites es → came_in es ≡ []
none_came [] only = refl
none_came (came bytes ∷ es) only = absurd only
none_came (went bytes ∷ es) only = none_came es only

pub sent : (text : List ℕ) (x y : Option (List Event)) → Since (Sends text) x y → Since (Move [] text) x y
sent text x y since = since_as (Sends text) (Move [] text) x y (λ new s. (none_came new s.1, s.0)) since

pub moved_out : (bytes text last : List ℕ) (x y z : Option (List Event)) → Since (Move bytes text) x y →
    Since (Sends last) y z → Since (Move bytes (text ++ last)) x z
moved_out bytes text last x y z first second =
    subst (λ l. Since (Move l (text ++ last)) x z) (append-nil bytes)
    (moved_then bytes [] text last x y z first (sent last y z second))

only_then : (xs ys : List Event) → OnlyWrites xs → OnlyWrites ys → OnlyWrites (xs ++ ys)
only_then [] ys first second = second
only_then (came bytes ∷ xs) ys first second = absurd first
only_then (went bytes ∷ xs) ys first second = only_then xs ys first second

sends_then : (text last : List ℕ) (xs ys : List Event) → Sends text xs → Sends last ys → Sends (text ++ last) (xs ++ ys)
sends_then text last xs ys first second = (
  went_append xs ys ∙ ap (λ l. l ++ went_in ys) first.0 ∙ ap (λ l. text ++ l) second.0,
  only_then xs ys first.1 second.1,
)

pub sent_then : (text last : List ℕ) (x y z : Option (List Event)) → Since (Sends text) x y → Since (Sends last) y z →
    Since (Sends (text ++ last)) x z
sent_then text last x y z first second =
    since_then (Sends text) (Sends last) (Sends (text ++ last)) x y z (sends_then text last) first second

pub nothing_sent : (x : Option (List Event)) → Since (Sends []) x x
nothing_sent x = none_since (Sends []) x (refl, tt)

-- ---- when reads were made

draws_then : (Lacks : List ℕ → Type 0) (unread m n : List ℕ) (xs ys : List Event) → EachDraw Lacks unread xs →
    EachDraw Lacks (unread ++ came_in xs) ys → EachDraw Lacks unread (xs ++ ys)
draws_then Lacks unread m n [] ys first second = subst (λ l. EachDraw Lacks l ys) (append-nil unread) second
draws_then Lacks unread m n (came piece ∷ xs) ys (lacks, first) second = (
  lacks,
  draws_then Lacks (unread ++ piece) m n xs ys first
      (subst (λ l. EachDraw Lacks l ys) (sym (append_assoc unread piece (came_in xs))) second),
)
draws_then Lacks unread m n (went piece ∷ xs) ys first second = absurd first

-- reads, and behind them others
pub drawn_then : (Lacks : List ℕ → Type 0) (unread m n : List ℕ) (x y z : Option (List Event)) →
    Since (Draws Lacks unread m) x y → Since (Draws Lacks (unread ++ m) n) y z → Since (Draws Lacks unread (m ++ n)) x z
drawn_then Lacks unread m n x y z first second =
    since_then (Draws Lacks unread m) (Draws Lacks (unread ++ m) n) (Draws Lacks unread (m ++ n)) x y z
    (λ xs ys p q. (
      came_append xs ys ∙ ap (λ l. l ++ came_in ys) p.0 ∙ ap (λ l. m ++ l) q.0,
      draws_then Lacks unread m n xs ys p.1 (subst (λ l. EachDraw Lacks (unread ++ l) ys) (sym p.0) q.1),
    )) first second

pub nothing_drawn : (Lacks : List ℕ → Type 0) (unread : List ℕ) (x : Option (List Event)) →
    Since (Draws Lacks unread []) x x
nothing_drawn Lacks unread x = none_since (Draws Lacks unread []) x (refl, tt)

-- one read, while the bytes at hand lacked something
pub drawn_once : (Lacks : List ℕ → Type 0) (unread more : List ℕ) (x y : Option (List Event)) → Lacks unread →
    Since (OneRead more) x y → Since (Draws Lacks unread more) x y
drawn_once Lacks unread more x y lacks since =
    since_as (OneRead more) (Draws Lacks unread more) x y
    (λ new is. subst (Draws Lacks unread more) (sym is) (append-nil more, (lacks, tt))) since

each_as : (Lacks Wants : List ℕ → Type 0) (unread : List ℕ) (es : List Event) →
    ((more : List ℕ) → Lacks (unread ++ more) → Wants (unread ++ more)) → EachDraw Lacks unread es →
    EachDraw Wants unread es
each_as Lacks Wants unread [] tell asks = tt
each_as Lacks Wants unread (came piece ∷ es) tell (lacks, asks) = (
  subst Wants (append-nil unread) (tell [] (subst Lacks (sym (append-nil unread)) lacks)),
  each_as Lacks Wants (unread ++ piece) es
      (λ more l. subst Wants (sym (append_assoc unread piece more))
      (tell (piece ++ more) (subst Lacks (append_assoc unread piece more) l))) asks,
)
each_as Lacks Wants unread (went piece ∷ es) tell asks = absurd asks

-- what the bytes lacked may be told otherwise
pub drawn_as : (Lacks Wants : List ℕ → Type 0) (unread m : List ℕ) (x y : Option (List Event)) →
    ((more : List ℕ) → Lacks (unread ++ more) → Wants (unread ++ more)) → Since (Draws Lacks unread m) x y →
    Since (Draws Wants unread m) x y
drawn_as Lacks Wants unread m x y tell since =
    since_as (Draws Lacks unread m) (Draws Wants unread m) x y
    (λ new a. (a.0, each_as Lacks Wants unread new tell a.1)) since

module _ (P : List ℕ → List ℕ → Type 0) where
  each_then : (bytes text : List ℕ) (xs ys : List Event) → EachRead P bytes text xs →
      EachRead P (bytes ++ came_in xs) (text ++ went_in xs) ys → EachRead P bytes text (xs ++ ys)
  each_then bytes text [] ys first second =
      subst (λ l. EachRead P l text ys) (append-nil bytes)
      (subst (λ l. EachRead P (bytes ++ []) l ys) (append-nil text) second)
  each_then bytes text (came piece ∷ xs) ys (holds, first) second = (
    holds,
    each_then (bytes ++ piece) text xs ys first
        (subst (λ l. EachRead P l (text ++ went_in xs) ys) (sym (append_assoc bytes piece (came_in xs))) second),
  )
  each_then bytes text (went piece ∷ xs) ys first second =
      each_then bytes (text ++ piece) xs ys first
      (subst (λ l. EachRead P (bytes ++ came_in xs) l ys) (sym (append_assoc text piece (went_in xs))) second)

  each_sent : (bytes text : List ℕ) (es : List Event) → OnlyWrites es → EachRead P bytes text es
  each_sent bytes text [] only = tt
  each_sent bytes text (came piece ∷ es) only = absurd only
  each_sent bytes text (went piece ∷ es) only = each_sent bytes (text ++ piece) es only

  each_drawn : (Lacks : List ℕ → Type 0) (front unread text : List ℕ) (es : List Event) →
      ((more : List ℕ) → Lacks (unread ++ more) → P (front ++ (unread ++ more)) text) → EachDraw Lacks unread es →
      EachRead P (front ++ unread) text es
  each_drawn Lacks front unread text [] tell asks = tt
  each_drawn Lacks front unread text (came piece ∷ es) tell (lacks, asks) = (
    subst (λ l. P (front ++ l) text) (append-nil unread) (tell [] (subst Lacks (sym (append-nil unread)) lacks)),
    subst (λ l. EachRead P l text es) (sym (append_assoc front unread piece))
        (each_drawn Lacks front (unread ++ piece) text es
        (λ more l. subst (λ k. P (front ++ k) text) (sym (append_assoc unread piece more))
        (tell (piece ++ more) (subst Lacks (append_assoc unread piece more) l))) asks),
  )
  each_drawn Lacks front unread text (went piece ∷ es) tell asks = absurd asks

  pub nothing_kept : (x : Option (List Event)) → Since (Kept P [] []) x x
  nothing_kept x = none_since (Kept P [] []) x ((refl, refl), tt)

  pub kept_each : (bytes text : List ℕ) (x y : Option (List Event)) → Since (Kept P bytes text) x y →
      Since (EachRead P [] []) x y
  kept_each bytes text x y since = since_as (Kept P bytes text) (EachRead P [] []) x y (λ new k. k.1) since

  -- what is written keeps it
  pub kept_sent : (bytes text last : List ℕ) (x y z : Option (List Event)) → Since (Kept P bytes text) x y →
      Since (Sends last) y z → Since (Kept P bytes (text ++ last)) x z
  kept_sent bytes text last x y z first second =
      since_then (Kept P bytes text) (Sends last) (Kept P bytes (text ++ last)) x y z
      (λ xs ys p q. (
        subst (λ l. Move l (text ++ last) (xs ++ ys)) (append-nil bytes)
            (move_then bytes [] text last xs ys p.0 (none_came ys q.1, q.0)),
        each_then [] [] xs ys p.1 (each_sent (came_in xs) (went_in xs) ys q.1),
      )) first second

  none_went : (Lacks : List ℕ → Type 0) (unread : List ℕ) (es : List Event) → EachDraw Lacks unread es → went_in es ≡ []
  none_went Lacks unread [] asks = refl
  none_went Lacks unread (came piece ∷ es) asks = none_went Lacks (unread ++ piece) es asks.1
  none_went Lacks unread (went piece ∷ es) asks = absurd asks

  -- and so does what is read while P holds
  pub kept_drawn : (Lacks : List ℕ → Type 0) (front unread text more : List ℕ) (x y z : Option (List Event)) →
      ((next : List ℕ) → Lacks (unread ++ next) → P (front ++ (unread ++ next)) text) →
      Since (Kept P (front ++ unread) text) x y → Since (Draws Lacks unread more) y z →
      Since (Kept P ((front ++ unread) ++ more) text) x z
  kept_drawn Lacks front unread text more x y z tell first second =
      since_then (Kept P (front ++ unread) text) (Draws Lacks unread more) (Kept P ((front ++ unread) ++ more) text) x y z
      (λ xs ys p q. (
        subst (λ l. Move ((front ++ unread) ++ more) l (xs ++ ys)) (append-nil text)
            (move_then (front ++ unread) more text [] xs ys p.0 (q.0, none_went Lacks unread ys q.1)),
        each_then [] [] xs ys p.1
            (subst (λ l. EachRead P l (went_in xs) ys) (sym p.0.0)
            (subst (λ l. EachRead P (front ++ unread) l ys) (sym p.0.1)
            (each_drawn Lacks front unread text ys tell q.1))),
      )) first second
