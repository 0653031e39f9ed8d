-- Which calls a walk makes, and which of them fail.
use Rattle.std.proofs.Common.{◌≡◌, ℕ, Bool, true, false, List, [], ◌∷◌, ◌++◌, Option, refl, sym, ap, subst, ◌∙◌, inl, inr}
use Rattle.site_io.specs.Folders.{Held, Call}
use Rattle.site_bundle.specs.Refusals.{Refusal}
use Rattle.site_bundle.specs.Walks.{Walk, done, refused, listing, reading, End, found, refusal, fault, call, EndsIn}

abbrev NoneFailed : List Call → Type 0
NoneFailed [] = Unit {0}
NoneFailed (c ∷ calls) = (c.failed ≡ false) × NoneFailed calls

-- Where a fault is told, the last call failed, at the path that is told, and no other one did.
pub last_failed : {A : Type 0} (told : Option (List Held)) (w : Walk A) (path : List ℕ) (calls : List Call) →
    EndsIn told w (fault path) calls → (before : List Call) × (calls ≡ before ++ call true path ∷ []) × NoneFailed before
unfolding EndsIn
last_failed told (done x) path calls h = absurd (cc h.0)
last_failed told (refused why) path calls h = absurd (cc h.0)
last_failed told (listing other next) path calls (inl h) =
    let is = h.0 in let same : other ≡ path = cc is in
    ([], h.1 ∙ ap (λ p. call true p ∷ []) same, tt)
last_failed told (listing other next) path calls (inr h) =
    let rest = last_failed told (next h.0) path h.1 h.4 in
    (call false other ∷ rest.0, h.3 ∙ ap (λ l. call false other ∷ l) rest.1, (refl, rest.2))
last_failed told (reading other next) path calls (inl h) =
    let is = h.0 in let same : other ≡ path = cc is in
    ([], h.1 ∙ ap (λ p. call true p ∷ []) same, tt)
last_failed told (reading other next) path calls (inr h) =
    let rest = last_failed told (next h.0) path h.1 h.4 in
    (call false other ∷ rest.0, h.3 ∙ ap (λ l. call false other ∷ l) rest.1, (refl, rest.2))

-- And where none is told, none did.
pub none_failed : {A : Type 0} (told : Option (List Held)) (w : Walk A) (x : A) (calls : List Call) →
    EndsIn told w (found x) calls → NoneFailed calls
unfolding EndsIn
none_failed told (done y) x calls h = subst NoneFailed (sym h.1) tt
none_failed told (refused why) x calls h = absurd (cc h.0)
none_failed told (listing path next) x calls (inl h) = absurd (cc h.0)
none_failed told (listing path next) x calls (inr h) =
    subst NoneFailed (sym h.3) (refl, none_failed told (next h.0) x h.1 h.4)
none_failed told (reading path next) x calls (inl h) = absurd (cc h.0)
none_failed told (reading path next) x calls (inr h) =
    subst NoneFailed (sym h.3) (refl, none_failed told (next h.0) x h.1 h.4)

pub none_failed_refused : {A : Type 0} (told : Option (List Held)) (w : Walk A) (why : Refusal) (calls : List Call) →
    EndsIn told w (refusal why) calls → NoneFailed calls
unfolding EndsIn
none_failed_refused told (done y) why calls h = absurd (cc h.0)
none_failed_refused told (refused other) why calls h = subst NoneFailed (sym h.1) tt
none_failed_refused told (listing path next) why calls (inl h) = absurd (cc h.0)
none_failed_refused told (listing path next) why calls (inr h) =
    subst NoneFailed (sym h.3) (refl, none_failed_refused told (next h.0) why h.1 h.4)
none_failed_refused told (reading path next) why calls (inl h) = absurd (cc h.0)
none_failed_refused told (reading path next) why calls (inr h) =
    subst NoneFailed (sym h.3) (refl, none_failed_refused told (next h.0) why h.1 h.4)
