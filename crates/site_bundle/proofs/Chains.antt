-- Refusals pass through what would come next.
use Rattle.std.proofs.Common.{◌≡◌, Result, Ok, Err, ap, sym, subst, ◌∙◌}
use Rattle.std.specs.Prelude.{IsErrAnd, IfOk}
use Rattle.site_bundle.specs.declared.bundle_stop.BundleStop.{BundleStop}
use Rattle.site_bundle.specs.declared.bundle_stop.BundleStop.TheVariants as stop
use Rattle.site_bundle.specs.Refusals.{Refusal, Tells, Refuses, ReadsAs, Reads, result_and_then}

pub refuses_then : {A B : Type 0} (s : BundleStop) (m : Result A Refusal) (f : A → Result B Refusal) → Refuses s m →
    Refuses s (result_and_then f m)
refuses_then stop.NotJson m f h = ap (result_and_then f) h
refuses_then (stop.BadShape path) m f h = ap (result_and_then f) h
refuses_then (stop.TooLarge path) m f h = ap (result_and_then f) h
refuses_then (stop.TreeFault path) m f h = absurd h
refuses_then stop.Memory m f h = tt

pub refuses_same : {A : Type 0} (s : BundleStop) (m n : Result A Refusal) → n ≡ m → Refuses s m → Refuses s n
refuses_same stop.NotJson m n e h = e ∙ h
refuses_same (stop.BadShape path) m n e h = e ∙ h
refuses_same (stop.TooLarge path) m n e h = e ∙ h
refuses_same (stop.TreeFault path) m n e h = absurd h
refuses_same stop.Memory m n e h = tt

-- what a `?` hands on
pub at_exit : {A B : Type 0} (shown : A → B) (r : Result A BundleStop) (s : BundleStop) (m : Result B Refusal) →
    IsErrAnd r (λ t. t ≡ s) → Refuses s m → ReadsAs shown r m
at_exit shown (Ok x) s m is h = absurd is
at_exit shown (Err t) s m is h = subst (λ u. Refuses u m) (sym is) h

pub told : (A : Type 0) (s : BundleStop) (r : Refusal) → Tells s r → Refuses {A = A} s (Err r)
told A stop.NotJson r h = ap Err h
told A (stop.BadShape path) r h = ap Err h
told A (stop.TooLarge path) r h = ap Err h
told A (stop.TreeFault path) r h = absurd h
told A stop.Memory r h = tt

pub reads_same : {A : Type 0} (r : Result A BundleStop) (m n : Result A Refusal) → n ≡ m → Reads r m → Reads r n
reads_same r m n e h = subst (λ k. Reads r k) (sym e) h

-- what holds of each value that is meant holds of the value that was read
pub if_read : {A : Type 0} (r : Result A BundleStop) (m : Result A Refusal) (P : A → Type 0) → Reads r m → IfOk m P →
    IfOk r P
if_read (Ok x) m P is h = subst (λ k. IfOk k P) is h
if_read (Err s) m P is h = tt

-- what holds of each value that comes of a first one
pub if_then : {A B : Type 0} (m : Result A Refusal) (f : A → Result B Refusal) (P : A → Type 0) (Q : B → Type 0) →
    IfOk m P → ((x : A) → P x → IfOk (f x) Q) →
    IfOk (result_and_then f m) Q
if_then (Ok x) f P Q h next = next x h
if_then (Err r) f P Q h next = tt

pub if_each : {A B : Type 0} (m : Result A Refusal) (f : A → Result B Refusal) (Q : B → Type 0) →
    ((x : A) → IfOk (f x) Q) → IfOk (result_and_then f m) Q
if_each (Ok x) f Q next = next x
if_each (Err r) f Q next = tt
