-- What a walk comes to over a tree that tells its files.
use Rattle.std.proofs.Common.{◌≡◌, List, Option, None, Some, Result, Ok, Err, refl, sym, ap, subst, ◌∙◌, ℕ, inl, inr}
use Rattle.std.specs.Prelude.{IfSome}
use Rattle.site_io.specs.Folders.{Folder, Held, Call, names_at, bytes_at}
use Rattle.site_bundle.specs.declared.bundle_stop.BundleStop.{BundleStop}
use Rattle.site_bundle.specs.declared.bundle_stop.BundleStop.TheVariants as stop
use Rattle.site_bundle.specs.Refusals.{Refusal, not_json, bad_shape, too_large}
use Rattle.site_bundle.specs.Walks.{Answer, Walk, done, refused, listing, reading, End, found, refusal, fault, answer_of, EndsIn, end_over, Goes, ReadsTold}

abbrev Shows : {A : Type 0} → Result A Refusal → End A → Type 0
Shows meant (found x) = meant ≡ Ok x
Shows meant (refusal why) = meant ≡ Err why
Shows meant (fault path) = Unit {0}

told_end : {A : Type 0} (files : List Held) (w : Walk A) (end : End A) (calls : List Call) →
    EndsIn (Some files) w end calls → Shows (end_over files w) end
unfolding EndsIn end_over
told_end files (done x) end calls h = subst (λ e. Shows (Ok x) e) (sym h.0) refl
told_end files (refused why) end calls h = subst (λ e. Shows (Err why) e) (sym h.0) refl
told_end files (listing path next) end calls (inl h) =
    subst (λ e. Shows (end_over files (next (names_at path files))) e) (sym h.0) tt
told_end files (listing path next) end calls (inr h) =
    subst (λ names. Shows (end_over files (next names)) end) h.2.tells (told_end files (next h.0) end h.1 h.4)
told_end files (reading path next) end calls (inl h) =
    subst (λ e. Shows (end_over files (next (answer_of (bytes_at path files)))) e) (sym h.0) tt
told_end files (reading path next) end calls (inr h) =
    subst (λ answer. Shows (end_over files (next answer)) end) h.2.tells (told_end files (next h.0) end h.1 h.4)

over_told : {A : Type 0} (told : Option (List Held)) (w : Walk A) (end : End A) (calls : List Call) →
    EndsIn told w end calls → IfSome told (λ files. Shows (end_over files w) end)
over_told None w end calls h = tt
over_told (Some files) w end calls h = told_end files w end calls h

free : (told : Option (List Held)) → IfSome told (λ files. Unit {0})
free None = tt
free (Some files) = tt

pub told_reads : {A B : Type 0} {before after : Folder} (shown : A → B) (r : Result A BundleStop) (w : Walk B) →
    Goes shown r w before after → IfSome before.told (λ files. ReadsTold shown r (end_over files w))
told_reads {A} {B} {before} {after} shown (Ok x) w goes = over_told before.told w (found (shown x)) goes.ends.0 goes.ends.1
told_reads {A} {B} {before} {after} shown (Err stop.NotJson) w goes = over_told before.told w (refusal not_json) goes.ends.0 goes.ends.1
told_reads {A} {B} {before} {after} shown (Err (stop.BadShape path)) w goes =
    over_told before.told w (refusal (bad_shape path)) goes.ends.0 goes.ends.1
told_reads {A} {B} {before} {after} shown (Err (stop.TooLarge path)) w goes =
    over_told before.told w (refusal (too_large path)) goes.ends.0 goes.ends.1
told_reads {A} {B} {before} {after} shown (Err (stop.TreeFault path)) w goes = free before.told
told_reads {A} {B} {before} {after} shown (Err stop.Memory) w goes = free before.told
