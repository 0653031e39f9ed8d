-- What was read, where source and tree tell what they have.
use Rattle.std.proofs.Common.{◌≡◌, ℕ, ◌<◌, ◌≤◌, false, List, [], ◌++◌, length, subst, sym, ap, ◌∙◌, refl, inl, inr, arith, length-append, append-nil, leb}
use Rattle.std.proofs.lemmas.Bool.{le-leb}
use Rattle.std.proofs.lemmas.Bool.Decides.{leb_tells}
use Rattle.std.specs.Io.KnownBytes.{Consumes}
use Rattle.std.specs.Prelude.{Option, Some, None, option_map, Result, Ok, Err, IfSome, if◌then◌else◌, codes}
use Rattle.pp_values.specs.declared.place.TheConstants.{MAIN_MANIFEST}
use Rattle.site_bundle.specs.Bundles.{bundle_of, bundle_in}
use Rattle.site_bundle.specs.Documents.{json_of}
use Rattle.site_bundle.specs.FolderSites.{site_walk}
use Rattle.site_bundle.specs.Refusals.{Refusal, not_json, bad_shape, too_large, result_and_then}
use Rattle.site_bundle.specs.Walks.{Walk, done, refused, listing, reading, found, refusal, EndsIn, end_over}
use Rattle.site_bundle.specs.declared.bundle.Bundle.{Bundle}
use Rattle.site_bundle.specs.declared.bundle_stop.BundleStop.TheVariants as b
use Rattle.site_bundle.specs.declared.limits.TheConstants.{MOST_BUNDLE_BYTES, MOST_FILE_BYTES}
use Rattle.site_io.specs.Folders.{Held, Call}
use Rattle.site_io.specs.declared.transfer.ReadStop.TheVariants as r
use Rattle.site_commands.specs.Inputs as read
use Rattle.site_commands.specs.Inputs.{Reading, Input, HasInput, HasStoppedBy, stop_ending}
use Rattle.site_commands.specs.Settled.{input_told, manifest_of, site_or}
use Rattle.site_commands.specs.World.{World}
use Rattle.site_commands.specs.declared.ending.Ending.TheVariants as e
use Rattle.site_commands.specs.declared.input.InputStop.{InputStop}
use Rattle.site_commands.specs.declared.input.InputStop.TheVariants as i

-- ---- bytes

-- all bytes that were left are the ones read
pub read_is_left : (left' : Option (List ℕ)) (input bytes : List ℕ) → left' ≡ Some [] →
    Consumes (Some input) left' bytes →
    bytes ≡ input
read_is_left left' input bytes ended read =
    let whole : input ≡ bytes ++ [] = subst (λ l. Consumes (Some input) l bytes) ended read in
    sym (whole ∙ append-nil bytes)

-- bytes that were read were left
pub left_is_longer : (left' : Option (List ℕ)) (input bytes : List ℕ) → Consumes (Some input) left' bytes →
    length bytes ≤ length input
left_is_longer None input bytes read = absurd read
left_is_longer (Some rest) input bytes read =
    let whole : input ≡ bytes ++ rest = read in
    omega (arith, ap length whole, length-append bytes rest)

leb-false : (a b : ℕ) → b < a → leb a b ≡ false
leb-false a b h = grind (arith, leb_tells)

bundle_of-long : (input : List ℕ) → MOST_BUNDLE_BYTES < length input → bundle_of input ≡ Err (too_large (codes "bundle"))
unfolding bundle_of
bundle_of-long input long =
    ap (λ b. result_and_then bundle_in (if b then json_of input else Err (too_large (codes "bundle"))))
    (leb-false (length input) MOST_BUNDLE_BYTES long)

-- ---- walks over files that are told

over-found : {A : Type 0} (files : List Held) (w : Walk A) (x : A) (calls : List Call) →
    EndsIn (Some files) w (found x) calls → end_over files w ≡ Ok x
unfolding EndsIn end_over
over-found files (done y) x calls ends = let is = ends.0 in let same : x ≡ y = cc in ap Ok (sym same)
over-found files (refused why) x calls ends = absurd (cc ends.0)
over-found files (listing path next) x calls (inl ends) = absurd (cc ends.0)
over-found files (listing path next) x calls (inr ends) =
    subst (λ names. end_over files (next names) ≡ Ok x) ends.2.tells (over-found files (next ends.0) x ends.1 ends.4)
over-found files (reading path next) x calls (inl ends) = absurd (cc ends.0)
over-found files (reading path next) x calls (inr ends) =
    subst (λ answer. end_over files (next answer) ≡ Ok x) ends.2.tells (over-found files (next ends.0) x ends.1 ends.4)

over-refusal : {A : Type 0} (files : List Held) (w : Walk A) (why : Refusal) (calls : List Call) →
    EndsIn (Some files) w (refusal why) calls → end_over files w ≡ Err why
unfolding EndsIn end_over
over-refusal files (done y) why calls ends = absurd (cc ends.0)
over-refusal files (refused other) why calls ends =
    let is = ends.0 in let same : why ≡ other = cc in ap Err (sym same)
over-refusal files (listing path next) why calls (inl ends) = absurd (cc ends.0)
over-refusal files (listing path next) why calls (inr ends) =
    subst (λ names. end_over files (next names) ≡ Err why) ends.2.tells
    (over-refusal files (next ends.0) why ends.1 ends.4)
over-refusal files (reading path next) why calls (inl ends) = absurd (cc ends.0)
over-refusal files (reading path next) why calls (inr ends) =
    subst (λ answer. end_over files (next answer) ≡ Err why) ends.2.tells
    (over-refusal files (next ends.0) why ends.1 ends.4)

-- ---- what was had

manifest_told : (left left' : Option (List ℕ)) (bytes : List ℕ) → Consumes left left' bytes → left' ≡ Some [] →
    length bytes ≤ MOST_FILE_BYTES → IfSome (option_map manifest_of left) (λ told. told ≡ Ok (read.bytes bytes))
manifest_told None left' bytes took ended fits = tt
manifest_told (Some input) left' bytes took ended fits =
    subst (λ x. manifest_of x ≡ Ok (read.bytes bytes)) (read_is_left left' input bytes ended took)
    (ap (λ b. if b then Ok (read.bytes bytes) else Err (too_large MAIN_MANIFEST.now))
    (le-leb (length bytes) MOST_FILE_BYTES fits))

bundle_told : (left left' : Option (List ℕ)) (bytes : List ℕ) (meant : Result Bundle Refusal) →
    Consumes left left' bytes →
    left' ≡ Some [] → bundle_of bytes ≡ meant →
    IfSome (option_map (λ input. site_or (bundle_of input)) left) (λ told. told ≡ site_or meant)
bundle_told None left' bytes meant took ended is = tt
bundle_told (Some input) left' bytes meant took ended is =
    subst (λ x. site_or (bundle_of x) ≡ site_or meant) (read_is_left left' input bytes ended took) (ap site_or is)

folder_told : (told : Option (List Held)) (w : Walk Bundle) (said : Bundle) (calls : List Call) →
    EndsIn told w (found said) calls →
    IfSome (option_map (λ files. site_or (end_over files w)) told) (λ t. t ≡ Ok (read.site said))
folder_told None w said calls ends = tt
folder_told (Some files) w said calls ends = ap site_or (over-found files w said calls ends)

-- what was had is what is told
pub input-told : (from : Reading) (input : Input) (before after : World) →
    HasInput from input before.source after.source before.folder after.folder →
    IfSome (input_told from before) (λ told. told ≡ Ok input)
input-told read.nothing read.none before after had = refl
input-told read.manifest (read.bytes bytes) before after had =
    manifest_told before.source.left after.source.left bytes had.0.read.left had.0.ended had.0.fits
input-told read.bundle (read.site said) before after had =
    bundle_told before.source.left after.source.left had.0.bytes (Ok said) had.0.read.read.left had.0.read.ended
    had.0.is
input-told (read.folder dir) (read.site said) before after had =
    folder_told before.folder.told (site_walk dir) said had.1.ends.0 had.1.ends.1
input-told read.journal input before after had = tt
input-told read.resuming input before after had = tt
input-told from input before after had = absurd had

-- ---- what was not had

abbrev pub IsRefusal : Result Input Refusal → Type 0
IsRefusal told = (why : Refusal) × (told ≡ Err why)

manifest_long : (left left' : Option (List ℕ)) (bytes : List ℕ) → Consumes left left' bytes →
    MOST_FILE_BYTES < length bytes →
    IfSome (option_map manifest_of left) IsRefusal
manifest_long None left' bytes took long = tt
manifest_long (Some input) left' bytes took long =
    let shorter : length bytes ≤ length input = left_is_longer left' input bytes took in
    let longer : MOST_FILE_BYTES < length input = omega (arith, shorter, long) in (
      too_large MAIN_MANIFEST.now,
      ap (λ b. if b then Ok (read.bytes input) else Err (too_large MAIN_MANIFEST.now))
          (leb-false (length input) MOST_FILE_BYTES longer),
    )

bundle_long : (left left' : Option (List ℕ)) (bytes : List ℕ) → Consumes left left' bytes →
    MOST_BUNDLE_BYTES < length bytes →
    IfSome (option_map (λ input. site_or (bundle_of input)) left) IsRefusal
bundle_long None left' bytes took long = tt
bundle_long (Some input) left' bytes took long =
    let shorter : length bytes ≤ length input = left_is_longer left' input bytes took in
    let longer : MOST_BUNDLE_BYTES < length input = omega (arith, shorter, long) in
    (too_large (codes "bundle"), ap site_or (bundle_of-long input longer))

bundle_refused : (left left' : Option (List ℕ)) (bytes : List ℕ) (why : Refusal) → Consumes left left' bytes →
    left' ≡ Some [] → bundle_of bytes ≡ Err why → IfSome (option_map (λ input. site_or (bundle_of input)) left)
    IsRefusal
bundle_refused None left' bytes why took ended is = tt
bundle_refused (Some input) left' bytes why took ended is =
    (why, subst (λ x. site_or (bundle_of x) ≡ Err why) (read_is_left left' input bytes ended took) (ap site_or is))

folder_refused : (told : Option (List Held)) (w : Walk Bundle) (why : Refusal) (calls : List Call) →
    EndsIn told w (refusal why) calls →
    IfSome (option_map (λ files. site_or (end_over files w)) told) IsRefusal
folder_refused None w why calls ends = tt
folder_refused (Some files) w why calls ends = (why, ap site_or (over-refusal files w why calls ends))

-- where what was read is not what the command reads, what is told is neither
pub stop-told : (stop : InputStop) (from : Reading) (before after : World) → e.BadInput ≡ stop_ending stop →
    HasStoppedBy stop from before.source after.source before.folder after.folder →
    IfSome (input_told from before) IsRefusal
stop-told (i.Unread r.Fault) from before after is did = cc
stop-told (i.Unread r.Memory) from before after is did = cc
stop-told (i.Unread r.TooLong) read.nothing before after is did = absurd did.0
stop-told (i.Unread r.TooLong) read.manifest before after is did =
    manifest_long before.source.left after.source.left did.1.0.bytes did.1.0.read.left did.1.0.long
stop-told (i.Unread r.TooLong) read.bundle before after is did =
    bundle_long before.source.left after.source.left did.1.0.bytes did.1.0.read.left did.1.0.long
stop-told (i.Unread r.TooLong) (read.folder dir) before after is did = absurd did.0
stop-told (i.Unread r.TooLong) read.journal before after is did = tt
stop-told (i.Unread r.TooLong) read.resuming before after is did = tt
stop-told (i.Refused why) read.nothing before after is did = absurd did
stop-told (i.Refused why) read.manifest before after is did = absurd did
stop-told (i.Refused b.NotJson) read.bundle before after is did =
    bundle_refused before.source.left after.source.left did.0.bytes not_json did.0.read.read.left did.0.read.ended
    did.0.refuses
stop-told (i.Refused (b.BadShape path)) read.bundle before after is did =
    bundle_refused before.source.left after.source.left did.0.bytes (bad_shape path) did.0.read.read.left
    did.0.read.ended
    did.0.refuses
stop-told (i.Refused (b.TooLarge path)) read.bundle before after is did =
    bundle_refused before.source.left after.source.left did.0.bytes (too_large path) did.0.read.read.left
    did.0.read.ended
    did.0.refuses
stop-told (i.Refused (b.TreeFault path)) read.bundle before after is did = cc
stop-told (i.Refused b.Memory) read.bundle before after is did = cc
stop-told (i.Refused b.NotJson) (read.folder dir) before after is did =
    folder_refused before.folder.told (site_walk dir) not_json did.1.ends.0 did.1.ends.1
stop-told (i.Refused (b.BadShape path)) (read.folder dir) before after is did =
    folder_refused before.folder.told (site_walk dir) (bad_shape path) did.1.ends.0 did.1.ends.1
stop-told (i.Refused (b.TooLarge path)) (read.folder dir) before after is did =
    folder_refused before.folder.told (site_walk dir) (too_large path) did.1.ends.0 did.1.ends.1
stop-told (i.Refused (b.TreeFault path)) (read.folder dir) before after is did = cc
stop-told (i.Refused b.Memory) (read.folder dir) before after is did = cc
stop-told (i.Refused why) read.journal before after is did = tt
stop-told (i.Refused why) read.resuming before after is did = tt
stop-told (i.BadLine number) read.nothing before after is did = absurd did
stop-told (i.BadLine number) read.manifest before after is did = absurd did
stop-told (i.BadLine number) read.bundle before after is did = absurd did
stop-told (i.BadLine number) (read.folder dir) before after is did = absurd did
stop-told (i.BadLine number) read.journal before after is did = tt
stop-told (i.BadLine number) read.resuming before after is did = tt
stop-told i.TooManyEntries read.nothing before after is did = absurd did
stop-told i.TooManyEntries read.manifest before after is did = absurd did
stop-told i.TooManyEntries read.bundle before after is did = absurd did
stop-told i.TooManyEntries (read.folder dir) before after is did = absurd did
stop-told i.TooManyEntries read.journal before after is did = tt
stop-told i.TooManyEntries read.resuming before after is did = tt
