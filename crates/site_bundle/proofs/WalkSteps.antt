-- One step of a walk after another.
use Rattle.std.proofs.Common.{◌≡◌, ◌⊎◌, append_assoc, append-nil, option_map, ℕ, ◌≤◌, List, [], ◌++◌, Option, None, Some, Result, Ok, Err, refl, sym, ap, subst, ◌∙◌, inl, inr, arith, length, Bool, true, false, ◌<◌, ◌-◌, zero, suc, ◌∷◌, map, codes, take, drop, get_or}
use Rattle.std.proofs.lemmas.Grind.{common_steps}
use Rattle.std.specs.Option.{unwrap_or}
use Rattle.std.specs.Prelude.{IfSome, IsErrAnd, IsTrue, nat_le, if◌then◌else◌}
use Rattle.pp_values.specs.Rising.{is_rising}
use Rattle.site_io.specs.Folders.{Folder, Held, Call, HasMade, HasCalled, IsSameFolder, HasListed, HasGot, IsLonger, names_at, bytes_at}
use Rattle.site_io.specs.Stream.{Rose}
use Rattle.site_bundle.specs.declared.bundle_stop.BundleStop.{BundleStop}
use Rattle.site_bundle.specs.declared.bundle_stop.BundleStop.TheVariants as stop
use Rattle.site_bundle.specs.declared.limits.TheConstants.{MOST_FILE_BYTES}
use Rattle.site_bundle.specs.Refusals.{Refusal, Tells, ReadsAs, not_json, bad_shape, too_large}
use Rattle.site_bundle.specs.declared.gathered.Gathered.{Gathered}
use Rattle.site_bundle.specs.Gathering.{Keep, gather, facts_file, nothing_gathered}
use Rattle.site_bundle.specs.FolderSites.{content_in, names_walk, content_walk, file_walk, entry_walk, folder_walk, node_walk, facts_walk, nodes_walk, steps, files_walk}
use Rattle.site_bundle.specs.Walks.{Answer, bytes, missing, longer, Walk, done, refused, listing, reading, walk_then, in_turn, walk_of, End, found, refusal, fault, IsListing, IsReading, answer_of, call, EndsIn, EndsBy, EndsAs, Goes}

-- ---- ends

found_in : {A : Type 0} → A → End A → A
found_in x (found y) = y
found_in x (refusal why) = x
found_in x (fault path) = x

pub ends_then : {A B : Type 0} (told : Option (List Held)) (f : A → Walk B) (w : Walk A) (x : A) (end : End B)
    (calls behind : List Call) → EndsIn told w (found x) calls → EndsIn told (f x) end behind →
    EndsIn told (walk_then f w) end (calls ++ behind)
unfolding EndsIn walk_then found_in
ends_then told f (done y) x end calls behind h next =
    subst (λ l. EndsIn told (f y) end (l ++ behind)) (sym h.1)
    (subst (λ z. EndsIn told (f z) end behind) (ap (found_in x) h.0) next)
ends_then told f (refused why) x end calls behind h next = absurd (cc h.0)
ends_then told f (listing path k) x end calls behind (inl h) next = absurd (cc h.0)
ends_then told f (listing path k) x end calls behind (inr h) next = inr (
  h.0,
  h.1 ++ behind,
  h.2,
  ap (λ l. l ++ behind) h.3,
  ends_then told f (k h.0) x end h.1 behind h.4 next,
)
ends_then told f (reading path k) x end calls behind (inl h) next = absurd (cc h.0)
ends_then told f (reading path k) x end calls behind (inr h) next = inr (
  h.0,
  h.1 ++ behind,
  h.2,
  ap (λ l. l ++ behind) h.3,
  ends_then told f (k h.0) x end h.1 behind h.4 next,
)

pub refused_then : {A B : Type 0} (told : Option (List Held)) (f : A → Walk B) (w : Walk A) (why : Refusal)
    (calls : List Call) → EndsIn told w (refusal why) calls → EndsIn told (walk_then f w) (refusal why) calls
unfolding EndsIn walk_then
refused_then told f (done y) why calls h = absurd (cc h.0)
refused_then told f (refused other) why calls h =
    let is = h.0 in let same : why ≡ other = cc is in (ap refusal same, h.1)
refused_then told f (listing path k) why calls (inl h) = absurd (cc h.0)
refused_then told f (listing path k) why calls (inr h) =
    inr (h.0, h.1, h.2, h.3, refused_then told f (k h.0) why h.1 h.4)
refused_then told f (reading path k) why calls (inl h) = absurd (cc h.0)
refused_then told f (reading path k) why calls (inr h) =
    inr (h.0, h.1, h.2, h.3, refused_then told f (k h.0) why h.1 h.4)

pub fault_then : {A B : Type 0} (told : Option (List Held)) (f : A → Walk B) (w : Walk A) (path : List ℕ)
    (calls : List Call) → EndsIn told w (fault path) calls → EndsIn told (walk_then f w) (fault path) calls
unfolding EndsIn walk_then
fault_then told f (done y) path calls h = absurd (cc h.0)
fault_then told f (refused why) path calls h = absurd (cc h.0)
fault_then told f (listing other k) path calls (inl h) =
    let is = h.0 in let same : path ≡ other = cc is in inl (ap fault same, h.1)
fault_then told f (listing other k) path calls (inr h) =
    inr (h.0, h.1, h.2, h.3, fault_then told f (k h.0) path h.1 h.4)
fault_then told f (reading other k) path calls (inl h) =
    let is = h.0 in let same : path ≡ other = cc is in inl (ap fault same, h.1)
fault_then told f (reading other k) path calls (inr h) =
    inr (h.0, h.1, h.2, h.3, fault_then told f (k h.0) path h.1 h.4)

-- ---- calls

made_none : (o : Option (List Call)) → o ≡ option_map (λ calls. calls ++ []) o
made_none None = refl
made_none (Some calls) = ap Some (sym (append-nil calls))

pub none_made : (f : Folder) → HasMade [] f f
none_made f = made_none f.calls

made_joined : (o : Option (List Call)) (xs ys : List Call) →
    option_map (λ calls. calls ++ ys) (option_map (λ calls. calls ++ xs) o) ≡ option_map (λ calls. calls ++ (xs ++ ys)) o
made_joined None xs ys = refl
made_joined (Some calls) xs ys = ap Some (append_assoc calls xs ys)

made_then : (f g h : Folder) (xs ys : List Call) → HasMade xs f g → HasMade ys g h → HasMade (xs ++ ys) f h
made_then f g h xs ys first second =
    second ∙ ap (option_map (λ calls. calls ++ ys)) first ∙ made_joined f.calls xs ys

-- ---- folders

pub same_folder : (f : Folder) → IsSameFolder f f
same_folder f = record { later = omega arith; told = refl }

pub same_trans : {f g h : Folder} → IsSameFolder f g → IsSameFolder g h → IsSameFolder f h
same_trans {f} {g} {h} one two = record { later = omega (arith, one.later, two.later); told = two.told ∙ one.told }

rose_later : (a b c : ℕ) → a ≤ b → Rose b c → Rose a c
rose_later a b c le rose = omega (arith, le, rose)

-- ---- walks so far

-- Whatever the walk that is left comes to, the whole one comes to, by the calls so far and those that are left.
pub record Leads {A : Type 0} (before now : Folder) (walk whole : Walk A) : Type 0 where
  pub same : IsSameFolder before now
  pub made : List Call
  pub has : HasMade made before now
  pub leads : (end : End A) (calls : List Call) → EndsIn before.told walk end calls →
      EndsIn before.told whole end (made ++ calls)

pub leads_start : {A : Type 0} (f : Folder) (w : Walk A) → Leads f f w w
leads_start f w = record { same = same_folder f; made = []; has = none_made f; leads = λ end calls h. h }

pub leads_next : {A B : Type 0} {before mid now : Folder} {whole : Walk B} (f : A → Walk B) (w : Walk A) (x : A) →
    Leads before mid (walk_then f w) whole → EndsBy w (found x) mid now → IsSameFolder mid now →
    Leads before now (f x) whole
leads_next {A} {B} {before} {mid} {now} {whole} f w x so_far ends same = record {
  same = same_trans so_far.same same;
  made = so_far.made ++ ends.0;
  has = made_then before mid now so_far.made ends.0 so_far.has ends.2;
  leads = λ end calls h. subst (EndsIn before.told whole end) (sym (append_assoc so_far.made ends.0 calls))
      (so_far.leads end (ends.0 ++ calls) (ends_then before.told f w x end ends.0 calls
      (subst (λ told. EndsIn told w (found x) ends.0) so_far.same.told ends.1) h));
}

-- what the rest came to the whole came to
pub leads_end : {A B : Type 0} {before mid after : Folder} (shown : A → B) (r : Result A BundleStop) (w whole : Walk B) →
    Leads before mid w whole → Goes shown r w mid after → Goes shown r whole before after
leads_end {A} {B} {before} {mid} {after} shown r w whole so_far goes =
    record { same = same_trans so_far.same goes.same; ends = ends r goes.ends }
  where
    at_once : (end : End B) → EndsBy w end mid after → EndsBy whole end before after
    at_once end h = (
      so_far.made ++ h.0,
      so_far.leads end h.0 (subst (λ told. EndsIn told w end h.0) so_far.same.told h.1),
      made_then before mid after so_far.made h.0 so_far.has h.2,
    )

    ends : (r : Result A BundleStop) → EndsAs shown r w mid after → EndsAs shown r whole before after
    ends (Ok x) h = at_once (found (shown x)) h
    ends (Err stop.NotJson) h = at_once (refusal not_json) h
    ends (Err (stop.BadShape path)) h = at_once (refusal (bad_shape path)) h
    ends (Err (stop.TooLarge path)) h = at_once (refusal (too_large path)) h
    ends (Err (stop.TreeFault path)) h =
        (at_once (fault path) h.0, rose_later before.faults mid.faults after.faults so_far.same.later h.1)
    ends (Err stop.Memory) h = tt

-- a step that stopped stops what would come next
pub goes_stop : {A B C D : Type 0} {before after : Folder} (shown : A → B) (seen : C → D) (f : B → Walk D) (w : Walk B)
    (s : BundleStop) → Goes shown (Err s) w before after → Goes seen (Err s) (walk_then f w) before after
goes_stop {A} {B} {C} {D} {before} {after} shown seen f w s goes = record { same = goes.same; ends = ends s goes.ends }
  where
    ends : (s : BundleStop) → EndsAs shown (Err s) w before after → EndsAs seen (Err s) (walk_then f w) before after
    ends stop.NotJson h = (h.0, refused_then before.told f w not_json h.0 h.1, h.2)
    ends (stop.BadShape path) h = (h.0, refused_then before.told f w (bad_shape path) h.0 h.1, h.2)
    ends (stop.TooLarge path) h = (h.0, refused_then before.told f w (too_large path) h.0 h.1, h.2)
    ends (stop.TreeFault path) h = ((h.0.0, fault_then before.told f w path h.0.0 h.0.1, h.0.2), h.1)
    ends stop.Memory h = tt

-- what a `?` hands on
pub goes_exit : {A B : Type 0} {before after : Folder} (shown : A → B) (r : Result A BundleStop) (s : BundleStop)
    (w : Walk B) → IsErrAnd r (λ t. t ≡ s) → Goes shown (Err s) w before after → Goes shown r w before after
goes_exit shown (Ok x) s w is goes = absurd is
goes_exit {A} {B} {before} {after} shown (Err t) s w is goes =
    subst (λ u. Goes shown (Err u) w before after) (sym is) goes

pub leads_stop : {A B C D : Type 0} {before mid after : Folder} {whole : Walk D} (shown : A → B) (seen : C → D)
    (f : B → Walk D) (w : Walk B) (r : Result C BundleStop) (s : BundleStop) → Leads before mid (walk_then f w) whole →
    IsErrAnd r (λ t. t ≡ s) → Goes shown (Err s) w mid after → Goes seen r whole before after
leads_stop shown seen f w r s so_far is goes =
    goes_exit seen r s _ is (leads_end seen (Err s) (walk_then f w) _ so_far (goes_stop shown seen f w s goes))

-- want of memory, before the tree is asked
pub goes_without_memory : {A B : Type 0} {before after : Folder} (shown : A → B) (r : Result A BundleStop) (w : Walk B) →
    IsErrAnd r (λ t. t ≡ stop.Memory) → IsSameFolder before after → Goes shown r w before after
goes_without_memory shown r w is same = goes_exit shown r stop.Memory w is (record { same = same; ends = tt })

-- a walk that has come to its end, or is refused: nothing more is asked
at_end : {A : Type 0} (f : Folder) (x : A) → EndsBy (done x) (found x) f f
unfolding EndsIn
at_end f x = ([], (refl, refl), none_made f)

at_refusal : (A : Type 0) (f : Folder) (why : Refusal) → EndsBy {A = A} (refused why) (refusal why) f f
unfolding EndsIn
at_refusal A f why = ([], (refl, refl), none_made f)

-- what is read of an answer
pub goes_reading : {A B : Type 0} (f : Folder) (shown : A → B) (r : Result A BundleStop) (meant : Result B Refusal) →
    ReadsAs shown r meant → Goes shown r (walk_of meant) f f
goes_reading {A} {B} f shown (Ok x) meant h = record {
  same = same_folder f;
  ends = subst (λ m. EndsBy (walk_of m) (found (shown x)) f f) (sym h) (at_end f (shown x));
}
goes_reading {A} {B} f shown (Err stop.NotJson) meant h = record {
  same = same_folder f;
  ends = subst (λ m. EndsBy (walk_of m) (refusal not_json) f f) (sym h) (at_refusal B f not_json);
}
goes_reading {A} {B} f shown (Err (stop.BadShape path)) meant h = record {
  same = same_folder f;
  ends = subst (λ m. EndsBy (walk_of m) (refusal (bad_shape path)) f f) (sym h) (at_refusal B f (bad_shape path));
}
goes_reading {A} {B} f shown (Err (stop.TooLarge path)) meant h = record {
  same = same_folder f;
  ends = subst (λ m. EndsBy (walk_of m) (refusal (too_large path)) f f) (sym h) (at_refusal B f (too_large path));
}
goes_reading f shown (Err (stop.TreeFault path)) meant h = absurd h
goes_reading f shown (Err stop.Memory) meant h = record { same = same_folder f; ends = tt }

-- a walk that is refused
pub goes_refused : {A B : Type 0} (f : Folder) (shown : A → B) (s : BundleStop) (why : Refusal) → Tells s why →
    Goes shown (Err s) (refused why) f f
goes_refused {A} {B} f shown stop.NotJson why h = record {
  same = same_folder f;
  ends = subst (λ w. EndsBy {A = B} (refused why) (refusal w) f f) h (at_refusal B f why);
}
goes_refused {A} {B} f shown (stop.BadShape path) why h = record {
  same = same_folder f;
  ends = subst (λ w. EndsBy {A = B} (refused why) (refusal w) f f) h (at_refusal B f why);
}
goes_refused {A} {B} f shown (stop.TooLarge path) why h = record {
  same = same_folder f;
  ends = subst (λ w. EndsBy {A = B} (refused why) (refusal w) f f) h (at_refusal B f why);
}
goes_refused f shown (stop.TreeFault path) why h = absurd h
goes_refused f shown stop.Memory why h = record { same = same_folder f; ends = tt }

-- ---- answers

each_told : {X : Type 0} {P Q : X → Type 0} (o : Option X) → ((x : X) → P x → Q x) → IfSome o P → IfSome o Q
each_told None f h = tt
each_told (Some x) f h = f x h

called_at : (before after : Folder) (failed : Bool) (called path : List ℕ) → called ≡ path →
    HasCalled called failed before after → HasMade (call failed path ∷ []) before after
called_at before after failed called path is has = subst (λ p. HasMade (call failed p ∷ []) before after) is has

-- a folder was listed
pub goes_listed : {before after : Folder} (names : List (List ℕ)) (called path : List ℕ) → called ≡ path →
    HasListed names called before after →
    Goes (λ (ns : List (List ℕ)). ns) (Ok names) (listing path (λ names. done (unwrap_or names []))) before after
unfolding EndsIn
goes_listed {before} {after} names called path is listed = record {
  same = listed.same;
  ends = (
    call false path ∷ [],
    inr (
      Some names,
      [],
      (record {
        rising = listed.rising;
        tells = each_told before.told (λ files e. subst (λ p. Some names ≡ names_at p files) is (sym e)) listed.told;
      }),
      refl,
      (refl, refl),
    ),
    called_at before after false called path is listed.called,
  );
}

pub goes_unlisted : {before after : Folder} (names : List (List ℕ)) (called path : List ℕ) → names ≡ [] → called ≡ path →
    IsSameFolder before after → IfSome before.told (λ files. names_at called files ≡ None) →
    HasCalled called false before after →
    Goes (λ (ns : List (List ℕ)). ns) (Ok names) (listing path (λ names. done (unwrap_or names []))) before after
unfolding EndsIn
goes_unlisted {before} {after} names called path empty is same none has = record {
  same = same;
  ends = (
    call false path ∷ [],
    inr (
      None,
      [],
      (record {
        rising = refl;
        tells = each_told before.told (λ files e. subst (λ p. None ≡ names_at p files) is (sym e)) none;
      }),
      refl,
      (ap found empty, refl),
    ),
    called_at before after false called path is has,
  );
}

-- the call failed
pub goes_fault_listing : {A B : Type 0} {before after : Folder} (shown : A → B) (called path : List ℕ)
    (next : Option (List (List ℕ)) → Walk B) → called ≡ path → IsSameFolder before after → Rose before.faults after.faults →
    HasCalled called true before after → Goes shown (Err (stop.TreeFault called)) (listing path next) before after
unfolding EndsIn
goes_fault_listing {before = before} {after = after} shown called path next is same rose has = record {
  same = same;
  ends = ((call true path ∷ [], inl (ap fault is, refl), called_at before after true called path is has), rose);
}

pub goes_fault_reading : {A B : Type 0} {before after : Folder} (shown : A → B) (called path : List ℕ)
    (next : Answer → Walk B) → called ≡ path → IsSameFolder before after → Rose before.faults after.faults →
    HasCalled called true before after → Goes shown (Err (stop.TreeFault called)) (reading path next) before after
unfolding EndsIn
goes_fault_reading {before = before} {after = after} shown called path next is same rose has = record {
  same = same;
  ends = ((call true path ∷ [], inl (ap fault is, refl), called_at before after true called path is has), rose);
}

-- a file was read
short_answer : (content : List ℕ) (b : Bool) → b ≡ true → (if b then bytes content else longer) ≡ bytes content
short_answer content true is = refl
short_answer content false is = absurd (cc is)

long_answer : (content : List ℕ) (b : Bool) → b ≡ false → (if b then bytes content else longer) ≡ longer
long_answer content true is = absurd (cc is)
long_answer content false is = refl

le_true : (n m : ℕ) → n ≤ m → nat_le n m ≡ true
le_true n m h = grind (arith, h)

lt_false : (n m : ℕ) → m < n → nat_le n m ≡ false
lt_false n m h = grind (arith, h)

answer_bytes : (o : Option (List ℕ)) (content : List ℕ) → o ≡ Some content → length content ≤ MOST_FILE_BYTES →
    bytes content ≡ answer_of o
answer_bytes o content is short =
    sym (ap answer_of is ∙ short_answer content (nat_le (length content) MOST_FILE_BYTES) (le_true _ _ short))

answer_longer : (o : Option (List ℕ)) → IsLonger MOST_FILE_BYTES o → longer ≡ answer_of o
answer_longer None h = absurd h
answer_longer (Some content) h =
    sym (long_answer content (nat_le (length content) MOST_FILE_BYTES) (lt_false _ _ h))

pub goes_read : {before after : Folder} (content called path named : List ℕ) → called ≡ path →
    HasGot content called MOST_FILE_BYTES before after →
    Goes (λ (o : Option (List ℕ)). o) (Ok (Some content)) (reading path (content_in named)) before after
unfolding EndsIn
goes_read {before} {after} content called path named is got = record {
  same = got.same;
  ends = (
    call false path ∷ [],
    inr (
      bytes content,
      [],
      (record {
        short = got.fits;
        tells = each_told before.told (λ files e. answer_bytes (bytes_at path files) content
            (subst (λ p. bytes_at p files ≡ Some content) is e) got.fits) got.told;
      }),
      refl,
      (refl, refl),
    ),
    called_at before after false called path is got.called,
  );
}

pub goes_missing : {before after : Folder} (called path named : List ℕ) → called ≡ path → IsSameFolder before after →
    IfSome before.told (λ files. bytes_at called files ≡ None) → HasCalled called false before after →
    Goes (λ (o : Option (List ℕ)). o) (Ok None) (reading path (content_in named)) before after
unfolding EndsIn
goes_missing {before} {after} called path named is same none has = record {
  same = same;
  ends = (
    call false path ∷ [],
    inr (
      missing,
      [],
      (record {
        short = tt;
        tells = each_told before.told (λ files e. sym (ap answer_of (subst (λ p. bytes_at p files ≡ None) is e))) none;
      }),
      refl,
      (refl, refl),
    ),
    called_at before after false called path is has,
  );
}

-- the walk is refused with this path
refused_at : {A B : Type 0} {before after : Folder} (shown : A → B) (s : BundleStop) (w : Walk B) (named : List ℕ) →
    Tells s (too_large named) → IsSameFolder before after → EndsBy w (refusal (too_large named)) before after →
    Goes shown (Err s) w before after
refused_at {A} {B} {before} {after} shown stop.NotJson w named h same ends =
    record { same = same; ends = subst (λ why. EndsBy w (refusal why) before after) h ends }
refused_at {A} {B} {before} {after} shown (stop.BadShape path) w named h same ends =
    record { same = same; ends = subst (λ why. EndsBy w (refusal why) before after) h ends }
refused_at {A} {B} {before} {after} shown (stop.TooLarge path) w named h same ends =
    record { same = same; ends = subst (λ why. EndsBy w (refusal why) before after) h ends }
refused_at shown (stop.TreeFault path) w named h same ends = absurd h
refused_at shown stop.Memory w named h same ends = record { same = same; ends = tt }

pub goes_longer : {before after : Folder} (s : BundleStop) (called path named : List ℕ) → called ≡ path →
    Tells s (too_large named) → IsSameFolder before after →
    IfSome before.told (λ files. IsLonger MOST_FILE_BYTES (bytes_at called files)) → HasCalled called false before after →
    Goes (λ (o : Option (List ℕ)). o) (Err s) (reading path (content_in named)) before after
unfolding EndsIn
goes_longer {before} {after} s called path named is tells same long has =
    refused_at _ s _ named tells same (
      call false path ∷ [],
      inr (
        longer,
        [],
        (record {
          short = tt;
          tells = each_told before.told (λ files h. answer_longer (bytes_at path files)
              (subst (λ p. IsLonger MOST_FILE_BYTES (bytes_at p files)) is h)) long;
        }),
        refl,
        (refl, refl),
      ),
      called_at before after false called path is has,
    )

-- ---- files

pub file_stopped : {A : Type 0} {before after : Folder} (seen : A → Gathered) (keep : Keep) (front path : List ℕ)
    (g : Gathered) (r : Result A BundleStop) (s : BundleStop) → IsErrAnd r (λ t. t ≡ s) →
    Goes (λ (o : Option (List ℕ)). o) (Err s) (content_walk front path) before after →
    Goes seen r (file_walk keep front path g) before after
file_stopped seen keep front path g r s is goes =
    goes_exit seen r s _ is (goes_stop (λ (o : Option (List ℕ)). o) seen (λ content. walk_of (gather keep path content g))
    (content_walk front path) s goes)

pub file_kept : {A : Type 0} {before after : Folder} (shown : A → Gathered) (keep : Keep) (front path : List ℕ)
    (g : Gathered) (r : Result A BundleStop) (o : Option (List ℕ)) (content : List ℕ) →
    Goes (λ (o : Option (List ℕ)). o) (Ok o) (content_walk front path) before after → o ≡ Some content →
    ReadsAs shown r (gather keep path (Some content) g) → Goes shown r (file_walk keep front path g) before after
file_kept {A} {before} {after} shown keep front path g r o content goes is kept =
    leads_end shown r _ _ (leads_next (λ content. walk_of (gather keep path content g)) (content_walk front path) o
    (leads_start before _) goes.ends goes.same)
    (goes_reading after shown r (gather keep path o g)
    (subst (λ c. ReadsAs shown r (gather keep path c g)) (sym is) kept))

pub file_passed : {A : Type 0} {before after : Folder} (shown : A → Gathered) (keep : Keep) (front path : List ℕ)
    (g : Gathered) (u : A) (o : Option (List ℕ)) →
    Goes (λ (o : Option (List ℕ)). o) (Ok o) (content_walk front path) before after → o ≡ None → shown u ≡ g →
    Goes shown (Ok u) (file_walk keep front path g) before after
file_passed {A} {before} {after} shown keep front path g u o goes is same =
    leads_end shown (Ok u) _ _ (leads_next (λ content. walk_of (gather keep path content g)) (content_walk front path) o
    (leads_start before _) goes.ends goes.same)
    (goes_reading after shown (Ok u) (gather keep path o g)
    (ap (λ c. gather keep path c g) is ∙ ap Ok (sym same)))

-- ---- one name after another

rest_of : {X : Type 0} (y : X) (ys : List X) → take (length (y ∷ ys) - 1) (drop 1 (y ∷ ys)) ≡ ys
rest_of y ys = grind (arith, common_steps)

pub first_of : {X : Type 0} (xs : List X) (x : X) → 1 ≤ length xs → x ≡ get_or xs 0 x → xs ≡ x ∷
    take (length xs - 1) (drop 1 xs)
first_of [] x h at = absurd (omega (arith, h))
first_of (y ∷ ys) x h at = ap (λ z. z ∷ ys) (sym at) ∙ ap (λ l. x ∷ l) (sym (rest_of y ys))

pub none_left : {X : Type 0} (xs : List X) → length xs < 1 → xs ≡ []
none_left [] h = refl
none_left (x ∷ xs) h = absurd (omega (arith, h))

pub step_next : {A B : Type 0} {before mid now : Folder} {whole : Walk B} (u : A) (step : B → Walk B)
    (steps : List (B → Walk B)) (g new : B) → Leads before mid (in_turn (step ∷ steps) g) whole →
    Goes (λ (done : A). new) (Ok u) (step g) mid now → Leads before now (in_turn steps new) whole
unfolding in_turn
step_next u step steps g new so_far goes = leads_next (in_turn steps) (step g) new so_far goes.ends goes.same

pub step_stop : {A B C : Type 0} {before mid after : Folder} {whole : Walk B} (shown : A → B) (seen : C → B)
    (step : B → Walk B) (steps : List (B → Walk B)) (g : B) (r : Result C BundleStop) (s : BundleStop) →
    Leads before mid (in_turn (step ∷ steps) g) whole → IsErrAnd r (λ t. t ≡ s) → Goes shown (Err s) (step g) mid after →
    Goes seen r whole before after
unfolding in_turn
step_stop shown seen step steps g r s so_far exits goes =
    leads_stop shown seen (in_turn steps) (step g) r s so_far exits goes

pub steps_end : {A B : Type 0} {before now : Folder} {whole : Walk B} (shown : A → B) (u : A) (g : B) →
    Leads before now (in_turn [] g) whole → shown u ≡ g → Goes shown (Ok u) whole before now
unfolding in_turn EndsIn
steps_end {A} {B} {before} {now} {whole} shown u g so_far same = record {
  same = so_far.same;
  ends = (
    so_far.made,
    subst (EndsIn before.told whole (found (shown u))) (append-nil so_far.made)
        (so_far.leads (found (shown u)) [] (ap found same, refl)),
    so_far.has,
  );
}

pub turn_next : {X A B : Type 0} {before mid now : Folder} {whole : Walk B} (u : A) (f : X → B → Walk B)
    (left after : List X) (x : X) (g new : B) (w : Walk B) → left ≡ x ∷ after → w ≡ f x g →
    Leads before mid (in_turn (map f left) g) whole → Goes (λ (done : A). new) (Ok u) w mid now →
    Leads before now (in_turn (map f after) new) whole
turn_next {X} {A} {B} {before} {mid} {now} {whole} u f left after x g new w parts is so_far goes =
    step_next u (f x) (map f after) g new (subst (λ xs. Leads before mid (in_turn (map f xs) g) whole) parts so_far)
    (subst (λ w. Goes (λ (done : A). new) (Ok u) w mid now) is goes)

pub turn_stop : {X A B C : Type 0} {before mid after : Folder} {whole : Walk B} (shown : A → B) (seen : C → B)
    (f : X → B → Walk B) (left rest : List X) (x : X) (g : B) (w : Walk B) (r : Result C BundleStop) (s : BundleStop) →
    left ≡ x ∷ rest → w ≡ f x g → Leads before mid (in_turn (map f left) g) whole → IsErrAnd r (λ t. t ≡ s) →
    Goes shown (Err s) w mid after → Goes seen r whole before after
turn_stop {X} {A} {B} {C} {before} {mid} {after} {whole} shown seen f left rest x g w r s parts is so_far exits goes =
    step_stop shown seen (f x) (map f rest) g r s
    (subst (λ xs. Leads before mid (in_turn (map f xs) g) whole) parts so_far) exits
    (subst (λ w. Goes shown (Err s) w mid after) is goes)

pub turns_end : {X A B : Type 0} {before now : Folder} {whole : Walk B} (shown : A → B) (u : A) (f : X → B → Walk B)
    (left : List X) (g : B) → left ≡ [] → Leads before now (in_turn (map f left) g) whole → shown u ≡ g →
    Goes shown (Ok u) whole before now
turns_end {X} {A} {B} {before} {now} {whole} shown u f left g none so_far same =
    steps_end shown u g (subst (λ xs. Leads before now (in_turn (map f xs) g) whole) none so_far) same

-- ---- folders and nodes

pub too_deep : {A : Type 0} {f : Folder} (shown : A → Gathered) (s : BundleStop) (levels : ℕ) (front path : List ℕ)
    (g : Gathered) → levels ≡ 0 → Tells s (too_large path) → Goes shown (Err s) (folder_walk levels front path g) f f
unfolding folder_walk
too_deep {A} {f} shown s levels front path g none tells =
    subst (λ n. Goes shown (Err s) (folder_walk n front path g) f f) (sym none)
    (goes_refused f shown s (too_large path) tells)

abbrev pub entries_walk : ℕ → List ℕ → List ℕ → List (List ℕ) → Gathered → Walk Gathered
entries_walk levels front path names g =
    in_turn (map (λ name. entry_walk (folder_walk levels front) front (path ++ name)) names) g

pub folder_step : (levels : ℕ) (front path : List ℕ) (g : Gathered) → (levels ≡ 0 → ⊥) → folder_walk levels front path g
    ≡ walk_then (λ names. entries_walk (levels - 1) front path names g) (names_walk front path)
unfolding folder_walk
folder_step zero front path g some = absurd (some refl)
folder_step (suc n) front path g some =
    let one_less : n ≡ suc n - 1 = omega arith in
    ap (λ k. walk_then (λ names. entries_walk k front path names g) (names_walk front path)) one_less

pub folder_stopped : {A : Type 0} {before after : Folder} (seen : A → Gathered) (levels : ℕ) (front path : List ℕ)
    (g : Gathered) (r : Result A BundleStop) (s : BundleStop) → (levels ≡ 0 → ⊥) → IsErrAnd r (λ t. t ≡ s) →
    Goes (λ (ns : List (List ℕ)). ns) (Err s) (names_walk front path) before after →
    Goes seen r (folder_walk levels front path g) before after
folder_stopped {A} {before} {after} seen levels front path g r s some is goes =
    subst (λ w. Goes seen r w before after) (sym (folder_step levels front path g some))
    (goes_exit seen r s _ is (goes_stop (λ (ns : List (List ℕ)). ns) seen
    (λ names. entries_walk (levels - 1) front path names g) (names_walk front path) s goes))

pub folder_read : {A : Type 0} {before mid after : Folder} (shown : A → Gathered) (levels : ℕ) (front path : List ℕ)
    (g : Gathered) (r : Result A BundleStop) (names given : List (List ℕ)) → (levels ≡ 0 → ⊥) →
    Goes (λ (ns : List (List ℕ)). ns) (Ok names) (names_walk front path) before mid → given ≡ names →
    Goes shown r (entries_walk (levels - 1) front path given g) mid after →
    Goes shown r (folder_walk levels front path g) before after
folder_read {A} {before} {mid} {after} shown levels front path g r names given some listed is goes =
    subst (λ w. Goes shown r w before after) (sym (folder_step levels front path g some))
    (leads_end shown r _ _ (leads_next (λ names. entries_walk (levels - 1) front path names g) (names_walk front path)
    names (leads_start before _) listed.ends listed.same)
    (subst (λ ns. Goes shown r (entries_walk (levels - 1) front path ns g) mid after) is goes))

pub entry_folder : {A : Type 0} {before after : Folder} (shown : A → Gathered) (r : Result A BundleStop) (b : Bool)
    (w v : Walk Gathered) → b ≡ true → Goes shown r w before after → Goes shown r (if b then w else v) before after
entry_folder shown r true w v is goes = goes
entry_folder shown r false w v is goes = absurd (cc is)

pub entry_file : {A : Type 0} {before after : Folder} (shown : A → Gathered) (r : Result A BundleStop) (b : Bool)
    (w v : Walk Gathered) → b ≡ false → Goes shown r v before after → Goes shown r (if b then w else v) before after
entry_file shown r true w v is goes = absurd (cc is)
entry_file shown r false w v is goes = goes

pub no_node : {A : Type 0} {f : Folder} (shown : A → Gathered) (u : A) (front name : List ℕ) (o : Option (List ℕ))
    (g : Gathered) → None ≡ o → shown u ≡ g → Goes shown (Ok u) (node_walk front name o g) f f
unfolding EndsIn
no_node {A} {f} shown u front name o g is same =
    subst (λ o. Goes shown (Ok u) (node_walk front name o g) f f) is
    (record { same = same_folder f; ends = ([], (ap found same, refl), none_made f) })

pub node_read : {A : Type 0} {before after : Folder} (shown : A → Gathered) (r : Result A BundleStop)
    (front name path node : List ℕ) (o : Option (List ℕ)) (g : Gathered) → Some node ≡ o → path ≡ codes "nodes/" ++ name →
    Goes shown r (file_walk (facts_file node) front path g) before after →
    Goes shown r (node_walk front name o g) before after
node_read {A} {before} {after} shown r front name path node o g is at goes =
    subst (λ o. Goes shown r (node_walk front name o g) before after) is
    (subst (λ p. Goes shown r (file_walk (facts_file node) front p g) before after) at goes)

pub nodes_stopped : {A : Type 0} {before after : Folder} (seen : A → Gathered) (front : List ℕ) (g : Gathered)
    (r : Result A BundleStop) (s : BundleStop) → IsErrAnd r (λ t. t ≡ s) →
    Goes (λ (ns : List (List ℕ)). ns) (Err s) (names_walk front (codes "nodes/")) before after →
    Goes seen r (nodes_walk front g) before after
nodes_stopped seen front g r s is goes =
    goes_exit seen r s _ is (goes_stop (λ (ns : List (List ℕ)). ns) seen (λ names. in_turn (map (facts_walk front) names) g)
    (names_walk front (codes "nodes/")) s goes)

pub nodes_read : {A : Type 0} {before mid after : Folder} (shown : A → Gathered) (front : List ℕ) (g : Gathered)
    (r : Result A BundleStop) (names given : List (List ℕ)) →
    Goes (λ (ns : List (List ℕ)). ns) (Ok names) (names_walk front (codes "nodes/")) before mid → given ≡ names →
    Goes shown r (in_turn (map (facts_walk front) given) g) mid after → Goes shown r (nodes_walk front g) before after
nodes_read {A} {before} {mid} {after} shown front g r names given listed is goes =
    leads_end shown r _ _ (leads_next (λ names. in_turn (map (facts_walk front) names) g)
    (names_walk front (codes "nodes/")) names (leads_start before _) listed.ends listed.same)
    (subst (λ ns. Goes shown r (in_turn (map (facts_walk front) ns) g) mid after) is goes)

-- ---- all of a folder

pub leads_steps : (f : Folder) (front : List ℕ) (g : Gathered) → g ≡ nothing_gathered →
    Leads f f (in_turn (steps front) g) (files_walk front)
unfolding files_walk
leads_steps f front g is =
    subst (λ g. Leads f f (in_turn (steps front) g) (in_turn (steps front) nothing_gathered)) (sym is) (leads_start f _)
