-- Settings put into an object one after another stand in it in their order, where their names rise.
use Rattle.std.proofs.Common.{◌≡◌, ◌<◌, length, arith, true, List, [], ◌∷◌, ◌++◌, map, refl, ap, sym, subst, append-nil, ◌∙◌}
use Rattle.std.proofs.lemmas.List.{map-append}
use Rattle.std.specs.Cmp.{second_so}
use Rattle.serde_json.specs.Data.{Members, no_members, member, put}
use Rattle.pp_values.specs.Rising.{is_rising}
use Rattle.pp_values.specs.Settings.{Setting, setting_names}
use Rattle.pp_values.proofs.RisingLemmas.{above_first}
use Rattle.json_values.specs.ValueForm.{form, setting_members, put_all}

put_last : (done : List Setting) (s : Setting) (left : List Setting) → is_rising (setting_names (done ++ s ∷ left)) ≡ true → put s.0 (form s.1) (setting_members done) ≡ setting_members (done ++ s ∷ [])
put_last [] s left h = refl
put_last (e ∷ done) s left h =
    rw (above_first e.0 s.0 (setting_names done) (setting_names left) (subst (λ ns. is_rising (e.0 ∷ ns) ≡ true) (map-append (λ (x : Setting). x.0) done (s ∷ left)) h))
    (ap (member e.0 (form e.1)) (put_last done s left (second_so _ _ h)))

append_one : (done : List Setting) (s : Setting) (left : List Setting) → done ++ (s ∷ left) ≡ (done ++ (s ∷ [])) ++ left
append_one [] s left = refl
append_one (e ∷ done) s left = ap (λ x. e ∷ x) (append_one done s left)

put_all-rising : (left done : List Setting) → is_rising (setting_names (done ++ left)) ≡ true → put_all left (setting_members done) ≡ setting_members (done ++ left)
put_all-rising [] done h = ap setting_members (sym (append-nil done))
put_all-rising (s ∷ left) done h =
    ap (put_all left) (put_last done s left h)
    ∙ put_all-rising left (done ++ s ∷ []) (subst (λ x. is_rising (setting_names x) ≡ true) (append_one done s left) h)
    ∙ ap setting_members (sym (append_one done s left))

pub put_all-settings : (ss : List Setting) → is_rising (setting_names ss) ≡ true → put_all ss no_members ≡ setting_members ss
put_all-settings ss h = put_all-rising ss [] h

-- at the end of a loop over what says settings nothing is left to put
pub put_all-end : {X : Type 0} (said : X → Setting) (left : List X) (ms all : Members) →
    length left < 1 → put_all (map said left) ms ≡ all → ms ≡ all
put_all-end said [] ms all few h = h
put_all-end said (x ∷ left) ms all few h = absurd (omega arith)
