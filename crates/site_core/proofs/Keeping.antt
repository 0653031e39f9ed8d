-- What is kept stays right when one more entry comes.
use Rattle.std.proofs.Common.{◌≡◌, ◌<◌, [], ◌∷◌, length, Some, sym, ◌∙◌, ap, subst, arith}
use Rattle.std.proofs.lemmas.List.{length-append}
use Rattle.export_store.specs.Sets.{Sets}
use Rattle.site_core.specs.Meaning.{Meaning}
use Rattle.site_core.specs.Events.{Event}
use Rattle.site_core.specs.Sets.{sets_at, sets_after, site_after}
use Rattle.site_core.specs.Legal.{MayFollow}
use Rattle.site_core.specs.Core.{Core, with_event, IsSound, IsKept}
use Rattle.site_core.specs.Changes.{changed_sets, changed_site, IsChangeOf}
use Rattle.site_core.specs.declared.change.Change.{Change}
use Rattle.site_core.proofs.Sets.{sets_at-push, site_at-push}
use Rattle.site_core.proofs.Legal.{Legal-push}

module _ {S C F : Type 0} (meaning : Meaning S C F) where
  pub sound_push : (core : Core S) (e : Event S) → IsSound meaning core → MayFollow meaning core.history e →
      length core.history < core.limit → IsSound meaning (with_event core e)
  sound_push core e sound follows room =
      record {
        legal = Legal-push meaning core.history e sound.legal follows;
        within = rw (length-append core.history (e ∷ [])) (omega arith);
        bounded = sound.bounded;
      }

  pub kept_push : (core : Core S) (version next : Sets) (site now : S) (e : Event S) →
      IsKept meaning core version site → MayFollow meaning core.history e → length core.history < core.limit →
      next ≡ sets_after (sets_at core.history (length core.history)) e → now ≡ site_after site e →
      IsKept meaning (with_event core e) next now
  kept_push core version next site now e kept follows room next_is now_is =
      record {
        sound = sound_push core e kept.sound follows room;
        version_is = next_is ∙ sym (sets_at-push core.history e);
        site_is = site_at-push core.history e site kept.site_is ∙ ap Some (sym now_is);
      }

  kept_by : (core : Core S) (version : Sets) (site : S) (change : Change S) (e : Event S) →
      IsKept meaning core version site → MayFollow meaning core.history e → length core.history < core.limit →
      IsChangeOf change (sets_at core.history (length core.history)) e →
      IsKept meaning (with_event core e) (changed_sets change version) (changed_site change site)
  kept_by core version site change e kept follows room is =
      kept_push core version (changed_sets change version) site (changed_site change site) e kept follows room
      (ap (changed_sets change) kept.version_is ∙ is.exports) (is.site site)

  -- the same, where what is known speaks of the value as it was seen before
  pub kept_change : (inside seen : Core S) → inside ≡ seen → (version : Sets) (site : S) (change : Change S)
      (e : Event S) → IsKept meaning inside version site →
      MayFollow meaning seen.history e → length seen.history < seen.limit →
      IsChangeOf change (sets_at seen.history (length seen.history)) e →
      (next : Sets) (now : S) → changed_sets change version ≡ next → changed_site change site ≡ now →
      IsKept meaning (with_event inside e) next now
  kept_change inside seen same version site change e kept follows room is next now next_is now_is =
      let P : Core S → Type 0 = λ core. MayFollow meaning core.history e → length core.history < core.limit →
      IsChangeOf change (sets_at core.history (length core.history)) e →
      IsKept meaning (with_event inside e) (changed_sets change version) (changed_site change site) in
      let kept_ = subst P same (kept_by inside version site change e kept) follows room is in
      subst (λ (x : Sets × S). IsKept meaning (with_event inside e) x.0 x.1) (λ i. (next_is i, now_is i)) kept_
