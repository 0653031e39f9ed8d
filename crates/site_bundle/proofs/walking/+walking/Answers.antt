use Rattle.std.proofs.Common.{refl, ap, ◌++◌, ◌∙◌}
use Rattle.site_bundle.specs.FolderSites.{entry_walk, folder_walk}
use Rattle.site_bundle.proofs.WalkSteps.{first_of, none_left, turn_next, turn_stop, turns_end, too_deep, folder_stopped, folder_read}
use Rattle.site_bundle.proofs.walking.+walking.Goals as goal

pub read_entries-returns-in_err-read_entry : goal.read_entries-returns-in_err-read_entry
read_entries-returns-in_err-read_entry g t c =
    turn_stop _ _ (λ name. entry_walk (folder_walk c.args.levels c.args.front.now) c.args.front.now (c.args.path.now ++ name))
    _ _ _ _ _ _ _ (first_of _ _ c.in-len1-up.len_at_least c.name-item.is)
    (ap (λ p. entry_walk (folder_walk c.args.levels c.args.front.now) c.args.front.now p c.loop-left.gathered)
    (c.as_str-in-len1-up.ensures.text ∙ c.in_ok-entry.ensures ∙ ap (λ n. c.args.path.now ++ n) c.as_str.ensures.text))
    c.loop-left.invariant c.from_residual-in_err-read_entry.ensures.1 c.in_err-read_entry.ensures

pub read_entries-loop-left-preserved : goal.read_entries-loop-left-preserved
read_entries-loop-left-preserved g t c =
    turn_next _ (λ name. entry_walk (folder_walk c.args.levels c.args.front.now) c.args.front.now (c.args.path.now ++ name))
    _ _ _ _ _ _ (first_of _ _ c.in-len1-up.len_at_least c.name-item.is)
    (ap (λ p. entry_walk (folder_walk c.args.levels c.args.front.now) c.args.front.now p c.loop-left.gathered)
    (c.as_str-in-len1-up.ensures.text ∙ c.in_ok-entry.ensures ∙ ap (λ n. c.args.path.now ++ n) c.as_str.ensures.text))
    c.loop-left.invariant c.in_ok-read_entry.ensures

pub read_entries-returns : goal.read_entries-returns
read_entries-returns g t c =
    turns_end _ _ (λ name. entry_walk (folder_walk c.args.levels c.args.front.now) c.args.front.now (c.args.path.now ++ name))
    _ _ (none_left _ c.in_default.len_below) c.loop-left.invariant refl

pub read_folder-returns-then-levels-eq0 : goal.read_folder-returns-then-levels-eq0
read_folder-returns-then-levels-eq0 g t c =
    too_deep _ _ c.args.levels c.args.front.now c.args.path.now _ c.if-levels-eq0.true c.too_large.ensures

pub read_folder-returns-in_err-names : goal.read_folder-returns-in_err-names
read_folder-returns-in_err-names g t c =
    folder_stopped _ c.args.levels c.args.front.now c.args.path.now _ _ _ c.if-levels-eq0.false
    c.from_residual.ensures.1 c.in_err-names.ensures

pub read_folder-returns : goal.read_folder-returns
read_folder-returns g t c =
    folder_read _ c.args.levels c.args.front.now c.args.path.now _ _ _ _ c.if-levels-eq0.false c.in_ok-names.ensures
    c.as_slice.ensures c.read_entries.ensures
