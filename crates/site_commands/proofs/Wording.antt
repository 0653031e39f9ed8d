-- Words that name no command, by the status of a run on them.
use Rattle.std.proofs.Common.{◌≡◌, ◌⊎◌, ℕ, List, ◌++◌, sym, subst, refl, inl, inr}
use Rattle.std.specs.Prelude.{codes, string_bytes, Err}
use Rattle.command_outputs.specs.Lines.{line}
use Rattle.site_words.specs.Asked as a
use Rattle.site_words.specs.Asked.{Asked, asked_of}
use Rattle.site_words.specs.declared.word_stop.WordStop.{WordStop}
use Rattle.site_words.specs.declared.word_stop.WordStop.TheVariants as w
use Rattle.site_words.specs.Reading.{Reads}
use Rattle.site_commands.proofs.Decoding.{ending-is}
use Rattle.site_commands.specs.Endings.{Complained, Complains, Ends, HasEnded, IsComplaint, SaysAlone}
use Rattle.site_commands.specs.Inputs.{HasStoppedBy, nothing}
use Rattle.site_commands.specs.Status.{status_of}
use Rattle.site_commands.specs.World.{World, Says}
use Rattle.site_commands.specs.declared.ending.Ending.{Ending}
use Rattle.site_commands.specs.declared.ending.Ending.TheVariants as e
use Rattle.site_commands.specs.declared.input.InputStop.{InputStop}
use Rattle.site_commands.specs.declared.input.InputStop.TheVariants as i
use Rattle.site_io.specs.Folders.{Folder}
use Rattle.site_io.specs.Stream.{Stream}

-- ---- what faulty words come to

pub complains : (asked : Asked) (before after : World) → Complains asked before after → IsComplaint asked
complains a.refused before after did = tt
complains (a.bad_word word) before after did = tt
complains (a.manifest node) before after did = did
complains (a.check dir) before after did = did
complains (a.compile node dir) before after did = did
complains a.sequence before after did = did
complains (a.lookup node key merge dir) before after did = did
complains (a.apply node dir workers) before after did = did
complains (a.demo nodes) before after did = did
complains (a.batch workers) before after did = did
complains (a.serve port count dir) before after did = did
complains (a.serve_on port count) before after did = did
complains a.audit before after did = did
complains a.migrate before after did = did
complains (a.resume workers) before after did = did
complains (a.settle rounds workers) before after did = did

-- the status of faulty words comes for no others
pub ended-complaint : (status : ℕ) (asked : Asked) (before after : World) → HasEnded status asked before after →
    status ≡ 10 → IsComplaint asked
ended-complaint status asked before after ended is =
    complains asked before after
    (subst (λ x. Ends x asked before after) (ending-is status ended.ending 10 ended.is is) ended.ends)

-- nothing is read for faulty words
unread : (stop : InputStop) (s s' : Stream) (f f' : Folder) → HasStoppedBy stop nothing s s' f f' → ⊥
unread (i.Unread stop) s s' f f' did = did.0
unread (i.Refused why) s s' f f' did = did
unread (i.BadLine number) s s' f f' did = did
unread i.TooManyEntries s s' f f' did = did

refused_status : (ending : Ending) (before after : World) → Ends ending a.refused before after →
    (status_of ending ≡ 10) ⊎ (status_of ending ≡ 16)
refused_status e.BadWords before after did = inl refl
refused_status e.Memory before after did = inr refl
refused_status e.ReadFault before after did = absurd (unread did.stop _ _ _ _ did.read)
refused_status e.TreeFault before after did = absurd (unread did.stop _ _ _ _ did.read)
refused_status e.BadInput before after (inl did) = absurd (unread did.stop _ _ _ _ did.read)
refused_status e.BadInput before after (inr did) = absurd did.work.0.is
refused_status e.Done before after did = absurd did.work.0.is
refused_status e.Refused before after did = absurd did.work.0.is
refused_status e.Changed before after did = absurd did.work.0.is
refused_status e.Failed before after did = absurd did.work.0.is
refused_status e.ChangedAndFailed before after did = absurd did.work.0.is
refused_status e.WriteFault before after did = absurd did.work.0.is
refused_status e.NetFault before after did = absurd did.work.0.is
refused_status e.NotSettled before after did = absurd did.work.0.is

bad_word_status : (ending : Ending) (word : List ℕ) (before after : World) → Ends ending (a.bad_word word) before after →
    (status_of ending ≡ 10) ⊎ (status_of ending ≡ 16)
bad_word_status e.BadWords word before after did = inl refl
bad_word_status e.Memory word before after did = inr refl
bad_word_status e.ReadFault word before after did = absurd (unread did.stop _ _ _ _ did.read)
bad_word_status e.TreeFault word before after did = absurd (unread did.stop _ _ _ _ did.read)
bad_word_status e.BadInput word before after (inl did) = absurd (unread did.stop _ _ _ _ did.read)
bad_word_status e.BadInput word before after (inr did) = absurd did.work.0.is
bad_word_status e.Done word before after did = absurd did.work.0.is
bad_word_status e.Refused word before after did = absurd did.work.0.is
bad_word_status e.Changed word before after did = absurd did.work.0.is
bad_word_status e.Failed word before after did = absurd did.work.0.is
bad_word_status e.ChangedAndFailed word before after did = absurd did.work.0.is
bad_word_status e.WriteFault word before after did = absurd did.work.0.is
bad_word_status e.NetFault word before after did = absurd did.work.0.is
bad_word_status e.NotSettled word before after did = absurd did.work.0.is

complaint_status : (ending : Ending) (asked : Asked) (before after : World) → IsComplaint asked →
    Ends ending asked before after → (status_of ending ≡ 10) ⊎ (status_of ending ≡ 16)
complaint_status ending a.refused before after complaint did = refused_status ending before after did
complaint_status ending (a.bad_word word) before after complaint did = bad_word_status ending word before after did
complaint_status ending asked before after complaint did = absurd complaint

-- for faulty words no other status comes
pub ended-faulty : (status : ℕ) (asked : Asked) (before after : World) → HasEnded status asked before after →
    IsComplaint asked → (status ≡ 10) ⊎ (status ≡ 16)
ended-faulty status asked before after ended complaint =
    subst (λ n. (n ≡ 10) ⊎ (n ≡ 16)) (sym ended.is)
    (complaint_status ended.ending asked before after complaint ended.ends)

-- ---- what is said of them

said_alone : (text : List ℕ) (before after : World) → after.source ≡ before.source → after.out ≡ before.out →
    Says text before.err after.err → after.net ≡ before.net → after.folder ≡ before.folder →
    after.machine ≡ before.machine → SaysAlone text before after
said_alone text before after source out said net folder machine =
    record { source = source; out = out; said = said; net = net; folder = folder; machine = machine }

-- where words were not read, and that was said, the run ended so
pub ends_complained : (stop : WordStop) (ending : Ending) (words : List (List ℕ)) (before after : World) →
    Reads words (Err stop) → Complained ending stop before.err after.err → after.source ≡ before.source →
    after.out ≡ before.out → after.net ≡ before.net → after.folder ≡ before.folder → after.machine ≡ before.machine →
    Ends ending (asked_of words) before after
ends_complained (w.Refused text) ending words before after is did source out net folder machine =
    subst (λ asked. Ends ending asked before after) (sym is)
    (subst (λ x. Ends x a.refused before after) (sym did.0)
    (string_bytes text, said_alone (string_bytes text) before after source out did.1 net folder machine))
ends_complained (w.BadWord word) ending words before after is did source out net folder machine =
    subst (λ asked. Ends ending asked before after) (sym is)
    (subst (λ x. Ends x (a.bad_word word.now) before after) (sym did.0)
    (said_alone (line (codes "bad word " ++ word.now)) before after source out did.1 net folder machine))
ends_complained w.Memory ending words before after is did source out net folder machine =
    subst (λ x. Ends x (asked_of words) before after) (sym did.0)
    (inl (said_alone (line (codes "memory")) before after source out did.1 net folder machine))

-- words that ask for the same end the same
pub ended_on : (status : ℕ) (asked other : Asked) (before after : World) → other ≡ asked →
    HasEnded status asked before after → HasEnded status other before after
ended_on status asked other before after same ended =
    record { ending = ended.ending; is = ended.is; ends = subst (λ x. Ends ended.ending x before after) (sym same) ended.ends }
