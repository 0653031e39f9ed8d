-- What a reply says, with one case for all replies that name a plain entry.
use Rattle.std.specs.Prelude.{ℕ}
use Rattle.site_core.specs.declared.plain.Plain.{Plain}
use Rattle.site_core.specs.declared.plain.Plain.TheVariants as ask
use Rattle.site_core.specs.declared.plain.PlainKind.{PlainKind}
use Rattle.site_core.specs.declared.plain.PlainKind.TheVariants as kind
use Rattle.site_core.specs.declared.reply.ReplyOf.{ReplyOf}
use Rattle.site_core.specs.declared.reply.ReplyOf.TheVariants as a

abbrev pub kind_of : {S : Type 0} → Plain S → PlainKind
kind_of (ask.Deactivate node) = kind.Deactivation
kind_of (ask.Deploy site) = kind.Deployment
kind_of (ask.Report node report) = kind.Filing

pub data Said (C F : Type 0) : Type 0 where
  served : (entry k : ℕ) → C → Said C F
  refused : (k : ℕ) → F → Said C F
  full : (length : ℕ) → Said C F
  ahead : (length : ℕ) → Said C F
  unknown : (k : ℕ) → Said C F
  -- the plain entry of this kind that was asked for is this one
  added : PlainKind → (entry : ℕ) → Said C F
  short : Said C F

module _ {C F : Type 0} where
  abbrev pub said : ReplyOf C F → Said C F
  said (a.Served entry k catalog) = served entry k catalog
  said (a.Refused k fault) = refused k fault
  said (a.HistoryFull length) = full length
  said (a.SeenAhead length) = ahead length
  said (a.UnknownNode k) = unknown k
  said (a.Deactivated entry) = added kind.Deactivation entry
  said (a.Deployed entry) = added kind.Deployment entry
  said (a.Reported entry) = added kind.Filing entry
  said a.Memory = short

  -- the reply that names a plain entry of this kind
  abbrev pub plain_reply : PlainKind → ℕ → ReplyOf C F
  plain_reply kind.Deactivation entry = a.Deactivated entry
  plain_reply kind.Deployment entry = a.Deployed entry
  plain_reply kind.Filing entry = a.Reported entry
