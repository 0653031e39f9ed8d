use Rattle.std.proofs.Common.{◌≡◌, subst}
use Rattle.std.specs.Prelude.{IfSome}
use Rattle.pp_parser.specs.Manifest.{file_of}
use Rattle.site_bundle.proofs.manifest.known_or_read.Goals as goal

pub returns-in-Some : goal.returns-in-Some
returns-in-Some c =
    subst (λ known. IfSome known (λ read. read ≡ file_of c.args.path.now c.args.text.now)) c.in-Some.is c.requires.known
