use Rattle.std.proofs.Common.{refl}
use Rattle.site_words.specs.Asked.{asked_of}
use Rattle.site_words.specs.Reading.{asked_by, texts_of}
use Rattle.site_commands.proofs.Wording.{ended_on, ends_complained}
use Rattle.site_commands.proofs.site.run.Goals as goal

pub returns-in-Ok : goal.returns-in-Ok
returns-in-Ok g c = ended_on c.run_command.result (asked_by c.in-Ok.command) (asked_of (texts_of c.args.words.now)) _ _
    c.in-Ok.ensures.words c.run_command.ensures

pub returns-in-Err : goal.returns-in-Err
returns-in-Err g c = record {
  ending = c.complain.result;
  is = c.status.ensures;
  ends = ends_complained c.in-Err.stop c.complain.result (texts_of c.args.words.now) _ _ c.in-Err.ensures.words
      c.complain.ensures refl refl refl refl refl;
}
