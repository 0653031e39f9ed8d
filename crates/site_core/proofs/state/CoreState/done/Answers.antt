use Rattle.std.proofs.Common.{◌≡◌, length, refl, sym, ◌∙◌, ap, subst}
use Rattle.std.specs.Arc.{arc_value}
use Rattle.std.specs.FinMap as fin
use Rattle.std.proofs.lemmas.Bool.{eq-eqb}
use Rattle.pp_values.specs.Views.{view}
use Rattle.site_core.specs.Meaning.{HasExports}
use Rattle.site_core.specs.Events.{publishes, calls_of}
use Rattle.site_core.specs.Sets.{sets_at}
use Rattle.site_core.specs.Core.{Core, with_event}
use Rattle.site_core.proofs.Legal.{exported_of}
use Rattle.site_core.proofs.state.CoreState.done.Goals as goal

pub add-requires : goal.add-requires
add-requires g c =
    let set : arc_value c.in_ok-set.set ≡ c.args.set = c.in_ok-set.ensures.ok in
    let shared : arc_value c.in_ok-clone.field-0 ≡ arc_value c.in_ok-set.set = c.in_ok-clone.ensures.cases in
    record {
      later = c.requires.facts;
      follows = record {
        numbered = c.count-call.ensures ∙ c.self.invariant.1 c.args.author
            ∙ ap (λ (core : Core g.row.L-Site.Denot). calls_of c.args.author core.history) c.self.view_is;
        some = c.requires.of.some;
        earlier = c.requires.of.within;
        exported = exported_of g.L.Language.meaning c.args.self.now.history c.args.snapshot.k
            (arc_value c.args.snapshot.site) c.args.snapshot.version c.args.node
            (view c.args.facts) (arc_value c.in_ok-set.set) c.requires.of.version_is c.requires.of.site_is
            (subst (HasExports (g.L.Language.meaning (arc_value c.args.snapshot.site) c.args.node (view c.args.facts)
            c.args.snapshot.version)) (sym set) c.requires.meant);
      };
      by = eq-eqb c.args.author c.args.author refl;
      room = c.in_ok-number.ensures.0;
      change = record {
        exports = c.in_ok-version.ensures ∙ ap (λ v. fin.insert v c.args.node (arc_value c.in_ok-clone.field-0))
            c.self.invariant.0.version_is
            ∙ ap (λ (core : Core g.row.L-Site.Denot). fin.insert (sets_at core.history (length core.history))
            c.args.node (arc_value c.in_ok-clone.field-0)) c.self.view_is
            ∙ ap (fin.insert (sets_at c.args.self.now.history (length c.args.self.now.history)) c.args.node) shared;
        site = λ now. refl;
      };
    }

pub returns : goal.returns
returns g c =
    let set : arc_value c.in_ok-set.set ≡ c.args.set = c.in_ok-set.ensures.ok in
    let call : c.count-call.result ≡ calls_of c.args.author c.args.self.now.history =
    c.count-call.ensures ∙ c.self.invariant.1 c.args.author
    ∙ ap (λ (core : Core g.row.L-Site.Denot). calls_of c.args.author core.history) c.self.view_is in
    record {
      stop = c.in_ok-number.ensures;
      ok = c.in_ok-add.ensures.ok
          ∙ ap (λ n. with_event c.args.self.now (publishes
          (record {
            author = c.args.author;
            call = n;
            node = c.args.node;
            facts = view c.args.facts;
            k = c.args.snapshot.k;
            set = arc_value c.in_ok-set.set;
          }))) call
          ∙ ap (λ s. with_event c.args.self.now (publishes
          (record {
            author = c.args.author;
            call = calls_of c.args.author c.args.self.now.history;
            node = c.args.node;
            facts = view c.args.facts;
            k = c.args.snapshot.k;
            set = s;
          }))) set;
      err = tt;
    }
