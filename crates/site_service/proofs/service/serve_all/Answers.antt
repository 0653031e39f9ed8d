use Rattle.std.proofs.Common.{refl, sym, subst, arith}
use Rattle.site_serve.specs.Ends.{dialect}
use Rattle.site_service.specs.Served.{HasServedAll}
use Rattle.site_service.proofs.Wholes.{site_is, of_all, few, out, may_close, served}
use Rattle.site_service.proofs.service.serve_all.Goals as goal

pub hand_back-pass-requires-clause-site : goal.hand_back-pass-requires-clause-site
hand_back-pass-requires-clause-site g c =
    site_is g.L.Language.meaning g.L.Language.listed
    (dialect g.L.Language.said_site g.L.Language.catalog_form g.L.Language.fault_form) c.args.shared g.N.Listener.net
    g.N.Conn.Outside.stream c.args.count _ c.run_door-door.result.0 c.run_door-door.result.1.items
    c.run_door-door.ensures.ran c.requires.opening refl refl

pub hand_back-pass-requires-clause-of : goal.hand_back-pass-requires-clause-of
hand_back-pass-requires-clause-of g c =
    of_all g.L.Language.meaning g.L.Language.listed
    (dialect g.L.Language.said_site g.L.Language.catalog_form g.L.Language.fault_form) c.args.shared g.N.Listener.net
    g.N.Conn.Outside.stream c.args.count _ c.run_door-door.result.0 c.run_door-door.result.1.items
    c.run_door-door.ensures.ran c.requires.opening refl refl

pub hand_back-pass-requires-clause-few : goal.hand_back-pass-requires-clause-few
hand_back-pass-requires-clause-few g c =
    let most = few g.L.Language.meaning g.L.Language.listed
    (dialect g.L.Language.said_site g.L.Language.catalog_form g.L.Language.fault_form) c.args.shared g.N.Listener.net
    g.N.Conn.Outside.stream c.args.count _ c.run_door-door.result.0 c.run_door-door.result.1.items
    c.run_door-door.ensures.ran c.requires.opening refl refl in
    omega (arith, most, c.requires.few, c.run_door-door.result.1.ok.0)

pub hand_back-pass-requires-clause-room : goal.hand_back-pass-requires-clause-room
hand_back-pass-requires-clause-room g c =
    let most = few g.L.Language.meaning g.L.Language.listed
    (dialect g.L.Language.said_site g.L.Language.catalog_form g.L.Language.fault_form) c.args.shared g.N.Listener.net
    g.N.Conn.Outside.stream c.args.count _ c.run_door-door.result.0 c.run_door-door.result.1.items
    c.run_door-door.ensures.ran c.requires.opening refl refl in
    omega (arith, most, c.requires.ends_room, c.run_door-door.result.1.ok.0)

pub hand_back-pass-requires-clause-out : goal.hand_back-pass-requires-clause-out
hand_back-pass-requires-clause-out g c =
    out g.L.Language.meaning g.L.Language.listed
    (dialect g.L.Language.said_site g.L.Language.catalog_form g.L.Language.fault_form) c.args.shared g.N.Listener.net
    g.N.Conn.Outside.stream c.args.count _ c.run_door-door.result.0 c.run_door-door.result.1.items
    c.run_door-door.ensures.ran c.requires.opening refl refl c.requires.new

pub close-requires-clause-site : goal.close-requires-clause-site
close-requires-clause-site g c =
    (may_close g.L.Language.meaning g.L.Language.listed
    (dialect g.L.Language.said_site g.L.Language.catalog_form g.L.Language.fault_form) c.args.shared g.N.Listener.net
    g.N.Conn.Outside.stream c.args.count _ c.run_door-door.result.0 c.run_door-door.result.1.items
    c.run_door-door.ensures.ran c.requires.opening refl refl c.hand_back-pass.result.0
    c.hand_back-pass.ensures.joined).0

pub close-requires-clause-all : goal.close-requires-clause-all
close-requires-clause-all g c =
    (may_close g.L.Language.meaning g.L.Language.listed
    (dialect g.L.Language.said_site g.L.Language.catalog_form g.L.Language.fault_form) c.args.shared g.N.Listener.net
    g.N.Conn.Outside.stream c.args.count _ c.run_door-door.result.0 c.run_door-door.result.1.items
    c.run_door-door.ensures.ran c.requires.opening refl refl c.hand_back-pass.result.0
    c.hand_back-pass.ensures.joined).1

pub returns : goal.returns
returns g c =
    subst (λ n. HasServedAll g.L.Language.meaning g.L.Language.listed
    (dialect g.L.Language.said_site g.L.Language.catalog_form g.L.Language.fault_form) c.args.pass.terms.limit
    c.args.pass.terms.base c.args.pass.front c.args.count (g.N.Listener.net c.args.net.now) (g.N.Listener.net n) c.hand_back-pass.result.1.items
    c.run_door-door.result.0.stop c.close.result.entries)
    (sym (c.net-1.given.1 (sym c.run_door-door.ensures.same_reference)))
    (served g.L.Language.meaning g.L.Language.listed
    (dialect g.L.Language.said_site g.L.Language.catalog_form g.L.Language.fault_form) c.args.shared g.N.Listener.net
    g.N.Conn.Outside.stream c.args.count _ c.run_door-door.result.0 c.run_door-door.result.1.items
    c.run_door-door.ensures.ran c.requires.opening refl refl (g.N.Listener.net c.hand_back-pass.new.net)
    c.close.result.entries c.hand_back-pass.result.0 c.hand_back-pass.result.1.items c.requires.new
    c.hand_back-pass.ensures.joined c.hand_back-pass.ensures.back c.hand_back-pass.ensures.later
    c.hand_back-pass.ensures.ends c.close.ensures.legal c.close.ensures.front c.close.ensures.few c.close.ensures.own)
