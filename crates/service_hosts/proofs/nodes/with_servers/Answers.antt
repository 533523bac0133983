use Rattle.std.proofs.Common.{◌+◌, ◌++◌, ◌∙◌, List, length, sym, ap, subst, arith}
use Rattle.std.proofs.lemmas.List.{append-nil}
use Rattle.service_hosts.specs.Nodes.{AreOver}
use Rattle.service_hosts.proofs.Laid.{stores_are}
use Rattle.service_hosts.proofs.Places.{long}
use Rattle.service_hosts.proofs.nodes.with_servers.Goals as goal

pub returns-in-Ok-clause-over : goal.returns-in-Ok-clause-over
returns-in-Ok-clause-over g c =
    let count = length c.args.script.now.roster.hosts + 1 in
    let o = c.add_servers.ensures.over in
    let all = c.in-Ok.ensures.all in
    subst (λ (l : List g.row.S.Denot). AreOver c.add_servers.new.nodes.items count l)
    (sym (append-nil o.0) ∙ ap (λ (l : List g.row.S.Denot). o.0 ++ l) (sym all) ∙ o.1.1) o.1.0

pub take_stores-requires : goal.take_stores-requires
take_stores-requires g c =
    let count = length c.args.script.now.roster.hosts + 1 in
    let o = c.add_servers.ensures.over in
    let are = ap (λ (l : List g.row.S.Denot). length l) (stores_are c.add_servers.new.nodes.items count o.0 o.1.0) in
    let whole = ap (λ (l : List g.row.S.Denot). length l) o.1.1 in
    let both = long o.0 c.add_servers.new.stores.items in
    let room = c.add_servers.ensures.room in
    let first = c.requires.stores_room in
    omega (arith, are, whole, both, room, first)

pub returns-in-Err-clause-back : goal.returns-in-Err-clause-back
returns-in-Err-clause-back g c =
    let count = length c.args.script.now.roster.hosts + 1 in
    let o = c.add_servers.ensures.over in
    c.take_stores.ensures
    ∙ ap (λ (l : List g.row.S.Denot). l ++ c.add_servers.new.stores.items)
    (stores_are c.add_servers.new.nodes.items count o.0 o.1.0) ∙ o.1.1
