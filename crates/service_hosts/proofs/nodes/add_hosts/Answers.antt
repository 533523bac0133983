use Rattle.std.proofs.Common.{◌≡◌, ℕ, ◌+◌, ◌≤◌, ◌∙◌, [], length, refl, subst, arith}
use Rattle.service_hosts.specs.Nodes.{AreOver}
use Rattle.service_hosts.proofs.Adding.{host_made, none_made}
use Rattle.service_hosts.proofs.Laid.{over_long}
use Rattle.service_hosts.proofs.Starting.{has_limits, has_user}
use Rattle.service_hosts.proofs.nodes.add_hosts.Goals as goal

pub overflow_cast-count : goal.overflow_cast-count
overflow_cast-count g c =
    let few = (has_limits c.args.script.now.roster c.requires.sound.roster).hosts in omega (arith, few)

pub new-requires : goal.new-requires
new-requires g c =
    let within : c.loop-before.before ≤ length c.args.script.now.roster.hosts = omega arith in
    record {
      user = has_user c.args.script.now.roster (record { 0 = c.loop-before.before }) c.requires.sound.roster within;
    }

pub push_reserved-requires : goal.push_reserved-requires
push_reserved-requires g c =
    let within : c.loop-before.before ≤ length c.args.script.now.roster.hosts = omega arith in
    let long = over_long c.loop-before.nodes.items c.loop-before.before [] c.loop-before.invariant.made.over in
    let room = c.requires.room in
    let same = c.loop-before.invariant.room in
    omega (arith, within, long, room, same)

pub loop-before-init : goal.loop-before-init
loop-before-init g c = record {
  made = none_made g.S.Store.tells g.S.Store.view c.args.script.now c.args.nodes.now.items c.requires.none;
  room = refl;
}

pub loop-before-preserved : goal.loop-before-preserved
loop-before-preserved g c =
    let within : c.loop-before.before ≤ length c.args.script.now.roster.hosts = omega arith in
    record {
      made = host_made g.S.Store.tells g.S.Store.view c.args.script.now c.loop-before.nodes.items
          c.push_reserved.new.self.items c.loop-before.before c.in_ok-node.node c.loop-before.invariant.made
          c.push_reserved.ensures.items within c.in_ok-node.ensures;
      room = c.push_reserved.ensures.capacity ∙ c.loop-before.invariant.room;
    }

pub returns-clause-over : goal.returns-clause-over
returns-clause-over g c =
    let all : c.loop-before.before ≡ length c.args.script.now.roster.hosts + 1 = omega arith in
    subst (λ (n : ℕ). AreOver c.loop-before.nodes.items n []) all c.loop-before.invariant.made.over

pub returns-clause-first : goal.returns-clause-first
returns-clause-first g c = c.loop-before.invariant.made.first
