use Rattle.std.proofs.Common.{◌≡◌, arith}
use Rattle.disk_log.specs.Log.{disk_of, state_of}
use Rattle.disk_aggregate.specs.Opening.{IsLeftReformed}
use Rattle.disk_aggregate.proofs.Steps.{kept_before, leaves_still, of_before, reforms_still}
use Rattle.disk_aggregate.proofs.opening.read_back.Goals as goal

pub returns-then-most-state-clause-crash : goal.returns-then-most-state-clause-crash
returns-then-most-state-clause-crash g c = λ told server.
    (let looks = c.in_ok-state.ensures.looks in
    leaves_still g.D.Disk.tells g.D.Disk.view c.reform.new.log c.state_in.new.log looks.sound looks.state looks.quiet (IsLeftReformed g.D.Disk.view c.args.log.now) (g.D.Disk.view (disk_of c.args.log.now))
    (c.in_ok-reform.ensures.crash told server))

pub returns-clause-opens : goal.returns-clause-opens
returns-clause-opens g c =
    (let tells = g.D.Disk.tells in
    let view = g.D.Disk.view in
    let mid = c.reform.new.log in
    let new = c.state_in.new.log in
    let looks = c.in_ok-state.ensures.looks in
    let same : (state_of new).half.generation ≡ (state_of mid).half.generation = λ i. (looks.state i).half.generation in
    let own = c.in_ok-state.ensures.own in
    record {
      reforms = reforms_still tells view mid new looks.sound looks.state looks.quiet c.args.log.now c.in_ok-reform.ensures.reforms;
      state_is = λ told kept keeps of. c.in_ok-state.ensures.state told kept (kept_before tells view mid new looks.sound looks.state looks.quiet kept keeps)
          (of_before tells view mid new looks.sound looks.state looks.quiet c.args.server c.args.roster.now kept of);
      server_is = own.0;
      roster_is = own.1;
      generation = omega (arith, same, c.generation.ensures, c.if-most-generation.false);
      epoch = omega (arith, c.if-most-state.false);
      ship = omega (arith, c.if-most-state-2.false);
    })

pub returns-clause-crash : goal.returns-clause-crash
returns-clause-crash g c = λ told server.
    (let looks = c.in_ok-state.ensures.looks in
    leaves_still g.D.Disk.tells g.D.Disk.view c.reform.new.log c.state_in.new.log looks.sound looks.state looks.quiet (IsLeftReformed g.D.Disk.view c.args.log.now) (g.D.Disk.view (disk_of c.args.log.now))
    (c.in_ok-reform.ensures.crash told server))
