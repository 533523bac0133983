use Rattle.std.proofs.Common.{◌<◌, length, refl, arith}
use Rattle.std.proofs.lemmas.Option.{slice_get_read}
use Rattle.service_plain.proofs.play.Play.stop.Goals as goal

pub returns-clause-does : goal.returns-clause-does
returns-clause-does c =
    let w : c.args.host.0 < length c.args.self.now.desks = let d = c.requires.fit.desks in omega arith in
    record { desk = c.get_mut.result.now; was = slice_get_read c.args.self.now.desks _ c.args.host.0 c.get_mut.result.now refl w c.get_mut.ensures.value; down = c.in_ok-go_down.ensures; desks = refl }
