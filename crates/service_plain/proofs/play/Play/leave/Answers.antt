use Rattle.std.proofs.Common.{◌<◌, length, set, refl, sym, ap, subst, arith}
use Rattle.std.proofs.lemmas.Option.{slice_get_read}
use Rattle.service_plain.specs.Underway.{EndsUnless}
use Rattle.service_plain.proofs.play.Play.leave.Goals as goal

pub returns-clause-does : goal.returns-clause-does
returns-clause-does c =
    let w : c.args.host.0 < length c.args.self.now.desks = let d = c.requires.fit.desks in omega arith in
    let desk = c.get_mut-desk.result.now in
    record {
      desk = desk;
      was = slice_get_read c.args.self.now.desks _ c.args.host.0 desk refl w c.get_mut-desk.ensures.value;
      desks = ap (λ left. set c.args.self.now.desks c.args.host.0 (record desk { left = left })) c.saturating_sub-desk.ensures;
      more = λ h. absurd (omega arith);
      last = λ h. subst (λ stopped. EndsUnless stopped c.args.host desk.calls desk.uses c.args.self.now.past c.end_uses.new.self) (sym c.if-desk.false) c.in_ok-end_uses.ensures;
    }
