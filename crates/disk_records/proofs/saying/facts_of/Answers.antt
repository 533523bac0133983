use Rattle.std.proofs.Common.{◌∙◌, ap, map}
use Rattle.disk_records.specs.Said.{host_said}
use Rattle.disk_records.proofs.Hosts.{four_taken}
use Rattle.disk_records.proofs.saying.facts_of.Goals as goal

pub returns : goal.returns
returns c =
    let hosts = c.host_numbers.ensures ∙ ap (map host_said) c.as_slice.ensures in
    let taken = four_taken c.args.state.now.taken (c.get.result.now) (c.get-2.result.now) (c.get-3.result.now) (c.get-4.result.now) c.taken_of.result c.taken_of-2.result c.taken_of-3.result c.taken_of-4.result
    c.requires.taken c.get.ensures c.get-2.ensures c.get-3.ensures c.get-4.ensures c.taken_of.ensures c.taken_of-2.ensures c.taken_of-3.ensures c.taken_of-4.ensures in
    λ i. record {
      epoch = c.args.state.now.epoch;
      next = c.args.state.now.next;
      hosts = hosts i;
      format = 2;
      ship = c.args.state.now.ship;
      taken = taken i;
    }
