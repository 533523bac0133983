use Rattle.std.proofs.Common.{sym, ap, ◌∙◌, ◌∷◌}
use Rattle.service_disks.proofs.Lists.{take_front}
use Rattle.service_disks.proofs.disks.open_first.Goals as goal

pub returns-in-Ok-clause-opened : goal.returns-in-Ok-clause-opened
returns-in-Ok-clause-opened g c =
    (let taken = c.remove-disk in
    let made = c.in-Ok.ensures in
    record {
      disk = taken.result;
      was = take_front c.args.disks.now.items taken.result c.requires.some taken.ensures.value ∙ ap (λ l. taken.result ∷ l) (sym taken.ensures.items);
      opened = record {
        server_is = made.own.0;
        roster_is = made.own.1;
        opened = made.opened;
        kept = made.kept;
        has_record = made.record;
        crash = made.crash;
        counted = made.counted;
      };
    })

pub returns-in-Err-clause-refused : goal.returns-in-Err-clause-refused
returns-in-Err-clause-refused g c =
    (let taken = c.remove-disk in
    let made = c.in-Err.ensures in
    record {
      before = taken.result;
      after = c.in-Err.disk;
      behind = taken.new.self.items;
      was = take_front c.args.disks.now.items taken.result c.requires.some taken.ensures.value ∙ ap (λ l. taken.result ∷ l) (sym taken.ensures.items);
      is = c.put_first.ensures.items;
      refused = record { back = record { counted = made.counted_err; same_record = made.record_err; crash = made.crash_err }; cause = made.only };
    })
