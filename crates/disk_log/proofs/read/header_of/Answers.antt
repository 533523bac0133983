use Rattle.std.proofs.Common.{◌≡◌, ◌∙◌, ap}
use Rattle.std.specs.Prelude.{◌==◌}
use Rattle.base_types.specs.Image.{byte_at, bytes_from}
use Rattle.disk_layout.specs.Numbers.{number_at}
use Rattle.disk_layout.proofs.Words.{header_read}
use Rattle.disk_log.proofs.read.header_of.Goals as goal

pub returns-clause-header : goal.returns-clause-header
returns-clause-header g c = λ told.
    let image = (g.D.Disk.view c.args.disk.now).image in
    let read : c.read.new.out ≡ bytes_from image c.args.start 16 = c.in_ok-read.ensures.bytes told in
    header_read c.read_header.result image c.args.start (c.read_header.ensures.opened ∙ (λ j. byte_at (read j) 0 == 1)) (c.read_header.ensures.generation ∙ ap (number_at 8 8) read)
