use Rattle.std.proofs.Common.{◌∙◌, ℕ, ap}
use Rattle.disk_layout.specs.Numbers.{number_at}
use Rattle.disk_log.specs.Log.{disk_of, state_of}
use Rattle.disk_log.specs.Puts.{page_of}
use Rattle.disk_space.proofs.Words.{count_read}
use Rattle.disk_space.proofs.space.count_of.Goals as goal

pub returns-clause-count : goal.returns-clause-count
returns-clause-count g c = λ told.
    let state = state_of c.args.log.now in
    let image = (g.D.Disk.view (disk_of c.args.log.now)).image in
    c.u16_at.ensures ∙ ap (λ (place : ℕ). number_at 2 place c.page.new.out) c.place_of.ensures
    ∙ count_read state image c.args.block c.page.new.out (c.in_ok-page.ensures.bytes told ∙ ap (page_of state.entries state.puts image) c.page_of.ensures)
