use Rattle.std.proofs.Common.{◌∙◌, ◌≡◌, ℕ, ap, subst}
use Rattle.std.specs.Prelude.{◌==◌, if◌then◌else◌}
use Rattle.base_types.specs.Image.{Torn}
use Rattle.disk_layout.specs.Numbers.{number_at}
use Rattle.disk_log.specs.Log.{disk_of, state_of}
use Rattle.disk_log.specs.Puts.{page_of}
use Rattle.disk_space.proofs.Words.{count_put}
use Rattle.disk_space.proofs.space.set_count.Goals as goal

pub returns-clause-count : goal.returns-clause-count
returns-clause-count g c = λ told.
    let state = state_of c.args.log.now in
    let image = (g.D.Disk.view (disk_of c.args.log.now)).image in
    let place = c.place_of.ensures in
    count_put c.args.block c.args.count state (state_of c.put.new.self) image c.page.new.out c.put_u16.new.bytes
    (c.in_ok-page.ensures.bytes told ∙ ap (page_of state.entries state.puts image) c.page_of.ensures)
    (subst (λ (at : ℕ). number_at 2 at c.put_u16.new.bytes ≡ c.args.count) place c.put_u16.ensures.number)
    (subst (λ (at : ℕ). Torn at 2 c.page.new.out c.put_u16.new.bytes) place c.put_u16.ensures.rest)
    (λ p. c.in_ok-put.ensures.pages image p ∙ (λ j. if c.page_of-2.ensures j == p then c.put_u16.new.bytes else page_of (c.page.ensures.reads.state j).entries (c.page.ensures.reads.state j).puts image p))
