use Rattle.std.proofs.Common.{◌≡◌, ◌+◌, ◌∙◌, length}
use Rattle.disk_log.specs.Log.{disk_of, state_of}
use Rattle.disk_anode.specs.Anode.{anode_in}
use Rattle.disk_fileset.proofs.Changing.{low_in}
use Rattle.disk_fileset.proofs.Pieces.{taken}
use Rattle.disk_fileset.proofs.Read.{bytes_held}
use Rattle.disk_fileset.proofs.reading.bytes_of.Goals as goal

pub length_of-requires-clause-page : goal.length_of-requires-clause-page
length_of-requires-clause-page g c = low_in c.args.slot c.args.anode c.anode_page-page.result c.requires.slot c.requires.first c.requires.last c.anode_page-page.ensures

pub read_at-requires-clause-page : goal.read_at-requires-clause-page
read_at-requires-clause-page g c = low_in c.args.slot c.args.anode c.anode_page-page.result c.requires.slot c.requires.first c.requires.last c.anode_page-page.ensures

pub returns-clause-bytes : goal.returns-clause-bytes
returns-clause-bytes g c = λ told slots keeps object there file.
    (let same = c.length_of.ensures.state in
    let quiet = c.length_of.ensures.quiet.image in
    let out = c.read_at.new.out in
    let full : length out ≡ c.min-to.result = c.read_at.auto.out ∙ c.deref_mut.ensures.len ∙ c.in_ok-bytes.ensures.size in
    c.from_vec.ensures ∙ taken c.in_ok-bytes.bytes.len out _ (c.read_at.auto.out ∙ c.deref_mut.ensures.len)
    ∙ bytes_held slots c.args.slot c.args.anode c.requires.slot c.requires.first c.requires.last c.anode_page-page.result c.anode_page-page.ensures (state_of c.args.log.now) (g.D.Disk.view (disk_of c.args.log.now)).image keeps object there file
    _ (c.in_ok-length_of.ensures.length told) c.min-to.result c.min-to.ensures out full
    (λ k lt. c.in_ok-read_at.ensures.bytes told k lt ∙ (λ i. (anode_in (same i) (quiet i) c.anode_page-page.result).content (0 + k))))
