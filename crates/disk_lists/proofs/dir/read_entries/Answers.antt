use Rattle.std.proofs.Common.{◌≡◌, ◌∙◌, ◌*◌, length, arith, zero-add}
use Rattle.std.proofs.lemmas.List.{ext_get_or}
use Rattle.disk_anode.specs.Anode.{anode_in}
use Rattle.disk_lists.specs.Entries.{bytes_of}
use Rattle.disk_lists.proofs.Laid.{length-bytes_of, take_front}
use Rattle.disk_lists.proofs.dir.read_entries.Goals as goal

pub returns-clause-entries : goal.returns-clause-entries
returns-clause-entries g c = λ told entries is.
    let count : c.min-count.result ≡ length entries = (let a = c.min-count.ensures in let b = c.in_ok-length_of.ensures.length told in let d = is.length_is in let few = is.few in omega (arith, a, b, d, few)) in
    let out = c.read_at.new.out in
    let size : length out ≡ 72 * c.min-count.result = omega arith in
    let whole = length-bytes_of entries is.each in
    let same = c.length_of.ensures.state in
    let quiet = c.length_of.ensures.quiet.image in
    let laid : out ≡ bytes_of entries = ext_get_or 0 out (bytes_of entries) (omega (arith, size, count, whole)) (λ i lt.
    c.in_ok-read_at.ensures.bytes told i lt ∙ (λ j. (anode_in (same j) (quiet j) c.args.page).content (zero-add i j)) ∙ is.content i) in
    record {
      laid = take_front (72 * c.min-count.result) out _ size ∙ laid;
      each = is.each;
      rise = is.rise;
    }
