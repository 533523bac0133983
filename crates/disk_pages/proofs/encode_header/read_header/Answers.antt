use Rattle.std.proofs.Common.{◌∙◌}
use Rattle.base_types.specs.Image.{byte_at}
use Rattle.disk_pages.specs.Header.{header_of}
use Rattle.disk_pages.proofs.encode_header.read_header.Goals as goal

pub returns : goal.returns
unfolding header_of
returns c =
    let name = c.in-Ok.ensures.ok ∙ c.name_at.ensures in
    λ i. record {
      state = c.state_of.ensures i;
      id = record { 0 = c.u32_at.ensures i };
      objects = c.u32_at-2.ensures i;
      name = name i;
      other = byte_at c.args.page.now 73;
      moves = c.u32_at-3.ensures i;
      ship = c.u64_at.ensures i;
      parts = c.u32_at-4.ensures i;
    }
