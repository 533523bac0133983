use Rattle.std.proofs.Common.{◌≡◌, ◌≤◌, ◌<◌, ◌∙◌, ◌+◌, ℕ, List, ap, sym, refl, arith}
use Rattle.std.specs.Prelude.{Some, slice_get}
use Rattle.base_types.specs.Image.{byte_at}
use Rattle.disk_image.specs.Aggregate.{header_page}
use Rattle.disk_image.specs.Joined.{joined}
use Rattle.disk_judge.specs.Metadata.{over}
use Rattle.disk_check.proofs.Refusing.{headers_part, joined_none, joined_still, joined_first, part_none, part_some}
use Rattle.disk_check.proofs.mountable.undeclared.Goals as goal

pub loop-slot-init : goal.loop-slot-init
loop-slot-init c = λ image. joined_none (headers_part c.args.servers (over c.args.metadata.now image))

pub loop-slot-preserved : goal.loop-slot-preserved
loop-slot-preserved c = λ image.
    (let e : byte_at c.header.result.now 73 ≡ byte_at (header_page (over c.args.metadata.now image) c.loop-slot.slot) 73 = ap (λ (l : List ℕ). byte_at l 73) c.header.ensures in
    let g = c.if-header-servers.false in
    let le : byte_at (header_page (over c.args.metadata.now image) c.loop-slot.slot) 73 ≤ c.args.servers = omega (arith, e, g) in
    joined_still (headers_part c.args.servers (over c.args.metadata.now image)) c.loop-slot.slot (c.loop-slot.slot + 1) refl (c.loop-slot.invariant image) (part_none c.args.servers (over c.args.metadata.now image) c.loop-slot.slot le))

pub returns-then-header-servers : goal.returns-then-header-servers
returns-then-header-servers c = λ image.
    (let e : byte_at c.header.result.now 73 ≡ byte_at (header_page (over c.args.metadata.now image) c.loop-slot.slot) 73 = ap (λ (l : List ℕ). byte_at l 73) c.header.ensures in
    let g = c.if-header-servers.true in
    let lt : c.args.servers < byte_at (header_page (over c.args.metadata.now image) c.loop-slot.slot) 73 = omega (arith, e, g) in
    ap Some c.page_place.ensures
    ∙ sym (joined_first (headers_part c.args.servers (over c.args.metadata.now image)) c.loop-slot.slot 16 _ c.loop-slot-test.true (c.loop-slot.invariant image) (part_some c.args.servers (over c.args.metadata.now image) c.loop-slot.slot lt)))

pub returns : goal.returns
returns c = λ image.
    (let e : c.loop-slot.slot ≡ 16 = (let past = c.loop-slot-test.false in let most = c.loop-slot.auto.slot-end in omega (arith, past, most)) in
    sym ((λ i. slice_get (joined (headers_part c.args.servers (over c.args.metadata.now image)) (sym e i)) 0) ∙ ap (λ (l : List ℕ). slice_get l 0) (c.loop-slot.invariant image)))
