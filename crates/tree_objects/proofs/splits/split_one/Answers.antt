use Rattle.std.proofs.Common.{◌≡◌, ◌≤◌, ◌<◌, ◌+◌, ◌&&◌, ℕ, nat_lt, not, length, sym, ap, ◌∙◌, arith}
use Rattle.base_types.specs.Spans.{in_spans}
use Rattle.tree_objects.specs.Stores.{is_stored}
use Rattle.tree_objects.proofs.Pieces.{within_of}
use Rattle.tree_objects.proofs.Stored.{none_added, part_added, all_added, own_limit}
use Rattle.tree_objects.proofs.splits.split_one.Goals as goal

pub loop-done-init : goal.loop-done-init
loop-done-init c = record {
  stored = none_added (is_stored c.args.host c.args.spans.now c.args.end) c.args.stretch.now _;
  left = none_added (λ byte. not (is_stored c.args.host c.args.spans.now c.args.end byte)) c.args.stretch.now _;
  each = λ h. h;
  within = omega arith;
  near = c.requires.near;
}

pub part_at-part-requires : goal.part_at-part-requires
part_at-part-requires c = record {
  within = let within = within_of c.args.stretch.now c.requires.stretch in omega
      (arith, within, c.loop-done-test.true, c.len-count.ensures);
  near = c.loop-done.invariant.near;
}

pub loop-done-preserved : goal.loop-done-preserved
loop-done-preserved c =
    let stretch = c.args.stretch.now in let bytes = stretch.bytes in let from = stretch.from in
    let done = c.loop-done.done in let next = c.min-next.result in let part = c.part_at-part.result in
    let inv = c.loop-done.invariant in let lt = c.loop-done-test.true in let long = c.len-count.ensures in
    let n = c.min-next.ensures in let more = c.part_at-part.ensures.more in let host = c.args.host in let spans =
    c.args.spans.now in let end = c.args.end in
    let alike : (place value : ℕ) → from + done ≤ place → place < part.to → is_stored host spans end
    (record { at = place; value = value; writer = stretch.writer }) ≡ part.stored
    = λ place value l h. sym (own_limit host stretch.writer spans end place value) ∙ ap
    (λ k. nat_lt place k && in_spans spans place) (sym c.limit_of-limit.ensures) ∙ c.part_at-part.ensures.alike place
    l h in
    let o : done ≤ next = omega (arith, n, more, lt, long) in
    let u : next ≤ length bytes = omega (arith, n, long) in
    let v : from + next ≤ part.to = omega (arith, n, more) in
    record {
      stored = part_added (is_stored c.args.host c.args.spans.now c.args.end) stretch.writer from bytes done next
          part.to _ _ _ part.stored o u v alike c.in_ok-push_either.ensures.stored inv.stored;
      left = part_added (λ byte. not (is_stored c.args.host c.args.spans.now c.args.end byte)) stretch.writer from
          bytes done next part.to _ _ _ (not part.stored) o u v
          (λ place value l h. ap not (alike place value l h)) c.in_ok-push_either.ensures.left inv.left;
      each = λ h. c.in_ok-push_either.ensures.each (inv.each h);
      within = u;
      near = c.part_at-part.ensures.near;
    }

pub returns-clause-stored : goal.returns-clause-stored
returns-clause-stored c =
    let stretch = c.args.stretch.now in
    all_added (is_stored c.args.host c.args.spans.now c.args.end) stretch.writer stretch.from stretch.bytes
    c.loop-done.done _ _ (omega (arith, c.loop-done-test.false, c.len-count.ensures)) c.loop-done.invariant.stored

pub returns-clause-left : goal.returns-clause-left
returns-clause-left c =
    let stretch = c.args.stretch.now in
    all_added (λ byte. not (is_stored c.args.host c.args.spans.now c.args.end byte)) stretch.writer stretch.from
    stretch.bytes c.loop-done.done _ _ (omega (arith, c.loop-done-test.false, c.len-count.ensures))
    c.loop-done.invariant.left

pub returns-clause-each : goal.returns-clause-each
returns-clause-each c = c.loop-done.invariant.each
