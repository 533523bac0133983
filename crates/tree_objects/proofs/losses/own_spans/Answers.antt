use Rattle.std.proofs.Common.{◌≡◌, ◌≤◌, ◌==◌, ◌+◌, ◌++◌, true, false, cond, [], drop, sym, ap, ◌∙◌, arith}
use Rattle.tree_objects.specs.Losses.{spans_from, own_bytes}
use Rattle.tree_objects.specs.Stretches.{bytes_of, all_bytes, is_stretch}
use Rattle.tree_objects.proofs.Owned.{each_item, own_next}
use Rattle.tree_objects.proofs.losses.own_spans.Goals as goal
use Rattle.tree_objects.proofs.losses.own_spans.Goals.{then-eq+in_ok-last, else-eq}

pub joined-requires-clause-stretch : goal.joined-requires-clause-stretch
joined-requires-clause-stretch c = each_item is_stretch c.args.stretches.now c.loop-stretch.stretch-index
    c.stretch-item.result c.requires c.loop-stretch-test.true c.stretch-item.is

pub loop-stretch-preserved : goal.loop-stretch-preserved
loop-stretch-preserved c =
    let host = c.args.host in let ss = c.args.stretches.now in let i = c.loop-stretch.stretch-index in let s =
    c.stretch-item.result in
    let spans = c.loop-stretch.spans in let last = c.loop-stretch.last in
    let rest = own_bytes host (all_bytes (drop (i + 1) ss)) in
    let next : own_bytes host (all_bytes (drop i ss)) ≡ cond (s.writer.0 == host.0) (bytes_of s) [] ++ rest =
    own_next host ss i s c.loop-stretch-test.true c.stretch-item.is in
    elim c.if-eq.branch [
      | then-eq+in_ok-last w ↦
          let own : (s.writer.0 == host.0) ≡ true = sym c.eq.ensures ∙ w.if-eq.true in
          let more = w.in_ok-last.ensures.more in
          let added : c.if-eq.spans ++ spans_from c.if-eq.last.from c.if-eq.last.to rest ≡ spans ++ spans_from
          last.from last.to (bytes_of s ++ rest)
          = rw (w.spans-is, w.last-is) (w.in_ok-last.ensures.spans rest) in
          let ordered : c.if-eq.last.from ≤ c.if-eq.last.to = rw w.last-is (omega (arith, more)) in
          record {
            spans = added ∙ ap (λ bytes. spans ++ spans_from last.from last.to bytes)
                (sym (next ∙ ap (λ t. cond t (bytes_of s) [] ++ rest) own)) ∙ c.loop-stretch.invariant.spans;
            ordered = ordered;
          }
      | else-eq w ↦
          let other : (s.writer.0 == host.0) ≡ false = sym c.eq.ensures ∙ w.if-eq.false in
          record {
            spans = rw (w.spans-is, w.last-is) (ap (λ bytes. spans ++ spans_from last.from last.to bytes)
                (sym (next ∙ ap (λ t. cond t (bytes_of s) [] ++ rest) other)) ∙ c.loop-stretch.invariant.spans);
            ordered = rw w.last-is c.loop-stretch.invariant.ordered;
          }
    ]
