use Rattle.std.proofs.Common.{◌≡◌, ◌++◌, length, take, drop, arith, ◌∙◌, ap, sym}
use Rattle.tree_objects.specs.Stretches.{replaced}
use Rattle.tree_objects.proofs.Laid.{take_front}
use Rattle.tree_objects.proofs.Taken.{replaced_same}
use Rattle.tree_objects.proofs.bytes.put_at.Goals as goal

pub put_part-requires : goal.put_part-requires
put_part-requires c =
    let seen : c.as_mut_slice.result.now ≡ c.args.bytes.now = c.as_mut_slice.ensures.value ∙ c.into_vec-list.ensures
    ∙ c.replace.ensures.value in
    let long = ap length seen in
    omega (arith, c.requires, long)

pub returns : goal.returns
returns c =
    let new = c.put_part.new.bytes in let items = c.into_vec-list.result.items in
    let seen : c.as_mut_slice.result.now ≡ c.args.bytes.now = c.as_mut_slice.ensures.value ∙ c.into_vec-list.ensures
    ∙ c.replace.ensures.value in
    let long = ap length seen in
    let size : length new ≡ c.into_vec-list.result.len
    = ap length c.put_part.ensures ∙ replaced_same c.as_mut_slice.result.now c.args.at c.args.part.now
    (omega (arith, c.requires, long)) ∙ c.as_mut_slice.ensures.len in
    let exact : take c.into_vec-list.result.len (new ++ drop (length new) items) ≡ new = ap
    (λ n. take n (new ++ drop (length new) items)) (sym size) ∙ take_front new (drop (length new) items) in
    c.from_vec.ensures ∙ exact ∙ c.put_part.ensures ∙ ap (λ bytes. replaced bytes c.args.at c.args.part.now) seen
