use Rattle.std.proofs.Common.{◌∙◌, sym, arith, Some, inl, inr}
use Rattle.disk_layout.specs.declared.entry.Entry.TheVariants.{Update, End}
use Rattle.disk_layout.proofs.Words.{closed_of, old_of_half, kindless_of, end_of, update_of}
use Rattle.disk_layout.proofs.entry.read_entry.Goals as goal
use Rattle.disk_layout.proofs.entry.read_entry.Goals.{then-bytes-ne-OPEN-via-then-bytes-ne-OPEN, then-bytes-ne-OPEN-via-else-bytes-ne-OPEN+then-u64_at-half}

pub returns-then-bytes-ne-OPEN-clause-entry : goal.returns-then-bytes-ne-OPEN-clause-entry
returns-then-bytes-ne-OPEN-clause-entry c = elim c.then-bytes-ne-OPEN.branch [
  | then-bytes-ne-OPEN-via-then-bytes-ne-OPEN w ↦ sym (closed_of _ _ (omega arith))
  | then-bytes-ne-OPEN-via-else-bytes-ne-OPEN+then-u64_at-half w ↦ sym (old_of_half _ _ (omega arith))
]

pub returns-in-2-clause-entry : goal.returns-in-2-clause-entry
returns-in-2-clause-entry c =
    (λ j. Some (End (c.u64_at-transaction.ensures j))) ∙ sym (end_of c.args.half.now c.args.bytes.now (omega arith) (omega arith) (omega arith))

pub returns-in-1-clause-entry : goal.returns-in-1-clause-entry
returns-in-1-clause-entry c =
    (λ j. Some (Update (c.u64_at-transaction.ensures j) (c.u32_at-page.ensures j) (c.page_at.ensures j) (c.page_at-in-1.ensures j)))
    ∙ sym (update_of c.args.half.now c.args.bytes.now (omega arith) (omega arith) (omega arith) (omega arith))

pub returns-in_default-clause-entry : goal.returns-in_default-clause-entry
returns-in_default-clause-entry c = sym (kindless_of _ _ (omega arith) (inr (omega arith)))

pub returns-in_default-2-clause-entry : goal.returns-in_default-2-clause-entry
returns-in_default-2-clause-entry c = sym (kindless_of _ _ (omega arith) (inl (omega arith)))
