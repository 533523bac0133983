use Rattle.std.proofs.Common.{inl, inr, ⊎_elim, length, sym, ◌∙◌, subst, arith}
use Rattle.base_types.specs.Image.{AreBytes, Torn, Holds}
use Rattle.disk_device.specs.Paste.{are_bytes, is_torn, is_held}
use Rattle.disk_device.specs.declared.act.Act.TheVariants.{Wrote, Tore}
use Rattle.disk_device.proofs.Noted.{tore_now, tore_any, write_bytes, write_now, write_any, nothing_else, kept, longer}
use Rattle.disk_device.proofs.memory.MemDiskDisk.write_at.Goals as goal

-- a write that failed changes nothing that a read gives
pub invariant_of-self : goal.invariant_of-self
invariant_of-self c = let disk = c.args.self.now in record { replayed = disk.replayed ∙ sym (c.tore.ensures.reads disk.start); bytes_are = disk.bytes_are }

pub returns-in-Ok-clause-crash : goal.returns-in-Ok-clause-crash
returns-in-Ok-clause-crash c =
    let start = c.args.self.now.start in
    let acts = c.args.self.now.acts.items in
    let later = c.tore.new.acts.items in
    let at = c.args.at in
    let n = length c.args.piece.now in
    let is = c.in-Ok.ensures.noted in
    record {
      later = omega (arith, longer start acts later (Tore at n) is);
      now = tore_now start acts later at n is;
      since = λ t image le left. ⊎_elim (λ earlier. inl earlier) (λ now. inr (tore_now start acts later at n is image now)) (nothing_else start acts later (Tore at n) is t image le left);
      kept = kept start acts later (Tore at n) is;
    }

pub returns-in-Ok-clause-tears : goal.returns-in-Ok-clause-tears
returns-in-Ok-clause-tears c =
    inl (tore_any c.args.self.now.start c.args.self.now.acts.items c.tore.new.acts.items c.args.at (length c.args.piece.now) c.in-Ok.ensures.noted)

pub invariant_of-self-in-Ok-wrote-clause-replayed : goal.invariant_of-self-in-Ok-wrote-clause-replayed
invariant_of-self-in-Ok-wrote-clause-replayed c =
    let disk = c.args.self.now in
    write_bytes disk.start disk.acts.items c.wrote.new.acts.items c.args.at c.args.piece.now c.in-Ok-wrote.ensures.noted disk.bytes.items c.wrote.new.bytes.items disk.replayed c.in-Ok-wrote.ensures.bytes

pub returns-in-Ok-wrote-clause-written : goal.returns-in-Ok-wrote-clause-written
returns-in-Ok-wrote-clause-written c = λ _.
    subst (λ image. Holds c.args.at c.args.piece.now image) (sym c.in-Ok-wrote.ensures.bytes) (is_held c.args.at c.args.piece.now c.args.self.now.bytes.items)

pub returns-in-Ok-wrote-clause-torn : goal.returns-in-Ok-wrote-clause-torn
returns-in-Ok-wrote-clause-torn c = λ _.
    let old = c.args.self.now.bytes.items in
    subst (λ image. Torn c.args.at (length c.args.piece.now) old image) (sym c.in-Ok-wrote.ensures.bytes) (is_torn c.args.at c.args.piece.now old)

pub returns-in-Ok-wrote-clause-crash : goal.returns-in-Ok-wrote-clause-crash
returns-in-Ok-wrote-clause-crash c =
    let start = c.args.self.now.start in
    let acts = c.args.self.now.acts.items in
    let later = c.wrote.new.acts.items in
    let at = c.args.at in
    let piece = c.args.piece.now in
    let is = c.in-Ok-wrote.ensures.noted in
    record {
      later = omega (arith, longer start acts later (Wrote at piece) is);
      now = write_now start acts later at piece is;
      since = λ t image le left. ⊎_elim (λ earlier. inl earlier) (λ now. inr (write_now start acts later at piece is image now)) (nothing_else start acts later (Wrote at piece) is t image le left);
      kept = kept start acts later (Wrote at piece) is;
    }

pub returns-in-Ok-wrote-clause-tears : goal.returns-in-Ok-wrote-clause-tears
returns-in-Ok-wrote-clause-tears c =
    inl (write_any c.args.self.now.start c.args.self.now.acts.items c.wrote.new.acts.items c.args.at c.args.piece.now c.in-Ok-wrote.ensures.noted)

pub invariant_of-self-in-Ok-wrote-clause-bytes_are : goal.invariant_of-self-in-Ok-wrote-clause-bytes_are
invariant_of-self-in-Ok-wrote-clause-bytes_are c =
    let disk = c.args.self.now in
    subst AreBytes (sym c.in-Ok-wrote.ensures.bytes) (are_bytes c.args.at c.args.piece.now disk.bytes.items (λ k. omega (arith, c.type_inv.piece k)) disk.bytes_are)
