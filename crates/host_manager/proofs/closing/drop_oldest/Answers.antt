use Rattle.std.proofs.Common.{ap, inl, inr, subst, sym}
use Rattle.std.proofs.lemmas.Result.{on_ok_weaker}
use Rattle.host_tables.specs.Tables.{held_of}
use Rattle.run_rules.specs.Past.{In}
use Rattle.host_manager.proofs.closing.drop_oldest.Goals as goal

pub leave-requires : goal.leave-requires
leave-requires c t i = elim i [
  | inl e ↦ (subst (λ u. In u (held_of c.args.tables.now)) (sym e) c.requires, ap (λ u. u.fid) e)
  | inr n ↦ elim n [ ]
]

pub returns : goal.returns
returns c =
    on_ok_weaker c.send_due.result
    (λ h. record { left = c.leave.new.draft; leaves = c.in_ok-leave.ensures; sends = h }) c.send_due.ensures
