-- What the step of a line owes that makes a call.
use Rattle.base_types.specs.declared.ids.Node.TheVariants.{Host}
use Rattle.host_asks.specs.Asking.{doing}
use Rattle.host_asks.specs.Going.{Goes}
use Rattle.host_cache.specs.Holding.{IsOnce}
use Rattle.host_gives.specs.Giving.{IsSound as IsSoundGives}
use Rattle.host_labels.specs.Labels.{IsSound as IsSoundUses}
use Rattle.host_manager.proofs.GoesDue.{by_line, goes_due}
use Rattle.host_manager.proofs.LeftOnce.{left_once}
use Rattle.host_manager.proofs.Owned.{begins_from, own_step}
use Rattle.host_manager.proofs.TurnOf.{line_turn}
use Rattle.host_manager.proofs.Turned.{turn_runs}
use Rattle.host_manager.proofs.Turns.{at_turn, turn_draft}
use Rattle.host_manager.specs.Closing.{BeginsIt}
use Rattle.host_manager.specs.Due.{IsOwn, LineDue}
use Rattle.host_manager.specs.Running.{LineRight}
use Rattle.host_manager.specs.Spoken.{IsFree as IsFreePair}
use Rattle.host_tables.specs.AtOnce.{IsFree, IsNextCall}
use Rattle.host_tables.specs.Drafts.{no_draft, step_of}
use Rattle.host_tables.specs.declared.draft.Draft.{Draft}
use Rattle.host_tables.specs.declared.tables.Tables.{Tables}
use Rattle.run_rules.specs.declared.step.Asked.{Asked}
use Rattle.run_rules.specs.declared.step.Cause.TheVariants.{Line as LineOf}
use Rattle.script_lines.specs.declared.script.Deed.TheVariants.{Call as MakesCall}
use Rattle.std.proofs.Common.{Option, [], refl, subst, true, ℕ, ◌+◌}
use Rattle.tree_calls.specs.declared.call.Call.{Call}

pub call_right : (m new : Tables) (after : Draft) (line : ℕ) (call : Call) → IsFreePair m → IsSoundUses m.uses
    → IsSoundGives m.gives → IsSoundGives new.gives → BeginsIt m no_draft call new after
    → LineRight m new line (MakesCall call) (step_of (Host m.host) (LineOf line) after)
call_right m new after line call free uses gives gives_new it script past running the_line next is askable =
    let free_m : IsFree m = record { none_open = free.0; few = free.1 } in
    let next_call : IsNextCall script m.host past line call = record { line = the_line; next = next; deed = is } in
    let goes = subst (λ (o : Option Asked). Goes (m.begun + 1) call true
    (doing (record m { call = o; begun = m.begun + 1; lost = [] }) no_draft) it.begins.gone it.begins.answered) free.0
    it.begins.goes in (
      turn_runs script m m past (LineOf line) [] [] (record { k = m.begun + 1; call = call }) true
          (line_turn script m past line call running free_m next_call askable) gives uses new it.begun after it.sends
          gives_new it.begins.gone it.begins.answered goes it.begins.after,
      refl,
    )

-- what is due of it
pub call_due : (m new : Tables) (after : Draft) (line : ℕ) (call : Call) → IsFreePair m → IsSoundUses m.uses
    → IsSoundGives m.gives → IsSoundGives new.gives → IsOnce m.cache.held → BeginsIt m no_draft call new after
    → LineDue m line (MakesCall call) (step_of (Host m.host) (LineOf line) after)
call_due m new after line call free uses gives gives_new held it script past running the_line next is askable =
    let free_m : IsFree m = record { none_open = free.0; few = free.1 } in
    let next_call : IsNextCall script m.host past line call = record { line = the_line; next = next; deed = is } in
    let goes = subst (λ (o : Option Asked). Goes (m.begun + 1) call true
    (doing (record m { call = o; begun = m.begun + 1; lost = [] }) no_draft) it.begins.gone it.begins.answered) free.0
    it.begins.goes in
    goes_due script m m past (LineOf line) [] [] (record { k = m.begun + 1; call = call }) true
    (line_turn script m past line call running free_m next_call askable) gives uses (by_line m past line) new it.begun
    after it.sends
    (call_right m new after line call free uses gives gives_new it script past running the_line next is askable).0
    gives_new
    (λ place sync fid gone leaves. left_once (at_turn m true) (turn_draft [] []) fid gone leaves held)
    it.begins.gone it.begins.answered goes it.begins.after

pub call_own : (m new : Tables) (after : Draft) (line : ℕ) (call : Call) → BeginsIt m no_draft call new after
    → IsOwn m (step_of (Host m.host) (LineOf line) after)
call_own m new after line call it =
    own_step m (LineOf line) after (begins_from m no_draft call new after it (λ y i. elim i [ ]))
