use Rattle.std.proofs.Common.{◌≢◌, ◌∙◌, List, ℕ, ap, inl, inr, refl, replicate, Option, None, arith}
use Rattle.std.proofs.lemmas.Result.{on_ok_weaker}
use Rattle.base_types.specs.Image.{byte_at}
use Rattle.base_outside.specs.Runs.{LeavesOnly}
use Rattle.base_outside.proofs.Image.{byte_at-holds}
use Rattle.base_outside.proofs.Runs.{then, weaker, quiet}
use Rattle.disk_layout.specs.Half.{half_of}
use Rattle.disk_log.specs.Format.{first_half, IsLeftOfFormat, IsMarkedFirst}
use Rattle.disk_log.specs.State.{fresh_state}
use Rattle.disk_log.proofs.Calls.{sound_as}
use Rattle.disk_log.proofs.Fresh.{fresh_sound}
use Rattle.disk_log.proofs.Formatting.{no_log, at_gate, shut_still, stage_leaves, mark_leaves, mark_first, stage_marked, front_shut, around_named, gate_marked, within_end}
use Rattle.disk_log.proofs.Mounting.{quiet_none, settled_leaves, any_err}
use Rattle.disk_log.proofs.format.formatted.Goals as goal

pub returns-in_err-mark-clause-crash : goal.returns-in_err-mark-clause-crash
returns-in_err-mark-clause-crash g c = λ told shut.
    then (quiet _ c.sync.ensures.quiet) (mark_leaves _ _ _ (shut_still _ _ c.sync.ensures.quiet shut) c.in_ok-sync.ensures.durable c.mark.ensures.crash)

pub returns-in_err-stage-clause-crash : goal.returns-in_err-stage-clause-crash
returns-in_err-stage-clause-crash g c = λ told shut.
    let still = shut_still _ _ c.sync.ensures.quiet shut in
    then (quiet _ c.sync.ensures.quiet)
    (then (mark_leaves _ _ _ still c.in_ok-sync.ensures.durable c.mark.ensures.crash)
    (stage_leaves _ _ _ (front_shut _ _ (c.mark.ensures.same told) still) c.in_ok-mark.ensures.settled _ c.stage.ensures.crash))

pub returns-in_err-write_through-clause-crash : goal.returns-in_err-write_through-clause-crash
returns-in_err-write_through-clause-crash g c = λ told shut.
    let still = shut_still _ _ c.sync.ensures.quiet shut in
    then (quiet _ c.sync.ensures.quiet)
    (then (mark_leaves _ _ _ still c.in_ok-sync.ensures.durable c.mark.ensures.crash)
    (then (stage_leaves _ _ _ (front_shut _ _ (c.mark.ensures.same told) still) c.in_ok-mark.ensures.settled _ c.stage.ensures.crash)
    (weaker c.write_through.ensures.crash (λ d torn. at_gate _ _ d (c.in_ok-stage.ensures.staged told) torn))))

pub returns-clause-crash : goal.returns-clause-crash
returns-clause-crash g c = λ told shut.
    let still = shut_still _ _ c.sync.ensures.quiet shut in
    then (quiet _ c.sync.ensures.quiet)
    (then (mark_leaves _ _ _ still c.in_ok-sync.ensures.durable c.mark.ensures.crash)
    (then (stage_leaves _ _ _ (front_shut _ _ (c.mark.ensures.same told) still) c.in_ok-mark.ensures.settled _ c.stage.ensures.crash)
    (weaker c.write_through.ensures.crash (λ d torn. at_gate _ _ d (c.in_ok-stage.ensures.staged told) torn))))

pub returns-in_err-kept-clause-left : goal.returns-in_err-kept-clause-left
returns-in_err-kept-clause-left g c = λ told shut. any_err c.from_residual.result (inl (quiet_none _))

pub returns-in_err-bytes-clause-left : goal.returns-in_err-bytes-clause-left
returns-in_err-bytes-clause-left g c = λ told shut. any_err c.from_residual-in_err-bytes.result (inl (quiet_none _))

pub returns-in_err-sync-clause-left : goal.returns-in_err-sync-clause-left
returns-in_err-sync-clause-left g c = λ told shut. any_err c.from_residual-in_err-sync.result (inl c.sync.ensures.quiet)

pub returns-in_err-mark-clause-left : goal.returns-in_err-mark-clause-left
returns-in_err-mark-clause-left g c = λ told shut.
    let still = shut_still _ _ c.sync.ensures.quiet shut in
    any_err c.from_residual-in_err-mark.result
    (inr (settled_leaves _ _ _ c.in_ok-sync.ensures.durable (mark_leaves c.args.superblock _ _ still c.in_ok-sync.ensures.durable c.mark.ensures.crash) (inl (no_log _ still))))

pub returns-in_err-stage-clause-left : goal.returns-in_err-stage-clause-left
returns-in_err-stage-clause-left g c = λ told shut.
    let still = shut_still _ _ c.sync.ensures.quiet shut in
    any_err c.from_residual-in_err-stage.result
    (inr (settled_leaves _ _ _ c.in_ok-sync.ensures.durable
    (then (mark_leaves c.args.superblock _ _ still c.in_ok-sync.ensures.durable c.mark.ensures.crash)
    (stage_leaves c.args.superblock _ _ (front_shut _ _ (c.mark.ensures.same told) still) c.in_ok-mark.ensures.settled _ c.stage.ensures.crash)) (inl (no_log _ still))))

pub returns-in_err-write_through-clause-left : goal.returns-in_err-write_through-clause-left
returns-in_err-write_through-clause-left g c = λ told shut.
    let still = shut_still _ _ c.sync.ensures.quiet shut in
    any_err c.from_residual-in_err-write_through.result
    (inr (settled_leaves _ _ _ c.in_ok-sync.ensures.durable
    (then (mark_leaves c.args.superblock _ _ still c.in_ok-sync.ensures.durable c.mark.ensures.crash)
    (then (stage_leaves c.args.superblock _ _ (front_shut _ _ (c.mark.ensures.same told) still) c.in_ok-mark.ensures.settled _ c.stage.ensures.crash)
    (weaker c.write_through.ensures.crash (λ d torn. at_gate _ _ d (c.in_ok-stage.ensures.staged told) torn)))) (inl (no_log _ still))))

pub returns-in_err-sync-clause-marked : goal.returns-in_err-sync-clause-marked
returns-in_err-sync-clause-marked g c = λ told shut. quiet _ c.sync.ensures.quiet

pub returns-in_err-mark-clause-marked : goal.returns-in_err-mark-clause-marked
returns-in_err-mark-clause-marked g c = λ told shut.
    then (quiet _ c.sync.ensures.quiet)
    (mark_first _ _ _ (shut_still _ _ c.sync.ensures.quiet shut) c.in_ok-sync.ensures.durable _ c.sync.ensures.quiet.image c.mark.ensures.crash)

pub returns-in_err-stage-clause-marked : goal.returns-in_err-stage-clause-marked
returns-in_err-stage-clause-marked g c = λ told shut.
    let still = shut_still _ _ c.sync.ensures.quiet shut in
    then (quiet _ c.sync.ensures.quiet)
    (then (mark_first _ _ _ still c.in_ok-sync.ensures.durable _ c.sync.ensures.quiet.image c.mark.ensures.crash)
    (stage_marked _ _ _ (front_shut _ _ (c.mark.ensures.same told) still) c.in_ok-mark.ensures.settled _ _ (c.in_ok-mark.ensures.named told) c.stage.ensures.crash))

pub returns-in_err-write_through-clause-marked : goal.returns-in_err-write_through-clause-marked
returns-in_err-write_through-clause-marked g c = λ told shut.
    let still = shut_still _ _ c.sync.ensures.quiet shut in
    let named = c.in_ok-mark.ensures.named told in
    then (quiet _ c.sync.ensures.quiet)
    (then (mark_first _ _ _ still c.in_ok-sync.ensures.durable _ c.sync.ensures.quiet.image c.mark.ensures.crash)
    (then (stage_marked _ _ _ (front_shut _ _ (c.mark.ensures.same told) still) c.in_ok-mark.ensures.settled _ _ named c.stage.ensures.crash)
    (weaker c.write_through.ensures.crash (λ d torn. gate_marked _ _ _ d (around_named _ _ _ (c.stage.ensures.same told) named) (c.in_ok-stage.ensures.staged told) torn))))

pub returns-clause-marked : goal.returns-clause-marked
returns-clause-marked g c = λ told shut.
    let still = shut_still _ _ c.sync.ensures.quiet shut in
    let named = c.in_ok-mark.ensures.named told in
    then (quiet _ c.sync.ensures.quiet)
    (then (mark_first _ _ _ still c.in_ok-sync.ensures.durable _ c.sync.ensures.quiet.image c.mark.ensures.crash)
    (then (stage_marked _ _ _ (front_shut _ _ (c.mark.ensures.same told) still) c.in_ok-mark.ensures.settled _ _ named c.stage.ensures.crash)
    (weaker c.write_through.ensures.crash (λ d torn. gate_marked _ _ _ d (around_named _ _ _ (c.stage.ensures.same told) named) (c.in_ok-stage.ensures.staged told) torn))))

pub returns-clause-within : goal.returns-clause-within
returns-clause-within g c = λ told.
    within_end _ _ _ _ _ _ (omega arith) c.sync.ensures.quiet.image (c.mark.ensures.same told) (c.stage.ensures.same told) (c.write_through.ensures.torn told)

pub returns-clause-formatted : goal.returns-clause-formatted
returns-clause-formatted g c = λ told. c.in_ok-stage.ensures.staged told _ (c.write_through.ensures.torn told) (byte_at-holds _ _ _ (c.in_ok-write_through.ensures.written told))

pub returns-clause-sound : goal.returns-clause-sound
returns-clause-sound g c =
    let formatted = λ (told : g.D.Disk.tells). c.in_ok-stage.ensures.staged told _ (c.write_through.ensures.torn told) (byte_at-holds _ _ _ (c.in_ok-write_through.ensures.written told)) in
    let superblock = c.args.superblock in
    sound_as _ _ _ _ (fresh_state superblock (first_half superblock)) _
    (c.in_ok-kept.ensures.pages ∙ ap (λ (n : ℕ). replicate {A = Option (List ℕ)} n None) c.pages_of.ensures)
    (c.in_ok-kept.ensures.state ∙ ap (λ (n : ℕ). fresh_state superblock (half_of n 0 1)) c.pages_of.ensures)
    (fresh_sound _ _ superblock (first_half superblock) (inl refl) c.requires.few_blocks refl (λ told. (formatted told).front) (λ told. (formatted told).log) c.in_ok-write_through.ensures.settled)
