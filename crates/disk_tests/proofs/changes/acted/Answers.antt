use Rattle.std.proofs.Common.{ℕ, ◌≤◌, sym, subst, arith}
use Rattle.disk_log.specs.Log.{state_of, slot_of}
use Rattle.disk_log.specs.State.{State}
use Rattle.disk_log.proofs.Emptying.{no_puts}
use Rattle.disk_anode.specs.Room.{MayPutAll, with_counts, how_many}
use Rattle.disk_anode.proofs.Putting.{may_begun, counts_many}
use Rattle.disk_tests.proofs.Others.{only_begun}
use Rattle.disk_tests.proofs.changes.acted.Goals as goal

most_three : (page pages : ℕ) → pages ≤ 1059 → how_many (with_counts page) pages ≤ 3
most_three page pages le = let most = counts_many page pages in omega (arith, most, le)

pub changed-answer-requires-clause-act : goal.changed-answer-requires-clause-act
changed-answer-requires-clause-act g c =
    let state = state_of c.args.log.now in
    let slot = slot_of c.in_ok-tx.tx in
    let idle = c.requires.idle in
    let begun = c.in_ok-tx.ensures.begun in
    let empty = no_puts state idle.sound.accounts idle.none_open in
    let many = idle.sound.many in
    let pages : state.half.pages ≤ 1059 = omega (arith, many) in
    record {
      untold = c.requires.untold;
      sound = c.in_ok-tx.ensures.keeps.sound;
      only = only_begun state (state_of c.begin.new.self) slot idle.none_open begun.1 begun.3;
      may = subst (λ (s : State). MayPutAll (with_counts c.args.page) s slot) (sym begun.3)
          (may_begun (with_counts c.args.page) state slot 3 begun.1 empty
          (most_three c.args.page state.half.pages pages));
    }
