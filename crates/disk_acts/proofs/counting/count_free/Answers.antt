use Rattle.std.proofs.Common.{◌≡◌, ◌<◌, ◌+◌, ◌*◌, ◌-◌, min, ◌∙◌, ap, arith}
use Rattle.base_outside.proofs.Runs.{quiet_then}
use Rattle.disk_log.specs.Log.{disk_of, state_of}
use Rattle.disk_log.specs.Puts.{page_of}
use Rattle.disk_log.specs.State.{State}
use Rattle.disk_log.proofs.Mounting.{quiet_none}
use Rattle.disk_acts.proofs.Free.{still_none, zeros_free, zeros_front, zeros_more, zeros_none}
use Rattle.disk_acts.proofs.counting.count_free.Goals as goal

pub loop-index-init : goal.loop-index-init
loop-index-init g c = record {
  idle = c.requires.idle;
  state = λ i. state_of c.args.log.now;
  zeros = λ told. zeros_none (state_of c.args.log.now) (g.D.Disk.view (disk_of c.args.log.now)).image;
  few = omega arith;
  quiet = quiet_none (g.D.Disk.view (disk_of c.args.log.now));
  counted = omega arith;
}

pub overflow_add-free : goal.overflow_add-free
overflow_add-free g c =
    let most = c.loop-index.invariant.few in
    let few = c.zeros-free.ensures.few in
    let size = c.min-counts.ensures in
    let all = c.blocks-2.type_inv in
    let whole = c.blocks-2.ensures in
    let now = c.blocks-in-loop-index.ensures ∙ ap (λ (s : State). s.superblock.blocks) (c.in_ok-page.ensures.reads.state ∙ c.loop-index.invariant.state) in
    omega (arith, most, few, size, all, whole, now)

pub loop-index-preserved : goal.loop-index-preserved
loop-index-preserved g c =
    let inv = c.loop-index.invariant in
    let reads = c.in_ok-page.ensures.reads in
    let state = state_of c.args.log.now in
    let index = c.loop-index.index in
    let same : state_of c.page.new.self ≡ state = reads.state ∙ inv.state in
    let size = c.min-counts.ensures in
    let many = c.blocks-2.ensures in
    let now = c.blocks-in-loop-index.ensures ∙ ap (λ (s : State). s.superblock.blocks) same in
    let pages = c.div_ceil-index-end.ensures in
    let test = c.loop-index-test.true in
    let lt : 256 * index < state.superblock.blocks = omega (arith, pages, test, many) in
    let counts : c.min-counts.result ≡ min 256 (state.superblock.blocks - 256 * index) = omega (arith, size, now) in
    record {
      idle = record { sound = reads.sound; none_open = still_none (state_of c.page.new.self) state same c.requires.idle.none_open };
      state = same;
      zeros = λ told. (let image = (g.D.Disk.view (disk_of c.args.log.now)).image in
          (λ i. c.loop-index.free + c.zeros-free.ensures.zeros i)
          ∙ zeros_more state image c.page.new.out index
          (c.in_ok-page.ensures.bytes told ∙ (λ i. page_of (inv.state i).entries (inv.state i).puts (inv.quiet.image i) (1058 + index)))
          c.min-counts.result c.loop-index.free state.superblock.blocks (inv.zeros told) lt counts);
      few = (let most = inv.few in let few = c.zeros-free.ensures.few in omega (arith, most, few, counts, lt));
      quiet = quiet_then inv.quiet reads.quiet;
      counted = (let a = inv.counted in let b = reads.blamed.counted in omega (arith, a, b));
    }

pub returns-then-is_enough-clause-free : goal.returns-then-is_enough-clause-free
returns-then-is_enough-clause-free g c = λ told.
    zeros_front g.D.Disk.tells g.D.Disk.view c.args.log.now c.requires.idle c.requires.durable told c.loop-index.free (min (256 * c.loop-index.index) (state_of c.args.log.now).superblock.blocks) (omega arith) (c.loop-index.invariant.zeros told)

pub returns-then-is_enough-clause-all : goal.returns-then-is_enough-clause-all
returns-then-is_enough-clause-all g c = λ told few. (let enough = c.if-is_enough.true in absurd (omega (arith, few, enough)))

pub returns-clause-all : goal.returns-clause-all
returns-clause-all g c = λ told few.
    let state = state_of c.args.log.now in
    let pages = c.div_ceil-index-end.ensures in
    let past = c.loop-index-test.false in
    let many = c.blocks-2.ensures in
    let all : min (256 * c.loop-index.index) state.superblock.blocks ≡ state.superblock.blocks = omega (arith, pages, past, many) in
    c.loop-index.invariant.zeros told ∙ zeros_free g.D.Disk.tells g.D.Disk.view c.args.log.now c.requires.idle c.requires.durable told _ all

pub returns-clause-free : goal.returns-clause-free
returns-clause-free g c = λ told.
    zeros_front g.D.Disk.tells g.D.Disk.view c.args.log.now c.requires.idle c.requires.durable told c.loop-index.free (min (256 * c.loop-index.index) (state_of c.args.log.now).superblock.blocks) (omega arith) (c.loop-index.invariant.zeros told)
