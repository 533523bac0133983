use Rattle.std.proofs.Common.{◌≡◌, ◌∙◌, ◌+◌, ◌*◌, ℕ, List, length, refl, ap, sym, arith}
use Rattle.std.proofs.lemmas.Bool.{false≢true}
use Rattle.base_types.specs.Image.{byte_at}
use Rattle.base_outside.proofs.Runs.{quiet_then}
use Rattle.disk_log.proofs.Mounting.{quiet_none}
use Rattle.disk_log.proofs.Zeros.{zeros_end, zeros_further}
use Rattle.disk_log.proofs.read.is_untouched.Goals as goal

pub loop-look-init : goal.loop-look-init
loop-look-init g c = record {
  zeros = λ told k lt. absurd (omega arith);
  size = λ told. c.in_ok-length.ensures.answer told;
  quiet = c.length.ensures.quiet;
  counted = c.length.ensures.faults.counted;
}

pub returns-then-behind-clause-untouched : goal.returns-then-behind-clause-untouched
returns-then-behind-clause-untouched g c = λ told.
    let inv = c.loop-look.invariant in
    (λ yes k lt. zeros_end _ c.loop-look.look (inv.zeros told) _ c.if-behind.true (inv.size told) k, λ untouched. refl)

pub loop-look-preserved : goal.loop-look-preserved
loop-look-preserved g c =
    let inv = c.loop-look.invariant in
    let size : length c.loop-look.bytes ≡ 15872 = omega arith in
    record {
      size = inv.size;
      zeros = λ told. zeros_further _ c.loop-look.look (inv.zeros told)
          (λ k lt. ap (λ (l : List ℕ). byte_at l (15872 * c.loop-look.look + k)) (sym inv.quiet.image)
          ∙ (c.in_ok-zero.ensures.zero told).0 c.if-not-zero.false k (omega (arith, size, lt)));
      quiet = quiet_then inv.quiet c.is_zero_at.ensures.quiet;
      counted = omega (arith, inv.counted, c.is_zero_at.ensures.faults.counted);
    }

pub returns-then-not-zero-clause-untouched : goal.returns-then-not-zero-clause-untouched
returns-then-not-zero-clause-untouched g c = λ told.
    let inv = c.loop-look.invariant in
    let size : length c.loop-look.bytes ≡ 15872 = omega arith in (
      λ yes. absurd (false≢true yes),
      λ untouched. absurd (false≢true (sym c.if-not-zero.true ∙ (c.in_ok-zero.ensures.zero told).1
          (λ k lt. ap (λ (l : List ℕ). byte_at l (15872 * c.loop-look.look + k)) inv.quiet.image ∙ untouched (15872 * c.loop-look.look + k) (omega (arith, size, lt))))),
    )

pub returns-clause-untouched : goal.returns-clause-untouched
returns-clause-untouched g c = λ told. (λ yes k lt. c.loop-look.invariant.zeros told k (omega arith), λ untouched. refl)
