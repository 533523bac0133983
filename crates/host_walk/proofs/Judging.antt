-- What a host makes of a call, where the look behind its root was tried.
use Rattle.std.proofs.Common.{Result, ap, subst, sym, ◌∙◌}
use Rattle.base_types.specs.Outcomes.{either}
use Rattle.tree_calls.specs.declared.reply.Refusal.{Refusal}
use Rattle.tree_calls.specs.declared.reply.Reply.TheVariants.{Refused as RefusedReply}
use Rattle.need_host.specs.Calls.{Verdict}
use Rattle.need_host.specs.Calls.Verdict.{Replies}
use Rattle.need_host.specs.Looks.{CoverAll, IsFirstLack}
use Rattle.host_walk.specs.WalkLaws.{JudgesBy}
use Rattle.host_walk.proofs.Blocks.{needs_end, outcome_end}

abbrev verdict_of : {A : Type 0} → (A → Verdict) → Result A Refusal → Verdict
verdict_of judge found = either found judge (λ refusal. Replies (RefusedReply refusal))

pub judges_by : (A : Type 0) → JudgesBy A
judges_by A = record {
  lacks = λ held view look judge need l.
      subst (λ needs. IsFirstLack held needs need) (sym (needs_end view (verdict_of judge) look)) l;
  refuses = λ held view look judge refusal t. (
    subst (CoverAll held) (sym (needs_end view (verdict_of judge) look)) t.0,
    outcome_end view (verdict_of judge) look ∙ ap (verdict_of judge) t.1,
  );
  finds = λ held view look judge value found. (
    subst (CoverAll held) (sym (needs_end view (verdict_of judge) look)) found.covered,
    outcome_end view (verdict_of judge) look ∙ ap (verdict_of judge) found.ends,
  );
}
