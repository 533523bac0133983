-- A Change that is decided in the step after the one that made it ready: each test is computed.
use Rattle.run_examples.proofs.AnswerTests.{step_meets}
use Rattle.run_examples.proofs.SendTests.{can_yes}
use Rattle.run_examples.proofs.ServerLists.{queue_yes}
use Rattle.run_examples.proofs.ServerSteps.{deeds, site_words}
use Rattle.run_examples.specs.Journal.{start}
use Rattle.run_examples.specs.Late.{IsDue, LateChangeIsDecidedNext, Meets, decides, ends_grace, raises, removal}
use Rattle.run_examples.specs.Late.{restarted, script, waits}
use Rattle.run_rules.specs.declared.applied.Request.TheVariants.{Change as AsksChange}
use Rattle.run_rules.specs.declared.applied.Wanted.{Wanted}
use Rattle.run_rules.specs.declared.step.Step.{Step}
use Rattle.run_tokens.specs.Worked.{client, site_one}
use Rattle.std.proofs.Common.{List, [], inl, refl, ℕ, ◌∷◌}
use Rattle.tree_filesets.specs.Removal.{remove_answer, remove_target}
use Rattle.tree_calls.specs.declared.reply.Refusal.TheVariants.{NoEntry}

unfoldable late_words : ℕ
unfolding site_words remove_answer remove_target
late_words = 0

abbrev waited : List Step
waited = waits ∷ restarted

abbrev ready : List Step
ready = ends_grace ∷ waited

waits_meets : Meets restarted waits
unfolding late_words
waits_meets = step_meets script start site_one restarted (deeds restarted) waits refl tt refl

admits_meets : Meets waited ends_grace
unfolding late_words
admits_meets = step_meets script start site_one waited (deeds waited) ends_grace refl (tt, tt) refl

decides_meets : Meets ready decides
unfolding late_words
decides_meets = step_meets script start site_one ready (deeds ready) decides refl (tt, tt) refl

abbrev want : Wanted
want = record { host = client; request = AsksChange removal; moves = 0; needs = [] }

line_meets : Meets (decides ∷ ready) raises
unfolding late_words
line_meets = step_meets script start site_one (decides ∷ ready) (deeds (decides ∷ ready)) raises (refl, refl) tt refl

no_line : IsDue ready raises → ⊥
unfolding late_words
no_line m =
    m.decided.refused want removal NoEntry (queue_yes (deeds ready) want (inl refl)) refl
    (refl, λ e. absurd (cc), λ e. refl) (inl (inl (can_yes site_one (deeds ready) want refl)))

pub late_is_next : LateChangeIsDecidedNext
late_is_next = record {
  waits_first = waits_meets;
  claim_admitted = admits_meets;
  no_line = no_line;
  decided_next = decides_meets;
  line_then = line_meets;
}
