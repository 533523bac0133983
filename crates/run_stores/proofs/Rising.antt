-- How numbers go on in a run.
use Rattle.std.proofs.Common.{List, [], ap, arith, inl, inr, subst, ℕ, ◌<◌, ◌≡◌, ◌≤◌, ◌∷◌}
use Rattle.std.specs.Prelude.{if◌then◌else◌}
use Rattle.base_types.specs.declared.ids.FilesetId.{FilesetId}
use Rattle.base_types.specs.declared.ids.HostId.{HostId}
use Rattle.base_types.specs.declared.ids.Node.{Node}
use Rattle.base_types.specs.declared.ids.Node.TheVariants.{Host, Server}
use Rattle.base_types.specs.declared.ids.ServerId.{ServerId}
use Rattle.message_types.specs.declared.giving.AppliedGive.{AppliedGive}
use Rattle.message_types.specs.declared.message.Body.TheVariants.{GiveBack}
use Rattle.script_lines.specs.declared.script.Script.{Script}
use Rattle.tree_answers.specs.declared.tree.Tree.{Tree}
use Rattle.run_rules.specs.Doings.{after_shipping}
use Rattle.run_rules.specs.Doings.{Doing, IsApplied, TakesOf, WasWritten, admitting, after_admitting, after_cause, after_deciding, after_sending, after_step, deciding, doings_of, sending}
use Rattle.run_rules.specs.Doings.Doing.{Puts}
use Rattle.run_rules.specs.Doings.Doing.{Reserves, WritesDown}
use Rattle.run_rules.specs.Steps.{is_node}
use Rattle.run_rules.specs.Past.{Always, EachInTurn, appended}
use Rattle.run_rules.specs.Runs.{StepMeets, StepsMeet, firsts_of, past_of}
use Rattle.run_rules.specs.ServerTokens.{ServerStep, ServerTokens}
use Rattle.run_rules.specs.declared.applied.Written.{Written}
use Rattle.run_rules.specs.declared.step.Cause.{Cause}
use Rattle.run_rules.specs.declared.step.Cause.TheVariants.{End, Evict, Flushed, Freight, Lapse}
use Rattle.run_rules.specs.declared.step.Cause.TheVariants.{Line, Message as Came, Restart}
use Rattle.run_rules.specs.declared.step.Step.{Step}
use Rattle.run_tokens.proofs.Words.{if_server}
use Rattle.run_tokens.specs.TokenLaws.{WasApplied}
use Rattle.run_tokens.proofs.Ships.{ships_keep}
use Rattle.run_stores.specs.Numbers.{ChangesRise, GivesRise, NumbersRise}

-- what is written down has a higher number
abbrev Rises : List Doing → Doing → Type 0
Rises before a = (w : Written) → a ≡ WritesDown w → (number : ℕ)
    → WasWritten before w.answer.host w.fileset number → number < w.number

module _ (v : ServerId) where
  allowed : (S : List Doing) (a : Doing) → ServerTokens v S a → Rises S a
  allowed S a may w e number was =
      let no : w.number ≤ number → ⊥ = λ le. may.writes_once w e (number, le, was) in omega (arith, no)

  in_turn : (more S : List Doing) → EachInTurn (ServerTokens v) more S → Always Rises S → Always Rises (appended more S)
  in_turn [] S each all = all
  in_turn (x ∷ more) S each all = in_turn more (x ∷ S) each.1 (all, allowed S x each.0)

  caused : (c : Cause) (S : List Doing) → Always Rises S → Always Rises (after_cause c S)
  caused (Came m) S all = (all, λ w e number was. absurd (cc))
  caused (Restart line) S all = (all, λ w e number was. absurd (cc))
  caused Flushed S all = (all, λ w e number was. absurd (cc))
  caused (Line line) S all = all
  caused Lapse S all = all
  caused Evict S all = all
  caused (Freight freight) S all = (all, λ w e number was. absurd (cc))
  caused End S all = all

  one_step : (S : List Doing) (s : Step) → ServerStep v S s → Always Rises S → Always Rises (after_step s S)
  one_step S s may all =
      let decided = in_turn (deciding s.applied) (after_cause s.cause S) may.writes (caused s.cause S all) in
      let admitted = in_turn (admitting s.admitted) (after_deciding s S) may.admits decided in
      let sent = in_turn (sending s.sent) (after_admitting s S) may.sends admitted in
      let shipped = ships_keep (Always Rises) (λ T to n b was. (was, λ w e number old. absurd (cc))) s.shipped
      (after_sending s S) sent in
      (shipped, allowed (after_shipping s S) (Reserves s.reserved) may.reserves)

module _ (script : Script) (start : Tree) (firsts : ServerId → ℕ) (v : ServerId) where
  by_node : (n : Node) (past : List Step) (s : Step) → StepMeets script start firsts n past s
      → Always Rises (doings_of (firsts v) v past)
      → Always Rises (if is_node n (Server v) then after_step s (doings_of (firsts v) v past)
      else doings_of (firsts v) v past)
  by_node (Host h) past s meets all = all
  by_node (Server k) past s meets all =
      if_server (Always Rises) k v (after_step s (doings_of (firsts v) v past)) (doings_of (firsts v) v past)
      (λ e. one_step v (doings_of (firsts v) v past) s
      (subst (λ w. ServerStep w (doings_of (firsts w) w past) s) e meets.0.tokens) all) all

  changes_rise : (past : List Step) → StepsMeet script start firsts past → ChangesRise (doings_of (firsts v) v past)
  changes_rise [] meets = (tt, λ w e number was. absurd (cc))
  changes_rise (s ∷ past) meets = by_node s.node past s meets.1.0 (changes_rise past meets.0)

-- a number that isn't above one that was applied counts as applied
not_above : (v : ServerId) (S : List Doing) (h : HostId) (fileset : FilesetId) (below number : ℕ)
    → WasApplied v S h (record { fileset = fileset; number = number }) → below ≤ number
    → IsApplied v S h (record { fileset = fileset; number = below })
not_above v [] h fileset below number was le = absurd was
not_above v (a ∷ S) h fileset below number (inl (give, applies, same)) le =
    let file = ap (λ (x : AppliedGive). x.fileset) same in
    let its : give.number ≡ number = ap (λ (x : AppliedGive). x.number) same in
    inl (give, subst (λ f. TakesOf v S a h f (GiveBack give)) file applies.0, file, omega (arith, its, le))
not_above v (a ∷ S) h fileset below number (inr was) le = inr (not_above v S h fileset below number was le)

gives_rise : (v : ServerId) (S : List Doing) → GivesRise v S
gives_rise v [] = tt
gives_rise v (a ∷ S) = (
  gives_rise v S,
  λ h give applies number was.
      (let no : give.number ≤ number → ⊥ =
      λ le. applies.1 (not_above v S h give.fid.fileset give.number number was le) in omega (arith, no)),
)

pub numbers_rise : NumbersRise
numbers_rise = record {
  changes = λ script journal v run. changes_rise script run.start (firsts_of journal) v (past_of journal) run.steps;
  gives = λ script journal v run. gives_rise v (doings_of (firsts_of journal v) v (past_of journal));
}
