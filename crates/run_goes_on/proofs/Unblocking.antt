-- In a run that rests no want waits: the first of those that wait could be decided.
use Rattle.std.proofs.Common.{List, [], inl, inr, subst, ℕ, ◌∷◌, ◌≡◌, ◌⊎◌}
use Rattle.base_types.specs.declared.ids.Node.{Node}
use Rattle.base_types.specs.declared.ids.Node.TheVariants.{Host, Server}
use Rattle.base_types.specs.declared.ids.ServerId.{ServerId}
use Rattle.tree_answers.specs.declared.tree.Tree.{Tree}
use Rattle.token_types.specs.declared.token.Token.{Token}
use Rattle.script_lines.specs.declared.script.Script.{Script}
use Rattle.message_types.specs.declared.message.Body.TheVariants.{Done, Grant}
use Rattle.run_rules.specs.Doings.{Doing, Granted, NoGrace, Pinned, Reserved, after_step, doings_of}
use Rattle.run_rules.specs.Doings.Doing.{Admits, BeginsEpoch, MakesWant, Sent}
use Rattle.run_rules.specs.Kept.{filesets_kept}
use Rattle.run_rules.specs.Past.{Always}
use Rattle.run_rules.specs.Runs.{StepDue, StepsMeet, TakesPart, firsts_of, past_of}
use Rattle.run_rules.specs.ServerMay.{HasRevoked, IsAskedBack}
use Rattle.run_rules.specs.Steps.{steps_of_server}
use Rattle.run_rules.specs.ServerDue.{ServerDue}
use Rattle.run_rules.specs.Wants.{CanDecide, IsBehind, IsInWay, IsQueued}
use Rattle.run_rules.specs.declared.applied.Wanted.{Wanted}
use Rattle.run_rules.specs.declared.journal.Journal.{Journal}
use Rattle.run_rules.specs.declared.step.Step.{Step}
use Rattle.run_tokens.proofs.Words.{acts_after, if_server}
use Rattle.run_goes_on.proofs.Arriving.{due_of, from_one}
use Rattle.run_goes_on.proofs.Deciding.{undecided_none}
use Rattle.run_goes_on.proofs.Gracing.{no_grace_period_stands}
use Rattle.run_goes_on.proofs.Owing.{nothing_is_owed}
use Rattle.run_goes_on.proofs.Queueing.{IsFirst, made_new, none_waits}
use Rattle.run_goes_on.specs.Ended.{NoMoveWaits, NoWantsWait}
use Rattle.run_goes_on.specs.Rest.{RunRests, ServerRests}
use Rattle.run_goes_on.specs.Waiting.{IsQuiet}

-- a server begins with nothing granted
none_granted : (v : ServerId) (first : ℕ) (t : Token) → Granted v (BeginsEpoch first ∷ []) t → ⊥
none_granted v first t (inr old) = elim old.0 [ ]
none_granted v first t (inl (inr (tokens, same, i))) =
    let z : BeginsEpoch first ≡ Admits t.host tokens = same in cc
none_granted v first t (inl (inl (mark, issues))) = elim issues.3 [
  | inl k ↦ (let z : BeginsEpoch first ≡ Sent issues.0 issues.1 mark.moves (Grant k.0) = k.1 in cc)
  | inr k ↦ (let z : BeginsEpoch first ≡ Sent issues.0 issues.1 mark.moves (Done k.0) = k.1 in cc)
]

-- # After each step all that is in the way of a want was asked back
module _ (script : Script) (start : Tree) (firsts : ServerId → ℕ) (v : ServerId) where
  abbrev acts : List Step → List Doing
  acts past = doings_of (firsts v) v past

  abbrev AllAsked : List Doing → Type 0
  AllAsked S = (t : Token) → IsAskedBack v S t → HasRevoked S t

  asked_at : (k : Node) (past : List Step) (s : Step) → StepDue script start firsts k past s → AllAsked (acts past)
      → AllAsked (acts_after v k s (acts past))
  asked_at (Host k) past s due old = old
  asked_at (Server k) past s due old =
      if_server AllAsked k v (after_step s (acts past)) (acts past) (λ e. (its e).sent.revokes) old
    where
      its : k ≡ v → ServerDue script start v (steps_of_server v past) (acts past) s
      its e =
          subst (λ (u : ServerId).
          ServerDue script start u (steps_of_server u past) (doings_of (firsts u) u past) s) e due

  all_asked : (past : List Step) → Always (λ before s. StepDue script start firsts s.node before s) past
      → AllAsked (acts past)
  all_asked [] due = λ t asked. absurd (none_granted v (firsts v) t asked.granted)
  all_asked (s ∷ past) due = asked_at s.node past s due.1 (all_asked past due.0)

  -- a server with a want takes part
  part_at : (k : Node) (past : List Step) (s : Step) (w : Wanted) → TakesPart script k
      → (IsQueued (acts past) w → TakesPart script (Server v)) → IsQueued (acts_after v k s (acts past)) w
      → TakesPart script (Server v)
  part_at (Host k) past s w part old = old
  part_at (Server k) past s w part old =
      if_server (λ (S : List Doing). IsQueued S w → TakesPart script (Server v)) k v (after_step s (acts past))
      (acts past) (λ e waits. subst (λ (u : ServerId). TakesPart script (Server u)) e part) old

  pub takes_part : (past : List Step) → StepsMeet script start firsts past → (w : Wanted) → IsQueued (acts past) w
      → TakesPart script (Server v)
  takes_part [] run w (inl made) = absurd (let z : BeginsEpoch (firsts v) ≡ MakesWant w = made in cc)
  takes_part [] run w (inr old) = elim old.0 [ ]
  takes_part (s ∷ past) run w waits =
      part_at s.node past s w run.1.2 (takes_part past run.0 w) waits

module _ (script : Script) (journal : Journal) (q : IsQuiet script journal) (rests : RunRests script journal)
    (still : NoMoveWaits journal) (v : ServerId) where
  abbrev last : List Doing
  last = doings_of (firsts_of journal v) v (past_of journal)

  -- the first want can be decided
  first_none : (w : Wanted) → IsQueued last w → Unit {0} → IsFirst last (λ u. Unit {0}) w → ⊥
  first_none w waits unit first =
      undecided (inl (record { over = over; free = free; first = unbehind }))
    where
      over : NoGrace last
      over = no_grace_period_stands script journal q v

      unbehind : IsBehind last w → ⊥
      unbehind b = first b.0 tt b.1

      at_rest : ServerRests v (filesets_kept q.run.start v (steps_of_server v (past_of journal))) last
      at_rest =
          rests.servers q.run.start v q.run.starts
          (takes_part script q.run.start (firsts_of journal) v (past_of journal) q.run.steps w waits)

      undecided : CanDecide v last w → ⊥
      undecided decides =
          undecided_none script q.run.start (firsts_of journal) (λ u. from_one _) v (past_of journal) q.run.steps
          (due_of script journal q.run q.dutiful) at_rest.decided w waits (λ c is moves. still v w c waits is moves)
          decides

      granted_none : (t : Token) → Granted v last t → IsInWay w t → ⊥
      granted_none t granted way = nothing_is_owed script journal q v t (record {
        granted = granted;
        unpinned = unpinned;
        revoked = all_asked script q.run.start (firsts_of journal) v (past_of journal)
            (due_of script journal q.run q.dutiful) t (record {
              over = over;
              granted = granted;
              unpinned = unpinned;
              w = w;
              waits = waits;
              blocks_it = way;
            });
      })
        where
          unpinned : Pinned v last t → ⊥
          unpinned pinned =
              undecided (inr (record { over = over; pinned = (t, pinned, way); first = unbehind }))

      free : (t : Token) → Granted v last t ⊎ Reserved last t → IsInWay w t → ⊥
      free t (inl granted) way = granted_none t granted way
      free t (inr reserved) way = at_rest.flushed t reserved

pub no_wants_wait : NoWantsWait
no_wants_wait script journal q rests still v w waits =
    none_waits (last script journal q rests still v)
    (made_new script q.run.start (firsts_of journal) v (past_of journal) q.run.steps) (λ u. Unit {0})
    (first_none script journal q rests still v) w waits tt
