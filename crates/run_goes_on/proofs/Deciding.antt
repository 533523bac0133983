-- A want that could be decided at a server where a flush would do nothing is a move of a fileset: all else is decided
-- or answered in time.
use Rattle.std.proofs.Common.{Bool, List, [], ap, false, if◌then◌else◌, inl, inr, refl, subst, suc, sym}
use Rattle.std.proofs.Common.{true, ℕ, ◌&&◌, ◌==◌}
use Rattle.std.proofs.Common.{◌<◌, ◌∙◌, ◌∷◌, ◌≡◌}
use Rattle.std.proofs.lemmas.Bool.{and_parts, eqb-true, false≢true, or_cases}
use Rattle.std.specs.Prelude.{IsTrue, not}
use Rattle.base_types.specs.Ids.{same_fid}
use Rattle.base_types.specs.declared.ids.HostId.{HostId}
use Rattle.base_types.specs.declared.ids.Node.{Node}
use Rattle.base_types.specs.declared.ids.Node.TheVariants.{Host, Server}
use Rattle.base_types.specs.declared.ids.ServerId.{ServerId}
use Rattle.tree_answers.specs.declared.tree.Tree.{Tree}
use Rattle.token_types.specs.Conflicts.{any_conflict, blocks, kinds_conflict, need_of, needs_conflict}
use Rattle.token_types.specs.declared.token.Kind.{Kind}
use Rattle.token_types.specs.declared.token.Kind.TheVariants.{Bytes, Lock, Opening, Status}
use Rattle.token_types.specs.declared.token.Need.{Need}
use Rattle.token_types.specs.declared.token.Token.{Token}
use Rattle.script_lines.specs.declared.script.Script.{Script}
use Rattle.message_types.specs.declared.asking.Change.{Change as ChangeOf}
use Rattle.message_types.specs.declared.asking.Fetch.{Fetch as FetchOf}
use Rattle.message_types.specs.declared.message.Body.TheVariants.{Fetch}
use Rattle.message_types.specs.declared.message.Message.{Message}
use Rattle.run_rules.specs.Doings.{after_shipping}
use Rattle.run_rules.specs.Doings.{Doing, GivesUp, GoesAway, Granted, Listed, NoGrace, Pinned, admitting}
use Rattle.run_rules.specs.Doings.{after_admitting, after_cause, after_deciding, after_sending, after_step, deciding}
use Rattle.run_rules.specs.Doings.{doings_of, epoch, sending}
use Rattle.run_rules.specs.Doings.Doing.{Gets, Puts}
use Rattle.run_rules.specs.Doings.Doing.{Admits, BeginsEpoch, Flushes, MakesWant, Reserves, Sent, Took, WritesDown}
use Rattle.run_rules.specs.HostAsks.{FetchNeeds}
use Rattle.run_rules.specs.HostAsks.FetchNeeds.{OfDirectory, OfFile, OfUnknown}
use Rattle.run_rules.specs.HostMay.{HostMay}
use Rattle.run_rules.specs.Kept.{filesets_after, filesets_kept, filesets_through}
use Rattle.run_rules.specs.Messages.{Said}
use Rattle.run_rules.specs.Past.{Always, In, appended}
use Rattle.run_rules.specs.Runs.{StepDue, StepMeets, StepsMeet}
use Rattle.run_rules.specs.ServerDecides.{IsOfRow, MayDecideAll, NotRefused, by_cause, decisions}
use Rattle.run_rules.specs.ServerDue.{HasDecided, ServerDue}
use Rattle.run_rules.specs.ServerMay.{ServerMay}
use Rattle.run_rules.specs.Steps.{bare, is_node, steps_of_host, steps_of_server}
use Rattle.run_rules.specs.Tokens.{IsUseKind}
use Rattle.run_rules.specs.Wants.{CanDecide, CanGrant, CanRefuse, IsBehind, IsQueued, IsQueuedBefore, Unwants}
use Rattle.run_rules.specs.Wants.{asker, body_of, has_effect, is_use, moves_fileset, needs_for}
use Rattle.run_rules.specs.declared.applied.Admission.{Admission}
use Rattle.run_rules.specs.declared.applied.Applied.{Applied}
use Rattle.run_rules.specs.declared.applied.Applied.TheVariants.{Done as IsDone, IsDown, Replied, Stored}
use Rattle.run_rules.specs.declared.applied.Applied.TheVariants.{Moves as IsMoved, Wants as IsWanted}
use Rattle.run_rules.specs.declared.applied.Request.{Request}
use Rattle.run_rules.specs.declared.applied.Request.TheVariants.{Change as Changes, Fetch as Asks}
use Rattle.run_rules.specs.declared.applied.Wanted.{Wanted}
use Rattle.run_rules.specs.declared.step.Cause.{Cause}
use Rattle.run_rules.specs.declared.step.Cause.TheVariants.{End, Evict, Flushed, Freight, Lapse}
use Rattle.run_rules.specs.declared.step.Cause.TheVariants.{Line, Message as Came, Restart}
use Rattle.run_rules.specs.declared.step.Step.{Step}
use Rattle.run_contents.proofs.Grants.{all_taken, same_decisions}
use Rattle.run_tokens.proofs.Law.{always}
use Rattle.run_tokens.proofs.TokenRun.{token_run}
use Rattle.run_tokens.proofs.Words.{acts_after, if_server}
use Rattle.run_goes_on.proofs.Positions.{own_run}
use Rattle.run_tokens.proofs.TokenRun.{works_none}
use Rattle.run_tokens.proofs.Ships.{ships_keep}
use Rattle.run_goes_on.proofs.Requests.{decides_not}

-- # What wants need

-- a want that waits needs what its row gave on some filesets
abbrev AllNeed : List Doing → Type 0
AllNeed S = (w : Wanted) → IsQueued S w → (tree : Tree) × (w.needs ≡ needs_for tree w.host w.request)

on : (S : List Doing) (a : Doing) → ((w : Wanted) → a ≡ MakesWant w → ⊥) → AllNeed S → AllNeed (a ∷ S)
on S a never old w (inl made) = absurd (never w made)
on S a never old w (inr k) = old w k.0

one_want : (v w : Wanted) → MakesWant v ≡ MakesWant w → v ≡ w
one_want v w e = cc

decides : (v : ServerId) (before : List Doing) (s : Step) (xs : List Applied) (tree : Tree) (S : List Doing)
    → MayDecideAll v tree before S s xs → AllNeed S → AllNeed (appended (deciding xs) S)
decides v before s [] tree S may old = old
decides v before s (IsWanted x ∷ xs) tree S may old =
    decides v before s xs (filesets_after s.cause tree (IsWanted x)) (MakesWant x ∷ S) may.1 made
  where
    made : AllNeed (MakesWant x ∷ S)
    made w (inr k) = old w k.0
    made w (inl e) = (
      tree,
      subst (λ (z : Wanted). z.needs ≡ needs_for tree z.host z.request) (one_want x w e) may.0.0,
    )
decides v before s (IsDone x ∷ xs) tree S may old =
    decides v before s xs (filesets_after s.cause tree (IsDone x)) (WritesDown x ∷ S) may.1
    (on S (WritesDown x) (λ w e. cc) old)
decides v before s (Replied x ∷ xs) tree S may old = elim may.0 [ ]
decides v before s (Stored h f ss n ∷ xs) tree S may old = elim may.0 [ ]
decides v before s (IsDown h ∷ xs) tree S may old = elim may.0 [ ]
decides v before s (IsMoved move ∷ xs) tree S may old = elim may.0 [ ]

causes : (c : Cause) (S : List Doing) → AllNeed S → AllNeed (after_cause c S)
causes (Came m) S old = on S (Took m.host m.epoch m.moves m.body) (λ w e. cc) old
causes (Restart line) S old = on S (BeginsEpoch (suc (epoch S))) (λ w e. cc) old
causes Flushed S old = on S Flushes (λ w e. cc) old
causes (Line line) S old = old
causes Lapse S old = old
causes Evict S old = old
causes (Freight freight) S old = on S (Gets freight.server freight.moves freight.body) (λ w e. cc) old
causes End S old = old

admits : (cs : List Admission) (S : List Doing) → AllNeed S → AllNeed (appended (admitting cs) S)
admits [] S old = old
admits (c ∷ cs) S old = admits cs (Admits c.host c.tokens ∷ S) (on S (Admits c.host c.tokens) (λ w e. cc) old)

sends : (ms : List Message) (S : List Doing) → AllNeed S → AllNeed (appended (sending ms) S)
sends [] S old = old
sends (m ∷ ms) S old =
    sends ms (Sent m.host m.epoch m.moves m.body ∷ S) (on S (Sent m.host m.epoch m.moves m.body) (λ w e. cc) old)

need_step : (script : Script) (start : Tree) (v : ServerId) (steps : List Step) (S : List Doing) (s : Step)
    → ServerMay script start v steps S s → AllNeed S → AllNeed (after_step s S)
need_step script start v steps S s m old =
    on (after_shipping s S) (Reserves s.reserved) (λ w e. cc)
    (ships_keep AllNeed (λ T to n b was. on T (Puts to n b) (λ w e. cc) was) s.shipped (after_sending s S)
    (sends s.sent (after_admitting s S) (admits s.admitted (after_deciding s S)
    (subst AllNeed (sym (same_decisions s.applied (after_cause s.cause S)
    (works_none v (filesets_kept start v steps) S s m.works.applies)))
    (decides v S s (decisions s.applied) (filesets_through s.cause (by_cause s.applied) (filesets_kept start v steps))
    (after_cause s.cause S) m.works.decides (causes s.cause S old))))))

-- # No pinned token is in the way of a Fetch

abbrev ArePlain : List Need → Type 0
ArePlain needs = (n : Need) → In n needs → IsUseKind n.kind → ⊥

-- a Fetch asks for no lock and no open token
fetch_plain : (script : Script) (host : HostId) (A : List Step) → Always (HostMay script host) A → (v : ServerId)
    (e n : ℕ) (f : FetchOf) → Said A v e n (Fetch f) → ArePlain f.needs
fetch_plain script host [] run v e n f said = elim said [ ]
fetch_plain script host (s ∷ A) run v e n f (inr old) = fetch_plain script host A run.0 v e n f old
fetch_plain script host (s ∷ A) run v e n f (inl sends) = elim (run.1.asks.fetches f (v, e, n, sends)) [
  | inl again ↦ (let has = again.0 in fetch_plain script host A run.0 has.0 has.1 has.2 f has.3)
  | inr new ↦ by new.needs
]
  where
    two : (needs : List Need) (a b : Need) → needs ≡ a ∷ b ∷ [] → (IsUseKind a.kind → ⊥) → (IsUseKind b.kind → ⊥)
        → ArePlain needs
    two needs a b is p q m i u = elim (subst (In m) is i) [
      | inl e ↦ p (subst (λ (x : Need). IsUseKind x.kind) e u)
      | inr j ↦ elim j [
        | inl e ↦ q (subst (λ (x : Need). IsUseKind x.kind) e u)
        | inr k ↦ elim k [ ]
      ]
    ]

    one : (needs : List Need) (a : Need) → needs ≡ a ∷ [] → (IsUseKind a.kind → ⊥) → ArePlain needs
    one needs a is p m i u = elim (subst (In m) is i) [
      | inl e ↦ p (subst (λ (x : Need). IsUseKind x.kind) e u)
      | inr k ↦ elim k [ ]
    ]

    by : {held : List Token} {needs : List Need} → FetchNeeds A s held needs f.fid f.needs → ArePlain f.needs
    by (OfDirectory at is) = two f.needs _ _ is (λ u. u) (λ u. u)
    by (OfUnknown other lacks is) = one f.needs _ is (λ u. u)
    by (OfFile other held needs) = λ m i u. (needs.only m i).1 u

pinned_use : (v : ServerId) (S : List Doing) (t : Token) → Pinned v S t → IsUseKind t.kind
pinned_use v [] t p = elim p [ ]
pinned_use v (a ∷ S) t p = elim p.0 [ inl k ↦ k.3 | inr old ↦ pinned_use v S t old ]

pinned_granted : (v : ServerId) (S : List Doing) (t : Token) → Pinned v S t → Granted v S t
pinned_granted v [] t p = elim p [ ]
pinned_granted v (a ∷ S) t p = p.1

kinds_apart : (a b : Kind) → IsUseKind a → (IsUseKind b → ⊥) → kinds_conflict a b ≡ false
kinds_apart (Lock writing span) (Bytes update other) u n = refl
kinds_apart (Lock writing span) (Status update) u n = refl
kinds_apart (Lock writing span) (Lock update other) u n = absurd (n tt)
kinds_apart (Lock writing span) (Opening other) u n = absurd (n tt)
kinds_apart (Opening kind) (Bytes update other) u n = refl
kinds_apart (Opening kind) (Status update) u n = refl
kinds_apart (Opening kind) (Lock update other) u n = absurd (n tt)
kinds_apart (Opening kind) (Opening other) u n = absurd (n tt)
kinds_apart (Bytes update span) b u n = elim u [ ]
kinds_apart (Status update) b u n = elim u [ ]

none_conflict : (a : Need) (needs : List Need) → IsUseKind a.kind → ArePlain needs → any_conflict a needs ≡ true → ⊥
none_conflict a [] u plain e = false≢true e
none_conflict a (b ∷ needs) u plain e =
    elim (or_cases (needs_conflict a b) (any_conflict a needs) e) [
      | inl now ↦ false≢true (sym (kinds_apart a.kind b.kind u (plain b (inl refl)))
          ∙ (and_parts (same_fid a.fid b.fid) (kinds_conflict a.kind b.kind) now).1)
      | inr later ↦ none_conflict a needs u (λ n i. plain n (inr i)) later
    ]

way_conflicts : (host : HostId) (needs : List Need) (t : Token) → IsTrue (blocks host needs t)
    → any_conflict (need_of t) needs ≡ true
way_conflicts host needs t way = (and_parts _ (any_conflict (need_of t) needs) way).1

-- # After a flush all is as before

module _ (v : ServerId) (S : List Doing) where
  abbrev F : List Doing
  F = Flushes ∷ S

  queued_on : (w : Wanted) → IsQueued S w → IsQueued F w
  queued_on w q = inr (q, none)
    where
      none : Unwants S Flushes w → ⊥
      none (inl d) = decides_not Flushes w.host w.request (λ e n c z. cc) (λ y z. cc) d
      none (inr (inl k)) = let z = k.1 in cc
      none (inr (inr (inl (inl z)))) = let y = z.2 in cc
      none (inr (inr (inl (inr z)))) = let y = z.0.1 in cc
      none (inr (inr (inr z))) = let y = z.1 in cc

  behind_back : (w : Wanted) → IsBehind F w → IsBehind S w
  behind_back w b = (b.0, before_back b.0 b.1, b.2)
    where
      before_back : (u : Wanted) → IsQueuedBefore F u w → IsQueuedBefore S u w
      before_back u k = elim k.0 [
        | inl made ↦ absurd (let z : Flushes ≡ MakesWant w = made.1 in cc)
        | inr old ↦ old
      ]

  granted_back : (t : Token) → Granted v F t → Granted v S t
  granted_back t (inr k) = k.0
  granted_back t (inl (inr (tokens, same, i))) = absurd (let z : Flushes ≡ Admits t.host tokens = same in cc)
  granted_back t (inl (inl (mark, issues))) = elim issues.3 [
    | inl k ↦ (let z = k.1 in absurd (cc))
    | inr k ↦ (let z = k.1 in absurd (cc))
  ]

  granted_on : (t : Token) → Granted v S t → Granted v F t
  granted_on t g = inr (g, (λ new. (let z = new.1 in cc)), gives, goes)
    where
      gives : GivesUp v S Flushes t.host t.id → ⊥
      gives (inl k) = let z = k.1.2.0 in cc
      gives (inr k) = let z = k.1.2.0 in cc

      goes : GoesAway S Flushes t.host → ⊥
      goes (inl z) = let y = z.2 in cc
      goes (inr z) = let y = z.0.1 in cc

  grace_on : NoGrace S → NoGrace F
  grace_on over h live = inr (over h (was live.0, λ gone. live.1 (inr gone)), λ new. (let z = new.1 in cc))
    where
      was : Listed F h → Listed S h
      was (inl k) = let z = k.0.2 in absurd (cc)
      was (inr l) = l

  grant_on : (w : Wanted) → CanGrant v S w → CanGrant v F w
  grant_on w can = record {
    over = grace_on can.over;
    free = λ t k. can.free t (elim k [
      | inl granted ↦ inl (granted_back t granted)
      | inr (inl x) ↦ absurd (let z : Flushes ≡ Reserves x.0 = x.1 in cc)
      | inr (inr x) ↦ inr x.0
    ]);
    first = λ b. can.first (behind_back w b);
  }

  refuse_on : (w : Wanted) → CanRefuse v S w → CanRefuse v F w
  refuse_on w can = record {
    over = grace_on can.over;
    pinned = (
      can.pinned.0,
      (inr can.pinned.1, granted_on can.pinned.0 (pinned_granted v S can.pinned.0 can.pinned.1)),
      can.pinned.2,
    );
    first = λ b. can.first (behind_back w b);
  }

  decide_on : (w : Wanted) → CanDecide v S w → CanDecide v F w
  decide_on w (inl can) = inl (grant_on w can)
  decide_on w (inr can) = inr (refuse_on w can)

-- # What is so at the end of each step

server_is : (k v : ServerId) → (k.0 == v.0) ≡ true → k ≡ v
server_is k v e = let same = eqb-true k.0 v.0 e in λ i. record { 0 = same i }

-- what can be granted, settled or entered is
record AllTold (v : ServerId) (tree : Tree) (S : List Doing) : Type 0 where
  pub grants : (w : Wanted) (f : FetchOf) → IsQueued S w → w.request ≡ Asks f → CanGrant v S w → ⊥
  pub uses : (w : Wanted) (c : ChangeOf) → IsQueued S w → w.request ≡ Changes c → is_use c.call ≡ true
      → NotRefused tree w.host c → CanGrant v S w → ⊥
  pub others : (w : Wanted) (c : ChangeOf) → IsQueued S w → w.request ≡ Changes c → is_use c.call ≡ true
      → NotRefused tree w.host c → (IsOfRow tree w c → ⊥) → CanDecide v S w → ⊥
  pub enters : (w : Wanted) (c : ChangeOf) → IsQueued S w → w.request ≡ Changes c → c.enter ≡ true
      → NotRefused tree w.host c → CanGrant v S w → ⊥

module _ (script : Script) (start : Tree) (firsts : ServerId → ℕ) (real : (v : ServerId) → 0 < firsts v)
    (v : ServerId) where
  abbrev acts : List Step → List Doing
  acts past = doings_of (firsts v) v past

  abbrev kept : List Step → Tree
  kept past = filesets_kept start v (steps_of_server v past)

  need_at : (k : Node) (past : List Step) (s : Step) → StepMeets script start firsts k past s → AllNeed (acts past)
      → AllNeed (acts_after v k s (acts past))
  need_at (Host k) past s m old = old
  need_at (Server k) past s m old =
      if_server AllNeed k v (after_step s (acts past)) (acts past)
      (λ e. need_step script start v (steps_of_server v past) (acts past) s
      (subst (λ (w : ServerId). ServerMay script start w (steps_of_server w past) (doings_of (firsts w) w past) s) e
      m.0) old) old

  all_need : (past : List Step) → StepsMeet script start firsts past → AllNeed (acts past)
  all_need [] run w (inl made) = absurd (let z : BeginsEpoch (firsts v) ≡ MakesWant w = made in cc)
  all_need [] run w (inr old) = elim old.0 [ ]
  all_need (s ∷ past) run w q = need_at s.node past s run.1.0 (all_need past run.0) w q

  told_at : (k : Node) (past : List Step) (s : Step) → StepDue script start firsts k past s
      → AllTold v (kept past) (acts past)
      → AllTold v (filesets_kept start v (if is_node k (Server v) then s ∷ steps_of_server v past
      else steps_of_server v past)) (acts_after v k s (acts past))
  told_at (Host k) past s due old = old
  told_at (Server k) past s due old = go (k.0 == v.0) refl
    where
      go : (b : Bool) → (k.0 == v.0) ≡ b
          → AllTold v (filesets_kept start v (if b then s ∷ steps_of_server v past else steps_of_server v past))
          (if b then after_step s (acts past) else acts past)
      go false e = old
      go true e =
          let due_v : ServerDue script start v (steps_of_server v past) (acts past) s =
          subst (λ (u : ServerId).
          ServerDue script start u (steps_of_server u past) (doings_of (firsts u) u past) s) (server_is k v e) due in
          record {
            grants = due_v.sent.grants;
            uses = due_v.sent.uses;
            others = due_v.sent.others;
            enters = due_v.sent.enters;
          }

  none_queued : (w : Wanted) → IsQueued (acts []) w → ⊥
  none_queued w (inl made) = let z : BeginsEpoch (firsts v) ≡ MakesWant w = made in cc
  none_queued w (inr old) = elim old.0 [ ]

  all_told : (past : List Step) → Always (λ before s. StepDue script start firsts s.node before s) past
      → AllTold v (kept past) (acts past)
  all_told [] due = record {
    grants = λ w f q is can. none_queued w q;
    uses = λ w c q is uses not can. none_queued w q;
    others = λ w c q is uses not row can. none_queued w q;
    enters = λ w c q is enter not can. none_queued w q;
  }
  all_told (s ∷ past) due = told_at s.node past s due.1 (all_told past due.0)

  -- # So what can be decided still is a move
  module _ (run : List Step) (meets : StepsMeet script start firsts run)
      (due : Always (λ before s. StepDue script start firsts s.node before s) run)
      (idle : HasDecided v (kept run) (acts run) (Flushes ∷ acts run) (bare (Server v) Flushed)) (w : Wanted)
      (waits : IsQueued (acts run) w) where
    told : AllTold v (kept run) (acts run)
    told = all_told run due

    fetch_none : (f : FetchOf) → w.request ≡ Asks f → CanDecide v (acts run) w → ⊥
    fetch_none f is (inl can) = told.grants w f waits is can
    fetch_none f is (inr can) =
        let t = can.pinned.0 in
        none_conflict (need_of t) w.needs (pinned_use v (acts run) t can.pinned.1) plain
        (way_conflicts (asker w) w.needs t can.pinned.2)
      where
        said : Said (steps_of_host w.host run) v (epoch (acts run)) w.moves (Fetch f)
        said =
            subst (λ (r : Request). Said (steps_of_host w.host run) v (epoch (acts run)) w.moves (body_of r)) is
            ((((always firsts run (token_run script start firsts run real meets)).at v).link w.host).took w.moves
            (body_of w.request) (all_taken script start firsts run meets v w waits))

        plain : ArePlain w.needs
        plain =
            let n = all_need run meets w waits in
            subst ArePlain (sym (n.1 ∙ ap (needs_for n.0 w.host) is))
            (fetch_plain script w.host (steps_of_host w.host run) (own_run script start firsts run meets w.host) v
            (epoch (acts run)) w.moves f said)

    module _ (c : ChangeOf) (is : w.request ≡ Changes c) (can : CanDecide v (acts run) w) where
      accepted : NotRefused (kept run) w.host c
      accepted refusal on =
          idle.refused w c refusal (queued_on v (acts run) w waits) is on (inl (decide_on v (acts run) w can))

      -- one that enters needs nothing
      enter_none : c.enter ≡ true → ⊥
      enter_none enter = elim can [
        | inl grant ↦ told.enters w c waits is enter accepted grant
        | inr refuse ↦ (
            let t = refuse.pinned.0 in
            false≢true (subst (λ (needs : List Need). any_conflict (need_of t) needs ≡ true) none
            (way_conflicts (asker w) w.needs t refuse.pinned.2))
            )
      ]
        where
          none : w.needs ≡ []
          none =
              let n = all_need run meets w waits in
              n.1 ∙ (ap (needs_for n.0 w.host) is ∙ empty n.0)
            where
              if_true : (b : Bool) (other : List Need) → b ≡ true → (if b then [] else other) ≡ []
              if_true true other e = refl
              if_true false other e = absurd (false≢true e)

              empty : (tree : Tree) → needs_for tree w.host (Changes c) ≡ []
              empty tree = if_true c.enter _ enter

      use_none : is_use c.call ≡ true → ⊥
      use_none uses = elim can [
        | inl grant ↦ told.uses w c waits is uses accepted grant
        | inr refuse ↦ told.others w c waits is uses accepted
            (λ row. idle.pinned w c (queued_on v (acts run) w waits) is row accepted
            (refuse_on v (acts run) w refuse)) (inr refuse)
      ]

      effect_none : has_effect c ≡ true → ⊥
      effect_none effect =
          idle.effects w c (queued_on v (acts run) w waits) is effect accepted (decide_on v (acts run) w can)

      change_none : (moves_fileset c.call ≡ true → ⊥) → ⊥
      change_none still = by c.enter refl (is_use c.call) refl (moves_fileset c.call) refl
        where
          by : (a : Bool) → c.enter ≡ a → (b : Bool) → is_use c.call ≡ b → (m : Bool) → moves_fileset c.call ≡ m → ⊥
          by true e b u m k = enter_none e
          by false e true u m k = use_none u
          by false e false u true k = still k
          by false e false u false k =
              effect_none (ap (λ (a : Bool). not a && not (is_use c.call) && not (moves_fileset c.call)) e
              ∙ (ap (λ (b : Bool). not b && not (moves_fileset c.call)) u ∙ ap not k))

    pub undecided_none : ((c : ChangeOf) → w.request ≡ Changes c → moves_fileset c.call ≡ true → ⊥)
        → CanDecide v (acts run) w → ⊥
    undecided_none still can = by w.request refl
      where
        by : (r : Request) → w.request ≡ r → ⊥
        by (Asks f) is = fetch_none f is can
        by (Changes c) is = change_none c is can (still c is)
