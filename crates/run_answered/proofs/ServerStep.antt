-- A server's step and the entries of a host's calls.
use Rattle.run_answered.proofs.Endings.{ends_label, one_given}
use Rattle.run_contents.proofs.Calls.{one_open}
use Rattle.run_contents.proofs.Grants.{same_decisions}
use Rattle.run_contents.proofs.Runs.{own_run}
use Rattle.run_history.proofs.Causes.{cause_is, CauseIs}
use Rattle.run_history.proofs.Open.{Firm, ends_is_end, one_changing, zero_or}
use Rattle.run_history.proofs.State.{firm_now, whole}
use Rattle.run_history.proofs.Waiting.{still_changing, said_at}
use Rattle.std.proofs.Common.{Bool, List, None, Option, Some, ap, append-nil, append_assoc, arith, false, if◌then◌else◌}
use Rattle.std.proofs.Common.{inl, inr, refl, subst, suc, sym, true, ℕ, ◌++◌, ◌<◌, ◌≤◌, ◌∙◌, ◌∷◌, ◌≡◌, ◌⊎◌}
use Rattle.std.specs.List.{list_any}
use Rattle.std.specs.Option.{option_map_or}
use Rattle.std.specs.Prelude.{[], flat_map}
use Rattle.base_types.specs.declared.ids.FilesetId.{FilesetId}
use Rattle.base_types.specs.declared.ids.HostId.{HostId}
use Rattle.base_types.specs.declared.ids.Node.TheVariants.{Server}
use Rattle.base_types.specs.declared.ids.ServerId.{ServerId}
use Rattle.tree_calls.specs.declared.reply.Reply.TheVariants.{Ok as Fine}
use Rattle.tree_answers.specs.declared.tree.Tree.{Tree}
use Rattle.message_types.specs.Soundness.{IsEnd}
use Rattle.message_types.specs.declared.asking.Change.{Change as ChangeOf}
use Rattle.message_types.specs.declared.giving.AppliedGive.{AppliedGive}
use Rattle.message_types.specs.declared.giving.Ends.{Ends as EndsOf}
use Rattle.message_types.specs.declared.giving.Give.{Give}
use Rattle.message_types.specs.declared.message.Body.{Body}
use Rattle.message_types.specs.declared.message.Body.TheVariants.{Change, Done, GiveBack}
use Rattle.message_types.specs.declared.message.Message.{Message}
use Rattle.script_lines.specs.declared.script.Script.{Script}
use Rattle.run_answered.proofs.Arounds.{AppliedBy, WroteBy, change_of}
use Rattle.run_answered.proofs.Back.{later, on_written}
use Rattle.run_answered.proofs.Entering.{entry_other, entry_own}
use Rattle.run_answered.proofs.State.{Reason, State}
use Rattle.run_answered.proofs.State.Reason.{ByChange, ByGive}
use Rattle.run_answered.proofs.State.State.{Waits, Whole}
use Rattle.run_answered.proofs.Told.{Told, below_or, causes, wanted, written_down}
use Rattle.run_answered.proofs.World.{TookIt, Wrote, all_told, cause_heard, heard}
use Rattle.run_answered.proofs.World.{took_now}
use Rattle.run_history.proofs.Open.{named}
use Rattle.run_history.proofs.Causes.CauseIs.{AppliesNone, Downs, Gives}
use Rattle.run_answered.specs.Entries.{entered, entry_as}
use Rattle.run_rules.specs.Doings.{Doing, Here, IsApplied, SentTo, TakenNow, TookNow, WasWritten, after_cause}
use Rattle.run_rules.specs.Doings.{after_deciding, after_step, deciding, doings_of, epoch}
use Rattle.run_rules.specs.Doings.Doing.{Gets}
use Rattle.run_rules.specs.Doings.Doing.{BeginsEpoch, Flushes, MakesWant, Sent, Took, WritesDown}
use Rattle.run_rules.specs.HostAsks.{HasChanged}
use Rattle.run_rules.specs.Kept.{filesets_after, filesets_kept, filesets_through}
use Rattle.run_rules.specs.Messages.{Changing, Said, epoch_at, home}
use Rattle.run_rules.specs.Past.{EachInTurn, Once, appended}
use Rattle.run_rules.specs.Runs.{StepMeets, StepsMeet, call_entry, entries_in}
use Rattle.run_rules.specs.ServerDecides.{FirstGiven, IsWrittenSo, MayDecideAll, by_cause, decisions, ended_by}
use Rattle.run_rules.specs.ServerDecides.{stored_of}
use Rattle.run_rules.specs.ServerTokens.{ServerTokens}
use Rattle.run_rules.specs.Steps.{steps_of_host, steps_of_server}
use Rattle.run_rules.specs.Tokens.{IsKnown, IsOpen, Made, number_of}
use Rattle.run_rules.specs.declared.applied.Applied.TheVariants.{Done as IsDone, IsDown, Replied, Stored}
use Rattle.run_rules.specs.declared.applied.Applied.TheVariants.{Moves as IsMoved, Wants as IsWanted}
use Rattle.run_parts.proofs.Cells.{cases_host}
use Rattle.run_contents.specs.Steps.{HostRun}
use Rattle.run_due.specs.Begun.{asked_as}
use Rattle.run_tokens.proofs.Invariant.{Alone}
use Rattle.run_tokens.proofs.Words.{applied_at, made_at}
use Rattle.run_rules.specs.declared.applied.Answer.{Answer}
use Rattle.run_rules.specs.declared.applied.Applied.{Applied}
use Rattle.run_rules.specs.declared.applied.Move.TheVariants.{Arrives, Back, Leaves, Left, Part}
use Rattle.run_rules.specs.declared.applied.Written.{Written}
use Rattle.run_rules.specs.declared.step.Asked.{Asked}
use Rattle.run_rules.specs.declared.step.Cause.{Cause}
use Rattle.run_rules.specs.declared.step.Cause.TheVariants.{End, Evict, Flushed, Freight, Lapse, Line, Message as Came}
use Rattle.run_rules.specs.declared.step.Cause.TheVariants.{Restart}
use Rattle.run_tokens.proofs.TokenRun.{works_none}
use Rattle.run_tokens.specs.Unmoved.{MovesNone, is_move}
use Rattle.run_rules.specs.declared.step.Step.{Step}

same_write : (v w : Written) → WritesDown v ≡ WritesDown w → v ≡ w
same_write v w e = cc

-- a state hangs on no more of what was written down and applied
module _ (A : List Step) (host : HostId) (W V : ServerId → Written → Type 0) (G H : ServerId → AppliedGive → Type 0)
    (on : (v : ServerId) (w : Written) → W v w → V v w)
    (back : (v : ServerId) (w : Written) → w.answer.host ≡ host → V v w → W v w)
    (gon : (v : ServerId) (n : AppliedGive) → G v n → H v n)
    (gback : (v : ServerId) (n : AppliedGive) → H v n → G v n) where
  pub map_reason : (x : Asked) → Reason A host W G x → Reason A host V H x
  map_reason x (ByChange v w i h k c) = ByChange v w (on v w i) h k c
  map_reason x (ByGive v g ends made e k at unknown) = ByGive v g ends made e k (gon v (number_of g) at) unknown

  pub map_state : (E : List Asked) → State A host W G E → State A host V H E
  map_state E (Whole e reasons) = Whole e (λ x o. map_reason x (reasons x o))
  map_state E (Waits x o e none_written none_given) =
      Waits x o e (λ v w i h k. none_written v w (back v w h i) h k)
      (λ v g ends made q k at. none_given v g ends made q k (gback v (number_of g) at))

-- the answer to the call that a give-back ends
abbrev ended_as : HostId → EndsOf → Answer
ended_as host ends = record { host = host; k = ends.k; call = ends.call; reply = Fine; first = false }

-- the host's entries in what a server applies
module _ (v : ServerId) (h : HostId) where
  abbrev pub mine : List Applied → List Asked
  mine xs = entered h (flat_map (entries_in v) xs)

  pub mine_split : (xs : List Applied) → mine xs ≡ mine (by_cause xs) ++ mine (decisions xs)
  mine_split [] = refl
  mine_split (IsWanted x ∷ xs) = refl
  mine_split (IsDone x ∷ xs) = refl
  mine_split (Stored g f ss n ∷ xs) = mine_split xs
  mine_split (IsDown g ∷ xs) = mine_split xs
  mine_split (IsMoved (Leaves f to q m) ∷ xs) = mine_split xs
  mine_split (IsMoved (Arrives head) ∷ xs) =
      ap (λ z. entry_as h (call_entry head.written.answer) ++ z) (mine_split xs)
      ∙ sym (append_assoc (entry_as h (call_entry head.written.answer)) (mine (by_cause xs)) (mine (decisions xs)))
  mine_split (IsMoved (Part f last) ∷ xs) = mine_split xs
  mine_split (IsMoved (Back w) ∷ xs) = mine_split xs
  mine_split (IsMoved (Left f to) ∷ xs) = mine_split xs
  mine_split (Replied a ∷ xs) =
      ap (λ z. entry_as h (call_entry a) ++ z) (mine_split xs)
      ∙ sym (append_assoc (entry_as h (call_entry a)) (mine (by_cause xs)) (mine (decisions xs)))

  stored_none : (b : Bool) (x : Applied) (ys : List Applied) → mine (x ∷ ys) ≡ mine ys
      → mine ((if b then x ∷ [] else []) ++ ys) ≡ mine ys
  stored_none true x ys e = e
  stored_none false x ys e = refl

  stored_is : (K : Tree) (g : HostId) (give : Give) (ys : List Applied) → mine (stored_of K g give ++ ys) ≡ mine ys
  stored_is K g give ys = stored_none _ _ ys refl

  ended_none : (g : HostId) (give : Give) → give.ends ≡ None → mine (ended_by g give) ≡ []
  ended_none g give e =
      ap (λ (o : Option EndsOf). mine (option_map_or (λ (ends : EndsOf). Replied (ended_as g ends) ∷ []) o [])) e

  ended_some : (g : HostId) (give : Give) (ends : EndsOf) → give.ends ≡ Some ends
      → mine (ended_by g give) ≡ entry_as h (call_entry (ended_as g ends)) ++ []
  ended_some g give ends e =
      ap (λ (o : Option EndsOf). mine (option_map_or (λ (ends : EndsOf). Replied (ended_as g ends) ∷ []) o [])) e

  ended_mine : (give : Give) (ends : EndsOf) → give.ends ≡ Some ends
      → mine (ended_by h give) ≡ asked_as ends.k ends.call ∷ []
  ended_mine give ends e =
      ended_some h give ends e
      ∙ ap (λ z. z ++ [])
      (entry_own h (ended_as h ends) refl)

  ended_other : (g : HostId) (give : Give) → (g ≡ h → ⊥) → mine (ended_by g give) ≡ []
  ended_other g give two = go give.ends refl
    where
      go : (o : Option EndsOf) → give.ends ≡ o → mine (ended_by g give) ≡ []
      go None e = ended_none g give e
      go (Some ends) e =
          ended_some g give ends e
          ∙ ap (λ z. z ++ [])
          (entry_other h (ended_as g ends) two)

-- what was written down so, in other words
was_written : (S : List Doing) (w : Written) → Wrote S w → WasWritten S w.answer.host w.fileset w.number
was_written [] w o = elim o [ ]
was_written (a ∷ S) w (inl q) = inl (w, q, refl, refl, refl)
was_written (a ∷ S) w (inr o) = inr (was_written S w o)

-- doings that the cause of a step leaves
module _ (P : List Doing → Doing → Type 0) where
  pub cause_on : (c : Cause) (S : List Doing) → Once P S → Once P (after_cause c S)
  cause_on (Came m) S o = inr o
  cause_on (Restart line) S o = inr o
  cause_on Flushed S o = inr o
  cause_on (Line line) S o = o
  cause_on Lapse S o = o
  cause_on Evict S o = o
  cause_on (Freight freight) S o = inr o
  cause_on End S o = o

  pub step_on : (s : Step) (S : List Doing) → Once P S → Once P (after_step s S)
  step_on s S o =
      on_written P s S (later P (deciding s.applied) (after_cause s.cause S) (cause_on s.cause S o))

wrote_cause : (w : Written) (c : Cause) (S : List Doing) → Wrote (after_cause c S) w → Wrote S w
wrote_cause w (Came m) S (inl q) = absurd (let z : Took m.host m.epoch m.moves m.body ≡ WritesDown w = q in cc)
wrote_cause w (Came m) S (inr o) = o
wrote_cause w (Restart line) S (inl q) = absurd (let z : BeginsEpoch (suc (epoch S)) ≡ WritesDown w = q in cc)
wrote_cause w (Restart line) S (inr o) = o
wrote_cause w Flushed S (inl q) = absurd (let z : Flushes ≡ WritesDown w = q in cc)
wrote_cause w Flushed S (inr o) = o
wrote_cause w (Line line) S o = o
wrote_cause w Lapse S o = o
wrote_cause w Evict S o = o
wrote_cause w (Freight freight) S (inl q) = absurd (let z : Gets freight.server freight.moves freight.body ≡ WritesDown w = q in cc)
wrote_cause w (Freight freight) S (inr o) = o
wrote_cause w End S o = o

module _ (script : Script) (start : Tree) (firsts : ServerId → ℕ) (real : (v : ServerId) → 0 < firsts v)
    (past : List Step) (run : StepsMeet script start firsts past) (h : HostId)
    (v : ServerId) (s : Step) (met : StepMeets script start firsts (Server v) past s) where
  abbrev A : List Step
  A = steps_of_host h past

  abbrev S : List Doing
  S = doings_of (firsts v) v past

  -- what is written down and applied once the server has done so much
  abbrev W : List Doing → ServerId → Written → Type 0
  W D u w = WroteBy firsts past u w ⊎ ((u ≡ v) × Wrote D w)

  abbrev G : List Doing → ServerId → AppliedGive → Type 0
  G D u n = AppliedBy firsts past h u n ⊎ ((u ≡ v) × IsApplied v D h n)

  ran : HostRun script h A
  ran = own_run script start firsts past run h

  firm : Firm h A
  firm = firm_now script start firsts real past run h

  -- what is so of its doings in the midst of the step
  record Mid (D : List Doing) : Type 0 where
    pub told : Told D
    pub said : (e n : ℕ) (b : Body) → TookIt D h e n b → Said A v e n b
    pub sent : (e n : ℕ) (b : Body) → SentTo S h e n b → SentTo D h e n b
    pub wrote : (w : Written) → Wrote S w → Wrote D w
    pub behind : epoch_at A v ≤ epoch D

  caused_epoch : (c : Cause) → epoch S ≤ epoch (after_cause c S)
  caused_epoch (Came m) = omega arith
  caused_epoch (Restart line) = omega arith
  caused_epoch Flushed = omega arith
  caused_epoch (Line line) = omega arith
  caused_epoch Lapse = omega arith
  caused_epoch Evict = omega arith
  caused_epoch (Freight freight) = omega arith
  caused_epoch End = omega arith

  caused : Mid (after_cause s.cause S)
  caused = record {
    told = causes s.cause S (all_told script start firsts real past run v);
    said = λ e n b took. cause_heard script start firsts real h e n b v past s S met.1
        (heard script start firsts real h e n b past run v) took;
    sent = λ e n b o. cause_on (λ before a. a ≡ Sent h e n b) s.cause S o;
    wrote = λ w o. cause_on (λ before a. a ≡ WritesDown w) s.cause S o;
    behind = (
        let le = (((whole script start firsts real past run).at v).link h).behind in
        let up = caused_epoch s.cause in
        omega (arith, le, up)
        );
  }

  -- A give-back of the host that counts as applied once the cause is taken: it counted before, or it is the cause.
  case_applied : (g : Give) → Made A g → IsApplied v (after_cause s.cause S) h (number_of g)
      → IsApplied v S h (number_of g)
      ⊎ ((n : ℕ) × TakenNow S s h n (GiveBack g) × Here v S g.fid.fileset n)
  case_applied g made counts = go s.cause refl counts
    where
      go : (c : Cause) → s.cause ≡ c → IsApplied v (after_cause c S) h (number_of g)
          → IsApplied v S h (number_of g)
          ⊎ ((n : ℕ) × TakenNow S s h n (GiveBack g) × Here v S g.fid.fileset n)
      go (Came m) q (inr o) = inl o
      go (Came m) q (inl (give, (moves, here, (is, live)), files, le)) =
          elim (below_or g.number give.number le) [
            | inl lt ↦ inl ((((whole script start firsts real past run).at v).link h).known (number_of g)
                (made_at v S g.fid.fileset moves ((whole script start firsts real past run).at v).served.put here)
                (alone.said_first give g v (epoch S) moves said made (sym files) lt))
            | inr same ↦ (
                let one : give ≡ g =
                alone.numbers give g (alone.said_made give v (epoch S) moves said).0 made files (sym same) in
                inr (
                  moves,
                  ((m, q, host, at, stays, body ∙ ap GiveBack one), live),
                  here,
                )
                )
          ]
        where
          alone : Alone A
          alone = (whole script start firsts real past run).alone h

          host : m.host ≡ h
          host = cc

          at : m.epoch ≡ epoch S
          at = cc

          stays : m.moves ≡ moves
          stays = cc

          body : m.body ≡ GiveBack give
          body = cc

          said : Said A v (epoch S) moves (GiveBack give)
          said =
              subst (λ (y : HostId × ℕ × ℕ × Body). Said (steps_of_host y.0 past) v y.1 y.2 y.3)
              (λ i. (host i, at i, stays i, body i)) (met.1 m q).2
      go (Restart line) q (inl k) = absurd (let z : BeginsEpoch (suc (epoch S)) ≡ _ = k.1.2.0 in cc)
      go (Restart line) q (inr o) = inl o
      go Flushed q (inl k) = absurd (let z : Flushes ≡ _ = k.1.2.0 in cc)
      go Flushed q (inr o) = inl o
      go (Line line) q o = inl o
      go Lapse q o = inl o
      go Evict q o = inl o
      go (Freight freight) q (inl k) = absurd (let z : Gets freight.server freight.moves freight.body ≡ _ = k.1.2.0 in cc)
      go (Freight freight) q (inr o) = inl o
      go End q o = inl o

  -- what a first give-back of the host applies
  given_mine : (K : Tree) (g : Give) (ends : EndsOf) → by_cause s.applied ≡ stored_of K h g ++ ended_by h g
      → g.ends ≡ Some ends → mine v h (by_cause s.applied) ≡ asked_as ends.k ends.call ∷ []
  given_mine K g ends eq e =
      ap (mine v h) eq ∙ (stored_is v h K h g (ended_by h g) ∙ ended_mine v h g ends e)

  abbrev kept_then : Tree
  kept_then = filesets_kept start v (steps_of_server v past)

  -- the cause ends no call of the host
  cause_keeps : mine v h (by_cause s.applied) ≡ [] → (E : List Asked)
      → State A h (WroteBy firsts past) (AppliedBy firsts past h) E
      → State A h (W (after_cause s.cause S)) (G (after_cause s.cause S)) E
  cause_keeps none E (Whole e reasons) =
      Whole e (λ x o. again x (reasons x o))
    where
      again : (x : Asked) → Reason A h (WroteBy firsts past) (AppliedBy firsts past h) x
          → Reason A h (W (after_cause s.cause S)) (G (after_cause s.cause S)) x
      again x (ByChange u w i hh k c) = ByChange u w (inl i) hh k c
      again x (ByGive u g ends made q k at unknown) = ByGive u g ends made q k (inl at) unknown
  cause_keeps none E (Waits x o e none_written none_given) =
      Waits x o e
      (λ u w i hh k. elim i [
        | inl i ↦ none_written u w i hh k
        | inr i ↦ none_written v w (wrote_cause w s.cause S i.1) hh k
      ])
      (λ u g ends made q k at. elim at [
        | inl at ↦ none_given u g ends made q k at
        | inr at ↦ elim (case_applied g made at.1) [
          | inl was ↦ none_given v g ends made q k was
          | inr now ↦ (
              let first : FirstGiven v S s h g = (now, λ was. none_given v g ends made q k was) in
              let some = given_mine kept_then g ends (met.0.works.applies.given h g first) q in
              let bad : asked_as ends.k ends.call ∷ [] ≡ [] = sym some ∙ none in
              cc
              )
        ]
      ])

  -- the cause is a give-back of the host that ends a call
  module _ (m : Message) (g : Give) (ends : EndsOf) (cause : s.cause ≡ Came m) (body : m.body ≡ GiveBack g)
      (first : FirstGiven v S s h g) (is : g.ends ≡ Some ends) where
    one_message : (x : Message) → s.cause ≡ Came x → m ≡ x
    one_message x e = let r : Came m ≡ Came x = sym cause ∙ e in cc

    abbrev taken : Message
    taken = first.0.1.0.0

    said : Said A v taken.epoch taken.moves (GiveBack g)
    said =
        subst (λ (y : HostId × Body). Said (steps_of_host y.0 past) v taken.epoch taken.moves y.1)
        (λ i. (first.0.1.0.2 i, first.0.1.0.5 i)) (met.1 taken first.0.1.0.1).2

    made : Made A g
    made = (((whole script start firsts real past run).alone h).said_made g v taken.epoch taken.moves said).0

    at_home : home g.fid.fileset ≡ v
    at_home =
        made_at v S g.fid.fileset first.0.0 ((whole script start firsts real past run).at v).served.put first.0.2

    unknown : IsKnown A g → ⊥
    unknown known =
        first.1 ((((whole script start firsts real past run).at v).link h).known (number_of g) at_home known)

    open_now : IsOpen A (asked_as ends.k ends.call)
    open_now = firm.given_open g ends made is unknown

    no_reason : (x : Asked) → asked_as ends.k ends.call ≡ x
        → Reason A h (WroteBy firsts past) (AppliedBy firsts past h) x → ⊥
    no_reason x same (ByChange u w i hh k changing) =
        let c = change_of script start firsts real past run h u w i hh in
        let has : HasChanged A u c.0 = (u, c.1, c.2, c.3, λ z. refl) in
        let out : Changing A u c.0.fileset c.0.number =
        subst (λ (y : FilesetId × ℕ). Changing A u y.0 y.1) (λ i. (sym c.4 i, sym c.5 i)) changing in
        let one = one_open script h A ran (asked_as c.0.k c.0.call) (asked_as ends.k ends.call)
        (firm.asked u c.0 has out).is_open open_now in
        let l = ends_label script h A ran g ends made is in
        (firm.asked u c.0 has out).no_end
        (subst IsEnd (sym (ap (λ (z : Asked). z.call) one ∙ l.2)) (ends_is_end l.0))
    no_reason x same (ByGive u other others made_it e k at not_known) =
        let one = one_given script start firsts real past run h other g others ends made_it made e is not_known
        unknown in
        let there : home g.fid.fileset ≡ u = (
        ap (λ (y : Give). home y.fid.fileset) (sym one)
        ∙ applied_at u (doings_of (firsts u) u past) h (number_of other)
        ((whole script start firsts real past run).at u).served.put at
        ) in
        first.1 (subst (λ (y : ServerId × Give). IsApplied y.0 (doings_of (firsts y.0) y.0 past) h (number_of y.1))
        (λ i. ((sym there ∙ at_home) i, one i)) at)

    now_applied : IsApplied v (after_cause s.cause S) h (number_of g)
    now_applied =
        subst (λ (c : Cause). IsApplied v (after_cause c S) h (number_of g)) (sym first.0.1.0.1)
        (inl (
          g,
          (
            first.0.0,
            first.0.2,
            (
              λ i. Took (first.0.1.0.2 i) (first.0.1.0.3 i) (first.0.1.0.4 i) (first.0.1.0.5 i),
              first.0.1.1,
            ),
          ),
          refl,
          omega arith,
        ))

    cause_ends : (E : List Asked) → State A h (WroteBy firsts past) (AppliedBy firsts past h) E
        → State A h (W (after_cause s.cause S)) (G (after_cause s.cause S)) (E ++ asked_as ends.k ends.call ∷ [])
    cause_ends E (Whole e reasons) =
        absurd (no_reason (asked_as ends.k ends.call) refl (reasons (asked_as ends.k ends.call) open_now))
    cause_ends E (Waits y o e none_written none_given) =
        let same = one_open script h A ran (asked_as ends.k ends.call) y open_now o in
        Whole (ap (λ z. E ++ z ∷ []) same ∙ e) (λ x p.
        let one = one_open script h A ran (asked_as ends.k ends.call) x open_now p in
        ByGive v g ends made is (ap (λ (z : Asked). z.k) one) (inr (refl, now_applied)) unknown)

  -- the cause
  cause_state : (E : List Asked) → State A h (WroteBy firsts past) (AppliedBy firsts past h) E
      → State A h (W (after_cause s.cause S)) (G (after_cause s.cause S)) (E ++ mine v h (by_cause s.applied))
  cause_state E state = by (cause_is v S kept_then s met.0.works.applies)
    where
      none : mine v h (by_cause s.applied) ≡ []
          → State A h (W (after_cause s.cause S)) (G (after_cause s.cause S)) (E ++ mine v h (by_cause s.applied))
      none e =
          subst (State A h (W (after_cause s.cause S)) (G (after_cause s.cause S)))
          (sym (ap (λ z. E ++ z) e ∙ append-nil E)) (cause_keeps e E state)

      by : CauseIs v S kept_then s
          → State A h (W (after_cause s.cause S)) (G (after_cause s.cause S)) (E ++ mine v h (by_cause s.applied))
      by (Downs g e) = none (ap (mine v h) e)
      by (AppliesNone e) = none (ap (mine v h) e)
      by (Gives m g cause body first e) = elim (cases_host m.host h) [
        | inr two ↦ none (ap (mine v h) e
            ∙ (stored_is v h kept_then m.host g (ended_by m.host g) ∙ ended_other v h m.host g two))
        | inl same ↦ go g.ends refl (subst (λ (k : HostId). FirstGiven v S s k g) same first)
            (subst (λ (k : HostId). by_cause s.applied ≡ stored_of kept_then k g ++ ended_by k g) same e)
      ]
        where
          go : (o : Option EndsOf) → g.ends ≡ o → FirstGiven v S s h g
              → by_cause s.applied ≡ stored_of kept_then h g ++ ended_by h g
              → State A h (W (after_cause s.cause S)) (G (after_cause s.cause S)) (E ++ mine v h (by_cause s.applied))
          go None q here eq =
              none (ap (mine v h) eq ∙ (stored_is v h kept_then h g (ended_by h g) ∙ ended_none v h h g q))
          go (Some ends) q here eq =
              subst (λ z. State A h (W (after_cause s.cause S)) (G (after_cause s.cause S)) (E ++ z))
              (sym (given_mine kept_then g ends eq q)) (cause_ends m g ends cause body here q E state)

  -- a Change of the host is written down
  module _ (D : List Doing) (mid : Mid D) (K : Tree) (x : Written) (so : IsWrittenSo v K D x)
      (tokens : ServerTokens v D (WritesDown x)) (host : x.answer.host ≡ h) where
    taken_so : (c : ChangeOf) × (n : ℕ) × TookNow D x.answer.host n (Change c) × (c.fileset ≡ x.fileset)
        × (c.number ≡ x.number) × (c.k ≡ x.answer.k) × (c.call ≡ x.answer.call)
    taken_so = tokens.writes x refl

    abbrev c : ChangeOf
    c = taken_so.0

    said_so : Said A v (epoch D) taken_so.1 (Change c)
    said_so =
        mid.said (epoch D) taken_so.1 (Change c)
        (subst (λ (g : HostId). TookIt D g (epoch D) taken_so.1 (Change c)) host
        (took_now D x.answer.host taken_so.1 (Change c) taken_so.2))

    now : epoch_at A v ≡ epoch D
    now =
        let le = ((whole script start firsts real past run).alone h).said_epoch v (epoch D) taken_so.1 (Change c)
        said_so in
        let ge = mid.behind in
        omega (arith, le, ge)

    has : HasChanged A v c
    has = (v, epoch D, taken_so.1, said_so, λ z. refl)

    -- so its host waits for it
    changing : Changing A v c.fileset c.number
    changing =
        still_changing script start firsts real h v (epoch D) taken_so.1 c past run said_so now
        (λ k d sent f m. mid.told.fresh so.w so.change so.waits so.request k d
        (subst (λ (g : HostId). SentTo D g (epoch D) k (Done d)) (sym host ∙ so.host)
        (mid.sent (epoch D) k (Done d) sent)) (f ∙ (taken_so.3 ∙ so.fileset)) (m ∙ (taken_so.4 ∙ so.number)))

    open_so : IsOpen A (asked_as c.k c.call)
    open_so = (firm.asked v c has changing).is_open

    -- and nothing of the call was written down, nor ended by a give-back
    none_before : (z : Asked) → Reason A h (W D) (G D) z → ⊥
    none_before z (ByGive u g ends made is k at unknown) =
        let one = one_open script h A ran (asked_as c.k c.call) (asked_as ends.k ends.call) open_so
        (firm.given_open g ends made is unknown) in
        let l = ends_label script h A ran g ends made is in
        (firm.asked v c has changing).no_end
        (subst IsEnd (sym (ap (λ (y : Asked). y.call) one ∙ l.2)) (ends_is_end l.0))
    none_before z (ByChange u w i hw k out) =
        tokens.writes_once x refl (
          x.number,
          omega arith,
          subst (λ (y : HostId × FilesetId × ℕ). WasWritten D y.0 y.1 y.2)
              (λ j. ((hw ∙ sym host) j, (one.0 ∙ taken_so.3) j, (one.1 ∙ taken_so.4) j))
              (was_written D w in_d),
        )
      where
        one : (w.fileset ≡ c.fileset) × (w.number ≡ c.number)
        one = one_changing script h A ran u v w.fileset c.fileset w.number c.number out changing

        same_server : WroteBy firsts past u w → u ≡ v
        same_server j = elim (zero_or c.fileset.0) [
          | inl zero ↦ sym ((firm.asked u b.0 has_b out_b).at (ap (λ (f : FilesetId). f.0) (b.4 ∙ one.0) ∙ zero))
              ∙ (ap (λ (y : Asked). named y.call) (one_open script h A ran (asked_as b.0.k b.0.call)
              (asked_as c.k c.call) (firm.asked u b.0 has_b out_b).is_open open_so)
              ∙ (firm.asked v c has changing).at zero)
          | inr some ↦ elim (said_at script start firsts real h A ran u b.1 b.2 b.0 b.3) [
            | inl zero ↦ absurd (some (sym (ap (λ (f : FilesetId). f.0) (b.4 ∙ one.0)) ∙ zero))
            | inr there ↦ elim (said_at script start firsts real h A ran v (epoch D) taken_so.1 c said_so) [
              | inl zero ↦ absurd (some zero)
              | inr here ↦ sym there ∙ (ap home (b.4 ∙ one.0) ∙ here)
            ]
          ]
        ]
          where
            b : (b : ChangeOf) × (e : ℕ) × (n : ℕ) × Said A u e n (Change b) × (b.fileset ≡ w.fileset)
                × (b.number ≡ w.number) × (b.k ≡ w.answer.k) × (b.call ≡ w.answer.call)
            b = change_of script start firsts real past run h u w j hw

            has_b : HasChanged A u b.0
            has_b = (u, b.1, b.2, b.3, λ z. refl)

            out_b : Changing A u b.0.fileset b.0.number
            out_b = subst (λ (y : FilesetId × ℕ). Changing A u y.0 y.1) (λ i. (sym b.4 i, sym b.5 i)) out

        in_d : Wrote D w
        in_d = elim i [
          | inl j ↦ mid.wrote w (subst (λ (y : ServerId). WroteBy firsts past y w) (same_server j) j)
          | inr j ↦ j.1
        ]

    write_state : (E : List Asked) → State A h (W D) (G D) E
        → State A h (W (WritesDown x ∷ D)) (G (WritesDown x ∷ D)) (E ++ asked_as x.answer.k x.answer.call ∷ [])
    write_state E (Whole e reasons) = absurd (none_before (asked_as c.k c.call) (reasons (asked_as c.k c.call) open_so))
    write_state E (Waits y o e none_written none_given) =
        Whole (ap (λ z. E ++ z ∷ []) its ∙ e) (λ z p.
        ByChange v x (inr (refl, inl refl)) host
        (sym taken_so.5 ∙ ap (λ (a : Asked). a.k) (one_open script h A ran (asked_as c.k c.call) z open_so p))
        (subst (λ (q : FilesetId × ℕ). Changing A v q.0 q.1) (λ i. (taken_so.3 i, taken_so.4 i)) changing))
      where
        its : asked_as x.answer.k x.answer.call ≡ y
        its =
            (λ i. asked_as (sym taken_so.5 i) (sym taken_so.6 i))
            ∙ one_open script h A ran (asked_as c.k c.call) y open_so o

  -- after one decision
  mid_on : (D : List Doing) (a : Doing) → Mid D → Told (a ∷ D) → ((e n : ℕ) (b : Body) → a ≡ Took h e n b → ⊥)
      → epoch (a ∷ D) ≡ epoch D → Mid (a ∷ D)
  mid_on D a mid told none same = record {
    told = told;
    said = λ e n b took. elim took [
      | inl q ↦ absurd (none e n b q)
      | inr o ↦ mid.said e n b o
    ];
    sent = λ e n b o. inr (mid.sent e n b o);
    wrote = λ w o. inr (mid.wrote w o);
    behind = (let le = mid.behind in omega (arith, le, same));
  }

  -- it changes nothing for the host
  keeps : (D : List Doing) (a : Doing) → ((w : Written) → w.answer.host ≡ h → a ≡ WritesDown w → ⊥)
      → ((g : HostId) (e n : ℕ) (b : Body) → a ≡ Took g e n b → ⊥) → (E : List Asked) → State A h (W D) (G D) E
      → State A h (W (a ∷ D)) (G (a ∷ D)) E
  keeps D a no_write no_took E state =
      map_state A h (W D) (W (a ∷ D)) (G D) (G (a ∷ D))
      (λ u w i. elim i [
        | inl i ↦ inl i
        | inr i ↦ inr (i.0, inr i.1)
      ])
      (λ u w hh i. elim i [
        | inl i ↦ inl i
        | inr i ↦ elim i.1 [
          | inl q ↦ absurd (no_write w hh q)
          | inr o ↦ inr (i.0, o)
        ]
      ])
      (λ u n i. elim i [
        | inl i ↦ inl i
        | inr i ↦ inr (i.0, inr i.1)
      ])
      (λ u n i. elim i [
        | inl i ↦ inl i
        | inr i ↦ elim i.1 [
          | inl k ↦ absurd (no_took h (epoch D) k.1.0 (GiveBack k.0) k.1.2.0)
          | inr o ↦ inr (i.0, o)
        ]
      ]) E state

  decides : (xs : List Applied) (K : Tree) (D : List Doing) (E : List Asked) → MayDecideAll v K S D s xs
      → EachInTurn (ServerTokens v) (deciding xs) D → Mid D → State A h (W D) (G D) E
      → State A h (W (appended (deciding xs) D)) (G (appended (deciding xs) D)) (E ++ mine v h xs)
  decides [] K D E may tokens mid state = subst (State A h (W D) (G D)) (sym (append-nil E)) state
  decides (IsWanted x ∷ xs) K D E may tokens mid state =
      decides xs (filesets_after s.cause K (IsWanted x)) (MakesWant x ∷ D) E may.1 tokens.1
      (mid_on D (MakesWant x) mid (wanted v S s x K D may.0 mid.told) (λ e n b q. cc) refl)
      (keeps D (MakesWant x) (λ w hh q. cc) (λ g e n b q. cc) E state)
  decides (IsDone x ∷ xs) K D E may tokens mid state =
      subst (State A h (W (appended (deciding xs) (WritesDown x ∷ D))) (G (appended (deciding xs) (WritesDown x ∷ D))))
      (append_assoc E (entry_as h (call_entry x.answer)) (mine v h xs))
      (decides xs (filesets_after s.cause K (IsDone x)) (WritesDown x ∷ D) (E ++ entry_as h (call_entry x.answer)) may.1
      tokens.1 (mid_on D (WritesDown x) mid (written_down v K x D may.0 mid.told) (λ e n b q. cc) refl) one)
    where
      one : State A h (W (WritesDown x ∷ D)) (G (WritesDown x ∷ D)) (E ++ entry_as h (call_entry x.answer))
      one = elim (cases_host x.answer.host h) [
        | inl host ↦ subst (λ z. State A h (W (WritesDown x ∷ D)) (G (WritesDown x ∷ D)) (E ++ z))
            (sym (entry_own h x.answer host)) (write_state D mid K x may.0 tokens.0 host E state)
        | inr two ↦ subst (λ z. State A h (W (WritesDown x ∷ D)) (G (WritesDown x ∷ D)) (E ++ z))
            (sym (entry_other h x.answer two))
            (subst (State A h (W (WritesDown x ∷ D)) (G (WritesDown x ∷ D))) (sym (append-nil E))
            (keeps D (WritesDown x) (λ w hh q. two (ap (λ (y : Written). y.answer.host) (same_write x w q) ∙ hh))
            (λ g e n b q. cc) E state))
      ]
  decides (Replied x ∷ xs) K D E may tokens mid state = elim may.0 [ ]
  decides (Stored g f ss n ∷ xs) K D E may tokens mid state = elim may.0 [ ]
  decides (IsDown g ∷ xs) K D E may tokens mid state = elim may.0 [ ]
  decides (IsMoved move ∷ xs) K D E may tokens mid state = elim may.0 [ ]

  same_deciding : (xs : List Applied) → list_any is_move xs ≡ false → deciding (decisions xs) ≡ deciding xs
  same_deciding [] none = refl
  same_deciding (IsWanted x ∷ xs) none = refl
  same_deciding (IsDone x ∷ xs) none = refl
  same_deciding (IsMoved move ∷ xs) none = absurd (cc)
  same_deciding (Replied x ∷ xs) none = same_deciding xs none
  same_deciding (Stored g f ss n ∷ xs) none = same_deciding xs none
  same_deciding (IsDown g ∷ xs) none = same_deciding xs none

  none_moved : MovesNone s
  none_moved = works_none v kept_then S s met.0.works.applies

  -- all that it applies
  pub applied_state : (E : List Asked) → State A h (WroteBy firsts past) (AppliedBy firsts past h) E
      → State A h (W (after_deciding s S)) (G (after_deciding s S)) (E ++ mine v h s.applied)
  applied_state E state =
      subst (State A h (W (after_deciding s S)) (G (after_deciding s S)))
      (sym (ap (λ z. E ++ z) (mine_split v h s.applied)
      ∙ sym (append_assoc E (mine v h (by_cause s.applied)) (mine v h (decisions s.applied)))))
      (subst (λ (D : List Doing). State A h (W D) (G D)
      ((E ++ mine v h (by_cause s.applied)) ++ mine v h (decisions s.applied)))
      (sym (same_decisions s.applied (after_cause s.cause S) none_moved))
      (decides (decisions s.applied) (filesets_through s.cause (by_cause s.applied) kept_then) (after_cause s.cause S)
      (E ++ mine v h (by_cause s.applied)) met.0.works.decides
      (subst (λ (ds : List Doing). EachInTurn (ServerTokens v) ds (after_cause s.cause S))
      (sym (same_deciding s.applied none_moved))
      met.0.tokens.writes) caused (cause_state E state)))
