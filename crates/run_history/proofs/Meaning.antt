-- In every run what servers write down is a call that servers decide, at its server, or is refused legally.
use Rattle.std.proofs.Common.{Bool, List, None, Option, Some, ap, false, not, refl, subst, sym, true, ℕ, ◌&&◌, ◌==◌}
use Rattle.std.proofs.Common.{◌∙◌, ◌∷◌, ◌≡◌}
use Rattle.std.proofs.lemmas.Bool.{and_parts, false≢true}
use Rattle.std.specs.Option.{option_map_or}
use Rattle.std.specs.Prelude.{[], if◌then◌else◌}
use Rattle.base_types.specs.declared.ids.Fid.{Fid}
use Rattle.base_types.specs.declared.ids.HostId.{HostId}
use Rattle.base_types.specs.declared.ids.Node.{Node}
use Rattle.base_types.specs.declared.ids.Node.TheVariants.{Host, Server}
use Rattle.base_types.specs.declared.ids.ServerId.{ServerId}
use Rattle.base_types.specs.declared.user.User.{User}
use Rattle.tree_calls.specs.Rosters.{user_of}
use Rattle.tree_calls.specs.declared.call.Call.{Call}
use Rattle.tree_calls.specs.declared.call.Call.TheVariants.{MoveFileset}
use Rattle.tree_calls.specs.declared.part.Piece.{Piece}
use Rattle.tree_calls.specs.declared.reply.Refusal.{Refusal}
use Rattle.tree_calls.specs.declared.reply.Refusal.TheVariants.{Exists, InUse, NoFileset}
use Rattle.tree_calls.specs.declared.reply.Reply.TheVariants.{Refused}
use Rattle.tree_filesets.specs.declared.fileset.Fileset.{Fileset}
use Rattle.need_host.specs.Questions.{fileset_of, is_change}
use Rattle.tree_answers.proofs.Refusals.{refused_call}
use Rattle.tree_answers.specs.Answers.{answer_to}
use Rattle.tree_answers.specs.declared.tree.Tree.{Tree}
use Rattle.need_server.specs.Kept.{kept_tree}
use Rattle.need_server.specs.Wants.{want}
use Rattle.message_types.specs.declared.asking.Change.{Change as ChangeOf}
use Rattle.message_types.specs.declared.message.Body.TheVariants.{Change}
use Rattle.script_lines.specs.declared.script.Script.{Script}
use Rattle.need_laws.proofs.Elsewhere.{calls_stay_at_their_server}
use Rattle.need_laws.specs.Idle.{IsOfServer}
use Rattle.need_laws.specs.Known.{IsAt, SameAt}
use Rattle.token_types.specs.Conflicts.{any_conflict, blocks, need_of}
use Rattle.token_types.specs.declared.token.Need.{Need}
use Rattle.token_types.specs.declared.token.Token.{Token}
use Rattle.tree_laws.specs.Parts.{cell_at}
use Rattle.run_rules.specs.Doings.{Doing, TookNow, after_cause, doings_of}
use Rattle.run_rules.specs.Doings.Doing.{MakesWant, WritesDown}
use Rattle.run_rules.specs.Kept.{filesets_after, filesets_kept, filesets_through, is_refusal, pieces_in, takes_gifts}
use Rattle.run_rules.specs.Kept.{tree_given}
use Rattle.run_rules.specs.Past.{Always}
use Rattle.run_rules.specs.Runs.{StepMeets, StepsMeet, firsts_of, past_of}
use Rattle.run_rules.specs.ServerDecides.{DecidedSo, IsOfRow, IsWrittenSo, MayDecideAll, NotRefused, RefusedOn}
use Rattle.run_rules.specs.ServerDecides.{by_cause, decisions, refusal_of}
use Rattle.run_rules.specs.ServerDecides.DecidedSo.{IsRefusedByTable, MeetsPinned, TakesEffect}
use Rattle.run_rules.specs.Steps.{is_node, steps_of_server}
use Rattle.run_rules.specs.Wants.{CanRefuse, asker, body_of, has_effect, is_use, moves_fileset, row_needs}
use Rattle.run_rules.specs.declared.applied.Applied.TheVariants.{Done as IsDone, IsDown, Replied, Stored}
use Rattle.run_rules.specs.declared.applied.Applied.TheVariants.{Moves as IsMoved, Wants as IsWanted}
use Rattle.run_history.specs.Changes.{AgreesKept, EachChange, IsLegalChange, are_home}
use Rattle.run_parts.specs.Cells.{cell_after}
use Rattle.run_parts.specs.Cells.Does.{Nothing}
use Rattle.run_contents.proofs.Grants.{Heard, taken_took}
use Rattle.run_contents.proofs.Keeping.{split}
use Rattle.run_contents.proofs.Servers.{took_in}
use Rattle.run_contents.specs.Doing.{changes, wanted_by}
use Rattle.run_tokens.proofs.Words.{if_server}
use Rattle.run_rules.specs.declared.applied.Applied.{Applied}
use Rattle.run_rules.specs.declared.applied.Written.{Written}
use Rattle.run_rules.specs.declared.step.Cause.{Cause}
use Rattle.run_rules.specs.declared.step.Step.{Step}
use Rattle.run_history.proofs.Asking.{all_well}
use Rattle.run_history.proofs.Moving.{move_alike, move_in_use}
use Rattle.run_history.proofs.Refusing.{enter_alike}
use Rattle.run_history.proofs.Sending.{Good, caused, on_want, on_write}
use Rattle.run_history.specs.Asked.{AsksRightly}
use Rattle.run_history.specs.Asked.AsksRightly.{Decides as AsksDecision, Enters, Moves}
use Rattle.run_history.specs.Meant.{ChangesAreMeant, DecidesMeant, MeantSo, PinnedAreUsed}
use Rattle.run_history.specs.Meant.MeantSo.{Decides, Refuses}

row_is : (K : Tree) (w : _) (c : ChangeOf) → IsOfRow K w c → w.needs ≡ row_needs K w.host c
row_is K w c row = row.0

enter_no_effect : (c : ChangeOf) → c.enter ≡ true → has_effect c ≡ true → ⊥
enter_no_effect c e h =
    false≢true (sym (ap (λ (b : Bool). not b && not (is_use c.call) && not (moves_fileset c.call)) e) ∙ h)

move_no_effect : (c : ChangeOf) → moves_fileset c.call ≡ true → has_effect c ≡ true → ⊥
move_no_effect c e h = go (not c.enter && not (is_use c.call)) (moves_fileset c.call) e h
  where
    go : (a b : Bool) → b ≡ true → (a && not b) ≡ true → ⊥
    go true true q r = false≢true r
    go true false q r = false≢true q
    go false b q r = false≢true r

-- nothing is in the way of no wants
unblocked : (a : HostId) (needs : List Need) (t : Token) → needs ≡ [] → blocks a needs t ≡ true → ⊥
unblocked a needs t e b =
    false≢true (and_parts (not (t.host.0 == a.0)) (any_conflict (need_of t) [])
    (sym (ap (λ ns. blocks a ns t) e) ∙ b)).1

-- what is refused in the tree too is legal
module _ (v : ServerId) (cause : Cause) (S : List Doing) (K : Tree) (x : Written) (T : Tree) (agree : AgreesKept v S K T)
  where
    abbrev host : HostId
    host = x.answer.host

    abbrev call : Call
    call = x.answer.call

    abbrev K' : Tree
    K' = (answer_to K host call).tree

    abbrev T' : Tree
    T' = (answer_to T host call).tree

    refused_legal : (refusal : Refusal) → x.answer.reply ≡ Refused refusal
        → (answer_to T host call).reply ≡ Refused refusal → IsLegalChange v cause K x T
    refused_legal refusal said refused =
        let e : is_refusal x.answer.reply ≡ true = ap is_refusal said in
        let stays : T' ≡ T = refused_call T host call refusal refused in
        record {
          reply = said ∙ sym refused;
          same = subst (λ (b : Bool). SameAt v (if b then K else K') (kept_tree T')) (sym e)
              (subst (λ (t : Tree). SameAt v K (kept_tree t)) (sym stays) agree.same);
          homes = subst (λ (t : Tree). are_home t ≡ true) (sym stays) agree.homes;
          cells = λ f p at. ap (λ (t : Tree). cell_at t f p) stays
              ∙ ap (λ (b : Bool). cell_after p (if b then Nothing else
              changes (wanted_by K host call) K (if b then K else K') f p) (cell_at T f p)) (sym e);
        }

-- a Change that is written down
module _ (v : ServerId) (cause : Cause) (S : List Doing) (K : Tree) (unmoved : K.away ≡ []) (x : Written)
    (so : IsWrittenSo v K S x) where
  abbrev its_host : HostId
  its_host = x.answer.host

  abbrev its_call : Call
  its_call = x.answer.call

  on_host : (refusal : Refusal) → RefusedOn K so.w.host so.change refusal
      → (answer_to K its_host its_call).reply ≡ Refused refusal
  on_host refusal on = (λ i. (answer_to K (so.host i) (so.call i)).reply) ∙ on.0

  -- one that only enters a fileset
  entered : so.change.enter ≡ true → (name : List ℕ) → fileset_of so.change.call ≡ Some (v, name)
      → MeantSo v cause S K x
  entered enter name of = by so.so
    where
      no_needs : IsOfRow K so.w so.change → so.w.needs ≡ []
      no_needs row =
          row_is K so.w so.change row
          ∙ ap (λ (b : Bool). if b then [] else
          option_map_or (λ user. want K user so.change.call) (user_of K.roster so.w.host) []) enter

      by : DecidedSo v K S so.w so.change x.answer.reply → MeantSo v cause S K x
      by (IsRefusedByTable refusal on is) =
          let none : refusal ≡ NoFileset = on.1 enter in
          Refuses (ap is_refusal is) (λ T agree free used.
          refused_legal v cause S K x T agree NoFileset (is ∙ ap Refused none)
          (enter_alike v K T its_host its_call name agree.same (ap fileset_of so.call ∙ of) free
          (on_host refusal on ∙ ap Refused none)))
      by (MeetsPinned none row can is) =
          absurd (unblocked (asker so.w) so.w.needs can.pinned.0 (no_needs row) can.pinned.2)
      by (TakesEffect effect row can is) = absurd (enter_no_effect so.change enter effect)

  -- one that moves a fileset
  moved : so.change.enter ≡ false → (name : List ℕ) (to : ServerId) → so.change.call ≡ MoveFileset v name to
      → MeantSo v cause S K x
  moved enter name to is_call = by so.so
    where
      moves : moves_fileset so.change.call ≡ true
      moves = ap moves_fileset is_call

      same_call : its_call ≡ MoveFileset v name to
      same_call = so.call ∙ is_call

      in_tree : (T : Tree) (r : Refusal) → (answer_to T its_host (MoveFileset v name to)).reply ≡ Refused r
          → (answer_to T its_host its_call).reply ≡ Refused r
      in_tree T r e = ap (λ (y : Call). (answer_to T its_host y).reply) same_call ∙ e

      on_move : (r : Refusal) → (answer_to K its_host its_call).reply ≡ Refused r
          → (answer_to K its_host (MoveFileset v name to)).reply ≡ Refused r
      on_move r e = ap (λ (y : Call). (answer_to K its_host y).reply) (sym same_call) ∙ e

      of_server : (T : Tree) → AgreesKept v S K T → IsOfServer v K
      of_server T agree = record { filesets = agree.own; away = unmoved; locks = agree.locks; opens = agree.opens }

      never_there : NotRefused K so.w.host so.change
          → (answer_to K its_host (MoveFileset v name to)).reply ≡ Refused Exists → ⊥
      never_there none e =
          none Exists (
            (λ i. (answer_to K (sym so.host i) (sym so.call i)).reply) ∙ in_tree K Exists e,
            (λ t. absurd (false≢true (sym enter ∙ t))),
            (λ _. refl),
          )

      needs_are : IsOfRow K so.w so.change → so.w.needs
          ≡ option_map_or (λ user. want K user (MoveFileset v name to)) (user_of K.roster its_host) []
      needs_are row =
          row_is K so.w so.change row
          ∙ (ap (λ (b : Bool). if b then [] else
          option_map_or (λ user. want K user so.change.call) (user_of K.roster so.w.host) []) enter
          ∙ (λ i. option_map_or (λ user. want K user (is_call i)) (user_of K.roster (sym so.host i)) []))

      pinned_in_use : (T : Tree) → AgreesKept v S K T → PinnedAreUsed v S T → NotRefused K so.w.host so.change
          → IsOfRow K so.w so.change → CanRefuse v S so.w
          → (answer_to T its_host (MoveFileset v name to)).reply ≡ Refused InUse
      pinned_in_use T agree used none row can = go (user_of K.roster its_host) refl
        where
          way : any_conflict (need_of can.pinned.0) so.w.needs ≡ true
          way = (and_parts (not (can.pinned.0.host.0 == (asker so.w).0))
              (any_conflict (need_of can.pinned.0) so.w.needs) can.pinned.2).1

          go : (o : Option User) → user_of K.roster its_host ≡ o
              → (answer_to T its_host (MoveFileset v name to)).reply ≡ Refused InUse
          go None e =
              absurd (false≢true (sym (ap (λ ns. any_conflict (need_of can.pinned.0) ns)
              (needs_are row ∙ ap (λ o. option_map_or (λ user. want K user (MoveFileset v name to)) o []) e)) ∙ way))
          go (Some user) e =
              move_in_use v K T its_host name to agree.formed agree.same (never_there none) can.pinned.0 user e
              (sym (ap (λ ns. any_conflict (need_of can.pinned.0) ns)
              (needs_are row ∙ ap (λ o. option_map_or (λ user. want K user (MoveFileset v name to)) o []) e)) ∙ way)
              (used can.pinned.0 can.pinned.1)

      by : DecidedSo v K S so.w so.change x.answer.reply → MeantSo v cause S K x
      by (IsRefusedByTable refusal on is) =
          Refuses (ap is_refusal is) (λ T agree free used.
          refused_legal v cause S K x T agree refusal is
          (in_tree T refusal (move_alike v K T its_host name to agree.formed agree.same (of_server T agree) refusal
          (on.2 moves) (on_move refusal (on_host refusal on)))))
      by (MeetsPinned none row can is) =
          let said : x.answer.reply ≡ Refused InUse =
          is ∙ ap (λ (y : Call). Refused (refusal_of y)) is_call in
          Refuses (ap is_refusal said) (λ T agree free used.
          refused_legal v cause S K x T agree InUse said (in_tree T InUse (pinned_in_use T agree used none row can)))
      by (TakesEffect effect row can is) = absurd (move_no_effect so.change moves effect)

  pub meant : AsksRightly v so.change → MeantSo v cause S K x
  meant (AsksDecision plain change at) =
      Decides (ap is_change so.call ∙ change) (subst (IsAt v) (sym so.call) at)
  meant (Enters enter name of) = entered enter name of
  meant (Moves plain name to is) = moved plain name to is

-- no fileset moves away from what is kept
away_after : (v : ServerId) (cause : Cause) (S : List Doing) (K : Tree) (x : Written) → MeantSo v cause S K x
    → K.away ≡ [] → (filesets_after cause K (IsDone x)).away ≡ []
away_after v cause S K x (Refuses refused legal) e =
    ap (λ (b : Bool). (if b then K else (answer_to K x.answer.host x.answer.call).tree).away) refused ∙ e
away_after v cause S K x (Decides change at) e = go (is_refusal x.answer.reply)
  where
    go : (b : Bool) → (if b then K else (answer_to K x.answer.host x.answer.call).tree).away ≡ []
    go true = e
    go false = (calls_stay_at_their_server K v x.answer.host x.answer.call at).records ∙ e

either_away : (b : Bool) (tree : Tree) (filesets : List Fileset)
    → (if b then record tree { filesets = filesets } else tree).away ≡ tree.away
either_away true tree filesets = refl
either_away false tree filesets = refl

given_away : (tree : Tree) (fid : Fid) (pieces : List Piece) (given : Option ℕ)
    → (tree_given tree fid pieces given).away ≡ tree.away
unfolding tree_given
given_away tree fid pieces given = either_away (takes_gifts tree fid) tree _

cause_away : (cause : Cause) (xs : List Applied) (K : Tree) → K.away ≡ []
    → (filesets_through cause (by_cause xs) K).away ≡ []
cause_away cause [] K e = e
cause_away cause (Stored h f ss n ∷ xs) K e =
    cause_away cause xs (tree_given K f (pieces_in cause) n) (given_away K f (pieces_in cause) n ∙ e)
cause_away cause (Replied x ∷ xs) K e = cause_away cause xs K e
cause_away cause (IsDown h ∷ xs) K e = cause_away cause xs K e
cause_away cause (IsMoved move ∷ xs) K e = cause_away cause xs K e
cause_away cause (IsWanted x ∷ xs) K e = e
cause_away cause (IsDone x ∷ xs) K e = e

-- the decisions of a step
module _ (script : Script) (start : Tree) (firsts : ServerId → ℕ) (past : List Step)
    (run : StepsMeet script start firsts past) (v : ServerId) (s : Step) where
  abbrev S0 : List Doing
  S0 = doings_of (firsts v) v past

  written_so : (S : List Doing) (K : Tree) → K.away ≡ [] → Good past v S → (x : Written) → IsWrittenSo v K S x
      → MeantSo v s.cause S K x
  written_so S K unmoved g x so =
      let took : TookNow S so.w.host so.w.moves (Change so.change) =
      subst (λ r. TookNow S so.w.host so.w.moves (body_of r)) so.request (g.taken so.w so.waits) in
      let i = took_in S so.w.host so.w.moves (Change so.change) took in
      meant v s.cause S K unmoved x so
      ((all_well script start firsts past run so.w.host).asked v i.0 so.w.moves so.change
      (g.said so.w.host i.0 so.w.moves (Change so.change) i.1)).asks

  decides : (xs : List Applied) (S : List Doing) (K : Tree) → MayDecideAll v K S0 S s xs → K.away ≡ []
      → Good past v S → Heard v S0 s S
      → EachChange (MeantSo v s.cause) s.cause K S xs × ((filesets_through s.cause xs K).away ≡ [])
  decides [] S K may e g heard = (tt, e)
  decides (IsWanted x ∷ xs) S K may e g heard =
      let q = on_want past v S0 s x K S may.0 g heard in decides xs (MakesWant x ∷ S) K may.1 e q.0 q.1
  decides (IsDone x ∷ xs) S K may e g heard =
      let q = on_write past v S0 s x S g heard in
      let now = written_so S K e g x may.0 in
      let rest = decides xs (WritesDown x ∷ S) (filesets_after s.cause K (IsDone x)) may.1 (away_after v s.cause S K x now e)
      q.0 q.1 in ((now, rest.0), rest.1)
  decides (_ ∷ xs) S K may e g heard = elim may.0 [ ]

  abbrev K0 : Tree
  K0 = filesets_kept start v (steps_of_server v past)

  step : (m : StepMeets script start firsts (Server v) past s) → K0.away ≡ []
      → EachChange (MeantSo v s.cause) s.cause (filesets_through s.cause (by_cause s.applied) K0) (after_cause s.cause S0)
      (decisions s.applied)
      × ((filesets_through s.cause s.applied K0).away ≡ [])
  step m e =
      let both = decides (decisions s.applied) (after_cause s.cause S0)
      (filesets_through s.cause (by_cause s.applied) K0) m.0.works.decides (cause_away s.cause s.applied K0 e)
      (caused script start firsts past run v s m) (taken_took S0 s) in
      (both.0, ap (λ (t : Tree). t.away) (split s.cause s.applied K0) ∙ both.1)

-- all steps of a run
module _ (script : Script) (start : Tree) (firsts : ServerId → ℕ) (unmoved : start.away ≡ []) where
  away_node : (n : Node) (past : List Step) (s : Step) → StepsMeet script start firsts past
      → StepMeets script start firsts n past s → ((v : ServerId) → (filesets_kept start v (steps_of_server v past)).away ≡ [])
      → (v : ServerId)
      → (filesets_kept start v (if is_node n (Server v) then s ∷ steps_of_server v past else steps_of_server v past)).away ≡ []
  away_node (Host k) past s run m old v = old v
  away_node (Server k) past s run m old v =
      if_server (λ L. (filesets_kept start v L).away ≡ []) k v (s ∷ steps_of_server v past) (steps_of_server v past)
      (λ e. subst (λ w. (filesets_kept start w (s ∷ steps_of_server w past)).away ≡ []) e
      (step script start firsts past run k s m (old k)).1) (old v)

  pub none_away : (past : List Step) → StepsMeet script start firsts past → (v : ServerId)
      → (filesets_kept start v (steps_of_server v past)).away ≡ []
  none_away [] run v = unmoved
  none_away (s ∷ past) run v = away_node s.node past s run.0 run.1.0 (none_away past run.0) v

  at_node : (n : Node) (past : List Step) (s : Step) → StepsMeet script start firsts past
      → StepMeets script start firsts n past s → (v : ServerId) → n ≡ Server v
      → EachChange (MeantSo v s.cause) s.cause
      (filesets_through s.cause (by_cause s.applied) (filesets_kept start v (steps_of_server v past)))
      (after_cause s.cause (doings_of (firsts v) v past)) (decisions s.applied)
  at_node (Host h) past s run m v e = cc
  at_node (Server k) past s run m v e =
      let same : k ≡ v = let q : Server k ≡ Server v = e in cc in
      subst (λ w. EachChange (MeantSo w s.cause) s.cause
      (filesets_through s.cause (by_cause s.applied) (filesets_kept start w (steps_of_server w past)))
      (after_cause s.cause (doings_of (firsts w) w past)) (decisions s.applied)) same
      (step script start firsts past run k s m (none_away past run k)).0

  all_meant : (past : List Step) → StepsMeet script start firsts past → Always (DecidesMeant start firsts) past
  all_meant [] run = tt
  all_meant (s ∷ past) run = (all_meant past run.0, λ v e. at_node s.node past s run.0 run.1.0 v e)

pub changes_are_meant : ChangesAreMeant
changes_are_meant script journal run =
    all_meant script run.start (firsts_of journal) run.valid.unmoved (past_of journal) run.steps
