-- A server's turn: what each of its doings makes of where it stands.
use Rattle.std.proofs.Common.{◌≡◌, ℕ, ◌+◌, ◌<◌, ◌≤◌, inl, inr, true, false, cond, List, [], ◌∷◌, ◌++◌, Option, None}
use Rattle.std.proofs.Common.{Some, length, slice_get, refl, sym, ap, ◌∙◌, subst, append_assoc, arith}
use Rattle.std.specs.Option.{option_and_then}
use Rattle.std.proofs.lemmas.List.{append-nil}
use Rattle.std.specs.Prelude.{IfOk, IfSome, IsOk, OnOk, Result, Ok, Err, is_some}
use Rattle.base_types.specs.declared.errors.NoMemory.{NoMemory}
use Rattle.base_types.specs.declared.ids.Node.TheVariants.{Server}
use Rattle.base_types.specs.declared.ids.ServerId.{ServerId}
use Rattle.run_rules.specs.Doings.{doings_of}
use Rattle.server_tables.specs.declared.pending.Pending.{Pending}
use Rattle.tree_calls.specs.Rosters.{user_of}
use Rattle.hub_board.specs.declared.given.Given.{Given}
use Rattle.hub_board.specs.declared.given.Given.TheVariants.{Message as CameIn, Raised}
use Rattle.hub_laws.specs.Keeping.{Round, is_lapse, lapse_in, message_in, message_of, steps_in}
use Rattle.hub_node.proofs.Scripts.{get_below}
use Rattle.hub_node.specs.Lines.{LinesView, may_go, next_of}
use Rattle.hub_node.specs.Nodes.{Beginning, IsDone, IsGivenTo, Knows, Part, part_of}
use Rattle.message_types.specs.Soundness.{Each, IsHost, IsSound}
use Rattle.message_types.specs.declared.message.Message.{Message}
use Rattle.run_rules.specs.Kept.{filesets_through}
use Rattle.run_rules.specs.Plans.{receiver}
use Rattle.script_lines.specs.Sound.{same_node}
use Rattle.run_rules.specs.Past.{In, appended}
use Rattle.run_rules.specs.Steps.{IsNextLine, bare, goes_with, lines_of}
use Rattle.run_rules.specs.declared.step.Cause.TheVariants.{Flushed, Lapse, Line as LineOf, Message as Came, Restart}
use Rattle.run_rules.specs.declared.step.Step.{Step}
use Rattle.script_lines.specs.declared.script.Line.{Line}
use Rattle.server_exporter.specs.Machines.{Follows, FollowsAlone, IsAt, IsNew, IsNoRestart, IsRestart, IsSame, Keeps}
use Rattle.server_exporter.specs.Machines.{Meets, MeetsAlone, MeetsOnLine, Says}
use Rattle.server_exporter.specs.declared.exporter.Exporter.{Exporter}
use Rattle.server_exporter.proofs.Doings.{limited_by}
use Rattle.server_exporter.specs.Acts.{IsLimited}
use Rattle.server_exporter.specs.Gathering.{AreGives, IsStoredOrSame}
use Rattle.server_exporter.specs.Keeper.{Keeper}
use Rattle.server_exporter.specs.Messages.{IsFor as IsForServer}
use Rattle.server_node.proofs.Standing.{after_first, after_lapse, after_line, after_message, after_own, at, done_of}
use Rattle.server_node.proofs.Kept.{latest_more, more_theirs}
use Rattle.server_node.proofs.Standing.{given_for, inbox_aside, to_server}
use Rattle.server_node.proofs.Standing.{is_next, keeps, left_of, next_here}
use Rattle.server_exporter.specs.Serving.{CameSo, IsServed}
use Rattle.server_exporter.specs.Keepers.{HasTried, IsFit}
use Rattle.server_exporter.specs.ExporterFault.{ExporterFault}
use Rattle.server_node.specs.Standing.{AreTheirs, CanServe, HasServed, IsFor, IsGiveBackTo, IsReady, NextIs, Stands}
use Rattle.server_node.specs.Standing.{StandsAt, StandsSo, WasGiven, doings_in, kept_in, latest_first, server_of}
use Rattle.server_node.specs.declared.server.ServerNode.{ServerNode}
use Rattle.server_tables.specs.Listing.{is_alone}
use Rattle.server_tables.specs.Sound.{AreSound}
use Rattle.server_tables.specs.declared.tables.Tables.{Tables}
use Rattle.store_acts.specs.Acts.{state_after}
use Rattle.store_acts.specs.declared.act.Act.{Act}
use Rattle.store_memory.specs.Views.{IsSameStore, View}
use Rattle.store_state.specs.declared.state.StoreState.{StoreState}
use Rattle.tree_answers.specs.declared.tree.Tree.{Tree}
use Rattle.tree_calls.specs.declared.roster.Roster.{Roster}

-- what holds where a result is Ok
pub on_ok : {T E : Type 0} (r : Result T E) (P Q : Type 0) → (P → Q) → OnOk r P → OnOk r Q
on_ok (Ok x) P Q f h = f h
on_ok (Err e) P Q f h = tt

-- what was made was pushed, where that was done
pub pushed : {E T F : Type 0} (r : Result Step E) (done : Result T F) (olds news : List Step) (P : List Step → Type 0)
    → OnOk done (IsOk r) → IfOk r (λ s. OnOk done (news ≡ olds ++ s ∷ [])) → IfOk r (λ s. P (olds ++ s ∷ []))
    → OnOk done (P news)
pushed (Ok s) (Ok u) olds news P is at p = subst P (sym at) p
pushed (Ok s) (Err f) olds news P is at p = tt
pushed (Err e) (Ok u) olds news P is at p = let clash : false ≡ true = is in absurd (cc)
pushed (Err e) (Err f) olds news P is at p = tt

-- then its store may be asked, and is that of its machine
pub ready_then : {S T F : Type 0} (tells : Type 0) (view : S → View) (r : Result Step ExporterFault) (done : Result T F)
    (n : ServerNode S) (old : View) → OnOk done (IsOk r)
    → OnOk r (IsServed n.exporter.tables (view n.keeper.store).state) → OnOk r (AreSound n.exporter.tables)
    → HasTried r old (view n.keeper.store) n.keeper.left → OnOk done (IsReady tells view n)
ready_then tells view (Ok s) (Ok u) n old is served sound tried = record {
  served = served;
  sound = sound;
  fit = record { ready = tried.ready; mendable = tried.mendable; wear = tried.wear };
}
ready_then tells view (Ok s) (Err f) n old is served sound tried = tt
ready_then tells view (Err e) (Ok u) n old is served sound tried = let clash : false ≡ true = is in absurd (cc)
ready_then tells view (Err e) (Err f) n old is served sound tried = tt

-- so it is where nothing was asked of its store
pub ready_still : {S T F : Type 0} (tells : Type 0) (view : S → View) (r : Result Step NoMemory) (done : Result T F)
    (n : ServerNode S) → OnOk done (IsOk r) → OnOk r (IsServed n.exporter.tables (view n.keeper.store).state)
    → OnOk r (AreSound n.exporter.tables) → IsFit (view n.keeper.store) n.keeper.left → OnOk done (IsReady tells view n)
ready_still tells view (Ok s) (Ok u) n is served sound fit = record { served = served; sound = sound; fit = fit }
ready_still tells view (Ok s) (Err f) n is served sound fit = tt
ready_still tells view (Err e) (Ok u) n is served sound fit = let clash : false ≡ true = is in absurd (cc)
ready_still tells view (Err e) (Err f) n is served sound fit = tt

-- the next line is there
pub next_below : (lines : LinesView) (line : Line) → next_of lines ≡ Some line → lines.gone < length lines.lines
next_below lines line is = by_slot (slice_get lines.lines lines.gone) refl is
  where
    by_slot : (o : Option Line) → slice_get lines.lines lines.gone ≡ o
        → option_and_then (λ (l : Line). cond (may_go lines.told l.deed) (Some l) None) o ≡ Some line
        → lines.gone < length lines.lines
    by_slot None e h = absurd (cc)
    by_slot (Some l) e h = get_below lines.lines lines.gone l e

module _ {S : Type 0} (tells : Type 0) (view : S → View) (part : Part) (n : ServerNode S) (past : List Round)
    (made : List Step) where
  abbrev own : List Step
  own = appended made (steps_in past)

  abbrev x : Exporter
  x = n.exporter

  abbrev Next : Exporter → Keeper S → Step → Type 0
  Next y keeper s = StandsSo tells view part (record n { exporter = y; keeper = keeper }) past (made ++ s ∷ []) [] 0

  pub told_then : (flag : List ℕ) → StandsSo tells view part n past made [] 0 → WasGiven past (Raised flag)
      → StandsSo tells view part (record n { lines = record n.lines { told = Some flag } }) past made [] 0
  told_then flag so given = record {
    node = so.node;
    server = so.server;
    roster = so.roster;
    script = so.script;
    kept = so.kept;
    at = so.at;
    keeps = so.keeps;
    lines = so.lines;
    gone = so.gone;
    within = so.within;
    told = (λ f e.
        let same : flag ≡ f = cc in
        subst (λ (z : List ℕ). (r : Round) × In r past × (r.given ≡ Some (Raised z))) same given);
  }

  -- it has decided what was left
  pub settled : (came : List Message) (lapses : ℕ) → StandsSo tells view part n past made came lapses
      → (y : Exporter) (keeper : Keeper S) (s : Step)
      → Says x.tables s → IsSame x y → s.cause ≡ Flushed
      → (tells → Meets (view n.keeper.store).state x s)
      → (tells → Follows (view n.keeper.store).state x s (view keeper.store).state y)
      → StandsSo tells view part (record n { exporter = y; keeper = keeper }) past (made ++ s ∷ []) came lapses
  unfolding Meets Follows
  settled came lapses so y keeper s says same by meets follows =
      let run = part.run in let v = x.tables.server in
      let here = at tells view part n past made came lapses (view n.keeper.store).state so in
      let kept = keeps tells view part n past made came lapses (view n.keeper.store).state so in
      after_own tells view part n past made came lapses (view n.keeper.store).state so y keeper
      (view keeper.store).state s says same (ap goes_with by)
      (λ t. meets t run.script run.start own (doings_in run v own) (here t) (kept t))
      (λ t. (follows t run.start own (doings_in run v own) (here t) (kept t)).0)
      (λ t. (follows t run.start own (doings_in run v own) (here t) (kept t)).1)
      (ap message_of by) (ap is_lapse by)

  pub settled_then : (came : List Message) (lapses : ℕ) → StandsSo tells view part n past made came lapses
      → (y : Exporter) (keeper : Keeper S)
      (r : Result Step ExporterFault) → IfOk r (Says x.tables) → OnOk r (IsSame x y) → IfOk r (λ s. s.cause ≡ Flushed)
      → (tells → IfOk r (Meets (view n.keeper.store).state x))
      → (tells → IfOk r (λ s. Follows (view n.keeper.store).state x s (view keeper.store).state y))
      → IfOk r (λ s. StandsSo tells view part (record n { exporter = y; keeper = keeper }) past (made ++ s ∷ []) came
      lapses)
  settled_then came lapses so y keeper (Ok s) says same by meets follows =
      settled came lapses so y keeper s says same by meets follows
  settled_then came lapses so y keeper (Err e) says same by meets follows = tt

  -- it has taken a message
  pub heard : (message : Message) → StandsSo tells view part n past made (message ∷ []) 0 → (y : Exporter)
      (keeper : Keeper S) (s : Step)
      → Says x.tables s → IsSame x y → s.cause ≡ Came message
      → (tells → Meets (view n.keeper.store).state x s)
      → (tells → Follows (view n.keeper.store).state x s (view keeper.store).state y) → Next y keeper s
  unfolding Meets Follows
  heard message so y keeper s says same by meets follows =
      let run = part.run in let v = x.tables.server in
      let here = at tells view part n past made (message ∷ []) 0 (view n.keeper.store).state so in
      let kept = keeps tells view part n past made (message ∷ []) 0 (view n.keeper.store).state so in
      after_message tells view part n past made (message ∷ []) 0 (view n.keeper.store).state so y keeper
      (view keeper.store).state s says same (ap goes_with by)
      (λ t. meets t run.script run.start own (doings_in run v own) (here t) (kept t))
      (λ t. (follows t run.start own (doings_in run v own) (here t) (kept t)).0)
      (λ t. (follows t run.start own (doings_in run v own) (here t) (kept t)).1)
      message refl by

  pub heard_then : (message : Message) → StandsSo tells view part n past made (message ∷ []) 0 → (y : Exporter)
      (keeper : Keeper S) (r : Result Step ExporterFault) → IfOk r (Says x.tables) → OnOk r (IsSame x y)
      → IfOk r (λ s. s.cause ≡ Came message) → (tells → IfOk r (Meets (view n.keeper.store).state x))
      → (tells → IfOk r (λ s. Follows (view n.keeper.store).state x s (view keeper.store).state y))
      → IfOk r (Next y keeper)
  heard_then message so y keeper (Ok s) says same by meets follows =
      heard message so y keeper s says same by meets follows
  heard_then message so y keeper (Err e) says same by meets follows = tt

  -- it has taken the oldest of those that were kept
  pub gathered : (message : Message) (rest : List Message) (lapses : ℕ) (before next : StoreState)
      → StandsAt tells view before part n past made (rest ++ message ∷ []) lapses → (y : Exporter) (keeper : Keeper S)
      (s : Step) → Says x.tables s → IsSame x y → s.cause ≡ Came message → (tells → Meets before x s)
      → (tells → Follows before x s next y)
      → StandsAt tells view next part (record n { exporter = y; keeper = keeper }) past (made ++ s ∷ []) rest lapses
  unfolding Meets Follows
  gathered message rest lapses before next so y keeper s says same by meets follows =
      let run = part.run in let v = x.tables.server in
      let here = at tells view part n past made (rest ++ message ∷ []) lapses before so in
      let kept = keeps tells view part n past made (rest ++ message ∷ []) lapses before so in
      after_first tells view part n past made (rest ++ message ∷ []) lapses before so y keeper next s says same
      (ap goes_with by)
      (λ t. meets t run.script run.start own (doings_in run v own) (here t) (kept t))
      (λ t. (follows t run.start own (doings_in run v own) (here t) (kept t)).0)
      (λ t. (follows t run.start own (doings_in run v own) (here t) (kept t)).1)
      message rest refl by

  -- it has sent again what it sent in vain
  pub repeated : (so : StandsSo tells view part n past made [] 1) (y : Exporter) (s : Step)
      → Says x.tables s → IsSame x y → s.cause ≡ Lapse → MeetsAlone x s → FollowsAlone x s y
      → ((tree : _) → Keeps x.tables tree (view n.keeper.store).state → Keeps y.tables tree (view n.keeper.store).state)
      → s.applied ≡ []
      → Next y n.keeper s
  unfolding MeetsAlone FollowsAlone
  repeated so y s says same by meets follows stays applied =
      let run = part.run in let v = x.tables.server in
      let here = at tells view part n past made [] 1 (view n.keeper.store).state so in
      let kept = keeps tells view part n past made [] 1 (view n.keeper.store).state so in
      after_lapse tells view part n past made [] 1 (view n.keeper.store).state so y n.keeper
      (view n.keeper.store).state s says same (ap goes_with by)
      (λ t. meets run.script run.start own (doings_in run v own) (here t))
      (λ t. follows run.start own (doings_in run v own) (here t))
      (λ t. subst (λ l. Keeps y.tables (filesets_through s.cause l (kept_in run v own)) (view n.keeper.store).state)
      (sym applied) (stays (kept_in run v own) (kept t)))
      refl refl by

  pub repeated_then : StandsSo tells view part n past made [] 1 → (y : Exporter) (r : Result Step NoMemory)
      → IfOk r (Says x.tables) → OnOk r (IsSame x y) → IfOk r (λ s. s.cause ≡ Lapse) → IfOk r (MeetsAlone x)
      → IfOk r (λ s. FollowsAlone x s y)
      → ((tree : Tree) (state : StoreState) → Keeps x.tables tree state → OnOk r (Keeps y.tables tree state))
      → IfOk r (λ s. s.applied ≡ []) → IfOk r (Next y n.keeper)
  repeated_then so y (Ok s) says same by meets follows stays applied =
      repeated so y s says same by meets follows (λ tree. stays tree (view n.keeper.store).state) applied
  repeated_then so y (Err e) says same by meets follows stays applied = tt

  -- a line has gone
  module _ (so : StandsSo tells view part n past made [] 0) where
    abbrev After : Exporter → Keeper S → Step → Type 0
    After y keeper s = StandsSo tells view part
        (record n { exporter = y; keeper = keeper; lines = record n.lines { gone = n.lines.gone + 1 } }) past
        (made ++ s ∷ []) [] 0

    pub restarted : (number : ℕ) → NextIs IsRestart n.lines number → (y : Exporter) (keeper : Keeper S) (s : Step)
        → Says x.tables s → IsSame x y → s.cause ≡ Restart number → MeetsOnLine IsRestart number x s
        → (tells → Follows (view n.keeper.store).state x s (view keeper.store).state y) → After y keeper s
    unfolding MeetsOnLine Follows
    restarted number is y keeper s says same by meets follows =
        let run = part.run in let v = x.tables.server in
        let line = is.0 in
        let here = at tells view part n past made [] 0 (view n.keeper.store).state so in
        let kept = keeps tells view part n past made [] 0 (view n.keeper.store).state so in
        let slot : IsNextLine (lines_of run.script (Server v)) own number line =
        subst (λ k. IsNextLine (lines_of run.script (Server v)) own k line) is.2
        (is_next tells view part n past made [] 0 (view n.keeper.store).state so line is.1) in
        let own_slot : IsNextLine (lines_of run.script part.node) own number line =
        subst (λ k. IsNextLine (lines_of run.script part.node) own k line) is.2
        (next_here tells view part n past made [] 0 (view n.keeper.store).state so line is.1) in
        after_line tells view part n past made [] 0 (view n.keeper.store).state so line is.1 y keeper
        (view keeper.store).state s says same
        (λ t. meets run.script run.start own (doings_in run v own) (here t) line slot is.3)
        (λ t. (follows t run.start own (doings_in run v own) (here t) (kept t)).0)
        (λ t. (follows t run.start own (doings_in run v own) (here t) (kept t)).1)
        (record {
          line = (λ k e. absurd (clash k number (sym e ∙ by)));
          restart = (λ k e. (line, (own_slot.0, own_slot.1 ∙ restart_same number k (sym by ∙ e)), is.3));
        })
        (λ k e. absurd (clash k number (sym e ∙ by)))
        (ap goes_with by) (ap message_of by) (ap is_lapse by)
      where
        clash : (k number : ℕ) → LineOf k ≡ Restart number → ⊥
        clash k number e = absurd (cc)

        restart_same : (a b : ℕ) → Restart a ≡ Restart b → a ≡ b
        restart_same a b e = cc

    pub restarted_then : (number : ℕ) → NextIs IsRestart n.lines number → (y : Exporter) (keeper : Keeper S)
        (r : Result Step ExporterFault) → IfOk r (Says x.tables) → OnOk r (IsSame x y)
        → IfOk r (λ s. s.cause ≡ Restart number) → IfOk r (MeetsOnLine IsRestart number x)
        → (tells → IfOk r (λ s. Follows (view n.keeper.store).state x s (view keeper.store).state y))
        → IfOk r (After y keeper)
    restarted_then number is y keeper (Ok s) says same by meets follows =
        restarted number is y keeper s says same by meets follows
    restarted_then number is y keeper (Err e) says same by meets follows = tt

    pub passed : (number : ℕ) → NextIs IsNoRestart n.lines number → (s : Step) → Says x.tables s
        → s ≡ bare (Server x.tables.server) (LineOf number) → MeetsOnLine IsNoRestart number x s → FollowsAlone x s x
        → After x n.keeper s
    unfolding MeetsOnLine FollowsAlone
    passed number is s says bare_is meets follows =
        let run = part.run in let v = x.tables.server in
        let line = is.0 in
        let by : s.cause ≡ LineOf number = ap (λ (z : Step). z.cause) bare_is in
        let here = at tells view part n past made [] 0 (view n.keeper.store).state so in
        let kept = keeps tells view part n past made [] 0 (view n.keeper.store).state so in
        let slot : IsNextLine (lines_of run.script (Server v)) own number line =
        subst (λ k. IsNextLine (lines_of run.script (Server v)) own k line) is.2
        (is_next tells view part n past made [] 0 (view n.keeper.store).state so line is.1) in
        let own_slot : IsNextLine (lines_of run.script part.node) own number line =
        subst (λ k. IsNextLine (lines_of run.script part.node) own k line) is.2
        (next_here tells view part n past made [] 0 (view n.keeper.store).state so line is.1) in
        after_line tells view part n past made [] 0 (view n.keeper.store).state so line is.1 x n.keeper
        (view n.keeper.store).state s says
        (record { server = refl; roster = refl })
        (λ t. meets run.script run.start own (doings_in run v own) (here t) line slot is.3)
        (λ t. follows run.start own (doings_in run v own) (here t))
        (λ t. subst (λ (z : Step). Keeps x.tables (filesets_through z.cause z.applied (kept_in run v own))
        (view n.keeper.store).state)
        (sym bare_is) (kept t))
        (record {
          line = (λ k e. (line, (own_slot.0, own_slot.1 ∙ line_same number k (sym by ∙ e))));
          restart = (λ k e. absurd (clash number k (sym by ∙ e)));
        })
        (λ k e. is.2 ∙ line_same number k (sym by ∙ e))
        (ap goes_with by) (ap message_of by) (ap is_lapse by)
      where
        clash : (number k : ℕ) → LineOf number ≡ Restart k → ⊥
        clash number k e = absurd (cc)

        line_same : (a b : ℕ) → LineOf a ≡ LineOf b → a ≡ b
        line_same a b e = cc

-- # What gathers

pub all_ok : {T E : Type 0} (r : Result T E) {P : Type 0} → P → OnOk r P
all_ok (Ok value) p = p
all_ok (Err error) p = tt

-- what holds where something was made holds where that was pushed
pub made_then : {T U E F : Type 0} (r : Result T E) (done : Result U F) (P : Type 0) → OnOk done (IsOk r) → OnOk r P
    → OnOk done P
made_then (Ok s) (Ok u) P is p = p
made_then (Ok s) (Err f) P is p = tt
made_then (Err e) (Ok u) P is p = let clash : false ≡ true = is in absurd (cc)
made_then (Err e) (Err f) P is p = tt

-- a store that is the same server's as before is its machine's still
pub served_still : (x : Tables) (old new : View) → IsServed x old.state → IsSameStore old new → IsServed x new.state
served_still x old new s same = record {
  store = record { server = same.server ∙ s.store.server; roster = same.roster ∙ s.store.roster };
  users = s.users;
  counted = s.counted;
  asked = s.asked;
}

-- messages that are kept are for the machine still
pub theirs_still : {S : Type 0} (tells : Type 0) (view : S → View) (a b : ServerNode S) (ms : List Message)
    → IsReady tells view a → IsReady tells view b → HasServed tells view a b → AreTheirs a.exporter.tables ms
    → AreTheirs b.exporter.tables ms
theirs_still tells view a b ms old new h all =
    let server : b.exporter.tables.server ≡ a.exporter.tables.server =
    sym new.served.store.server ∙ h.same.server ∙ old.served.store.server in
    let roster : b.exporter.tables.roster ≡ a.exporter.tables.roster =
    sym new.served.store.roster ∙ h.same.roster ∙ old.served.store.roster in
    subst (λ (r : Roster). Each (IsForServer b.exporter.tables.server r) ms) (sym roster)
    (subst (λ (v : ServerId). Each (IsForServer v a.exporter.tables.roster) ms) (sym server) all)

module _ {S : Type 0} (tells : Type 0) (view : S → View) (part : Part) (n : ServerNode S) (past : List Round)
    (made : List Step) where
  -- Where something waits: the store keeps no more than it has room for, and the node stands so once that is stored.
  abbrev pub Gathers : ServerNode S → List Act → List Step → List Message → ℕ → Type 0
  Gathers m waiting steps came lapses = (tells → IsLimited (view m.keeper.store).state)
      × StandsAt tells view (state_after (view m.keeper.store).state waiting) part m past steps came lapses

  -- a store that keeps what the rules keep has room for it
  room_for : (m : ServerNode S) (state : StoreState) (steps : List Step) (came : List Message) (lapses : ℕ)
      → StandsAt tells view state part m past steps came lapses → tells → IsLimited state
  room_for m state steps came lapses so t =
      limited_by (kept_in part.run (server_of part.node) (appended steps (steps_in past))) state (so.keeps t).stands

  -- nothing waits
  pub gathers_none : (m : ServerNode S) (waiting : List Act) (steps : List Step) (came : List Message) (lapses : ℕ)
      → waiting ≡ [] → StandsSo tells view part m past steps came lapses → Gathers m waiting steps came lapses
  gathers_none m waiting steps came lapses none so = (
    room_for m (view m.keeper.store).state steps came lapses so,
    subst (λ (l : List Act). StandsAt tells view (state_after (view m.keeper.store).state l) part m past steps came
        lapses) (sym none) so,
  )

  -- and so it stood
  pub stands_none : (m : ServerNode S) (waiting : List Act) (steps : List Step) (came : List Message) (lapses : ℕ)
      → waiting ≡ [] → Gathers m waiting steps came lapses → StandsSo tells view part m past steps came lapses
  stands_none m waiting steps came lapses none g =
      subst (λ (l : List Act). StandsAt tells view (state_after (view m.keeper.store).state l) part m past steps came
      lapses) none g.1

  module _ (message : Message) (inbox came : List Message) (lapses : ℕ) (olds news : List Act) (y : Exporter)
      (keeper : Keeper S) where
    abbrev start : StoreState
    start = (view n.keeper.store).state

    abbrev end : StoreState
    end = (view keeper.store).state

    abbrev after : ServerNode S
    after = record n { exporter = y; keeper = keeper; inbox = inbox }

    limited_then : (steps : List Step) (rest : List Message) → (tells → IsLimited start)
        → IsStoredOrSame tells start end news
        → StandsAt tells view (state_after end news) part after past steps rest lapses → tells → IsLimited end
    limited_then steps rest limited (inr same) so t = subst IsLimited (sym (same t)) (limited t)
    limited_then steps rest limited (inl none) so t =
        subst (λ (l : List Act). IsLimited (state_after end l)) none
        (room_for after (state_after end news) steps rest lapses so t)

    -- it has taken the first of those that were kept
    pub gathered_then : (r : Result Step ExporterFault) → latest_first n.inbox ≡ latest_first inbox ++ message ∷ []
        → IfOk r (Says n.exporter.tables) → OnOk r (IsSame n.exporter y) → IfOk r (λ s. s.cause ≡ Came message)
        → (tells → IsLimited start) → OnOk r (IsStoredOrSame tells start end news)
        → (tells → IsLimited start → IfOk r (Meets (state_after start olds) n.exporter))
        → (tells → IsLimited start
        → IfOk r (λ s. Follows (state_after start olds) n.exporter s (state_after end news) y))
        → StandsAt tells view (state_after start olds) part n past made (came ++ latest_first n.inbox) lapses
        → IfOk r (λ s. Gathers after news (made ++ s ∷ []) (came ++ latest_first inbox) lapses)
    gathered_then (Ok s) order says same by limited stays meets follows so =
        let last : came ++ latest_first n.inbox ≡ (came ++ latest_first inbox) ++ message ∷ [] =
        ap (λ (l : List Message). came ++ l) order ∙ sym (append_assoc came (latest_first inbox) (message ∷ [])) in
        let here : StandsAt tells view (state_after start olds) part n past made
        ((came ++ latest_first inbox) ++ message ∷ []) lapses =
        subst (λ (l : List Message). StandsAt tells view (state_after start olds) part n past made l lapses) last so in
        let then : StandsAt tells view (state_after end news) part after past (made ++ s ∷ [])
        (came ++ latest_first inbox) lapses =
        gathered tells view part (record n { inbox = inbox }) past made message (came ++ latest_first inbox) lapses
        (state_after start olds) (state_after end news)
        (inbox_aside tells view part n past made ((came ++ latest_first inbox) ++ message ∷ []) lapses
        (state_after start olds) here inbox) y keeper s says same by
        (λ t. meets t (limited t)) (λ t. follows t (limited t)) in
        (limited_then (made ++ s ∷ []) (came ++ latest_first inbox) limited stays then, then)
    gathered_then (Err e) order says same by limited stays meets follows so = tt

  -- what waited was stored
  pub stored_then : (keeper : Keeper S) (waiting : List Act) (came : List Message) (lapses : ℕ)
      → (tells → IsLimited (view n.keeper.store).state
      → (view keeper.store).state ≡ state_after (view n.keeper.store).state waiting)
      → Gathers n waiting made came lapses
      → StandsSo tells view part (record n { keeper = keeper }) past made came lapses
  stored_then keeper waiting came lapses is g = let so = g.1 in record {
    node = so.node;
    server = so.server;
    roster = so.roster;
    script = so.script;
    kept = so.kept;
    at = so.at;
    keeps = (λ t. subst (λ (s : StoreState). Keeps n.exporter.tables
        (kept_in part.run (server_of part.node) (appended made (steps_in past))) s) (sym (is t (g.0 t))) (so.keeps t));
    lines = so.lines;
    gone = so.gone;
    within = so.within;
    told = so.told;
  }

-- # Before the first turn

pub fresh : {S : Type 0} (tells : Type 0) (view : S → View) (run : Beginning) (server : ServerId) (x : Exporter)
    (keeper : Keeper S) (lines : LinesView) (epoch : ℕ) → CanServe tells run server (view keeper.store)
    → IsNew x server epoch run.script.roster
    → lines ≡ record { lines = lines_of run.script (Server server); gone = 0; told = None }
    → (tells → epoch ≡ (view keeper.store).state.epoch) → IsFit (view keeper.store) keeper.left
    → Stands tells view (part_of run (Server server)) (record
    { exporter = x; keeper = keeper; lines = lines; inbox = [] }) [] []
fresh tells view run server x keeper lines epoch can new lines_are told fit = record {
  ready = record {
    served = record {
      store = record {
        server = can.server_is ∙ sym new.server_is;
        roster = can.roster ∙ sym new.roster_is;
      };
      users = (λ host is. subst (λ r. is_some (user_of r host) ≡ true) (sym new.roster_is)
          (can.users host (subst (λ r. IsHost r host) new.roster_is is)));
      counted = new.counted;
      asked = subst (λ l. Each (λ (p : Pending). CameSo x.tables.server x.tables.roster p.wanted) l)
          (sym new.pending) tt;
    };
    sound = new.sound;
    fit = fit;
  };
  rested = new.rested;
  theirs = tt;
  so = record {
    node = refl;
    server = new.server_is;
    roster = new.roster_is;
    script = can.sound;
    kept = record {
      steps = tt;
      all_own = (λ s i. absurd i);
      messages = tt;
      lapsed = omega arith;
      meets = (λ t. tt);
    };
    at = (λ t. at_first t);
    keeps = (λ t. can.keeps t x.tables new.gives ((at_first t).tables.hosts.epoch_is ∙ sym (can.epoch t)));
    lines = ap (λ (l : LinesView). l.lines) lines_are;
    gone = ap (λ (l : LinesView). l.gone) lines_are;
    within = (let zero : lines.gone ≡ 0 = ap (λ (l : LinesView). l.gone) lines_are in omega arith);
    told = (λ flag e. let none_told : lines.told ≡ None = ap (λ (l : LinesView). l.told) lines_are in absurd (cc));
  };
}
  where
    at_first : tells → IsAt (doings_in run server []) (kept_in run server []) x
    at_first t =
        subst (λ e. IsAt (doings_of e server []) (kept_in run server []) x) (told t ∙ can.epoch t)
        (new.stands (kept_in run server []))

-- # Of a turn

-- what is given to its part is for its machine
pub given_if : {S : Type 0} (tells : Type 0) (view : S → View) (part : Part) (n : ServerNode S) (past : List Round)
    (made : List Step) → Stands tells view part n past made → (given : Option Given) → IsGivenTo part given
    → IfSome given (IsFor n.exporter.tables)
given_if tells view part n past made st None to = tt
given_if tells view part n past made st (Some given) to =
    given_for tells view part n past made (latest_first n.inbox) 0 st.so given to

-- the round that begins has given it
pub was_given : (past : List Round) (made : List Step) (given : Option Given)
    → IfSome given (WasGiven (record { steps = made; given = given } ∷ past))
was_given past made None = tt
was_given past made (Some given) = (record { steps = made; given = Some given }, inl refl, refl)

-- nothing was given
pub none_of : {A : Type 0} (o : Option A) → is_some o ≡ false → o ≡ None
none_of None e = refl
none_of (Some x) e = absurd (cc)

-- it is done
pub is_done : {S : Type 0} (tells : Type 0) (view : S → View) (part : Part) (n : ServerNode S) (past : List Round)
    (made : List Step) (came : List Message) → StandsSo tells view part n past made came 0 → made ≡ []
    → Knows tells part.node → length n.lines.lines ≤ n.lines.gone → is_alone n.exporter.tables.hosts ≡ true
    → IsDone part.run part.node (steps_in past)
is_done tells view part n past made came so none knows full is =
    subst (λ (l : List Step). IsDone part.run part.node (appended l (steps_in past))) none
    (done_of tells view part n past made came 0 (view n.keeper.store).state so knows full is)

-- and it isn't where it goes on
pub not_done : {S : Type 0} (tells : Type 0) (view : S → View) (part : Part) (n : ServerNode S) (past : List Round)
    (made : List Step) (came : List Message) → StandsSo tells view part n past made came 0 → made ≡ []
    → Knows tells part.node → (length n.lines.lines ≤ n.lines.gone → is_alone n.exporter.tables.hosts ≡ true → ⊥)
    → IsDone part.run part.node (steps_in past) → ⊥
not_done tells view part n past made came so none knows goes done =
    let left = left_of tells view part n past made came 0 (view n.keeper.store).state so knows
    (subst (λ (l : List Step). IsDone part.run part.node (appended l (steps_in past))) (sym none) done) in
    goes left.0 left.1

-- # Of what waits

-- nothing waits, and that is within the room
pub none_wait : (state : StoreState) (acts : List Act) → acts ≡ [] → AreGives state acts
none_wait state acts none =
    subst (λ (l : List Act). AreGives state l) (sym none) (record { few = omega arith; gives = tt; each = tt })

pub none_given : {T E : Type 0} (r : Result T E) (state : StoreState) (acts : List Act) → acts ≡ []
    → OnOk r (AreGives state acts)
none_given (Ok value) state acts none = none_wait state acts none
none_given (Err error) state acts none = tt

-- what waited was stored: its store may be asked still
pub stored_ready : {S T U F : Type 0} (tells : Type 0) (view : S → View) (r : Result T ExporterFault)
    (done : Result U F) (n : ServerNode S) (keeper : Keeper S) → IsReady tells view n → OnOk done (IsOk r)
    → HasTried r (view n.keeper.store) (view keeper.store) keeper.left
    → OnOk done (IsReady tells view (record n { keeper = keeper }))
stored_ready tells view (Ok s) (Ok u) n keeper ready is tried = record {
  served = served_still n.exporter.tables (view n.keeper.store) (view keeper.store) ready.served tried.same;
  sound = ready.sound;
  fit = record { ready = tried.ready; mendable = tried.mendable; wear = tried.wear };
}
stored_ready tells view (Ok s) (Err f) n keeper ready is tried = tt
stored_ready tells view (Err e) (Ok u) n keeper ready is tried = let clash : false ≡ true = is in absurd (cc)
stored_ready tells view (Err e) (Err f) n keeper ready is tried = tt

module _ {S : Type 0} (tells : Type 0) (view : S → View) (part : Part) (n : ServerNode S) (past : List Round)
    (made : List Step) where
  -- what was left is decided behind that
  pub settled_gathers : {T E : Type 0} (r : Result T E) (m : ServerNode S) (waiting : List Act) (steps : List Step)
      (came : List Message) (lapses : ℕ) → waiting ≡ [] → OnOk r (StandsSo tells view part m past steps came lapses)
      → OnOk r (Gathers tells view part n past made m waiting steps came lapses)
  settled_gathers (Ok value) m waiting steps came lapses none so =
      gathers_none tells view part n past made m waiting steps came lapses none so
  settled_gathers (Err error) m waiting steps came lapses none so = tt

  -- and the inbox is as it was
  pub gathers_of : {T E : Type 0} (r : Result T E) (m : ServerNode S) (waiting : List Act) (steps : List Step)
      (old new came : List Message) (lapses : ℕ) → new ≡ old
      → OnOk r (Gathers tells view part n past made m waiting steps (came ++ latest_first old) lapses)
      → OnOk r (Gathers tells view part n past made m waiting steps (came ++ latest_first new) lapses)
  gathers_of r m waiting steps old new came lapses is h =
      subst (λ (l : List Message). OnOk r (Gathers tells view part n past made m waiting steps (came ++ latest_first l)
      lapses)) (sym is) h

  -- where nothing is kept any more, and what waits is stored
  pub stored_end : {T E : Type 0} (r : Result T E) (m : ServerNode S) (waiting : List Act) (came : List Message)
      (lapses : ℕ) → m ≡ record n { keeper = m.keeper } → n.inbox ≡ []
      → (tells → IsLimited (view n.keeper.store).state
      → OnOk r ((view m.keeper.store).state ≡ state_after (view n.keeper.store).state waiting))
      → Gathers tells view part n past made n waiting made (came ++ latest_first n.inbox) lapses
      → OnOk r (StandsSo tells view part m past made came lapses)
  stored_end (Ok value) m waiting came lapses rest none is g =
      let so : StandsSo tells view part (record n { keeper = m.keeper }) past made (came ++ latest_first n.inbox)
      lapses =
      stored_then tells view part n past made m.keeper waiting (came ++ latest_first n.inbox) lapses is g in
      subst (λ (z : ServerNode S). StandsSo tells view part z past made came lapses) (sym rest)
      (subst (λ (l : List Message). StandsSo tells view part (record n { keeper = m.keeper }) past made l lapses)
      (ap (λ (l : List Message). came ++ latest_first l) none ∙ append-nil came) so)
  stored_end (Err error) m waiting came lapses rest none is g = tt

  -- a give-back is kept
  pub kept_then : {T E : Type 0} (r : Result T E) (m : ServerNode S) (given : Option Given) → IsGiveBackTo given
      → m ≡ record n { inbox = m.inbox }
      → ((message : Message) → given ≡ Some (CameIn message) → OnOk r (m.inbox ≡ n.inbox ++ message ∷ []))
      → StandsSo tells view part n past made (message_in given ++ latest_first n.inbox) (lapse_in given)
      → OnOk r (StandsSo tells view part m past made (latest_first m.inbox) 0)
  kept_then r m given by rest kept so =
      on_ok r (m.inbox ≡ n.inbox ++ by.0 ∷ []) (StandsSo tells view part m past made (latest_first m.inbox) 0)
      (λ is.
      let here : StandsSo tells view part n past made (by.0 ∷ latest_first n.inbox) 0 =
      subst (λ (g : Option Given). StandsSo tells view part n past made (message_in g ++ latest_first n.inbox)
      (lapse_in g)) by.1 so in
      let order : by.0 ∷ latest_first n.inbox ≡ latest_first m.inbox =
      sym (ap latest_first is ∙ latest_more n.inbox by.0) in
      let aside = inbox_aside tells view part n past made (latest_first m.inbox) 0 (view n.keeper.store).state
      (subst (λ (l : List Message). StandsSo tells view part n past made l 0) order here) m.inbox in
      subst (λ (z : ServerNode S). StandsSo tells view part z past made (latest_first m.inbox) 0) (sym rest) aside)
      (kept by.0 by.1)

module _ {S : Type 0} (tells : Type 0) (view : S → View) (n m : ServerNode S) where
  -- its store may be asked still
  pub kept_ready : {T E : Type 0} (r : Result T E) → m ≡ record n { inbox = m.inbox } → IsReady tells view n
      → OnOk r (IsReady tells view m)
  kept_ready r rest ready = all_ok r (subst (λ (z : ServerNode S). IsReady tells view z) (sym rest)
      (record { served = ready.served; sound = ready.sound; fit = ready.fit }))

  pub kept_rested : {T E : Type 0} (r : Result T E) → m ≡ record n { inbox = m.inbox } → n.exporter.rested ≡ true
      → OnOk r (m.exporter.rested ≡ true)
  kept_rested r rest rested = all_ok r (ap (λ (z : ServerNode S). z.exporter.rested) rest ∙ rested)

  pub kept_theirs : {T E : Type 0} (r : Result T E) (given : Option Given) → IsGiveBackTo given
      → m ≡ record n { inbox = m.inbox } → IfSome given (IsFor n.exporter.tables)
      → AreTheirs n.exporter.tables n.inbox
      → ((message : Message) → given ≡ Some (CameIn message) → OnOk r (m.inbox ≡ n.inbox ++ message ∷ []))
      → OnOk r (AreTheirs m.exporter.tables m.inbox)
  kept_theirs r given by rest for all kept =
      on_ok r (m.inbox ≡ n.inbox ++ by.0 ∷ []) (AreTheirs m.exporter.tables m.inbox)
      (λ is.
      let meant = subst (λ (g : Option Given). IfSome g (IsFor n.exporter.tables)) by.1 for by.0 refl in
      let one : IsForServer n.exporter.tables.server n.exporter.tables.roster by.0 = record {
        sound = meant.0;
        own = to_server by.0 n.exporter.tables.server meant.1 by.2;
        way = by.2;
      } in
      subst (λ (x : Tables). AreTheirs x m.inbox) (sym (ap (λ (z : ServerNode S). z.exporter.tables) rest))
      (subst (AreTheirs n.exporter.tables) (sym is) (more_theirs n.exporter.tables n.inbox by.0 all one)))
      (kept by.0 by.1)

  pub kept_stays : m ≡ record n { inbox = m.inbox } → HasServed tells view n m
  kept_stays rest = subst (λ (z : ServerNode S). HasServed tells view n z) (sym rest) (record {
    same = record { server = refl; roster = refl };
    counted = omega arith;
    mendable = (λ is. is);
    worn = (λ w. w);
  })

  -- what is given is for its machine still
  pub given_still : IsReady tells view n → IsReady tells view m → HasServed tells view n m → (given : Option Given)
      → IfSome given (IsFor n.exporter.tables) → IfSome given (IsFor m.exporter.tables)
  given_still old new h None for = tt
  given_still old new h (Some given) for =
      let server : n.exporter.tables.server ≡ m.exporter.tables.server =
      sym (sym new.served.store.server ∙ h.same.server ∙ old.served.store.server) in
      let roster : n.exporter.tables.roster ≡ m.exporter.tables.roster =
      sym (sym new.served.store.roster ∙ h.same.roster ∙ old.served.store.roster) in
      λ message e. let is = for message e in (
        subst (λ (r : Roster). IsSound r message) roster is.0,
        subst (λ (v : ServerId). same_node (receiver message) (Server v) ≡ true) server is.1,
      )

  -- nothing is kept any more
  pub none_theirs : {T E : Type 0} (r : Result T E) (x : Tables) (now then : List Message) → now ≡ then → then ≡ []
      → OnOk r (AreTheirs x now)
  none_theirs r x now then e none =
      all_ok r (subst (AreTheirs x) (sym (e ∙ none)) tt)

-- all that were kept are taken
pub all_taken : {T E : Type 0} (r : Result T E) (x : Tables) (inbox : List Message) → OnOk r (inbox ≡ [])
    → OnOk r (AreTheirs x inbox)
all_taken (Ok value) x inbox none = subst (AreTheirs x) (sym none) tt
all_taken (Err error) x inbox none = tt

pub none_left : {S T E : Type 0} (tells : Type 0) (view : S → View) (part : Part) (past : List Round) (r : Result T E)
    (m : ServerNode S) (made : List Step) (came : List Message) (lapses : ℕ) → OnOk r (m.inbox ≡ [])
    → OnOk r (StandsSo tells view part m past made came lapses)
    → OnOk r (StandsSo tells view part m past made (came ++ latest_first m.inbox) lapses)
none_left tells view part past (Ok value) m made came lapses none so =
    subst (λ (l : List Message). StandsSo tells view part m past made (came ++ latest_first l) lapses) (sym none)
    (subst (λ (l : List Message). StandsSo tells view part m past made l lapses) (sym (append-nil came)) so)
none_left tells view part past (Err error) m made came lapses none so = tt
