-- A host's turn: what each of its doings makes of where it stands.
use Rattle.std.proofs.Common.{◌≡◌, inl, inr, ℕ, ◌+◌, ◌<◌, ◌≤◌, ◌==◌, not, Bool, true, false, cond, List}
use Rattle.std.proofs.Common.{[], ◌∷◌, ◌++◌, Option, None, Some, length, slice_get, refl, sym, ap, ◌∙◌, subst, arith}
use Rattle.std.proofs.Common.{eq-eqb}
use Rattle.std.proofs.lemmas.List.{append-nil}
use Rattle.std.specs.Option.{option_and_then}
use Rattle.std.specs.Prelude.{IfOk, IfSome, IsOk, MatchOption, OnOk, Result, Ok, Err, is_some}
use Rattle.base_types.specs.declared.errors.NoMemory.{NoMemory}
use Rattle.base_types.specs.declared.ids.HostId.{HostId}
use Rattle.base_types.specs.declared.ids.Node.{Node}
use Rattle.base_types.specs.declared.ids.Node.TheVariants.{Host}
use Rattle.base_types.specs.declared.ids.ServerId.{ServerId}
use Rattle.host_manager.specs.Due.{EndDue, IsOwn, OwnDue, TakeDue}
use Rattle.host_manager.specs.Spoken.{tables_of}
use Rattle.host_manager.specs.declared.machine.Machine.{Machine}
use Rattle.host_node.proofs.Standing.{after_lapse, after_line, after_message, after_own, can_ask, done_of, is_next}
use Rattle.host_node.proofs.Standing.{node_is, over_of, running, stands_on, to_host}
use Rattle.host_node.specs.Between.{Holds}
use Rattle.host_node.specs.Doing.{DeedRight, DoesLine}
use Rattle.host_node.specs.Standing.{IsInTurn, IsOver, IsPlayable, Stands, StandsSo, WasGiven, host_of}
use Rattle.host_node.specs.declared.between.Between.{Between}
use Rattle.host_node.specs.declared.host.HostNode.{HostNode}
use Rattle.host_manager.specs.Running.{EndRight, IsAskable, IsRunning, LineRight, OwnRight, StopRight, TakeRight}
use Rattle.host_tables.specs.declared.tables.Tables.{Tables}
use Rattle.hub_board.specs.declared.given.Given.{Given}
use Rattle.hub_board.specs.declared.given.Given.TheVariants.{Begun, Raised}
use Rattle.hub_laws.proofs.Ends.{after_more}
use Rattle.hub_laws.specs.Keeping.{Round, is_lapse, lapse_in, message_in, message_of, steps_in}
use Rattle.hub_node.proofs.Keeping.{next_round}
use Rattle.hub_node.proofs.Scripts.{get_below}
use Rattle.hub_node.specs.Lines.{LinesView, may_go, next_of}
use Rattle.hub_node.specs.Nodes.{Beginning, IsDone, Part, part_of}
use Rattle.message_types.specs.Soundness.{IsSound}
use Rattle.message_types.specs.declared.message.Message.{Message}
use Rattle.run_rules.specs.HostDue.{HostDue}
use Rattle.run_rules.specs.HostMay.{DoesLine as DoesDeed, HostMay}
use Rattle.run_rules.specs.Messages.{HasStopped}
use Rattle.run_rules.specs.Past.{In, appended}
use Rattle.run_rules.specs.Plans.{receiver}
use Rattle.run_rules.specs.Steps.{IsNextLine, goes_with, lines_gone, lines_of, servers_of}
use Rattle.run_rules.specs.declared.step.Cause.TheVariants.{Evict, Lapse, Line as LineOf}
use Rattle.run_rules.specs.declared.step.Step.{Step}
use Rattle.script_lines.specs.Sound.{is_stop, same_node}
use Rattle.script_lines.specs.declared.script.Deed.{Deed}
use Rattle.script_lines.specs.declared.script.Deed.TheVariants.{Await, Call, Raise, Restart, Stop}
use Rattle.script_lines.specs.declared.script.Line.{Line}
use Rattle.script_lines.specs.declared.script.Script.{Script}

-- what holds where a result is Ok
pub on_ok : {T E : Type 0} (r : Result T E) (P Q : Type 0) → (P → Q) → OnOk r P → OnOk r Q
on_ok (Ok x) P Q f h = f h
on_ok (Err e) P Q f h = tt

pub at_ok : {T E : Type 0} (r : Result T E) (P : Type 0) → IsOk r → OnOk r P → P
at_ok (Ok x) P is h = h
at_ok (Err e) P is h = let clash : false ≡ true = is in absurd (cc)

pub on_both : {T E : Type 0} (r : Result T E) (P Q R : Type 0) → (P → Q → R) → OnOk r P → OnOk r Q → OnOk r R
on_both (Ok x) P Q R f p q = f p q
on_both (Err e) P Q R f p q = tt

-- what was made was pushed, where that was done
pub pushed : {E T F : Type 0} (r : Result Step E) (done : Result T F) (olds news : List Step) (P : List Step → Type 0)
    → OnOk done (IsOk r) → IfOk r (λ s. OnOk done (news ≡ olds ++ s ∷ [])) → IfOk r (λ s. P (olds ++ s ∷ []))
    → OnOk done (P news)
pushed (Ok s) (Ok u) olds news P is at p = subst P (sym at) p
pushed (Ok s) (Err f) olds news P is at p = tt
pushed (Err e) (Ok u) olds news P is at p = let clash : false ≡ true = is in absurd (cc)
pushed (Err e) (Err f) olds news P is at p = tt

-- the same where nothing may have been made
pub pushed_some : {E T F : Type 0} (r : Result (Option Step) E) (done : Result T F) (olds news : List Step)
    (P : List Step → Type 0) → OnOk done (IsOk r)
    → IfOk r (λ o. MatchOption o (OnOk done (news ≡ olds)) (λ s. OnOk done (news ≡ olds ++ s ∷ [])))
    → IfOk r (λ o. MatchOption o (P olds) (λ s. P (olds ++ s ∷ []))) → OnOk done (P news)
pushed_some (Ok None) (Ok u) olds news P is at p = subst P (sym at) p
pushed_some (Ok (Some s)) (Ok u) olds news P is at p = subst P (sym at) p
pushed_some (Ok o) (Err f) olds news P is at p = tt
pushed_some (Err e) (Ok u) olds news P is at p = let clash : false ≡ true = is in absurd (cc)
pushed_some (Err e) (Err f) olds news P is at p = tt

-- a machine with the same tables is as it was
pub same_tables : (part : Part) (n : HostNode) (past : List Round) (made : List Step) (came : List Message)
    (lapses : ℕ) (new : Machine) → tables_of new ≡ tables_of n.manager → IsInTurn part n past made came lapses
    → IsInTurn part (record n { manager = new }) past made came lapses
same_tables part n past made came lapses new same turn = let so = turn.so in record {
  so = record {
    node = so.node;
    script = so.script;
    kept = so.kept;
    host = (λ e. ap (λ (m : Tables). m.host) same ∙ so.host e);
    runs = (λ e. subst (λ (m : Tables). IsRunning part.run.script m (appended made (steps_in past))) (sym same)
        (so.runs e));
    stopped = so.stopped;
    lines = so.lines;
    gone = so.gone;
    within = so.within;
    told = so.told;
    begun = so.begun;
  };
  none = turn.none;
}

-- the next line is there
pub next_below : (lines : LinesView) (line : Line) → next_of lines ≡ Some line → lines.gone < length lines.lines
next_below lines line is = by_slot (slice_get lines.lines lines.gone) refl is
  where
    by_slot : (o : Option Line) → slice_get lines.lines lines.gone ≡ o
        → option_and_then (λ (l : Line). cond (may_go lines.told l.deed) (Some l) None) o ≡ Some line
        → lines.gone < length lines.lines
    by_slot None e h = absurd (cc)
    by_slot (Some l) e h = get_below lines.lines lines.gone l e

-- what was given is let go
pub let_go : (part : Part) (n : HostNode) (past : List Round) (made : List Step) (came : List Message) (lapses : ℕ)
    → IsInTurn part n past made came lapses → IsInTurn part n past made [] 0
let_go part n past made came lapses turn = record {
  so = stands_on part n past made came lapses turn.so;
  none = turn.none;
}

-- the steps of calls that were answered between turns are handed in, and something was given
pub handed : (part : Part) (n : HostNode) (past : List Round) (made : List Step) (given : Option Given)
    (st : Stands part n past made) (b : Between) → Holds b n.lines.lines (host_of part.node) []
    → IsInTurn part (record n { between = b }) (record { steps = made; given = given } ∷ past) st.waiting
    (message_in given) (lapse_in given)
handed part n past made given st b none =
    let so = st.so in
    let same = after_more made st.waiting (steps_in past) in record {
      so = record {
        node = so.node;
        script = so.script;
        kept = next_round (Unit {0}) part past made st.waiting given so.kept;
        host = so.host;
        runs = (λ e. subst (IsRunning part.run.script (tables_of n.manager)) same (so.runs e));
        stopped = (λ e. subst HasStopped same (so.stopped e));
        lines = so.lines;
        gone = so.gone ∙ ap lines_gone same;
        within = so.within;
        told = (λ flag e. let t = so.told flag e in (t.0, inr t.1, t.2));
        begun = (λ e may. let w = so.begun e may in (w.0, inr w.1, w.2));
      };
      none = none;
    }

-- what waits is kept elsewhere
pub with_room : (part : Part) (n : HostNode) (past : List Round) (made : List Step) (b : Between)
    → ((host : HostId) (steps : List Step) → Holds n.between n.lines.lines host steps
    → Holds b n.lines.lines host steps)
    → Stands part n past made → Stands part (record n { between = b }) past made
with_room part n past made b keeps st = let so = st.so in record {
  waiting = st.waiting;
  holds = keeps (host_of part.node) st.waiting st.holds;
  idle = st.idle;
  so = record {
    node = so.node;
    script = so.script;
    kept = so.kept;
    host = so.host;
    runs = so.runs;
    stopped = so.stopped;
    lines = so.lines;
    gone = so.gone;
    within = so.within;
    told = so.told;
    begun = so.begun;
  };
}

-- so they are by a host that hasn't stopped
pub handed_in : (part : Part) (n : HostNode) (past : List Round) (made : List Step) (given : Option Given)
    → Stands part n past made → n.stopped ≡ false → (b : Between) (r : Result (Unit {0}) NoMemory)
    (news : List Step)
    → ((waiting : List Step) → Holds n.between n.lines.lines (tables_of n.manager).host waiting → OnOk r
    (news ≡ waiting))
    → ((host : HostId) → OnOk r (Holds b n.lines.lines host []))
    → OnOk r (IsInTurn part (record n { between = b }) (record { steps = made; given = given } ∷ past) news
    (message_in given) (lapse_in given))
handed_in part n past made given st live b (Ok u) news all none =
    let holds : Holds n.between n.lines.lines (tables_of n.manager).host st.waiting =
    subst (λ (h : HostId). Holds n.between n.lines.lines h st.waiting) (sym (st.so.host live)) st.holds in
    subst (λ (l : List Step). IsInTurn part (record n { between = b }) (record { steps = made; given = given } ∷ past) l
    (message_in given) (lapse_in given)) (sym (all st.waiting holds))
    (handed part n past made given st b (none (host_of part.node)))
handed_in part n past made given st live b (Err e) news all none = tt

-- one that has stopped has none
pub handed_none : (part : Part) (n : HostNode) (past : List Round) (made : List Step) (given : Option Given)
    → Stands part n past made → n.stopped ≡ true → (news : List Step) → news ≡ []
    → IsInTurn part n (record { steps = made; given = given } ∷ past) news (message_in given) (lapse_in given)
handed_none part n past made given st over news none =
    let waits : st.waiting ≡ [] = st.idle over in
    let holds : Holds n.between n.lines.lines (host_of part.node) [] =
    subst (λ (l : List Step). Holds n.between n.lines.lines (host_of part.node) l) waits st.holds in
    subst (λ (l : List Step). IsInTurn part n (record { steps = made; given = given } ∷ past) l (message_in given)
    (lapse_in given)) (waits ∙ sym none) (handed part n past made given st n.between holds)

-- the round that begins has given it
pub was_given : (past : List Round) (made : List Step) (given : Option Given)
    → IfSome given (WasGiven (record { steps = made; given = given } ∷ past))
was_given past made None = tt
was_given past made (Some given) = (record { steps = made; given = Some given }, inl refl, refl)

-- nothing was given
pub none_of : {A : Type 0} (o : Option A) → is_some o ≡ false → o ≡ None
none_of None e = refl
none_of (Some x) e = absurd (cc)

-- it is done
pub is_done : (part : Part) (n : HostNode) (past : List Round) (made : List Step) → IsInTurn part n past made [] 0
    → made ≡ [] → length n.lines.lines ≤ n.lines.gone → IsOver n → IsDone part.run part.node (steps_in past)
is_done part n past made turn none full over =
    subst (λ (l : List Step). IsDone part.run part.node (appended l (steps_in past))) none
    (done_of part n past made [] 0 turn.so full over)

-- and it isn't where it goes on
pub not_done : (part : Part) (n : HostNode) (past : List Round) (made : List Step) → IsInTurn part n past made [] 0
    → made ≡ [] → (length n.lines.lines ≤ n.lines.gone → IsOver n → ⊥)
    → IsDone part.run part.node (steps_in past) → ⊥
not_done part n past made turn none goes done =
    let over = over_of part n past made [] 0 turn.so
    (subst (λ (l : List Step). IsDone part.run part.node (appended l (steps_in past))) (sym none) done) in
    goes over.0 over.1

-- a turn ends
pub ends : (part : Part) (n : HostNode) (past : List Round) (made : List Step) → IsInTurn part n past made [] 0
    → Stands part n past made
ends part n past made turn = record {
  waiting = [];
  holds = turn.none;
  idle = (λ e. refl);
  so = subst (λ l. StandsSo part n past l [] 0) (sym (append-nil made)) turn.so;
}

pub begun_then : (part : Part) (n : HostNode) (past : List Round) (made : List Step) → IsInTurn part n past made [] 0
    → WasGiven past Begun → IsInTurn part (record n { begun = true }) past made [] 0
begun_then part n past made turn given = let so = turn.so in record {
  so = record {
    node = so.node;
    script = so.script;
    kept = so.kept;
    host = so.host;
    runs = so.runs;
    stopped = so.stopped;
    lines = so.lines;
    gone = so.gone;
    within = so.within;
    told = so.told;
    begun = (λ e may. given);
  };
  none = turn.none;
}

pub told_then : (part : Part) (n : HostNode) (past : List Round) (made : List Step) (flag : List ℕ)
    → IsInTurn part n past made [] 0 → WasGiven past (Raised flag)
    → IsInTurn part (record n { lines = record n.lines { told = Some flag } }) past made [] 0
told_then part n past made flag turn given = let so = turn.so in record {
  so = record {
    node = so.node;
    script = so.script;
    kept = so.kept;
    host = so.host;
    runs = so.runs;
    stopped = so.stopped;
    lines = so.lines;
    gone = so.gone;
    within = so.within;
    told = (λ f e.
        let same : flag ≡ f = cc in
        subst (λ (x : List ℕ). (r : Round) × In r past × (r.given ≡ Some (Raised x))) same given);
    begun = so.begun;
  };
  none = turn.none;
}

module _ (part : Part) (n : HostNode) (past : List Round) (made : List Step) (live : IsOver n → ⊥) where
  abbrev own : List Step
  own = appended made (steps_in past)

  abbrev m : Tables
  m = tables_of n.manager

  abbrev script : Script
  script = part.run.script

  -- it has taken a message
  pub heard : (message : Message) (turn : IsInTurn part n past made (message ∷ []) 0) → IsSound script.roster message
      → same_node (receiver message) part.node ≡ true → (new : Machine) (s : Step)
      → TakeRight m (tables_of new) message s → IsOwn m s → TakeDue m message s
      → IsInTurn part (record n { manager = new }) past (made ++ s ∷ []) [] 0
  heard message turn sound is new s right mine due =
      let so = turn.so in
      let run = running part n past made (message ∷ []) 0 so live in
      let node = node_is part n past made (message ∷ []) 0 so live in
      let to = to_host message m.host (subst (λ (k : Node). same_node (receiver message) k ≡ true) (sym node) is) in
      let r = right script own run sound to.0 to.1 in
      record {
        so = after_message part n past made (message ∷ []) 0 so live new s r.0 mine
            (due script own run sound to.0 to.1) (ap goes_with r.1) message refl r.1;
        none = turn.none;
      }

  pub heard_then : (message : Message) → IsInTurn part n past made (message ∷ []) 0 → IsSound script.roster message
      → same_node (receiver message) part.node ≡ true → (new : Machine) (r : Result Step NoMemory)
      → IfOk r (λ s. TakeRight m (tables_of new) message s) → IfOk r (IsOwn m) → IfOk r (TakeDue m message)
      → IfOk r (λ s. IsInTurn part (record n { manager = new }) past (made ++ s ∷ []) [] 0)
  heard_then message turn sound is new (Ok s) right mine due = heard message turn sound is new s right mine due
  heard_then message turn sound is new (Err e) right mine due = tt

  -- it has sent again what it sent in vain
  pub repeated : (turn : IsInTurn part n past made [] 1) (new : Machine) (s : Step)
      → OwnRight Lapse m (tables_of new) s → IsOwn m s → OwnDue m s
      → IsInTurn part (record n { manager = new }) past (made ++ s ∷ []) [] 0
  repeated turn new s right mine due =
      let so = turn.so in
      let run = running part n past made [] 1 so live in
      let r = right script own run in
      record {
        so = after_lapse part n past made [] 1 so live new s r.0 mine (due script own run)
            (ap goes_with r.1) refl refl r.1;
        none = turn.none;
      }

  pub repeated_then : IsInTurn part n past made [] 1 → (new : Machine) (r : Result Step NoMemory)
      → IfOk r (λ s. OwnRight Lapse m (tables_of new) s) → IfOk r (IsOwn m) → IfOk r (OwnDue m)
      → IfOk r (λ s. IsInTurn part (record n { manager = new }) past (made ++ s ∷ []) [] 0)
  repeated_then turn new (Ok s) right mine due = repeated turn new s right mine due
  repeated_then turn new (Err e) right mine due = tt

  module _ (turn : IsInTurn part n past made [] 0) where
    abbrev so : StandsSo part n past made [] 0
    so = turn.so

    abbrev run : IsRunning script m own
    run = running part n past made [] 0 so live

    pub evicted : (new : Machine) (s : Step) → OwnRight Evict m (tables_of new) s → IsOwn m s → OwnDue m s
        → IsInTurn part (record n { manager = new }) past (made ++ s ∷ []) [] 0
    evicted new s right mine due =
        let r = right script own run in
        record {
          so = after_own part n past made [] 0 so live new s r.0 mine (due script own run) (ap goes_with r.1)
              (ap (λ c. message_of c) r.1)
              (ap (λ c. is_lapse c) r.1);
          none = turn.none;
        }

    pub evicted_then : (new : Machine) (r : Result (Option Step) NoMemory)
        → IfOk r (λ o. MatchOption o (tables_of new ≡ m) (λ s. OwnRight Evict m (tables_of new) s))
        → IfOk r (λ o. IfSome o (IsOwn m)) → IfOk r (λ o. IfSome o (OwnDue m))
        → IfOk r (λ o. MatchOption o (IsInTurn part (record n { manager = new }) past made [] 0)
        (λ s. IsInTurn part (record n { manager = new }) past (made ++ s ∷ []) [] 0))
    evicted_then new (Ok None) right mine due = same_tables part n past made [] 0 new right turn
    evicted_then new (Ok (Some s)) right mine due = evicted new s right mine due
    evicted_then new (Err e) right mine due = tt

    -- its lines have gone, and it has gone on to end
    all_gone : length n.lines.lines ≤ n.lines.gone → lines_gone own ≡ length (lines_of script (Host m.host))
    all_gone full =
        let lines : n.lines.lines ≡ lines_of script (Host m.host) =
        so.lines ∙ sym (ap (lines_of script) (node_is part n past made [] 0 so live)) in
        let size : length n.lines.lines ≡ length (lines_of script (Host m.host)) = ap (λ
        (l : List Line). length l) lines in
        let g = so.gone in let within = so.within in omega arith

    pub ended : length n.lines.lines ≤ n.lines.gone → (new : Machine) (s : Step) → EndRight m (tables_of new) s
        → IsOwn m s → EndDue m s → IsInTurn part (record n { manager = new }) past (made ++ s ∷ []) [] 0
    ended full new s right mine due =
        let r = right script own run (all_gone full) in
        record {
          so = after_own part n past made [] 0 so live new s r.0 mine (due script own run (all_gone full))
              (ap goes_with r.1)
              (ap (λ c. message_of c) r.1)
              (ap (λ c. is_lapse c) r.1);
          none = turn.none;
        }

    pub ended_then : length n.lines.lines ≤ n.lines.gone → (new : Machine) (r : Result (Option Step) NoMemory)
        → IfOk r (λ o. MatchOption o (tables_of new ≡ m) (λ s. EndRight m (tables_of new) s))
        → IfOk r (λ o. IfSome o (IsOwn m)) → IfOk r (λ o. IfSome o (EndDue m))
        → IfOk r (λ o. MatchOption o (IsInTurn part (record n { manager = new }) past made [] 0)
        (λ s. IsInTurn part (record n { manager = new }) past (made ++ s ∷ []) [] 0))
    ended_then full new (Ok None) right mine due = same_tables part n past made [] 0 new right turn
    ended_then full new (Ok (Some s)) right mine due = ended full new s right mine due
    ended_then full new (Err e) right mine due = tt

    -- a line has gone
    module _ (line : Line) (next : next_of n.lines ≡ Some line) (begun : n.begun ≡ true) (new : Machine) (s : Step)
        (does : DoesLine m (tables_of new) line.number line.deed s) (no_restart : line.deed ≡ Restart → ⊥) where
      abbrev slot : IsNextLine (lines_of script (Host m.host)) own line.number line
      slot = (is_next part n past made [] 0 so live line next begun, refl)

      due : HostDue script m.host own s
      due = does.due script own run line slot refl (can_ask part n past made [] 0 so live line next begun)

      abbrev after : Bool → HostNode
      after stops = record n { manager = new; lines = record n.lines { gone = n.lines.gone + 1 }; stopped = stops }

      by_line : (deed : Deed) → line.deed ≡ deed → is_stop deed ≡ false → LineRight m (tables_of new) line.number deed s
          → IsInTurn part (after (is_stop deed)) past (made ++ s ∷ []) [] 0
      by_line deed is no_stop right =
          let r = right script own run line slot is
          (subst (λ d. IsAskable script.roster d) is
          (can_ask part n past made [] 0 so live line next begun)) in
          record {
            so = after_line part n past made [] 0 so live line next begun s r.0.may does.own r.0.sound due r.1 new
                (is_stop deed) (λ e. (r.0.host, r.0.runs)) (λ e. absurd (let clash = sym no_stop ∙ e in (cc)));
            none = turn.none;
          }

      some_server : (capacity : List ℕ) → 1 ≤ length capacity
          → (v : ServerId) × In v (servers_of (record script.roster { capacity = capacity }))
      some_server [] some = absurd (omega (arith, some))
      some_server (c ∷ capacity) some = (record { 0 = 1 }, inl refl)

      -- the line stops the host
      down : HostMay script m.host own s → s.cause ≡ LineOf line.number → line.deed ≡ Stop → HasStopped (s ∷ own)
      down may by is =
          let next_line = may.lines.next line.number by in
          let same : next_line.0 ≡ line =
          some_same (sym next_line.1.0 ∙ slot.0) in
          let deed : next_line.0.deed ≡ Stop = ap (λ (x : Line). x.deed) same ∙ is in
          let does_it : DoesDeed (servers_of script.roster) own s Stop =
          subst (DoesDeed (servers_of script.roster) own s) deed next_line.2 in
          let v = some_server script.roster.capacity run.tidy.some in
          let says = does_it.0 v.0 v.1 in
          (v.0, says.0, says.1, inl says.2)
        where
          some_same : {a b : Line} → Some a ≡ Some b → a ≡ b
          some_same e = cc

      by_stop : line.deed ≡ Stop → StopRight m line.number s → IsInTurn part (after true) past (made ++ s ∷ []) [] 0
      by_stop is right =
          let r = right script own run line slot is in
          record {
            so = after_line part n past made [] 0 so live line next begun s r.0 does.own r.1 due r.2 new true
                (λ e. absurd (cc)) (λ e. down r.0 r.2 is);
            none = turn.none;
          }

      by_deed : (deed : Deed) → line.deed ≡ deed → DeedRight m (tables_of new) line.number deed s
          → IsInTurn part (after (is_stop deed)) past (made ++ s ∷ []) [] 0
      by_deed (Call call) is right = by_line (Call call) is refl right
      by_deed (Raise flag) is right = by_line (Raise flag) is refl right
      by_deed (Await flag) is right = by_line (Await flag) is refl right
      by_deed Stop is right = by_stop is right
      by_deed Restart is right = absurd (no_restart is)

      pub went : IsInTurn part (after (is_stop line.deed)) past (made ++ s ∷ []) [] 0
      went = by_deed line.deed refl does.right

    pub went_then : (line : Line) → next_of n.lines ≡ Some line → n.begun ≡ true → (new : Machine) {E : Type 0}
        (r : Result Step E) → IfOk r (λ s. DoesLine m (tables_of new) line.number line.deed s)
        → (line.deed ≡ Restart → ⊥)
        → IfOk r (λ s. IsInTurn part
        (record n {
          manager = new;
          lines = record n.lines { gone = n.lines.gone + 1 };
          stopped = is_stop line.deed;
        })
        past (made ++ s ∷ []) [] 0)
    went_then line next begun new (Ok s) does no_restart = went line next begun new s does no_restart
    went_then line next begun new (Err e) does no_restart = tt

-- # Before the first turn

pub fresh : (run : Beginning) (host : HostId) (manager : Machine) (between : Between) (own : LinesView) (begun : Bool)
    → IsPlayable run.script → (tables_of manager).host ≡ host → IsRunning run.script (tables_of manager) []
    → own ≡ record { lines = lines_of run.script (Host host); gone = 0; told = None }
    → (begun ≡ true → host.0 ≡ 0) → Holds between own.lines host []
    → Stands (part_of run (Host host))
    (record { manager = manager; lines = own; between = between; begun = begun; stopped = false }) [] []
fresh run host manager between own begun script host_is running lines first none = record {
  waiting = [];
  holds = none;
  idle = (λ e. refl);
  so = record {
    node = refl;
    script = script;
    kept = record {
      steps = tt;
      all_own = (λ s i. absurd i);
      messages = tt;
      lapsed = omega arith;
      meets = (λ t. tt);
    };
    host = (λ e. host_is);
    runs = (λ e. running);
    stopped = (λ e. absurd (cc));
    lines = ap (λ (l : LinesView). l.lines) lines;
    gone = ap (λ (l : LinesView). l.gone) lines;
    within = (let zero : own.gone ≡ 0 = ap (λ (l : LinesView). l.gone) lines in omega arith);
    told = (λ flag e. let none_told : own.told ≡ None = ap (λ (l : LinesView). l.told) lines in absurd (cc));
    begun = (λ e may.
        let zero : host.0 ≡ 0 = first e in
        let is : (host.0 == 0) ≡ true = eq-eqb host.0 0 zero in
        let not_it : not (host.0 == 0) ≡ true = may in absurd (cc));
  };
}
