-- A host goes on: what its machine answers is what a node owes.
use Rattle.std.proofs.Common.{◌≡◌, ◌⊎◌, ⊎_elim, inl, inr, ℕ, zero, ◌+◌, ◌<◌, ◌≤◌, ◌==◌, Bool, true, false, cond}
use Rattle.std.proofs.Common.{List, [], ◌∷◌, ◌++◌, Option, None, Some, length, slice_get, refl, sym, ap, ◌∙◌}
use Rattle.std.proofs.Common.{subst, arith, eq-eqb, eqb-true}
use Rattle.std.specs.Option.{option_and_then}
use Rattle.base_types.specs.Name.{same_name}
use Rattle.base_types.specs.declared.ids.HostId.{HostId}
use Rattle.base_types.specs.declared.ids.Node.{Node}
use Rattle.base_types.specs.declared.ids.Node.TheVariants.{Host, Server}
use Rattle.base_types.specs.declared.ids.ServerId.{ServerId}
use Rattle.host_manager.specs.Due.{IsOwn}
use Rattle.host_manager.specs.Spoken.{tables_of}
use Rattle.host_manager.specs.declared.machine.Machine.{Machine}
use Rattle.host_node.proofs.Sites.{bye_of, parted_of}
use Rattle.host_node.specs.Standing.{IsOver, StandsSo, host_of}
use Rattle.host_node.specs.declared.host.HostNode.{HostNode}
use Rattle.host_tables.specs.Machine.{IsParted}
use Rattle.host_manager.specs.Running.{IsAskable, IsRunning, RunsOn}
use Rattle.host_tables.specs.declared.tables.Tables.{Tables}
use Rattle.hub_board.specs.Follows.{setup_node}
use Rattle.hub_board.specs.Hubs.{may_begin}
use Rattle.hub_laws.proofs.Ends.{after_more}
use Rattle.hub_laws.proofs.Names.{name_same}
use Rattle.hub_laws.specs.Beginnings.{WasBegun}
use Rattle.hub_laws.specs.Keeping.{LineGoes, Round, WasTold, is_lapse, message_of, steps_in}
use Rattle.hub_node.proofs.Keeping.{let_go, push_lapse, push_message, push_own}
use Rattle.hub_node.proofs.Scripts.{get_below, in_get, line_is, line_once}
use Rattle.hub_node.specs.Keeping.{HasKeptOn, StepKeeps}
use Rattle.hub_node.specs.Lines.{may_go, next_of}
use Rattle.hub_node.specs.Nodes.{IsDone, OwnMeets, Part}
use Rattle.message_types.specs.Soundness.{IsSound}
use Rattle.message_types.specs.declared.message.Direction.{Direction}
use Rattle.message_types.specs.declared.message.Direction.TheVariants.{BetweenServers, ToHost, ToServer}
use Rattle.message_types.specs.declared.message.Message.{Message}
use Rattle.run_rules.specs.HostDue.{HostDue}
use Rattle.run_rules.specs.HostMay.{HostMay}
use Rattle.run_rules.specs.Messages.{HasBye, HasGreeted, HasStopped}
use Rattle.run_rules.specs.Past.{In, appended}
use Rattle.run_rules.specs.Plans.{receiver, receiver_by}
use Rattle.run_rules.specs.Runs.{HostIsDone, IsFrom, IsLine}
use Rattle.run_rules.specs.Steps.{goes_with, is_node, lines_gone, lines_of, setup, steps_of_host}
use Rattle.run_rules.specs.declared.step.Cause.TheVariants.{Lapse, Line as LineOf, Message as Came, Restart}
use Rattle.run_rules.specs.declared.step.Step.{Step}
use Rattle.script_lines.specs.Sound.{same_node}
use Rattle.script_lines.specs.declared.script.Deed.{Deed}
use Rattle.script_lines.specs.declared.script.Deed.TheVariants.{Await}
use Rattle.script_lines.specs.declared.script.Line.{Line}
use Rattle.script_lines.specs.declared.script.Script.{Script}

-- # Who it is

same_setup : (node : Node) → node ≡ Host (host_of node) → same_node node setup_node ≡ true → node ≡ Host setup
same_setup (Host h) e is = let zero : h.0 ≡ 0 = eqb-true h.0 0 is in λ i. Host (record { 0 = zero i })
same_setup (Server v) e is = let clash : false ≡ true = is in absurd (cc)

filter_all : (host : HostId) (own : List Step) → ((s : Step) → In s own → s.node ≡ Host host)
    → steps_of_host host own ≡ own
filter_all host [] f = refl
filter_all host (s ∷ own) f =
    let is : is_node s.node (Host host) ≡ true =
    subst (λ (n : Node). is_node n (Host host) ≡ true) (sym (f s (inl refl))) (eq-eqb host.0 host.0 refl) in
    ap (λ b. cond b (s ∷ steps_of_host host own) (steps_of_host host own)) is
    ∙ ap (λ l. s ∷ l) (filter_all host own (λ x i. f x (inr i)))

false_of : (b : Bool) → (b ≡ true → ⊥) → b ≡ false
false_of true f = absurd (f refl)
false_of false f = refl

-- a message that is for a host comes to it
pub to_host : (m : Message) (host : HostId) → same_node (receiver m) (Host host) ≡ true
    → (m.host ≡ host) × (m.direction ≡ ToHost)
to_host m host is = by_way m.direction refl
  where
    by_way : (d : Direction) → m.direction ≡ d → (m.host ≡ host) × (m.direction ≡ ToHost)
    by_way ToHost e =
        let same : (m.host.0 == host.0) ≡ true =
        subst (λ (d : Direction). same_node (receiver_by d m) (Host host) ≡ true) e is in
        let number : m.host.0 ≡ host.0 = eqb-true m.host.0 host.0 same in ((λ i. record { 0 = number i }), e)
    by_way ToServer e =
        let clash : false ≡ true = subst (λ (d : Direction). same_node (receiver_by d m) (Host host) ≡ true) e is in
        absurd (cc)
    by_way BetweenServers e =
        let clash : false ≡ true = subst (λ (d : Direction). same_node (receiver_by d m) (Host host) ≡ true) e is in
        absurd (cc)

-- # A step more

module _ (part : Part) (n : HostNode) (past : List Round) (made : List Step) (came : List Message) (lapses : ℕ)
    (so : StandsSo part n past made came lapses) where
  abbrev own : List Step
  own = appended made (steps_in past)

  abbrev m : Tables
  m = tables_of n.manager

  abbrev script : Script
  script = part.run.script

  module _ (live : IsOver n → ⊥) where
    pub not_stopped : n.stopped ≡ false
    not_stopped = false_of n.stopped (λ e. live (inl e))

    pub running : IsRunning script m own
    running = so.runs not_stopped

    pub host_is : m.host ≡ host_of part.node
    host_is = so.host not_stopped

    pub node_is : Host m.host ≡ part.node
    node_is = ap (λ (h : HostId). Host h) host_is ∙ sym so.node

    -- while it makes steps it isn't done
    not_done : same_node part.node setup_node ≡ true → HostIsDone script setup own → ⊥
    not_done is done =
        let node : part.node ≡ Host setup = same_setup part.node so.node is in
        let all : steps_of_host setup own ≡ own = filter_all setup own (λ s i. so.kept.all_own s i ∙ node) in
        let gone : lines_gone own ≡ length (lines_of script (Host setup)) =
        subst (λ l. lines_gone l ≡ length (lines_of script (Host setup))) all done.0 in
        let lines : n.lines.lines ≡ lines_of script (Host setup) = so.lines ∙ ap (lines_of script) node in
        let size : length n.lines.lines ≡ length (lines_of script (Host setup)) = ap (λ
        (l : List Line). length l) lines in
        let told = so.gone in
        let full : length n.lines.lines ≤ n.lines.gone = omega arith in
        ⊎_elim
        (λ (stopped : HasStopped (steps_of_host setup own)). running.rests.stands.live (subst HasStopped all stopped))
        (λ (f : (v : ServerId) → HasGreeted (steps_of_host setup own) v → HasBye (steps_of_host setup own) v).
        let g : (v : ServerId) → HasGreeted own v → HasBye own v =
        subst (λ l. (v : ServerId) → HasGreeted l v → HasBye l v) all f in
        live (inr (full, parted_of script m own running g)))
        done.1

    step_keeps : (s : Step) → IsOwn m s → ((y : Message) → In y s.sent → IsSound script.roster y)
        → LineGoes (lines_of script part.node) own s
        → ((k : ℕ) (line : Line) (flag : List ℕ) → s.cause ≡ LineOf k → IsLine script part.node k line
        → line.deed ≡ Await flag → WasTold past flag)
        → (may_begin part.node ≡ true → (k : ℕ) → s.cause ≡ LineOf k → WasBegun past)
        → StepKeeps part.run part.node past own s
    step_keeps s mine sound line awaits waits = record {
      own_is = mine.node ∙ node_is;
      line = line;
      awaits = awaits;
      sends = (λ y i. (subst (λ (k : Node). IsFrom k y) node_is (mine.from y i), sound y i));
      waits = waits;
      rests = (λ is done v says. not_done is done);
    }

    meets : (s : Step) → HostMay script m.host own s → HostDue script m.host own s → OwnMeets part.run part.node own s
    meets s may due = subst (λ (k : Node). OwnMeets part.run k own s) node_is (may, due)

    -- ## A step by itself, or by what was given

    module _ (new : Machine) (s : Step) (runs : RunsOn script m (tables_of new) own s) (mine : IsOwn m s)
        (due : HostDue script m.host own s) (no_line : goes_with s.cause ≡ 0) where
      none : (k : ℕ) → s.cause ≡ LineOf k → ⊥
      none k e = let one : goes_with s.cause ≡ 1 = ap goes_with e in omega arith

      none_restarts : (k : ℕ) → s.cause ≡ Restart k → ⊥
      none_restarts k e = let one : goes_with s.cause ≡ 1 = ap goes_with e in omega arith

      keeps : StepKeeps part.run part.node past own s
      keeps = step_keeps s mine runs.sound
          (record {
            line = (λ k e. absurd (none k e));
            restart = (λ k e. absurd (none_restarts k e));
          })
          (λ k line flag e is awaits. absurd (none k e))
          (λ may k e. absurd (none k e))

      same : appended (made ++ s ∷ []) (steps_in past) ≡ s ∷ own
      same = after_more made (s ∷ []) (steps_in past)

      abbrev after : HostNode
      after = record n { manager = new }

      stands_then : (rest : List Message) (less : ℕ) → HasKeptOn (Unit {0}) part past (made ++ s ∷ []) rest less
          → StandsSo part after past (made ++ s ∷ []) rest less
      stands_then rest less kept = record {
        node = so.node;
        script = so.script;
        kept = kept;
        host = (λ e. runs.host ∙ so.host e);
        runs = (λ e. subst (IsRunning script (tables_of new)) (sym same) runs.runs);
        stopped = (λ e. absurd (live (inl e)));
        lines = so.lines;
        gone = (
            let grown : lines_gone (appended (made ++ s ∷ []) (steps_in past)) ≡ goes_with s.cause + lines_gone own =
            ap lines_gone same in
            let g = so.gone in omega arith);
        within = so.within;
        told = so.told;
        begun = so.begun;
      }

      -- by itself
      pub after_own : message_of s.cause ≡ [] → is_lapse s.cause ≡ false
          → StandsSo part after past (made ++ s ∷ []) came lapses
      after_own no_message no_lapse =
          stands_then came lapses
          (push_own (Unit {0}) part past made s keeps (λ t. meets s runs.may due) came lapses no_message no_lapse
          so.kept)

      -- by a message, or a lapse
      pub after_message : (message : Message) → came ≡ message ∷ [] → s.cause ≡ Came message
          → StandsSo part after past (made ++ s ∷ []) [] 0
      after_message message is by =
          stands_then [] 0
          (push_message (Unit {0}) part past made s keeps (λ t. meets s runs.may due) message lapses by
          (subst (λ l. HasKeptOn (Unit {0}) part past made l lapses) is so.kept))

      pub after_lapse : came ≡ [] → lapses ≡ 1 → s.cause ≡ Lapse → StandsSo part after past (made ++ s ∷ []) [] 0
      after_lapse none_came one by =
          stands_then [] 0
          (push_lapse (Unit {0}) part past made s keeps (λ t. meets s runs.may due) by
          (subst (λ k. HasKeptOn (Unit {0}) part past made [] k) one
          (subst (λ l. HasKeptOn (Unit {0}) part past made l lapses) none_came so.kept)))

    -- ## A step of a line

    module _ (line : Line) (next : next_of n.lines ≡ Some line) (begun : n.begun ≡ true) where
      by_slot : (o : Option Line) → slice_get n.lines.lines n.lines.gone ≡ o
          → option_and_then (λ (l : Line). cond (may_go n.lines.told l.deed) (Some l) None) o ≡ Some line
          → (slice_get n.lines.lines n.lines.gone ≡ Some line) × (may_go n.lines.told line.deed ≡ true)
      by_slot None at e = absurd (cc)
      by_slot (Some l) at e = by_test (may_go n.lines.told l.deed) refl e
        where
          by_test : (b : Bool) → may_go n.lines.told l.deed ≡ b → cond b (Some l) None ≡ Some line
              → (slice_get n.lines.lines n.lines.gone ≡ Some line) × (may_go n.lines.told line.deed ≡ true)
          by_test true t e =
              let same : l ≡ line = cc in
              (at ∙ ap (λ (x : Line). Some x) same, subst (λ (x : Line). may_go n.lines.told x.deed ≡ true) same t)
          by_test false t e = absurd (cc)

      slot : (slice_get n.lines.lines n.lines.gone ≡ Some line) × (may_go n.lines.told line.deed ≡ true)
      slot = by_slot (slice_get n.lines.lines n.lines.gone) refl next

      lines_are : n.lines.lines ≡ lines_of script (Host m.host)
      lines_are = so.lines ∙ sym (ap (lines_of script) node_is)

      -- it is the next of its host's lines
      pub is_next : slice_get (lines_of script (Host m.host)) (lines_gone own) ≡ Some line
      is_next = ap (λ l. slice_get l (lines_gone own)) (sym lines_are)
          ∙ ap (slice_get n.lines.lines) (sym so.gone) ∙ slot.0

      line_in : In line (lines_of script (Host m.host))
      line_in = in_get (lines_of script (Host m.host)) (lines_gone own) line is_next

      pub can_ask : IsAskable script.roster line.deed
      can_ask = so.script.askable line (line_is script (Host m.host) line line_in)

      more_lines : n.lines.gone < length n.lines.lines
      more_lines = get_below n.lines.lines n.lines.gone line slot.0

      -- its flag was told
      told_flag : (told : Option (List ℕ)) (flag : List ℕ) → may_go told (Await flag) ≡ true
          → (f : List ℕ) × (told ≡ Some f) × (same_name flag f ≡ true)
      told_flag None flag e = absurd (cc)
      told_flag (Some f) flag e = (f, refl, e)

      awaited : (flag : List ℕ) → line.deed ≡ Await flag → WasTold past flag
      awaited flag deed =
          let t = told_flag n.lines.told flag (subst (λ (d : Deed). may_go n.lines.told d ≡ true) deed slot.1) in
          subst (WasTold past) (sym (name_same flag t.0 t.2)) (so.told t.0 t.1)

      module _ (s : Step) (may : HostMay script m.host own s) (mine : IsOwn m s)
          (sound : (y : Message) → In y s.sent → IsSound script.roster y) (due : HostDue script m.host own s)
          (by : s.cause ≡ LineOf line.number) where
        number_is : (k : ℕ) → s.cause ≡ LineOf k → line.number ≡ k
        number_is k e = let same : LineOf line.number ≡ LineOf k = sym by ∙ e in cc

        line_keeps : StepKeeps part.run part.node past own s
        line_keeps = step_keeps s mine sound
            (record {
              line = (λ k e. (
                line,
                (
                  ap (λ l. slice_get l (lines_gone own)) (ap (lines_of script) (sym node_is)) ∙ is_next,
                  number_is k e,
                ),
              ));
              restart = (λ k e. absurd (let clash : LineOf line.number ≡ Restart k = sym by ∙ e in cc));
            })
            (λ k l flag e is awaits.
            let in_own : In l (lines_of script (Host m.host)) =
            subst (λ (x : Node). In l (lines_of script x)) (sym node_is) is.0 in
            let same : l ≡ line =
            line_once script so.script.sound (Host m.host) l line in_own line_in (is.1 ∙ sym (number_is k e)) in
            awaited flag (ap (λ (x : Line). x.deed) (sym same) ∙ awaits))
            (λ may k e. so.begun begun may)

        kept_then : HasKeptOn (Unit {0}) part past (made ++ s ∷ []) came lapses
        kept_then =
            push_own (Unit {0}) part past made s line_keeps (λ t. meets s may due) came lapses (ap message_of by)
            (ap is_lapse by) so.kept

        line_same : appended (made ++ s ∷ []) (steps_in past) ≡ s ∷ own
        line_same = after_more made (s ∷ []) (steps_in past)

        one_more : lines_gone (appended (made ++ s ∷ []) (steps_in past)) ≡ n.lines.gone + 1
        one_more =
            let g = so.gone in
            let one : lines_gone (s ∷ own) ≡ 1 + lines_gone own = ap (λ c. goes_with c + lines_gone own) by in
            ap lines_gone line_same ∙ one ∙ (omega arith)

        -- it goes
        pub after_line : (new : Machine) (stops : Bool)
            → (stops ≡ false → ((tables_of new).host ≡ m.host) × IsRunning script (tables_of new) (s ∷ own))
            → (stops ≡ true → HasStopped (s ∷ own))
            → StandsSo part
            (record n { manager = new; lines = record n.lines { gone = n.lines.gone + 1 }; stopped = stops })
            past (made ++ s ∷ []) came lapses
        after_line new stops goes ends = record {
          node = so.node;
          script = so.script;
          kept = kept_then;
          host = (λ e. (goes e).0 ∙ host_is);
          runs = (λ e. subst (IsRunning script (tables_of new)) (sym line_same) (goes e).1);
          stopped = (λ e. subst HasStopped (sym line_same) (ends e));
          lines = so.lines;
          gone = sym one_more;
          within = (let more = more_lines in omega arith);
          told = so.told;
          begun = so.begun;
        }

  -- it is done where its lines have gone, and it makes no step any more
  pub done_of : length n.lines.lines ≤ n.lines.gone → IsOver n → IsDone part.run part.node own
  done_of full over =
      let size : length n.lines.lines ≡ length (lines_of script part.node) = ap (λ
      (l : List Line). length l) so.lines in
      let told = so.gone in let within = so.within in
      let gone : lines_gone own ≡ length (lines_of script (Host (host_of part.node))) =
      subst (λ (k : Node). lines_gone own ≡ length (lines_of script k)) so.node (omega arith) in
      subst (λ (k : Node). IsDone part.run k own) (sym so.node) (gone, by_stop n.stopped refl over)
    where
      by_stop : (b : Bool) → n.stopped ≡ b → IsOver n
          → HasStopped own ⊎ ((v : ServerId) → HasGreeted own v → HasBye own v)
      by_stop true e over = inl (so.stopped e)
      by_stop false e over = ⊎_elim
          (λ (stopped : n.stopped ≡ true). absurd (cc))
          (λ (p : (length n.lines.lines ≤ n.lines.gone) × IsParted m.sites).
          inr (bye_of script m own (so.runs e) p.1))
          over

  -- and where it is done they have gone, and it makes none
  pub over_of : IsDone part.run part.node own → (length n.lines.lines ≤ n.lines.gone) × IsOver n
  over_of done =
      let here : IsDone part.run (Host (host_of part.node)) own =
      subst (λ (k : Node). IsDone part.run k own) so.node done in
      let size : length n.lines.lines ≡ length (lines_of script (Host (host_of part.node))) =
      ap (λ (l : List Line). length l) (so.lines ∙ ap (lines_of script) so.node) in
      let told = so.gone in let gone = here.0 in
      let full : length n.lines.lines ≤ n.lines.gone = omega (arith, told, gone, size) in
      (full, by_stop n.stopped refl full here.1)
    where
      by_stop : (b : Bool) → n.stopped ≡ b → length n.lines.lines ≤ n.lines.gone
          → HasStopped own ⊎ ((v : ServerId) → HasGreeted own v → HasBye own v) → IsOver n
      by_stop true e full how = inl e
      by_stop false e full how = ⊎_elim
          (λ (stopped : HasStopped own). absurd ((so.runs e).rests.stands.live stopped))
          (λ (f : (v : ServerId) → HasGreeted own v → HasBye own v).
          inr (full, parted_of script m own (so.runs e) f))
          how

  -- what was given last is let go
  pub stands_on : StandsSo part n past made [] 0
  stands_on = record {
    node = so.node;
    script = so.script;
    kept = let_go (Unit {0}) part past made came lapses so.kept;
    host = so.host;
    runs = so.runs;
    stopped = so.stopped;
    lines = so.lines;
    gone = so.gone;
    within = so.within;
    told = so.told;
    begun = so.begun;
  }
