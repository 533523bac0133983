-- A server goes on: what its machine answers is what a node owes.
use Rattle.std.proofs.Common.{◌≡◌, ◌⊎◌, ⊎_elim, inl, inr, ℕ, ◌+◌, ◌<◌, ◌≤◌, ◌==◌, Bool, true, false, ◌&&◌}
use Rattle.std.proofs.Common.{◌||◌, cond, List, [], ◌∷◌, ◌++◌, Option, None, Some, length, slice_get, refl, sym, ap}
use Rattle.std.proofs.Common.{◌∙◌, subst, arith, eq-eqb, eqb-true}
use Rattle.std.specs.List.{list_all}
use Rattle.std.specs.Option.{option_and_then}
use Rattle.base_types.specs.declared.ids.HostId.{HostId}
use Rattle.base_types.specs.declared.ids.Node.{Node}
use Rattle.base_types.specs.declared.ids.Node.TheVariants.{Server}
use Rattle.base_types.specs.declared.ids.ServerId.{ServerId}
use Rattle.hub_board.specs.Follows.{setup_node}
use Rattle.hub_board.specs.Hubs.{may_begin}
use Rattle.hub_board.specs.declared.given.Given.{Given}
use Rattle.hub_board.specs.declared.given.Given.TheVariants.{Message as CameIn}
use Rattle.hub_laws.proofs.Ends.{after_more}
use Rattle.hub_laws.proofs.Names.{name_same}
use Rattle.hub_laws.specs.Keeping.{LineGoes, Round, WasTold, is_lapse, lapse_in, message_in, message_of, steps_in}
use Rattle.hub_node.proofs.Keeping.{let_go, push_lapse, push_message, push_own}
use Rattle.hub_node.proofs.Scripts.{get_below, in_get, line_once}
use Rattle.hub_node.specs.Keeping.{HasKeptOn, StepKeeps}
use Rattle.hub_node.specs.Lines.{LinesView, may_go, next_of}
use Rattle.hub_node.specs.Nodes.{Beginning, IsDone, IsGivenTo, Knows, OwnMeets, Part}
use Rattle.message_types.specs.Soundness.{IsSound}
use Rattle.message_types.specs.declared.message.Direction.{Direction}
use Rattle.message_types.specs.declared.message.Direction.TheVariants.{ToServer}
use Rattle.message_types.specs.declared.message.Message.{Message}
use Rattle.run_rules.specs.Doings.{Doing, HasGoneAway, Listed, after_step}
use Rattle.run_rules.specs.Past.{In, appended}
use Rattle.run_rules.specs.Plans.{receiver, receiver_by}
use Rattle.run_rules.specs.Runs.{IsFrom, IsLine}
use Rattle.run_rules.specs.Steps.{IsNextLine, goes_with, is_node, lines_gone, lines_of}
use Rattle.run_rules.specs.declared.step.Cause.TheVariants.{Lapse, Line as LineOf, Message as Came, Restart}
use Rattle.run_rules.specs.declared.step.Step.{Step}
use Rattle.run_tokens.specs.ServerRest.{ServerMeets}
use Rattle.script_lines.specs.Sound.{same_node}
use Rattle.script_lines.specs.declared.script.Deed.{Deed}
use Rattle.script_lines.specs.declared.script.Deed.TheVariants.{Await}
use Rattle.script_lines.specs.declared.script.Line.{Line}
use Rattle.script_lines.specs.declared.script.Script.{Script}
use Rattle.server_exporter.specs.Machines.{IsAt, IsSame, Keeps}
use Rattle.server_exporter.specs.Machines.{Says}
use Rattle.server_exporter.specs.declared.exporter.Exporter.{Exporter}
use Rattle.server_exporter.specs.Keeper.{Keeper}
use Rattle.server_node.proofs.Kept.{push_first, round_more}
use Rattle.server_node.specs.Standing.{IsFor, Stands, StandsAt, StandsSo, doings_in, kept_in, latest_first, server_of}
use Rattle.server_node.specs.declared.server.ServerNode.{ServerNode}
use Rattle.server_tables.specs.Listing.{has_host, is_alone}
use Rattle.server_tables.specs.Standing.{HostsStand}
use Rattle.server_tables.specs.declared.hosts.Hosts.{Hosts}
use Rattle.store_memory.specs.Views.{View}
use Rattle.store_state.specs.declared.state.StoreState.{StoreState}

-- # Who it is

node_self : (v : ServerId) → is_node (Server v) (Server v) ≡ true
node_self v = eq-eqb v.0 v.0 refl

no_host : (v : ServerId) → same_node (Server v) setup_node ≡ true → ⊥
no_host v e = let clash : false ≡ true = e in absurd (cc)

-- a message that is for a server comes to it, where a host says it
pub to_server : (m : Message) (server : ServerId) → same_node (receiver m) (Server server) ≡ true
    → m.direction ≡ ToServer → m.server ≡ server
to_server m server is way =
    let same : (m.server.0 == server.0) ≡ true =
    subst (λ (d : Direction). same_node (receiver_by d m) (Server server) ≡ true) way is in
    let number : m.server.0 ≡ server.0 = eqb-true m.server.0 server.0 same in λ i. record { 0 = number i }

-- # The list of hosts

all_in : {A : Type 0} (p : A → Bool) (xs : List A) → list_all p xs ≡ true → (x : A) → In x xs → p x ≡ true
all_in p [] h x i = absurd i
all_in {A} p (y ∷ xs) h x i = by_test (p y) refl h (λ rest k. all_in p xs rest x k)
  where
    by_test : (b : Bool) → p y ≡ b → (b && list_all p xs) ≡ true → (list_all p xs ≡ true → In x xs → p x ≡ true)
        → p x ≡ true
    by_test true e h again = ⊎_elim (λ (same : x ≡ y). ap p same ∙ e) (λ (k : In x xs). again h k) i
    by_test false e h again = absurd (cc)

host_in : (hosts : List HostId) (host : HostId) → has_host hosts host ≡ true → In host hosts
host_in [] host h = absurd (cc)
host_in (x ∷ hosts) host h = by_test (x.0 == host.0) refl h (host_in hosts host)
  where
    by_test : (b : Bool) → (x.0 == host.0) ≡ b → (b || has_host hosts host) ≡ true
        → (has_host hosts host ≡ true → In host hosts) → In host (x ∷ hosts)
    by_test true e h again = let number : x.0 ≡ host.0 = eqb-true x.0 host.0 e in inl (λ i. record { 0 = sym number i })
    by_test false e h again = inr (again h)

alone : (past : List Doing) (x : Hosts) → HostsStand past x → is_alone x ≡ true → (host : HostId) → Listed past host
    → HasGoneAway past host
alone past x stands is host listed =
    stands.away host (host_in x.away host
    (all_in (λ (h : HostId). has_host x.away h) x.listed is host (stands.listed_all host listed)))

all_of : {A : Type 0} (p : A → Bool) (xs : List A) → ((x : A) → In x xs → p x ≡ true) → list_all p xs ≡ true
all_of p [] f = refl
all_of p (x ∷ xs) f =
    ap (λ (b : Bool). b && list_all p xs) (f x (inl refl)) ∙ all_of p xs (λ y i. f y (inr i))

in_host : (hosts : List HostId) (host : HostId) → In host hosts → has_host hosts host ≡ true
in_host [] host i = absurd i
in_host (x ∷ hosts) host i = ⊎_elim
    (λ (e : host ≡ x).
    ap (λ (b : Bool). b || has_host hosts host) (eq-eqb x.0 host.0 (ap (λ (h : HostId). h.0) (sym e))))
    (λ (k : In host hosts). by_test (x.0 == host.0) (in_host hosts host k))
    i
  where
    by_test : (b : Bool) → has_host hosts host ≡ true → (b || has_host hosts host) ≡ true
    by_test true e = refl
    by_test false e = e

is_left : (past : List Doing) (x : Hosts) → HostsStand past x
    → ((host : HostId) → Listed past host → HasGoneAway past host) → is_alone x ≡ true
is_left past x stands away = all_of (λ (h : HostId). has_host x.away h) x.listed
    (λ host i. in_host x.away host (stands.away_all host (away host (stands.listed host i))))

module _ {S : Type 0} (tells : Type 0) (view : S → View) (part : Part) (n : ServerNode S) (past : List Round)
    (made : List Step) (came : List Message) (lapses : ℕ) (state : StoreState)
    (so : StandsAt tells view state part n past made came lapses) where
  abbrev own : List Step
  own = appended made (steps_in past)

  abbrev run : Beginning
  run = part.run

  abbrev script : Script
  script = run.script

  abbrev x : Exporter
  x = n.exporter

  abbrev v : ServerId
  v = x.tables.server

  node_is : Server v ≡ part.node
  node_is = ap (λ (w : ServerId). Server w) so.server ∙ sym so.node

  -- what has to be known is what its store tells
  told_of : Knows tells part.node → tells
  told_of knows = subst (Knows tells) so.node knows

  -- it stands so by the machine's own number
  pub at : tells → IsAt (doings_in run v own) (kept_in run v own) x
  at told = subst (λ (w : ServerId). IsAt (doings_in run w own) (kept_in run w own) x) (sym so.server) (so.at told)

  pub keeps : tells → Keeps x.tables (kept_in run v own) state
  keeps told =
      subst (λ (w : ServerId). Keeps x.tables (kept_in run w own) state) (sym so.server)
      (so.keeps told)

  step_keeps : (s : Step) → Says x.tables s → LineGoes (lines_of script part.node) own s
      → ((k : ℕ) (line : Line) (flag : List ℕ) → s.cause ≡ LineOf k → IsLine script part.node k line
      → line.deed ≡ Await flag → WasTold past flag)
      → StepKeeps run part.node past own s
  step_keeps s says line awaits = record {
    own_is = says.node ∙ node_is;
    line = line;
    awaits = awaits;
    sends = (λ y i. (
      subst (λ (k : Node). IsFrom k y) node_is (says.from y i),
      subst (λ r. IsSound r y) so.roster (says.sound y i),
    ));
    waits = (λ may. let clash : false ≡ true = ap may_begin node_is ∙ may in absurd (cc));
    rests = (λ is. absurd (no_host v (ap (λ (k : Node). same_node k setup_node) node_is ∙ is)));
  }

  meets : (s : Step) → ServerMeets script run.start v own (doings_in run v own) s → OwnMeets run part.node own s
  meets s m = subst (λ (k : Node). OwnMeets run k own s) node_is (m.may, m.due)

  -- its doings go on by a step of its own
  doings_on : (s : Step) → s.node ≡ Server v → after_step s (doings_in run v own) ≡ doings_in run v (s ∷ own)
  doings_on s is =
      let self : is_node s.node (Server v) ≡ true = ap (λ (k : Node). is_node k (Server v)) is ∙ node_self v in
      sym (ap (λ b. cond b (after_step s (doings_in run v own)) (doings_in run v own)) self)

  module _ (y : Exporter) (keeper : Keeper S) (next : StoreState) (s : Step) (says : Says x.tables s)
      (same : IsSame x y)
      (lines : LinesView) where
    abbrev after : ServerNode S
    after = record n { exporter = y; keeper = keeper; lines = lines }

    grown : appended (made ++ s ∷ []) (steps_in past) ≡ s ∷ own
    grown = after_more made (s ∷ []) (steps_in past)

    -- where the machine has gone on, the node has
    pub stands_then : (rest : List Message) (less : ℕ) → HasKeptOn tells part past (made ++ s ∷ []) rest less
        → (tells → IsAt (after_step s (doings_in run v own)) (kept_in run v (s ∷ own)) y)
        → (tells → Keeps y.tables (kept_in run v (s ∷ own)) next)
        → lines.lines ≡ n.lines.lines → lines.gone ≡ goes_with s.cause + n.lines.gone
        → lines.gone ≤ length lines.lines → ((flag : List ℕ) → lines.told ≡ Some flag → WasTold past flag)
        → StandsAt tells view next part after past (made ++ s ∷ []) rest less
    stands_then rest less kept at_then keeps_then lines_same gone within told = record {
      node = so.node;
      server = same.server ∙ so.server;
      roster = same.roster ∙ so.roster;
      script = so.script;
      kept = kept;
      at = (λ t.
          let now : IsAt (doings_in run v (s ∷ own)) (kept_in run v (s ∷ own)) y =
          subst (λ d. IsAt d (kept_in run v (s ∷ own)) y) (doings_on s says.node) (at_then t) in
          let here : IsAt (doings_in run (server_of part.node) (s ∷ own))
          (kept_in run (server_of part.node) (s ∷ own)) y =
          subst (λ (w : ServerId). IsAt (doings_in run w (s ∷ own)) (kept_in run w (s ∷ own)) y) so.server now in
          subst (λ l. IsAt (doings_in run (server_of part.node) l) (kept_in run (server_of part.node) l) y)
          (sym grown) here);
      keeps = (λ t.
          let here : Keeps y.tables (kept_in run (server_of part.node) (s ∷ own)) next =
          subst (λ (w : ServerId). Keeps y.tables (kept_in run w (s ∷ own)) next) so.server
          (keeps_then t) in
          subst (λ l. Keeps y.tables (kept_in run (server_of part.node) l) next) (sym grown) here);
      lines = lines_same ∙ so.lines;
      gone = gone ∙ ap (λ k. goes_with s.cause + k) so.gone ∙ sym (ap lines_gone grown);
      within = within;
      told = told;
    }

  -- ## A step that is no line's

  module _ (y : Exporter) (keeper : Keeper S) (next : StoreState) (s : Step) (says : Says x.tables s)
      (same : IsSame x y)
      (no_line : goes_with s.cause ≡ 0)
      (meet : tells → ServerMeets script run.start v own (doings_in run v own) s)
      (at_then : tells → IsAt (after_step s (doings_in run v own)) (kept_in run v (s ∷ own)) y)
      (keeps_then : tells → Keeps y.tables (kept_in run v (s ∷ own)) next) where
    none : (k : ℕ) → s.cause ≡ LineOf k → ⊥
    none k e = let one : goes_with s.cause ≡ 1 = ap goes_with e in omega arith

    none_restarts : (k : ℕ) → s.cause ≡ Restart k → ⊥
    none_restarts k e = let one : goes_with s.cause ≡ 1 = ap goes_with e in omega arith

    keeps_to : StepKeeps run part.node past own s
    keeps_to = step_keeps s says
        (record {
          line = (λ k e. absurd (none k e));
          restart = (λ k e. absurd (none_restarts k e));
        })
        (λ k line flag e is awaits. absurd (none k e))

    abbrev after_it : ServerNode S
    after_it = record n { exporter = y; keeper = keeper }

    plain : (rest : List Message) (less : ℕ) → HasKeptOn tells part past (made ++ s ∷ []) rest less
        → StandsAt tells view next part after_it past (made ++ s ∷ []) rest less
    plain rest less kept =
        stands_then y keeper next s says same n.lines rest less kept at_then keeps_then refl
        (omega arith) so.within so.told

    pub after_own : message_of s.cause ≡ [] → is_lapse s.cause ≡ false
        → StandsAt tells view next part after_it past (made ++ s ∷ []) came lapses
    after_own no_message no_lapse =
        plain came lapses
        (push_own tells part past made s keeps_to (λ t. meets s (meet (told_of t))) came lapses
        no_message no_lapse so.kept)

    pub after_message : (message : Message) → came ≡ message ∷ [] → s.cause ≡ Came message
        → StandsAt tells view next part after_it past (made ++ s ∷ []) [] 0
    after_message message is by =
        plain [] 0
        (push_message tells part past made s keeps_to (λ t. meets s (meet (told_of t))) message lapses by
        (subst (λ l. HasKeptOn tells part past made l lapses) is so.kept))

    -- by the oldest message that may be taken still
    pub after_first : (message : Message) (rest : List Message) → came ≡ rest ++ message ∷ [] → s.cause ≡ Came message
        → StandsAt tells view next part after_it past (made ++ s ∷ []) rest lapses
    after_first message rest is by =
        plain rest lapses
        (push_first tells part past made s keeps_to (λ t. meets s (meet (told_of t))) message rest lapses by
        (subst (λ l. HasKeptOn tells part past made l lapses) is so.kept))

    pub after_lapse : came ≡ [] → lapses ≡ 1 → s.cause ≡ Lapse
        → StandsAt tells view next part after_it past (made ++ s ∷ []) [] 0
    after_lapse none_came one by =
        plain [] 0
        (push_lapse tells part past made s keeps_to (λ t. meets s (meet (told_of t))) by
        (subst (λ k. HasKeptOn tells part past made [] k) one
        (subst (λ l. HasKeptOn tells part past made l lapses) none_came so.kept)))

  -- ## A step of a line

  module _ (line : Line) (next : next_of n.lines ≡ Some line) where
    by_slot : (o : Option Line) → slice_get n.lines.lines n.lines.gone ≡ o
        → option_and_then (λ (l : Line). cond (may_go n.lines.told l.deed) (Some l) None) o ≡ Some line
        → (slice_get n.lines.lines n.lines.gone ≡ Some line) × (may_go n.lines.told line.deed ≡ true)
    by_slot None e h = absurd (cc)
    by_slot (Some l) e h = by_test (may_go n.lines.told l.deed) refl h
      where
        by_test : (b : Bool) → may_go n.lines.told l.deed ≡ b → cond b (Some l) None ≡ Some line
            → (slice_get n.lines.lines n.lines.gone ≡ Some line) × (may_go n.lines.told line.deed ≡ true)
        by_test true t h =
            let is : l ≡ line = cc in
            (e ∙ ap (λ (z : Line). Some z) is, subst (λ (z : Line). may_go n.lines.told z.deed ≡ true) is t)
        by_test false t h = absurd (cc)

    slot : (slice_get n.lines.lines n.lines.gone ≡ Some line) × (may_go n.lines.told line.deed ≡ true)
    slot = by_slot (slice_get n.lines.lines n.lines.gone) refl next

    lines_are : n.lines.lines ≡ lines_of script (Server v)
    lines_are = so.lines ∙ sym (ap (lines_of script) node_is)

    -- it is the next of its server's lines
    pub is_next : IsNextLine (lines_of script (Server v)) own line.number line
    is_next = (
      ap (λ l. slice_get l (lines_gone own)) (sym lines_are) ∙ ap (slice_get n.lines.lines) (sym so.gone) ∙ slot.0,
      refl,
    )

    pub next_here : IsNextLine (lines_of script part.node) own line.number line
    next_here = subst (λ (k : Node). IsNextLine (lines_of script k) own line.number line) node_is is_next

    line_in : In line (lines_of script (Server v))
    line_in = in_get (lines_of script (Server v)) (lines_gone own) line is_next.0

    more_lines : n.lines.gone < length n.lines.lines
    more_lines = get_below n.lines.lines n.lines.gone line slot.0

    told_flag : (told : Option (List ℕ)) (flag : List ℕ) → may_go told (Await flag) ≡ true
        → (f : List ℕ) × (told ≡ Some f) × (may_go (Some f) (Await flag) ≡ true)
    told_flag None flag e = absurd (cc)
    told_flag (Some f) flag e = (f, refl, e)

    awaited : (flag : List ℕ) → line.deed ≡ Await flag → WasTold past flag
    awaited flag deed =
        let t = told_flag n.lines.told flag (subst (λ (d : Deed). may_go n.lines.told d ≡ true) deed slot.1) in
        subst (WasTold past) (sym (name_same flag t.0 t.2)) (so.told t.0 t.1)

    module _ (y : Exporter) (keeper : Keeper S) (later : StoreState) (s : Step) (says : Says x.tables s)
        (same : IsSame x y)
        (meet : tells → ServerMeets script run.start v own (doings_in run v own) s)
        (at_then : tells → IsAt (after_step s (doings_in run v own)) (kept_in run v (s ∷ own)) y)
        (keeps_then : tells → Keeps y.tables (kept_in run v (s ∷ own)) later)
        (goes : LineGoes (lines_of script part.node) own s)
        (number : (k : ℕ) → s.cause ≡ LineOf k → line.number ≡ k)
        (one : goes_with s.cause ≡ 1) (no_message : message_of s.cause ≡ []) (no_lapse : is_lapse s.cause ≡ false) where
      line_keeps : StepKeeps run part.node past own s
      line_keeps = step_keeps s says goes (λ k l flag e is awaits.
          let in_own : In l (lines_of script (Server v)) =
          subst (λ (z : Node). In l (lines_of script z)) (sym node_is) is.0 in
          let equal : l ≡ line = line_once script so.script (Server v) l line in_own line_in
          (is.1 ∙ sym (number k e)) in
          awaited flag (ap (λ (z : Line). z.deed) (sym equal) ∙ awaits))

      pub after_line : StandsAt tells view later part
          (record n { exporter = y; keeper = keeper; lines = record n.lines { gone = n.lines.gone + 1 } })
          past (made ++ s ∷ []) came lapses
      after_line =
          stands_then y keeper later s says same (record n.lines { gone = n.lines.gone + 1 }) came lapses
          (push_own tells part past made s line_keeps (λ t. meets s (meet (told_of t))) came
          lapses no_message no_lapse so.kept)
          at_then keeps_then refl (omega arith) (let more = more_lines in omega arith) so.told

  -- what its inbox has is no part of it
  pub inbox_aside : (inbox : List Message) → StandsAt tells view state part (record n { inbox = inbox }) past made
      came lapses
  inbox_aside inbox = record {
    node = so.node;
    server = so.server;
    roster = so.roster;
    script = so.script;
    kept = so.kept;
    at = so.at;
    keeps = so.keeps;
    lines = so.lines;
    gone = so.gone;
    within = so.within;
    told = so.told;
  }

  -- what was given last is let go
  pub stands_on : StandsAt tells view state part n past made [] 0
  stands_on = record {
    node = so.node;
    server = so.server;
    roster = so.roster;
    script = so.script;
    kept = let_go tells part past made came lapses so.kept;
    at = so.at;
    keeps = so.keeps;
    lines = so.lines;
    gone = so.gone;
    within = so.within;
    told = so.told;
  }

  -- it is done where its lines have gone, and each host on its list is away
  pub done_of : Knows tells part.node → length n.lines.lines ≤ n.lines.gone → is_alone x.tables.hosts ≡ true
      → IsDone run part.node own
  done_of knows full is =
      let size : length n.lines.lines ≡ length (lines_of script part.node) =
      ap (λ (l : List Line). length l) so.lines in
      let g = so.gone in let within = so.within in
      let gone : lines_gone own ≡ length (lines_of script (Server (server_of part.node))) =
      subst (λ (k : Node). lines_gone own ≡ length (lines_of script k)) so.node (omega arith) in
      subst (λ (k : Node). IsDone run k own) (sym so.node)
      (gone, alone (doings_in run (server_of part.node) own) x.tables.hosts (so.at (told_of knows)).tables.hosts is)

  -- and where it is done they have gone, and each is
  pub left_of : Knows tells part.node → IsDone part.run part.node own
      → (length n.lines.lines ≤ n.lines.gone) × (is_alone x.tables.hosts ≡ true)
  left_of knows done =
      let here : IsDone run (Server (server_of part.node)) own =
      subst (λ (k : Node). IsDone run k own) so.node done in
      let size : length n.lines.lines ≡ length (lines_of script (Server (server_of part.node))) =
      ap (λ (l : List Line). length l) (so.lines ∙ ap (lines_of script) so.node) in
      let g = so.gone in let gone = here.0 in (
        omega (arith, g, gone, size),
        is_left (doings_in run (server_of part.node) own) x.tables.hosts (so.at (told_of knows)).tables.hosts here.1,
      )

-- # A turn begins

pub begins : {S : Type 0} (tells : Type 0) (view : S → View) (part : Part) (n : ServerNode S) (past : List Round)
    (made : List Step) (given : Option Given) → Stands tells view part n past made
    → StandsSo tells view part n (record { steps = made; given = given } ∷ past) []
    (message_in given ++ latest_first n.inbox) (lapse_in given)
begins tells view part n past made given st =
    let so = st.so in record {
      node = so.node;
      server = so.server;
      roster = so.roster;
      script = so.script;
      kept = round_more tells part past made given (latest_first n.inbox) so.kept;
      at = so.at;
      keeps = so.keeps;
      lines = so.lines;
      gone = so.gone;
      within = so.within;
      told = (λ flag e. let t = so.told flag e in (t.0, inr t.1, t.2));
    }

-- what is given to its part is for its machine
pub given_for : {S : Type 0} (tells : Type 0) (view : S → View) (part : Part) (n : ServerNode S) (past : List Round)
    (made : List Step) (came : List Message) (lapses : ℕ) → StandsSo tells view part n past made came lapses
    → (given : Given) → IsGivenTo part (Some given) → IsFor n.exporter.tables given
given_for tells view part n past made came lapses so given to m e =
    let is : Some given ≡ Some (CameIn m) = ap (λ (g : Given). Some g) e in
    let node : part.node ≡ Server n.exporter.tables.server =
    so.node ∙ ap (λ (w : ServerId). Server w) (sym so.server) in (
      subst (λ r. IsSound r m) (sym so.roster) (to.sound m is),
      subst (λ (k : Node). same_node (receiver m) k ≡ true) node (to.own m is),
    )
